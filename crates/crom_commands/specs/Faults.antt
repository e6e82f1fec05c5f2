-- The status of a page that isn't loaded.
use Rattle.page_reader.specs.declared.fault.PageFault.TheVariants as page
use Rattle.page_loading.specs.declared.fault.LoadFault.{LoadFault}
use Rattle.page_loading.specs.declared.fault.LoadFault.TheVariants as load
use Rattle.crom_commands.specs.declared.status.Status.{Status}
use Rattle.crom_commands.specs.declared.status.Status.TheVariants as status

-- the status of a run whose page wasn't read
abbrev pub status_of : LoadFault → Status
status_of (load.Page (page.Rule number at)) = status.Page (page.Rule number at)
status_of (load.Page page.NoMemory) = status.NoMemory
status_of (load.Script index fault) = status.Script index fault
status_of load.NoMemory = status.NoMemory
