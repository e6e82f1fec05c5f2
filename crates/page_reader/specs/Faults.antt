-- The rules of the page form by their numbers (this project's own page form).
use Rattle.std.specs.Prelude.{ℕ}
use Rattle.page_reader.specs.declared.fault.PageRule.{PageRule}
use Rattle.page_reader.specs.declared.fault.PageRule.TheVariants.{TooLong, NotUtf8, BadTag, BadAttribute, BadReference, Unclosed, Mismatch, RootCount, Nesting, TwiceNamed}
use Rattle.page_reader.specs.declared.fault.PageFault.{PageFault}
use Rattle.page_reader.specs.declared.fault.PageFault.TheVariants as faults
use Rattle.page_reader.specs.declared.fault.ReadError.{ReadError}
use Rattle.page_reader.specs.declared.fault.ReadError.TheVariants as errors

-- the number of a rule
abbrev pub rule_number : PageRule → ℕ
rule_number TooLong = 1
rule_number NotUtf8 = 2
rule_number BadTag = 3
rule_number BadAttribute = 4
rule_number BadReference = 5
rule_number Unclosed = 6
rule_number Mismatch = 7
rule_number RootCount = 8
rule_number Nesting = 9
rule_number TwiceNamed = 10

-- what is answered where the reading ends so
abbrev pub fault_of : ReadError → PageFault
fault_of errors.Memory = faults.NoMemory
fault_of (errors.Page f) = faults.Rule (rule_number f.rule) f.at
