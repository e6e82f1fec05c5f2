-- The settings whose bounds are the defaults.
use Rattle.std.proofs.Common.{◌≡◌, pos, []}
use Rattle.page_units.specs.declared.limits.Limit.{Limit}
use Rattle.page_units.specs.declared.limits.Limits.{Limits}
use Rattle.page_units.specs.Limits.{default_limit}
use Rattle.page_units.specs.LimitsOf.{number_of}
use Rattle.crom_host.specs.Plain.{settings_of, default_settings}

-- Where each number is its default, so are the settings.
pub default_so : (limits : Limits) → ((limit : Limit) → number_of limits limit ≡ default_limit limit) → settings_of limits ≡ default_settings
default_so limits same = λ k. record { limits = λ limit. same limit k; moment = pos 0; codes = 0; address = [] }
