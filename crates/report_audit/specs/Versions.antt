-- The versions that are installed, by the number of their handler.
use Rattle.std.specs.Prelude.{◌≡◌, ◌<◌, ℕ, List, length, slice_index_or}
use Rattle.mate_num.specs.declared.bounds.TheConstants.{HANDLERS_MAX}
use Rattle.mate_num.specs.declared.id.HandlerId.{HandlerId}
use Rattle.audit_rules.specs.Roll.{Roll}
use Rattle.audit_rules.specs.Tests.{version_installed}

-- the list has the version of each of 8 handlers, 0 for none
pub record HasVersions (held : List ℕ) (x : Roll) : Type 0 where
  pub places : length held ≡ HANDLERS_MAX
  pub each : (h : HandlerId) → h.0 < HANDLERS_MAX → slice_index_or held h.0 0 ≡ version_installed (x.installed h)
