-- Checks, of which the first refusal ends those after it.
use Rattle.std.specs.Prelude.{Bool, if◌then◌else◌, Result, Ok, Err, ⊤}
use Rattle.ts_checker.specs.declared.fault.CheckFault.{CheckFault}

-- the refusal, if a test doesn't hold
abbrev pub unless_refused : Bool → CheckFault → Result ⊤ CheckFault
unless_refused test e = if test then Ok tt else Err e
