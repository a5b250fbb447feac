-- What a source's bytes are for a machine, as an answer of the program.
use Rattle.std.specs.Prelude.{ℕ, List, Result, Ok, Err}
use Rattle.vm_shape.specs.declared.description.Description.{Description}
use Rattle.ts_checked.specs.Checked.{ScriptTree}
use Rattle.ts_trees.specs.Cut.{bad_byte, big_literal}
use Rattle.ts_parser.specs.declared.fault.SourceFault.{SourceFault}
use Rattle.ts_parser.specs.declared.fault.SourceFault.TheVariants as fault
use Rattle.ts_checker.specs.Accepted.{IsAccepted, IsRefusedBy, by_bytes, unexpected, too_deep, by_check}
use Rattle.ts_checker.specs.declared.fault.CheckFault.{CheckFault}
use Rattle.ts_checker.specs.declared.fault.CheckFault.TheVariants as check
use Rattle.command_steps.specs.declared.refusal.SourceRefusal.{SourceRefusal}
use Rattle.command_steps.specs.declared.refusal.SourceRefusal.TheVariants.{Spelling, Meaning}

-- the bytes are refused for their spelling
abbrev pub IsMisspelt : Description → List ℕ → SourceFault → Type 0
IsMisspelt d bytes (fault.BadByte place) = IsRefusedBy d bytes (by_bytes (bad_byte place))
IsMisspelt d bytes (fault.BigLiteral place) = IsRefusedBy d bytes (by_bytes (big_literal place))
IsMisspelt d bytes (fault.Unexpected place) = IsRefusedBy d bytes (unexpected place)
IsMisspelt d bytes (fault.TooDeep place) = IsRefusedBy d bytes (too_deep place)
IsMisspelt d bytes fault.NoMemory = Unit {0}

-- the bytes spell a script that the checks refuse
abbrev pub IsUnmeant : Description → List ℕ → CheckFault → Type 0
IsUnmeant d bytes check.NoMemory = Unit {0}
IsUnmeant d bytes f = IsRefusedBy d bytes (by_check f)

abbrev pub IsRefused : Description → List ℕ → SourceRefusal → Type 0
IsRefused d bytes (Spelling f) = IsMisspelt d bytes f
IsRefused d bytes (Meaning f) = IsUnmeant d bytes f

-- the bytes are accepted, with the tree that they mean, or this is the first refusal of them
abbrev pub TellsAcceptance : Description → List ℕ → Result ScriptTree SourceRefusal → Type 0
TellsAcceptance d bytes (Ok c) = IsAccepted d bytes c.tree
TellsAcceptance d bytes (Err r) = IsRefused d bytes r
