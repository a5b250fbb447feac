-- Scripts with procedures whose names pass.
use Rattle.std.specs.Prelude.{◌≡◌, Result, Ok, Err}
use Rattle.ts_trees.specs.Seen.{procedure_source_of}
use Rattle.ts_trees.specs.Tree.{ProcedureSource}
use Rattle.ts_proc_names.specs.declared.fault.ProcFault.{ProcFault}
use Rattle.ts_proc_names.specs.declared.named.PScript.{PScript}
use Rattle.ts_proc_names.specs.NameFaults.{name_fault}
use Rattle.ts_proc_names.specs.Passing.{IsRefusal}

-- what it is written as
abbrev pub written_of : PScript → ProcedureSource
written_of s = procedure_source_of s.script

-- the answer is the script itself, or the first refusal of a name in it
abbrev pub IsNamedScript : ProcedureSource → Result PScript ProcFault → Type 0
IsNamedScript source (Ok script) = written_of script ≡ source
IsNamedScript source (Err fault) = IsRefusal fault (name_fault source)
