-- How an answer of the program says which name is refused first.
use Rattle.std.specs.Prelude.{◌≡◌, Option, Some, None, Result, Ok, Err, ⊤}
use Rattle.ts_proc_names.specs.declared.fault.ProcFault.{ProcFault}
use Rattle.ts_proc_names.specs.declared.fault.ProcFault.TheVariants.{NoMemory}

-- the part refuses with this fault; lack of memory says nothing of it
abbrev pub IsRefusal : ProcFault → Option ProcFault → Type 0
IsRefusal NoMemory part = ⊤
IsRefusal fault part = part ≡ Some fault

-- the answer is that nothing of the part is refused, or its first refusal, or lack of memory
abbrev pub NamesPass : {A : Type 0} → Result A ProcFault → Option ProcFault → Type 0
NamesPass (Ok _) part = part ≡ None
NamesPass (Err fault) part = IsRefusal fault part
