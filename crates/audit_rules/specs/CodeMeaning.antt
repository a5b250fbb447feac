-- What programs mean by the code that they have.
use Rattle.std.specs.Prelude.{Bool, List, [], ◌∷◌, ◌++◌, map, Option, None, Some, option_to_list}
use Rattle.std.specs.List.{list_any}
use Rattle.lock_manager.specs.Conflict.{conflicts_at}
use Rattle.mate_num.specs.Uses.{function_shape}
use Rattle.mate_num.specs.declared.resource.Resource.{Resource}
use Rattle.mate_num.specs.declared.resource.Resource.TheVariants.{Buffer, Device}
use Rattle.mate_num.specs.declared.shape.FunShape.{FunShape}
use Rattle.mate_num.specs.declared.shape.Shape.{Shape}
use Rattle.mate_code.specs.CodeUses.{uses_of, use_of}
use Rattle.mate_code.specs.declared.uses.Use.{Use}
use Rattle.mate_code.specs.declared.uses.Use.TheVariants.{Nothing, Gets, Changes, Calls, Sends}
use Rattle.mate_code.specs.Run.{Code, code_run, next_mark, code_after}
use Rattle.mate_journal.specs.Machine.{HeldProgram, Meaning}
use Rattle.audit_rules.specs.Granting.{ConflictTest}

-- the code of a program
abbrev pub CodeOf : Type 0
CodeOf = HeldProgram → Code

abbrev pub meaning_with : Shape → CodeOf → Meaning
meaning_with shape code = record {
  run = λ p store payload answers turns. code_run shape (code p) store payload answers turns;
  uses = λ p. uses_of shape (code p);
  mark = λ p store payload answers turns. next_mark shape (code p) store payload answers turns;
  after = λ n p store payload answers turns. code_after n shape (code p) store payload answers turns;
}

-- the device that a function speaks to, as a resource, if there is one
abbrev pub device_cells : Option FunShape → List Resource
device_cells None = []
device_cells (Some f) = map Device (option_to_list f.device)

-- the resources that an instruction names
abbrev pub named_by : Shape → Use → List Resource
named_by shape Nothing = []
named_by shape (Gets r) = r ∷ []
named_by shape (Changes r) = r ∷ []
named_by shape (Calls f) = device_cells (function_shape shape f)
named_by shape (Sends f b) = Buffer b ∷ device_cells (function_shape shape f)

-- the resources that code names
abbrev pub named_in : Shape → Code → List Resource
named_in shape [] = []
named_in shape (p ∷ code) = named_by shape (use_of p.1) ++ named_in shape code

-- whether two pieces of code conflict, at a resource that one of them names
abbrev pub code_conflict : Shape → Code → Code → Bool
code_conflict shape p q = list_any (conflicts_at (uses_of shape p) (uses_of shape q)) (named_in shape p ++ named_in shape q)

abbrev pub conflict_with : Shape → CodeOf → ConflictTest
conflict_with shape code p q = code_conflict shape (code p) (code q)
