-- What is made of what was read: the same tokens are left, and reading stops where it stopped.
use Rattle.std.specs.Prelude.{◌≡◌, List, [], ◌∷◌, ◌++◌, Result, Ok, Err}
use Rattle.std.proofs.Common.{Bor}
use Rattle.std.specs.Result.{IsErrAnd}
use Rattle.ts_trees.specs.declared.halt.Halt.{Halt}
use Rattle.ts_trees.specs.declared.halt.Halt.TheVariants as halt
use Rattle.ts_trees.specs.declared.stmt.Stmt.{Stmt}
use Rattle.ts_trees.specs.declared.token.Token.{Token}
use Rattle.ts_trees.specs.Machine.{Frame, State, block}
use Rattle.ts_trees.specs.Parsing.{reads}
use Rattle.ts_trees.specs.Seen.{acts_of}
use Rattle.ts_trees.specs.Spelling.{kinds}
use Rattle.ts_trees.specs.Tree.{Acts}

-- the statement of a part behind others, if there was memory for it
abbrev pub Appended : {X : Type 0} → (X → Stmt) → List Stmt → List Stmt → Result (X × Bor (List Token)) Halt → Result (Bor (List Token)) Halt → Type 0
Appended make old new (Ok x) (Ok rest) = (new ≡ old ++ make x.0 ∷ []) × (rest.now ≡ x.1.now)
Appended make old new (Ok x) (Err e) = e ≡ halt.Memory
Appended make old new (Err e) r = IsErrAnd r (λ f. f ≡ e)

-- a statement is read from where it is due, after those of an open block to which it is appended
abbrev pub ReadsOnto : {K : Type 0} → (K → Frame) → List Token → (Acts → Frame → State) → List Stmt → List Stmt → Result (Bor (List Token)) Halt → Type 0
ReadsOnto {K} frame tokens due old new (Ok rest) = (k : K) → reads tokens (due (acts_of old) (frame k)) ≡ reads rest.now (block (acts_of new) (frame k))
ReadsOnto {K} frame tokens due old new (Err halt.Memory) = Unit {0}
ReadsOnto {K} frame tokens due old new (Err (halt.At rest)) = (k : K) → reads tokens (due (acts_of old) (frame k)) ≡ Err (kinds rest.now)
