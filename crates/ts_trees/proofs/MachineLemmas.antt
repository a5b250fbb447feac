-- The parts of the machine's law.
use Rattle.std.proofs.Common.{◌≡◌, ℕ, List, [], ◌∷◌, ◌++◌, Ok, refl, sym, ◌∙◌, ap, subst}
use Rattle.ts_trees.specs.declared.dialect.Dialect.{Dialect}
use Rattle.ts_trees.specs.declared.token.TokenKind.{TokenKind}
use Rattle.ts_trees.specs.Tree.{ProcedureSource}
use Rattle.ts_trees.specs.Spelling.{procedure_source_spelled, procedure_source_places}
use Rattle.ts_trees.specs.Derived.{IsDerivedIn}
use Rattle.ts_trees.specs.Machine.{run, start}
use Rattle.ts_trees.specs.Answers.{IsTakenWhole}
use Rattle.ts_trees.proofs.Placed.{source_left, source_placed}
use Rattle.ts_trees.proofs.Places.{IsMore, source_takes}
use Rattle.ts_trees.proofs.CompleteStmt.{source_read}
use Rattle.ts_trees.proofs.Exact.{Reads, read_is_script, whole, whole_same, left_same}

pub taken : (d : Dialect) (s : ProcedureSource) (places : List ℕ) → IsDerivedIn d s → IsTakenWhole d (procedure_source_spelled s) places
taken l s ps d = record { source = source_placed s ps; left = source_left s ps; reads = source_read l s d ps }

pub read_derived : (d : Dialect) (ks : List TokenKind) (ps left : List ℕ) (s : ProcedureSource) → run ks ps (start d) ≡ Ok (s, left) → IsDerivedIn d s × (procedure_source_spelled s ≡ ks)
read_derived d ks ps left s e =
    let r : Reads d (start d) ks s = read_is_script d ks ps left s e in
    (r.derived, r.spells)

not_longer : (p x : ℕ) (xs : List ℕ) → p ∷ [] ≡ x ∷ (xs ++ p ∷ []) → ⊥
not_longer p x [] e = cc
not_longer p x (y ∷ xs) e = cc

-- lists with one last item
last_cancels : (p : ℕ) (xs ys : List ℕ) → xs ++ p ∷ [] ≡ ys ++ p ∷ [] → xs ≡ ys
last_cancels p [] [] e = refl
last_cancels p [] (y ∷ ys) e = absurd (not_longer p y ys e)
last_cancels p (x ∷ xs) [] e = absurd (not_longer p x xs (sym e))
last_cancels p (x ∷ xs) (y ∷ ys) e =
    let t : xs ≡ ys = last_cancels p xs ys (cc) in
    cc

-- the places of the script are those that were taken
pub read_places : (d : Dialect) (ks : List TokenKind) (ps : List ℕ) (p : ℕ) (s : ProcedureSource) → run ks (ps ++ p ∷ []) (start d) ≡ Ok (s, p ∷ []) → procedure_source_places s ≡ ps
read_places d ks ps p s e =
    let r : Reads d (start d) ks s = read_is_script d ks (ps ++ p ∷ []) (p ∷ []) s e in
    let qs : List ℕ = ps ++ p ∷ [] in
    let w : whole (source_placed s qs) (source_left s qs) ≡ whole s (p ∷ []) = sym (source_read d s r.derived qs) ∙ ap (λ z. run z qs (start d)) r.spells ∙ e in
    let a : source_placed s qs ≡ s = whole_same (source_placed s qs) s (source_left s qs) (p ∷ []) w in
    let b : source_left s qs ≡ p ∷ [] = left_same (source_placed s qs) s (source_left s qs) (p ∷ []) w in
    let t : procedure_source_places (source_placed s qs) ++ source_left s qs ≡ qs = source_takes s qs (subst IsMore (sym b) tt) in
    last_cancels p (procedure_source_places s) ps (sym (ap (λ z. procedure_source_places z ++ source_left s qs) a ∙ ap (λ z. procedure_source_places s ++ z) b) ∙ t)
