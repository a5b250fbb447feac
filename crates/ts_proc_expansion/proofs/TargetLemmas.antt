-- The procedures that are run in place of others.
use Rattle.std.proofs.Common.{◌≡◌, ℕ, zero, suc, ◌+◌, ◌<◌, ◌≤◌, List, [], ◌∷◌, ◌++◌, length, map, take, get_or, Option, Some, option_map, slice_get, refl, ap, sym, ◌∙◌, subst, arith, append-nil}
use Rattle.std.specs.Prelude.{unwrap_or}
use Rattle.std.proofs.lemmas.Option.{slice_get-get_or}
use Rattle.ts_trees.specs.declared.procedure.Proc.{Proc}
use Rattle.ts_trees.specs.declared.stmt.Stmt.{Stmt}
use Rattle.ts_trees.specs.declared.word.Word.{Word}
use Rattle.ts_trees.specs.Seen.{acts_of, procedure_of}
use Rattle.ts_trees.specs.Tree.{Trees, Acts, no_acts, act_then, run_procedure}
use Rattle.ts_proc_names.specs.Places.{place_of_name, declared_as}
use Rattle.ts_proc_renaming.specs.Renaming.{Hiding, assigned}
use Rattle.ts_proc_expansion.specs.Expansion.{first_trees, Callee, body_called, expanded_acts, callee}
use Rattle.ts_proc_expansion.specs.Live.{BecomesSame}
use Rattle.ts_proc_expansion.specs.Plan.{bodies_of}
use Rattle.ts_proc_expansion.specs.Targets.{body_at, IsTarget, AreTargets}
use Rattle.ts_proc_expansion.proofs.CalleeLemmas.{count_before}
use Rattle.ts_proc_expansion.proofs.InOrderLemmas.{at_place, one_named}

pub body_at-place : (procs : List Proc) (i : ℕ) (p : Proc) → i < length procs → p ≡ get_or procs i p → body_at procs i ≡ (callee (take i (bodies_of procs)) (procedure_of p)).body
body_at-place procs i p within is = ap (λ o. unwrap_or (option_map (λ (c : List ℕ × Callee). c.1.body) o) []) (at_place callee procs i p within is)

-- each procedure is its own
pub target_itself : (procs : List Proc) (i : ℕ) → i < length procs → IsTarget procs i i
target_itself procs i within = record { within = within; body = refl }

pub target_at : (procs : List Proc) (targets : List ℕ) (i t : ℕ) → AreTargets procs targets → i < length targets → t ≡ get_or targets i t → IsTarget procs i t
target_at procs targets i t are within is = are i t (slice_get-get_or targets i t within ∙ ap Some (sym is))

-- a call without parameters that stands alone
call_alone_becomes : (h : Hiding) (w : Word) (es : Trees) (c : Callee) (n : ℕ) → n ≡ c.params → n ≡ 0 → body_called h w es (Some c) ++ [] ≡ c.body
call_alone_becomes h w es c n is none =
    append-nil (body_called h w es (Some c)) ∙ ap (λ m. assigned h w.place c.first (first_trees m es) ++ c.body) (sym is ∙ none)

-- that of a procedure that does nothing but to run one without parameters
pub target_through : (procs : List Proc) (i : ℕ) (p : Proc) (body : Acts) (w : Word) (es : Trees) (j : ℕ) (q : Proc) (t : ℕ) → i < length procs → p ≡ get_or procs i p
    → BecomesSame (take i (bodies_of procs)) body (acts_of p.body) → body ≡ act_then (run_procedure w es) no_acts → Some j ≡ place_of_name (take i (map (λ p. p.name.name) procs)) w.name → j < i → j < length procs → q ≡ get_or procs j q
    → length q.params ≡ 0 → IsTarget procs j t → IsTarget procs i t
target_through procs i p body w es j q t within is becomes runs found less inside there none target =
    let known : List (List ℕ × Callee) = take i (bodies_of procs) in
    let h : Hiding = record { first = count_before procs i; params = p.params } in
    let next : Callee = callee (take j (bodies_of procs)) (procedure_of q) in
    let same : body_at procs i ≡ body_at procs j =
    body_at-place procs i p within is ∙ sym (becomes h) ∙ ap (expanded_acts known h) runs
    ∙ ap (λ o. body_called h w es o ++ []) (one_named callee procs i w.name j q found less inside there)
    ∙ call_alone_becomes h w es next (length q.params) refl none ∙ sym (body_at-place procs j q inside there) in
    record { within = target.within; body = target.body ∙ sym same }

-- one more
pub each_pushed : {X : Type 0} (P : ℕ → X → Type 0) (ts : List X) (t : X) → ((i : ℕ) (u : X) → slice_get ts i ≡ Some u → P i u) → P (length ts) t
    → (i : ℕ) (u : X) → slice_get (ts ++ t ∷ []) i ≡ Some u → P i u
each_pushed P [] t are one zero u found = let same : t ≡ u = cc in subst (P 0) same one
each_pushed P [] t are one (suc i) u found = cc
each_pushed P (x ∷ ts) t are one zero u found = are zero u found
each_pushed P (x ∷ ts) t are one (suc i) u found = each_pushed (λ j v. P (suc j) v) ts t (λ j v g. are (suc j) v g) one i u found

pub targets_more : (procs : List Proc) (targets new : List ℕ) (i t : ℕ) → length targets ≡ i → new ≡ targets ++ t ∷ [] → AreTargets procs targets → IsTarget procs i t → AreTargets procs new
targets_more procs targets new i t len pushed are one =
    subst (AreTargets procs) (sym pushed) (each_pushed (IsTarget procs) targets t are (subst (λ n. IsTarget procs n t) (sym len) one))

-- a call of one in place of another that has no parameters either
pub run_instead : (procs : List Proc) (n : ℕ) (h : Hiding) (w v : Word) (es : Trees) (i t : ℕ) (p q : Proc) → Some i ≡ place_of_name (take n (map (λ p. p.name.name) procs)) w.name → i < n → i < length procs
    → p ≡ get_or procs i p → length p.params ≡ 0 → Some t ≡ place_of_name (take n (map (λ p. p.name.name) procs)) v.name → t < n → t < length procs → q ≡ get_or procs t q → length q.params ≡ 0
    → IsTarget procs i t → body_called h v es (declared_as (take n (bodies_of procs)) v.name) ≡ body_called h w es (declared_as (take n (bodies_of procs)) w.name)
run_instead procs n h w v es i t p q found less inside there bare found' less' inside' there' bare' target =
    let this : Callee = callee (take i (bodies_of procs)) (procedure_of p) in
    let other : Callee = callee (take t (bodies_of procs)) (procedure_of q) in
    ap (body_called h v es) (one_named callee procs n v.name t q found' less' inside' there')
    ∙ ap (λ m. assigned h v.place other.first (first_trees m es) ++ other.body) bare'
    ∙ sym (body_at-place procs t q inside' there') ∙ target.body ∙ body_at-place procs i p inside there
    ∙ sym (ap (λ m. assigned h w.place this.first (first_trees m es) ++ this.body) bare)
    ∙ sym (ap (body_called h w es) (one_named callee procs n w.name i p found less inside there))

pub target_of : (procs : List Proc) (targets : List ℕ) (i n : ℕ) → AreTargets procs targets → i < n → n ≤ length targets → IsTarget procs i (get_or targets i 0)
target_of procs targets i n are less few = are i (get_or targets i 0) (slice_get-get_or targets i 0 (omega (arith, less, few)))

-- a block of one statement
pub one_stmt : (xs : List Stmt) (s : Stmt) → 1 ≤ length xs → length xs < 2 → s ≡ get_or xs 0 s → xs ≡ s ∷ []
one_stmt [] s some few is = absurd (omega (arith, some))
one_stmt (x ∷ []) s some few is = ap (λ (y : Stmt). y ∷ []) (sym is)
one_stmt (x ∷ y ∷ xs) s some few is = absurd (omega (arith, few))
