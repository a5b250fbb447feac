-- The names that are hidden in the body of each procedure.
use Rattle.std.proofs.Common.{◌≡◌, ℕ, zero, suc, ◌<◌, ◌≤◌, List, [], ◌∷◌, ◌++◌, length, get_or, Some, None, slice_get, refl, ap, sym, ◌∙◌, subst, arith}
use Rattle.std.proofs.lemmas.Option.{slice_get-get_or}
use Rattle.ts_trees.specs.declared.procedure.Proc.{Proc}
use Rattle.ts_proc_renaming.specs.declared.hidden.Hidden.{Hidden}
use Rattle.ts_proc_renaming.specs.Hidden.{hiding_of}
use Rattle.ts_proc_renaming.specs.Renaming.{nothing_hidden}
use Rattle.ts_proc_expansion.proofs.CalleeLemmas.{count_before}
use Rattle.ts_proc_expansion.proofs.TargetLemmas.{each_pushed}
use Rattle.ts_proc_texts.specs.Hidings.{hiding_in, hiding_at, AreHidings}

-- those of a procedure, and those where none is
pub hiding_at-place : (procs : List Proc) (i : ℕ) (p : Proc) → i < length procs → p ≡ get_or procs i p → hiding_at procs i ≡ record { first = count_before procs i; params = p.params }
hiding_at-place procs i p within is = ap (hiding_in (count_before procs i)) (slice_get-get_or procs i p within ∙ ap Some (sym is))

past : {X : Type 0} (xs : List X) (i : ℕ) → length xs ≤ i → slice_get xs i ≡ None
past [] i beyond = refl
past (x ∷ xs) zero beyond = absurd (omega (arith, beyond))
past (x ∷ xs) (suc i) beyond = past xs i (omega (arith, beyond))

pub hiding_at-past : (procs : List Proc) (i : ℕ) → length procs ≤ i → hiding_at procs i ≡ nothing_hidden
hiding_at-past procs i beyond = ap (hiding_in (count_before procs i)) (past procs i beyond)

-- one more
pub hidings_more : (procs : List Proc) (hs new : List Hidden) (i : ℕ) (h : Hidden) → length hs ≡ i → new ≡ hs ++ h ∷ [] → AreHidings procs hs → hiding_of h ≡ hiding_at procs i → AreHidings procs new
hidings_more procs hs new i h len pushed are one =
    subst (AreHidings procs) (sym pushed) (each_pushed (λ j g. hiding_of g ≡ hiding_at procs j) hs h are (subst (λ n. hiding_of h ≡ hiding_at procs n) (sym len) one))

-- one of them
pub hiding_found : (procs : List Proc) (hs : List Hidden) (i : ℕ) (h : Hidden) → AreHidings procs hs → i < length hs → h ≡ get_or hs i h → hiding_of h ≡ hiding_at procs i
hiding_found procs hs i h are within is = are i h (slice_get-get_or hs i h within ∙ ap Some (sym is))

-- and of the script's own statements
pub nothing_found : (procs : List Proc) (hs : List Hidden) (i : ℕ) (h : Hidden) → length hs ≡ length procs → length hs ≤ i → hiding_of h ≡ nothing_hidden → hiding_of h ≡ hiding_at procs i
nothing_found procs hs i h each beyond none = none ∙ sym (hiding_at-past procs i (omega (arith, each, beyond)))
