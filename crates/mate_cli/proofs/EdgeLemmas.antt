-- What a writer behind a buffer has got.
use Rattle.std.proofs.Common.{◌≡◌, ℕ, Bool, true, false, List, [], ◌++◌, Option, None, Some, Result, Ok, Err, inl, inr, refl, subst, rules}
use Rattle.std.specs.Prelude.{OnOk}
use Rattle.std.specs.Result.{is_ok}
use Rattle.std.specs.Io.KnownBytes.{Keeps, append_known}
use Rattle.command_refusals.specs.declared.refusal.Refusal.{Refusal}
use Rattle.command_refusals.specs.declared.refusal.Refusal.TheVariants as refusal
use Rattle.mate_cli.specs.Ends.{IsHandedOn, all_came, lost, part_came, IsAllWritten, refusal_in, after_flush}

none-appended : (put got : Option (List ℕ)) → Keeps put (append_known got []) → Keeps put got
none-appended None got k = k
none-appended (Some xs) None k = k
none-appended (Some xs) (Some ys) k = search rules

pub when-ok : {A E : Type 0} (r : Result A E) (P : Type 0) → OnOk r P → is_ok r ≡ true → P
when-ok (Ok x) P p is = p
when-ok (Err e) P p is = cc is

full : (r : Refusal) → IsAllWritten (Some r) → r ≡ refusal.LogFull
full r (inl e) = cc e
full r (inr e) = cc e

pub handed : (flushed : Bool) (came : Result (Unit {0}) Refusal) (put got : Option (List ℕ)) (rest : List ℕ) → (flushed ≡ true → rest ≡ [])
    → Keeps put (append_known got rest) → IsHandedOn (refusal_in came) put got (refusal_in (after_flush flushed came))
handed true came put got rest none k = all_came (none-appended put got (subst (λ (bs : List ℕ). Keeps put (append_known got bs)) (none refl) k)) refl
handed false (Ok u) put got rest none k = lost rest k (inl refl) refl
handed false (Err refusal.LogFull) put got rest none k = lost rest k (inr refl) refl
handed false (Err refusal.Usage) put got rest none k = part_came rest k (λ w. cc (full _ w)) refl
handed false (Err (refusal.BadDescription why)) put got rest none k = part_came rest k (λ w. cc (full _ w)) refl
handed false (Err (refusal.BadScript line why)) put got rest none k = part_came rest k (λ w. cc (full _ w)) refl
handed false (Err (refusal.InFile name why)) put got rest none k = part_came rest k (λ w. cc (full _ w)) refl
handed false (Err (refusal.BadStream place)) put got rest none k = part_came rest k (λ w. cc (full _ w)) refl
handed false (Err (refusal.Refuted why)) put got rest none k = part_came rest k (λ w. cc (full _ w)) refl
handed false (Err refusal.SinkFault) put got rest none k = part_came rest k (λ w. cc (full _ w)) refl
handed false (Err refusal.NoMemory) put got rest none k = part_came rest k (λ w. cc (full _ w)) refl
