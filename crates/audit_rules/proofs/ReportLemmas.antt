-- The verdict on a report is told node by node, and by journals alone.
use Rattle.std.proofs.Common.{◌≡◌, ◌<◌, ℕ, suc, ◌+◌, List, [], ◌∷◌, length, sym, ◌∙◌, ap, subst, arith, inl, inr, Option, Some, None, zero-add}
use Rattle.std.specs.Prelude.{All, IfSome, IsSomeAnd, MatchOption, slice_get}
use Rattle.std.specs.Option.{option_map}
use Rattle.std.proofs.lemmas.Bool.{cases_lt}
use Rattle.std.proofs.lemmas.List.{length-map}
use Rattle.std.proofs.lemmas.List.Elements.{All-head, All-tail}
use Rattle.std.proofs.lemmas.Option.{slice_get-map}
use Rattle.vm_shape.specs.declared.description.Description.{Description}
use Rattle.mate_journal.specs.Journal.{TimedEntry, journal_of}
use Rattle.mate_journal.specs.Log.{Log}
use Rattle.mate_journal.specs.Tidy.{IsTidyLog}
use Rattle.mate_journal.specs.declared.program.Program.{Program}
use Rattle.mate_journal.specs.declared.report.Report.{Report}
use Rattle.node_programs.specs.Right.{AreRightPrograms}
use Rattle.report_writer.specs.Tidy.{IsTidy}
use Rattle.audit_rules.specs.Laws.{KeepsLaw, machine_by, rank_of}
use Rattle.audit_rules.specs.Tests.{failed_by, refuted_or, verdict_from, verdict_of}
use Rattle.audit_rules.specs.Verdicts.{LogKeepsAll, LogFails, NodesKeep, IsVerdict, TellSameJournals}
use Rattle.mate_journal.specs.declared.law.Law.{Law}
use Rattle.mate_journal.specs.declared.law.Verdict.{Verdict}
use Rattle.mate_journal.specs.declared.law.Verdict.TheVariants.{Serial, Refuted}
use Rattle.audit_rules.proofs.TestLemmas.{failed-told}

-- ---- node by node

-- the logs from node n on
record AreFrom (r : Report) (n : ℕ) (ls : List Log) : Type 0 where
  at : (k : ℕ) → slice_get r.nodes (n + k) ≡ slice_get ls k
  long : n + length ls ≡ length r.nodes

first-of : (r : Report) (n : ℕ) (l : Log) (ls : List Log) → AreFrom r n (l ∷ ls) → slice_get r.nodes n ≡ Some l
first-of r n l ls from = subst (λ (j : ℕ). slice_get r.nodes j ≡ Some l) (omega arith) (from.at 0)

rest-of : (r : Report) (n : ℕ) (l : Log) (ls : List Log) → AreFrom r n (l ∷ ls) → AreFrom r (suc n) ls
rest-of r n l ls from = record {
  at = λ k. subst (λ (j : ℕ). slice_get r.nodes j ≡ slice_get ls k) (omega arith) (from.at (suc k));
  long = let e = from.long in omega (arith, e);
}

one-kept : (d : Description) (ps : List Program) (r : Report) (n : ℕ) (l : Log) → slice_get r.nodes n ≡ Some l → LogKeepsAll d ps l → NodesKeep d ps r n → NodesKeep d ps r (suc n)
one-kept d ps r n l is keeps kept k low = elim (cases_lt k n) [
  | inl less ↦ kept k less
  | inr high ↦ subst (λ (j : ℕ). IfSome (slice_get r.nodes j) (LogKeepsAll d ps)) (omega (arith, low, high)) (subst (λ (o : Option Log). IfSome o (LogKeepsAll d ps)) (sym is) keeps)
]

from-told : (d : Description) (ps : List Program) (r : Report) (n : ℕ) (ls : List Log) → AreRightPrograms d ps → All (IsTidyLog d) ls → AreFrom r n ls → NodesKeep d ps r n → IsVerdict d ps r (verdict_from d ps n ls)
from-told d ps r n [] right tidy from kept = subst (NodesKeep d ps r) (let e = from.long in omega (arith, e)) kept
from-told d ps r n (l ∷ ls) right tidy from kept =
    by (failed_by d ps l) (failed-told d ps l right (All-head (IsTidyLog d) l ls tidy)) (λ keeps. from-told d ps r (suc n) ls right (All-tail (IsTidyLog d) l ls tidy) (rest-of r n l ls from) (one-kept d ps r n l (first-of r n l ls from) keeps kept)) where
      by : (o : Option Law) → MatchOption o (LogKeepsAll d ps l) (LogFails d ps l) → (LogKeepsAll d ps l → IsVerdict d ps r (verdict_from d ps (suc n) ls)) → IsVerdict d ps r (refuted_or o n (verdict_from d ps (suc n) ls))
      by None keeps next = next keeps
      by (Some law) fails next = (kept, subst (λ (o : Option Log). IsSomeAnd o (λ l. LogFails d ps l law)) (sym (first-of r n l ls from)) fails)

pub verdict-told : (d : Description) (ps : List Program) (r : Report) → AreRightPrograms d ps → IsTidy d r → IsVerdict d ps r (verdict_of d ps r)
verdict-told d ps r right tidy =
    from-told d ps r 0 r.nodes right tidy.logs (record { at = λ k. ap (slice_get r.nodes) (zero-add k); long = zero-add (length r.nodes) }) (λ k low. absurd (omega (arith, low)))

-- ---- by journals alone

if-journal : (P : List TimedEntry → Type 0) (o : Option Log) → IfSome o (λ l. P (journal_of l)) → IfSome (option_map journal_of o) P
if-journal P None h = tt
if-journal P (Some l) h = h

journal-if : (P : List TimedEntry → Type 0) (o : Option Log) → IfSome (option_map journal_of o) P → IfSome o (λ l. P (journal_of l))
journal-if P None h = tt
journal-if P (Some l) h = h

some-journal : (P : List TimedEntry → Type 0) (o : Option Log) → IsSomeAnd o (λ l. P (journal_of l)) → IsSomeAnd (option_map journal_of o) P
some-journal P None h = absurd h
some-journal P (Some l) h = h

journal-some : (P : List TimedEntry → Type 0) (o : Option Log) → IsSomeAnd (option_map journal_of o) P → IsSomeAnd o (λ l. P (journal_of l))
journal-some P None h = absurd h
journal-some P (Some l) h = h

-- the journal at a place
same-at : (r s : Report) (k : ℕ) → TellSameJournals r s → option_map journal_of (slice_get r.nodes k) ≡ option_map journal_of (slice_get s.nodes k)
same-at r s k same = sym (slice_get-map journal_of r.nodes k) ∙ ap (λ (js : List (List TimedEntry)). slice_get js k) same ∙ slice_get-map journal_of s.nodes k

-- what a journal fails
abbrev FailsFirst : Description → List Program → Law → List TimedEntry → Type 0
FailsFirst d ps law es = (KeepsLaw (machine_by d ps) ps es law → ⊥) × ((earlier : Law) → rank_of earlier < rank_of law → KeepsLaw (machine_by d ps) ps es earlier)

fails-of : (d : Description) (ps : List Program) (law : Law) (o : Option Log) → IsSomeAnd o (λ l. LogFails d ps l law) → IsSomeAnd o (λ l. FailsFirst d ps law (journal_of l))
fails-of d ps law None h = absurd h
fails-of d ps law (Some l) h = (h.fails, h.before)

of-fails : (d : Description) (ps : List Program) (law : Law) (o : Option Log) → IsSomeAnd o (λ l. FailsFirst d ps law (journal_of l)) → IsSomeAnd o (λ l. LogFails d ps l law)
of-fails d ps law None h = absurd h
of-fails d ps law (Some l) h = record { fails = h.0; before = h.1 }

keeps-too : (d : Description) (ps : List Program) (r s : Report) (n : ℕ) → TellSameJournals r s → NodesKeep d ps r n → NodesKeep d ps s n
keeps-too d ps r s n same kept k low =
    let P : List TimedEntry → Type 0 = λ es. (law : Law) → KeepsLaw (machine_by d ps) ps es law in
    journal-if P (slice_get s.nodes k) (subst (λ (o : Option (List TimedEntry)). IfSome o P) (same-at r s k same) (if-journal P (slice_get r.nodes k) (kept k low)))

fails-too : (d : Description) (ps : List Program) (r s : Report) (n : ℕ) (law : Law) → TellSameJournals r s → IsSomeAnd (slice_get r.nodes n) (λ l. LogFails d ps l law) → IsSomeAnd (slice_get s.nodes n) (λ l. LogFails d ps l law)
fails-too d ps r s n law same fails =
    of-fails d ps law (slice_get s.nodes n)
    (journal-some (FailsFirst d ps law) (slice_get s.nodes n)
    (subst (λ (o : Option (List TimedEntry)). IsSomeAnd o (FailsFirst d ps law)) (same-at r s n same) (some-journal (FailsFirst d ps law) (slice_get r.nodes n) (fails-of d ps law (slice_get r.nodes n) fails))))

same-length : (r s : Report) → TellSameJournals r s → length r.nodes ≡ length s.nodes
same-length r s same = sym (length-map r.nodes journal_of) ∙ ap (λ (js : List (List TimedEntry)). length js) same ∙ length-map s.nodes journal_of

pub same-verdict : (d : Description) (ps : List Program) (r s : Report) (v : Verdict) → TellSameJournals r s → IsVerdict d ps r v → IsVerdict d ps s v
same-verdict d ps r s Serial same kept = subst (NodesKeep d ps s) (same-length r s same) (keeps-too d ps r s (length r.nodes) same kept)
same-verdict d ps r s (Refuted n law) same is = (keeps-too d ps r s n same is.0, fails-too d ps r s n law same is.1)
