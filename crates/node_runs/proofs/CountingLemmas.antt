-- What a run on one node counts.
use Rattle.std.proofs.Common.{◌≡◌, ◌≤◌, ℕ, List, [], ◌++◌, Result, Ok, Err, IfOk, sym, ◌∙◌, ap, subst, arith, length, take, take_all}
use Rattle.std.proofs.lemmas.List.{take-append-le, length-take}
use Rattle.mate_journal.specs.Log.{Log, GoesOn}
use Rattle.mate_journal.specs.OpenLog.{Gone, IsKept, nothing_gone, gone_of}
use Rattle.mate_journal.specs.declared.entry.Stamped.{Stamped}
use Rattle.node_open.specs.View.{NodeView, IsSameNode}
use Rattle.report_writer.specs.Tally.{IsUpTo, IsLogTally}
use Rattle.report_writer.specs.declared.tally.LogTally.{LogTally}
use Rattle.report_writer.proofs.TallyLemmas.{tally-same, tally-few, counted-kept}

-- ---- what is at hand

-- the same, of the node as it is seen where it is read
pub counted-as : (n : ℕ) (self v : NodeView) → self ≡ v → (kept : Log) (t : LogTally) (es : List Stamped) → es ≡ kept.entries → IsKept (record { all = v.log; gone = v.gone }) kept
    → IsLogTally n t (take self.gone.entries self.log.entries ++ es) → IsLogTally n t self.log.entries
counted-as n self v e kept t es same is counted =
    counted-kept n (record { all = self.log; gone = self.gone }) kept t es same (subst (λ (x : NodeView). IsKept (record { all = x.log; gone = x.gone }) kept) (sym e) is) counted

-- ---- along the run

-- before the first event
pub tally-fresh : (n : ℕ) (t : LogTally) (v : NodeView) → v.gone ≡ nothing_gone → IsLogTally n t [] → IsLogTally n t (take v.gone.entries v.log.entries)
tally-fresh n t v gone is = tally-same n t [] (take v.gone.entries v.log.entries) (sym (ap (λ (g : Gone). take g.entries v.log.entries) gone)) is

-- all that was told before an event is gone in it
pub tally-before : (n : ℕ) (t : LogTally) (first old new : NodeView) → IsSameNode (record first { gone = gone_of first.log }) old → GoesOn old.log new.log → new.gone ≡ old.gone → IsLogTally n t first.log.entries
    → IsLogTally n t (take new.gone.entries new.log.entries)
tally-before n t first old new same goes gone is =
    let es = first.log.entries in
    let count : new.gone.entries ≡ length es = ap (λ (g : Gone). g.entries) (gone ∙ same.gone) in
    let all : new.log.entries ≡ es ++ goes.entries = goes.entries_are ∙ ap (λ (xs : List Stamped). xs ++ goes.entries) same.log.entries in
    tally-same n t es (take new.gone.entries new.log.entries)
    (sym (ap (λ (k : ℕ). take k new.log.entries) count ∙ ap (take (length es)) all ∙ take-append-le (length es) es goes.entries (omega arith) ∙ take_all (length es) es (omega arith))) is

-- no more is counted than was told
pub tally-most : (n k most : ℕ) (t : LogTally) (es : List Stamped) → IsLogTally n t (take k es) → length es ≤ most → IsUpTo most t
tally-most n k most t es is few = tally-few n most t (take k es) is (let le = length-take k es in omega (arith, le, few))

pub if_ok : {A E : Type 0} (r : Result A E) (P Q : A → Type 0) → ((a : A) → P a → Q a) → IfOk r P → IfOk r Q
if_ok (Ok a) P Q weaker h = weaker a h
if_ok (Err e) P Q weaker h = tt
