-- A run that is written piece by piece, and where it ends.
use Rattle.std.proofs.Common.{◌≡◌, ℕ, true, false, List, [], ◌++◌, Option, Result, Ok, Err, refl, sym, ◌∙◌, ap, subst, arith, inl, inr, append_assoc, append-nil}
use Rattle.std.proofs.KnownBytes.{Appends-trans}
use Rattle.std.proofs.lemmas.List.{length-append}
use Rattle.mate_files.specs.Sink.{Sent, SentPart, SentShort, HasCause, Puts}
use Rattle.mate_files.specs.declared.sink.SinkFault.{SinkFault}
use Rattle.mate_files.specs.declared.sink.SinkFault.TheVariants.{Failed, NoMemory as OutOfMemory}
use Rattle.mate_files.proofs.SinkLemmas.{Sent-nil, Sent-trans, SentPart-nil, Rose-after}
use Rattle.vm_shape.specs.declared.description.Description.{Description}
use Rattle.mate_journal.specs.NodeScript.{RunEnd, Whole, Full, Cut}
use Rattle.mate_journal.specs.declared.report.Report.{Report}
use Rattle.mate_journal.specs.declared.report.IntoFault.{IntoFault}
use Rattle.mate_journal.specs.declared.report.IntoFault.TheVariants as into
use Rattle.report_writer.specs.Text.{lines, text}
use Rattle.report_writer.specs.Writing.{OfRun, last_event, lines_before, last_line, written_text, IsWrittenPart, IsWrittenShort, RunsInto, write_fault_of, into_fault, with_report, WritesReport, WritesRun, write_ended, HasWritten}
use Rattle.report_writer.specs.declared.write_fault.WriteFault.{WriteFault}
use Rattle.report_writer.specs.declared.write_fault.WriteFault.TheVariants.{LogFull, NoMemory}

-- ---- on the way

pub written-nothing : {out : Option (List ℕ)} {f : ℕ} → HasWritten out f out f []
written-nothing = record { sent = Sent-nil; later = omega arith }

-- one more piece
pub written-more : {out0 out1 out2 : Option (List ℕ)} {f0 f1 f2 : ℕ} {bs : List ℕ} {T : Type 0} {value : T} (piece all : List ℕ) → HasWritten out0 f0 out1 f1 bs → Puts out1 f1 out2 f2 (Ok value) piece
    → all ≡ bs ++ piece → HasWritten out0 f0 out2 f2 all
written-more {out0} {out1} {out2} {f0} {f1} {f2} piece all w p is = record {
  sent = subst (λ (xs : List ℕ). Sent out0 out2 xs) (sym is) (Sent-trans w.sent p.writes);
  later = let a = w.later in let b = p.later in omega (arith, a, b);
}

-- the same bytes
pub written-as : {out0 out1 : Option (List ℕ)} {f0 f1 : ℕ} {bs : List ℕ} (cs : List ℕ) → HasWritten out0 f0 out1 f1 bs → cs ≡ bs → HasWritten out0 f0 out1 f1 cs
written-as {out0} {out1} cs w is = record { sent = subst (λ (xs : List ℕ). Sent out0 out1 xs) (sym is) w.sent; later = w.later }

-- what stands behind the lines of a run that ends so: its last line, or nothing
pub behind-lines : (how : RunEnd) (d : Description) (r : Report) → (rest : List ℕ) × (lines d r ++ rest ≡ written_text how d r)
behind-lines Whole d r = (last_line r, refl)
behind-lines Full d r = (last_line r, refl)
behind-lines Cut d r = ([], append-nil (lines d r))

-- ---- where it ends: this is its report

module _ (d : Description) (Is : OfRun) (out0 out1 out2 : Option (List ℕ)) (f0 f1 f2 : ℕ) (how : RunEnd) (r : Report) (report : Is how r) (bs more : List ℕ) (written : HasWritten out0 f0 out1 f1 bs)
    (covers : bs ≡ lines_before d r (last_event how r.events) ++ more) where
  part-of : (piece rest : List ℕ) → bs ++ (piece ++ rest) ≡ written_text how d r → SentPart out1 out2 piece → IsWrittenPart d Is out0 out2 r
  part-of piece rest all part = record {
    how = how;
    report = report;
    part = record {
      front = bs ++ part.front;
      rest = part.rest ++ rest;
      whole = append_assoc bs part.front (part.rest ++ rest) ∙ ap (λ (xs : List ℕ). bs ++ xs) (sym (append_assoc part.front part.rest rest) ∙ ap (λ (xs : List ℕ). xs ++ rest) part.whole) ∙ all;
      appended = Appends-trans out0 out1 out2 bs part.front written.sent.appended part.appended;
    };
    more = more ++ part.front;
    covers = ap (λ (xs : List ℕ). xs ++ part.front) covers ∙ append_assoc (lines_before d r (last_event how r.events)) more part.front;
  }

  short-of : (piece rest : List ℕ) → bs ++ (piece ++ rest) ≡ written_text how d r → SentShort out1 out2 piece → IsWrittenShort d Is out0 out2 r
  unfolding part-of
  short-of piece rest all short = record {
    written = part-of piece rest all short.part;
    unsent = let some = short.unsent in let sum = length-append short.part.rest rest in omega (arith, some, sum);
  }

  stopped : (fault : SinkFault) → IsWrittenShort d Is out0 out2 r → HasCause {T = Unit {0}} f1 f2 (Err fault) → WritesReport d Is out0 out2 f0 f2 (Err (write_fault_of fault)) r
  stopped Failed short cause = (short, Rose-after f0 f1 f2 written.later cause)
  stopped OutOfMemory short cause = inr short.written

  -- the sink stopped a piece
  pub stopped-within : (fault : SinkFault) (answer : WriteFault) (piece rest : List ℕ) → bs ++ (piece ++ rest) ≡ written_text how d r → Puts {T = Unit {0}} out1 f1 out2 f2 (Err fault) piece
      → answer ≡ write_fault_of fault → WritesReport d Is out0 out2 f0 f2 (Err answer) r
  stopped-within fault answer piece rest all puts is =
      subst (λ (x : WriteFault). WritesReport d Is out0 out2 f0 f2 (Err x) r) (sym is) (stopped fault (short-of piece rest all puts.short) puts.cause)

  pub fails-within : (fault : SinkFault) (answer : WriteFault) (piece rest : List ℕ) → bs ++ (piece ++ rest) ≡ written_text how d r → Puts {T = Unit {0}} out1 f1 out2 f2 (Err fault) piece
      → answer ≡ write_fault_of fault → WritesRun d Is out0 out2 f0 f2 (Err answer)
  fails-within fault answer piece rest all puts is = record { report = r; gives = stopped-within fault answer piece rest all puts is }

-- memory was refused
pub cut-short : (d : Description) (Is : OfRun) (out0 out1 : Option (List ℕ)) (f0 f1 : ℕ) (how : RunEnd) (r : Report) → Is how r → (bs rest more : List ℕ) → HasWritten out0 f0 out1 f1 bs
    → bs ++ rest ≡ written_text how d r → bs ≡ lines_before d r (last_event how r.events) ++ more → WritesReport d Is out0 out1 f0 f1 (Err NoMemory) r
cut-short d Is out0 out1 f0 f1 how r report bs rest more written all covers = inr (part-of d Is out0 out1 out1 f0 f1 f1 how r report bs more written covers [] rest all SentPart-nil)

-- all lines were written, and the last line was put
module _ (d : Description) (Is : OfRun) (out0 out1 out2 : Option (List ℕ)) (f0 f1 f2 : ℕ) (r : Report) (more : List ℕ) (written : HasWritten out0 f0 out1 f1 (lines d r)) where
  pub ended-whole : Is Whole r → lines d r ≡ lines_before d r (last_event Whole r.events) ++ more → (put : Result (Unit {0}) SinkFault) → Puts out1 f1 out2 f2 put (last_line r)
      → WritesReport d Is out0 out2 f0 f2 (write_ended true put) r
  ended-whole report covers (Ok all) puts = (report, Sent-trans written.sent puts.writes)
  ended-whole report covers (Err fault) puts =
      stopped-within d Is out0 out1 out2 f0 f1 f2 Whole r report (lines d r) more written covers fault (write_fault_of fault) (last_line r) [] (ap (λ (bs : List ℕ). lines d r ++ bs) (append-nil (last_line r))) puts refl

  pub ended-full : Is Full r → lines d r ≡ lines_before d r (last_event Full r.events) ++ more → (put : Result (Unit {0}) SinkFault) → Puts out1 f1 out2 f2 put (last_line r)
      → WritesReport d Is out0 out2 f0 f2 (write_ended false put) r
  ended-full report covers (Ok all) puts = (report, Sent-trans written.sent puts.writes)
  ended-full report covers (Err fault) puts =
      stopped-within d Is out0 out1 out2 f0 f1 f2 Full r report (lines d r) more written covers fault (write_fault_of fault) (last_line r) [] (ap (λ (bs : List ℕ). lines d r ++ bs) (append-nil (last_line r))) puts refl

-- ---- where it ends: there is such a report

pub wants-memory : (d : Description) (Is : OfRun) (out0 out1 : Option (List ℕ)) (f0 f1 : ℕ) (how : RunEnd) (r : Report) → Is how r → (bs rest more : List ℕ) → HasWritten out0 f0 out1 f1 bs
    → bs ++ rest ≡ written_text how d r → bs ≡ lines_before d r (last_event how r.events) ++ more → WritesRun d Is out0 out1 f0 f1 (Err NoMemory)
wants-memory d Is out0 out1 f0 f1 how r report bs rest more written all covers = record { report = r; gives = cut-short d Is out0 out1 f0 f1 how r report bs rest more written all covers }

-- all of it was written
pub wrote-whole : (d : Description) (Is : OfRun) {out0 out1 : Option (List ℕ)} {f0 f1 : ℕ} (r : Report) → Is Whole r → HasWritten out0 f0 out1 f1 (text d r) → WritesRun d Is out0 out1 f0 f1 (Ok tt)
wrote-whole d Is r report written = record { report = r; gives = (report, written.sent) }

pub wrote-full : (d : Description) (Is : OfRun) {out0 out1 : Option (List ℕ)} {f0 f1 : ℕ} (r : Report) → Is Full r → HasWritten out0 f0 out1 f1 (text d r) → WritesRun d Is out0 out1 f0 f1 (Err LogFull)
wrote-full d Is r report written = record { report = r; gives = (report, written.sent) }

-- ---- with the report

module _ (d : Description) (Is : OfRun) (out out' : Option (List ℕ)) (f f' : ℕ) (result : Result (Unit {0}) WriteFault) (made r : Report) (gives : WritesReport d Is out out' f f' result made) (is : r ≡ made) where
  pub given-whole : result ≡ Ok tt → RunsInto d Is out out' f f' (Ok r)
  given-whole whole = subst (λ (x : Report). RunsInto d Is out out' f f' (Ok x)) (sym is) (subst (λ (x : Result (Unit {0}) WriteFault). WritesReport d Is out out' f f' x made) whole gives)

  pub given-fault : (fault : WriteFault) (answer : IntoFault) → result ≡ Err fault → answer ≡ into_fault fault r → RunsInto d Is out out' f f' (Err answer)
  given-fault fault answer failed answers =
      subst (λ (x : IntoFault). RunsInto d Is out out' f f' (Err x)) (sym answers)
      (subst (λ (x : Report). WritesReport d Is out out' f f' (Err fault) x) (sym is) (subst (λ (x : Result (Unit {0}) WriteFault). WritesReport d Is out out' f f' x made) failed gives))

-- ---- the same of other words for the reports

part-as : (d : Description) (Is Has : OfRun) (out out' : Option (List ℕ)) (r : Report) → ((how : RunEnd) (r : Report) → Is how r → Has how r) → IsWrittenPart d Is out out' r → IsWrittenPart d Has out out' r
part-as d Is Has out out' r same p = record { how = p.how; report = same p.how r p.report; part = p.part; more = p.more; covers = p.covers }

short-as : (d : Description) (Is Has : OfRun) (out out' : Option (List ℕ)) (r : Report) → ((how : RunEnd) (r : Report) → Is how r → Has how r) → IsWrittenShort d Is out out' r → IsWrittenShort d Has out out' r
unfolding part-as
short-as d Is Has out out' r same s = record { written = part-as d Is Has out out' r same s.written; unsent = s.unsent }

runs-as : (d : Description) (Is Has : OfRun) (out out' : Option (List ℕ)) (f f' : ℕ) (answer : Result Report IntoFault) → ((how : RunEnd) (r : Report) → Is how r → Has how r)
    → RunsInto d Is out out' f f' answer → RunsInto d Has out out' f f' answer
runs-as d Is Has out out' f f' (Ok r) same runs = (same Whole r runs.0, runs.1)
runs-as d Is Has out out' f f' (Err (into.LogFull r)) same runs = (same Full r runs.0, runs.1)
runs-as d Is Has out out' f f' (Err (into.NoMemory r)) same (inl none) = inl none
runs-as d Is Has out out' f f' (Err (into.NoMemory r)) same (inr part) = inr (part-as d Is Has out out' r same part)
runs-as d Is Has out out' f f' (Err (into.Sink r)) same runs = (short-as d Is Has out out' r same runs.0, runs.1)

pub writes-as : (d : Description) (Is Has : OfRun) (out out' : Option (List ℕ)) (f f' : ℕ) (result : Result (Unit {0}) WriteFault) → ((how : RunEnd) (r : Report) → Is how r → Has how r)
    → WritesRun d Is out out' f f' result → WritesRun d Has out out' f f' result
writes-as d Is Has out out' f f' result same w = record { report = w.report; gives = runs-as d Is Has out out' f f' (with_report result w.report) same w.gives }
