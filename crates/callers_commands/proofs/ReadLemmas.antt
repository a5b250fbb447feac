-- What is read of a few lines.
use Rattle.std.proofs.Common.{◌≡◌, ℕ, Bool, true, false, ◌&&◌, ◌⊎◌, inl, inr, List, [], ◌∷◌, Ok, Err, codes, refl, ap, ◌∙◌, arith, lit<, lit≤}
use Rattle.std.specs.Fmt.{digits}
use Rattle.std.specs.Prelude.{◌==◌, nat_le, All, Result}
use Rattle.std.proofs.lemmas.List.Elements.{All-nil}
use Rattle.vm_shape.specs.declared.description.Description.{Description}
use Rattle.mate_journal.specs.declared.air.Air.TheVariants.{Lost}
use Rattle.mate_journal.specs.declared.report.Report.{Report}
use Rattle.report_writer.specs.Tidy.{IsNoEarlier, AreOfOneNode}
use Rattle.report_line_reader.specs.Reading.{line_with}
use Rattle.report_line_reader.specs.declared.line.Line.{Line}
use Rattle.report_line_reader.specs.declared.line.Told.TheVariants.{OnAir}
use Rattle.report_text.specs.Fits.{line_mark, AreFitting, IsSound, IsLineBelow, FitsLast}
use Rattle.report_text.specs.LastLines.{last_with}
use Rattle.report_text.specs.Reads.{AreLines, IsBadLine, ReadsReport}
use Rattle.report_text.specs.Steps.{fits_last}
use Rattle.report_text.specs.declared.fault.TextFault.{TextFault}
use Rattle.report_text.specs.declared.fault.TextFault.TheVariants.{BadLine, NoMemory}
use Rattle.report_text.specs.declared.last_line.LastLine.{LastLine}
use Rattle.report_text.specs.declared.parts.Parts.{Parts}

no_lines : (d : Description) → AreFitting d []
no_lines d = record {
  sound = All-nil (IsSound d);
  order = record {
    ordered = λ i j x small within. absurd (omega (arith, within));
    in_time = All-nil (λ (a : Line). All (λ (b : Line). IsNoEarlier (line_mark a) (line_mark b)) []);
    one_node = All-nil (λ (a : Line). All (λ (b : Line). AreOfOneNode [] (line_mark a) (line_mark b)) []);
  };
}

abbrev the_last : LastLine
the_last = last_with true 0 5 1

last_fits : FitsLast [] the_last
last_fits = record {
  ranges = record { records = lit< tt; events = lit< tt; nodes = lit< tt };
  records = refl;
  low = lit≤ tt;
  high = lit≤ tt;
  above = All-nil (IsLineBelow 1);
}

second_is_bad : (d : Description) → IsBadLine d (codes "end 0 5 1\n\n") 2
unfolding digits
second_is_bad d = record {
  before = [];
  left = codes "end 0 5 1\n\n";
  fitting = no_lines d;
  text = refl;
  bad = inr (record { e = the_last; more = 10 ∷ []; last = last_fits; is = refl; some = lit< tt }, refl);
}

-- by the laws of verdicts no other line is bad, and there is no report
pub only_second : (d : Description) (result : Result Report TextFault)
    → ((bytes : List ℕ) (m n : ℕ) → IsBadLine d bytes m → IsBadLine d bytes n → m ≡ n)
    → ((bytes : List ℕ) (ls : List Line) (e : LastLine) (n : ℕ) → AreLines d bytes ls e → IsBadLine d bytes n → ⊥)
    → ReadsReport d (codes "end 0 5 1\n\n") result → (result ≡ Err (BadLine 2)) ⊎ (result ≡ Err NoMemory)
only_second d (Ok r) bad apart reads = absurd (apart (codes "end 0 5 1\n\n") reads.ls reads.e 2 reads.lines (second_is_bad d))
only_second d (Err (BadLine line)) bad apart reads = inl (ap (λ (n : ℕ). Err (BadLine n)) (bad (codes "end 0 5 1\n\n") line 2 reads (second_is_bad d)))
only_second d (Err NoMemory) bad apart reads = inr refl

-- a packet that is lost to node 5
abbrev pub a_loss : Line
a_loss = line_with 0 0 0 (OnAir (Lost 1 5))

pub loss_is_sound : (d : Description) → IsSound d a_loss
loss_is_sound d = record {
  right = record { node = lit< tt; told = lit< tt };
  ranges = record { event = lit< tt; time = lit< tt; told = lit< tt };
}

never : (b : Bool) → (b && false) ≡ false
never true = refl
never false = refl

pub five_are_too_few : (p : Parts) → p.nodes ≡ 6 → fits_last p (last_with true 1 0 5) ≡ false
five_are_too_few p is =
    let others : Bool = ((1 == p.count) && nat_le 1 5) && nat_le 5 64 in
    ap (λ (n : ℕ). others && nat_le n 5) is ∙ never others
