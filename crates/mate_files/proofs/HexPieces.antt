-- Bytes that a pen prints as hexadecimal digits, some at a time.
use Rattle.std.proofs.Common.{◌≡◌, ℕ, List, [], ◌++◌, take, drop, Result, refl, sym, ◌∙◌, ap, append_assoc, take-append-drop}
use Rattle.std.specs.declared.option.Option.{Option}
use Rattle.hex.specs.Hex.{encode_lower}
use Rattle.mate_files.specs.Pen.{Prints}
use Rattle.mate_files.specs.declared.sink.SinkFault.{SinkFault}
use Rattle.mate_files.proofs.PenLemmas.{Prints-nil, Prints-by, ◌⟫◌, encode_lower-append}

-- the digits of all of bs were printed but those of `rest` at its end
pub record HexUpTo (w0 : Option (List ℕ)) (f0 : ℕ) (r0 : Result (Unit {0}) SinkFault) (w1 : Option (List ℕ)) (f1 : ℕ) (r1 : Result (Unit {0}) SinkFault) (rest bs : List ℕ) : Type 0 where
  pub front : List ℕ
  pub whole : front ++ rest ≡ bs
  pub printed : Prints w0 f0 r0 w1 f1 r1 (encode_lower front)

pub HexUpTo-start : (w : Option (List ℕ)) (f : ℕ) (r : Result (Unit {0}) SinkFault) (bs : List ℕ) → HexUpTo w f r w f r bs bs
unfolding Rattle.hex.specs.Hex.encode_with
HexUpTo-start w f r bs = record { front = []; whole = refl; printed = Prints-nil }

-- a piece prints the first n bytes that are left
pub HexUpTo-piece : {w0 w1 w2 : Option (List ℕ)} {f0 f1 f2 : ℕ} {r0 r1 r2 : Result (Unit {0}) SinkFault} {rest bs digits : List ℕ} (n : ℕ)
    → HexUpTo w0 f0 r0 w1 f1 r1 rest bs → digits ≡ encode_lower (take n rest) → Prints w1 f1 r1 w2 f2 r2 digits
    → HexUpTo w0 f0 r0 w2 f2 r2 (drop n rest) bs
HexUpTo-piece {rest = rest} n p e q = record {
  front = p.front ++ take n rest;
  whole = append_assoc p.front (take n rest) (drop n rest) ∙ ap (λ xs. p.front ++ xs) (take-append-drop n rest) ∙ p.whole;
  printed = Prints-by (sym (encode_lower-append p.front (take n rest))) (p.printed ⟫ Prints-by e q);
}
