-- Lemmas on `specs/Pen.antt`: many pieces that a pen prints in a row.
use Rattle.std.proofs.Common.{◌≡◌, ℕ, ◌/◌, ◌%◌, List, [], ◌∷◌, ◌++◌, Result, Ok, Err, refl, sym, ◌∙◌, ap, subst}
use Rattle.std.specs.Prelude.{slice_index, ◌<◌, ◌≤◌, ◌+◌, length, take, flat_map, ℤ}
use Rattle.std.proofs.Common.{get_or, append-nil}
use Rattle.std.proofs.lemmas.Grind.{flat_map-append}
use Rattle.std.proofs.lemmas.Int.{to_z-of_z}
use Rattle.std.proofs.lemmas.List.{take_all, take_more}
use Rattle.std.specs.Fmt.{signed_decimal}
use mir.Val.{SFits, of_z, to_z}
use mir.Syntax.{w16}
use Rattle.std.specs.declared.option.Option.{Option}
use Rattle.mate_files.specs.Sink.{Puts}
use Rattle.hex.specs.Hex.{encode_lower, lower_digits}
use Rattle.mate_files.specs.Pen.{Prints}
use Rattle.mate_files.specs.declared.sink.SinkFault.{SinkFault}
use Rattle.mate_files.proofs.SinkLemmas.{Puts-nil, Puts-trans, Puts-stop}

-- a pen that isn't used prints nothing
pub Prints-nil : {w : Option (List ℕ)} {f : ℕ} {r : Result (Unit {0}) SinkFault} → Prints w f r w f r []
Prints-nil {r = Ok u} = record { going = Puts-nil; stopped = tt }
Prints-nil {r = Err fault} = record { going = tt; stopped = (refl, refl, refl) }

-- bs is printed, and then cs
infixl 20 ◌⟫◌
pub ◌⟫◌ : {w0 w1 w2 : Option (List ℕ)} {f0 f1 f2 : ℕ} {r0 r1 r2 : Result (Unit {0}) SinkFault} {bs cs : List ℕ}
    → Prints w0 f0 r0 w1 f1 r1 bs → Prints w1 f1 r1 w2 f2 r2 cs → Prints w0 f0 r0 w2 f2 r2 (bs ++ cs)
◌⟫◌ {r0 = Ok u} {r1 = Ok v} p q = record { going = Puts-trans p.going q.going; stopped = tt }
◌⟫◌ {r0 = Ok u} {r1 = Err fault} {cs = cs} p q = record {
  going = rw (q.stopped.0, q.stopped.1, q.stopped.2) (Puts-stop p.going cs);
  stopped = tt;
}
◌⟫◌ {w1 = w1} {w2 = w2} {f1 = f1} {f2 = f2} {r0 = Err fault} {r2 = r2} {cs = cs} p q =
    let q' = subst (λ r. Prints w1 f1 r w2 f2 r2 cs) p.stopped.2 q in record {
      going = tt;
      stopped = (q'.stopped.0 ∙ p.stopped.0, q'.stopped.1 ∙ p.stopped.1, q'.stopped.2);
    }

-- the same of an equal text
pub Prints-by : {w0 w1 : Option (List ℕ)} {f0 f1 : ℕ} {r0 r1 : Result (Unit {0}) SinkFault} {bs cs : List ℕ}
    → bs ≡ cs → Prints w0 f0 r0 w1 f1 r1 bs → Prints w0 f0 r0 w1 f1 r1 cs
Prints-by {w0} {w1} {f0} {f1} {r0} {r1} e p = subst (Prints w0 f0 r0 w1 f1 r1) e p

-- from a new pen to `finish`: the text is written as by one `put`
pub Puts-finished : {w0 w1 : Option (List ℕ)} {f0 f1 : ℕ} {r0 r1 r : Result (Unit {0}) SinkFault} {bs : List ℕ}
    → r0 ≡ Ok tt → r ≡ r1 → Prints w0 f0 r0 w1 f1 r1 bs → Puts w0 f0 w1 f1 r bs
Puts-finished {w0} {w1} {f0} {f1} {r0} {r1} {r} {bs} new finish p =
    let fresh = subst (λ x. Prints w0 f0 x w1 f1 r1 bs) new p in
    subst (λ x. Puts w0 f0 w1 f1 x bs) (sym finish) fresh.going

-- the digits of two lists of bytes, one behind the other
pub encode_lower-append : (xs ys : List ℕ) → encode_lower (xs ++ ys) ≡ encode_lower xs ++ encode_lower ys
unfolding Rattle.hex.specs.Hex.encode_with
encode_lower-append [] ys = refl
encode_lower-append (x ∷ xs) ys = ap (λ zs. slice_index lower_digits (x / 16) ∷ slice_index lower_digits (x % 16) ∷ zs) (encode_lower-append xs ys)

-- ---- a loop that prints a piece for each item

-- the pieces of one more item
flat_map-next : {A : Type 0} (piece : A → List ℕ) (xs : List A) (i : ℕ) (d : A) → i < length xs
    → flat_map piece (take (i + 1) xs) ≡ flat_map piece (take i xs) ++ piece (get_or xs i d)
flat_map-next piece xs i d h =
    ap (flat_map piece) (take_more xs i d h) ∙ flat_map-append piece (take i xs) (get_or xs i d ∷ [])
    ∙ ap (λ ys. flat_map piece (take i xs) ++ ys) (append-nil (piece (get_or xs i d)))

-- the piece of the next item, which stands at i
pub Prints-next : {w0 w1 w2 : Option (List ℕ)} {f0 f1 f2 : ℕ} {r0 r1 r2 : Result (Unit {0}) SinkFault} {A : Type 0} (piece : A → List ℕ) (xs : List A) (i : ℕ) (d : A)
    → i < length xs → Prints w0 f0 r0 w1 f1 r1 (flat_map piece (take i xs)) → Prints w1 f1 r1 w2 f2 r2 (piece (get_or xs i d))
    → Prints w0 f0 r0 w2 f2 r2 (flat_map piece (take (i + 1) xs))
Prints-next piece xs i d h p q = Prints-by (sym (flat_map-next piece xs i d h)) (p ⟫ q)

-- the same, where the item is known by its place
pub Prints-next_item : {w0 w1 w2 : Option (List ℕ)} {f0 f1 f2 : ℕ} {r0 r1 r2 : Result (Unit {0}) SinkFault} {A : Type 0} (piece : A → List ℕ) (xs : List A) (i : ℕ) (x : A)
    → i < length xs → x ≡ get_or xs i x → Prints w0 f0 r0 w1 f1 r1 (flat_map piece (take i xs)) → Prints w1 f1 r1 w2 f2 r2 (piece x)
    → Prints w0 f0 r0 w2 f2 r2 (flat_map piece (take (i + 1) xs))
Prints-next_item piece xs i x h e p q = Prints-next piece xs i x h p (Prints-by (ap piece e) q)

-- the loop went past the last item
pub Prints-all : {w0 w1 : Option (List ℕ)} {f0 f1 : ℕ} {r0 r1 : Result (Unit {0}) SinkFault} {A : Type 0} (piece : A → List ℕ) (xs : List A) (i : ℕ)
    → length xs ≤ i → Prints w0 f0 r0 w1 f1 r1 (flat_map piece (take i xs)) → Prints w0 f0 r0 w1 f1 r1 (flat_map piece xs)
Prints-all piece xs i h p = Prints-by (ap (flat_map piece) (take_all i xs h)) p

-- a signed number as it is passed to a call
pub Prints-signed : {w0 w1 : Option (List ℕ)} {f0 f1 : ℕ} {r0 r1 : Result (Unit {0}) SinkFault} (z : ℤ)
    → SFits w16 z → Prints w0 f0 r0 w1 f1 r1 (signed_decimal (to_z w16 (of_z w16 z))) → Prints w0 f0 r0 w1 f1 r1 (signed_decimal z)
Prints-signed z fits p = Prints-by (ap signed_decimal (to_z-of_z w16 z fits)) p
