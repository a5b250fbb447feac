use Rattle.std.proofs.Common.{◌≡◌, ◌+◌, ◌*◌, ℕ, ap, length, sym, ◌∙◌, arith}
use Rattle.std.specs.Char.{is_ascii_digit}
use Rattle.std.specs.Cmp.Derive.{both_true}
use Rattle.std.proofs.lemmas.List.Folds.{list_all_more}
use Rattle.script_steps.proofs.NumberLemmas.{one_more_digit}
use Rattle.script_steps.proofs.words.leading_number.Goals as goal

pub loop-place-init : goal.loop-place-init
loop-place-init c = record { number = c.in_ok-number.ensures.spelled; digits = c.in_ok-number.ensures.all_digits }

pub loop-place-preserved : goal.loop-place-preserved
loop-place-preserved c = record {
  number = one_more_digit _ _ _ _ c.loop-place.invariant.number c.loop-place-test.true (ap (λ (d : ℕ). c.loop-place.number * 10 + d) c.value_of.ensures.value);
  digits = list_all_more is_ascii_digit _ _ 0 c.loop-place-test.true ∙ both_true c.loop-place.invariant.digits (sym c.is_ascii_digit.ensures.value ∙ c.if-not-is_ascii_digit.false);
}

pub returns-then-not-is_ascii_digit : goal.returns-then-not-is_ascii_digit
returns-then-not-is_ascii_digit c =
    let below = c.loop-place-test.true in
    record { some = omega arith; within = omega (arith, below); all_digits = c.loop-place.invariant.digits; spelled = c.loop-place.invariant.number }

pub returns : goal.returns
returns c =
    let end = c.loop-place.auto.place-end in
    let past = c.loop-place-test.false in
    let some = c.in_ok-number.ensures.within in
    let all : c.loop-place.place ≡ length c.args.bytes.now = omega (arith, end, past, some) in
    record { some = omega (arith, some); within = omega arith; all_digits = rw all at c.loop-place.invariant.digits; spelled = rw all at c.loop-place.invariant.number }
