use Rattle.std.proofs.Common.{◌≤◌, length, refl, sym, ◌∙◌, arith}
use Rattle.std.specs.Char.{is_ascii_digit}
use Rattle.std.specs.Cmp.Derive.{both_true}
use Rattle.std.proofs.lemmas.List.Folds.{list_all_more}
use Rattle.script_steps.proofs.NumberLemmas.{overflows, one_more_digit, all_digits, is_numeral-whole}
use Rattle.script_steps.proofs.words.numeral.Goals as goal

pub loop-place-init : goal.loop-place-init
loop-place-init c = record { number = refl; digits = refl }

pub beyond-requires-clause-large : goal.beyond-requires-clause-large
beyond-requires-clause-large c = overflows _ _ _ c.loop-place.invariant.number c.loop-place-test.true c.in_default.ensures

pub loop-place-preserved : goal.loop-place-preserved
loop-place-preserved c = record {
  number = one_more_digit _ _ _ _ c.loop-place.invariant.number c.loop-place-test.true c.in-Some.ensures;
  digits = list_all_more is_ascii_digit _ _ 0 c.loop-place-test.true ∙ both_true c.loop-place.invariant.digits (sym c.is_ascii_digit.ensures.value ∙ c.if-not-is_ascii_digit.false);
}

pub returns : goal.returns
returns c =
    let past : length c.args.word.now ≤ c.loop-place.place = omega (arith, c.loop-place-test.false) in (
      is_numeral-whole c.args.word.now c.loop-place.place c.loop-place.invariant.digits past (c.if-is_empty.ensures),
      all_digits c.args.word.now c.loop-place.place _ c.loop-place.invariant.number past,
    )
