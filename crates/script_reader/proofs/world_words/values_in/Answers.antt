use Rattle.std.proofs.Common.{◌≡◌, ◌<◌, ◌≤◌, length, arith}
use Rattle.std.proofs.lemmas.Bool.Decides.{nat_tests}
use Rattle.std.proofs.lemmas.Result.{err_from_is_err_and}
use Rattle.std.proofs.lemmas.Int.{to_z-of_z}
use Rattle.std.specs.Int.{w16}
use mir.Val.{SFits}
use Rattle.script_steps.specs.Lines.{split_words}
use Rattle.script_steps.proofs.NumberLemmas.{value_fits}
use Rattle.script_reader.proofs.ValueLemmas.{read_first, read_on, one_less_word, no_words, fails_on, all_read}
use Rattle.script_reader.proofs.world_words.values_in.Goals as goal

pub returns-then-is_done : goal.returns-then-is_done
returns-then-is_done c = record { value = no_words (split_words c.args.words.now) (grind (arith, nat_tests)); some = tt }

pub values-init : goal.values-init
values-init c = rw c.new-values.ensures (read_first (split_words c.args.words.now) (grind (arith, nat_tests)))

pub values-preserved : goal.values-preserved
values-preserved c =
    let fits : SFits w16 c.in_ok-value.value = value_fits _ _ c.in_ok-value.ensures in
    rw (c.in_ok-push.ensures, to_z-of_z w16 c.in_ok-value.value fits) (read_on _ _ _ _ _ c.values.invariant c.in_ok-value.ensures)

pub values-smaller : goal.values-smaller
values-smaller c = one_less_word _ _ _ c.in_ok-value.ensures

pub returns-in_err-value-clause-value : goal.returns-in_err-value-clause-value
returns-in_err-value-clause-value c =
    let e = err_from_is_err_and c.from_residual.result c.from_residual.ensures.1 in
    let begun : 1 ≤ length (split_words c.args.words.now) = grind (arith, nat_tests) in
    let left : 0 < length (split_words c.values.words) = grind (arith, nat_tests) in
    rw (e.1, e.2) (fails_on (split_words c.args.words.now) (split_words c.values.words) c.values.values _ begun c.values.invariant left c.in_err-value.ensures)

pub returns : goal.returns
returns c =
    let begun : 1 ≤ length (split_words c.args.words.now) = grind (arith, nat_tests) in
    let none : length (split_words c.values.words) ≡ 0 = grind (arith, nat_tests) in
    record { value = all_read (split_words c.args.words.now) (split_words c.values.words) c.values.values begun c.values.invariant none; some = omega (arith, c.values.invariant.some) }
