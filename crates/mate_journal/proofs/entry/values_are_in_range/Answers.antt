use Rattle.std.proofs.Common.{get_or, pos, subst, rules}
use Rattle.std.specs.Prelude.{All, FitsSigned}
use Rattle.std.specs.Int.{w16}
use Rattle.std.proofs.lemmas.List.{take_all}
use Rattle.std.proofs.lemmas.List.Elements.{All-more}
use Rattle.mate_journal.proofs.entry.values_are_in_range.Goals as goal

pub loop-value-preserved : goal.loop-value-preserved
loop-value-preserved c =
    let fits : FitsSigned w16 (get_or c.args.values.now c.loop-value.value-index (pos 0)) = search rules in
    All-more (λ v. FitsSigned w16 v) c.args.values.now c.loop-value.value-index (pos 0) c.loop-value-test.true c.loop-value.invariant fits

pub returns : goal.returns
returns c = subst (All (λ v. FitsSigned w16 v)) (take_all c.loop-value.value-index c.args.values.now c.loop-value-test.false) c.loop-value.invariant
