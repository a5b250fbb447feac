use Rattle.std.proofs.Common.{IsTrue, refl, subst, rules}
use Rattle.vm_shape.specs.Limits.{is_trickle}
use Rattle.trickle_timer.specs.Timer.{Timer}
use Rattle.trickle_timer.proofs.IntervalLemmas.{Decides-at_point}
use Rattle.trickle_timer.proofs.timer.Trickle.fire.Goals as goal

pub returns : goal.returns
returns c =
    let P : Timer → Type 0 = λ t. IsTrue (is_trickle t.set) in
    record {
      rule = Decides-at_point c.args.self.now c.args.suppress c.if-suppress.result (subst P c.self.view_is c.self.invariant.settings) (search rules);
      same = refl;
    }
