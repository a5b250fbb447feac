use Rattle.std.proofs.Common.{arith, rules}
use Rattle.event_queue.proofs.WheelLemmas.{starts}
use Rattle.event_queue.proofs.wheel.Wheel.new.Goals as goal

pub returns-clause-right : goal.returns-clause-right
returns-clause-right g c =
    let made = c.in_ok-chains.ensures in
    record {
      turning = record {
        lists = made.lists;
        room = omega (arith, made.none);
        below = omega arith;
        spread = λ block low. made.empty _;
        past = λ t low. absurd (omega (arith, low));
        timely = search rules;
        marked = λ t unmarked. made.empty _;
      };
      current = made.empty _;
    }

pub returns-clause-none : goal.returns-clause-none
returns-clause-none g c = starts g.T.Grouped.group_of _ c.in_ok-chains.ensures.empty
