use Rattle.std.proofs.Common.{◌≡◌, ◌+◌, ◌-◌, ◌*◌, ◌/◌, ◌%◌, refl, arith}
use Rattle.event_queue.proofs.WheelLemmas.{ticks, crosses, turns_spread}
use Rattle.event_queue.proofs.wheel.Wheel.advance.Goals as goal

pub spread-requires : goal.spread-requires
spread-requires g c =
    let w = c.args.self.now in
    let over : w.at - w.at % 2048 + c.next.result ≡ (w.at / 2048 + 1) * 2048 = omega arith in
    (crosses g.T.Grouped.group_of w _ _ c.requires.right c.requires.done (λ s after before. c.next.ensures.between s after (omega (arith, before))) over (omega arith) refl).turning

pub returns-then-next-eq0-clause-turns : goal.returns-then-next-eq0-clause-turns
returns-then-next-eq0-clause-turns g c =
    let w = c.args.self.now in
    let over : w.at - w.at % 2048 + c.next.result ≡ (w.at / 2048 + 1) * 2048 = omega arith in
    turns_spread g.T.Grouped.group_of w _ c.spread.new.self
    (crosses g.T.Grouped.group_of w _ _ c.requires.right c.requires.done (λ s after before. c.next.ensures.between s after (omega (arith, before))) over (omega arith) refl) c.spread.ensures

pub returns-else-next-eq0-clause-turns : goal.returns-else-next-eq0-clause-turns
returns-else-next-eq0-clause-turns g c =
    let w = c.args.self.now in
    let block : (w.at - w.at % 2048 + c.next.result) / 2048 ≡ w.at / 2048 = omega arith in
    ticks g.T.Grouped.group_of w _ _ c.requires.right c.requires.done (λ s after before. c.next.ensures.between s after (omega (arith, before))) (omega arith) block (omega arith) refl

pub returns-then-next-until-clause-turns : goal.returns-then-next-until-clause-turns
returns-then-next-until-clause-turns g c =
    let w = c.args.self.now in
    let block : c.args.until / 2048 ≡ w.at / 2048 = omega arith in
    ticks g.T.Grouped.group_of w _ _ c.requires.right c.requires.done (λ s after before. c.next.ensures.between s after (omega (arith, before))) (omega arith) block (omega arith) refl
