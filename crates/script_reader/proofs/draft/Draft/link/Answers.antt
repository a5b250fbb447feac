use Rattle.std.proofs.Common.{arith}
use Rattle.std.proofs.lemmas.Grind.{common_steps}
use Rattle.script_reader.proofs.draft.Draft.link.Goals as goal

pub returns-clause-right : goal.returns-clause-right
returns-clause-right c =
    let free = c.in_ok-to.ensures.free in
    (record { from_high = c.in_ok-from.ensures.below; to_high = c.in_ok-to.ensures.below; apart = λ same. grind (arith, common_steps); loss_high = c.in_ok-loss.ensures.high }, free, c.requires.stage)
