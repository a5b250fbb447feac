use Rattle.std.proofs.Common.{◌≡◌, ◌∙◌, List}
use Rattle.slip_gateway.specs.declared.frames.Frame.{Frame}
use Rattle.slip_gateway.proofs.FedLemmas.{HasFed-more, holds_frames}
use Rattle.slip_gateway.proofs.slip.Slip.feed.Goals as goal

pub returns-clause-fed : goal.returns-clause-fed
returns-clause-fed c =
    λ fed h. HasFed-more c.args.self.now c.read.new.self c.reserve.new.self.items c.read.new.into.items fed c.args.piece.now
    (record { reads = c.read.ensures }) h

pub returns-clause-holds : goal.returns-clause-holds
returns-clause-holds c =
    let before : List Frame = c.reserve.new.self.items in
    let same : before ≡ c.args.into.now = cc (c.in_ok-reserve.ensures.items, c.into.view_is) in
    λ fed h e. holds_frames c.args.self.now c.read.new.self before c.read.new.into.items fed c.args.piece.now
    (record { reads = c.read.ensures }) h (same ∙ e)
