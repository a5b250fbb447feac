use Rattle.std.proofs.Common.{[], ◌∙◌}
use Rattle.callers_worlds.proofs.FrameLemmas.{long_frame}
use Rattle.callers_worlds.proofs.frames.a_long_frame_has_no_bytes.Goals as goal

pub returns : goal.returns
returns c = λ bytes whole one some is long.
    c.in_ok-feed.ensures.holds [] c.new.ensures.fed c.new-frames.ensures ∙ long_frame c.args.piece.now bytes whole one some is long
