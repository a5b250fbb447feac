use Rattle.std.proofs.Common.{[]}
use Rattle.callers_worlds.proofs.frames.an_escaped_end_is_a_byte.Goals as goal

pub returns : goal.returns
returns c = c.in_ok-feed.ensures.holds [] c.new.ensures.fed c.new-frames.ensures
