use Rattle.std.proofs.Common.{[]}
use Rattle.callers_worlds.proofs.frames.an_open_escape_is_broken.Goals as goal

pub returns : goal.returns
returns c = c.in_ok-feed.ensures.holds [] c.new.ensures.fed c.new-frames.ensures
