-- A word that is not 0 has a bit, and the bit a resource.
use Rattle.mate_num.proofs.LockLemmas.{overlap_tells}
use Rattle.mate_num.proofs.lock_set.overlap.Goals as goal

pub returns : goal.returns
returns c = overlap_tells c.args.a c.args.b c.ranges.a.fits c.ranges.b.fits
