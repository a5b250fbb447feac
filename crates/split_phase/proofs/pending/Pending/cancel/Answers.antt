use Rattle.std.proofs.Common.{◌≡◌, subst, sym}
use Rattle.split_phase.specs.Calls.{AreNone}
use Rattle.split_phase.proofs.CallLemmas.{AreNone-gone}
use Rattle.split_phase.proofs.pending.Pending.cancel.Goals as goal

pub returns : goal.returns
returns c = subst AreNone (sym c.cancel_all.ensures) (AreNone-gone _ c.self.invariant)
