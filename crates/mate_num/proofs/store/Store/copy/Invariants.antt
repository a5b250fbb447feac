use Rattle.std.proofs.Common.{◌≡◌, take}
use Rattle.mate_num.proofs.store.Store.copy.Given as goal

abbrev pub invariant-loop-buffer : goal.invariant-loop-buffer
invariant-loop-buffer l = l.buffers.items ≡ take l.buffer-index l.buffer-items
