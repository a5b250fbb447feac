use Rattle.std.proofs.Common.{subst}
use Rattle.std.specs.Prelude.{All, ℤ}
use Rattle.std.proofs.lemmas.List.{take_all}
use Rattle.std.proofs.lemmas.List.Elements.{All-more}
use Rattle.arrayvec.specs.ArrayVec.{ArrayVec}
use Rattle.mate_journal.specs.Entries.{AreValues}
use Rattle.journal_laws.proofs.ranges.buffers_are_in_range.Goals as goal

pub loop-buffer-preserved : goal.loop-buffer-preserved
loop-buffer-preserved c =
    All-more (λ (b : ArrayVec ℤ). AreValues b.items) c.args.buffers.now c.loop-buffer.buffer-index c.buffer-item.result c.loop-buffer-test.true c.loop-buffer.invariant
    (subst (λ (b : ArrayVec ℤ). AreValues b.items) c.buffer-item.is (subst AreValues c.as_slice.ensures.value (c.as_slice.ensures.fits, c.values_are_in_range.ensures)))

pub returns : goal.returns
returns c = subst (All (λ (b : ArrayVec ℤ). AreValues b.items)) (take_all c.loop-buffer.buffer-index c.args.buffers.now c.loop-buffer-test.false) c.loop-buffer.invariant
