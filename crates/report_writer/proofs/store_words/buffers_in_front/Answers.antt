use Rattle.std.proofs.Common.{◌≡◌, ◌+◌, ◌-◌, ◌<◌, length, get_or, List, ℕ, ◌∙◌, ap, arith}
use Rattle.std.specs.Prelude.{ℤ}
use Rattle.arrayvec.specs.ArrayVec.{ArrayVec}
use Rattle.mate_num.specs.Store.{payload}
use Rattle.std.specs.List.{zip}
use Rattle.report_writer.specs.Words.{buffer_word}
use Rattle.report_writer.proofs.ChunkLemmas.{IsInFront-by, IsInFront-start_pairs, IsInFront-next_pair, IsInFront-all}
use Rattle.report_writer.proofs.store_words.buffers_in_front.Goals as goal

pub loop-left-init : goal.loop-left-init
loop-left-init g c =
    let count = c.min-left.ensures in record {
      pieces = IsInFront-start_pairs buffer_word c.args.names.now c.args.buffers.now c.min-left.result count;
      named = omega (arith, count);
      valued = omega (arith, count);
      fits = omega (arith, count);
    }

pub loop-left-preserved : goal.loop-left-preserved
loop-left-preserved g c =
    let i = c.loop-left.left - 1 in
    let at : c.loop-left.left ≡ i + 1 = omega arith in
    let in_names : i < length c.args.names.now = omega arith in
    let in_buffers : i < length c.args.buffers.now = omega arith in
    let same = ap (λ (n : List ℕ). buffer_word (n, payload c.as_slice.result.now)) c.index-names-left.is
    ∙ ap (λ (vs : List ℤ). buffer_word (get_or c.args.names.now i c.index-names-left.result, payload vs)) c.as_slice.ensures.value
    ∙ ap (λ (b : ArrayVec ℤ). buffer_word (get_or c.args.names.now i c.index-names-left.result, b)) c.index-buffers-left.is in record {
      pieces = IsInFront-next_pair buffer_word c.args.names.now c.args.buffers.now i c.loop-left.left c.index-names-left.result c.index-buffers-left.result at in_names in_buffers
          (IsInFront-by same c.buffer_word.ensures.adds) c.loop-left.invariant.pieces;
      named = omega arith;
      valued = omega arith;
      fits = omega arith;
    }

pub returns-clause-adds : goal.returns-clause-adds
returns-clause-adds g c =
    IsInFront-all buffer_word (zip c.args.names.now c.args.buffers.now) c.loop-left.left (omega arith) c.loop-left.invariant.pieces
