use Rattle.std.proofs.Common.{◌≡◌, ◌+◌, ◌-◌, ◌<◌, length, pos, get_or, FitsSigned, rules, arith}
use Rattle.std.specs.Int.{w16}
use Rattle.report_writer.specs.Words.{value}
use Rattle.report_writer.proofs.ChunkLemmas.{IsInFront-start, IsInFront-next, IsInFront-all, IsInFront-value}
use Rattle.report_writer.proofs.front.values_in_front.Goals as goal

pub loop-left-init : goal.loop-left-init
loop-left-init g c = record {
  piece = IsInFront-start value c.args.vs.now (length c.args.vs.now) (omega arith);
  within = omega arith;
  fits = omega arith;
}

pub loop-left-preserved : goal.loop-left-preserved
loop-left-preserved g c =
    let i = c.loop-left.left - 1 in
    let at : c.loop-left.left ≡ i + 1 = omega arith in
    let below : i < length c.args.vs.now = omega arith in
    let v = get_or c.args.vs.now i (pos 0) in
    let fits : FitsSigned w16 v = search rules in record {
      piece = IsInFront-next value c.args.vs.now i c.loop-left.left (pos 0) at below (IsInFront-value v fits c.value_in_front.ensures.adds) c.loop-left.invariant.piece;
      within = omega arith;
      fits = omega arith;
    }

pub returns-clause-adds : goal.returns-clause-adds
returns-clause-adds g c = IsInFront-all value c.args.vs.now c.loop-left.left (omega arith) c.loop-left.invariant.piece
