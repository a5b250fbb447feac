-- A turn prints the digits of the front of what is left.
use Rattle.std.proofs.Common.{ap, ◌∙◌}
use Rattle.hex.specs.Hex.{encode_lower}
use Rattle.mate_files.proofs.HexPieces.{HexUpTo-start, HexUpTo-piece}
use Rattle.mate_files.proofs.pen.Pen.hex.Goals as goal

pub loop-rest-init : goal.loop-rest-init
loop-rest-init g c = HexUpTo-start _ _ _ _

pub loop-rest-preserved : goal.loop-rest-preserved
loop-rest-preserved g c =
    let digits = c.in-Ok.ensures.written ∙ ap encode_lower c.split_at.ensures.front in
    rw c.split_at.ensures.back (HexUpTo-piece _ c.loop-rest.invariant digits c.bytes.ensures)
