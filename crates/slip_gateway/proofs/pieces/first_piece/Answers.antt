use Rattle.std.proofs.Common.{ℕ, List, take, subst, sym}
use Rattle.slip_gateway.specs.Pieces.{IsFirstPiece}
use Rattle.slip_gateway.proofs.PieceLemmas.{no_frames, first_cut}
use Rattle.slip_gateway.proofs.pieces.first_piece.Goals as goal

pub returns-in_err-length : goal.returns-in_err-length
returns-in_err-length c = rw c.from_residual.ensures (no_frames c.args.stream.now c.in_err-length.ensures)

pub returns : goal.returns
returns c =
    let bytes = c.args.stream.now in
    let n = c.in_ok-length.length in
    subst (λ (behind : List ℕ). IsFirstPiece bytes (take n bytes) behind) (sym c.split_at.ensures.back) (first_cut bytes n c.in_ok-length.ensures)
