use Rattle.std.proofs.Common.{[], ◌∷◌, refl}
use Rattle.callers_worlds.proofs.PieceLemmas.{whole_bytes}
use Rattle.callers_worlds.proofs.frames.a_piece_is_read_anew.Goals as goal

pub returns : goal.returns
returns c = whole_bytes (7 ∷ []) (7 ∷ []) c.frame.result refl (c.frame.ensures (7 ∷ []) c.read_piece-2.ensures)
