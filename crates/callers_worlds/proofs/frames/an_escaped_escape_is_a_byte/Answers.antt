use Rattle.std.proofs.Common.{[], ◌∷◌, refl}
use Rattle.callers_worlds.proofs.PieceLemmas.{whole_bytes}
use Rattle.callers_worlds.proofs.frames.an_escaped_escape_is_a_byte.Goals as goal

pub returns : goal.returns
returns c = whole_bytes (219 ∷ 221 ∷ 7 ∷ []) (219 ∷ 7 ∷ []) c.frame.result refl (c.frame.ensures (219 ∷ 221 ∷ 7 ∷ []) c.read_piece.ensures)
