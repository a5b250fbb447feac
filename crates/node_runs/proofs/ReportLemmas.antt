-- The report of one node.
use Rattle.std.proofs.Common.{◌≡◌, List, ◌∷◌, [], length, refl, arith}
use Rattle.std.specs.Prelude.{slice_set}
use Rattle.mate_journal.specs.Log.{Log}

pub set-one : (logs : List Log) (l : Log) → length logs ≡ 1 → slice_set logs 0 l ≡ l ∷ []
set-one [] l count = cc
set-one (x ∷ []) l count = refl
set-one (x ∷ (y ∷ logs)) l count = absurd (omega (arith, count))
