-- Where the instructions stand that bytes decode to, and how many bytes they take.
use Rattle.std.proofs.Common.{◌≡◌, ℕ, List, length, ap, sym, ◌∙◌, subst}
use Rattle.mate_code.specs.Run.{Code, size_of_code}
use Rattle.mate_code.specs.Code.{instrs_of, IsDecoded}
use Rattle.mate_code.specs.Table.{Layout}
use Rattle.mate_code.specs.Verification.{AreFrom}
use Rattle.mate_code.proofs.BytesVerificationLemmas.{placed-AreFrom, size_of_code-placed}

-- what bytes decode to stands one after another, and takes as many bytes
pub decoded-AreFrom : (t : Layout) (bytes : List ℕ) (pairs : Code) → IsDecoded t 0 bytes pairs → AreFrom 0 pairs
decoded-AreFrom t bytes pairs d = let From : Code → Type 0 = λ c. AreFrom 0 c in subst From d.places (placed-AreFrom 0 (instrs_of pairs))

pub decoded-size : (t : Layout) (bytes : List ℕ) (pairs : Code) → IsDecoded t 0 bytes pairs → size_of_code pairs ≡ length bytes
decoded-size t bytes pairs d =
    ap (λ (c : Code). size_of_code c) (sym d.places) ∙ size_of_code-placed t 0 (instrs_of pairs) ∙ ap (λ (bs : List ℕ). length bs) d.encoding
