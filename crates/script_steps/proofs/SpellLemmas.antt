-- Bytes that are compared one by one.
use Rattle.std.proofs.Common.{◌≡◌, ℕ, ◌==◌, ◌&&◌, List, [], ◌∷◌, length, refl, ap, arith}
use Rattle.std.specs.List.{zip, list_all}
use Rattle.std.specs.Str.{bytes_eq}

-- of as many bytes as a text has, all are those of the text exactly where the bytes are the text
pub all-same : (bytes text : List ℕ) → length bytes ≡ length text → list_all (λ p. p.0 == p.1) (zip bytes text) ≡ bytes_eq bytes text
all-same [] [] same = refl
all-same [] (t ∷ text) same = absurd (omega (arith, same))
all-same (b ∷ bytes) [] same = absurd (omega (arith, same))
all-same (b ∷ bytes) (t ∷ text) same = ap (λ rest. (b == t) && rest) (all-same bytes text (omega (arith, same)))
