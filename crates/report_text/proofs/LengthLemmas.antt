-- The length of a line.
use Rattle.std.proofs.Common.{◌≡◌, ◌≤◌, ◌<◌, ℕ, Bool, not, ◌==◌, List, length, get_or, Option, None, Some, sym, ap, arith}
use Rattle.std.specs.Prelude.{unwrap_or}
use Rattle.std.specs.List.{prefix_len}
use Rattle.std.proofs.lemmas.Bool.{false_from_ne_true}
use Rattle.std.proofs.lemmas.List.Sums.{prefix_len_is}
use Rattle.memchr.specs.Find.{is_byte, IsFirstByte}

abbrev in_line : ℕ → Bool
in_line b = not (b == 10)

-- the place of the first LF, or the number of all bytes
pub length-found : (bytes : List ℕ) (r : Option ℕ) → IsFirstByte (is_byte 10) bytes r
    → (unwrap_or r (length bytes) ≡ prefix_len in_line bytes) × (unwrap_or r (length bytes) ≤ length bytes)
length-found bytes None none = (
  sym (prefix_len_is in_line bytes (length bytes) 0 (omega arith) (λ k less. ap not (false_from_ne_true (get_or bytes k 0 == 10) (none k (omega arith) less)))
      (λ more. absurd (omega (arith, more)))),
  omega arith,
)
length-found bytes (Some n) found =
    let low : n < length bytes = found.0.high in (
      sym (prefix_len_is in_line bytes n 0 (omega (arith, low)) (λ k less. ap not (false_from_ne_true (get_or bytes k 0 == 10) (found.0.before k (omega arith) less)))
          (λ more. ap not found.1)),
      omega (arith, low),
    )
