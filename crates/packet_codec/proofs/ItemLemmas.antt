-- The items of a packet: versions of four bytes, and values of two.
use Rattle.std.proofs.Common.{◌≡◌, ℕ, zero, suc, ◌+◌, ◌*◌, ◌^◌, ◌<◌, List, [], ◌∷◌, ◌++◌, length, take, ℤ, Fits, refl, sym, ap, ◌∙◌, arith}
use Rattle.std.specs.Prelude.{All, FitsSigned}
use Rattle.std.specs.Int.{w16, w32, to_be_bytes, from_be_bytes, cast_signed, cast_unsigned}
use Rattle.std.proofs.lemmas.Int.{of_z-to_z, to_z-of_z}
use mir.ValLaws.{of_z_fits, to_z-Fits}
use Rattle.std.proofs.lemmas.List.Elements.{All-nil, All-cons, All-head, All-tail}
use Rattle.std.proofs.lemmas.Nat.{be_bytes_2, be_bytes_4, from_be_bytes-to_be_bytes_2, from_be_bytes-to_be_bytes_4}
use Rattle.capsule_codec.specs.Image.{IsBytes}
use Rattle.capsule_codec.proofs.ImageLemmas.{IsBytes-take, IsBytes-drop}
use Rattle.packet_codec.specs.Bytes.{version_bytes, value_bytes}
use Rattle.packet_codec.specs.Reading.{u32_of, versions_in, values_in}

-- ---- versions

pub length-version_bytes : (versions : List ℕ) → length (version_bytes versions) ≡ 4 * length versions
length-version_bytes [] = refl
length-version_bytes (v ∷ versions) = let h = length-version_bytes versions in omega (arith, h)

pub versions_in-version_bytes : (versions : List ℕ) → All (λ version. version < 2 ^ 32) versions → versions_in (version_bytes versions) ≡ versions
versions_in-version_bytes [] fit = refl
versions_in-version_bytes (v ∷ versions) fit =
    let here = All-head (λ (version : ℕ). version < 2 ^ 32) v versions fit in
    let first = from_be_bytes-to_be_bytes_4 v here in
    rw (first, versions_in-version_bytes versions (All-tail (λ (version : ℕ). version < 2 ^ 32) v versions fit)) refl

-- bytes that are four for each of so many versions
pub record AreVersions (count : ℕ) (bytes versions : List ℕ) : Type 0 where
  pub len : length versions ≡ count
  pub back : version_bytes versions ≡ bytes
  pub fit : All (λ version. version < 2 ^ 32) versions

pub versions_are : (count : ℕ) (bytes : List ℕ) → length bytes ≡ 4 * count → IsBytes bytes → AreVersions count bytes (versions_in bytes)
versions_are zero [] len fits = record { len = refl; back = refl; fit = All-nil (λ (version : ℕ). version < 2 ^ 32) }
versions_are (suc count) (a ∷ b ∷ c ∷ d ∷ bytes) len fits =
    let whole : List ℕ = a ∷ b ∷ c ∷ d ∷ bytes in
    let first : to_be_bytes w32 (u32_of a b c d) ≡ a ∷ b ∷ c ∷ d ∷ [] = be_bytes_4 (a ∷ b ∷ c ∷ d ∷ []) (u32_of a b c d) refl (IsBytes-take 4 whole fits) refl in
    let low : u32_of a b c d < 2 ^ 32 = omega (arith, fits 0, fits 1, fits 2, fits 3) in
    let rest = versions_are count bytes (omega arith) (IsBytes-drop 4 whole fits) in
    record {
      len = ap suc rest.len;
      back = cc (first, rest.back);
      fit = All-cons (λ (version : ℕ). version < 2 ^ 32) (u32_of a b c d) (versions_in bytes) low rest.fit;
    }
versions_are count _ len fits = absurd (omega arith)

-- ---- values

pub length-value_bytes : (values : List ℤ) → length (value_bytes values) ≡ 2 * length values
length-value_bytes [] = refl
length-value_bytes (v ∷ values) = let h = length-value_bytes values in omega (arith, h)

pub values_in-value_bytes : (values : List ℤ) → All (λ value. FitsSigned w16 value) values → values_in (value_bytes values) ≡ values
values_in-value_bytes [] fit = refl
values_in-value_bytes (v ∷ values) fit =
    let here : FitsSigned w16 v = All-head (λ (value : ℤ). FitsSigned w16 value) v values fit in
    let bits : from_be_bytes w16 (to_be_bytes w16 (cast_unsigned w16 v)) ≡ cast_unsigned w16 v = from_be_bytes-to_be_bytes_2 (cast_unsigned w16 v) (of_z_fits w16 v here).fits in
    let first : cast_signed w16 (from_be_bytes w16 (to_be_bytes w16 (cast_unsigned w16 v))) ≡ v = ap (cast_signed w16) bits ∙ to_z-of_z w16 v here in
    rw (first, values_in-value_bytes values (All-tail (λ (value : ℤ). FitsSigned w16 value) v values fit)) refl

-- bytes that are two for each of so many values
pub record AreValues (count : ℕ) (bytes : List ℕ) (values : List ℤ) : Type 0 where
  pub len : length values ≡ count
  pub back : value_bytes values ≡ bytes
  pub fit : All (λ value. FitsSigned w16 value) values

pub values_are : (count : ℕ) (bytes : List ℕ) → length bytes ≡ 2 * count → IsBytes bytes → AreValues count bytes (values_in bytes)
values_are zero [] len fits = record { len = refl; back = refl; fit = All-nil (λ (value : ℤ). FitsSigned w16 value) }
values_are (suc count) (a ∷ b ∷ bytes) len fits =
    let whole : List ℕ = a ∷ b ∷ bytes in
    let n : ℕ = from_be_bytes w16 (a ∷ b ∷ []) in
    let low : Fits w16 n = record { fits = omega (arith, fits 0, fits 1) } in
    let bits : cast_unsigned w16 (cast_signed w16 n) ≡ n = of_z-to_z w16 n low.fits in
    let cells : to_be_bytes w16 n ≡ a ∷ b ∷ [] = be_bytes_2 (a ∷ b ∷ []) n refl (IsBytes-take 2 whole fits) refl in
    let first : to_be_bytes w16 (cast_unsigned w16 (cast_signed w16 n)) ≡ a ∷ b ∷ [] = ap (to_be_bytes w16) bits ∙ cells in
    let rest = values_are count bytes (omega arith) (IsBytes-drop 2 whole fits) in
    record {
      len = ap suc rest.len;
      back = cc (first, rest.back);
      fit = All-cons (λ (value : ℤ). FitsSigned w16 value) (cast_signed w16 n) (values_in bytes) (to_z-Fits w16 n low) rest.fit;
    }
values_are count _ len fits = absurd (omega arith)
