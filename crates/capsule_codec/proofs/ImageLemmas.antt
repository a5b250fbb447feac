-- An image decodes to its capsule, and what decodes to a capsule is its one image.
use Rattle.std.proofs.Common.{◌≡◌, ℕ, ◌+◌, ◌<◌, ◌≤◌, Bool, true, false, cond, not, eqb, ltb, List, [], ◌∷◌, length, drop, take, Result, Ok, Err, refl, sym, ap, subst, ◌∙◌, arith, inl, inr}
use Rattle.std.specs.Int.{w16, w32, to_be_bytes}
use Rattle.std.proofs.lemmas.Bool.{cases_lt, or_cases, and_parts, and_from, le-ltb, lt-ltb, ltb-true, ltb-false, eqb-true, eqb-false, eq-eqb, ne_eqb, not_from_true, cond-false}
use Rattle.std.proofs.lemmas.Bool.Decides.{nat_tests}
use Rattle.std.specs.Prelude.{IfOk}
use Rattle.std.specs.Coded.{le_prop}
use Rattle.std.specs.List.{starts_with}
use Rattle.std.proofs.lemmas.List.{get_or-drop, get_or-take, get_or_past, length-take, length-drop}
use Rattle.std.proofs.lemmas.Slice.Eq.{bytes_eq-Decides}
use Rattle.std.proofs.lemmas.Nat.{be_bytes_2, be_bytes_4, from_be_bytes-to_be_bytes_2, from_be_bytes-to_be_bytes_4}
use Rattle.hex.specs.Hex.{IsBytes}
use Rattle.vm_shape.specs.declared.description.Description.{Description}
use Rattle.capsule_codec.specs.declared.capsule.Capsule.{Capsule}
use Rattle.capsule_codec.specs.declared.capsule.CapsuleRef.{CapsuleRef}
use Rattle.capsule_codec.specs.declared.decoding.CapsuleFault.{CapsuleFault}
use Rattle.capsule_codec.specs.Image.{CapsuleParts, capsule_parts, parts_in_place, magic, format_of, capsule_image, IsCapsule, IsOfMachine}
use Rattle.capsule_codec.specs.Reading.{format_in, handler_in, vm_id_in, version_field, size_in, is_format, is_size, capsule_in, GivesCapsule, GivesInPlace}

is_format-format_of : (size : ℕ) → is_format (format_of size) ≡ true
is_format-format_of size = grind (arith, nat_tests)

is_size-format_of : (size : ℕ) → 1 ≤ size → size ≤ 1040 → is_size (format_of size) size ≡ true
is_size-format_of size low high = grind (arith, nat_tests)

made : (x : CapsuleParts) (vm_id version : ℕ) → vm_id ≡ x.vm_id → version ≡ x.version
    → ◌≡◌ {A = Result CapsuleParts CapsuleFault} (Ok (record { vm_id = vm_id; handler = x.handler; version = version; code = x.code })) (Ok x)
made x vm_id version p q = rw (p, q) refl

pub capsule_again : (d : Description) (x : CapsuleParts) → IsCapsule x → IsOfMachine d x → capsule_in d (capsule_image x) ≡ Ok x
capsule_again d x fits right =
    let long : ltb (length (capsule_image x)) 16 ≡ false = le-ltb _ _ (omega arith) in
    let format : is_format (format_of (length x.code)) ≡ true = is_format-format_of (length x.code) in
    let vm : vm_id_in (capsule_image x) ≡ x.vm_id = from_be_bytes-to_be_bytes_4 x.vm_id fits.vm_id in
    let version : version_field (capsule_image x) ≡ x.version = from_be_bytes-to_be_bytes_4 x.version fits.version_high in
    let size : size_in (capsule_image x) ≡ length x.code = from_be_bytes-to_be_bytes_2 (length x.code) (omega arith) in
    let vm_same : eqb (vm_id_in (capsule_image x)) d.vm_id ≡ true = eq-eqb _ _ (vm ∙ right.vm_id) in
    let handler : ltb x.handler (length d.handlers.items) ≡ true = lt-ltb _ _ right.handler in
    let numbered : eqb (version_field (capsule_image x)) 0 ≡ false = ne_eqb _ _ (λ e. omega arith) in
    let sized : is_size (format_of (length x.code)) (size_in (capsule_image x)) ≡ true = rw size (is_size-format_of (length x.code) fits.code_low fits.code_high) in
    let whole : eqb (size_in (capsule_image x) + 16) (length (capsule_image x)) ≡ true = eq-eqb _ _ (omega arith) in
    cond-false _ _ _ long
    ∙ cond-false _ _ _ (not_from_true _ format)
    ∙ cond-false _ _ _ (not_from_true _ vm_same)
    ∙ cond-false _ _ _ (not_from_true _ handler)
    ∙ cond-false _ _ _ numbered
    ∙ cond-false _ _ _ (not_from_true _ (and_from _ _ sized whole))
    ∙ made x (vm_id_in (capsule_image x)) (version_field (capsule_image x)) vm version

-- ---- what decodes is its one image

-- a test that is passed
passes : (b : Bool) (fault : CapsuleFault) (rest : Result CapsuleParts CapsuleFault) (x : CapsuleParts) → cond b (Err fault) rest ≡ Ok x → (b ≡ false) × (rest ≡ Ok x)
passes true fault rest x e = absurd cc
passes false fault rest x e = (refl, e)

passes_not : (b : Bool) (fault : CapsuleFault) (rest : Result CapsuleParts CapsuleFault) (x : CapsuleParts) → cond (not b) (Err fault) rest ≡ Ok x → (b ≡ true) × (rest ≡ Ok x)
passes_not true fault rest x e = (refl, e)
passes_not false fault rest x e = absurd cc

-- what the tests tell of the bytes, and what is read
record Told (d : Description) (bytes : List ℕ) (x : CapsuleParts) : Type 0 where
  begins : starts_with eqb bytes magic ≡ true
  long : 16 ≤ length bytes
  format : is_format (format_in bytes) ≡ true
  vm_id : vm_id_in bytes ≡ d.vm_id
  handler : handler_in bytes < length d.handlers.items
  version : version_field bytes ≡ 0 → ⊥
  sized : is_size (format_in bytes) (size_in bytes) ≡ true
  whole : size_in bytes + 16 ≡ length bytes
  read : record { vm_id = vm_id_in bytes; handler = handler_in bytes; version = version_field bytes; code = drop 16 bytes } ≡ x

told : (d : Description) (bytes : List ℕ) (x : CapsuleParts) → capsule_in d bytes ≡ Ok x → Told d bytes x
told d bytes x e =
    let begins = passes_not _ _ _ x e in
    let long = passes _ _ _ x begins.1 in
    let format = passes_not _ _ _ x long.1 in
    let vm_id = passes_not _ _ _ x format.1 in
    let handler = passes_not _ _ _ x vm_id.1 in
    let version = passes _ _ _ x handler.1 in
    let size = passes_not _ _ _ x version.1 in
    let both = and_parts _ _ size.0 in
    record {
      begins = begins.0;
      long = ltb-false _ _ long.0;
      format = format.0;
      vm_id = eqb-true _ _ vm_id.0;
      handler = ltb-true _ _ handler.0;
      version = eqb-false _ _ version.0;
      sized = both.0;
      whole = eqb-true _ _ both.1;
      read = cc;
    }

-- ---- bytes of parts of a list

pub IsBytes-drop : (n : ℕ) (bytes : List ℕ) → IsBytes bytes → IsBytes (drop n bytes)
IsBytes-drop n bytes fits i = rw get_or-drop (fits (n + i))

pub IsBytes-take : (n : ℕ) (bytes : List ℕ) → IsBytes bytes → IsBytes (take n bytes)
IsBytes-take n bytes fits i =
    elim (cases_lt i n) [
      | inl lt ↦ rw (get_or-take n bytes i 0 lt) (fits i)
      | inr le ↦ rw (get_or_past (take n bytes) i 0 (omega (arith, length-take n bytes))) (omega arith)
    ]

pub part_fits : (from n : ℕ) (bytes : List ℕ) → IsBytes bytes → IsBytes (take n (drop from bytes))
part_fits from n bytes fits = IsBytes-take n (drop from bytes) (IsBytes-drop from bytes fits)

-- the format that the code's length tells
format_is : (format size : ℕ) → is_format format ≡ true → is_size format size ≡ true → format_of size ≡ format
format_is format size known sized = grind (arith, nat_tests, and_parts, or_cases)

pub size_low : (format size : ℕ) → is_size format size ≡ true → 1 ≤ size
size_low format size sized = grind (arith, nat_tests, and_parts)

pub size_high : (format size : ℕ) → is_size format size ≡ true → size ≤ 1040
size_high format size sized = grind (arith, nat_tests, and_parts)

image_is : (d : Description) (bytes : List ℕ) (x : CapsuleParts) → IsBytes bytes → 16 ≤ length bytes → Told d bytes x → bytes ≡ capsule_image x
image_is d (b0 ∷ b1 ∷ b2 ∷ b3 ∷ b4 ∷ b5 ∷ b6 ∷ b7 ∷ b8 ∷ b9 ∷ b10 ∷ b11 ∷ b12 ∷ b13 ∷ b14 ∷ b15 ∷ code) x fits long t =
    let bytes : List ℕ = b0 ∷ b1 ∷ b2 ∷ b3 ∷ b4 ∷ b5 ∷ b6 ∷ b7 ∷ b8 ∷ b9 ∷ b10 ∷ b11 ∷ b12 ∷ b13 ∷ b14 ∷ b15 ∷ code in
    let size : size_in bytes ≡ length code = omega (arith, t.whole) in
    let begins : magic ≡ b0 ∷ b1 ∷ b2 ∷ b3 ∷ [] = (bytes_eq-Decides magic (b0 ∷ b1 ∷ b2 ∷ b3 ∷ [])).0 t.begins in
    let format : format_of (length code) ≡ b4 = rw (← size) (format_is b4 (size_in bytes) t.format t.sized) in
    let vm_id : to_be_bytes w32 (vm_id_in bytes) ≡ b6 ∷ b7 ∷ b8 ∷ b9 ∷ [] = be_bytes_4 (b6 ∷ b7 ∷ b8 ∷ b9 ∷ []) (vm_id_in bytes) refl (part_fits 6 4 bytes fits) refl in
    let version : to_be_bytes w32 (version_field bytes) ≡ b10 ∷ b11 ∷ b12 ∷ b13 ∷ [] = be_bytes_4 (b10 ∷ b11 ∷ b12 ∷ b13 ∷ []) (version_field bytes) refl (part_fits 10 4 bytes fits) refl in
    let length_cells : to_be_bytes w16 (length code) ≡ b14 ∷ b15 ∷ [] = be_bytes_2 (b14 ∷ b15 ∷ []) (length code) refl (part_fits 14 2 bytes fits) (sym size) in
    let made : CapsuleParts = record { vm_id = vm_id_in bytes; handler = b5; version = version_field bytes; code = code } in
    let P : CapsuleParts → Type 0 = λ x. bytes ≡ capsule_image x in
    let same : P made = cc in
    subst P t.read same
image_is d _ x fits long t = absurd (omega arith)

pub capsule_is : (d : Description) (bytes : List ℕ) (x : CapsuleParts) → IsBytes bytes → capsule_in d bytes ≡ Ok x → (bytes ≡ capsule_image x) × IsCapsule x × IsOfMachine d x
capsule_is d bytes x fits e =
    let t : Told d bytes x = told d bytes x e in
    let made : CapsuleParts = record { vm_id = vm_id_in bytes; handler = handler_in bytes; version = version_field bytes; code = drop 16 bytes } in
    let low = size_low (format_in bytes) (size_in bytes) t.sized in
    let high = size_high (format_in bytes) (size_in bytes) t.sized in
    let size : length (drop 16 bytes) ≡ size_in bytes = omega (arith, t.whole, length-drop 16 bytes) in
    let numbered = t.version in
    let fields : IsCapsule made = record {
      vm_id = omega (arith, fits 6, fits 7, fits 8, fits 9);
      handler = fits 5;
      version_low = omega arith;
      version_high = omega (arith, fits 10, fits 11, fits 12, fits 13);
      code_low = omega arith;
      code_high = omega arith;
      code = IsBytes-drop 16 bytes fits;
    } in
    let right : IsOfMachine d made = record { vm_id = t.vm_id; handler = t.handler } in
    (image_is d bytes x fits t.long t, subst (λ (x : CapsuleParts). IsCapsule x) t.read fields, subst (λ (x : CapsuleParts). IsOfMachine d x) t.read right)

-- ---- a capsule is its parts

abbrev capsule : (x : CapsuleParts) → 1 ≤ x.version → 1 ≤ length x.code → Capsule
capsule x numbered filled =
    record { vm_id = x.vm_id; handler = record { 0 = x.handler }; version = x.version; code = record { items = x.code }; numbered = numbered; filled = filled }

same_made : (x : CapsuleParts) (n m : 1 ≤ x.version) (f g : 1 ≤ length x.code) → capsule x n f ≡ capsule x m g
same_made x n m f g = ap (λ (k : 1 ≤ x.version). capsule x k f) (le_prop n m) ∙ ap (capsule x m) (le_prop f g)

same_at : (x y : CapsuleParts) → x ≡ y → (n : 1 ≤ x.version) (f : 1 ≤ length x.code) (m : 1 ≤ y.version) (g : 1 ≤ length y.code) → capsule x n f ≡ capsule y m g
same_at x y e =
    let P : CapsuleParts → Type 0 = λ y. (n : 1 ≤ x.version) (f : 1 ≤ length x.code) (m : 1 ≤ y.version) (g : 1 ≤ length y.code) → capsule x n f ≡ capsule y m g in
    subst P e (λ n f m g. same_made x n m f g)

pub same_capsule : (a b : Capsule) → capsule_parts a ≡ capsule_parts b → a ≡ b
same_capsule a b e = same_at (capsule_parts a) (capsule_parts b) e a.numbered a.filled b.numbered b.filled

-- ---- of a result

pub image_found : (d : Description) (bytes : List ℕ) (r : Result Capsule CapsuleFault) → IsBytes bytes → GivesCapsule r (capsule_in d bytes)
    → IfOk r (λ c. (bytes ≡ capsule_image (capsule_parts c)) × IsOfMachine d (capsule_parts c))
image_found d bytes (Ok c) fits e = let h = capsule_is d bytes (capsule_parts c) fits e in (h.0, h.2)
image_found d bytes (Err fault) fits e = tt

pub image_in_place : (d : Description) (bytes : List ℕ) (r : Result CapsuleRef CapsuleFault) → IsBytes bytes → GivesInPlace r (capsule_in d bytes)
    → IfOk r (λ c. (bytes ≡ capsule_image (parts_in_place c)) × IsOfMachine d (parts_in_place c))
image_in_place d bytes (Ok c) fits e = let h = capsule_is d bytes (parts_in_place c) fits e in (h.0, h.2)
image_in_place d bytes (Err fault) fits e = tt

pub only_capsule : (d : Description) (bytes : List ℕ) (r : Result Capsule CapsuleFault) (c : Capsule) → GivesCapsule r (capsule_in d bytes)
    → IsCapsule (capsule_parts c) → IsOfMachine d (capsule_parts c) → bytes ≡ capsule_image (capsule_parts c) → r ≡ Ok c
only_capsule d bytes (Ok a) c e fits right same =
    let again : capsule_in d bytes ≡ Ok (capsule_parts c) = ap (capsule_in d) same ∙ capsule_again d (capsule_parts c) fits right in
    let parts : capsule_parts a ≡ capsule_parts c = cc (e, again) in
    ap Ok (same_capsule a c parts)
only_capsule d bytes (Err fault) c e fits right same =
    let again : capsule_in d bytes ≡ Ok (capsule_parts c) = ap (capsule_in d) same ∙ capsule_again d (capsule_parts c) fits right in
    absurd (cc (e, again))
