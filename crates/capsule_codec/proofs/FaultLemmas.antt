-- The first fault of bytes that are no capsule of a machine, test after test.
use Rattle.std.proofs.Common.{◌≡◌, ℕ, ◌+◌, ◌-◌, ◌<◌, ◌≤◌, Bool, true, false, not, ◌&&◌, eqb, List, length, take, drop, Result, Ok, Err, refl, sym, ap, subst, ◌∙◌, inl, inr, arith}
use Rattle.std.specs.Prelude.{◌⊎◌, if◌then◌else◌}
use Rattle.std.specs.List.{starts_with}
use Rattle.std.proofs.lemmas.Bool.{le-ltb, lt-ltb, eq-eqb, ne_eqb, cond-true, cond-false}
use Rattle.std.proofs.lemmas.List.{length-drop, take_all}
use Rattle.vm_shape.specs.declared.description.Description.{Description}
use Rattle.capsule_codec.specs.declared.decoding.CapsuleFault.{CapsuleFault}
use Rattle.capsule_codec.specs.declared.decoding.CapsuleFault.TheVariants.{BadMagic, BadFormat, OtherVm, BadHandler, BadLength, BadVersion}
use Rattle.capsule_codec.specs.Image.{CapsuleParts, magic}
use Rattle.capsule_codec.specs.Reading.{format_in, handler_in, vm_id_in, version_field, size_in, is_format, is_size, capsule_in}
use Rattle.capsule_codec.proofs.ImageLemmas.{size_low, size_high}

known_format : (f : ℕ) → ((f ≡ 1 → ⊥) × (f ≡ 2)) ⊎ (f ≡ 1) → is_format f ≡ true
known_format f (inl other) = ap is_format other.1
known_format f (inr e) = ap is_format e

unknown_format : (f : ℕ) → (f ≡ 1 → ⊥) → (f ≡ 2 → ⊥) → is_format f ≡ false
unknown_format f one two = rw (ne_eqb f 1 one, ne_eqb f 2 two) refl

-- what the tests of the first 6 bytes tell of bytes that passed them
pub record HasHead (bytes : List ℕ) : Type 0 where
  begins : starts_with eqb bytes magic ≡ true
  long : 16 ≤ length bytes
  format : is_format (format_in bytes) ≡ true

-- and those up to the version
pub record IsNumbered (d : Description) (bytes : List ℕ) : Type 0 where
  head : HasHead bytes
  vm_id : vm_id_in bytes ≡ d.vm_id
  handler : handler_in bytes < length d.handlers.items
  version : version_field bytes ≡ 0 → ⊥

module _ (d : Description) (bytes : List ℕ) where
  pub has-head : (r : Bool) → r ≡ starts_with eqb bytes magic → r ≡ true → 16 ≤ length bytes → ((format_in bytes ≡ 1 → ⊥) × (format_in bytes ≡ 2)) ⊎ (format_in bytes ≡ 1) → HasHead bytes
  has-head r is begins long format = record { begins = sym is ∙ begins; long = long; format = known_format (format_in bytes) format }

  pub is-numbered : HasHead bytes → (id : ℕ) → id ≡ vm_id_in bytes → id ≡ d.vm_id → (n len : ℕ) → n ≡ handler_in bytes → len ≡ length d.handlers.items → n < len → (version : ℕ) → version ≡ version_field bytes → (version ≡ 0 → ⊥) → IsNumbered d bytes
  is-numbered head id id_is same n len n_is len_is below version is some = record {
    head = head;
    vm_id = sym id_is ∙ same;
    handler = rw (← n_is, ← len_is) below;
    version = λ none. some (is ∙ none);
  }

  pub no-magic : (r : Bool) → r ≡ starts_with eqb bytes magic → r ≡ false → capsule_in d bytes ≡ Err BadMagic
  no-magic r is other = cond-true _ _ _ (ap not (sym is ∙ other))

  pub no-head : (r : Bool) → r ≡ starts_with eqb bytes magic → r ≡ true → length bytes < 16 → capsule_in d bytes ≡ Err BadLength
  no-head r is begins short = cond-false _ _ _ (ap not (sym is ∙ begins)) ∙ cond-true _ _ _ (lt-ltb _ _ short)

  pub no-format : (r : Bool) → r ≡ starts_with eqb bytes magic → r ≡ true → 16 ≤ length bytes → (format_in bytes ≡ 1 → ⊥) → (format_in bytes ≡ 2 → ⊥) → capsule_in d bytes ≡ Err BadFormat
  no-format r is begins long one two =
      cond-false _ _ _ (ap not (sym is ∙ begins)) ∙ cond-false _ _ _ (le-ltb _ _ long) ∙ cond-true _ _ _ (ap not (unknown_format (format_in bytes) one two))

  pub other-vm : HasHead bytes → (id : ℕ) → id ≡ vm_id_in bytes → (id ≡ d.vm_id → ⊥) → capsule_in d bytes ≡ Err (OtherVm id)
  other-vm head id is other =
      cond-false _ _ _ (ap not head.begins) ∙ cond-false _ _ _ (le-ltb _ _ head.long) ∙ cond-false _ _ _ (ap not head.format)
      ∙ cond-true _ _ _ (ap not (ne_eqb (vm_id_in bytes) d.vm_id (λ same. other (is ∙ same)))) ∙ ap (λ (n : ℕ). Err (OtherVm n)) (sym is)

  pub no-handler : HasHead bytes → (id : ℕ) → id ≡ vm_id_in bytes → id ≡ d.vm_id → (n len : ℕ) → n ≡ handler_in bytes → len ≡ length d.handlers.items → len ≤ n → capsule_in d bytes ≡ Err BadHandler
  no-handler head id is same n len n_is len_is past =
      let past_all : length d.handlers.items ≤ handler_in bytes = rw (← n_is, ← len_is) past in
      cond-false _ _ _ (ap not head.begins) ∙ cond-false _ _ _ (le-ltb _ _ head.long) ∙ cond-false _ _ _ (ap not head.format)
      ∙ cond-false _ _ _ (ap not (eq-eqb _ _ (sym is ∙ same))) ∙ cond-true _ _ _ (ap not (le-ltb _ _ past_all))

  pub no-version : HasHead bytes → (id : ℕ) → id ≡ vm_id_in bytes → id ≡ d.vm_id → (n len : ℕ) → n ≡ handler_in bytes → len ≡ length d.handlers.items → n < len → (version : ℕ) → version ≡ version_field bytes → version ≡ 0 → capsule_in d bytes ≡ Err BadVersion
  no-version head id id_is same n len n_is len_is below version is none =
      let below_all : handler_in bytes < length d.handlers.items = rw (← n_is, ← len_is) below in
      cond-false _ _ _ (ap not head.begins) ∙ cond-false _ _ _ (le-ltb _ _ head.long) ∙ cond-false _ _ _ (ap not head.format)
      ∙ cond-false _ _ _ (ap not (eq-eqb _ _ (sym id_is ∙ same))) ∙ cond-false _ _ _ (ap not (lt-ltb _ _ below_all)) ∙ cond-true _ _ _ (eq-eqb _ _ (sym is ∙ none))

  -- what is left to tell of bytes that passed the tests up to the version
  behind-version : IsNumbered d bytes → (b : Bool) → (is_size (format_in bytes) (size_in bytes) && eqb (size_in bytes + 16) (length bytes)) ≡ b
      → capsule_in d bytes ≡ (if not b then Err BadLength else Ok (record { vm_id = vm_id_in bytes; handler = handler_in bytes; version = version_field bytes; code = drop 16 bytes }))
  behind-version t b sized =
      cond-false _ _ _ (ap not t.head.begins) ∙ cond-false _ _ _ (le-ltb _ _ t.head.long) ∙ cond-false _ _ _ (ap not t.head.format)
      ∙ cond-false _ _ _ (ap not (eq-eqb _ _ t.vm_id)) ∙ cond-false _ _ _ (ap not (lt-ltb _ _ t.handler)) ∙ cond-false _ _ _ (ne_eqb _ _ t.version)
      ∙ ap (λ (b : Bool). if not b then Err BadLength else Ok (record { vm_id = vm_id_in bytes; handler = handler_in bytes; version = version_field bytes; code = drop 16 bytes })) sized

  pub no-size : IsNumbered d bytes → (size : ℕ) → size ≡ size_in bytes → (r : Bool) → r ≡ is_size (format_in bytes) size → r ≡ false → capsule_in d bytes ≡ Err BadLength
  no-size t size size_is r is other =
      let unsized : is_size (format_in bytes) (size_in bytes) ≡ false = ap (is_size (format_in bytes)) (sym size_is) ∙ sym is ∙ other in
      behind-version t false (ap (λ (b : Bool). b && eqb (size_in bytes + 16) (length bytes)) unsized)

  has-size : (size : ℕ) → size ≡ size_in bytes → (r : Bool) → r ≡ is_size (format_in bytes) size → r ≡ true → is_size (format_in bytes) (size_in bytes) ≡ true
  has-size size size_is r is sized = ap (is_size (format_in bytes)) (sym size_is) ∙ sym is ∙ sized

  pub other-size : IsNumbered d bytes → (size : ℕ) → size ≡ size_in bytes → (r : Bool) → r ≡ is_size (format_in bytes) size → r ≡ true → (n : ℕ) → n ≡ size → (n + 16 ≡ length bytes → ⊥) → capsule_in d bytes ≡ Err BadLength
  other-size t size size_is r is sized n n_is other =
      let all : n ≡ size_in bytes = n_is ∙ size_is in
      behind-version t false (ap (λ (b : Bool). b && eqb (size_in bytes + 16) (length bytes)) (has-size size size_is r is sized)
      ∙ ne_eqb (size_in bytes + 16) (length bytes) (λ whole. other (ap (λ (k : ℕ). k + 16) all ∙ whole)))

  pub whole-size : IsNumbered d bytes → (size : ℕ) → size ≡ size_in bytes → (r : Bool) → r ≡ is_size (format_in bytes) size → r ≡ true → (n : ℕ) → n ≡ size → n + 16 ≡ length bytes
      → capsule_in d bytes ≡ Ok (record { vm_id = vm_id_in bytes; handler = handler_in bytes; version = version_field bytes; code = drop 16 bytes })
  whole-size t size size_is r is sized n n_is whole =
      let all : n ≡ size_in bytes = n_is ∙ size_is in
      behind-version t true (ap (λ (b : Bool). b && eqb (size_in bytes + 16) (length bytes)) (has-size size size_is r is sized)
      ∙ eq-eqb (size_in bytes + 16) (length bytes) (ap (λ (k : ℕ). k + 16) (sym all) ∙ whole))

-- the capsule that was read is made of these parts
pub parts-are : (bytes code : List ℕ) (id version : ℕ) → id ≡ vm_id_in bytes → version ≡ version_field bytes → code ≡ drop 16 bytes
    → ◌≡◌ {A = Result CapsuleParts CapsuleFault} (Ok (record { vm_id = vm_id_in bytes; handler = handler_in bytes; version = version_field bytes; code = drop 16 bytes })) (Ok (record { vm_id = id; handler = handler_in bytes; version = version; code = code }))
parts-are bytes code id version id_is version_is code_is = rw (id_is, version_is, code_is) refl

-- ---- the code behind the first 16 bytes

pub rest-whole : (bytes : List ℕ) → take (length bytes - 16) (drop 16 bytes) ≡ drop 16 bytes
rest-whole bytes = take_all (length bytes - 16) (drop 16 bytes) (omega (arith, length-drop 16 bytes))

-- there is some, for which there is room
pub record CodeFits (code : List ℕ) : Type 0 where
  pub low : 1 ≤ length code
  pub high : length code ≤ 1040

pub code-fits : (bytes : List ℕ) (format size : ℕ) (r : Bool) (n : ℕ) → r ≡ is_size format size → r ≡ true → n ≡ size → n + 16 ≡ length bytes → CodeFits (take (length bytes - 16) (drop 16 bytes))
code-fits bytes format size r n is sized n_is whole =
    let low = size_low format size (sym is ∙ sized) in
    let high = size_high format size (sym is ∙ sized) in
    let len : length (drop 16 bytes) ≡ size = omega (arith, length-drop 16 bytes) in
    let fits : CodeFits (drop 16 bytes) = record { low = omega arith; high = omega arith } in
    subst CodeFits (sym (rest-whole bytes)) fits

pub some-version : (version : ℕ) → (version ≡ 0 → ⊥) → 1 ≤ version
some-version version some = omega (arith, some)
