-- Lemmas on lock sets: each resource has a bit of its own below 32, so words and sets of resources agree.
use Rattle.std.proofs.Common.{◌≡◌, ◌≢◌, ℕ, zero, suc, ◌-◌, ◌*◌, ◌^◌, ◌<◌, max, min, Bool, true, false, not, ◌&&◌, ◌||◌, eqb, IsTrue, ap, sym, ◌∙◌, refl, arith, subst, inl, inr, ◌⊎◌, zero-mul, pow_pos}
use Rattle.std.specs.Int.{w32, bit_at, trailing_zeros}
use Rattle.std.specs.Int.RustNames.{bit_or}
use Rattle.std.specs.Int.Bits.{bit_and, and_lt}
use Rattle.std.specs.Bool.{MatchBool}
use Rattle.std.proofs.lemmas.Nat.Bits.{bit_at_or, bit_at_and, and_pow, bit_at-pow_same, bit_at-pow_other, bit_at-trailing_zeros, bit_at-zero, bit_at-lt, same_from_bits_below}
use Rattle.std.proofs.lemmas.Bool.{ltb-true, lt-ltb, eqb-true, eqb-false, eq-eqb, ne_eqb, and_parts, and_from, cases_lt, cases_Bool}
use Rattle.mate_num.specs.Locks.{bit_of, is_resource, has, lock_uses, Share, IsApart}
use Rattle.mate_num.specs.Uses.{AddsResource, Conflicts, IsCompatible, ConflictsAt, IsSameUses}
use Rattle.mate_num.specs.declared.resource.Resource.{Resource}
use Rattle.mate_num.specs.declared.resource.Resource.TheVariants.{Shared, Buffer, Device}
use Rattle.mate_num.specs.declared.lock_set.LockSet.{LockSet}

pub bit_of-lt : (r : Resource) → IsTrue (is_resource r) → bit_of r < 32
bit_of-lt (Shared v) h = let k : v.0 < 16 = ltb-true v.0 16 h in omega arith
bit_of-lt (Buffer b) h = let k : b.0 < 8 = ltb-true b.0 8 h in omega arith
bit_of-lt (Device d) h = let k : d.0 < 8 = ltb-true d.0 8 h in omega arith

-- two resources with one bit are one
pub same_resource : (q r : Resource) → IsTrue (is_resource q) → IsTrue (is_resource r) → bit_of q ≡ bit_of r → q ≡ r
same_resource (Shared v) (Shared w) _ _ e = ap (λ (n : ℕ). Shared record { 0 = n }) e
same_resource (Shared v) (Buffer b) h k e = let i : v.0 < 16 = ltb-true v.0 16 h in absurd (omega arith)
same_resource (Shared v) (Device d) h k e = let i : v.0 < 16 = ltb-true v.0 16 h in absurd (omega arith)
same_resource (Buffer b) (Shared v) h k e = let i : v.0 < 16 = ltb-true v.0 16 k in absurd (omega arith)
same_resource (Buffer b) (Buffer c) _ _ e = let f : b.0 ≡ c.0 = omega arith in ap (λ (n : ℕ). Buffer record { 0 = n }) f
same_resource (Buffer b) (Device d) h k e = let i : b.0 < 8 = ltb-true b.0 8 h in absurd (omega arith)
same_resource (Device d) (Shared v) h k e = let i : v.0 < 16 = ltb-true v.0 16 k in absurd (omega arith)
same_resource (Device d) (Buffer b) h k e = let i : b.0 < 8 = ltb-true b.0 8 k in absurd (omega arith)
same_resource (Device d) (Device c) _ _ e = let f : d.0 ≡ c.0 = omega arith in ap (λ (n : ℕ). Device record { 0 = n }) f

-- the resource that a bit stands for
record Stands (i : ℕ) : Type 0 where
  resource : Resource
  known : IsTrue (is_resource resource)
  bit : bit_of resource ≡ i

stands : (i : ℕ) → i < 32 → Stands i
stands i h =
    elim (cases_lt i 16) [
      | inl low ↦ record { resource = Shared record { 0 = i }; known = lt-ltb i 16 low; bit = refl }
      | inr high ↦ elim (cases_lt i 24) [
        | inl low ↦ record { resource = Buffer record { 0 = i - 16 }; known = lt-ltb (i - 16) 8 (omega arith); bit = omega arith }
        | inr higher ↦ record { resource = Device record { 0 = i - 24 }; known = lt-ltb (i - 24) 8 (omega arith); bit = omega arith }
      ]
    ]

has_from : (w : ℕ) (r : Resource) → IsTrue (is_resource r) → bit_at w (bit_of r) ≡ 1 → IsTrue (has w r)
has_from w r h e = and_from (is_resource r) (eqb (bit_at w (bit_of r)) 1) h (eq-eqb (bit_at w (bit_of r)) 1 e)

has-known : (w : ℕ) (r : Resource) → IsTrue (has w r) → IsTrue (is_resource r)
has-known w r h = (and_parts (is_resource r) (eqb (bit_at w (bit_of r)) 1) h).0

has-bit : (w : ℕ) (r : Resource) → IsTrue (has w r) → bit_at w (bit_of r) ≡ 1
has-bit w r h = eqb-true (bit_at w (bit_of r)) 1 (and_parts (is_resource r) (eqb (bit_at w (bit_of r)) 1) h).1

one_of_max : (x y : ℕ) → x < 2 → y < 2 → eqb (max x y) 1 ≡ (eqb x 1 || eqb y 1)
one_of_max zero zero _ _ = refl
one_of_max zero (suc zero) _ _ = refl
one_of_max (suc zero) zero _ _ = refl
one_of_max (suc zero) (suc zero) _ _ = refl
one_of_max (suc (suc x)) y h k = absurd (omega arith)
one_of_max x (suc (suc y)) h k = absurd (omega arith)

under : (k a b : Bool) → (k && (a || b)) ≡ ((k && a) || (k && b))
under true a b = refl
under false a b = refl

-- a union of words has what either has
pub has-or : (a b : ℕ) (r : Resource) → has (bit_or a b) r ≡ (has a r || has b r)
has-or a b r =
    let i : ℕ = bit_of r in
    let e : eqb (bit_at (bit_or a b) i) 1 ≡ (eqb (bit_at a i) 1 || eqb (bit_at b i) 1) =
    ap (λ (n : ℕ). eqb n 1) (bit_at_or a b i) ∙ one_of_max (bit_at a i) (bit_at b i) (bit_at-lt a i) (bit_at-lt b i) in
    ap (λ (t : Bool). is_resource r && t) e ∙ under (is_resource r) (eqb (bit_at a i) 1) (eqb (bit_at b i) 1)

-- what the bit of a word's resource adds to the word
adds_other : (w : ℕ) (r q : Resource) → IsTrue (is_resource r) → q ≢ r → (known : (is_resource q ≡ true) ⊎ (is_resource q ≡ false)) → has (bit_or w (2 ^ bit_of r)) q ≡ has w q
adds_other w r q h ne (inr unknown) = rw unknown refl
adds_other w r q h ne (inl known) =
    let apart : bit_of q ≢ bit_of r = λ (e : bit_of q ≡ bit_of r). ne (same_resource q r known h e) in
    let zero_bit : bit_at (2 ^ bit_of r) (bit_of q) ≡ 0 = bit_at-pow_other (bit_of r) (bit_of q) apart in
    let e : bit_at (bit_or w (2 ^ bit_of r)) (bit_of q) ≡ bit_at w (bit_of q) =
    let m = bit_at_or w (2 ^ bit_of r) (bit_of q) in omega arith in
    ap (λ (n : ℕ). is_resource q && eqb n 1) e

adds_bit : (w : ℕ) (r : Resource) → IsTrue (is_resource r) → AddsResource (has w) (has (bit_or w (2 ^ bit_of r))) r
adds_bit w r h = record {
  added =
      let one : bit_at (2 ^ bit_of r) (bit_of r) ≡ 1 = bit_at-pow_same (bit_of r) in
      let m = bit_at_or w (2 ^ bit_of r) (bit_of r) in
      let l = bit_at-lt w (bit_of r) in
      has_from (bit_or w (2 ^ bit_of r)) r h (omega arith);
  others = λ q ne. adds_other w r q h ne (cases_Bool (is_resource q));
}

pub adds_word : (w n : ℕ) (r : Resource) → IsTrue (is_resource r) → n ≡ 2 ^ bit_of r → AddsResource (has w) (has (bit_or w n)) r
adds_word w n r h e = let P : ℕ → Type 0 = λ m. AddsResource (has w) (has (bit_or w m)) r in subst P (sym e) (adds_bit w r h)

-- the test by the resource's bit
test_of_bit : (x p : ℕ) → x < 2 → 0 < p → not (eqb (x * p) 0) ≡ eqb x 1
test_of_bit zero p _ _ = rw (zero-mul p) refl
test_of_bit (suc zero) p _ h = ap not (ne_eqb (1 * p) 0 (λ (e : 1 * p ≡ 0). omega arith))
test_of_bit (suc (suc x)) p h _ = absurd (omega arith)

pub tests_word : (w n : ℕ) (r : Resource) → IsTrue (is_resource r) → n ≡ 2 ^ bit_of r → not (eqb (bit_and w n) 0) ≡ has w r
tests_word w n r h e =
    let i : ℕ = bit_of r in
    let m : bit_and w n ≡ bit_at w i * 2 ^ i = ap (λ (k : ℕ). bit_and w k) e ∙ and_pow w i in
    let f : not (eqb (bit_and w n) 0) ≡ not (eqb (bit_at w i * 2 ^ i) 0) = ap (λ (k : ℕ). not (eqb k 0)) m in
    f ∙ test_of_bit (bit_at w i) (2 ^ i) (bit_at-lt w i) (pow_pos i) ∙ sym (ap (λ (t : Bool). t && eqb (bit_at w i) 1) h)

-- a nonzero intersection has a resource, and 0 has none
one_of_min : (x y : ℕ) → x < 2 → y < 2 → min x y ≡ 1 → (x ≡ 1) × (y ≡ 1)
one_of_min x y h k e = (omega arith, omega arith)

shared_bit : (a b i : ℕ) → i < 32 → bit_at (bit_and a b) i ≡ 1 → Share a b
shared_bit a b i h e =
    let s : Stands i = stands i h in
    let both : (bit_at a i ≡ 1) × (bit_at b i ≡ 1) = one_of_min (bit_at a i) (bit_at b i) (bit_at-lt a i) (bit_at-lt b i) (sym (bit_at_and a b i) ∙ e) in
    record {
      resource = s.resource;
      left = has_from a s.resource s.known (ap (λ (k : ℕ). bit_at a k) s.bit ∙ both.0);
      right = has_from b s.resource s.known (ap (λ (k : ℕ). bit_at b k) s.bit ∙ both.1);
    }

share_of : (a b : ℕ) → a < 2 ^ 32 → b < 2 ^ 32 → 0 < bit_and a b → Share a b
share_of a b h k above =
    let t = bit_at-trailing_zeros w32 (bit_and a b) above (and_lt 32 a b h k) in
    shared_bit a b (trailing_zeros w32 (bit_and a b)) t.0 t.1

apart_of : (a b : ℕ) → bit_and a b ≡ 0 → IsApart a b
apart_of a b e = record {
  apart = λ r left right.
      let i : ℕ = bit_of r in
      let l : bit_at a i ≡ 1 = has-bit a r left in
      let q : bit_at b i ≡ 1 = has-bit b r right in
      let z : bit_at (bit_and a b) i ≡ 0 = ap (λ (n : ℕ). bit_at n i) e ∙ bit_at-zero i in
      let m = bit_at_and a b i in
      omega arith;
}

pub overlap_tells : (a b : ℕ) → a < 2 ^ 32 → b < 2 ^ 32 → MatchBool (not (eqb (bit_and a b) 0)) (Share a b) (IsApart a b)
overlap_tells a b h k =
    elim (cases_Bool (eqb (bit_and a b) 0)) [
      | inl yes_zero ↦ rw yes_zero (apart_of a b (eqb-true (bit_and a b) 0 yes_zero))
      | inr not_zero ↦ rw not_zero (share_of a b h k (let ne : bit_and a b ≢ 0 = eqb-false (bit_and a b) 0 not_zero in omega arith))
    ]

-- what two lock sets have of each other
conflict_left : (s t : LockSet) → Share s.written (bit_or t.read t.written) → Conflicts (lock_uses s) (lock_uses t)
conflict_left s t h = record {
  resource = h.resource;
  at = inl (h.left, sym (has-or t.read t.written h.resource) ∙ h.right);
}

conflict_right : (s t : LockSet) → Share t.written (bit_or s.read s.written) → Conflicts (lock_uses s) (lock_uses t)
conflict_right s t h = record {
  resource = h.resource;
  at = inr (h.left, sym (has-or s.read s.written h.resource) ∙ h.right);
}

no_conflict_at : (s t : LockSet) → IsApart s.written (bit_or t.read t.written) → IsApart t.written (bit_or s.read s.written) → (r : Resource) → ConflictsAt (lock_uses s) (lock_uses t) r → ⊥
no_conflict_at s t left right r (inl h) = left.apart r h.0 (has-or t.read t.written r ∙ h.1)
no_conflict_at s t left right r (inr h) = right.apart r h.0 (has-or s.read s.written r ∙ h.1)

-- the answer where the first overlap decides, and where the second does
pub first_decides : (s t : LockSet) (b : Bool) → Share s.written (bit_or t.read t.written) → b ≡ true → MatchBool (not b) (IsCompatible (lock_uses s) (lock_uses t)) (Conflicts (lock_uses s) (lock_uses t))
first_decides s t b h e = rw e (conflict_left s t h)

pub second_decides : (s t : LockSet) (b : Bool) → IsApart s.written (bit_or t.read t.written) → MatchBool b (Share t.written (bit_or s.read s.written)) (IsApart t.written (bit_or s.read s.written)) → MatchBool (not b) (IsCompatible (lock_uses s) (lock_uses t)) (Conflicts (lock_uses s) (lock_uses t))
second_decides s t true left h = conflict_right s t h
second_decides s t false left h = record { apart = no_conflict_at s t left h }

same_bit : (a b : ℕ) (r : Resource) → IsTrue (is_resource r) → has a r ≡ has b r → bit_at a (bit_of r) ≡ bit_at b (bit_of r)
same_bit a b r h e =
    let f : eqb (bit_at a (bit_of r)) 1 ≡ eqb (bit_at b (bit_of r)) 1 = simp h at e in
    let x = bit_at-lt a (bit_of r) in
    let y = bit_at-lt b (bit_of r) in
    elim (cases_Bool (eqb (bit_at a (bit_of r)) 1)) [
      | inl one ↦
          let l : bit_at a (bit_of r) ≡ 1 = eqb-true (bit_at a (bit_of r)) 1 one in
          let m : bit_at b (bit_of r) ≡ 1 = eqb-true (bit_at b (bit_of r)) 1 (sym f ∙ one) in
          omega arith
      | inr none ↦
          let l : bit_at a (bit_of r) ≢ 1 = eqb-false (bit_at a (bit_of r)) 1 none in
          let m : bit_at b (bit_of r) ≢ 1 = eqb-false (bit_at b (bit_of r)) 1 (sym f ∙ none) in
          omega arith
    ]

-- two words with the same resources are one
pub same_words : (a b : ℕ) → a < 2 ^ 32 → b < 2 ^ 32 → ((r : Resource) → has a r ≡ has b r) → a ≡ b
same_words a b h k same = same_from_bits_below 32 a b h k (λ i below.
    let s : Stands i = stands i below in
    let P : ℕ → Type 0 = λ n. bit_at a n ≡ bit_at b n in
    subst P s.bit (same_bit a b s.resource s.known (same s.resource)))

pub same_sets : (s t : LockSet) → s.read < 2 ^ 32 → t.read < 2 ^ 32 → s.written < 2 ^ 32 → t.written < 2 ^ 32 → IsSameUses (lock_uses s) (lock_uses t) → s ≡ t
same_sets s t a b c d same =
    let e : s.read ≡ t.read = same_words s.read t.read a b same.reads in
    let f : s.written ≡ t.written = same_words s.written t.written c d same.writes in
    ap (λ (n : ℕ). record s { read = n }) e ∙ ap (λ (n : ℕ). record t { written = n }) f
