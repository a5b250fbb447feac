-- The test on two lock sets, against what it means.
use Rattle.std.proofs.Common.{◌≡◌, ℕ, ◌<◌, Bool, true, false, not, ◌&&◌, ◌||◌, ◌++◌, map, ◌∙◌, sym, ap, inl, inr, IsTrue, arith, zero-add}
use Rattle.std.specs.Bool.{MatchBool}
use Rattle.std.specs.List.{list_any, range_with_len}
use Rattle.std.proofs.lemmas.List.Folds.{list_any-append, list_any_at, Any-from_list_any}
use Rattle.std.proofs.lemmas.List.FromFn.{length-map-range_with_len, get_or-map-range_with_len}
use Rattle.std.proofs.lemmas.Bool.{cases_Bool, and_parts, and_from, or_cases, or_left, or_right, ltb-true, both_ways}
use Rattle.mate_num.specs.declared.resource.Resource.{Resource}
use Rattle.mate_num.specs.declared.resource.Resource.TheVariants.{Shared, Buffer, Device}
use Rattle.mate_num.specs.declared.lock_set.LockSet.{LockSet}
use Rattle.mate_num.specs.Uses.{Uses, uses, ConflictsAt, Conflicts, IsCompatible}
use Rattle.mate_num.specs.Locks.{is_resource, lock_uses}
use Rattle.lock_manager.specs.Conflict.{resources, conflicts_at, conflict}

-- ---- each resource of a machine is in the list
shared : ℕ → Resource
shared v = Shared record { 0 = v }

buffer : ℕ → Resource
buffer b = Buffer record { 0 = b }

device : ℕ → Resource
device d = Device record { 0 = d }

passes_at : (p : Resource → Bool) (f : ℕ → Resource) (n i : ℕ) → i < n → p (f i) ≡ true → list_any p (map f (range_with_len 0 n)) ≡ true
passes_at p f n i below h =
    list_any_at p (map f (range_with_len 0 n)) i (f i) (let e = length-map-range_with_len f 0 n in omega arith)
    (ap p (get_or-map-range_with_len f 0 n i i (f i) below (zero-add i)) ∙ h)

in_resources : (p : Resource → Bool) (r : Resource) → IsTrue (is_resource r) → p r ≡ true → list_any p resources ≡ true
unfolding shared buffer device
in_resources p r known h = list_any-append p (map shared (range_with_len 0 16) ++ map buffer (range_with_len 0 8)) (map device (range_with_len 0 8)) ∙ there r known h
  where
    front : Bool
    front = list_any p (map shared (range_with_len 0 16) ++ map buffer (range_with_len 0 8))

    there : (r : Resource) → IsTrue (is_resource r) → p r ≡ true → (list_any p (map shared (range_with_len 0 16) ++ map buffer (range_with_len 0 8)) || list_any p (map device (range_with_len 0 8))) ≡ true
    there (Shared v) known h = or_left _ _ (list_any-append p (map shared (range_with_len 0 16)) (map buffer (range_with_len 0 8)) ∙ or_left _ _ (passes_at p shared 16 v.0 (ltb-true v.0 16 known) h))
    there (Buffer b) known h = or_left _ _ (list_any-append p (map shared (range_with_len 0 16)) (map buffer (range_with_len 0 8)) ∙ or_right _ _ (passes_at p buffer 8 b.0 (ltb-true b.0 8 known) h))
    there (Device d) known h = or_right _ _ (passes_at p device 8 d.0 (ltb-true d.0 8 known) h)

-- ---- the test at one resource
conflicts_at-true : (a b : Uses) (r : Resource) → conflicts_at a b r ≡ true → ConflictsAt a b r
conflicts_at-true a b r h = elim (or_cases (a.writes r && uses b r) (b.writes r && uses a r) h) [
  | inl left ↦ inl (and_parts (a.writes r) (uses b r) left)
  | inr right ↦ inr (and_parts (b.writes r) (uses a r) right)
]

conflicts_at-from : (a b : Uses) (r : Resource) → ConflictsAt a b r → conflicts_at a b r ≡ true
conflicts_at-from a b r (inl h) = or_left (a.writes r && uses b r) (b.writes r && uses a r) (and_from (a.writes r) (uses b r) h.0 h.1)
conflicts_at-from a b r (inr h) = or_right (a.writes r && uses b r) (b.writes r && uses a r) (and_from (b.writes r) (uses a r) h.0 h.1)

known_at : (s t : LockSet) (r : Resource) → ConflictsAt (lock_uses s) (lock_uses t) r → IsTrue (is_resource r)
known_at s t r (inl h) = (and_parts (is_resource r) _ h.0).0
known_at s t r (inr h) = (and_parts (is_resource r) _ h.0).0

-- ---- the test
pub conflict-true : (s t : LockSet) → conflict s t ≡ true → Conflicts (lock_uses s) (lock_uses t)
unfolding conflict
conflict-true s t h =
    let found = Any-from_list_any (conflicts_at (lock_uses s) (lock_uses t)) resources h in
    record { resource = found.1; at = conflicts_at-true (lock_uses s) (lock_uses t) found.1 found.4 }

pub conflict-from : (s t : LockSet) → Conflicts (lock_uses s) (lock_uses t) → conflict s t ≡ true
unfolding conflict
conflict-from s t c =
    in_resources (conflicts_at (lock_uses s) (lock_uses t)) c.resource (known_at s t c.resource c.at) (conflicts_at-from (lock_uses s) (lock_uses t) c.resource c.at)

pub conflict-false : (s t : LockSet) → conflict s t ≡ false → IsCompatible (lock_uses s) (lock_uses t)
conflict-false s t h = record { apart = λ r at. both_ways (conflict s t) h (conflict-from s t record { resource = r; at = at }) }

swapped_at : (a b : Uses) (r : Resource) → ConflictsAt a b r → ConflictsAt b a r
swapped_at a b r (inl h) = inr h
swapped_at a b r (inr h) = inl h

pub conflict-swap : (s t : LockSet) → conflict s t ≡ false → conflict t s ≡ false
conflict-swap s t h = elim (cases_Bool (conflict t s)) [
  | inl yes_both ↦
      (let c : Conflicts (lock_uses t) (lock_uses s) = conflict-true t s yes_both in
      absurd (both_ways (conflict s t) h (conflict-from s t record { resource = c.resource; at = swapped_at (lock_uses t) (lock_uses s) c.resource c.at })))
  | inr none ↦ none
]

pub conflict_from_compatible : (s t : LockSet) (b : Bool) → MatchBool b (IsCompatible (lock_uses s) (lock_uses t)) (Conflicts (lock_uses s) (lock_uses t)) → not b ≡ conflict s t
conflict_from_compatible s t true h = elim (cases_Bool (conflict s t)) [
  | inl both ↦ (let c : Conflicts (lock_uses s) (lock_uses t) = conflict-true s t both in absurd (h.apart c.resource c.at))
  | inr none ↦ sym none
]
conflict_from_compatible s t false h = sym (conflict-from s t h)
