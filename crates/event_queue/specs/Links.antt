-- Lists of places that are kept as links: what clauses see of them, and what the links keep.
use Rattle.std.specs.Prelude.{◌≡◌, ◌≢◌, ℕ, zero, suc, ◌+◌, ◌^◌, ◌<◌, List, [], ◌∷◌, ◌++◌, map, length, slice_index, slice_index_or}
use Rattle.std.specs.List.{sum_by}
use Rattle.mate_num.specs.Lists.{Each}
use Rattle.event_queue.specs.declared.chains.Head.{Head}

-- the places are the numbers below `total`, and each list has some of them
pub record Places : Type 0 where
  pub total : ℕ
  pub lists : List (List ℕ)

abbrev pub list_at : Places → ℕ → List ℕ
list_at c s = slice_index_or c.lists s []

abbrev pub no_head : Head
no_head = record { first = 0; last = 0; len = 0 }

abbrev pub head_of : List Head → ℕ → Head
head_of heads s = slice_index_or heads s no_head

-- n links on from a place
abbrev pub follow : List ℕ → ℕ → ℕ → ℕ
follow next zero place = place
follow next (suc n) place = follow next n (slice_index next place)

-- the place at a position of a list
abbrev pub place_at : List ℕ → List Head → ℕ → ℕ → ℕ
place_at next heads s p = follow next p (head_of heads s).first

-- the first n values of a function
abbrev pub tabled : ℕ → (ℕ → ℕ) → List ℕ
tabled zero f = []
tabled (suc n) f = f 0 ∷ tabled n (λ p. f (suc p))

-- the places from a head on
abbrev pub places_behind : List ℕ → Head → List ℕ
places_behind next head = tabled head.len (λ p. follow next p head.first)

abbrev pub list_of : List ℕ → List Head → ℕ → List ℕ
list_of next heads s = places_behind next (head_of heads s)

abbrev pub seen_places : List ℕ → List Head → Places
seen_places next heads = record { total = length next; lists = map (places_behind next) heads }

-- each list has places that no other position of a list has, and knows its last one
pub record IsLinked (next : List ℕ) (heads : List Head) : Type 0 where
  pub within : (s p : ℕ) → p < (head_of heads s).len → place_at next heads s p < length next
  pub apart : (s p t q : ℕ) → p < (head_of heads s).len → q < (head_of heads t).len
      → place_at next heads s p ≡ place_at next heads t q → (s ≡ t) × (p ≡ q)
  pub ends : (s p : ℕ) → (head_of heads s).len ≡ suc p → (head_of heads s).last ≡ place_at next heads s p

-- how many places all lists have
abbrev pub lengths : List Head → ℕ
lengths heads = sum_by (λ h. h.len) heads

-- each place is in a list
pub record AreLinks (next : List ℕ) (heads : List Head) : Type 0 where
  pub linked : IsLinked next heads
  pub counted : lengths heads ≡ length next
  pub few : length next + 1 < 2 ^ 32

-- the place isn't in the list
abbrev pub IsOutside : ℕ → List ℕ → Type 0
IsOutside place = Each (λ q. q ≢ place)

-- the first place of a list was taken out, and is in no list
pub record Unlinks (next : List ℕ) (old new : List Head) (list place : ℕ) : Type 0 where
  pub linked : IsLinked next new
  pub below : place < length next
  pub alone : (s p : ℕ) → p < (head_of new s).len → place_at next new s p ≢ place
  pub first : list_of next old list ≡ place ∷ list_of next new list
  pub others : (s : ℕ) → s ≢ list → list_of next new s ≡ list_of next old s
  pub lists : length new ≡ length old
  pub counted : lengths new + 1 ≡ lengths old

-- a place was put last into a list
pub record LinksLast (next : List ℕ) (old : List Head) (next' : List ℕ) (new : List Head) (list place : ℕ) : Type 0 where
  pub linked : IsLinked next' new
  pub joined : list_of next' new list ≡ list_of next old list ++ place ∷ []
  pub others : (s : ℕ) → s ≢ list → list_of next' new s ≡ list_of next old s
  pub total : length next' ≡ length next
  pub lists : length new ≡ length old
  pub counted : lengths new ≡ lengths old + 1

-- the first place of a list went to the end of another one, and is in no third
pub record MovesFirst (old new : Places) (from to place : ℕ) : Type 0 where
  pub first : list_at old from ≡ place ∷ list_at new from
  pub joined : list_at new to ≡ list_at old to ++ place ∷ []
  pub others : (s : ℕ) → s ≢ from → s ≢ to → list_at new s ≡ list_at old s
  pub alone : (s : ℕ) → s ≢ to → IsOutside place (list_at new s)
  pub fresh : IsOutside place (list_at old to)
  pub below : place < old.total
  pub total : new.total ≡ old.total
  pub lists : length new.lists ≡ length old.lists

-- a new place is in the list alone
pub record MakesRoom (old new : Places) (list : ℕ) : Type 0 where
  pub joined : list_at new list ≡ list_at old list ++ old.total ∷ []
  pub others : (s : ℕ) → s ≢ list → list_at new s ≡ list_at old s
  pub total : new.total ≡ old.total + 1
  pub lists : length new.lists ≡ length old.lists
