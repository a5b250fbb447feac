-- What is in the seats of all contexts, by the first ones.
use Rattle.std.specs.Prelude.{IsSome}
use Rattle.std.proofs.Common.{◌≡◌, ℕ, zero, suc, false, true, ◌<◌, ◌≤◌, List, [], ◌∷◌, ◌++◌, length, get_or, set, Option, None, refl, sym, ◌∙◌, ap, arith}
use Rattle.node_state.specs.declared.seat.Seat.{Seat}
use Rattle.node_state.specs.Seats.{places_upto}

pub seats-count : (n : ℕ) (seats : List (Option Seat)) → length (places_upto n seats) ≡ n
seats-count zero seats = refl
seats-count (suc n) [] = let e = seats-count n [] in omega arith
seats-count (suc n) (x ∷ seats) = let e = seats-count n seats in omega arith

pub seats-at : (n : ℕ) (seats : List (Option Seat)) (k : ℕ) → length seats ≤ n → get_or (places_upto n seats) k None ≡ get_or seats k None
seats-at zero [] k few = refl
seats-at zero (x ∷ seats) k few = absurd (omega arith)
seats-at (suc n) [] zero few = refl
seats-at (suc n) [] (suc k) few = seats-at n [] k (omega arith)
seats-at (suc n) (x ∷ seats) zero few = refl
seats-at (suc n) (x ∷ seats) (suc k) few = seats-at n seats k (omega arith)

-- one place of the first ones changes
pub seats-set : (n : ℕ) (seats : List (Option Seat)) (k : ℕ) (seat : Option Seat) → k < length seats → places_upto n (set seats k seat) ≡ set (places_upto n seats) k seat
seats-set n [] k seat below = absurd (omega arith)
seats-set zero (x ∷ seats) zero seat below = refl
seats-set zero (x ∷ seats) (suc k) seat below = refl
seats-set (suc n) (x ∷ seats) zero seat below = refl
seats-set (suc n) (x ∷ seats) (suc k) seat below = ap (λ (l : List (Option Seat)). x ∷ l) (seats-set n seats k seat (omega arith))

nobody-leaves : (n k : ℕ) → places_upto n [] ≡ set (places_upto n []) k None
nobody-leaves zero k = refl
nobody-leaves (suc n) zero = refl
nobody-leaves (suc n) (suc k) = ap (λ (l : List (Option Seat)). None ∷ l) (nobody-leaves n k)

-- whoever is at a place leaves it
pub seats-leave : (n : ℕ) (seats : List (Option Seat)) (k : ℕ) → length seats ≤ n → places_upto n (set seats k None) ≡ set (places_upto n seats) k None
seats-leave n [] k few = nobody-leaves n k
seats-leave zero (x ∷ seats) k few = absurd (omega arith)
seats-leave (suc n) (x ∷ seats) zero few = refl
seats-leave (suc n) (x ∷ seats) (suc k) few = ap (λ (l : List (Option Seat)). x ∷ l) (seats-leave n seats k (omega arith))

-- a place more, and nobody there
pub seats-longer : (n : ℕ) (seats : List (Option Seat)) → places_upto n (seats ++ None ∷ []) ≡ places_upto n seats
seats-longer zero seats = refl
seats-longer (suc n) [] = refl
seats-longer (suc n) (x ∷ seats) = ap (λ (l : List (Option Seat)). x ∷ l) (seats-longer n seats)

pub seats-none : (n : ℕ) (seats : List (Option Seat)) → seats ≡ [] → (k : ℕ) → get_or (places_upto n seats) k None ≡ None
seats-none n seats none k = ap (λ (l : List (Option Seat)). get_or (places_upto n l) k None) none ∙ seats-at n [] k (omega arith)

-- whoever has a place is at one of the first ones
pub is-some-within : (seats : List (Option Seat)) (k : ℕ) → IsSome (get_or seats k None) → k < length seats
is-some-within [] k some = absurd (let f : false ≡ true = some in cc)
is-some-within (x ∷ seats) zero some = omega arith
is-some-within (x ∷ seats) (suc k) some = let h = is-some-within seats k some in omega arith

-- whoever has one of all places is at one of the first ones
pub record IsAmongFirst (seats all : List (Option Seat)) (k : ℕ) : Type 0 where
  pub same : get_or all k None ≡ get_or seats k None
  pub some : IsSome (get_or seats k None)
  pub below : k < length seats

pub among-first : (n : ℕ) (seats all : List (Option Seat)) (k : ℕ) → places_upto n seats ≡ all → length seats ≤ n → IsSome (get_or all k None) → IsAmongFirst seats all k
among-first n seats all k are few is =
    let same = sym (ap (λ (l : List (Option Seat)). get_or l k None) are) ∙ seats-at n seats k few in
    let some : IsSome (get_or seats k None) = rw same at is in
    record { same = same; some = some; below = is-some-within seats k some }
