-- Lists of claims along which numbers rise.
use Rattle.std.proofs.Common.{◌≡◌, ◌⊎◌, ℕ, zero, suc, ◌<◌, List, [], ◌∷◌, ◌++◌, length, refl, ap, subst, arith, inl, inr}
use Rattle.std.specs.Prelude.{Contains, slice_index_or}
use Rattle.std.proofs.lemmas.List.Elements.{Contains-append_left, Contains-append_right, Contains-append_cases}
use Rattle.mate_num.specs.declared.id.ContextId.{ContextId}
use Rattle.lock_manager.specs.declared.claim.Claim.{Claim}
use Rattle.node_state.specs.Queue.{NumbersRise}

-- ---- what a list contains

pub Contains-none : (a : Claim) → Contains [] a → ⊥
Contains-none a w = let below = w.1 in absurd (omega arith)

pub Contains-head : (x : Claim) (xs : List Claim) → Contains (x ∷ xs) x
Contains-head x xs = (0, omega arith, refl)

pub Contains-tail : (x : Claim) (xs : List Claim) (a : Claim) → Contains xs a → Contains (x ∷ xs) a
Contains-tail x xs a w = Contains-append_right (x ∷ []) xs a w

pub Contains-cases : (x : Claim) (xs : List Claim) (a : Claim) → Contains (x ∷ xs) a → (x ≡ a) ⊎ Contains xs a
Contains-cases x xs a w = by w.0 w.1 w.2 where
  by : (k : ℕ) → k < length (x ∷ xs) → slice_index_or (x ∷ xs) k a ≡ a → (x ≡ a) ⊎ Contains xs a
  by zero below is = inl is
  by (suc k) below is = inr (k, omega arith, is)

-- the list around what it contains
pub record IsSplit (xs : List Claim) (a : Claim) : Type 0 where
  pub front : List Claim
  pub back : List Claim
  pub is : xs ≡ front ++ a ∷ back

pub split_at : (xs : List Claim) (a : Claim) → Contains xs a → IsSplit xs a
split_at [] a w = absurd (Contains-none a w)
split_at (x ∷ xs) a w = by (Contains-cases x xs a w) (split_at xs a) where
  by : (x ≡ a) ⊎ Contains xs a → (Contains xs a → IsSplit xs a) → IsSplit (x ∷ xs) a
  by (inl e) further = record { front = []; back = xs; is = ap (λ (y : Claim). y ∷ xs) e }
  by (inr v) further = let s = further v in record { front = x ∷ s.front; back = s.back; is = ap (λ (l : List Claim). x ∷ l) s.is }

-- ---- rising numbers

pub NumbersRise-push : (f : ContextId → ℕ) (xs : List Claim) (c : Claim) → NumbersRise f xs → ((a : Claim) → Contains xs a → f a.ctx < f c.ctx) → NumbersRise f (xs ++ c ∷ [])
NumbersRise-push f [] c rises below = ((λ a w. absurd (Contains-none a w)), tt)
NumbersRise-push f (x ∷ xs) c rises below =
    ((λ a w. by a (Contains-append_cases xs (c ∷ []) a w)), NumbersRise-push f xs c rises.1 (λ a w. below a (Contains-tail x xs a w))) where
      last : (a : Claim) → (c ≡ a) ⊎ Contains [] a → f x.ctx < f a.ctx
      last a (inl e) = let P : Claim → Type 0 = λ y. f x.ctx < f y.ctx in subst P e (below x (Contains-head x xs))
      last a (inr w) = absurd (Contains-none a w)

      by : (a : Claim) → Contains xs a ⊎ Contains (c ∷ []) a → f x.ctx < f a.ctx
      by a (inl w) = rises.0 a w
      by a (inr w) = last a (Contains-cases c [] a w)

pub NumbersRise-out : (f : ContextId → ℕ) (xs : List Claim) (c : Claim) (ys : List Claim) → NumbersRise f (xs ++ c ∷ ys) → NumbersRise f (xs ++ ys)
NumbersRise-out f [] c ys rises = rises.1
NumbersRise-out f (x ∷ xs) c ys rises = ((λ a w. rises.0 a (wider a (Contains-append_cases xs ys a w))), NumbersRise-out f xs c ys rises.1) where
  wider : (a : Claim) → Contains xs a ⊎ Contains ys a → Contains (xs ++ c ∷ ys) a
  wider a (inl w) = Contains-append_left xs (c ∷ ys) a w
  wider a (inr w) = Contains-append_right xs (c ∷ ys) a (Contains-tail c ys a w)

pub NumbersRise-before : (f : ContextId → ℕ) (xs : List Claim) (c : Claim) (ys : List Claim) (a : Claim) → NumbersRise f (xs ++ c ∷ ys) → Contains xs a → f a.ctx < f c.ctx
NumbersRise-before f [] c ys a rises w = absurd (Contains-none a w)
NumbersRise-before f (x ∷ xs) c ys a rises w = by (Contains-cases x xs a w) (NumbersRise-before f xs c ys a rises.1) where
  by : (x ≡ a) ⊎ Contains xs a → (Contains xs a → f a.ctx < f c.ctx) → f a.ctx < f c.ctx
  by (inl e) further = let P : Claim → Type 0 = λ y. f y.ctx < f c.ctx in subst P e (rises.0 c (Contains-append_right xs (c ∷ ys) c (Contains-head c ys)))
  by (inr v) further = further v

pub NumbersRise-behind : (f : ContextId → ℕ) (xs : List Claim) (c : Claim) (ys : List Claim) (a : Claim) → NumbersRise f (xs ++ c ∷ ys) → Contains ys a → f c.ctx < f a.ctx
NumbersRise-behind f [] c ys a rises w = rises.0 a w
NumbersRise-behind f (x ∷ xs) c ys a rises w = NumbersRise-behind f xs c ys a rises.1 w

pub NumbersRise-same : (f g : ContextId → ℕ) (xs : List Claim) → ((a : Claim) → Contains xs a → g a.ctx ≡ f a.ctx) → NumbersRise f xs → NumbersRise g xs
NumbersRise-same f g [] same rises = tt
NumbersRise-same f g (x ∷ xs) same rises =
    ((λ a w. (let e = same x (Contains-head x xs) in let h = same a (Contains-tail x xs a w) in let k = rises.0 a w in omega arith)), NumbersRise-same f g xs (λ a w. same a (Contains-tail x xs a w)) rises.1)
