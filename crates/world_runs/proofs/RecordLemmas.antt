-- Lists of logs that are the same but for their room.
use Rattle.std.proofs.Common.{◌≡◌, ℕ, zero, suc, ◌<◌, List, [], ◌∷◌, ◌++◌, length, set, get_or, map, drop, Option, Some, None, All, refl, sym, ◌∙◌, ap, subst, arith, append-nil, map-id, length-append, length-drop}
use Rattle.std.specs.Prelude.{slice_get, unwrap_or}
use Rattle.std.specs.List.{AllZip}
use Rattle.std.proofs.Math.Seq.{drop-cons, set-append_seam}
use Rattle.std.proofs.lemmas.List.{drop_all}
use Rattle.std.proofs.lemmas.Option.{slice_get-get_or}
use Rattle.std.proofs.lemmas.List.Elements.{length_all_zip}
use Rattle.arrayvec.specs.ArrayVec.{ArrayVec}
use Rattle.mate_num.specs.declared.store.Store.{Store}
use Rattle.mate_journal.specs.Log.{Log, IsSameLog}
use Rattle.mate_journal.specs.OpenLog.{NumberFits, stamped_behind, joined}
use Rattle.mate_journal.specs.declared.entry.Stamped.{Stamped}
use Rattle.world_runs.specs.Records.{FitsBehind}

pub same-self : (l : Log) → IsSameLog l l
same-self l = record { entries = refl; images = refl; stores = refl }

pub same-then : (a b c : Log) → IsSameLog a b → IsSameLog b c → IsSameLog a c
same-then a b c f g = record { entries = f.entries ∙ g.entries; images = f.images ∙ g.images; stores = f.stores ∙ g.stores }

pub all-self : (xs : List Log) → AllZip IsSameLog xs xs
all-self [] = tt
all-self (x ∷ xs) = (same-self x, all-self xs)

pub all-then : (xs ys zs : List Log) → AllZip IsSameLog xs ys → AllZip IsSameLog ys zs → AllZip IsSameLog xs zs
all-then [] [] [] f g = tt
all-then [] [] (z ∷ zs) f g = absurd g
all-then [] (y ∷ ys) zs f g = absurd f
all-then (x ∷ xs) [] zs f g = absurd f
all-then (x ∷ xs) (y ∷ ys) [] f g = absurd g
all-then (x ∷ xs) (y ∷ ys) (z ∷ zs) f g = (same-then x y z f.0 g.0, all-then xs ys zs f.1 g.1)

pub all-long : (xs ys : List Log) → AllZip IsSameLog xs ys → length xs ≡ length ys
all-long xs ys all = length_all_zip IsSameLog xs ys all

-- one in place of another on both sides
pub all-set : (xs ys : List Log) (k : ℕ) (x y : Log) → AllZip IsSameLog xs ys → IsSameLog x y → AllZip IsSameLog (set xs k x) (set ys k y)
all-set [] [] k x y all same = tt
all-set [] (b ∷ ys) k x y all same = absurd all
all-set (a ∷ xs) [] k x y all same = absurd all
all-set (a ∷ xs) (b ∷ ys) zero x y all same = (same, all.1)
all-set (a ∷ xs) (b ∷ ys) (suc k) x y all same = (all.0, all-set xs ys k x y all.1 same)

-- or on one
pub all-set_one : (xs : List Log) (k : ℕ) (x y : Log) → slice_get xs k ≡ Some y → IsSameLog x y → AllZip IsSameLog (set xs k x) xs
all-set_one [] k x y found same = tt
all-set_one (a ∷ xs) zero x y found same =
    let is : a ≡ y = ap (λ (o : Option Log). unwrap_or o a) found in
    (subst (λ (l : Log). IsSameLog x l) (sym is) same, all-self xs)
all-set_one (a ∷ xs) (suc k) x y found same = (same-self a, all-set_one xs k x y found same)

pub all-at : (xs ys : List Log) (k : ℕ) (x y : Log) → AllZip IsSameLog xs ys → slice_get xs k ≡ Some x → slice_get ys k ≡ Some y → IsSameLog x y
all-at [] [] k x y all is_x is_y = absurd (none-some is_x) where
  none-some : None ≡ Some x → ⊥
  none-some e = cc
all-at [] (b ∷ ys) k x y all is_x is_y = absurd all
all-at (a ∷ xs) [] k x y all is_x is_y = absurd all
all-at (a ∷ xs) (b ∷ ys) zero x y all is_x is_y =
    let own_x : a ≡ x = ap (λ (o : Option Log). unwrap_or o a) is_x in
    let own_y : b ≡ y = ap (λ (o : Option Log). unwrap_or o b) is_y in
    subst (λ (l : Log). IsSameLog l y) own_x (subst (λ (l : Log). IsSameLog a l) own_y all.0)
all-at (a ∷ xs) (b ∷ ys) (suc k) x y all is_x is_y = all-at xs ys k x y all.1 is_x is_y

-- ---- the log of a node

pub has-log : (items : List Log) (from node : ℕ) (own : Log) → from ≡ node → from < length items → own ≡ get_or items from own → slice_get items node ≡ Some own
has-log items from node own is low found = ap (slice_get items) (sym is) ∙ slice_get-get_or items from own low ∙ ap (λ (l : Log). Some l) (sym found)

pub one-log : (a b : Log) → Some a ≡ Some b → a ≡ b
one-log a b is = ap (λ (o : Option Log). unwrap_or o a) is

get-set : (items : List Log) (k : ℕ) (x y : Log) → k < length items → get_or (set items k x) k y ≡ x
get-set [] k x y low = absurd (omega (arith, low))
get-set (a ∷ items) zero x y low = refl
get-set (a ∷ items) (suc k) x y low = get-set items k x y (omega (arith, low))

set-set : (items : List Log) (k : ℕ) (x y : Log) → set (set items k x) k y ≡ set items k y
set-set [] k x y = refl
set-set (a ∷ items) zero x y = refl
set-set (a ∷ items) (suc k) x y = ap (λ (ls : List Log). a ∷ ls) (set-set items k x y)

pub again-own : (items : List Log) (from again node : ℕ) (x y : Log) → from ≡ node → again ≡ node → from < length items → y ≡ get_or (set items from x) again y → y ≡ x
again-own items from again node x y is is' low found = found ∙ ap (λ (k : ℕ). get_or (set items from x) k y) (is' ∙ sym is) ∙ get-set items from x y low

pub again-set : (items : List Log) (from again node : ℕ) (x y : Log) → from ≡ node → again ≡ node → set (set items from x) again y ≡ set items node y
again-set items from again node x y is is' = ap (λ (k : ℕ). set (set items from x) k y) (is' ∙ sym is) ∙ set-set items from x y ∙ ap (λ (k : ℕ). set items k y) is

pub set-as : (items new : List Log) (node : ℕ) (x log : Log) → new ≡ set items node x → IsSameLog x log → AllZip IsSameLog new (set items node log)
set-as items new node x log is same = subst (λ (ls : List Log). AllZip IsSameLog ls (set items node log)) (sym is) (all-set items items node x log (all-self items) same)

-- a log behind two that are the same
pub joined-as : (a b l : Log) → IsSameLog a b → IsSameLog (joined a l) (joined b l)
joined-as a b l same = record {
  entries = λ i. same.entries i ++ map (stamped_behind (length (same.images i)) (length (same.stores i))) l.entries;
  images = λ i. same.images i ++ l.images;
  stores = λ i. same.stores i ++ l.stores;
}

pub fits-as : (a b told : Log) → IsSameLog a b → FitsBehind b told → FitsBehind a told
fits-as a b told same fits =
    let images : length a.images ≡ length b.images = ap (λ (xs : List (ArrayVec ℕ)). length xs) same.images in
    let stores : length a.stores ≡ length b.stores = ap (λ (xs : List Store). length xs) same.stores in
    let few = fits.images in
    let short = fits.stores in record {
      images = omega (arith, images, few);
      stores = omega (arith, stores, short);
      names = subst (λ (n : ℕ). All (λ (s : Stamped). NumberFits n (length a.stores) s.entry) told.entries) (sym images)
          (subst (λ (n : ℕ). All (λ (s : Stamped). NumberFits (length b.images) n s.entry) told.entries) (sym stores) fits.names);
    }

-- ---- logs put in their places

behind : (xs ys : List Log) (x : Log) → xs ++ x ∷ ys ≡ (xs ++ x ∷ []) ++ ys
behind [] ys x = refl
behind (z ∷ xs) ys x = ap (λ (zs : List Log). z ∷ zs) (behind xs ys x)

long-behind : (xs : List Log) (x : Log) → length (xs ++ x ∷ []) ≡ suc (length xs)
long-behind [] x = refl
long-behind (y ∷ xs) x = ap suc (long-behind xs x)

pub put-low : (xs first now : List Log) (n : ℕ) → n ≡ length xs → n < length first → now ≡ xs ++ drop (length xs) first → n < length now
put-low xs first now n is below was =
    let long = ap length was ∙ length-append xs (drop (length xs) first) in
    let rest = length-drop (length xs) first in omega (arith, is, below, long, rest)

pub put-all : (xs first now all : List Log) → map (λ y. y) xs ≡ all → length first ≡ length all → now ≡ xs ++ drop (length xs) first → now ≡ all
put-all xs first now all is long was =
    let same : xs ≡ all = sym (map-id xs) ∙ is in
    let count = ap length same in
    was ∙ ap (λ (ys : List Log). xs ++ ys) (drop_all (length xs) first (omega (arith, long, count))) ∙ append-nil xs ∙ same

pub put-next : (xs first now new : List Log) (n : ℕ) (l : Log) → n ≡ length xs → n < length first → now ≡ xs ++ drop (length xs) first → new ≡ set now n l → new ≡ (xs ++ l ∷ []) ++ drop (length (xs ++ l ∷ [])) first
put-next xs first now new n l is below was put =
    put
    ∙ ap (λ (k : ℕ). set now k l) is
    ∙ ap (λ (ls : List Log). set ls (length xs) l) (was ∙ ap (λ (ls : List Log). xs ++ ls) (drop-cons first (length xs) l (omega (arith, is, below))))
    ∙ set-append_seam xs (get_or first (length xs) l) (drop (suc (length xs)) first) l
    ∙ behind xs (drop (suc (length xs)) first) l
    ∙ ap (λ (k : ℕ). (xs ++ l ∷ []) ++ drop k first) (sym (long-behind xs l))
