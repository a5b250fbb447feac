-- The series of a world, and the table of their places.
use Rattle.std.proofs.Common.{◌≡◌, ℕ, zero, suc, ◌+◌, ◌-◌, ◌*◌, ◌<◌, ◌≤◌, ℤ, pos, Bool, true, false, ◌==◌, cond, List, [], ◌∷◌, ◌++◌, length, take, replicate, get_or, slice_set, Result, Ok, Err, OnOk, refl, sym, ◌∙◌, ap, inl, inr, ◌⊎◌, ◌≢◌, arith, append_assoc, append-nil, length-append, get_or-set_same, get_or-set_other}
use Rattle.std.proofs.lemmas.Bool.Decides.{eqb_tells, nat_tests}
use Rattle.std.proofs.lemmas.Bool.{and_parts}
use Rattle.std.proofs.lemmas.List.{length-set, length-replicate}
use Rattle.std.proofs.Math.Seq.{take-suc}
use Rattle.script_steps.specs.declared.world.World.{World}
use Rattle.script_steps.specs.declared.world.Series.{Series}
use Rattle.script_steps.specs.World.{with_values}
use Rattle.script_reader.specs.WorldLines.{WorldProgress, is_linked}
use Rattle.script_reader.specs.Draft.{is_of_pair, place_from, AreTables}
use Rattle.script_reader.specs.WorldScript.{with_series}

-- ---- values behind a series

pub with_values-none : (place : ℕ) (series : List Series) → with_values place [] series ≡ series
with_values-none place [] = refl
with_values-none zero (s ∷ series) = ap (λ vs. record s { values = vs } ∷ series) (append-nil s.values)
with_values-none (suc place) (s ∷ series) = ap (λ r. s ∷ r) (with_values-none place series)

pub with_values-more : (place : ℕ) (some more : List ℤ) (series : List Series) → with_values place more (with_values place some series) ≡ with_values place (some ++ more) series
with_values-more place some more [] = refl
with_values-more zero some more (s ∷ series) = ap (λ vs. record s { values = vs } ∷ series) (append_assoc s.values some more)
with_values-more (suc place) some more (s ∷ series) = ap (λ r. s ∷ r) (with_values-more place some more series)

pub length-with_values : (place : ℕ) (values : List ℤ) (series : List Series) → length (with_values place values series) ≡ length series
length-with_values place values [] = refl
length-with_values zero values (s ∷ series) = refl
length-with_values (suc place) values (s ∷ series) = ap suc (length-with_values place values series)

-- a loop over the values
pub record IsAppendedTo (place : ℕ) (values : List ℤ) (index : ℕ) (begun now : List Series) : Type 0 where
  pub now_is : now ≡ with_values place (take index values) begun
  pub same_len : length now ≡ length begun

pub append_none : (place : ℕ) (values : List ℤ) (begun : List Series) → IsAppendedTo place values 0 begun begun
append_none place values begun = record { now_is = sym (with_values-none place begun); same_len = refl }

pub append_more : (place : ℕ) (values : List ℤ) (index : ℕ) (begun now new : List Series) (v : ℤ) → IsAppendedTo place values index begun now → index < length values
    → v ≡ get_or values index (pos 0) → new ≡ with_values place (v ∷ []) now → IsAppendedTo place values (index + 1) begun new
append_more place values index begun now new v r lt is e = record {
  now_is = e ∙ ap (with_values place (v ∷ [])) r.now_is ∙ with_values-more place (take index values) (v ∷ []) begun
      ∙ ap (λ vs. with_values place vs begun) (ap (λ x. take index values ++ x ∷ []) is ∙ sym (take-suc values index (pos 0) lt) ∙ ap (λ n. take n values) (one index));
  same_len = ap length e ∙ length-with_values place (v ∷ []) now ∙ r.same_len;
} where
  one : (n : ℕ) → suc n ≡ n + 1
  one n = omega arith

-- ---- places

place_high : (n node fun : ℕ) (series : List Series) → 1 ≤ n → place_from n node fun series < n → place_from n node fun series ≡ 0
place_high n node fun [] low h = refl
place_high n node fun (r ∷ series) low h = by (is_of_pair node fun r) h (λ low h. place_high (n + 1) node fun series low h)
  where
    by : (b : Bool) → cond b n (place_from (n + 1) node fun series) < n → (1 ≤ n + 1 → place_from (n + 1) node fun series < n + 1 → place_from (n + 1) node fun series ≡ 0)
        → cond b n (place_from (n + 1) node fun series) ≡ 0
    by true h rest = absurd (omega arith)
    by false h rest = rest (omega arith) (omega arith)

-- no series of the pair yet
pub new_series : (n : ℕ) (s : Series) (series : List Series) → 1 ≤ n → place_from n s.node s.fun.0 series ≡ 0 → with_series s series ≡ series ++ s ∷ []
new_series n s [] low none = refl
new_series n s (r ∷ series) low none = by (is_of_pair s.node s.fun.0 r) none (λ none. new_series (n + 1) s series (omega arith) none)
  where
    by : (b : Bool) → cond b n (place_from (n + 1) s.node s.fun.0 series) ≡ 0 → (place_from (n + 1) s.node s.fun.0 series ≡ 0 → with_series s series ≡ series ++ s ∷ []) → cond b (record r { values = r.values ++ s.values } ∷ series) (r ∷ with_series s series) ≡ r ∷ (series ++ s ∷ [])
    by true none rest = absurd (omega arith)
    by false none rest = ap (λ x. r ∷ x) (rest none)

pub record IsOldSeries (place : ℕ) (s : Series) (series : List Series) : Type 0 where
  pub within : place < length series
  pub same : with_series s series ≡ with_values place s.values series

pub old_series : (n place : ℕ) (s : Series) (series : List Series) → 1 ≤ n → place_from n s.node s.fun.0 series ≡ n + place → IsOldSeries place s series
old_series n place s [] low at = absurd (omega arith)
old_series n zero s (r ∷ series) low at = by (is_of_pair s.node s.fun.0 r) refl at
  where
    by : (b : Bool) → is_of_pair s.node s.fun.0 r ≡ b → cond b n (place_from (n + 1) s.node s.fun.0 series) ≡ n + 0 → IsOldSeries 0 s (r ∷ series)
    by true e at = record { within = omega arith; same = rw e refl }
    by false e at = absurd (omega (arith, place_high (n + 1) s.node s.fun.0 series (omega arith) (omega arith)))
old_series n (suc place) s (r ∷ series) low at = by (is_of_pair s.node s.fun.0 r) refl at (λ at. old_series (n + 1) place s series (omega arith) at)
  where
    by : (b : Bool) → is_of_pair s.node s.fun.0 r ≡ b → cond b n (place_from (n + 1) s.node s.fun.0 series) ≡ n + suc place
        → (place_from (n + 1) s.node s.fun.0 series ≡ n + 1 + place → IsOldSeries place s series) → IsOldSeries (suc place) s (r ∷ series)
    by true e at rest = absurd (omega arith)
    by false e at rest =
        let old : IsOldSeries place s series = rest (omega arith) in
        record { within = omega (arith, old.within); same = rw e (ap (λ x. r ∷ x) old.same) }

place_kept : (n node fun place : ℕ) (values : List ℤ) (series : List Series) → place_from n node fun (with_values place values series) ≡ place_from n node fun series
place_kept n node fun place values [] = refl
place_kept n node fun zero values (r ∷ series) = refl
place_kept n node fun (suc place) values (r ∷ series) = ap (λ rest. cond (is_of_pair node fun r) n rest) (place_kept (n + 1) node fun place values series)

place_pushed_other : (n node fun : ℕ) (s : Series) (series : List Series) → is_of_pair node fun s ≡ false → place_from n node fun (series ++ s ∷ []) ≡ place_from n node fun series
place_pushed_other n node fun s [] other = rw other refl
place_pushed_other n node fun s (r ∷ series) other = ap (λ rest. cond (is_of_pair node fun r) n rest) (place_pushed_other (n + 1) node fun s series other)

place_pushed : (n node fun : ℕ) (s : Series) (series : List Series) → 1 ≤ n → is_of_pair node fun s ≡ true → place_from n node fun series ≡ 0 → place_from n node fun (series ++ s ∷ []) ≡ n + length series
place_pushed n node fun s [] low own none = rw own (omega arith)
place_pushed n node fun s (r ∷ series) low own none = by (is_of_pair node fun r) none (λ none. place_pushed (n + 1) node fun s series (omega arith) own none)
  where
    by : (b : Bool) → cond b n (place_from (n + 1) node fun series) ≡ 0 → (place_from (n + 1) node fun series ≡ 0 → place_from (n + 1) node fun (series ++ s ∷ []) ≡ n + 1 + length series)
        → cond b n (place_from (n + 1) node fun (series ++ s ∷ [])) ≡ n + suc (length series)
    by true none rest = absurd (omega arith)
    by false none rest = omega (arith, rest none)

-- ---- the table after a line

pub tables_kept : (linked : List Bool) (places : List ℕ) (w new : World) (place : ℕ) (values : List ℤ) → AreTables linked places w → new.links ≡ w.links → new.series ≡ with_values place values w.series → AreTables linked places new
tables_kept linked places w new place values t links series = record {
  linked_len = t.linked_len;
  places_len = t.places_len;
  links = λ from to f g. t.links from to f g ∙ ap (is_linked from to) (sym links);
  series = λ node fun f g. t.series node fun f g ∙ sym (ap (place_from 1 node fun) series ∙ place_kept 1 node fun place values w.series);
}

pair_of : (node fun : ℕ) (s : Series) → (node * 32 + fun ≡ s.node * 32 + s.fun.0 → ⊥) → is_of_pair node fun s ≡ false
pair_of node fun s other = by (is_of_pair node fun s) refl
  where
    by : (b : Bool) → is_of_pair node fun s ≡ b → b ≡ false
    by true e = absurd (let parts = and_parts (s.node == node) (s.fun.0 == fun) e in other (grind (arith, nat_tests)))
    by false e = refl

same_pair : (s : Series) → is_of_pair s.node s.fun.0 s ≡ true
same_pair s = grind (arith, nat_tests)

unpaired : (a b c d : ℕ) → b < 32 → d < 32 → a * 32 + b ≡ c * 32 + d → (a ≡ c) × (b ≡ d)
unpaired a b c d h k e = (omega arith, omega arith)

pub tables_grown : (linked : List Bool) (places : List ℕ) (w new : World) (s : Series) → s.node < 64 → s.fun.0 < 32 → AreTables linked places w → new.links ≡ w.links → new.series ≡ w.series ++ s ∷ []
    → place_from 1 s.node s.fun.0 w.series ≡ 0 → AreTables linked (slice_set places (s.node * 32 + s.fun.0) (length new.series)) new
tables_grown linked places w new s node_high fun_high t links series none = record {
  linked_len = t.linked_len;
  places_len = length-set places (s.node * 32 + s.fun.0) (length new.series) ∙ t.places_len;
  links = λ from to f g. t.links from to f g ∙ ap (is_linked from to) (sym links);
  series = λ node fun f g. by node fun g (eqb_tells (node * 32 + fun) (s.node * 32 + s.fun.0)) (t.series node fun f g);
} where
  by : (node fun : ℕ) → fun < 32 → (((node * 32 + fun) == (s.node * 32 + s.fun.0)) ≡ true × node * 32 + fun ≡ s.node * 32 + s.fun.0) ⊎ (((node * 32 + fun) == (s.node * 32 + s.fun.0)) ≡ false × node * 32 + fun ≢ s.node * 32 + s.fun.0)
      → get_or places (node * 32 + fun) 0 ≡ place_from 1 node fun w.series → get_or (slice_set places (s.node * 32 + s.fun.0) (length new.series)) (node * 32 + fun) 0 ≡ place_from 1 node fun new.series
  by node fun g (inl same) old =
      let pair = unpaired node fun s.node s.fun.0 g fun_high same.1 in
      let within : s.node * 32 + s.fun.0 < length places = omega (arith, t.places_len) in
      let len : length new.series ≡ length w.series + 1 = ap length series ∙ length-append w.series (s ∷ []) in
      let at : place_from 1 s.node s.fun.0 (w.series ++ s ∷ []) ≡ 1 + length w.series = place_pushed 1 s.node s.fun.0 s w.series (omega arith) (same_pair s) none in
      ap (λ k. get_or (slice_set places (s.node * 32 + s.fun.0) (length new.series)) k 0) same.1 ∙ get_or-set_same places (s.node * 32 + s.fun.0) (length new.series) 0 within
      ∙ omega (arith, len, at) ∙ sym (ap (λ n. place_from 1 n fun new.series) pair.0 ∙ ap (λ f. place_from 1 s.node f new.series) pair.1 ∙ ap (place_from 1 s.node s.fun.0) series)
  by node fun g (inr other) old =
      get_or-set_other places (s.node * 32 + s.fun.0) (node * 32 + fun) (length new.series) 0 other.1 ∙ old
      ∙ sym (ap (place_from 1 node fun) series ∙ place_pushed_other 1 node fun s w.series (pair_of node fun s other.1))

-- a place that is taken is that of the pair's series
pub at_place : (linked : List Bool) (places : List ℕ) (w : World) (s : Series) → s.node < 64 → s.fun.0 < 32 → AreTables linked places w → (get_or places (s.node * 32 + s.fun.0) 0 ≡ 0 → ⊥)
    → IsOldSeries (get_or places (s.node * 32 + s.fun.0) 0 - 1) s w.series
at_place linked places w s node_high fun_high t taken =
    let k : ℕ = get_or places (s.node * 32 + s.fun.0) 0 in
    let more : k ≡ 1 + (k - 1) = omega arith in
    old_series 1 (k - 1) s w.series (omega arith) (sym (t.series s.node s.fun.0 node_high fun_high) ∙ more)

-- a place that isn't taken has no series yet
pub no_place : (linked : List Bool) (places : List ℕ) (w : World) (s : Series) → s.node < 64 → s.fun.0 < 32 → AreTables linked places w → get_or places (s.node * 32 + s.fun.0) 0 ≡ 0
    → place_from 1 s.node s.fun.0 w.series ≡ 0
no_place linked places w s node_high fun_high t free = sym (t.series s.node s.fun.0 node_high fun_high) ∙ free

pub on_ok : {A E P Q : Type 0} (r : Result A E) → (P → Q) → OnOk r P → OnOk r Q
on_ok (Ok a) f h = f h
on_ok (Err e) f h = tt

abbrev pub with_world_series : WorldProgress → List Series → WorldProgress
with_world_series p series = record p { world = record p.world { series = series } }

get_or-replicated : {X : Type 0} (n k : ℕ) (x : X) → get_or (replicate n x) k x ≡ x
get_or-replicated zero k x = refl
get_or-replicated (suc n) zero x = refl
get_or-replicated (suc n) (suc k) x = get_or-replicated n k x

-- no links and no series
pub tables_none : (m n : ℕ) (linked : List Bool) (places : List ℕ) (w : World) → linked ≡ replicate m false → places ≡ replicate n 0 → m ≡ 4096 → n ≡ 2048 → w.links ≡ [] → w.series ≡ [] → AreTables linked places w
tables_none m n linked places w linked_is places_is m_is n_is links series = record {
  linked_len = ap length linked_is ∙ length-replicate m false ∙ m_is;
  places_len = ap length places_is ∙ length-replicate n 0 ∙ n_is;
  links = λ from to f g. ap (λ l. get_or l (from * 64 + to) false) linked_is ∙ get_or-replicated m (from * 64 + to) false ∙ sym (ap (is_linked from to) links);
  series = λ node fun f g. ap (λ l. get_or l (node * 32 + fun) 0) places_is ∙ get_or-replicated n (node * 32 + fun) 0 ∙ sym (ap (place_from 1 node fun) series);
}
