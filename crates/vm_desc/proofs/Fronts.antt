-- A list of tables that is read item by item: what was read, in front of what is left to read.
use Rattle.std.proofs.Common.{◌≡◌, ℕ, zero, suc, ◌+◌, ◌<◌, ◌≤◌, List, [], ◌∷◌, ◌++◌, length, get_or, drop, Bool, true, is_some, Option, Some, None, Result, Ok, Err, refl, sym, ap, ◌∙◌, append_assoc, append-nil, arith}
use Rattle.std.proofs.lemmas.Bool.{and_parts}
use Rattle.std.proofs.lemmas.List.{drop_all, length-append}
use Rattle.std.proofs.lemmas.List.Folds.{list_all-append}
use Rattle.std.specs.List.{list_all}
use Rattle.toml.specs.Data.{Members, as_table}
use Rattle.toml.specs.View.{view, items_view}
use Rattle.toml.specs.declared.value.Value.{Value}
use Rattle.toml.proofs.Views.{items_view-drop}
use Rattle.mate_num.specs.Results.{◌>>=◌}
use Rattle.vm_desc.specs.Fields.{each, tables_in, are_tables}
use Rattle.vm_shape.specs.declared.fault.DescFault.{DescFault}

-- the items in front of those that a reading gives
abbrev pub with_front : {A : Type 0} → List A → Result (List A) DescFault → Result (List A) DescFault
with_front xs (Ok ys) = Ok (xs ++ ys)
with_front xs (Err e) = Err e

with_front-one : {A : Type 0} (xs : List A) (y : A) (rest : Result (List A) DescFault)
    → with_front xs (rest >>= (λ ys. Ok (y ∷ ys))) ≡ with_front (xs ++ y ∷ []) rest
with_front-one xs y (Ok ys) = ap (λ zs. Ok zs) (sym (append_assoc xs (y ∷ []) ys))
with_front-one xs y (Err e) = refl

with_front-none : {A : Type 0} (rest : Result (List A) DescFault) → with_front [] rest ≡ rest
with_front-none (Ok ys) = refl
with_front-none (Err e) = refl

-- the tables from an item on, where the item is a table
tables_in-drop : (vs : List Value) (i : ℕ) (v : Value) (ms : Members) → i < length vs → get_or vs i v ≡ v → as_table (view v) ≡ Some ms
    → tables_in (items_view (drop i vs)) ≡ ms ∷ tables_in (items_view (drop (i + 1) vs))
tables_in-drop vs i v ms within at is = rw (items_view-drop vs i v within, at, is) refl

-- an item that reads as y
each_goes_on : {A : Type 0} (read : Members → Result A DescFault) (xs : List A) (vs : List Value) (i : ℕ) (v : Value) (ms : Members) (y : A)
    → i < length vs → get_or vs i v ≡ v → as_table (view v) ≡ Some ms → read ms ≡ Ok y
    → with_front xs (each read (tables_in (items_view (drop i vs)))) ≡ with_front (xs ++ y ∷ []) (each read (tables_in (items_view (drop (i + 1) vs))))
each_goes_on read xs vs i v ms y within at is good =
    rw (tables_in-drop vs i v ms within at is, good) (with_front-one xs y (each read (tables_in (items_view (drop (i + 1) vs)))))

-- an item that is refused
pub each_fails : {A : Type 0} (read : Members → Result A DescFault) (xs : List A) (vs : List Value) (i : ℕ) (v : Value) (ms : Members) (e : DescFault)
    → i < length vs → get_or vs i v ≡ v → as_table (view v) ≡ Some ms → read ms ≡ Err e
    → with_front xs (each read (tables_in (items_view (drop i vs)))) ≡ Err e
each_fails read xs vs i v ms e within at is bad = rw (tables_in-drop vs i v ms within at is, bad) refl

-- no item is left
pub each_ends : {A : Type 0} (read : Members → Result A DescFault) (xs : List A) (vs : List Value) (i : ℕ) → length vs ≤ i
    → with_front xs (each read (tables_in (items_view (drop i vs)))) ≡ Ok xs
each_ends read xs vs i past = rw (drop_all i vs past, append-nil xs) refl

-- what was read of the first i items, each of which meets a rule
pub record IsFront {A : Type 0} (read : Members → Result A DescFault) (rule : A → Bool) (vs : List Value) (i : ℕ) (xs : List A) : Type 0 where
  pub reads : with_front xs (each read (tables_in (items_view (drop i vs)))) ≡ each read (tables_in (items_view vs))
  pub count : length xs ≡ i
  pub rules : list_all rule xs ≡ true

pub front_none : {A : Type 0} (read : Members → Result A DescFault) (rule : A → Bool) (vs : List Value) → IsFront read rule vs 0 []
front_none read rule vs = record { reads = with_front-none (each read (tables_in (items_view vs))); count = refl; rules = refl }

pub front_next : {A : Type 0} (read : Members → Result A DescFault) (rule : A → Bool) (vs : List Value) (i : ℕ) (xs more : List A) (v : Value) (ms : Members) (y : A)
    → IsFront read rule vs i xs → i < length vs → get_or vs i v ≡ v → as_table (view v) ≡ Some ms → read ms ≡ Ok y → rule y ≡ true → more ≡ xs ++ y ∷ []
    → IsFront read rule vs (i + 1) more
front_next read rule vs i xs more v ms y front within at is good kept pushed = record {
  reads = rw pushed (sym (each_goes_on read xs vs i v ms y within at is good) ∙ front.reads);
  count = rw (pushed, length-append, front.count) refl;
  rules = rw (pushed, list_all-append, front.rules, kept) refl;
}

-- each of the items is a table
pub table_at : (vs : List Value) (i : ℕ) (v : Value) → are_tables (items_view vs) ≡ true → i < length vs → get_or vs i v ≡ v → as_table (view v) ≡ None → ⊥
table_at [] i v all within at none = absurd (omega arith)
table_at (x ∷ vs) zero v all within at none =
    let (here, more) = and_parts (is_some (as_table (view x))) (are_tables (items_view vs)) all in
    let same : as_table (view x) ≡ None = ap (λ y. as_table (view y)) at ∙ none in
    absurd (let found : is_some (as_table (view x)) ≡ true = here in cc)
table_at (x ∷ vs) (suc i) v all within at none =
    let (here, more) = and_parts (is_some (as_table (view x))) (are_tables (items_view vs)) all in
    table_at vs i v more (omega arith) at none
