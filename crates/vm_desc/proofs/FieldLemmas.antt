-- Lists of a text, beside the code's arrays.
use Rattle.std.proofs.Common.{◌≡◌, ℕ, ◌+◌, ◌<◌, ◌≤◌, List, [], ◌∷◌, ◌++◌, length, get_or, drop, Bool, true, false, is_some, Option, Some, None, option_map, Result, Ok, Err, Vec, Global, suc, refl, ap, sym, ◌∙◌, append_assoc, append-nil}
use Rattle.std.proofs.lemmas.Bool.{lt-ltb, le-ltb, and_parts}
use Rattle.std.proofs.lemmas.List.{length-append, drop_all}
use Rattle.std.proofs.lemmas.List.Folds.{list_all-append}
use Rattle.std.specs.List.{list_all}
use Rattle.std.specs.Option.{option_map_or, IfSome}
use Rattle.std.specs.Result.{IfOk}
use Rattle.toml.specs.Data.{Members, as_array, as_table}
use Rattle.toml.specs.View.{view, items_view, array_view}
use Rattle.toml.proofs.Views.{view-Array, items_view-drop}
use Rattle.toml.specs.declared.value.Value.{Value, Array}
use Rattle.vm_shape.specs.Names.{is_name}
use Rattle.vm_desc.specs.Fields.{taken, allowed, list_up_to, item_count, name, all_names, tables_in, are_tables}
use Rattle.vm_shape.specs.declared.key.Key.{Key}
use Rattle.vm_shape.specs.declared.fault.DescFault.{DescFault}
use Rattle.vm_shape.specs.declared.fault.DescFault.TheVariants.{OverLimit}

pub item_count-view : (vs : List Value) → item_count (items_view vs) ≡ length vs
item_count-view [] = refl
item_count-view (v ∷ vs) = ap suc (item_count-view vs)

pub list_at-long : (key : Key) (most : ℕ) (v : Vec Value Global) (value : Value) → value ≡ Array v → most < length v.items
    → list_up_to key most (as_array (view value)) ≡ Err (OverLimit key)
list_at-long key most v value same long = rw (same, view-Array, item_count-view, lt-ltb most (length v.items) long) refl

pub list_at-short : (key : Key) (most : ℕ) (v : Vec Value Global) (value : Value) → value ≡ Array v → length v.items ≤ most
    → list_up_to key most (as_array (view value)) ≡ Ok (array_view v)
list_at-short key most v value same short = rw (same, view-Array, item_count-view, le-ltb most (length v.items) short) refl

-- what is taken keeps what each such value keeps
pub taken-kept : {X : Type 0} (P : X → Type 0) (key : Key) (o : Option X) (r : Result X DescFault) → r ≡ taken key o → IfSome o P → IfOk r P
taken-kept P key None r e kept = rw e tt
taken-kept P key (Some x) r e kept = rw e kept

-- what is allowed holds
pub allowed-holds : (key : Key) (holds : Bool) → Ok tt ≡ allowed key holds → holds ≡ true
allowed-holds key true e = refl
allowed-holds key false e = absurd cc

-- the tables among the items from i on: the item at i is one, or is none, or there is none
pub are_tables-next : (vs : List Value) (i : ℕ) (v : Value) (all : Bool) → i < length vs → get_or vs i v ≡ v → is_some (as_table (view v)) ≡ true → are_tables (items_view (drop i vs)) ≡ all
    → are_tables (items_view (drop (i + 1) vs)) ≡ all
are_tables-next vs i v all within at table so_far = rw (items_view-drop vs i v within, at, table) at so_far

pub are_tables-none : (vs : List Value) (i : ℕ) (v : Value) (all : Bool) → i < length vs → get_or vs i v ≡ v → is_some (as_table (view v)) ≡ false → are_tables (items_view (drop i vs)) ≡ all
    → false ≡ all
are_tables-none vs i v all within at other so_far = rw (items_view-drop vs i v within, at, other) at so_far

pub are_tables-all : (vs : List Value) (i : ℕ) (all : Bool) → length vs ≤ i → are_tables (items_view (drop i vs)) ≡ all → true ≡ all
are_tables-all vs i all past so_far = rw (drop_all i vs past) at so_far

counted : (o : Option Members) (rest : List Members) (n : ℕ) → is_some o ≡ true → length rest ≡ n → length (option_map_or (λ ms. ms ∷ rest) o rest) ≡ suc n
counted None rest n h e = absurd cc
counted (Some ms) rest n h e = ap suc e

-- as many tables as items
pub length-tables_in : (vs : List Value) → are_tables (items_view vs) ≡ true → length (tables_in (items_view vs)) ≡ length vs
length-tables_in [] all = refl
length-tables_in (v ∷ vs) all =
    let (here, more) = and_parts (is_some (as_table (view v))) (are_tables (items_view vs)) all in
    counted (as_table (view v)) (tables_in (items_view vs)) (length vs) here (length-tables_in vs more)

-- the names that were read of the first i items
pub record AreNames (vs : List Value) (i : ℕ) (names : List (List ℕ)) : Type 0 where
  pub reads : option_map (λ more. names ++ more) (all_names (items_view (drop i vs))) ≡ all_names (items_view vs)
  pub count : length names ≡ i
  pub form : list_all is_name names ≡ true

behind : (names : List (List ℕ)) (x : List ℕ) (rest : Option (List (List ℕ)))
    → option_map (λ more. names ++ more) (option_map (λ xs. x ∷ xs) rest) ≡ option_map (λ more. (names ++ x ∷ []) ++ more) rest
behind names x None = refl
behind names x (Some ys) = ap (λ zs. Some zs) (sym (append_assoc names (x ∷ []) ys))

-- one more item is a name
pub names_next : (vs : List Value) (i : ℕ) (names more : List (List ℕ)) (v : Value) (x : List ℕ)
    → AreNames vs i names → i < length vs → get_or vs i v ≡ v → name (view v) ≡ Some x → is_name x ≡ true → more ≡ names ++ x ∷ [] → AreNames vs (i + 1) more
names_next vs i names more v x before within at is formed pushed =
    let here : option_map (λ ys. names ++ ys) (all_names (items_view (drop i vs))) ≡ option_map (λ ys. (names ++ x ∷ []) ++ ys) (all_names (items_view (drop (i + 1) vs))) =
    rw (items_view-drop vs i v within, at, is) (behind names x (all_names (items_view (drop (i + 1) vs)))) in
    record {
      reads = rw pushed (sym here ∙ before.reads);
      count = rw (pushed, length-append, before.count) refl;
      form = rw (pushed, list_all-append, before.form, formed) refl;
    }

-- an item is no name
pub names_none : (vs : List Value) (i : ℕ) (names : List (List ℕ)) (v : Value) → AreNames vs i names → i < length vs → get_or vs i v ≡ v → name (view v) ≡ None → all_names (items_view vs) ≡ None
names_none vs i names v before within at none = sym (rw (items_view-drop vs i v within, at, none) at before.reads)

-- all items are names
pub names_all : (vs : List Value) (i : ℕ) (names : List (List ℕ)) → AreNames vs i names → length vs ≤ i → all_names (items_view vs) ≡ Some names
names_all vs i names before past = sym (rw (drop_all i vs past, append-nil names) at before.reads)
