-- How the values of a description's keys are read, and the first refusal.
use Rattle.std.specs.Prelude.{◌≡◌, ℕ, suc, List, [], ◌∷◌, ℤ, pos, negsuc, Bool, true, false, ◌&&◌, nat_lt, if◌then◌else◌, String, Option, Some, None, is_some, option_map, option_and_then, Result, Ok, Err}
use Rattle.std.specs.Option.{option_map_or, ok_or}
use Rattle.std.specs.Borrow.{Bor}
use Rattle.std.specs.BTreeMap.{BTreeMap}
use Rattle.std.specs.declared.alloc.Global.{Global}
use Rattle.toml.specs.View.{view, table_view}
use Rattle.toml.specs.declared.value.Value.{Value}
use Rattle.toml.specs.Data.{Data, Items, no_items, item, Members, as_integer, as_str, as_array, as_table, get_member}
use Rattle.mate_num.specs.Results.{◌>>=◌}
use Rattle.vm_shape.specs.Names.{between, name_of}
use Rattle.vm_shape.specs.declared.key.Key.{Key}
use Rattle.vm_shape.specs.declared.fault.DescFault.{DescFault}
use Rattle.vm_shape.specs.declared.fault.DescFault.TheVariants.{BadField, OverLimit}

-- what a function returned, seen by view, is what the reading gives
abbrev pub GivesField : {X Y : Type 0} → (X → Y) → Result X DescFault → Result Y DescFault → Type 0
GivesField view (Ok x) reading = reading ≡ Ok (view x)
GivesField view (Err e) reading = reading ≡ Err e

-- the value, or BadField with the key
abbrev pub taken : {A : Type 0} → Key → Option A → Result A DescFault
taken key o = ok_or o (BadField key)

-- BadField with the key, if a rule doesn't hold
abbrev pub allowed : Key → Bool → Result (Unit {0}) DescFault
allowed key test = if test then Ok tt else Err (BadField key)

-- the value of a key that may be absent, if there may be a default
abbrev pub field : {A : Type 0} → Key → (Data → Option A) → Option A → Option Data → Result A DescFault
field key read default None = taken key default
field key read default (Some d) = taken key (read d)

-- a whole number from low to high
abbrev pub whole_from : ℕ → ℕ → ℤ → Option ℕ
whole_from low high (pos n) = if between low high n then Some n else None
whole_from low high (negsuc n) = None

abbrev pub number : ℕ → ℕ → Data → Option ℕ
number low high d = option_and_then (whole_from low high) (as_integer d)

-- a text that has a name's form
abbrev pub name : Data → Option (List ℕ)
name d = option_and_then name_of (as_str d)

-- how many items
abbrev pub item_count : Items → ℕ
item_count no_items = 0
item_count (item d ds) = suc (item_count ds)

-- the items as names, if all are names
abbrev pub all_names : Items → Option (List (List ℕ))
all_names no_items = Some []
all_names (item d ds) = option_and_then (λ x. option_map (λ xs. x ∷ xs) (all_names ds)) (name d)

-- a list of at most `most` items
abbrev pub list_up_to : Key → ℕ → Option Items → Result Items DescFault
list_up_to key most None = Err (BadField key)
list_up_to key most (Some ds) = if nat_lt most (item_count ds) then Err (OverLimit key) else Ok ds

-- a list of at most `most` names; none if the key is absent
abbrev pub names : Key → ℕ → Option Data → Result (List (List ℕ)) DescFault
names key most None = Ok []
names key most (Some d) = list_up_to key most (as_array d) >>= (λ ds. taken key (all_names ds))

-- all items are tables
abbrev pub are_tables : Items → Bool
are_tables no_items = true
are_tables (item d ds) = is_some (as_table d) && are_tables ds

-- the tables among the items
abbrev pub tables_in : Items → List Members
tables_in no_items = []
tables_in (item d ds) = option_map_or (λ ms. ms ∷ tables_in ds) (as_table d) (tables_in ds)

-- a list of at most `most` items, all of them tables
abbrev pub tables : Key → ℕ → Data → Result (List Members) DescFault
tables key most d = list_up_to key most (as_array d) >>= (λ ds. allowed key (are_tables ds) >>= (λ _. Ok (tables_in ds)))

-- what each table reads as, in order
abbrev pub each : {A : Type 0} → (Members → Result A DescFault) → List Members → Result (List A) DescFault
each read [] = Ok []
each read (t ∷ ts) = read t >>= (λ x. each read ts >>= (λ xs. Ok (x ∷ xs)))

-- a table that may be absent; another value is BadField with the key
abbrev pub section : Key → Option Data → Result (Option Members) DescFault
section key None = Ok None
section key (Some d) = taken key (option_map (λ ms. Some ms) (as_table d))

-- the value at a key of a table that may be absent
abbrev pub member_of : List ℕ → Option Members → Option Data
member_of word table = option_and_then (get_member word) table

-- a key that is to be absent
abbrev pub absent : {A : Type 0} → Key → A → Option Data → Result A DescFault
absent key x None = Ok x
absent key x (Some d) = Err (BadField key)

-- a text that is one of some words
abbrev pub word_as : {A : Type 0} → (List ℕ → Option A) → Data → Option A
word_as read d = option_and_then read (as_str d)

-- what the code holds of a value and of a table that may be absent
abbrev pub seen : Option (Bor Value) → Option Data
seen value = option_map (λ v. view v.now) value

abbrev pub seen_table : Option (Bor (BTreeMap (String Global) Value)) → Option Members
seen_table table = option_map (λ t. table_view t.now) table
