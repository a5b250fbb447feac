-- What a table of names says.
use Rattle.std.specs.Prelude.{◌≡◌, ℕ, Bool, true, false, List, Option, Some, None}
use Rattle.std.specs.Ordering.{nat_cmp}
use Rattle.std.specs.Cmp.Lexicographic.{slice_cmp}
use Rattle.std.specs.BTreeMap as tree
use Rattle.ts_proc_names.specs.declared.name_table.NameTable.{NameTable}
use Rattle.ts_proc_names.specs.Places.{place_of_name}

-- the number of a name in a table
abbrev pub number_of_name : NameTable → List ℕ → Option ℕ
number_of_name table name = tree.get_by (λ k. slice_cmp nat_cmp name k.now) table.numbers

-- the table has the first place of each of these names
abbrev pub Tabulates : NameTable → List (List ℕ) → Type 0
Tabulates table names = (name : List ℕ) → number_of_name table name ≡ place_of_name names name

-- the number that is there, and else another one if a test holds
abbrev pub kept_or : Option ℕ → Bool → ℕ → Option ℕ
kept_or (Some n) b m = Some n
kept_or None true m = Some m
kept_or None false m = None
