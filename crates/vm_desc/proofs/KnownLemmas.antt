-- The keys inside the items of a list, one item after the other.
use Rattle.std.proofs.Common.{◌≡◌, ℕ, ◌+◌, ◌<◌, ◌≤◌, List, length, get_or, drop, Bool, true, false}
use Rattle.std.proofs.lemmas.List.{drop_all}
use Rattle.toml.specs.View.{view, items_view}
use Rattle.toml.proofs.Views.{items_view-drop}
use Rattle.toml.specs.declared.value.Value.{Value}
use Rattle.vm_desc.specs.Places.{has_known, items_have_known}
use Rattle.vm_desc.specs.declared.known.Place.{Place}

-- the item at i has known keys alone, or another one, or there is no such item
pub items_known-next : (p : Place) (vs : List Value) (i : ℕ) (v : Value) (all : Bool) → i < length vs → get_or vs i v ≡ v → has_known p (view v) ≡ true → items_have_known p (items_view (drop i vs)) ≡ all
    → items_have_known p (items_view (drop (i + 1) vs)) ≡ all
items_known-next p vs i v all within at known so_far = rw (items_view-drop vs i v within, at, known) at so_far

pub items_known-none : (p : Place) (vs : List Value) (i : ℕ) (v : Value) (all : Bool) → i < length vs → get_or vs i v ≡ v → has_known p (view v) ≡ false → items_have_known p (items_view (drop i vs)) ≡ all
    → false ≡ all
items_known-none p vs i v all within at other so_far = rw (items_view-drop vs i v within, at, other) at so_far

pub items_known-all : (p : Place) (vs : List Value) (i : ℕ) (all : Bool) → length vs ≤ i → items_have_known p (items_view (drop i vs)) ≡ all → true ≡ all
items_known-all p vs i all past so_far = rw (drop_all i vs past) at so_far
