-- Which keys a description may have, and where.
use Rattle.std.specs.Prelude.{ℕ, List, [], ◌∷◌, codes, Bool, true, ◌&&◌, if◌then◌else◌, Option, Some, None, is_some, unwrap_or}
use Rattle.std.specs.Option.{option_or}
use Rattle.mate_num.specs.Lists.{lookup_or}
use Rattle.toml.specs.Data.{Data, string, integer, float, boolean, datetime, array, table, Items, no_items, item, Members, no_members, member}
use Rattle.vm_shape.specs.Names.{stands_in}
use Rattle.vm_desc.specs.declared.known.Place.{Place}
use Rattle.vm_desc.specs.declared.known.Place.TheVariants as place

-- the keys of one table
abbrev pub known_words : Place → List (List ℕ)
known_words place.Document = codes "vm" ∷ codes "shared" ∷ codes "buffers" ∷ codes "devices" ∷ codes "turns" ∷ codes "quantum" ∷ []
known_words place.Handler = codes "name" ∷ codes "kind" ∷ codes "contexts" ∷ codes "period" ∷ []
known_words place.Function = codes "name" ∷ codes "kind" ∷ codes "args" ∷ codes "device" ∷ codes "latency" ∷ []
known_words place.Trickle = codes "imin" ∷ codes "doublings" ∷ codes "k" ∷ []
known_words place.Radio = codes "delay" ∷ codes "gap" ∷ []
known_words place.Value = []

-- a value that holds no keys is under such a key
abbrev pub value_place : Place → List ℕ → Option Place
value_place p word = if stands_in (known_words p) word then Some place.Value else None

-- a table, or tables, of a document are under such a key
abbrev pub table_below : Place → List ℕ → Option Place
table_below place.Document word = lookup_or None word
    ((codes "handler", Some place.Handler) ∷ (codes "function", Some place.Function)
    ∷ (codes "trickle", Some place.Trickle) ∷ (codes "radio", Some place.Radio) ∷ [])
table_below _ word = None

-- the place of what is under a key, and none for a key that isn't known there
abbrev pub known_below : Place → List ℕ → Option Place
known_below p word = option_or (table_below p word) (value_place p word)

-- each key inside, at any depth and through lists, is known where it is
abbrev mutual
  pub has_known : Place → Data → Bool
  has_known p (array ds) = items_have_known p ds
  has_known p (table ms) = members_have_known p ms
  has_known p _ = true

  pub items_have_known : Place → Items → Bool
  items_have_known p no_items = true
  items_have_known p (item d ds) = has_known p d && items_have_known p ds

  pub members_have_known : Place → Members → Bool
  members_have_known p no_members = true
  members_have_known p (member k d ms) =
      (is_some (known_below p k) && has_known (unwrap_or (known_below p k) place.Value) d) && members_have_known p ms
