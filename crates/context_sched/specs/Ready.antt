-- The ready contexts of a node, in the order in which they get their turns.
use Rattle.std.specs.Prelude.{◌≡◌, ◌≢◌, ◌<◌, List, [], ◌∷◌, Bool, false, not, ◌==◌, filter}
use Rattle.std.specs.List.{list_any}
use Rattle.mate_num.specs.declared.bounds.TheConstants.{CONTEXTS_MAX}
use Rattle.mate_num.specs.declared.id.ContextId.{ContextId}

-- the two are one context
abbrev pub is_same : ContextId → ContextId → Bool
is_same a b = a.0 == b.0

-- the context is in the list
abbrev pub holds : List ContextId → ContextId → Bool
holds ready ctx = list_any (is_same ctx) ready

-- the others, in the same order
abbrev pub without : List ContextId → ContextId → List ContextId
without ready ctx = filter (λ c. not (is_same ctx c)) ready

-- contexts of a node, which has at most `CONTEXTS_MAX`, and none of them twice
abbrev pub AreContexts : List ContextId → Type 0
AreContexts [] = Unit {0}
AreContexts (ctx ∷ rest) = (ctx.0 < CONTEXTS_MAX) × (holds rest ctx ≡ false) × AreContexts rest

-- the context is in the new list or not, as `present` says, and any other one is where it was in the old list
pub record Changes (old new : List ContextId) (ctx : ContextId) (present : Bool) : Type 0 where
  pub here : holds new ctx ≡ present
  pub others : (c : ContextId) → c.0 ≢ ctx.0 → holds new c ≡ holds old c
