-- What the code relies on in every state, whatever happened.
use Rattle.std.specs.Prelude.{ℕ, ◌<◌, ◌≤◌, IsTrue, List, length, slice_index_or, IfSome, All, false}
use Rattle.mate_num.specs.declared.bounds.TheConstants.{FRAGMENTS_MAX}
use Rattle.capsule_codec.specs.Fragments.{count_of}
use Rattle.capsule_exchange.specs.declared.handler_state.HandlerState.{HandlerState}

pub record IsSoundState (s : HandlerState) : Type 0 where
  -- an image has `FRAGMENTS_MAX` fragments at most
  pub few : IfSome s.form (λ form. form.count ≤ FRAGMENTS_MAX)
  -- only fragments that the held image has are owed
  pub owed : (i : ℕ) → IsTrue (slice_index_or s.marks i false) → i < count_of s.image.items
  -- an image is held under a version
  pub numbered : 1 ≤ length s.image.items → 1 ≤ s.held

abbrev pub AreSound : List HandlerState → Type 0
AreSound states = All IsSoundState states
