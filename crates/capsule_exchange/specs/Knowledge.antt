-- What an exchange is: for each handler, and of the pump, what the happenings lead to.
use Rattle.std.specs.Prelude.{◌≡◌, ◌↔◌, ℕ, Bool, IsTrue, List, [], ◌∷◌, map, slice_set, Option, None, Some, IsSomeAnd}
use Rattle.std.specs.List.{range_with_len}
use Rattle.packet_codec.specs.declared.packet.Packet.{Packet}
use Rattle.packet_codec.specs.declared.packet.Packet.TheVariants.{Vector, Status, Fragment, App}
use Rattle.mate_num.specs.declared.id.HandlerId.{HandlerId}
use Rattle.capsule_exchange.specs.declared.handler_state.Form.{Form}
use Rattle.capsule_exchange.specs.declared.handler_state.HandlerState.{HandlerState}
use Rattle.capsule_exchange.specs.Table.{table}
use Rattle.capsule_exchange.specs.Happenings.{Happening, Sends, TargetFragment, held_version, held_image, held_versions, target_version, target_parts, collected_at, is_marked, last_sent}
use Rattle.capsule_exchange.specs.Steps.{state_at}

-- the count and the kind of the fragments that are collected
abbrev pub collected_form : List TargetFragment → Option Form
collected_form [] = None
collected_form (first ∷ parts) = Some (record { count = first.count; large = first.large })

-- what is known of the handler h
abbrev pub state_after : List Happening → ℕ → HandlerState
state_after hs h = record {
  held = held_version h hs;
  image = record { items = held_image h hs };
  target = target_version h hs;
  form = collected_form (target_parts h hs);
  pieces = table (collected_at (target_parts h hs));
  marks = table (λ i. is_marked h i hs);
}

-- each handler's state, and the slot that was sent last
pub record Knowledge : Type 0 where
  pub handlers : List HandlerState
  pub last : Option ℕ

-- the version that is held of a handler
abbrev pub held_of : Knowledge → HandlerId → ℕ
held_of k handler = (state_at k.handlers handler.0).held

-- with another state of the handler h
abbrev pub with_state : Knowledge → ℕ → HandlerState → Knowledge
with_state k h state = record k { handlers = slice_set k.handlers h state }

-- what a node with n handlers knows after these happenings
abbrev pub knowledge : ℕ → List Happening → Knowledge
knowledge n hs = record { handlers = map (state_after hs) (range_with_len 0 n); last = last_sent hs }

-- whatever happened: if a node with n handlers knows this after the happenings hs, the fact holds of n and hs
abbrev pub Whatever : Knowledge → (ℕ → List Happening → Type 0) → Type 0
Whatever known Fact = (n : ℕ) (hs : List Happening) → known ≡ knowledge n hs → Fact n hs

-- new is what is known with one more happening
abbrev pub Learns : Knowledge → Happening → Knowledge → Type 0
Learns old happening new = Whatever old (λ n before. new ≡ knowledge n (happening ∷ before))

-- a Vector is consistent exactly if it has the held versions, and only a Vector is judged
abbrev pub Judges : ℕ → Packet → List Happening → Option Bool → Type 0
Judges n (Vector versions) before answer = IsSomeAnd answer (λ consistent. IsTrue consistent ↔ (versions.items ≡ held_versions n before))
Judges n (Status g version missing) before answer = answer ≡ None
Judges n (Fragment g version index count large bytes) before answer = answer ≡ None
Judges n (App payload) before answer = answer ≡ None

-- the happenings after a call of the pump that sends this slot or none
abbrev pub with_sent : Option ℕ → List Happening → List Happening
with_sent None before = before
with_sent (Some slot) before = Sends slot ∷ before
