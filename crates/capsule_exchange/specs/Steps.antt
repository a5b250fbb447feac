-- How the state of one handler changes with each happening, and what it answers. The code takes these steps; the laws
-- of proofs/ say that they lead to what looking back over the happenings gives.
use Rattle.std.specs.Prelude.{ℕ, ◌/◌, ◌%◌, nat_lt, ◌==◌, Bool, true, false, ◌&&◌, ◌||◌, if◌then◌else◌, List, [], length, map, take, slice_index, slice_index_or, slice_set, Option, None, Some, is_some, is_none}
use Rattle.std.specs.Bool.{beq}
use Rattle.std.specs.Int.{bit_at}
use Rattle.std.specs.List.{filter, find, range_with_len}
use Rattle.std.specs.Option.{option_or}
use Rattle.arrayvec.specs.ArrayVec.{ArrayVec}
use Rattle.mate_num.specs.declared.bounds.TheConstants.{FRAGMENTS_MAX}
use Rattle.mate_num.specs.declared.id.HandlerId.{HandlerId}
use Rattle.capsule_codec.specs.Fragments.{count_of}
use Rattle.packet_codec.specs.declared.packet.Packet.{Packet}
use Rattle.packet_codec.specs.declared.packet.Packet.TheVariants.{Status}
use Rattle.capsule_exchange.specs.declared.handler_state.Form.{Form}
use Rattle.capsule_exchange.specs.declared.handler_state.HandlerState.{HandlerState}
use Rattle.capsule_exchange.specs.Table.{table}
use Rattle.capsule_exchange.specs.Happenings.{gaps, mask_of, whole, next_place, slots_from, fragment_of}

-- nothing is held, collected or owed
abbrev pub no_state : HandlerState
no_state =
    record { held = 0; image = record { items = [] }; target = 0; form = None; pieces = table (λ _. None); marks = table (λ _. false) }

-- a version over the held one and the target becomes the target, of which nothing is collected yet
abbrev pub aimed : ℕ → HandlerState → HandlerState
aimed version s =
    if nat_lt s.held version && nat_lt s.target version then record s { target = version; form = None; pieces = table (λ _. None) } else s

-- the first fragment of the target gives the count and the kind
abbrev pub takes : Form → Option Form → Bool
takes form None = true
takes form (Some first) = form.count == first.count && beq form.large first.large

-- a fragment of the target is kept if it goes with the first one and none of its index is kept
abbrev pub kept : ℕ → Form → ArrayVec ℕ → HandlerState → HandlerState
kept index form bytes s =
    if takes form s.form && is_none (slice_index_or s.pieces index None) then
    record s { form = Some form; pieces = slice_set s.pieces index (Some bytes) } else s

-- a fragment is kept if it is of the target, after its version was heard of
abbrev pub keeps : ℕ → ℕ → Form → ArrayVec ℕ → HandlerState → HandlerState
keeps version index form bytes s = if nat_lt s.held version && version == s.target then kept index form bytes s else s

abbrev pub hears_fragment : ℕ → ℕ → Form → ArrayVec ℕ → HandlerState → HandlerState
hears_fragment version index form bytes s = keeps version index form bytes (aimed version s)

-- the places below the count that a bit of the mask names are marked too
abbrev pub marked : ℕ → ℕ → List Bool → List Bool
marked count missing marks = table (λ i. (nat_lt i count && bit_at missing i == 1) || slice_index_or marks i false)

abbrev pub hears_status : ℕ → ℕ → HandlerState → HandlerState
hears_status version missing s = if version == s.held then record s { marks = marked (count_of s.image.items) missing s.marks } else s

abbrev pub after_sending : ℕ → HandlerState → HandlerState
after_sending index s = record s { marks = slice_set s.marks index false }

abbrev pub forgets : HandlerState → HandlerState
forgets s = record s { target = 0; form = None; pieces = table (λ _. None); marks = table (λ _. false) }

abbrev pub installs : ℕ → ArrayVec ℕ → HandlerState → HandlerState
installs version image s = forgets (record s { held = version; image = image })

abbrev pub limit_in : Option Form → ℕ
limit_in None = FRAGMENTS_MAX
limit_in (Some form) = form.count

-- the places of the target's pieces
abbrev pub places_in : HandlerState → List (Option (ArrayVec ℕ))
places_in s = take (limit_in s.form) s.pieces

abbrev pub image_held : HandlerState → Option (ArrayVec ℕ)
image_held s = whole (places_in s)

abbrev pub complete_in : HandlerState → ℕ
complete_in s = if is_some (image_held s) then s.target else 0

-- the handler, if its fragments became complete
abbrev pub completes_in : HandlerId → HandlerState → HandlerState → Option HandlerId
completes_in handler old new = if nat_lt (complete_in old) (complete_in new) then Some handler else None

abbrev pub ask_in : HandlerId → HandlerState → Packet
ask_in handler s = Status handler s.target (mask_of (gaps (places_in s)))

-- ---- over the states of all handlers

abbrev pub state_at : List HandlerState → ℕ → HandlerState
state_at states h = slice_index_or states h no_state

-- each handler is given its version in a Vector that was heard
abbrev pub aimed_each : List ℕ → List HandlerState → List HandlerState
aimed_each versions states = map (λ h. aimed (slice_index versions h) (state_at states h)) (range_with_len 0 (length states))

-- what is asked for: each handler whose version in the Vector is above the held one
abbrev pub asks_upto : List ℕ → List HandlerState → ℕ → List Packet
asks_upto versions states n =
    map (λ h. ask_in (record { 0 = h }) (state_at states h))
    (filter (λ h. nat_lt (state_at states h).held (slice_index versions h)) (range_with_len 0 n))

abbrev pub is_marked_in : List HandlerState → ℕ → Bool
is_marked_in states slot = slice_index_or (state_at states (slot / FRAGMENTS_MAX)).marks (slot % FRAGMENTS_MAX) false

-- the slot that is sent next, after the last one
abbrev pub next_in : List HandlerState → Option ℕ → Option ℕ
next_in states last =
    option_or (find (is_marked_in states) (slots_from (length states) (next_place last)))
    (find (is_marked_in states) (slots_from (length states) 0))

-- the fragment that is sent for a slot
abbrev pub fragment_in : List HandlerState → ℕ → Packet
fragment_in states slot =
    let h = slot / FRAGMENTS_MAX in
    fragment_of h (state_at states h).held (state_at states h).image.items (slot % FRAGMENTS_MAX)
