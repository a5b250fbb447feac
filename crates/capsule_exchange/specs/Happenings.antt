-- What a node heard, sent, installed and forgot, and what follows from it by looking back: the versions that it holds,
-- what it collects of newer ones, and the fragments that it was asked for. A list of happenings has the latest one first.
use Rattle.std.specs.Prelude.{◌≡◌, ℕ, ◌<◌, ◌+◌, ◌-◌, ◌*◌, ◌/◌, ◌%◌, ◌^◌, max, nat_lt, ◌==◌, Bool, false, not, ◌&&◌, ◌||◌, if◌then◌else◌, List, [], ◌∷◌, ◌++◌, length, map, slice_index, slice_index_or, Option, None, Some, is_some, is_none}
use Rattle.std.specs.Bool.{beq}
use Rattle.std.specs.Int.{bit_at}
use Rattle.std.specs.List.{filter, filter_map, flat_map, find, list_all, range_with_len, sum_by}
use Rattle.std.specs.Option.{option_map, option_or}
use Rattle.mate_num.specs.declared.bounds.TheConstants.{SHORT_IMAGE, FRAGMENTS_MAX}
use Rattle.arrayvec.specs.ArrayVec.{ArrayVec}
use Rattle.mate_num.specs.declared.id.HandlerId.{HandlerId}
use Rattle.capsule_codec.specs.Fragments.{count_of, piece_at}
use Rattle.packet_codec.specs.declared.packet.Packet.{Packet}
use Rattle.packet_codec.specs.declared.packet.Packet.TheVariants.{Vector, Status, Fragment}

pub data Happening : Type 0 where
  -- a packet was heard
  Hears : (packet : Packet) → Happening
  -- the pump sent the fragment of this slot
  Sends : (slot : ℕ) → Happening
  -- an image was installed for a handler
  Installs : (handler version : ℕ) (image : List ℕ) → Happening
  -- what was heard and asked for was forgotten
  Forgets : Happening

-- ---- what the node holds of the handler h

-- the version of its last install, 0 for none
abbrev pub held_version : ℕ → List Happening → ℕ
held_version h [] = 0
held_version h (Hears packet ∷ before) = held_version h before
held_version h (Sends slot ∷ before) = held_version h before
held_version h (Installs g version image ∷ before) = if g == h then version else held_version h before
held_version h (Forgets ∷ before) = held_version h before

-- the image of its last install, without bytes for none
abbrev pub held_image : ℕ → List Happening → List ℕ
held_image h [] = []
held_image h (Hears packet ∷ before) = held_image h before
held_image h (Sends slot ∷ before) = held_image h before
held_image h (Installs g version image ∷ before) = if g == h then image else held_image h before
held_image h (Forgets ∷ before) = held_image h before

-- ---- what it collects of a newer version

-- the packets heard since the later of the handler's last install and the last forgetting, in order
abbrev pub heard_since : ℕ → List Happening → List Packet
heard_since h [] = []
heard_since h (Hears packet ∷ before) = heard_since h before ++ packet ∷ []
heard_since h (Sends slot ∷ before) = heard_since h before
heard_since h (Installs g version image ∷ before) = if g == h then [] else heard_since h before
heard_since h (Forgets ∷ before) = []

-- the version of the handler that the packet announces, 0 for none
abbrev pub version_in : ℕ → Packet → ℕ
version_in h (Vector versions) = slice_index versions.items h
version_in h (Fragment g version index count large bytes) = if g.0 == h then version else 0
version_in h _ = 0

abbrev pub greatest : List ℕ → ℕ
greatest [] = 0
greatest (n ∷ ns) = max n (greatest ns)

-- the target: the greatest version over the held one that was heard of since, 0 for none
abbrev pub target_version : ℕ → List Happening → ℕ
target_version h hs = greatest (filter (nat_lt (held_version h hs)) (map (version_in h) (heard_since h hs)))

-- a fragment of the handler's target
pub record TargetFragment : Type 0 where
  pub index : ℕ
  pub count : ℕ
  pub large : Bool
  pub bytes : ArrayVec ℕ

-- the packet as a fragment of this version of the handler, none if it is no such fragment
abbrev pub part_in : ℕ → ℕ → Packet → Option TargetFragment
part_in h target (Fragment g version index count large bytes) =
    if g.0 == h && version == target then Some (record { index = index; count = count; large = large; bytes = bytes }) else None
part_in h target _ = None

-- the fragments of the target that were heard since, in order
abbrev pub target_parts : ℕ → List Happening → List TargetFragment
target_parts h hs = filter_map (part_in h (target_version h hs)) (heard_since h hs)

-- those that have the count and the kind of the first of them
abbrev pub is_alike : TargetFragment → TargetFragment → Bool
is_alike first part = part.count == first.count && beq part.large first.large

abbrev pub alike : List TargetFragment → List TargetFragment
alike [] = []
alike (first ∷ parts) = first ∷ filter (is_alike first) parts

-- what is collected at an index: of several fragments with this index, the earliest
abbrev pub collected_at : List TargetFragment → ℕ → Option (ArrayVec ℕ)
collected_at parts i = option_map (λ part. part.bytes) (find (λ part. part.index == i) (alike parts))

-- how many fragments the target has: the count of the first, and as many as an image can have while none was heard
abbrev pub limit_of : List TargetFragment → ℕ
limit_of [] = FRAGMENTS_MAX
limit_of (first ∷ parts) = first.count

-- what is collected at each index of the target
abbrev pub places_of : List TargetFragment → List (Option (ArrayVec ℕ))
places_of parts = map (collected_at parts) (range_with_len 0 (limit_of parts))

-- the indices at which nothing is collected
abbrev pub gaps : List (Option (ArrayVec ℕ)) → List ℕ
gaps places = filter (λ i. is_none (slice_index_or places i None)) (range_with_len 0 (length places))

abbrev pub piece_bytes : Option (ArrayVec ℕ) → List ℕ
piece_bytes None = []
piece_bytes (Some piece) = piece.items

-- the pieces put together, none if one is missing
abbrev pub whole : List (Option (ArrayVec ℕ)) → Option (ArrayVec ℕ)
whole places = if list_all is_some places then Some (record { items = flat_map piece_bytes places }) else None

-- the target's image, none if there is no target or a fragment of it is missing
abbrev pub collected_image : ℕ → List Happening → Option (ArrayVec ℕ)
collected_image h hs = whole (places_of (target_parts h hs))

-- the target, if all its fragments are collected, and else 0
abbrev pub complete_version : ℕ → List Happening → ℕ
complete_version h hs = if is_some (collected_image h hs) then target_version h hs else 0

-- no image of n handlers waits to be installed
abbrev pub IsOpen : ℕ → List Happening → Type 0
IsOpen n hs = (h : ℕ) → h < n → collected_image h hs ≡ None

-- ---- what it answers to a packet, with what happened before

-- the versions that it holds of n handlers, in order
abbrev pub held_versions : ℕ → List Happening → List ℕ
held_versions n hs = map (λ h. held_version h hs) (range_with_len 0 n)

-- bit i for each index i
abbrev pub mask_of : List ℕ → ℕ
mask_of indices = sum_by (λ i. 2 ^ i) indices

-- the request for the fragments of the target that are missing
abbrev pub ask_for : List Happening → ℕ → Packet
ask_for hs h = Status (record { 0 = h }) (target_version h hs) (mask_of (gaps (places_of (target_parts h hs))))

-- a Vector is answered with a request for each handler of which it has a greater version than the held one
abbrev pub asks_after : ℕ → Packet → List Happening → List Packet
asks_after n (Vector versions) before =
    map (ask_for (Hears (Vector versions) ∷ before))
    (filter (λ h. nat_lt (held_version h before) (slice_index versions.items h)) (range_with_len 0 n))
asks_after n _ before = []

-- the handler whose fragments became complete with the packet, a fragment
abbrev pub completed_by : Packet → List Happening → Option HandlerId
completed_by (Fragment g version index count large bytes) before =
    if nat_lt (complete_version g.0 before) (complete_version g.0 (Hears (Fragment g version index count large bytes) ∷ before)) then
    Some g else None
completed_by _ before = None

-- ---- which fragments it owes: slot FRAGMENTS_MAX h + i is fragment i of what it holds of the handler h

-- the packet asks for fragment i of exactly the version that is held of h, and the image has it
abbrev pub asks_of : ℕ → ℕ → Packet → List Happening → Bool
asks_of h i (Status g version missing) before =
    (g.0 == h && version == held_version h before) && (nat_lt i (count_of (held_image h before)) && bit_at missing i == 1)
asks_of h i _ before = false

-- it was asked for, and since then not sent, the handler not installed and nothing forgotten
abbrev pub is_marked : ℕ → ℕ → List Happening → Bool
is_marked h i [] = false
is_marked h i (Hears packet ∷ before) = asks_of h i packet before || is_marked h i before
is_marked h i (Sends slot ∷ before) = not (slot == FRAGMENTS_MAX * h + i) && is_marked h i before
is_marked h i (Installs g version image ∷ before) = not (g == h) && is_marked h i before
is_marked h i (Forgets ∷ before) = false

abbrev pub is_marked_slot : List Happening → ℕ → Bool
is_marked_slot hs slot = is_marked (slot / FRAGMENTS_MAX) (slot % FRAGMENTS_MAX) hs

abbrev pub last_sent : List Happening → Option ℕ
last_sent [] = None
last_sent (Hears packet ∷ before) = last_sent before
last_sent (Sends slot ∷ before) = Some slot
last_sent (Installs g version image ∷ before) = last_sent before
last_sent (Forgets ∷ before) = last_sent before

-- where the pump goes on: after the last slot that it sent, and at slot 0 at first
abbrev pub next_place : Option ℕ → ℕ
next_place None = 0
next_place (Some slot) = slot + 1

-- the slots of n handlers from this one on
abbrev pub slots_from : ℕ → ℕ → List ℕ
slots_from n first = range_with_len first (FRAGMENTS_MAX * n - first)

-- the first marked slot from there on, and else the first of all; none if nothing is marked
abbrev pub next_slot : ℕ → List Happening → Option ℕ
next_slot n hs =
    option_or (find (is_marked_slot hs) (slots_from n (next_place (last_sent hs)))) (find (is_marked_slot hs) (slots_from n 0))

-- fragment i of an image
abbrev pub fragment_of : ℕ → ℕ → List ℕ → ℕ → Packet
fragment_of h version image i =
    Fragment (record { 0 = h }) version i (count_of image) (nat_lt SHORT_IMAGE (length image)) (record { items = piece_at image i })

-- what is sent for a slot
abbrev pub fragment_for : List Happening → ℕ → Packet
fragment_for hs slot =
    let h = slot / FRAGMENTS_MAX in fragment_of h (held_version h hs) (held_image h hs) (slot % FRAGMENTS_MAX)
