-- The words of the lines of a report.
use Rattle.std.specs.Prelude.{ℕ, List, [], ◌∷◌, ◌++◌, ℤ, codes, decimal, flat_map, slice_get, Option, None, Some, ⊤}
use Rattle.std.specs.List.{zip}
use Rattle.std.specs.Option.{option_map}
use Rattle.std.specs.Fmt.{signed_decimal}
use Rattle.arrayvec.specs.ArrayVec.{ArrayVec}
use Rattle.hex.specs.Hex.{encode_lower}
use Rattle.mate_num.specs.declared.call.FaultKind.{FaultKind}
use Rattle.mate_num.specs.declared.call.FaultKind.TheVariants as fault
use Rattle.mate_num.specs.declared.call.Stamp.{Stamp}
use Rattle.mate_num.specs.declared.id.HandlerId.{HandlerId}
use Rattle.mate_num.specs.declared.id.FunId.{FunId}
use Rattle.mate_num.specs.declared.store.Store.{Store}
use Rattle.vm_shape.specs.declared.description.Description.{Description}
use Rattle.mate_journal.specs.Log.{Log}
use Rattle.mate_journal.specs.declared.air.Air.{Air}
use Rattle.mate_journal.specs.declared.air.Air.TheVariants as air
use Rattle.mate_journal.specs.declared.entry.DropCause.{DropCause}
use Rattle.mate_journal.specs.declared.entry.DropCause.TheVariants as drop
use Rattle.mate_journal.specs.declared.entry.VoidCause.{VoidCause}
use Rattle.mate_journal.specs.declared.entry.VoidCause.TheVariants as void
use Rattle.mate_journal.specs.declared.entry.Entry.{Entry}
use Rattle.mate_journal.specs.declared.entry.Entry.TheVariants as entry

-- a name, if there is one
abbrev pub name_or_none : Option (List ℕ) → List ℕ
name_or_none None = []
name_or_none (Some name) = name

abbrev pub handler_name : Description → HandlerId → List ℕ
handler_name d h = name_or_none (option_map (λ x. x.name) (slice_get d.handlers.items h.0))

abbrev pub function_name : Description → FunId → List ℕ
function_name d f = name_or_none (option_map (λ x. x.name) (slice_get d.functions.items f.0))

-- a space, and then a number, a value or a word
abbrev pub number : ℕ → List ℕ
number n = codes " " ++ decimal n

abbrev pub value : ℤ → List ℕ
value v = codes " " ++ signed_decimal v

abbrev pub word : List ℕ → List ℕ
word w = codes " " ++ w

-- each value after a space
abbrev pub values : List ℤ → List ℕ
values vs = flat_map value vs

-- the values with a space between two
abbrev pub spaced : List ℤ → List ℕ
spaced [] = []
spaced (v ∷ vs) = signed_decimal v ++ values vs

abbrev pub drop_word : DropCause → List ℕ
drop_word drop.NoCode = codes "nocode"
drop_word drop.AllBusy = codes "busy"

abbrev pub fault_word : FaultKind → List ℕ
fault_word fault.DivZero = codes "divzero"
fault_word fault.Index = codes "index"
fault_word fault.BufferFull = codes "bufferfull"
fault_word fault.BufferEmpty = codes "bufferempty"
fault_word fault.Overrun = codes "overrun"

abbrev pub void_words : VoidCause → List ℕ
void_words void.NotReady = codes " notready"
void_words void.NotWaiting = codes " notwaiting"
void_words (void.NotNewer held) = codes " notnewer" ++ number held

-- an image in hexadecimal digits; `-` stands for one without bytes
abbrev pub image_word : List ℕ → List ℕ
image_word [] = codes "-"
image_word (b ∷ bs) = encode_lower (b ∷ bs)

-- `NAME=V` of a shared variable
abbrev pub shared_word : List ℕ × ℤ → List ℕ
shared_word (name, v) = codes " " ++ name ++ codes "=" ++ signed_decimal v

-- `NAME=[V V]` of a buffer
abbrev pub buffer_word : List ℕ × ArrayVec ℤ → List ℕ
buffer_word (name, vs) = codes " " ++ name ++ codes "=[" ++ spaced vs.items ++ codes "]"

-- a word per shared variable, and then one per buffer
abbrev pub store_words : Description → Store → List ℕ
store_words d s = flat_map shared_word (zip d.shared.items s.shared.items) ++ flat_map buffer_word (zip d.buffers.items s.buffers.items)

-- the image and the store that an entry names
abbrev pub image_text : Option (ArrayVec ℕ) → List ℕ
image_text None = []
image_text (Some image) = image.items

abbrev pub seen_words : Description → Option Store → List ℕ
seen_words d None = []
seen_words d (Some s) = store_words d s

-- an entry that shows neither an image nor a store
abbrev pub IsShort : Entry → Type 0
IsShort (entry.Install h version image) = ⊥
IsShort (entry.Seen store) = ⊥
IsShort _ = ⊤

-- the words of an entry, each after a space
abbrev pub entry_words : Description → Log → Entry → List ℕ
entry_words d l (entry.Post n h c payload) = codes " post" ++ number n ++ word (handler_name d h) ++ number c.0 ++ values payload.items
entry_words d l (entry.Dropped h cause) = codes " drop" ++ word (handler_name d h) ++ word (drop_word cause)
entry_words d l (entry.Start n) = codes " start" ++ number n
entry_words d l (entry.Ask n f args) = codes " ask" ++ number n ++ word (function_name d f) ++ values args.items
entry_words d l (entry.Answer n v) = codes " answer" ++ number n ++ value v
entry_words d l (entry.Halt n) = codes " halt" ++ number n
entry_words d l (entry.Fault n kind) = codes " fault" ++ number n ++ word (fault_word kind)
entry_words d l (entry.Install h version image) =
    codes " install" ++ word (handler_name d h) ++ number version ++ word (image_word (image_text (slice_get l.images image)))
entry_words d l entry.Reset = codes " reset"
entry_words d l (entry.Seen store) = codes " seen" ++ seen_words d (slice_get l.stores store)
entry_words d l (entry.Void cause) = codes " void" ++ void_words cause

-- the words of what happened on the air, each after a space
abbrev pub air_words : Air → List ℕ
air_words (air.Interval length) = codes " interval" ++ number length
air_words air.Keep = codes " keep"
air_words (air.Sent n bytes) = codes " sent" ++ number n ++ word (encode_lower bytes.items)
air_words (air.Lost n to) = codes " lost" ++ number n ++ number to
air_words (air.Got n from) = codes " got" ++ number n ++ number from
air_words (air.Noise bytes) = codes " noise" ++ word (encode_lower bytes.items)

-- the event, its time in ms and the node
abbrev pub stamp_words : Stamp → ℕ → List ℕ
stamp_words s node = decimal s.event ++ number s.time ++ number node
