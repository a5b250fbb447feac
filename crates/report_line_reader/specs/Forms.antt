-- The forms of records: which fields follow a verb, and what they say.
use Rattle.std.specs.Prelude.{ℕ, ℤ, List, [], ◌∷◌, codes, Option}
use Rattle.std.specs.Option.{option_map}
use Rattle.arrayvec.specs.ArrayVec.{ArrayVec}
use Rattle.mate_num.specs.declared.call.FaultKind.{FaultKind}
use Rattle.mate_num.specs.declared.id.HandlerId.{HandlerId}
use Rattle.mate_num.specs.declared.id.FunId.{FunId}
use Rattle.mate_num.specs.declared.id.ContextId.{ContextId}
use Rattle.mate_num.specs.declared.store.Store.{Store}
use Rattle.vm_shape.specs.declared.description.Description.{Description}
use Rattle.mate_journal.specs.declared.entry.DropCause.{DropCause}
use Rattle.report_line_reader.specs.Words.{reads, only_at_end}
use Rattle.report_line_reader.specs.Numbers.{value_of}
use Rattle.report_line_reader.specs.Fields.{named_among, number_of, node_of, drop_of, fault_of, payload_of}
use Rattle.report_line_reader.specs.Hex.{image_of, packet_of}
use Rattle.report_line_reader.specs.Names.{handler_of, function_of, context_of}
use Rattle.report_line_reader.specs.Stores.{store_of}
use Rattle.report_line_reader.specs.declared.line.Told.{Told}

-- why a step did nothing
pub data VoidVerb : Type 0 where
  ready : VoidVerb
  waiting : VoidVerb
  newer : VoidVerb

abbrev pub void_word : VoidVerb → List ℕ
void_word ready = codes "notready"
void_word waiting = codes "notwaiting"
void_word newer = codes "notnewer"

-- a field of one word
pub data Field : Type 0 where
  number node handler function context value dropping faulting image packet voiding : Field

-- what such a field denotes
abbrev pub FieldOf : Field → Type 0
FieldOf number = ℕ
FieldOf node = ℕ
FieldOf handler = HandlerId
FieldOf function = FunId
FieldOf context = ContextId
FieldOf value = ℤ
FieldOf dropping = DropCause
FieldOf faulting = FaultKind
FieldOf image = ArrayVec ℕ
FieldOf packet = ArrayVec ℕ
FieldOf voiding = VoidVerb

abbrev pub field_of : Description → (k : Field) → List ℕ → Option (FieldOf k)
field_of d number = number_of
field_of d node = node_of
field_of d handler = handler_of d
field_of d function = function_of d
field_of d context = context_of d
field_of d value = value_of
field_of d dropping = drop_of
field_of d faulting = fault_of
field_of d image = image_of
field_of d packet = packet_of
field_of d voiding = named_among void_word (ready ∷ waiting ∷ newer ∷ [])

-- the fields after a verb, and what they say: one more field, or values or a store as all that is left, or nothing more
pub data Form : Type 0 where
  Then : (k : Field) (form : FieldOf k → Form) → Form
  Values : (said : ArrayVec ℤ → Told) → Form
  Stored : (said : Store → Told) → Form
  Ends : (said : Told) → Form

-- what words of this form say
abbrev pub read_by : Description → Form → List (List ℕ) → Option Told
read_by d (Then k form) words = reads (field_of d k) (λ a. read_by d (form a)) words
read_by d (Values said) words = option_map said (payload_of words)
read_by d (Stored said) words = option_map said (store_of d words)
read_by d (Ends said) words = only_at_end said words
