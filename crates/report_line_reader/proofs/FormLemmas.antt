-- What words of a form say, read and written: for any form, by what its fields denote.
use Rattle.std.proofs.Common.{◌≡◌, ℕ, ◌^◌, ◌<◌, ◌≤◌, true, List, [], ◌∷◌, ◌++◌, length, map, Option, Some, None, refl, sym, ap, ◌∙◌, arith}
use Rattle.std.specs.Prelude.{ℤ, FitsSigned}
use Rattle.std.specs.Int.{w16}
use Rattle.std.specs.List.{list_all}
use Rattle.std.specs.Option.{option_map, option_and_then}
use Rattle.std.specs.Fmt.{decimal, signed_decimal}
use Rattle.std.proofs.lemmas.Bool.{and_from}
use Rattle.arrayvec.specs.ArrayVec.{ArrayVec}
use Rattle.hex.specs.Hex.{encode_lower}
use Rattle.mate_num.specs.declared.bounds.TheConstants.{IMAGE_MAX, NODES_MAX, PACKET_MAX}
use Rattle.mate_num.specs.declared.store.Store.{Store}
use Rattle.vm_shape.specs.declared.description.Description.{Description}
use Rattle.vm_shape.specs.Whole.{context_count}
use Rattle.vm_shape.proofs.DescriptionLemmas.{bounds_of}
use Rattle.mate_journal.specs.Entries.{AreValues}
use Rattle.mate_journal.specs.Ranges.{IsByteList, HasStoreRanges}
use Rattle.mate_journal.specs.Tidy.{IsStoreOf}
use Rattle.report_writer.specs.Words.{drop_word, fault_word, handler_name, function_name}
use Rattle.report_line_reader.specs.Words.{first, rest}
use Rattle.report_line_reader.specs.Fields.{payload_of}
use Rattle.report_line_reader.specs.Stores.{store_of}
use Rattle.report_line_reader.proofs.OptionLemmas.{steps}
use Rattle.report_line_reader.proofs.NumberLemmas.{Tells, decimal-below_of, signed-value_of}
use Rattle.report_line_reader.proofs.ChoiceLemmas.{named_among-word}
use Rattle.report_line_reader.proofs.FieldLemmas.{maps, next, handler_of-name, function_of-name, context_of-number, number_of-word, node_of-word, drop_of-word, fault_of-word, hex_of-word, TellsBytes, payload_of-words}
use Rattle.report_line_reader.proofs.StoreLemmas.{joined, only_end, store_of-words}
use Rattle.report_line_reader.proofs.WrittenWords.{is_written, written-decimal}
use Rattle.report_line_reader.proofs.WrittenFields.{Reads, reads-next, number_of-decimal, node_of-decimal, context_of-decimal, reads-handler, reads-function, reads-drop, reads-fault, reads-bytes, reads-value, payload_of-written, written-values}
use Rattle.report_line_reader.proofs.WrittenStores.{store_list, store_of-written, joined-store, written-store}
use Rattle.report_line_reader.specs.declared.line.Told.{Told}
use Rattle.report_line_reader.specs.Forms.{VoidVerb, ready, waiting, newer, void_word, Field, number, node, handler, function, context, value, dropping, faulting, image, packet, voiding, FieldOf, field_of, Form, Then, Values, Stored, Ends, read_by}
use Rattle.report_line_reader.specs.Verbs.{void_form, void_by, void_of}
use Rattle.report_line_reader.proofs.Ranges.{value-fits, payload-fits, AreBytes, hex-bytes, store-fits}

-- ---- one field

-- the word that a field is written as
abbrev pub field_word : Description → (k : Field) → FieldOf k → List ℕ
field_word d number n = decimal n
field_word d node n = decimal n
field_word d handler h = handler_name d h
field_word d function f = function_name d f
field_word d context c = decimal c.0
field_word d value v = signed_decimal v
field_word d dropping cause = drop_word cause
field_word d faulting kind = fault_word kind
field_word d image bytes = encode_lower bytes.items
field_word d packet bytes = encode_lower bytes.items
field_word d voiding v = void_word v

abbrev AreSome : ℕ → ArrayVec ℕ → Type 0
AreSome most bytes = (0 < length bytes.items) × (length bytes.items ≤ most) × IsByteList bytes.items

-- it is right for the description, and in the range of its type
abbrev pub FieldFits : Description → (k : Field) → FieldOf k → Type 0
FieldFits d number n = n < 2 ^ 32
FieldFits d node n = n < NODES_MAX
FieldFits d handler h = h.0 < length d.handlers.items
FieldFits d function f = f.0 < length d.functions.items
FieldFits d context c = c.0 < context_count d
FieldFits d value v = FitsSigned w16 v
FieldFits d dropping cause = Unit {0}
FieldFits d faulting kind = Unit {0}
FieldFits d image bytes = AreSome IMAGE_MAX bytes
FieldFits d packet bytes = AreSome PACKET_MAX bytes
FieldFits d voiding v = Unit {0}

record FieldRead (d : Description) (k : Field) (w : List ℕ) (a : FieldOf k) : Type 0 where
  word : w ≡ field_word d k a
  fits : FieldFits d k a

bytes-read : (most : ℕ) (w : List ℕ) (v : ArrayVec ℕ) → Rattle.report_line_reader.specs.Hex.hex_of most w ≡ Some v → (w ≡ encode_lower v.items) × AreSome most v
bytes-read most w v h =
    let t : TellsBytes w v.items = hex_of-word most w v h in
    let b : AreBytes most v.items = hex-bytes most w v h in
    (t.word, (t.some, b.few, b.list))

field-read : (d : Description) (k : Field) (w : List ℕ) (a : FieldOf k) → field_of d k w ≡ Some a → FieldRead d k w a
field-read d number w a h = let t : Tells (2 ^ 32) w a = decimal-below_of (2 ^ 32) w a h in record { word = t.word; fits = t.below }
field-read d node w a h = let t : Tells 64 w a = node_of-word w a h in record { word = t.word; fits = t.below }
field-read d handler w a h = let t = handler_of-name d w a h in record { word = t.word; fits = t.below }
field-read d function w a h = let t = function_of-name d w a h in record { word = t.word; fits = t.below }
field-read d context w a h = let t = context_of-number d w a h in record { word = t.word; fits = t.below }
field-read d value w a h = record { word = signed-value_of w a h; fits = value-fits w a h }
field-read d dropping w a h = record { word = drop_of-word w a h; fits = tt }
field-read d faulting w a h = record { word = fault_of-word w a h; fits = tt }
field-read d image w a h = let t = bytes-read IMAGE_MAX w a h in record { word = t.0; fits = t.1 }
field-read d packet w a h = let t = bytes-read PACKET_MAX w a h in record { word = t.0; fits = t.1 }
field-read d voiding w a h = record { word = named_among-word void_word (ready ∷ waiting ∷ newer ∷ []) w a h; fits = tt }

reads-void : (d : Description) (v : VoidVerb) → Reads (field_of d voiding) (void_word v) v
reads-void d ready = record { told = refl; written = refl }
reads-void d _ = record { told = refl; written = refl }

pub field-written : (d : Description) (k : Field) (a : FieldOf k) → FieldFits d k a → Reads (field_of d k) (field_word d k a) a
field-written d number a fits = record { told = number_of-decimal a fits; written = written-decimal a (omega (arith, fits)) }
field-written d node a fits = record { told = node_of-decimal a fits; written = written-decimal a (omega (arith, fits)) }
field-written d handler a fits = reads-handler d a fits
field-written d function a fits = reads-function d a fits
field-written d context a fits =
    let high = (bounds_of d).contexts_high in record { told = context_of-decimal d a fits; written = written-decimal a.0 (omega (arith, fits, high)) }
field-written d value a fits = reads-value a fits
field-written d dropping a fits = reads-drop a
field-written d faulting a fits = reads-fault a
field-written d image a fits = reads-bytes IMAGE_MAX a fits.0 fits.1 fits.2
field-written d packet a fits = reads-bytes PACKET_MAX a fits.0 fits.1 fits.2
field-written d voiding a fits = reads-void d a

-- ---- all fields of a form

-- what they denote
abbrev pub Parts : Form → Type 0
Parts (Then k form) = (a : FieldOf k) × Parts (form a)
Parts (Values said) = ArrayVec ℤ
Parts (Stored said) = Store
Parts (Ends said) = Unit {0}

-- what that says, and the words that it is written as
abbrev pub told_from : (f : Form) → Parts f → Told
told_from (Then k form) ps = told_from (form ps.0) ps.1
told_from (Values said) p = said p
told_from (Stored said) s = said s
told_from (Ends said) ps = said

abbrev pub words_from : Description → (f : Form) → Parts f → List (List ℕ)
words_from d (Then k form) ps = field_word d k ps.0 ∷ words_from d (form ps.0) ps.1
words_from d (Values said) p = map signed_decimal p.items
words_from d (Stored said) s = store_list d s
words_from d (Ends said) ps = []

abbrev pub FormFits : Description → (f : Form) → Parts f → Type 0
FormFits d (Then k form) ps = FieldFits d k ps.0 × FormFits d (form ps.0) ps.1
FormFits d (Values said) p = AreValues p.items
FormFits d (Stored said) s = IsStoreOf d s × HasStoreRanges s
FormFits d (Ends said) ps = Unit {0}

pub record FormRead (d : Description) (f : Form) (ws : List (List ℕ)) (t : Told) : Type 0 where
  pub parts : Parts f
  pub words : joined (words_from d f parts) ≡ joined ws
  pub told : told_from f parts ≡ t
  pub fits : FormFits d f parts

pub form-read : (d : Description) (f : Form) (ws : List (List ℕ)) (t : Told) → read_by d f ws ≡ Some t → FormRead d f ws t
form-read d (Then k form) ws t h =
    let a = steps (λ (x : FieldOf k). read_by d (form x) (rest ws)) (first (field_of d k) ws) t h in
    let n = next (field_of d k) ws a.step a.was in
    let r : FieldRead d k n.word a.step = field-read d k n.word a.step n.told in
    let more : FormRead d (form a.step) (rest ws) t = form-read d (form a.step) (rest ws) t a.gives in
    let left : List ℕ = joined (words_from d (form a.step) more.parts) in record {
      parts = (a.step, more.parts);
      words = ap (λ (x : List ℕ). (32 ∷ x) ++ left) (sym r.word) ∙ ap (λ (x : List ℕ). (32 ∷ n.word) ++ x) more.words ∙ ap joined (sym n.is);
      told = more.told;
      fits = (r.fits, more.fits);
    }
form-read d (Values said) ws t h =
    let m = maps said (payload_of ws) t h in
    record { parts = m.value; words = ap joined (sym (payload_of-words ws m.value m.was)); told = m.gives; fits = payload-fits ws m.value m.was }
form-read d (Stored said) ws t h =
    let m = maps said (store_of d ws) t h in
    let s = store_of-words d ws m.value m.was in
    record { parts = m.value; words = joined-store d m.value ∙ sym s.words; told = m.gives; fits = (s.right, store-fits d ws m.value m.was) }
form-read d (Ends said) ws t h = let z = only_end said t ws h in record { parts = tt; words = ap joined (sym z.0); told = z.1; fits = tt }

pub form-reads : (d : Description) (f : Form) (ps : Parts f) → FormFits d f ps → read_by d f (words_from d f ps) ≡ Some (told_from f ps)
form-reads d (Then k form) ps fits =
    reads-next (field_of d k) (λ (x : FieldOf k). read_by d (form x)) (field_word d k ps.0) (words_from d (form ps.0) ps.1) ps.0 (field-written d k ps.0 fits.0).told
    ∙ form-reads d (form ps.0) ps.1 fits.1
form-reads d (Values said) p fits = ap (option_map said) (payload_of-written p fits)
form-reads d (Stored said) s fits = ap (option_map said) (store_of-written d s fits.0 fits.1.0 fits.1.1)
form-reads d (Ends said) ps fits = refl

pub form-written : (d : Description) (f : Form) (ps : Parts f) → FormFits d f ps → list_all is_written (words_from d f ps) ≡ true
form-written d (Then k form) ps fits =
    and_from (is_written (field_word d k ps.0)) (list_all is_written (words_from d (form ps.0) ps.1)) (field-written d k ps.0 fits.0).written (form-written d (form ps.0) ps.1 fits.1)
form-written d (Values said) p fits = written-values p.items fits.1
form-written d (Stored said) s fits = written-store d s fits.1.0 fits.1.1
form-written d (Ends said) ps fits = refl

-- why a step did nothing is read by its form
pub void-read : (d : Description) (ws : List (List ℕ)) → void_of ws ≡ read_by d (Then voiding void_form) ws
void-read d ws = by (first (field_of d voiding) ws) where
  by : (o : Option VoidVerb) → option_and_then (λ v. void_by v (rest ws)) o ≡ option_and_then (λ v. read_by d (void_form v) (rest ws)) o
  by None = refl
  by (Some ready) = refl
  by (Some waiting) = refl
  by (Some newer) = refl
