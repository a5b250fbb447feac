-- Each kind of record: what it says is written as it was read, and is read as it is written.
use Rattle.std.proofs.Common.{◌≡◌, ℕ, ◌<◌, List, [], ◌∷◌, ◌++◌, length, map, refl, sym, ap, ◌∙◌, arith, append_assoc, append-nil}
use Rattle.std.specs.Prelude.{ℤ, codes}
use Rattle.std.specs.Fmt.{decimal, signed_decimal}
use Rattle.arrayvec.specs.ArrayVec.{ArrayVec}
use Rattle.hex.specs.Hex.{encode_lower}
use Rattle.mate_num.specs.declared.id.HandlerId.{HandlerId}
use Rattle.mate_num.specs.declared.id.FunId.{FunId}
use Rattle.mate_num.specs.declared.id.ContextId.{ContextId}
use Rattle.vm_shape.specs.declared.description.Description.{Description}
use Rattle.mate_journal.specs.declared.air.Air.{Air}
use Rattle.mate_journal.specs.declared.air.Air.TheVariants as air
use Rattle.mate_journal.specs.declared.entry.DropCause.{DropCause}
use Rattle.mate_journal.specs.declared.entry.VoidCause.{VoidCause}
use Rattle.mate_journal.specs.declared.entry.VoidCause.TheVariants as void
use Rattle.mate_journal.specs.declared.entry.Entry.{Entry}
use Rattle.mate_journal.specs.declared.entry.Entry.TheVariants as entry
use Rattle.mate_journal.specs.Entries.{HasVoidRanges, HasEntryRanges}
use Rattle.mate_journal.specs.Ranges.{HasAirRanges}
use Rattle.mate_journal.specs.Log.{Log}
use Rattle.report_writer.specs.Words.{number, values, word, entry_words, drop_word, fault_word, handler_name, function_name, image_word}
use Rattle.report_line_reader.proofs.StoreLemmas.{joined}
use Rattle.report_line_reader.proofs.WrittenStores.{joined-store}
use Rattle.report_line_reader.specs.declared.line.Told.{Told}
use Rattle.report_line_reader.specs.declared.line.Told.TheVariants as told
use Rattle.report_line_reader.specs.declared.verb.Verb.{Verb}
use Rattle.report_line_reader.specs.declared.verb.Verb.TheVariants as verb
use Rattle.report_line_reader.specs.Told.{told_words, IsRightTold, IsRightEntry, IsRightAir, HasToldRanges}
use Rattle.report_line_reader.specs.Forms.{VoidVerb, ready, waiting, newer, void_word}
use Rattle.report_line_reader.specs.Verbs.{verb_word, entry_verb, void_form, form_of}
use Rattle.report_line_reader.proofs.FormLemmas.{Parts, told_from, words_from, FormFits}

values-joined : (vs : List ℤ) → values vs ≡ joined (map signed_decimal vs)
values-joined [] = refl
values-joined (v ∷ vs) = rw (values-joined vs) refl

image-joined : (image : List ℕ) → 0 < length image → image_word image ≡ encode_lower image
image-joined [] h = absurd (omega arith)
image-joined (b ∷ bs) h = refl

-- ---- the words of a record, one after another

regrouped : (v a b c z : List ℕ) → v ++ a ++ b ++ c ++ z ≡ v ++ (a ++ (b ++ (c ++ z)))
regrouped v a b c z = simp append_assoc

pub post_words : (d : Description) (n : ℕ) (h : HandlerId) (c : ContextId) (p : ArrayVec ℤ)
    → told_words d (told.Made (entry.Post n h c p)) ≡ joined (codes "post" ∷ decimal n ∷ handler_name d h ∷ decimal c.0 ∷ map signed_decimal p.items)
post_words d n h c p =
    let e : codes " post" ++ number n ++ word (handler_name d h) ++ number c.0 ++ joined (map signed_decimal p.items)
    ≡ joined (codes "post" ∷ decimal n ∷ handler_name d h ∷ decimal c.0 ∷ map signed_decimal p.items) =
    regrouped (codes " post") (number n) (word (handler_name d h)) (number c.0) (joined (map signed_decimal p.items)) in
    ap (λ (x : List ℕ). codes " post" ++ number n ++ word (handler_name d h) ++ number c.0 ++ x) (values-joined p.items) ∙ e

pub dropped_words : (d : Description) (h : HandlerId) (cause : DropCause)
    → told_words d (told.Made (entry.Dropped h cause)) ≡ joined (codes "drop" ∷ handler_name d h ∷ drop_word cause ∷ [])
dropped_words d h cause = simp (append_assoc, append-nil)

-- a record of one number
pub numbered_words : (verb : List ℕ) (n : ℕ) → (32 ∷ verb) ++ number n ≡ joined (verb ∷ decimal n ∷ [])
numbered_words verb n = simp (append_assoc, append-nil)

pub ask_words : (d : Description) (n : ℕ) (f : FunId) (p : ArrayVec ℤ)
    → told_words d (told.Made (entry.Ask n f p)) ≡ joined (codes "ask" ∷ decimal n ∷ function_name d f ∷ map signed_decimal p.items)
ask_words d n f p =
    let e : codes " ask" ++ number n ++ word (function_name d f) ++ joined (map signed_decimal p.items)
    ≡ joined (codes "ask" ∷ decimal n ∷ function_name d f ∷ map signed_decimal p.items) = simp append_assoc in
    ap (λ (x : List ℕ). codes " ask" ++ number n ++ word (function_name d f) ++ x) (values-joined p.items) ∙ e

-- a record of a number and another word
pub paired_words : (verb : List ℕ) (n : ℕ) (w : List ℕ) → (32 ∷ verb) ++ number n ++ word w ≡ joined (verb ∷ decimal n ∷ w ∷ [])
paired_words verb n w = simp (append_assoc, append-nil)

pub installed_words : (d : Description) (h : HandlerId) (version : ℕ) (image : ArrayVec ℕ) → 0 < length image.items
    → told_words d (told.Installed h version image) ≡ joined (codes "install" ∷ handler_name d h ∷ decimal version ∷ encode_lower image.items ∷ [])
installed_words d h version image some =
    let e : codes " install" ++ word (handler_name d h) ++ number version ++ word (encode_lower image.items)
    ≡ joined (codes "install" ∷ handler_name d h ∷ decimal version ∷ encode_lower image.items ∷ []) = simp (append_assoc, append-nil) in
    ap (λ (x : List ℕ). codes " install" ++ word (handler_name d h) ++ number version ++ word x) (image-joined image.items some) ∙ e

-- ---- what is said by its verb and its fields

-- these words tell it, it is right for the description, and its numbers are in the ranges of their types
pub record IsSpelled (d : Description) (t : Told) (ws : List (List ℕ)) : Type 0 where
  pub words : told_words d t ≡ joined ws
  pub right : IsRightTold d t
  pub ranges : HasToldRanges t

void-spelled : (d : Description) (v : VoidVerb) (ps : Parts (void_form v)) → FormFits d (void_form v) ps
    → IsSpelled d (told_from (void_form v) ps) (codes "void" ∷ void_word v ∷ words_from d (void_form v) ps)
void-spelled d newer ps fits = record { words = simp (append_assoc, append-nil); right = tt; ranges = fits.0 }
void-spelled d _ ps fits = record { words = refl; right = tt; ranges = tt }

pub spelled : (d : Description) (v : Verb) (ps : Parts (form_of v)) → FormFits d (form_of v) ps
    → IsSpelled d (told_from (form_of v) ps) (verb_word v ∷ words_from d (form_of v) ps)
spelled d verb.Post ps fits = record { words = post_words d ps.0 ps.1.0 ps.1.1.0 ps.1.1.1; right = (fits.1.0, fits.1.1.0); ranges = (fits.0, fits.1.1.1) }
spelled d verb.Drop ps fits = record { words = dropped_words d ps.0 ps.1.0; right = fits.0; ranges = tt }
spelled d verb.Start ps fits = record { words = numbered_words (codes "start") ps.0; right = tt; ranges = fits.0 }
spelled d verb.Ask ps fits = record { words = ask_words d ps.0 ps.1.0 ps.1.1; right = fits.1.0; ranges = (fits.0, fits.1.1) }
spelled d verb.Answer ps fits = record { words = paired_words (codes "answer") ps.0 (signed_decimal ps.1.0); right = tt; ranges = (fits.0, fits.1.0) }
spelled d verb.Halt ps fits = record { words = numbered_words (codes "halt") ps.0; right = tt; ranges = fits.0 }
spelled d verb.Fault ps fits = record { words = paired_words (codes "fault") ps.0 (fault_word ps.1.0); right = tt; ranges = fits.0 }
spelled d verb.Install ps fits = record {
  words = installed_words d ps.0 ps.1.0 ps.1.1.0 fits.1.1.0.0;
  right = (fits.0, fits.1.1.0.0);
  ranges = (fits.1.0, fits.1.1.0.1, fits.1.1.0.2);
}
spelled d verb.Reset ps fits = record { words = refl; right = tt; ranges = tt }
spelled d verb.Seen ps fits = record { words = ap (λ (x : List ℕ). codes " seen" ++ x) (sym (joined-store d ps)); right = fits.0; ranges = fits.1 }
spelled d verb.Void ps fits = void-spelled d ps.0 ps.1 fits.1
spelled d verb.Interval ps fits = record { words = numbered_words (codes "interval") ps.0; right = tt; ranges = fits.0 }
spelled d verb.Keep ps fits = record { words = refl; right = tt; ranges = tt }
spelled d verb.Sent ps fits = record {
  words = paired_words (codes "sent") ps.0 (encode_lower ps.1.0.items);
  right = fits.1.0.0;
  ranges = (fits.0, fits.1.0.1, fits.1.0.2);
}
spelled d verb.Lost ps fits = record { words = paired_words (codes "lost") ps.0 (decimal ps.1.0); right = fits.1.0; ranges = fits.0 }
spelled d verb.Got ps fits = record { words = paired_words (codes "got") ps.0 (decimal ps.1.0); right = fits.1.0; ranges = fits.0 }
spelled d verb.Noise ps fits = record { words = simp (append_assoc, append-nil); right = fits.0.0; ranges = (fits.0.1, fits.0.2) }

-- the words of an entry begin with that of its verb
pub entry_begins : (d : Description) (l : Log) (e : Entry) → (after : List ℕ) × (entry_words d l e ≡ word (verb_word (entry_verb e)) ++ after)
entry_begins d l entry.Reset = ([], refl)
entry_begins d l _ = (_, refl)

-- ---- the verb and the fields of what is said

pub record Says (d : Description) (t : Told) : Type 0 where
  pub verb : Verb
  pub parts : Parts (form_of verb)
  pub fits : FormFits d (form_of verb) parts
  pub is : told_from (form_of verb) parts ≡ t

voided : (d : Description) (cause : VoidCause) → HasVoidRanges cause → Says d (told.Made (entry.Void cause))
voided d void.NotReady ranges = record { verb = verb.Void; parts = (ready, tt); fits = (tt, tt); is = refl }
voided d void.NotWaiting ranges = record { verb = verb.Void; parts = (waiting, tt); fits = (tt, tt); is = refl }
voided d (void.NotNewer held) ranges = record { verb = verb.Void; parts = (newer, (held, tt)); fits = (tt, (ranges, tt)); is = refl }

made : (d : Description) (e : Entry) → IsRightEntry d e → HasEntryRanges e → Says d (told.Made e)
made d (entry.Post n h c payload) right ranges =
    record { verb = verb.Post; parts = (n, (h, (c, payload))); fits = (ranges.0, (right.0, (right.1, ranges.1))); is = refl }
made d (entry.Dropped h cause) right ranges = record { verb = verb.Drop; parts = (h, (cause, tt)); fits = (right, (tt, tt)); is = refl }
made d (entry.Start n) right ranges = record { verb = verb.Start; parts = (n, tt); fits = (ranges, tt); is = refl }
made d (entry.Ask n f args) right ranges = record { verb = verb.Ask; parts = (n, (f, args)); fits = (ranges.0, (right, ranges.1)); is = refl }
made d (entry.Answer n v) right ranges = record { verb = verb.Answer; parts = (n, (v, tt)); fits = (ranges.0, (ranges.1, tt)); is = refl }
made d (entry.Halt n) right ranges = record { verb = verb.Halt; parts = (n, tt); fits = (ranges, tt); is = refl }
made d (entry.Fault n kind) right ranges = record { verb = verb.Fault; parts = (n, (kind, tt)); fits = (ranges, (tt, tt)); is = refl }
made d (entry.Install h version image) right ranges = absurd right
made d entry.Reset right ranges = record { verb = verb.Reset; parts = tt; fits = tt; is = refl }
made d (entry.Seen store) right ranges = absurd right
made d (entry.Void cause) right ranges = voided d cause ranges

on_air : (d : Description) (a : Air) → IsRightAir a → HasAirRanges a → Says d (told.OnAir a)
on_air d (air.Interval length) right ranges = record { verb = verb.Interval; parts = (length, tt); fits = (ranges, tt); is = refl }
on_air d air.Keep right ranges = record { verb = verb.Keep; parts = tt; fits = tt; is = refl }
on_air d (air.Sent n bytes) right ranges = record { verb = verb.Sent; parts = (n, (bytes, tt)); fits = (ranges.0, ((right, ranges.1, ranges.2), tt)); is = refl }
on_air d (air.Lost n to) right ranges = record { verb = verb.Lost; parts = (n, (to, tt)); fits = (ranges, (right, tt)); is = refl }
on_air d (air.Got n from) right ranges = record { verb = verb.Got; parts = (n, (from, tt)); fits = (ranges, (right, tt)); is = refl }
on_air d (air.Noise bytes) right ranges = record { verb = verb.Noise; parts = (bytes, tt); fits = ((right, ranges.0, ranges.1), tt); is = refl }

pub says : (d : Description) (t : Told) → IsRightTold d t → HasToldRanges t → Says d t
says d (told.OnAir a) right ranges = on_air d a right ranges
says d (told.Made e) right ranges = made d e right ranges
says d (told.Installed h version image) right ranges =
    record { verb = verb.Install; parts = (h, (version, (image, tt))); fits = (right.0, (ranges.0, ((right.1, ranges.1, ranges.2), tt))); is = refl }
says d (told.Shown s) right ranges = record { verb = verb.Seen; parts = s; fits = (right, ranges); is = refl }
