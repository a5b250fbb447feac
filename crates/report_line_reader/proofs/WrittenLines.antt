-- A line is read as it is written.
use Rattle.std.proofs.Common.{◌≡◌, ℕ, ◌^◌, ◌<◌, true, List, [], ◌∷◌, ◌++◌, Option, Some, refl, sym, ap, ◌∙◌, append_assoc}
use Rattle.std.specs.List.{list_all}
use Rattle.std.specs.Option.{option_map}
use Rattle.std.specs.Fmt.{decimal}
use Rattle.std.proofs.lemmas.Bool.{and_from}
use Rattle.vm_shape.specs.declared.description.Description.{Description}
use Rattle.report_writer.specs.Words.{word}
use Rattle.report_line_reader.specs.declared.line.Told.{Told}
use Rattle.report_line_reader.specs.declared.line.Line.{Line}
use Rattle.report_line_reader.specs.declared.verb.Verb.{Verb}
use Rattle.report_line_reader.specs.declared.verb.Verb.TheVariants as verb
use Rattle.report_line_reader.specs.Words.{words_of, reads}
use Rattle.report_line_reader.specs.Numbers.{unsigned_of}
use Rattle.report_line_reader.specs.Fields.{number_of, node_of}
use Rattle.report_line_reader.specs.Forms.{number, node}
use Rattle.report_line_reader.specs.Verbs.{verb_word, verb_of, form_of}
use Rattle.report_line_reader.specs.Told.{told_words, line_words, IsRightLine, HasLineRanges}
use Rattle.report_line_reader.specs.Reading.{told_by, told_of, line_with, line_of_words, line_in}
use Rattle.report_line_reader.proofs.NumberLemmas.{unsigned_of-decimal}
use Rattle.report_line_reader.proofs.StoreLemmas.{joined}
use Rattle.report_line_reader.proofs.WrittenWords.{is_written, in_line, words_of-joined, line-in_line, written-decimal}
use Rattle.report_line_reader.proofs.WrittenFields.{Reads, reads-next}
use Rattle.report_line_reader.proofs.VerbLemmas.{verb_of-word}
use Rattle.report_line_reader.proofs.FormLemmas.{words_from, field-written, form-reads, form-written}
use Rattle.report_line_reader.proofs.KindLemmas.{spelled, Says, says}

verb-written : (v : Verb) → is_written (verb_word v) ≡ true
verb-written verb.Post = refl
verb-written _ = refl

told_of-said : (d : Description) (t : Told) (s : Says d t) → told_of d (verb_word s.verb ∷ words_from d (form_of s.verb) s.parts) ≡ Some t
unfolding told_of
told_of-said d t s =
    reads-next verb_of (told_by d) (verb_word s.verb) (words_from d (form_of s.verb) s.parts) s.verb (verb_of-word s.verb) ∙ form-reads d (form_of s.verb) s.parts s.fits ∙ ap Some s.is

-- the line is read, and no LF stands in it
pub record IsRead (d : Description) (l : Line) : Type 0 where
  pub is : line_in d (line_words d l) ≡ Some l
  pub whole : list_all in_line (line_words d l) ≡ true

line_joined : (event time at : List ℕ) (words : List ℕ) (ws : List (List ℕ)) → words ≡ joined ws
    → event ++ word time ++ word at ++ words ≡ event ++ joined (time ∷ at ∷ ws)
line_joined event time at words ws e = rw e (simp append_assoc)

pub line_is_read : (d : Description) (l : Line) → IsRightLine d l → HasLineRanges l → IsRead d l
line_is_read d l right ranges =
    let s = says d l.told right.told ranges.told in
    let fields = words_from d (form_of s.verb) s.parts in
    let told : told_words d l.told ≡ joined (verb_word s.verb ∷ fields) = sym (ap (told_words d) s.is) ∙ (spelled d s.verb s.parts s.fits).words in
    let event = decimal l.stamp.event in
    let time = decimal l.stamp.time in
    let at = decimal l.node in
    let rt : Reads number_of time l.stamp.time = field-written d number l.stamp.time ranges.time in
    let rn : Reads node_of at l.node = field-written d node l.node right.node in
    let re = unsigned_of-decimal l.stamp.event ranges.event in
    let we = written-decimal l.stamp.event ranges.event in
    let ws = verb_word s.verb ∷ fields in
    let written : list_all is_written (time ∷ at ∷ ws) ≡ true =
    and_from (is_written time) _ rt.written (and_from (is_written at) _ rn.written (and_from (is_written (verb_word s.verb)) _ (verb-written s.verb) (form-written d (form_of s.verb) s.parts s.fits))) in
    let is : line_words d l ≡ event ++ joined (time ∷ at ∷ ws) = line_joined event time at (told_words d l.told) ws told in
    let split : words_of (line_words d l) ≡ event ∷ time ∷ at ∷ ws = ap words_of is ∙ words_of-joined event (time ∷ at ∷ ws) we written in
    let what : Option Told = told_of d ws in record {
      is = ap (line_of_words d) split
          ∙ reads-next unsigned_of (λ e. reads number_of (λ t. reads node_of (λ n words. option_map (line_with e t n) (told_of d words)))) event (time ∷ at ∷ ws) l.stamp.event re
          ∙ reads-next number_of (λ t. reads node_of (λ n words. option_map (line_with l.stamp.event t n) (told_of d words))) time (at ∷ ws) l.stamp.time rt.told
          ∙ reads-next node_of (λ n words. option_map (line_with l.stamp.event l.stamp.time n) (told_of d words)) at ws l.node rn.told
          ∙ ap (option_map (line_with l.stamp.event l.stamp.time l.node)) (told_of-said d l.told s);
      whole = ap (list_all in_line) is ∙ line-in_line event (time ∷ at ∷ ws) we written;
    }
