-- A line is written as it was read.
use Rattle.std.proofs.Common.{◌≡◌, ℕ, ◌^◌, ◌<◌, List, [], ◌∷◌, ◌++◌, Option, Some, sym, ap, subst, ◌∙◌, append_assoc, append-nil}
use Rattle.std.specs.List.{join_with_byte}
use Rattle.std.specs.Fmt.{decimal}
use Rattle.std.proofs.lemmas.List.Splits.{join_with_byte-slice_split}
use Rattle.vm_shape.specs.declared.description.Description.{Description}
use Rattle.report_writer.specs.Words.{number}
use Rattle.report_line_reader.specs.declared.line.Told.{Told}
use Rattle.report_line_reader.specs.declared.line.Line.{Line}
use Rattle.report_line_reader.specs.declared.verb.Verb.{Verb}
use Rattle.report_line_reader.specs.Words.{words_of, first, rest}
use Rattle.report_line_reader.specs.Numbers.{unsigned_of}
use Rattle.report_line_reader.specs.Fields.{number_of, node_of}
use Rattle.report_line_reader.specs.Verbs.{verb_word, verb_of, form_of}
use Rattle.report_line_reader.specs.Told.{told_words, line_words, IsRightLine, HasLineRanges}
use Rattle.report_line_reader.specs.Reading.{told_by, told_of, line_with, line_in}
use Rattle.report_line_reader.proofs.OptionLemmas.{steps}
use Rattle.report_line_reader.proofs.NumberLemmas.{decimal-unsigned_of}
use Rattle.report_line_reader.proofs.FieldLemmas.{maps, next, number_of-word, node_of-word}
use Rattle.report_line_reader.proofs.StoreLemmas.{joined}
use Rattle.report_line_reader.proofs.VerbLemmas.{word-verb_of}
use Rattle.report_line_reader.proofs.Ranges.{first-told, small-number, small-unsigned}
use Rattle.report_line_reader.proofs.FormLemmas.{told_from, FormRead, form-read}
use Rattle.report_line_reader.proofs.KindLemmas.{IsSpelled, spelled}

-- ---- any record

told_of_read : (d : Description) (ws : List (List ℕ)) (t : Told) → told_of d ws ≡ Some t → IsSpelled d t ws
unfolding told_of
told_of_read d ws t h =
    let a = steps (λ (v : Verb). told_by d v (rest ws)) (first verb_of ws) t h in
    let na = next verb_of ws a.step a.was in
    let e : verb_word a.step ∷ rest ws ≡ ws = cc (na.is, word-verb_of na.word a.step na.told) in
    let r : FormRead d (form_of a.step) (rest ws) t = form-read d (form_of a.step) (rest ws) t a.gives in
    let s = spelled d a.step r.parts r.fits in
    let this : IsSpelled d (told_from (form_of a.step) r.parts) ws =
    record { words = s.words ∙ ap (λ (x : List ℕ). (32 ∷ verb_word a.step) ++ x) r.words ∙ ap joined e; right = s.right; ranges = s.ranges } in
    let P : Told → Type 0 = λ x. IsSpelled d x ws in
    subst P r.told this

-- ---- a whole line

pub record WritesLine (d : Description) (l : Line) (bytes : List ℕ) : Type 0 where
  pub words : bytes ≡ line_words d l
  pub right : IsRightLine d l
  pub ranges : HasLineRanges l

pub join_words : (w : List ℕ) (ws : List (List ℕ)) → join_with_byte 32 (w ∷ ws) ≡ w ++ joined ws
join_words w [] = sym (append-nil w)
join_words w (v ∷ ws) = ap (λ (x : List ℕ). w ++ 32 ∷ x) (join_words v ws)

line_spelled : (d : Description) (event time node : ℕ) (t : Told) (ws : List (List ℕ)) → told_words d t ≡ joined ws
    → join_with_byte 32 (decimal event ∷ decimal time ∷ decimal node ∷ ws) ≡ line_words d (line_with event time node t)
line_spelled d event time node t ws e = join_words (decimal event) (decimal time ∷ decimal node ∷ ws) ∙ rw e (simp append_assoc)

pub line_in-words : (d : Description) (bytes : List ℕ) (l : Line) → line_in d bytes ≡ Some l → WritesLine d l bytes
line_in-words d bytes l h =
    let ws = words_of bytes in
    let a = steps _ (first unsigned_of ws) l h in
    let b = steps _ (first number_of (rest ws)) l a.gives in
    let c = steps _ (first node_of (rest (rest ws))) l b.gives in
    let m = maps _ (told_of d (rest (rest (rest ws)))) l c.gives in
    let na = next unsigned_of ws a.step a.was in
    let nb = next number_of (rest ws) b.step b.was in
    let nc = next node_of (rest (rest ws)) c.step c.was in
    let wc = node_of-word nc.word c.step nc.told in
    let t = told_of_read d (rest (rest (rest ws))) m.value m.was in
    let e : ws ≡ decimal a.step ∷ decimal b.step ∷ decimal c.step ∷ rest (rest (rest ws)) =
    cc (na.is, nb.is, nc.is, decimal-unsigned_of na.word a.step na.told, number_of-word nb.word b.step nb.told, wc.word) in
    let whole : bytes ≡ line_words d (line_with a.step b.step c.step m.value) =
    sym (join_with_byte-slice_split 32 bytes) ∙ ap (join_with_byte 32) e ∙ line_spelled d a.step b.step c.step m.value (rest (rest (rest ws))) t.words in
    let this : WritesLine d (line_with a.step b.step c.step m.value) bytes = record {
      words = whole;
      right = record { node = wc.below; told = t.right };
      ranges = record {
        event = first-told unsigned_of (λ n. n < 2 ^ 64) (λ w n e. small-unsigned w n e) ws a.step a.was;
        time = small-number (rest ws) b.step b.was;
        told = t.ranges;
      };
    } in
    let P : Line → Type 0 = λ x. WritesLine d x bytes in
    subst P m.gives this
