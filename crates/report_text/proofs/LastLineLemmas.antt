-- A last line is read as it is written.
use Rattle.std.proofs.Common.{◌≡◌, ℕ, ◌++◌, Bool, true, false, cond, List, [], ◌∷◌, Option, Some, None, refl, sym, ap, subst, ◌∙◌, inl, inr, append_assoc, append-nil}
use Rattle.std.specs.Prelude.{codes, IfSome, IfNone}
use Rattle.std.specs.List.{list_all, join_with_byte}
use Rattle.std.specs.Fmt.{decimal}
use Rattle.std.specs.Str.{bytes_eq}
use Rattle.std.proofs.lemmas.Bool.{cases_Bool, cond-true, cond-false, and_from}
use Rattle.std.proofs.lemmas.List.Splits.{join_with_byte-slice_split}
use Rattle.std.proofs.lemmas.Slice.Eq.{bytes_eq-Decides}
use Rattle.report_writer.specs.Text.{end_word}
use Rattle.report_line_reader.specs.Words.{words_of, first, rest, reads, only_at_end}
use Rattle.report_line_reader.specs.Numbers.{unsigned_of}
use Rattle.report_line_reader.proofs.OptionLemmas.{steps}
use Rattle.report_line_reader.proofs.NumberLemmas.{decimal-unsigned_of, unsigned_of-decimal}
use Rattle.report_line_reader.proofs.FieldLemmas.{next}
use Rattle.report_line_reader.proofs.StoreLemmas.{joined, only_end}
use Rattle.report_line_reader.proofs.LineLemmas.{join_words}
use Rattle.report_line_reader.proofs.WrittenWords.{is_written, in_line, words_of-joined, line-in_line, written-decimal}
use Rattle.report_line_reader.proofs.WrittenFields.{reads-next}
use Rattle.report_text.specs.LastLines.{is_whole_word, last_with, last_of_words, last_in, last_words, HasLastRanges}
use Rattle.report_text.specs.declared.last_line.LastLine.{LastLine}

whole-word : (w : List ℕ) (b : Bool) → is_whole_word w ≡ Some b → w ≡ end_word b
whole-word w b h =
    elim (cases_Bool (bytes_eq (codes "end") w)) [
      | inl ended ↦
          let e : Some true ≡ Some b = sym (cond-true (bytes_eq (codes "end") w) (Some true) _ ended) ∙ h in
          let is : true ≡ b = cc in
          sym ((bytes_eq-Decides (codes "end") w).0 ended) ∙ ap end_word is
      | inr other ↦
          let k : cond (bytes_eq (codes "full") w) (Some false) None ≡ Some b = sym (cond-false (bytes_eq (codes "end") w) (Some true) _ other) ∙ h in
          elim (cases_Bool (bytes_eq (codes "full") w)) [
            | inl cut ↦
                let e : Some false ≡ Some b = sym (cond-true (bytes_eq (codes "full") w) (Some false) None cut) ∙ k in
                let is : false ≡ b = cc in
                sym ((bytes_eq-Decides (codes "full") w).0 cut) ∙ ap end_word is
            | inr neither ↦ let e : None ≡ Some b = sym (cond-false (bytes_eq (codes "full") w) (Some false) None neither) ∙ k in absurd cc
          ]
    ]

abbrev last_list : LastLine → List (List ℕ)
last_list e = decimal e.records ∷ decimal e.events ∷ decimal e.nodes ∷ []

last_joined : (e : LastLine) → last_words e ≡ end_word e.whole ++ joined (last_list e)
last_joined e = simp (append_assoc, append-nil)

pub last_in-words : (bytes : List ℕ) (e : LastLine) → last_in bytes ≡ Some e → bytes ≡ last_words e
last_in-words bytes e h =
    let ws = words_of bytes in
    let a = steps _ (first is_whole_word ws) e h in
    let b = steps _ (first unsigned_of (rest ws)) e a.gives in
    let c = steps _ (first unsigned_of (rest (rest ws))) e b.gives in
    let n = steps _ (first unsigned_of (rest (rest (rest ws)))) e c.gives in
    let z = only_end (last_with a.step b.step c.step n.step) e (rest (rest (rest (rest ws)))) n.gives in
    let na = next is_whole_word ws a.step a.was in
    let nb = next unsigned_of (rest ws) b.step b.was in
    let nc = next unsigned_of (rest (rest ws)) c.step c.was in
    let nn = next unsigned_of (rest (rest (rest ws))) n.step n.was in
    let found : LastLine = last_with a.step b.step c.step n.step in
    let is : ws ≡ end_word a.step ∷ last_list found =
    cc (na.is, nb.is, nc.is, nn.is, z.0, whole-word na.word a.step na.told, decimal-unsigned_of nb.word b.step nb.told, decimal-unsigned_of nc.word c.step nc.told, decimal-unsigned_of nn.word n.step nn.told) in
    let whole : bytes ≡ last_words found =
    sym (join_with_byte-slice_split 32 bytes) ∙ ap (join_with_byte 32) is ∙ join_words (end_word a.step) (last_list found) ∙ sym (last_joined found) in
    subst (λ (x : LastLine). bytes ≡ last_words x) z.1 whole

whole_word-read : (b : Bool) → is_whole_word (end_word b) ≡ Some b
whole_word-read true = refl
whole_word-read false = refl

whole_word-written : (b : Bool) → is_written (end_word b) ≡ true
whole_word-written true = refl
whole_word-written false = refl

written-last : (e : LastLine) → HasLastRanges e → list_all is_written (last_list e) ≡ true
written-last e r =
    and_from (is_written (decimal e.records)) _ (written-decimal e.records r.records)
    (and_from (is_written (decimal e.events)) _ (written-decimal e.events r.events) (and_from (is_written (decimal e.nodes)) true (written-decimal e.nodes r.nodes) refl))

split-last : (e : LastLine) → HasLastRanges e → words_of (last_words e) ≡ end_word e.whole ∷ last_list e
split-last e r = ap words_of (last_joined e) ∙ words_of-joined (end_word e.whole) (last_list e) (whole_word-written e.whole) (written-last e r)

pub last_in-written : (e : LastLine) → HasLastRanges e → last_in (last_words e) ≡ Some e
last_in-written e r =
    ap last_of_words (split-last e r)
    ∙ reads-next is_whole_word (λ whole. reads unsigned_of (λ records. reads unsigned_of (λ events. reads unsigned_of (λ nodes. only_at_end (last_with whole records events nodes)))))
    (end_word e.whole) (last_list e) e.whole (whole_word-read e.whole)
    ∙ reads-next unsigned_of (λ records. reads unsigned_of (λ events. reads unsigned_of (λ nodes. only_at_end (last_with e.whole records events nodes))))
    (decimal e.records) (decimal e.events ∷ decimal e.nodes ∷ []) e.records (unsigned_of-decimal e.records r.records)
    ∙ reads-next unsigned_of (λ events. reads unsigned_of (λ nodes. only_at_end (last_with e.whole e.records events nodes))) (decimal e.events) (decimal e.nodes ∷ []) e.events
    (unsigned_of-decimal e.events r.events)
    ∙ reads-next unsigned_of (λ nodes. only_at_end (last_with e.whole e.records e.events nodes)) (decimal e.nodes) [] e.nodes (unsigned_of-decimal e.nodes r.nodes)

pub last-in_line : (e : LastLine) → HasLastRanges e → list_all in_line (last_words e) ≡ true
last-in_line e r = ap (list_all in_line) (last_joined e) ∙ line-in_line (end_word e.whole) (last_list e) (whole_word-written e.whole) (written-last e r)

-- a last line is no record's
end_word-no_number : (b : Bool) → unsigned_of (end_word b) ≡ None
end_word-no_number true = refl
end_word-no_number false = refl

pub last-no_line : {A : Type 0} (go : ℕ → List (List ℕ) → Option A) (e : LastLine) → HasLastRanges e → reads unsigned_of go (words_of (last_words e)) ≡ None
last-no_line go e r =
    ap (reads unsigned_of go) (split-last e r) ∙ ap (Rattle.std.specs.Option.option_and_then (λ (n : ℕ). go n (last_list e))) (end_word-no_number e.whole)

-- ---- at the call

pub form_of_last : (bytes : List ℕ) (r : Option LastLine) → r ≡ last_in bytes → IfSome r (λ e. bytes ≡ last_words e)
form_of_last bytes None h = tt
form_of_last bytes (Some e) h = last_in-words bytes e (sym h)

pub none_of_last : (bytes : List ℕ) (r : Option LastLine) → r ≡ last_in bytes → IfNone r ((e : LastLine) → HasLastRanges e → bytes ≡ last_words e → ⊥)
none_of_last bytes (Some e) h = tt
none_of_last bytes None h = λ e ranges words. (let same : None ≡ Some e = h ∙ ap last_in words ∙ last_in-written e ranges in absurd cc)
