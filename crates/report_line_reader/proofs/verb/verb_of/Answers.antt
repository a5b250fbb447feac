use Rattle.std.proofs.Common.{◌≡◌, true, false, sym, ◌∙◌}
use Rattle.std.proofs.lemmas.Slice.Eq.{bytes_eq-Decides}
use Rattle.report_line_reader.proofs.VerbLemmas.{short-word, word-named, word-unnamed}
use Rattle.report_line_reader.proofs.verb.verb_of.Goals as goal

pub returns-in_default : goal.returns-in_default
returns-in_default c = short-word c.args.word.now c.in_default.len_below

pub returns-then-same_bytes : goal.returns-then-same_bytes
returns-then-same_bytes c =
    word-named c.args.word.now c.likely-verb.result
    (sym ((bytes_eq-Decides c.as_bytes.result.now c.args.word.now).0 (sym c.same_bytes.ensures ∙ c.if-same_bytes.true)) ∙ c.as_bytes.ensures.value ∙ c.word.ensures)

pub returns-else-same_bytes : goal.returns-else-same_bytes
returns-else-same_bytes c =
    word-unnamed c.args.word.now c.likely-verb.result c.likely-verb.ensures
    (λ same. let t : true ≡ false = sym ((bytes_eq-Decides c.as_bytes.result.now c.args.word.now).1 (c.as_bytes.ensures.value ∙ c.word.ensures ∙ sym same)) ∙ sym c.same_bytes.ensures ∙ c.if-same_bytes.false in cc)
