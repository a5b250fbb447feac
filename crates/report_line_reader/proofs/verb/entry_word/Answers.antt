use Rattle.std.proofs.Common.{List, ℕ, ◌++◌, sym, ap, ◌∙◌}
use Rattle.report_writer.specs.Words.{word}
use Rattle.report_line_reader.specs.Verbs.{verb_word}
use Rattle.report_line_reader.proofs.KindLemmas.{entry_begins}
use Rattle.report_line_reader.proofs.verb.entry_word.Goals as goal

pub returns-clause-begins : goal.returns-clause-begins
returns-clause-begins c = λ d l.
    let begins = entry_begins d l c.args.entry.now in
    (begins.0, begins.1 ∙ ap (λ (w : List ℕ). word w ++ begins.0) (sym (c.word.ensures ∙ ap verb_word c.of_entry.ensures)))
