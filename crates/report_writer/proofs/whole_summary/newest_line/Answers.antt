use Rattle.std.proofs.Common.{ℕ, ◌==◌, ap, ◌∙◌}
use Rattle.std.specs.Prelude.{if◌then◌else◌}
use Rattle.mate_files.proofs.PenLemmas.{◌⟫◌, Prints-by}
use Rattle.report_writer.specs.Brief.{newest}
use Rattle.report_writer.specs.Words.{number, word}
use Rattle.report_writer.proofs.whole_summary.newest_line.Goals as goal

pub returns : goal.returns
returns g c =
    let found = c.newest-newest.ensures in
    let h = c.args.handler.0 in
    let logs = c.args.logs.now in
    let held = c.held_by.ensures
    ∙ ap (λ (n : ℕ). if n == 0 then 0 else c.newest-newest.result.holders) found.version
    ∙ ap (λ (n : ℕ). if newest h logs == 0 then 0 else n) found.holders in
    c.text.ensures ⟫ Prints-by (ap word c.handler_name.ensures.value) c.word.ensures ⟫ Prints-by (ap number found.version) c.number.ensures
    ⟫ Prints-by (ap number held) c.number-2.ensures ⟫ c.text-2.ensures
