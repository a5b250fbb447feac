use Rattle.std.proofs.Common.{ℕ, ◌==◌, count_by, ap, ◌∙◌}
use Rattle.std.specs.Prelude.{if◌then◌else◌}
use Rattle.mate_files.proofs.PenLemmas.{◌⟫◌, Prints-by}
use Rattle.report_writer.specs.Words.{number, word}
use Rattle.report_writer.specs.Tally.{versions_at}
use Rattle.report_writer.specs.declared.tally.LogTally.{LogTally}
use Rattle.report_writer.proofs.summary.newest_line.Goals as goal

pub returns : goal.returns
returns g c =
    let found = c.newest-version.ensures in
    let held = c.holders.ensures
    ∙ ap (λ (n : ℕ). if n == 0 then 0 else count_by (λ (t : LogTally). (versions_at c.args.handler.0 t.versions.items).last == n) c.args.nodes.now) found in
    c.text.ensures ⟫ Prints-by (ap word c.handler_name.ensures.value) c.word.ensures ⟫ Prints-by (ap number found) c.number.ensures
    ⟫ Prints-by (ap number held) c.number-2.ensures ⟫ c.text-2.ensures
