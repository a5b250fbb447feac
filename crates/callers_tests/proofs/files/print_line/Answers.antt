use Rattle.std.proofs.Common.{rules}
use Rattle.mate_files.proofs.PenLemmas.{◌⟫◌, Prints-signed}
use Rattle.callers_tests.proofs.files.print_line.Goals as goal

pub returns : goal.returns
returns g c =
    let value = Prints-signed c.args.reading.now.1 (search rules) c.signed.ensures in
    c.text.ensures ⟫ c.number.ensures ⟫ c.text-2.ensures ⟫ value ⟫ c.text-3.ensures
