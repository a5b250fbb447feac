use Rattle.std.proofs.Common.{rules, ap}
use Rattle.std.specs.Fmt.{signed_decimal}
use Rattle.mate_files.proofs.PenLemmas.{◌⟫◌, Prints-signed, Prints-by}
use Rattle.mate_code.proofs.printing.print_operand.Goals as goal

pub returns-in-SignedWord : goal.returns-in-SignedWord
returns-in-SignedWord g c =
    let value = Prints-by (ap signed_decimal c.cast_signed.ensures) (Prints-signed c.cast_signed.result (search rules) c.signed.ensures) in
    rw c.in-SignedWord.is (c.text.ensures ⟫ value)
