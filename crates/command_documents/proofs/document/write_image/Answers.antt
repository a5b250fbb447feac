use Rattle.std.proofs.Common.{ap}
use Rattle.hex.specs.Hex.{encode_lower}
use Rattle.mate_files.proofs.PenLemmas.{◌⟫◌, Prints-by, Puts-finished}
use Rattle.command_documents.proofs.document.write_image.Goals as goal

pub returns : goal.returns
returns g c =
    Puts-finished c.new-pen.ensures c.finish.ensures (Prints-by (ap encode_lower c.as_slice.ensures.value) c.hex.ensures ⟫ c.text.ensures)
