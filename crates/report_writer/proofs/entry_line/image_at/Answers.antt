use Rattle.std.proofs.Common.{◌≡◌, slice_get, Some, None, ap, sym, ◌∙◌, arith}
use Rattle.std.proofs.lemmas.Grind.{common_steps}
use Rattle.std.proofs.lemmas.Option.{gets}
use Rattle.report_writer.specs.Words.{image_text}
use Rattle.report_writer.proofs.entry_line.image_at.Goals as goal

pub returns-in-Some : goal.returns-in-Some
returns-in-Some c =
    let found : slice_get c.args.log.now.images c.args.image ≡ Some c.in-Some.image.now = grind (arith, common_steps, gets, c.in-Some.ensures.lookup.0, c.images.ensures) in
    c.as_slice.ensures.value ∙ sym (ap image_text found)

pub returns-in-None : goal.returns-in-None
returns-in-None c =
    let none : slice_get c.args.log.now.images c.args.image ≡ None = grind (arith, common_steps, gets, c.in-None.ensures.lookup.0, c.images.ensures) in
    sym (ap image_text none)
