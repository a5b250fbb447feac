use Rattle.std.proofs.Common.{◌≡◌, false, ap, sym, ◌∙◌}
use Rattle.script_steps.specs.Lines.{split_words, is_skipped}
use Rattle.script_reader.specs.Draft.{world_progress_of, world_said_of}
use Rattle.script_reader.proofs.KeepsLemmas.{has_place}
use Rattle.script_reader.proofs.LineEnd.{line_told}
use Rattle.script_reader.proofs.reader.read_line.Goals as goal

pub take-requires-clause-fits : goal.take-requires-clause-fits
take-requires-clause-fits c = has_place c.args.desc.now (world_progress_of c.args.draft.now) (world_said_of c.command.new.said) c.requires.keeps c.in-Ok.ensures.right

pub returns-in-Ok : goal.returns-in-Ok
returns-in-Ok c =
    let skip : is_skipped (split_words c.args.line.now) ≡ false = ap (λ bytes. is_skipped (split_words bytes)) (sym c.of-words.ensures) ∙ sym c.is_skipped.ensures ∙ c.if-is_skipped.false in
    let read = rw c.of-words.ensures at c.in-Ok.ensures.value in
    let ends = line_told c.args.desc.now c.args.number (world_progress_of c.args.draft.now) (world_progress_of c.take.new.draft) (split_words c.args.line.now) _ (world_said_of c.command.new.said) c.take.result
    (record { events = c.requires.count; files = c.requires.files }) c.requires.keeps skip read c.in-Ok.ensures.right c.take.ensures.value c.take.ensures.refused in
    record { value = ends.value; count = ends.count; files = ends.files; keeps = ends.keeps; tables = c.take.ensures.tables }
