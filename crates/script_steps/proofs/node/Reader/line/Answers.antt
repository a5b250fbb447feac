use Rattle.std.proofs.Common.{◌≡◌, false, ap, sym, ◌∙◌}
use Rattle.script_steps.specs.Lines.{split_words, is_skipped}
use Rattle.script_steps.specs.NodeReader.{progress_of, said_of}
use Rattle.script_steps.proofs.NodeLemmas.{line_added}
use Rattle.script_steps.proofs.node.Reader.line.Goals as goal

pub returns-in-Ok : goal.returns-in-Ok
returns-in-Ok c =
    let skip : is_skipped (split_words c.args.line.now) ≡ false = ap (λ bytes. is_skipped (split_words bytes)) (sym c.of-words.ensures) ∙ sym c.is_skipped.ensures ∙ c.if-is_skipped.false in
    let read = rw (c.of-words.ensures, c.files.ensures) at c.in-Ok.ensures.value in
    let right = rw c.files.ensures at c.in-Ok.ensures.right in
    let ends = line_added c.args.desc.now c.args.number (progress_of c.args.self.now) (progress_of c.add.new.self) (split_words c.args.line.now) _ (said_of c.line_in.new.said) c.add.result c.requires.count c.requires.keeps skip read right c.add.ensures.value c.add.ensures.refused in
    record { value = ends.value; files = ends.files; keeps = ends.keeps }
