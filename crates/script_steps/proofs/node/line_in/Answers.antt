use Rattle.std.proofs.Common.{◌≡◌, ◌∷◌}
use Rattle.script_steps.specs.Lines.{split_words}
use Rattle.script_steps.specs.NodeReader.{said_of}
use Rattle.script_steps.proofs.NodeLemmas.{line-read, line-refused}
use Rattle.script_steps.proofs.node.line_in.Goals as goal

pub returns-in-Ok-clause-value : goal.returns-in-Ok-clause-value
returns-in-Ok-clause-value c =
    let cut : split_words c.args.words.now ≡ c.in-Some.verb.now ∷ split_words c.next.new.self = c.in-Some.ensures in
    rw cut (line-read c.args.desc.now c.args.newest.now c.args.files c.in-Some.verb.now _ _ (split_words c.finish.new.self) (said_of c.behind.new.said) c.finish.result c.in-Ok.ensures.value c.finish.ensures)

pub returns-in-Err-clause-value : goal.returns-in-Err-clause-value
returns-in-Err-clause-value c =
    let cut : split_words c.args.words.now ≡ c.in-Some.verb.now ∷ split_words c.next.new.self = c.in-Some.ensures in
    rw cut (line-refused c.args.desc.now c.args.newest.now c.args.files c.in-Some.verb.now _ c.in-Err.cause c.in-Err.ensures.value)
