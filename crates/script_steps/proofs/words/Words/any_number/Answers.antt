use Rattle.std.proofs.Common.{◌≡◌, ◌∷◌}
use Rattle.script_steps.specs.Lines.{split_words}
use Rattle.script_steps.proofs.NumberLemmas.{number-read}
use Rattle.script_steps.proofs.words.Words.any_number.Goals as goal

pub returns-in-Ok-clause-value : goal.returns-in-Ok-clause-value
returns-in-Ok-clause-value c =
    let cut : split_words c.args.self.now ≡ c.in-Some.word.now ∷ split_words c.next.new.self = c.in-Some.ensures in
    rw cut (number-read c.args.low c.args.high c.args.outside _ _ _ c.in-Ok.ensures.value)
