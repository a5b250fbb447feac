use Rattle.std.proofs.Common.{ap₂, ◌∙◌}
use Rattle.std.proofs.lemmas.Result.{IfOk-weaker}
use Rattle.clap.specs.Words.{with_rule}
use Rattle.command_line.proofs.words.command.Goals as goal

pub returns : goal.returns
returns c =
    let third = c.in_ok-arg.ensures.shape c.command_word.ensures.local ∙ ap₂ with_rule c.in_ok-flags.ensures c.command_word.ensures.rule in
    IfOk-weaker c.arg-2.result _ _ (λ r h. h.shape c.other_words.ensures.local ∙ ap₂ with_rule third c.other_words.ensures.rule) c.arg-2.ensures
