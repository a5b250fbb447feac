use Rattle.std.proofs.Common.{sym, ◌∙◌}
use Rattle.script_steps.proofs.LeadingLemmas.{takes-number}
use Rattle.script_steps.proofs.words.Words.short_number.Goals as goal

pub returns : goal.returns
returns c =
    rw (sym c.self.view_is)
    (takes-number c.self.inside.rest.now c.behind_blanks-rest.result.now c.split_at.result.1.now c.in_ok-number.field-0 c.behind_blanks-rest.ensures c.in_ok-number.ensures
    c.split_at.ensures.back (sym c.begins_with_word.ensures ∙ c.if-begins_with_word.false))
