use Rattle.std.proofs.Common.{sym, ◌∙◌}
use Rattle.script_steps.proofs.SplitLemmas.{blanks_decide}
use Rattle.script_steps.proofs.words.Words.is_done.Goals as goal

pub returns : goal.returns
returns c = rw (sym c.self.view_is) (c.is_empty.ensures ∙ blanks_decide c.self.inside.rest.now c.behind_blanks.result.now c.behind_blanks.ensures)
