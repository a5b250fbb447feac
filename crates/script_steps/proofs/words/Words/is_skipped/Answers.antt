use Rattle.std.proofs.Common.{sym}
use Rattle.script_steps.proofs.SplitLemmas.{blanks-skipped, first-skipped}
use Rattle.script_steps.proofs.words.Words.is_skipped.Goals as goal

pub returns-in-empty : goal.returns-in-empty
returns-in-empty c = rw (sym c.self.view_is) (blanks-skipped c.self.inside.rest.now _ c.behind_blanks.ensures c.in-empty.len_below)

pub returns-in-len1-up : goal.returns-in-len1-up
returns-in-len1-up c = rw (sym c.self.view_is) (first-skipped c.self.inside.rest.now _ c.behind_blanks.ensures c.in-len1-up.len_at_least)
