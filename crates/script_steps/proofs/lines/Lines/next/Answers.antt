use Rattle.std.proofs.Common.{sym, arith}
use Rattle.std.proofs.lemmas.Bool.Decides.{nat_tests}
use Rattle.script_steps.proofs.SplitLemmas.{line_ends', line_is_last, no_line}
use Rattle.script_steps.proofs.lines.Lines.next.Goals as goal
use Rattle.script_steps.proofs.lines.Lines.next.Goals.{then-is_empty, else-is_empty}

pub returns-after-is_empty-clause-line : goal.returns-after-is_empty-clause-line
returns-after-is_empty-clause-line c =
    rw (sym c.self.view_is) (elim c.if-is_empty.branch [
      | then-is_empty w ↦ rw w.result-is (no_line c.self.inside.rest.now (grind (arith, nat_tests)))
      | else-is_empty w ↦ rw w.result-is (line_is_last c.self.inside.rest.now c.split_at.result.0.now c.split_at.result.1.now (rw c.line_len.ensures.value at c.split_at.ensures.front) (rw c.line_len.ensures.value at c.split_at.ensures.back)
          c.in-empty.len_below (grind (arith, nat_tests)))
    ])

pub returns-in-len1-up-clause-line : goal.returns-in-len1-up-clause-line
returns-in-len1-up-clause-line c =
    rw (sym c.self.view_is, c.without_return.ensures) (line_ends' c.self.inside.rest.now c.split_at.result.0.now c.split_at.result.1.now (rw c.line_len.ensures.value at c.split_at.ensures.front) (rw c.line_len.ensures.value at c.split_at.ensures.back)
    c.in-len1-up.len_at_least)
