use Rattle.std.proofs.Common.{sym, arith}
use Rattle.std.proofs.lemmas.Bool.Decides.{nat_tests}
use Rattle.script_steps.proofs.SplitLemmas.{IsCut, a_word_is_next, no_word_is_next}
use Rattle.script_steps.proofs.words.Words.cut.Goals as goal
use Rattle.script_steps.proofs.words.Words.cut.Goals.{then-is_empty, else-is_empty}

pub returns : goal.returns
returns c =
    let cut : IsCut c.self.inside.rest.now c.args.rest.now c.split_at.result.0.now c.split_at.result.1.now = record {
      blanks = rw c.self.view_is c.requires.behind;
      front = rw c.requires.word at c.split_at.ensures.front;
      back = rw c.requires.word at c.split_at.ensures.back;
    } in
    rw (sym c.self.view_is) (elim c.if-is_empty.branch [
      | then-is_empty w ↦ rw w.result-is (no_word_is_next _ _ _ _ cut (grind (arith, nat_tests)))
      | else-is_empty w ↦ rw w.result-is (a_word_is_next _ _ _ _ cut (grind (arith, nat_tests)))
    ])
