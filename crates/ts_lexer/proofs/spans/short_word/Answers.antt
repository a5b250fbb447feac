use Rattle.std.proofs.Common.{sym, ◌∙◌, ap}
use Rattle.ts_trees.specs.Cut.{word_kind, kind_in}
use Rattle.ts_lexer.proofs.WordLemmas.{short_word_none}
use Rattle.ts_lexer.proofs.spans.short_word.Goals as goal

pub returns : goal.returns
unfolding word_kind
returns c = c.own_word.ensures ∙ sym (ap (kind_in c.args.dialect) (short_word_none c.args.text.now c.requires))
