use Rattle.std.proofs.Common.{sym, ◌∙◌, ap}
use Rattle.ts_trees.specs.Cut.{word_kind, kind_in}
use Rattle.ts_lexer.proofs.WordLemmas.{long_word_none}
use Rattle.ts_lexer.proofs.spans.long_word.Goals as goal

pub returns : goal.returns
unfolding word_kind
returns c = c.own_word.ensures ∙ sym (ap (kind_in c.args.dialect) (long_word_none c.args.text.now c.requires.least))
