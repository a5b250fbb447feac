use Rattle.ts_trees.specs.Cut.{cut_in}
use Rattle.ts_lexer.specs.Scanner.{due}
use Rattle.ts_lexer.proofs.StepLemmas.{cuts_by}
use Rattle.ts_lexer.proofs.cutting.tokens_in.Goals as goal

pub returns : goal.returns
returns c = cuts_by c.args.dialect c.args.bytes.now (due c.new.result) c.finish.result c.new.ensures c.finish.ensures
