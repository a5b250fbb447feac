use Rattle.std.proofs.Common.{◌∙◌, ap}
use Rattle.ts_trees.specs.Cut.{between, with_front, cut_from, all_in}
use Rattle.ts_lexer.proofs.CutLemmas.{with_front-nil}
use Rattle.ts_lexer.proofs.StepLemmas.{cut_in-all}
use Rattle.ts_lexer.proofs.scanner.Scanner.new.Goals as goal

pub returns : goal.returns
returns c =
    ap (λ ts. with_front ts (all_in c.args.dialect (cut_from 0 between c.args.bytes.now))) c.new.ensures
    ∙ with_front-nil (all_in c.args.dialect (cut_from 0 between c.args.bytes.now)) ∙ cut_in-all c.args.dialect c.args.bytes.now
