use Rattle.ts_parser.proofs.OwnPlaces.{one_tree, one_tree_in}
use Rattle.ts_parser.proofs.VerdictLemmas.{one_verdict, some_verdict, one_verdict_in, some_verdict_in}
use Rattle.ts_parser.proofs.verdict.verdict_law.Goals as goal

pub returns : goal.returns
returns c = record { one_tree = one_tree; one = one_verdict; some = some_verdict; one_tree_in = one_tree_in; one_in = one_verdict_in; some_in = some_verdict_in }
