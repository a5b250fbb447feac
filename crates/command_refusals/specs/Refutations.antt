-- Why a report doesn't show serial behaviour, as the program reports it.
use Rattle.std.specs.Prelude.{ℕ, List, ◌++◌, codes, decimal}
use Rattle.mate_journal.specs.LawWords.{law_word}
use Rattle.mate_journal.specs.declared.law.Law.{Law}
use Rattle.command_refusals.specs.LineEnds.{number_line}
use Rattle.command_refusals.specs.declared.refutation.Refutation.{Refutation}
use Rattle.command_refusals.specs.declared.refutation.Refutation.TheVariants as refutation

-- the node and the law that its journal fails first
abbrev pub node_words : ℕ → Law → List ℕ
node_words node law = codes "refuted node " ++ decimal node ++ codes " " ++ law_word law ++ codes "\n"

abbrev pub refutation_words : Refutation → List ℕ
refutation_words (refutation.Line line) = number_line (codes "refuted line ") line
refutation_words (refutation.Node node law) = node_words node law
