use Rattle.ts_lexer.proofs.LineLemmas.{line_cut}
use Rattle.ts_lexer.proofs.PrintedLemmas.{written_cut}
use Rattle.ts_lexer.proofs.ScriptLemmas.{kinds_of_cut, script_written, script_again}
use Rattle.ts_lexer.proofs.law.print_law.Goals as goal

pub returns-clause-kinds : goal.returns-clause-kinds
returns-clause-kinds c = kinds_of_cut

pub returns-clause-tokens : goal.returns-clause-tokens
returns-clause-tokens c = written_cut

pub returns-clause-line : goal.returns-clause-line
returns-clause-line c = line_cut

pub returns-clause-script : goal.returns-clause-script
returns-clause-script c = script_written

pub returns-clause-again : goal.returns-clause-again
returns-clause-again c = script_again
