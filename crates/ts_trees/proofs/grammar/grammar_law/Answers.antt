use Rattle.ts_trees.proofs.GrammarLemmas.{whole_is_script, begins_is_begins_script, whole_is_procedure_script, begins_is_begins_procedures}
use Rattle.ts_trees.proofs.grammar.grammar_law.Goals as goal

pub returns : goal.returns
returns c = record { whole = whole_is_script; begins = begins_is_begins_script; procedures_whole = whole_is_procedure_script; procedures_begin = begins_is_begins_procedures }
