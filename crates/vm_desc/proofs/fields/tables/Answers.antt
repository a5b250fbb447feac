use Rattle.vm_desc.proofs.FieldLemmas.{length-tables_in, allowed-holds}
use Rattle.vm_desc.proofs.fields.tables.Goals as goal

pub returns-clause-tables : goal.returns-clause-tables
returns-clause-tables c = allowed-holds _ _ (rw c.are_tables.ensures at c.in_ok-allowed.ensures)

pub returns-clause-few : goal.returns-clause-few
returns-clause-few c = c.in_ok-items.ensures.few

pub returns-clause-count : goal.returns-clause-count
returns-clause-count c = length-tables_in c.in_ok-items.items.now.items (returns-clause-tables c)
