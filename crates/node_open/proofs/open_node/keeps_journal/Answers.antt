-- The laws of journals.
use Rattle.node_open.proofs.JournalLemmas.{KeepsJournal-rests}
use Rattle.node_open.proofs.open_node.keeps_journal.Goals as goal

pub returns : goal.returns
returns c = KeepsJournal-rests c.args.description.now c.args.parts.now c.asks_devices_in_order.ensures c.requires
