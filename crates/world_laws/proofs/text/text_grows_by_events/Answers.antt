use Rattle.world_laws.proofs.EventLemmas.{starts, events_add, all_stand, stores_add}
use Rattle.world_laws.proofs.text.text_grows_by_events.Goals as goal

pub returns-clause-starts : goal.returns-clause-starts
returns-clause-starts c = starts

pub returns-clause-events : goal.returns-clause-events
returns-clause-events c = events_add

pub returns-clause-stores : goal.returns-clause-stores
returns-clause-stores c = stores_add

pub returns-clause-all : goal.returns-clause-all
returns-clause-all c = all_stand
