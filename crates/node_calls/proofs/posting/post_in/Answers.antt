-- The event is dropped, or becomes an invocation that may start.
use Rattle.std.proofs.Common.{sym, ◌∙◌}
use Rattle.node_calls.proofs.PostingLemmas.{RestsAgain-no_code, RestsAgain-all_busy, room-queued, RestsAgain-posted}
use Rattle.node_calls.proofs.posting.post_in.Goals as goal

pub returns-in_default-clause-again : goal.returns-in_default-clause-again
returns-in_default-clause-again c =
    RestsAgain-no_code c.args.description.now c.args.parts.now c.tell.new.log c.args.at c.args.handler c.requires.handler c.requires.rests c.requires.timely c.tell.ensures.spare (sym c.in_default.ensures) c.tell.ensures.pushed

pub returns-in_default-first_free-clause-again : goal.returns-in_default-first_free-clause-again
returns-in_default-first_free-clause-again c =
    RestsAgain-all_busy c.args.description.now c.args.parts.now c.tell-in_default-first_free.new.log c.args.at c.args.handler c.requires.handler c.requires.rests c.requires.timely c.tell-in_default-first_free.ensures.spare
    c.in-Some.held.now (sym c.in-Some.ensures) c.in_default-first_free.ensures c.tell-in_default-first_free.ensures.pushed

pub start_all-requires-clause-room : goal.start_all-requires-clause-room
start_all-requires-clause-room c = room-queued c.args.description.now c.args.parts.now c.queue-inv.new.parts c.args.at c.args.handler c.args.payload.now c.queue-inv.result c.queue-inv.ensures.queued c.requires.room

pub returns-clause-again : goal.returns-clause-again
returns-clause-again c =
    RestsAgain-posted c.args.description.now c.args.parts.now c.queue-inv.new.parts c.start_all.new.parts c.args.at c.args.handler c.args.payload.now c.queue-inv.result c.queue-inv.ensures.queued c.start_all.ensures.starts

pub returns-clause-handlers : goal.returns-clause-handlers
returns-clause-handlers c = c.start_all.ensures.starts.some.handlers ∙ c.queue-inv.ensures.handlers
