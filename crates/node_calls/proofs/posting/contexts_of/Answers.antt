-- The handler's contexts are those of the node.
use Rattle.std.proofs.Common.{sym, ap}
use Rattle.mate_journal.specs.Described.{contexts_of}
use Rattle.node_calls.proofs.PostingLemmas.{handler-read, contexts-within}
use Rattle.node_calls.proofs.posting.contexts_of.Goals as goal

pub returns-clause-count : goal.returns-clause-count
returns-clause-count c =
    ap contexts_of (sym (handler-read c.args.description.now c.as_slice.result.now c.args.handler.0 c.from.result c.index-as_slice-from.result c.as_slice.ensures.value c.from.ensures c.requires))

pub returns-clause-within : goal.returns-clause-within
returns-clause-within c = contexts-within c.args.description.now c.as_slice.result.now c.args.handler.0 c.from.result c.index-as_slice-from.result c.as_slice.ensures.value c.from.ensures c.requires
