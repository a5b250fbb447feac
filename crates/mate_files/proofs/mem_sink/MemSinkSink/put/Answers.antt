-- If a write is refused, none of its bytes is appended.
use Rattle.std.proofs.Common.{rules, ◌<◌, length}
use Rattle.mate_files.proofs.SinkLemmas.{SentShort-nil}
use Rattle.mate_files.proofs.mem_sink.MemSinkSink.put.Goals as goal

pub returns-then-contains-clause-short : goal.returns-then-contains-clause-short
returns-then-contains-clause-short c = let some : 0 < length c.args.bytes.now = search rules in SentShort-nil some

pub returns-in-Err-clause-short : goal.returns-in-Err-clause-short
returns-in-Err-clause-short c = let some : 0 < length c.args.bytes.now = search rules in rw c.in-Err.ensures.items (SentShort-nil some)
