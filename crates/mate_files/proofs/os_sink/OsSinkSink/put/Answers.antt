-- A turn takes bytes from the front of what is left, and one that takes none ends it.
use Rattle.std.proofs.Common.{rules, ◌<◌, length}
use Rattle.mate_files.proofs.WriteTurns.{SentUpTo-taken, SentUpTo-short}
use Rattle.mate_files.proofs.os_sink.OsSinkSink.put.Goals as goal

pub loop-rest-preserved : goal.loop-rest-preserved
loop-rest-preserved g c = record {
  sent = rw c.split_at.ensures.back (SentUpTo-taken c.write.result c.unwrap_or-taken.result c.unwrap_or-taken.ensures c.loop-rest.invariant.sent c.write.ensures.bytes);
  faults = c.loop-rest.invariant.faults;
}

pub returns-then-taken-eq0-clause-short : goal.returns-then-taken-eq0-clause-short
returns-then-taken-eq0-clause-short g c =
    let some : 0 < length c.loop-rest.rest.now = search rules in
    SentUpTo-short c.write.result c.unwrap_or-taken.result c.unwrap_or-taken.ensures c.if-taken-eq0.true some c.loop-rest.invariant.sent c.write.ensures.bytes

pub returns-then-taken-eq0-clause-writes : goal.returns-then-taken-eq0-clause-writes
returns-then-taken-eq0-clause-writes g c =
    let some : 0 < length c.loop-rest.rest.now = search rules in
    (SentUpTo-short c.write.result c.unwrap_or-taken.result c.unwrap_or-taken.ensures c.if-taken-eq0.true some c.loop-rest.invariant.sent c.write.ensures.bytes).part
