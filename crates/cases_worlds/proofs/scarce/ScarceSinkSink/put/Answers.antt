-- If memory is refused, none of the bytes is appended.
use Rattle.std.proofs.Common.{rules, ◌<◌, length}
use Rattle.mate_files.proofs.SinkLemmas.{SentShort-nil}
use Rattle.cases_worlds.proofs.scarce.ScarceSinkSink.put.Goals as goal

pub returns-then-self-eq0-clause-short : goal.returns-then-self-eq0-clause-short
returns-then-self-eq0-clause-short c = let some : 0 < length c.args.bytes.now = search rules in SentShort-nil some
