-- The writer took all but what is left, and nothing was counted yet.
use Rattle.std.proofs.Common.{◌≡◌, length}
use Rattle.mate_files.specs.OsSink.{writer_of, faults_of}
use Rattle.mate_files.proofs.WriteTurns.{SentUpTo}
use Rattle.mate_files.proofs.os_sink.OsSinkSink.put.Given as goal

abbrev pub invariant-loop-rest : goal.invariant-loop-rest
invariant-loop-rest g l = record {
  sent : SentUpTo (g.W.Write.contents (writer_of l.initial.self)) (g.W.Write.contents (writer_of l.self)) l.rest l.bytes;
  faults : faults_of l.self ≡ faults_of l.initial.self;
}

abbrev pub decreases-loop-rest : goal.decreases-loop-rest
decreases-loop-rest g l = length l.rest
