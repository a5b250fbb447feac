-- The last line of a report has some bytes, so it can be refused before any of it is sent.
use Rattle.std.proofs.Common.{◌<◌, ℕ, Bool, true, false, List, length, Option, Err, arith}
use Rattle.mate_files.specs.Sink.{Puts}
use Rattle.mate_files.specs.declared.sink.SinkFault.TheVariants.{NoMemory}
use Rattle.mate_files.proofs.SinkLemmas.{SentPart-nil, SentShort-nil}
use Rattle.mate_journal.specs.declared.report.Report.{Report}
use Rattle.report_writer.specs.Text.{end_line, records}
use Rattle.report_writer.specs.Writing.{last_line}

some_bytes : (records events nodes : ℕ) (whole : Bool) → 0 < length (end_line records events nodes whole)
some_bytes records events nodes true = grind arith
some_bytes records events nodes false = grind arith

pub last_refused : (r : Report) (w : Option (List ℕ)) (f : ℕ) → Puts {T = Unit {0}} w f w f (Err NoMemory) (last_line r)
last_refused r w f = record {
  writes = SentPart-nil;
  short = SentShort-nil (some_bytes (records r) r.events (length r.nodes) r.whole);
  cause = tt;
  later = omega arith;
}
