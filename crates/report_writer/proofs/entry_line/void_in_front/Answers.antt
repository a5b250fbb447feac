use Rattle.std.proofs.Common.{ap, sym}
use Rattle.report_writer.specs.Words.{void_words}
use Rattle.report_writer.proofs.ChunkLemmas.{IsInFront-by}
use Rattle.report_writer.proofs.entry_line.void_in_front.Goals as goal

pub returns-in-NotReady-clause-adds : goal.returns-in-NotReady-clause-adds
returns-in-NotReady-clause-adds c = IsInFront-by (sym (ap void_words c.in-NotReady.is)) c.text.ensures.adds

pub returns-in-NotWaiting-clause-adds : goal.returns-in-NotWaiting-clause-adds
returns-in-NotWaiting-clause-adds c = IsInFront-by (sym (ap void_words c.in-NotWaiting.is)) c.text-in-NotWaiting.ensures.adds

pub returns-in-NotNewer-clause-adds : goal.returns-in-NotNewer-clause-adds
returns-in-NotNewer-clause-adds c = IsInFront-by (sym (ap void_words c.in-NotNewer.is)) c.numbered.ensures.adds
