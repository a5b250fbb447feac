-- What a verdict on a report says.
use Rattle.std.specs.Prelude.{◌≡◌, ◌<◌, ℕ, List, map, length, IsSomeAnd, IfSome, slice_get}
use Rattle.vm_shape.specs.declared.description.Description.{Description}
use Rattle.mate_journal.specs.Journal.{journal_of}
use Rattle.mate_journal.specs.Log.{Log}
use Rattle.mate_journal.specs.declared.program.Program.{Program}
use Rattle.mate_journal.specs.declared.report.Report.{Report}
use Rattle.report_writer.specs.Tidy.{IsTidy}
use Rattle.audit_rules.specs.Laws.{KeepsLaw, machine_by, rank_of}
use Rattle.mate_journal.specs.declared.law.Law.{Law}
use Rattle.mate_journal.specs.declared.law.Verdict.{Verdict}
use Rattle.mate_journal.specs.declared.law.Verdict.TheVariants.{Serial, Refuted}

-- the log keeps the law
abbrev pub LogKeeps : Description → List Program → Log → Law → Type 0
LogKeeps d ps l law = KeepsLaw (machine_by d ps) ps (journal_of l) law

-- each law
abbrev pub LogKeepsAll : Description → List Program → Log → Type 0
LogKeepsAll d ps l = (law : Law) → LogKeeps d ps l law

-- the log fails this law, and keeps those before it
pub record LogFails (d : Description) (ps : List Program) (l : Log) (law : Law) : Type 0 where
  pub fails : LogKeeps d ps l law → ⊥
  pub before : (earlier : Law) → rank_of earlier < rank_of law → LogKeeps d ps l earlier

-- each of the first nodes' logs keeps each law
abbrev pub NodesKeep : Description → List Program → Report → ℕ → Type 0
NodesKeep d ps r nodes = (k : ℕ) → k < nodes → IfSome (slice_get r.nodes k) (LogKeepsAll d ps)

-- a report is serial if it is tidy and each node's log keeps each law
pub record IsSerialReport (d : Description) (ps : List Program) (r : Report) : Type 0 where
  pub tidy : IsTidy d r
  pub keeps : NodesKeep d ps r (length r.nodes)

-- Of a tidy report: it is serial; or the log of this node fails this law, the logs of lower nodes fail none, and it keeps the laws
-- before this one.
abbrev pub IsVerdict : Description → List Program → Report → Verdict → Type 0
IsVerdict d ps r Serial = NodesKeep d ps r (length r.nodes)
IsVerdict d ps r (Refuted node law) = NodesKeep d ps r node × IsSomeAnd (slice_get r.nodes node) (λ l. LogFails d ps l law)

-- each node's journal in the one report is that in the other
abbrev pub TellSameJournals : Report → Report → Type 0
TellSameJournals r s = map journal_of r.nodes ≡ map journal_of s.nodes
