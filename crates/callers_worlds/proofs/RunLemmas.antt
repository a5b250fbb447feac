-- What a run gives, told of its end.
use Rattle.std.proofs.Common.{◌≡◌, ◌≤◌, ◌<◌, ℕ, suc, false, List, [], ◌∷◌, ◌++◌, map, length, Option, Some, None, Result, Ok, Err, sym, ap, ◌∙◌, subst, arith}
use Rattle.std.specs.Prelude.{slice_get, IsSomeAnd, IfOk, IfErr}
use Rattle.mate_num.specs.declared.call.Stamp.{Stamp}
use Rattle.mate_num.specs.declared.store.Store.{Store}
use Rattle.mate_journal.specs.Journal.{TimedEntry, JournalEntry, Seen, journal_of}
use Rattle.mate_journal.specs.Log.{Log}
use Rattle.mate_journal.specs.NodeScript.{RunEnd, Full, Whole, Cut}
use Rattle.mate_journal.specs.declared.program.Program.{Program}
use Rattle.mate_journal.specs.declared.report.Report.{Report}
use Rattle.mate_journal.specs.declared.report.IntoFault.{IntoFault}
use Rattle.mate_journal.specs.declared.report.IntoFault.TheVariants as into
use Rattle.mate_journal.specs.declared.report.RunFault.{RunFault}
use Rattle.mate_journal.specs.declared.report.RunFault.TheVariants.{LogFull, NoMemory}
use Rattle.script_steps.specs.declared.world.World.{World as Script}
use Rattle.vm_shape.specs.declared.description.Description.{Description}
use Rattle.world_rules.specs.Report.{IsWorldReport, IsLogOf}
use Rattle.world_rules.specs.Run.{HaveCome, journal}
use Rattle.world_rules.specs.State.{Moment}
use Rattle.world_rules.specs.World.{World}
use Rattle.mate_files.specs.Sink.{Sent, SentPart, SentShort}
use Rattle.report_writer.specs.Text.{lines, text}
use Rattle.report_writer.specs.Writing.{RunsInto, written_text}
use Rattle.world_sim.specs.Promise.{IsReportOfWorld, WorldRunGives}
use Rattle.world_run_laws.specs.SourceWorld.{source_world}
use Rattle.callers_worlds.specs.Runs.{CameWithRoom, EndsSeen, HaveOwnEvents, IsFullBehind}

of_report : (w : World) (r report : Report) → LogFull r ≡ LogFull report → IsWorldReport w Full r → IsFullBehind w report.events
of_report w r report is told =
    let same : r ≡ report = cc in
    subst (λ (x : Report). IsFullBehind w x.events) same (record { moments = told.moments; come = told.come; count = told.events; full = told.at_end.0 })

pub full_behind : (d : Description) (script : Script) (ps : List Program) (r : Result Report RunFault) → WorldRunGives d script ps r
    → IfErr r (λ fault. (report : Report) → fault ≡ LogFull report → IsFullBehind (source_world d script ps) report.events)
full_behind d script ps (Ok r) gives = tt
full_behind d script ps (Err (LogFull r)) gives = λ report is. of_report (source_world d script ps) r report is gives.run
full_behind d script ps (Err NoMemory) gives = λ report is. cc

-- ---- a whole run

with_room : (w : World) (r : Report) → IsWorldReport w Whole r → CameWithRoom w r.events
with_room w r told = record {
  moments = told.moments;
  come = told.come;
  count = told.events;
  room = λ m before is. (subst (HaveCome w) is told.come).1.room;
}

pub came_with_room : (d : Description) (script : Script) (ps : List Program) (r : Result Report RunFault) → WorldRunGives d script ps r
    → IfOk r (λ report. CameWithRoom (source_world d script ps) report.events)
came_with_room d script ps (Ok r) gives = with_room (source_world d script ps) r gives.run
came_with_room d script ps (Err fault) gives = tt

of_log : (w : World) (ms : List Moment) (events : ℕ) (l : Log) → events ≡ suc (length ms) → IsLogOf w Whole ms 0 l → EndsSeen events w.until l
of_log w ms events l count told =
    let sees = told.journal.ends in
    let stamp : Stamp = record { event = suc (length ms); time = w.until } in
    let stamped : JournalEntry → TimedEntry = λ t. record { stamp = stamp; told = t } in
    record {
      before = journal w 0 ms;
      store = sees.shown.seen;
      is = told.journal.journal_is ∙ ap (λ (last : List TimedEntry). journal w 0 ms ++ last) (sees.stamped ∙ ap (map stamped) sees.shown.made)
          ∙ ap (λ (n : ℕ). journal w 0 ms ++ record { stamp = record { event = n; time = w.until }; told = Seen sees.shown.seen } ∷ []) (sym count);
    }

of_some : (o : Option Log) (P Q : Log → Type 0) → ((l : Log) → P l → Q l) → IsSomeAnd o P → IsSomeAnd o Q
of_some (Some l) P Q weaker p = weaker l p
of_some None P Q weaker p = p

pub ends_seen : (d : Description) (script : Script) (ps : List Program) (r : Result Report RunFault) → 1 ≤ script.nodes → WorldRunGives d script ps r
    → IfOk r (λ report. IsSomeAnd (slice_get report.nodes 0) (EndsSeen (suc report.events) script.until))
ends_seen d script ps (Ok r) some gives =
    let w = source_world d script ps in
    of_some (slice_get r.nodes 0) (IsLogOf w Whole gives.run.moments 0) (EndsSeen (suc r.events) script.until) (λ l. of_log w gives.run.moments (suc r.events) l (ap suc gives.run.events)) (gives.run.logs 0 (omega (arith, some)))
ends_seen d script ps (Err fault) some gives = tt

-- ---- each node's own events

own_log : (w : World) (ms : List Moment) (k : ℕ) (l : Log) → IsLogOf w Whole ms k l
    → (store : Store) × (journal_of l ≡ journal w k ms ++ record { stamp = record { event = suc (length ms); time = w.until }; told = Seen store } ∷ [])
own_log w ms k l told =
    let sees = told.journal.ends in
    let stamped : JournalEntry → TimedEntry = λ t. record { stamp = record { event = suc (length ms); time = w.until }; told = t } in
    (sees.shown.seen, told.journal.journal_is ∙ ap (λ (last : List TimedEntry). journal w k ms ++ last) (sees.stamped ∙ ap (map stamped) sees.shown.made))

own_report : (w : World) (r : Report) → IsWorldReport w Whole r → HaveOwnEvents w w.until r
own_report w r told = record {
  moments = told.moments;
  come = told.come;
  count = told.events;
  own = λ k below. of_some (slice_get r.nodes k) (IsLogOf w Whole told.moments k) _ (λ l. own_log w told.moments k l) (told.logs k below);
}

pub own_events : (d : Description) (script : Script) (ps : List Program) (r : Result Report RunFault) → WorldRunGives d script ps r
    → IfOk r (λ report. HaveOwnEvents (source_world d script ps) script.until report)
own_events d script ps (Ok r) gives = own_report (source_world d script ps) r gives.run
own_events d script ps (Err fault) gives = tt

pub own_written : (d : Description) (script : Script) (ps : List Program) (out out' : Option (List ℕ)) (before now : ℕ) (r : Result Report IntoFault) → RunsInto d (IsReportOfWorld d script ps) out out' before now r
    → IfOk r (λ report. HaveOwnEvents (source_world d script ps) script.until report)
own_written d script ps out out' before now (Ok r) gives = own_report (source_world d script ps) r gives.0.run
own_written d script ps out out' before now (Err fault) gives = tt

pub sent_whole : (d : Description) (script : Script) (ps : List Program) (out out' : Option (List ℕ)) (before now : ℕ) (r : Result Report IntoFault) → RunsInto d (IsReportOfWorld d script ps) out out' before now r
    → IfOk r (λ report. Sent out out' (text d report))
sent_whole d script ps out out' before now (Ok r) gives = gives.1
sent_whole d script ps out out' before now (Err fault) gives = tt

-- ---- a run that its sink stopped

pub keeps_nodes : (d : Description) (script : Script) (ps : List Program) (out out' : Option (List ℕ)) (before now : ℕ) (r : Result Report IntoFault) → RunsInto d (IsReportOfWorld d script ps) out out' before now r
    → IfErr r (λ fault. (report : Report) → fault ≡ into.Sink report → length report.nodes ≡ script.nodes)
keeps_nodes d script ps out out' before now (Ok r) gives = tt
keeps_nodes d script ps out out' before now (Err (into.LogFull r)) gives = λ report is. cc
keeps_nodes d script ps out out' before now (Err (into.NoMemory r)) gives = λ report is. cc
keeps_nodes d script ps out out' before now (Err (into.Sink r)) gives = λ report is.
    let same : r ≡ report = cc in
    subst (λ (x : Report). length x.nodes ≡ script.nodes) same gives.0.written.report.run.nodes

-- of a run that isn't whole, and whose log isn't full, the text is its lines
cut_short : (w : World) (d : Description) (how : RunEnd) (r : Report) (out out' : Option (List ℕ)) → IsWorldReport w how r → (part : SentPart out out' (written_text how d r)) → 0 < length part.rest
    → r.whole ≡ false → (IsFullBehind w r.events → ⊥) → SentShort out out' (lines d r)
cut_short w d Whole r out out' told part unsent cut few = let whole = told.whole in absurd cc
cut_short w d Full r out out' told part unsent cut few = absurd (few (record { moments = told.moments; come = told.come; count = told.events; full = told.at_end.0 }))
cut_short w d Cut r out out' told part unsent cut few = record { part = part; unsent = unsent }

pub lacks_byte : (d : Description) (script : Script) (ps : List Program) (out out' : Option (List ℕ)) (before now : ℕ) (r : Result Report IntoFault) → RunsInto d (IsReportOfWorld d script ps) out out' before now r
    → IfErr r (λ fault. (report : Report) → fault ≡ into.Sink report → report.whole ≡ false → (IsFullBehind (source_world d script ps) report.events → ⊥) → SentShort out out' (lines d report))
lacks_byte d script ps out out' before now (Ok r) gives = tt
lacks_byte d script ps out out' before now (Err (into.LogFull r)) gives = λ report is. cc
lacks_byte d script ps out out' before now (Err (into.NoMemory r)) gives = λ report is. cc
lacks_byte d script ps out out' before now (Err (into.Sink r)) gives = λ report is.
    let same : r ≡ report = cc in
    let w : World = source_world d script ps in
    let left = gives.0 in
    subst (λ (x : Report). x.whole ≡ false → (IsFullBehind w x.events → ⊥) → SentShort out out' (lines d x)) same
    (cut_short w d left.written.how r out out' left.written.report.run left.written.part left.unsent)
