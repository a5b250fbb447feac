-- The report of a run is one of the world.
use Rattle.std.proofs.Common.{◌≡◌, ℕ, zero, suc, ◌<◌, ◌≤◌, true, false, List, [], ◌∷◌, ◌++◌, length, map, get_or, refl, sym, ◌∙◌, ap, subst, arith, All, append-nil}
use Rattle.std.specs.Prelude.{Option, Some, None, IsSomeAnd, slice_get, option_map, unwrap_or}
use Rattle.std.proofs.lemmas.Option.{slice_get-map, slice_get-get_or}
use Rattle.std.proofs.lemmas.List.{length-map}
use Rattle.mate_num.specs.declared.call.Stamp.{Stamp}
use Rattle.vm_shape.specs.declared.description.Description.{Description}
use Rattle.script_steps.specs.declared.world.World.{World as Script}
use Rattle.mate_journal.specs.Log.{Log}
use Rattle.mate_journal.specs.Journal.{NodeState, journal_of, TimedEntry as Entered}
use Rattle.mate_journal.specs.NodeScript.{RunEnd, Whole, Full, ShowsOnce}
use Rattle.mate_journal.specs.declared.program.Program.{Program}
use Rattle.mate_journal.specs.declared.report.Report.{Report}
use Rattle.node_state.specs.Meaning.{machine_in}
use Rattle.node_state.specs.Keeps.{event_at, IsTimely}
use Rattle.journal_laws.specs.Growth.{FollowsLast}
use Rattle.world_laws.specs.Times.{last_time}
use Rattle.world_state.proofs.RoomLemmas.{next-timely}
use Rattle.node_open.specs.View.{heard_of}
use Rattle.node_open.specs.Journal.{KeepsJournal}
use Rattle.world_rules.specs.World.{World}
use Rattle.world_rules.specs.State.{Moment, state}
use Rattle.world_rules.specs.Run.{HaveCome, IsAtEnd, IsDone, airs, journal, IsJournalOf}
use Rattle.world_rules.specs.Report.{IsLogOf, IsWorldReport}
use Rattle.world_run_laws.specs.Coming.{code_world}
use Rattle.world_state.specs.declared.mote.Mote.{Mote}
use Rattle.world_state.specs.StandingAfter.{IsMoteAfter}
use Rattle.world_state.specs.Reporting.{ShowsOneStore, ShowStores, told_report, mote_logs, AreOfMachine}
use Rattle.world_state.specs.declared.simulation.Simulation.{Simulation}

-- ---- a node's log

kept-right : (d : Description) (script : Script) (ps : List Program) (how : RunEnd) (ms : List Moment) (k : ℕ) (l : Log) → IsJournalOf (code_world d script ps) how ms k (journal_of l) → KeepsJournal d (machine_in d) l → IsLogOf (code_world d script ps) how ms k l
kept-right d script ps how ms k l is keeps = record {
  journal = is;
  right = record { well_formed = keeps.well_formed; serial = keeps.serial; stores = keeps.stores; grants = keeps.grants; devices = keeps.devices };
  tidy = keeps.tidy;
  images = keeps.full;
}

-- as it stands behind the events
full-log : (w : World) (ms : List Moment) (k : ℕ) (m : Mote) → IsMoteAfter w ms k m → IsJournalOf w Full ms k (journal_of m.node.log)
full-log w ms k m is = record { last = []; ends = refl; journal_is = is.journal ∙ sym (append-nil (journal w k ms)) }

-- with its store seen at the end
pub whole-log : (d : Description) (script : Script) (ps : List Program) (ms : List Moment) (at : Stamp) (k : ℕ) (old new : Mote) → at ≡ record { event = suc (length ms); time = script.until } → IsMoteAfter (code_world d script ps) ms k old → ShowsOneStore at old new
    → IsJournalOf (code_world d script ps) Whole ms k (journal_of new.node.log)
whole-log d script ps ms at k old new stamp is shows =
    let turns = shows.tells.paces ((state (code_world d script ps) ms).nodes k).pace is.is.pace in
    let one : ShowsOnce (machine_in d) (heard_of old.node) ((state (code_world d script ps) ms).nodes k).pace shows.tells.told =
    subst (λ (e : Description). ShowsOnce (machine_in e) (heard_of old.node) ((state (code_world d script ps) ms).nodes k).pace shows.tells.told) is.is.description turns.1.0 in
    record {
      last = map (event_at at) shows.tells.told;
      ends = record {
        told = shows.tells.told;
        shown = subst (λ (r : NodeState). ShowsOnce (machine_in d) r ((state (code_world d script ps) ms).nodes k).pace shows.tells.told) is.is.reading one;
        stamped = ap (λ (a : Stamp). map (event_at a) shows.tells.told) stamp;
      };
      journal_is = shows.tells.grows.journal ∙ ap (λ (es : List Entered). es ++ map (event_at at) shows.tells.told) is.journal;
    }

-- ---- all of them

pub some-at : {X : Type 0} (P : X → Type 0) (xs : List X) (k : ℕ) (x : X) → k < length xs → IsSomeAnd (slice_get xs k) P → P (get_or xs k x)
some-at P xs k x below is = subst (λ o. IsSomeAnd o P) (slice_get-get_or xs k x below) is

-- each node is of the machine
pub of-machine : (d : Description) (script : Script) (ps : List Program) (ms : List Moment) (motes : List Mote) → length motes ≡ script.nodes → ((k : ℕ) → k < script.nodes → IsSomeAnd (slice_get motes k) (IsMoteAfter (code_world d script ps) ms k)) → AreOfMachine d motes
of-machine d script ps ms motes count each k x below =
    (some-at (IsMoteAfter (code_world d script ps) ms k) motes k x below (each k (omega (arith, below, count)))).is.description

pub shown-machine : (d : Description) (at : Stamp) (old new : List Mote) → ShowStores at (length old) old new → AreOfMachine d old → AreOfMachine d new
shown-machine d at old new shows are k x below =
    let count = shows.count in
    let low : k < length old = omega (arith, below, count) in
    (shows.each k (get_or old k x) (get_or new k x) low (slice_get-get_or old k x low) (slice_get-get_or new k x below)).tells.description ∙ are k x low

-- an event of the next number may tell on each node, at the world's end
last-within : (w : World) (ms : List Moment) → HaveCome w ms → last_time ms ≤ w.until
last-within w [] come = omega arith
last-within w (m ∷ ms) come = come.1.in_time

pub all-timely : (d : Description) (script : Script) (ps : List Program) (ms : List Moment) (at : Stamp) (motes : List Mote) → HaveCome (code_world d script ps) ms → length motes ≡ script.nodes
    → ((k : ℕ) → k < script.nodes → IsSomeAnd (slice_get motes k) (IsMoteAfter (code_world d script ps) ms k)) → at.event ≡ suc (length ms) → at.time ≡ script.until → All (λ (m : Mote). IsTimely at m.node.log) motes
all-timely d script ps ms at motes come count each number ends k x below =
    let mote = some-at (IsMoteAfter (code_world d script ps) ms k) motes k x below (each k (omega (arith, below, count))) in
    let within = last-within (code_world d script ps) ms come in
    record { after_last = subst (λ (es : List Entered). FollowsLast es at) (sym mote.journal) (next-timely (code_world d script ps) k ms at come number (omega (arith, within, ends))) }

logs-at : (w : World) (how : RunEnd) (ms : List Moment) (motes : List Mote) (k : ℕ) → IsSomeAnd (slice_get motes k) (λ (m : Mote). IsLogOf w how ms k m.node.log) → IsSomeAnd (slice_get (mote_logs motes) k) (IsLogOf w how ms k)
logs-at w how ms motes k is = subst (λ (o : Option Log). IsSomeAnd o (IsLogOf w how ms k)) (sym (slice_get-map (λ (m : Mote). m.node.log) motes k)) (by (slice_get motes k) is) where
  by : (o : Option Mote) → IsSomeAnd o (λ (m : Mote). IsLogOf w how ms k m.node.log) → IsSomeAnd (option_map (λ (m : Mote). m.node.log) o) (IsLogOf w how ms k)
  by None is = is
  by (Some m) is = is

kept-at : (d : Description) (motes : List Mote) (k : ℕ) (m : Mote) → All (KeepsJournal d (machine_in d)) (mote_logs motes) → slice_get motes k ≡ Some m → KeepsJournal d (machine_in d) m.node.log
kept-at d [] k m all is = absurd (none-some is) where
  none-some : None ≡ Some m → ⊥
  none-some e = cc
kept-at d (x ∷ motes) zero m all is = subst (λ (y : Mote). KeepsJournal d (machine_in d) y.node.log) (ap (λ o. unwrap_or o m) is) (all 0 x.node.log (omega arith))
kept-at d (x ∷ motes) (suc k) m all is = kept-at d motes k m (λ j l below. all (suc j) l (omega (arith, below))) is

-- ---- the reports

pub full-report : (d : Description) (script : Script) (ps : List Program) (ms : List Moment) (events : ℕ) (s : Simulation) (r : Report) → HaveCome (code_world d script ps) ms → IsAtEnd (code_world d script ps) Full (state (code_world d script ps) ms)
    → s.radio.air ≡ airs (code_world d script ps) ms → length s.motes.items ≡ script.nodes → ((k : ℕ) → k < script.nodes → IsSomeAnd (slice_get s.motes.items k) (IsMoteAfter (code_world d script ps) ms k)) → events ≡ length ms
    → All (KeepsJournal d (machine_in d)) r.nodes → r ≡ told_report s events false → IsWorldReport (code_world d script ps) Full r
full-report d script ps ms events s r come ends air count each number keeps is = record {
  moments = ms;
  come = come;
  at_end = ends;
  air = ap (λ (q : Report). q.air) is ∙ air;
  nodes = ap (λ (q : Report). length q.nodes) is ∙ length-map s.motes.items (λ (m : Mote). m.node.log) ∙ count;
  logs = λ k below. subst (λ (ls : List Log). IsSomeAnd (slice_get ls k) (IsLogOf (code_world d script ps) Full ms k)) (sym (ap (λ (q : Report). q.nodes) is))
      (logs-at (code_world d script ps) Full ms s.motes.items k (by k (slice_get s.motes.items k) refl (each k below)));
  whole = ap (λ (q : Report). q.whole) is;
  events = ap (λ (q : Report). q.events) is ∙ number;
} where
  by : (k : ℕ) (o : Option Mote) → slice_get s.motes.items k ≡ o → IsSomeAnd o (IsMoteAfter (code_world d script ps) ms k) → IsSomeAnd o (λ (m : Mote). IsLogOf (code_world d script ps) Full ms k m.node.log)
  by k None found none = none
  by k (Some m) found mote =
      kept-right d script ps Full ms k m.node.log (full-log (code_world d script ps) ms k m mote)
      (kept-at d s.motes.items k m (subst (λ (ls : List Log). All (KeepsJournal d (machine_in d)) ls) (ap (λ (q : Report). q.nodes) is) keeps) found)

pub whole-report : (d : Description) (script : Script) (ps : List Program) (ms : List Moment) (events : ℕ) (at : Stamp) (old : List Mote) (s : Simulation) (r : Report) → HaveCome (code_world d script ps) ms → IsDone (state (code_world d script ps) ms) script.until
    → s.radio.air ≡ airs (code_world d script ps) ms → length old ≡ script.nodes → ((k : ℕ) → k < script.nodes → IsSomeAnd (slice_get old k) (IsMoteAfter (code_world d script ps) ms k)) → events ≡ length ms
    → at ≡ record { event = suc (length ms); time = script.until } → ShowStores at (length old) old s.motes.items → All (KeepsJournal d (machine_in d)) r.nodes → r ≡ told_report s events true → IsWorldReport (code_world d script ps) Whole r
whole-report d script ps ms events at old s r come ends air count each number stamp shows keeps is = record {
  moments = ms;
  come = come;
  at_end = ends;
  air = ap (λ (q : Report). q.air) is ∙ air;
  nodes = ap (λ (q : Report). length q.nodes) is ∙ length-map s.motes.items (λ (m : Mote). m.node.log) ∙ shows.count ∙ count;
  logs = λ k below. subst (λ (ls : List Log). IsSomeAnd (slice_get ls k) (IsLogOf (code_world d script ps) Whole ms k)) (sym (ap (λ (q : Report). q.nodes) is))
      (logs-at (code_world d script ps) Whole ms s.motes.items k (by k (slice_get old k) (slice_get s.motes.items k) below refl refl (each k below)));
  whole = ap (λ (q : Report). q.whole) is;
  events = ap (λ (q : Report). q.events) is ∙ number;
} where
  by : (k : ℕ) (o n : Option Mote) → k < script.nodes → slice_get old k ≡ o → slice_get s.motes.items k ≡ n → IsSomeAnd o (IsMoteAfter (code_world d script ps) ms k) → IsSomeAnd n (λ (m : Mote). IsLogOf (code_world d script ps) Whole ms k m.node.log)
  by k None n below was found none = absurd none
  by k (Some a) None below was found mote = absurd (missing k below found) where
    missing : (k : ℕ) → k < script.nodes → slice_get s.motes.items k ≡ None → ⊥
    missing k below none = let low : k < length s.motes.items = omega (arith, below, shows.count, count) in let some = slice_get-get_or s.motes.items k a low in let clash : None ≡ Some (get_or s.motes.items k a) = sym none ∙ some in cc
  by k (Some a) (Some b) below was found mote =
      kept-right d script ps Whole ms k b.node.log (whole-log d script ps ms at k a b stamp mote (shows.each k a b (omega (arith, below, count)) was found))
      (kept-at d s.motes.items k b (subst (λ (ls : List Log). All (KeepsJournal d (machine_in d)) ls) (ap (λ (q : Report). q.nodes) is) keeps) found)
