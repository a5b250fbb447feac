-- What the nodes and the radio of a world have at hand, and its lines.
use Rattle.std.proofs.Common.{◌≡◌, ◌<◌, ◌+◌, ◌-◌, ℕ, List, [], length, drop, Option, Some, Result, refl, sym, ◌∙◌, ap, subst, arith, inl, inr, ◌⊎◌}
use Rattle.std.specs.Prelude.{slice_get, unwrap_or}
use Rattle.std.specs.List.{AllZip}
use Rattle.std.proofs.lemmas.List.{length-set}
use Rattle.vm_shape.specs.declared.description.Description.{Description}
use Rattle.mate_files.specs.Sink.{Puts}
use Rattle.mate_files.specs.declared.sink.SinkFault.{SinkFault}
use Rattle.mate_journal.specs.Log.{Log, IsSameLog}
use Rattle.mate_journal.specs.OpenLog.{Gone, OpenView, IsKept}
use Rattle.mate_journal.specs.declared.entry.Stamped.{Stamped}
use Rattle.node_open.proofs.KeptLemmas.{count-kept}
use Rattle.radio_sim.specs.Radio.{Ether}
use Rattle.report_text.proofs.BackLemmas.{all_lines_same}
use Rattle.report_writer.specs.Text.{event_piece, lines}
use Rattle.report_writer.proofs.KeptLines.{piece-kept}
use Rattle.report_writer.proofs.WritingLemmas.{written-as}
use Rattle.world_state.specs.declared.mote.Mote.{Mote}
use Rattle.world_state.specs.Keeping.{LetsGo}
use Rattle.world_state.specs.Reporting.{mote_logs}
use Rattle.world_state.specs.Telling.{report_now, AddsEvent}
use Rattle.world_runs.specs.Writing.{HasWrittenNow}
use Rattle.world_state.specs.declared.simulation.Simulation.{Simulation}
use Rattle.event_queue.proofs.WheelLemmas.{slice_get_set_same}
use Rattle.world_runs.proofs.RecordingLemmas.{go-logs}

-- ---- the lines of what is at hand

module _ (d : Description) (v : OpenView) (kept : Log) (is : IsKept v kept) (node : ℕ) where
  -- the last of them
  pub piece-last : v.gone.entries < length v.all.entries → event_piece d [] kept (length kept.entries - 1) node ≡ event_piece d [] v.all (length v.all.entries - 1) node
  piece-last some =
      let count = count-kept v kept is in
      let e : v.gone.entries + (length kept.entries - 1) ≡ length v.all.entries - 1 = omega (arith, count, some) in
      piece-kept d v kept is node [] (length kept.entries - 1) ∙ ap (λ (n : ℕ). event_piece d [] v.all n node) e

-- ---- the same lines

pub still-written : (d : Description) (old new : Simulation) → AllZip IsSameLog (mote_logs new.motes.items) (mote_logs old.motes.items) → new.radio.air ≡ old.radio.air → (out0 f0 out f : _) → HasWrittenNow d old out0 f0 out f → HasWrittenNow d new out0 f0 out f
still-written d old new logs air out0 f0 out f written =
    written-as (lines d (report_now new)) written (all_lines_same d (report_now new) (report_now old) (record { nodes = logs; air = air; events = refl; whole = refl }))

pub written-still : (old mid : Simulation) (node : ℕ) (go : LetsGo old mid node) (d : Description) (out0 f0 out f : _) → HasWrittenNow d old out0 f0 out f → HasWrittenNow d mid out0 f0 out f
written-still old mid node go d out0 f0 out f written = still-written d old mid (go-logs old mid node go) (ap (λ (e : Ether). e.air) go.radio) out0 f0 out f written

pub left-written : (old mid : Simulation) (node : ℕ) → (mid ≡ old) ⊎ LetsGo old mid node → (d : Description) (out0 f0 out f : _) → HasWrittenNow d old out0 f0 out f → HasWrittenNow d mid out0 f0 out f
left-written old mid node (inl same) d out0 f0 out f written = subst (λ (s : Simulation). HasWrittenNow d s out0 f0 out f) (sym same) written
left-written old mid node (inr go) d out0 f0 out f written = written-still old mid node go d out0 f0 out f written

-- ---- what is at hand behind an event

-- the node and the radio have at hand what they told in the event
pub record AtHandNow (node : ℕ) (mid new : Simulation) (before after : Mote) : Type 0 where
  pub low : node < length new.motes.items
  pub found : slice_get new.motes.items node ≡ Some after
  pub entries : after.node.gone.entries ≡ length before.node.log.entries
  pub air : new.radio.gone ≡ length mid.radio.air

pub at-hand-now : (number node : ℕ) (old mid new : Simulation) (go : LetsGo old mid node) (adds : AddsEvent number mid new node) → AtHandNow node mid new adds.before adds.after
at-hand-now number node old mid new go adds =
    let low = adds.low in
    let long = ap length adds.motes ∙ length-set mid.motes.items node adds.after in
    let mine : go.after ≡ adds.before = ap (λ (o : Option Mote). unwrap_or o go.after) (sym (slice_get_set_same old.motes.items node go.after (was low)) ∙ ap (λ (xs : List Mote). slice_get xs node) (sym go.motes) ∙ adds.found) in
    record {
      low = omega (arith, low, long);
      found = ap (λ (xs : List Mote). slice_get xs node) adds.motes ∙ slice_get_set_same mid.motes.items node adds.after low;
      entries = ap (λ (g : Gone). g.entries) (adds.log_gone ∙ ap (λ (m : Mote). m.node.gone) (sym mine) ∙ go.forgets.gone) ∙ ap (λ (es : List Stamped). length es) (sym go.forgets.log.entries) ∙ ap (λ (m : Mote). length m.node.log.entries) mine;
      air = adds.air_gone ∙ ap (λ (e : Ether). e.gone) go.radio ∙ ap (λ (e : Ether). length e.air) (sym go.radio);
    } where
      was : node < length mid.motes.items → node < length old.motes.items
      was low = let long = ap length go.motes ∙ length-set old.motes.items node go.after in omega (arith, low, long)

pub put-now : (d : Description) (node : ℕ) (mid new : Simulation) {number : ℕ} (adds : AddsEvent number mid new node) → AtHandNow node mid new adds.before adds.after → (out : Option (List ℕ)) (f : ℕ) (out' : Option (List ℕ)) (f' : ℕ) (result : Result (Unit {0}) SinkFault)
    → Puts out f out' f' result (event_piece d (drop new.radio.gone new.radio.air) adds.after.node.log adds.after.node.gone.entries node)
    → Puts out f out' f' result (event_piece d (drop (length mid.radio.air) new.radio.air) adds.after.node.log (length adds.before.node.log.entries) node)
put-now d node mid new adds h out f out' f' result puts =
    let P : ℕ → Type 0 = λ n. Puts out f out' f' result (event_piece d (drop n new.radio.air) adds.after.node.log adds.after.node.gone.entries node) in
    let Q : ℕ → Type 0 = λ n. Puts out f out' f' result (event_piece d (drop (length mid.radio.air) new.radio.air) adds.after.node.log n node) in
    subst Q h.entries (subst P h.air puts)
