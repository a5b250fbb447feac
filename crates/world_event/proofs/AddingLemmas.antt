-- What an event adds to its node's log and to the air.
use Rattle.std.proofs.Common.{◌≡◌, ℕ, suc, ◌<◌, List, ◌∷◌, ◌++◌, length, map, drop, get_or, set, Some, sym, ◌∙◌, ap, subst, arith}
use Rattle.std.proofs.lemmas.Option.{slice_get-get_or}
use Rattle.mate_num.specs.declared.call.Stamp.{Stamp}
use Rattle.mate_journal.specs.Log.{Log, GoesOn}
use Rattle.mate_journal.specs.Journal.{TimedEntry as Entered, journal_of}
use Rattle.journal_laws.proofs.GoesOnLemmas.{GoesOn-journal}
use Rattle.node_state.specs.Keeps.{event_at}
use Rattle.world_laws.proofs.Journals.{journal-here}
use Rattle.world_laws.proofs.Bounds.{airs-more}
use Rattle.mate_journal.specs.Tidy.{NumbersInOrder}
use Rattle.mate_journal.specs.declared.air.Aired.{Aired}
use Rattle.mate_journal.specs.declared.program.Program.{Program}
use Rattle.radio_sim.specs.declared.shared_event.SharedEvent.{SharedEvent}
use Rattle.vm_shape.specs.declared.description.Description.{Description}
use Rattle.world_rules.specs.World.{World}
use Rattle.world_rules.specs.Effect.{event_node}
use Rattle.world_rules.specs.State.{Moment}
use Rattle.radio_sim.specs.Radio.{Ether}
use Rattle.world_rules.specs.Run.{stamp_of, airs, journal}
use Rattle.script_steps.specs.declared.world.World.{World as Script}
use Rattle.world_event.specs.Performing.{MayPerform, Performed}
use Rattle.world_state.specs.declared.mote.Mote.{Mote}
use Rattle.world_laws.specs.EventText.{so_far, TellJournals, AddsLines, EventsAddTheirLines}
use Rattle.world_state.specs.Reporting.{mote_logs}
use Rattle.world_state.specs.Running.{StandsAtNext}
use Rattle.world_state.specs.Telling.{report_now, AddsEvent}
use Rattle.world_state.specs.declared.simulation.Simulation.{Simulation}
use Rattle.world_state.proofs.MotesLemmas.{log-at, long-logs, set-log, tell}

module _ (w : World) (law : EventsAddTheirLines w) (ms : List Moment) (m : Moment) (olds : List Mote) (old_air new_air : List Aired) (number event : ℕ) (x y : Mote) (told : TellJournals w ms (mote_logs olds))
    (low : number < length olds) (found : get_or olds number x ≡ x) (own : event_node w m.cause ≡ number) (x_numbered : NumbersInOrder x.node.log) (y_numbered : NumbersInOrder y.node.log)
    (journal_is : journal_of y.node.log ≡ journal w number (m ∷ ms)) (old_is : old_air ≡ airs w ms) (new_is : new_air ≡ airs w (m ∷ ms)) (stamp : event ≡ suc (length ms)) where
  pub event-adds : AddsLines (so_far (mote_logs olds) old_air) (so_far (mote_logs (set olds number y)) new_air) event (drop (length old_air) new_air) y.node.log (length x.node.log.entries) number
  event-adds =
      let A : List Aired → Type 0 = λ xs. AddsLines (so_far (mote_logs olds) xs) (so_far (mote_logs (set olds number y)) new_air) event (drop (length xs) new_air) y.node.log (length x.node.log.entries) number in
      let B : List Aired → Type 0 = λ xs. AddsLines (so_far (mote_logs olds) (airs w ms)) (so_far (mote_logs (set olds number y)) xs) event (drop (length (airs w ms)) xs) y.node.log (length x.node.log.entries) number in
      let C : List Log → Type 0 = λ ls. AddsLines (so_far (mote_logs olds) (airs w ms)) (so_far ls (airs w (m ∷ ms))) event (drop (length (airs w ms)) (airs w (m ∷ ms))) y.node.log (length x.node.log.entries) number in
      let D : ℕ → Type 0 = λ n. AddsLines (so_far (mote_logs olds) (airs w ms)) (so_far (set (mote_logs olds) number y.node.log) (airs w (m ∷ ms))) n (drop (length (airs w ms)) (airs w (m ∷ ms))) y.node.log (length x.node.log.entries) number in
      let long = long-logs olds in
      subst A (sym old_is) (subst B (sym new_is) (subst C (sym (set-log olds number y)) (subst D (sym stamp)
      (law ms m (mote_logs olds) number x.node.log y.node.log told (omega (arith, low, long)) (log-at olds number x.node.log x low ∙ ap (λ (z : Mote). z.node.log) found) own x_numbered y_numbered journal_is))))

-- the log of its node goes on
event-goes-on : (w : World) (ms : List Moment) (m : Moment) (number : ℕ) (x y : Log) → event_node w m.cause ≡ number → journal_of x ≡ journal w number ms → journal_of y ≡ journal w number (m ∷ ms)
    → NumbersInOrder x → NumbersInOrder y → GoesOn x y
event-goes-on w ms m number x y own was is xn yn =
    let more : List Entered = map (event_at (stamp_of m ms)) m.told in
    let here : journal w number (m ∷ ms) ≡ journal w number ms ++ more = subst (λ (k : ℕ). journal w k (m ∷ ms) ≡ journal w k ms ++ more) own (journal-here w m ms) in
    GoesOn-journal x y more xn yn (is ∙ here ∙ ap (λ (es : List Entered). es ++ more) (sym was))

-- and so does the air
event-airs : (w : World) (ms : List Moment) (m : Moment) (old new : List Aired) → old ≡ airs w ms → new ≡ airs w (m ∷ ms) → new ≡ old ++ drop (length old) new
event-airs w ms m old new was is =
    let P : List Aired → Type 0 = λ xs. new ≡ xs ++ drop (length xs) new in
    let Q : List Aired → Type 0 = λ ys. ys ≡ airs w ms ++ drop (length (airs w ms)) ys in
    subst P (sym was) (subst Q (sym is) (airs-more w m ms))

-- an event's lines, on the node that it came to
pub piece-adds : (w : World) (law : EventsAddTheirLines w) (d : Description) (script : Script) (ps : List Program) (e : SharedEvent) (at : Stamp) (s : Simulation) (number : ℕ) (x y : Mote) (radio : Ether)
    (b : StandsAtNext w e at s) → (may : MayPerform w b.moments b.cause number e at s.radio x) → (p : Performed w b.moments b.cause number at s.radio radio x y) → number < length s.motes.items → NumbersInOrder x.node.log → NumbersInOrder y.node.log
    → get_or s.motes.items number x ≡ x → (new : Simulation) → new.radio ≡ radio → new.motes.items ≡ set s.motes.items number y → AddsEvent at.event s new number
piece-adds w law d script ps e at s number x y radio b may p low xn yn found new radio_is motes_is =
    let own : event_node w p.moment.cause ≡ number = ap (event_node w) p.cause ∙ may.node in
    let adds = event-adds w law b.moments p.moment s.motes.items s.radio.air radio.air number at.event x y (tell w b.moments s.motes.items w.nodes b.nodes b.motes) low found own xn yn p.mote.journal may.air p.radio.air may.stamp in
    let S : List Mote → Type 0 = λ ms. AddsLines (report_now s) (so_far (mote_logs ms) radio.air) at.event (drop (length s.radio.air) radio.air) y.node.log (length x.node.log.entries) number in
    let T : Ether → Type 0 = λ r. AddsLines (report_now s) (so_far (mote_logs new.motes.items) r.air) at.event (drop (length s.radio.air) r.air) y.node.log (length x.node.log.entries) number in
    record {
      before = x;
      after = y;
      found = slice_get-get_or s.motes.items number x low ∙ ap (λ (m : Mote). Some m) found;
      low = low;
      motes = motes_is;
      log_gone = p.log_gone;
      air_gone = ap (λ (r : Ether). r.gone) radio_is ∙ p.air_gone;
      goes_on = event-goes-on w b.moments p.moment number x.node.log y.node.log own may.mote.journal p.mote.journal xn yn;
      air_goes_on = subst (λ (r : Ether). r.air ≡ s.radio.air ++ drop (length s.radio.air) r.air) (sym radio_is) (event-airs w b.moments p.moment s.radio.air radio.air may.air p.radio.air);
      adds = subst T (sym radio_is) (subst S (sym motes_is) adds);
    }
