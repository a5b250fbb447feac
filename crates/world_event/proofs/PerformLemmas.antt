-- One event, by what its calls did.
use Rattle.std.proofs.Common.{◌≡◌, ℕ, List, ◌∷◌, ◌++◌, length, map, refl, sym, ◌∙◌, ap, subst}
use Rattle.mate_num.specs.declared.call.Stamp.{Stamp}
use Rattle.mate_journal.specs.Journal.{JournalEntry, NodeState, state_after_entries, journal_of, TimedEntry as Entered}
use Rattle.mate_journal.specs.Pace.{Pace, paced_all}
use Rattle.mate_journal.specs.Turns.{Settles}
use Rattle.mate_journal.specs.declared.air.Aired.{Aired}
use Rattle.mate_journal.specs.declared.program.Program.{Program}
use Rattle.node_state.specs.Meaning.{machine_in}
use Rattle.node_state.specs.Keeps.{event_at}
use Rattle.node_open.specs.View.{NodeView, heard_of, HasPace, Tells}
use Rattle.script_steps.specs.declared.world.World.{World as Script}
use Rattle.vm_shape.specs.declared.description.Description.{Description}
use Rattle.radio_sim.specs.declared.shared_event.SharedEvent.{SharedEvent}
use Rattle.radio_sim.specs.Radio.{Ether}
use Rattle.journal_laws.specs.Waiting.{WaitApart, AreAwaited}
use Rattle.world_rules.specs.Cause.{Cause}
use Rattle.world_rules.specs.World.{World}
use Rattle.world_rules.specs.Effect.{Node, event_node, node_effect}
use Rattle.world_rules.specs.State.{Moment, WorldState, state, air_made, node_after}
use Rattle.world_rules.specs.Run.{MayCome, DeedMakes, stamp_of, airs, journal}
use Rattle.world_laws.proofs.Points.{nodes-here}
use Rattle.world_laws.proofs.Journals.{journal-here}
use Rattle.world_air.specs.Air.{aired_at}
use Rattle.world_run_laws.specs.Coming.{code_world}
use Rattle.world_state.specs.Standing.{IsMoteOf, IsTakenFrom}
use Rattle.world_event.specs.Handling.{Handled}
use Rattle.world_state.specs.declared.effect.Effect.{Effect}
use Rattle.world_state.specs.declared.mote.Mote.{Mote}
use Rattle.node_open.specs.Calls.{told_from}
use Rattle.world_event.specs.Finishing.{HasSettled, IsFinished}
use Rattle.world_state.specs.StandingAfter.{IsRadioAfter, IsMoteAfter}
use Rattle.world_event.specs.Performing.{MayPerform, Performed}
use Rattle.world_event.proofs.NeedLemmas.{mote-at}
use Rattle.world_event.proofs.DeedLemmas.{deed-quiet}
use Rattle.world_event.proofs.ToldLemmas.{tells-heard, told-behind, heard-both, journal-both}

-- ---- the moment

-- what came: the node's own part, and then its turns
abbrev pub came : ℕ → Cause → List JournalEntry → List JournalEntry → Pace → Moment
came time c front rest pace = record { time = time; cause = c; told = front ++ rest; pace = pace }

module _ (d : Description) (script : Script) (ps : List Program) (ms : List Moment) (c : Cause) (at : Stamp) (event : SharedEvent) (number : ℕ) (old : Ether) (x0 x1 : Mote) (r : Effect) (v : NodeView)
    (may : MayPerform (code_world d script ps) ms c number event at old x0)
    (mote : IsMoteAfter (code_world d script ps) ms (event_node (code_world d script ps) c) x0)
    (handled : Handled (code_world d script ps) (event_node (code_world d script ps) c) ((state (code_world d script ps) ms).nodes (event_node (code_world d script ps) c)) c at x0 x1 r)
    (settled : Tells x1.node v at (Settles (machine_in x1.node.description) (heard_of x1.node)))
    (apart : WaitApart (heard_of v)) (awaited : AreAwaited (heard_of v) (told_from (length x1.node.log.entries) v.log))
    (p q : Pace) (made : DeedMakes (machine_in d) (node_effect (code_world d script ps) ((state (code_world d script ps) ms).nodes (event_node (code_world d script ps) c)) c).deed
    ((state (code_world d script ps) ms).nodes (event_node (code_world d script ps) c)).reading ((state (code_world d script ps) ms).nodes (event_node (code_world d script ps) c)).pace handled.tells.told)
    (paced : p ≡ paced_all ((state (code_world d script ps) ms).nodes (event_node (code_world d script ps) c)).pace handled.tells.told)
    (turned : Settles (machine_in x1.node.description) (heard_of x1.node) p settled.told q) (has : HasPace v q) where
  abbrev w : World
  w = code_world d script ps

  abbrev s : WorldState
  s = state (code_world d script ps) ms

  abbrev k : ℕ
  k = event_node (code_world d script ps) c

  abbrev n : Node
  n = (state (code_world d script ps) ms).nodes (event_node (code_world d script ps) c)

  abbrev m : Moment
  m = came at.time c handled.tells.told settled.told q

  description_is : x1.node.description ≡ d
  description_is = handled.tells.description ∙ mote.is.description

  heard-before : heard_of x1.node ≡ state_after_entries (machine_in d) n.reading handled.tells.told
  heard-before =
      tells-heard x0.node x1.node at _ handled.tells
      ∙ ap (λ (e : Description). state_after_entries (machine_in e) (heard_of x0.node) handled.tells.told) mote.is.description
      ∙ ap (λ (h : NodeState). state_after_entries (machine_in d) h handled.tells.told) mote.is.reading

  heard-after : heard_of v ≡ state_after_entries (machine_in d) n.reading (handled.tells.told ++ settled.told)
  heard-after =
      heard-both x0.node x1.node v at _ _ handled.tells settled
      ∙ ap (λ (e : Description). state_after_entries (machine_in e) (heard_of x0.node) (handled.tells.told ++ settled.told)) mote.is.description
      ∙ ap (λ (h : NodeState). state_after_entries (machine_in d) h (handled.tells.told ++ settled.told)) mote.is.reading

  turns : Settles (machine_in d) (state_after_entries (machine_in d) n.reading handled.tells.told) p settled.told q
  turns =
      subst (λ (h : NodeState). Settles (machine_in d) h p settled.told q) heard-before
      (subst (λ (e : Description). Settles (machine_in e) (heard_of x1.node) p settled.told q) description_is turned)

  comes : MayCome w s m
  comes = record {
    room = may.room;
    next = may.next;
    in_time = may.in_time;
    makes = record {
      front = handled.tells.told;
      rest = settled.told;
      made = refl;
      by_first = made;
      by_second = subst (λ (u : Pace). Settles (machine_in d) (state_after_entries (machine_in d) n.reading handled.tells.told) u settled.told q) paced turns;
    };
  }

  has-settled : HasSettled w s m (length x1.node.log.entries) (record x1 { node = v }) r
  has-settled = record {
    front = handled.tells.told;
    quiet = deed-quiet (machine_in d) (node_effect w n c).deed n.reading n.pace handled.tells.told made;
    told = ap (λ (ts : List JournalEntry). handled.tells.told ++ ts) (sym (told-behind x1.node.log v.log at settled.told settled.grows));
    reading = heard-after;
    timer = handled.timer;
    exchange = handled.exchange;
    pumps = handled.pumps;
    calls = handled.calls;
    effect = handled.effect;
    apart = apart;
    awaited = awaited;
  }

  taken-so : IsTakenFrom w s m old
  taken-so = record { due = may.taken.due; near = may.taken.near; until = may.taken.until; now = may.taken.now; stands = may.taken.stands }

  -- ---- behind it

  stamp_is : at ≡ stamp_of m ms
  stamp_is = λ i. record { event = may.stamp i; time = at.time }

  module _ (new : Ether) (x4 : Mote) (finished : IsFinished w s m at old new (record x1 { node = v }) x4) where
    radio-after : IsRadioAfter w (m ∷ ms) new
    radio-after = record {
      due = finished.due;
      until = finished.until ∙ may.taken.until;
      now = finished.now ∙ may.taken.now;
      air =
          finished.air ∙ ap (λ (rs : List Aired). rs ++ map (aired_at at k) (air_made w s m)) may.air
          ∙ ap (λ (a : Stamp). airs w ms ++ map (aired_at a k) (air_made w s m)) stamp_is;
      stands = finished.stands;
      fit = (may.fit, finished.fit);
    }

    is-after : IsMoteOf w k (node_after w n m) x4
    is-after =
        let node : x4.node ≡ v = ap (λ (x : Mote). x.node) finished.same in
        record {
          description = ap (λ (u : NodeView). u.description) node ∙ settled.description ∙ description_is;
          reading = ap heard_of node ∙ heard-after;
          pace = subst (λ (u : NodeView). HasPace u q) (sym node) has;
          timer = ap (λ (x : Mote). x.timer) finished.same ∙ handled.timer;
          exchange = ap (λ (x : Mote). x.exchange) finished.same ∙ handled.exchange;
          pumps = finished.pumps;
          calls = finished.calls;
        }

    journal-after : journal_of x4.node.log ≡ journal w k (m ∷ ms)
    journal-after =
        ap (λ (x : Mote). journal_of x.node.log) finished.same
        ∙ journal-both x0.node x1.node v at _ _ handled.tells settled
        ∙ ap (λ (es : List Entered). es ++ map (event_at at) (handled.tells.told ++ settled.told)) mote.journal
        ∙ ap (λ (a : Stamp). journal w k ms ++ map (event_at a) (handled.tells.told ++ settled.told)) stamp_is
        ∙ sym (journal-here w m ms)

    performed : Performed w ms c number at old new x0 x4
    performed = record {
      moment = m;
      time = refl;
      cause = refl;
      may = comes;
      radio = radio-after;
      mote =
          subst (λ (j : ℕ). IsMoteAfter w (m ∷ ms) j x4) may.node
          (record { is = subst (λ (x : Node). IsMoteOf w k x x4) (sym (nodes-here w s m)) is-after; journal = journal-after });
      air_gone = finished.gone;
      log_gone = ap (λ (x : Mote). x.node.gone) finished.same ∙ settled.gone ∙ handled.tells.gone;
    }

pub performed-by : (d : Description) (script : Script) (ps : List Program) (ms : List Moment) (c : Cause) (at : Stamp) (event : SharedEvent) (number : ℕ) (old new : Ether) (x0 x1 x4 : Mote) (r : Effect) (v : NodeView)
    → MayPerform (code_world d script ps) ms c number event at old x0
    → (handled : Handled (code_world d script ps) (event_node (code_world d script ps) c) ((state (code_world d script ps) ms).nodes (event_node (code_world d script ps) c)) c at x0 x1 r)
    → (settled : Tells x1.node v at (Settles (machine_in x1.node.description) (heard_of x1.node)))
    → WaitApart (heard_of v) → AreAwaited (heard_of v) (told_from (length x1.node.log.entries) v.log)
    → ((q : Pace) → IsTakenFrom (code_world d script ps) (state (code_world d script ps) ms) (came at.time c handled.tells.told settled.told q) old
    → HasSettled (code_world d script ps) (state (code_world d script ps) ms) (came at.time c handled.tells.told settled.told q) (length x1.node.log.entries) (record x1 { node = v }) r
    → IsFinished (code_world d script ps) (state (code_world d script ps) ms) (came at.time c handled.tells.told settled.told q) at old new (record x1 { node = v }) x4)
    → Performed (code_world d script ps) ms c number at old new x0 x4
performed-by d script ps ms c at event number old new x0 x1 x4 r v may handled settled apart awaited says =
    let mote = mote-at (code_world d script ps) ms c number event at old x0 may in
    let first = handled.tells.paces ((state (code_world d script ps) ms).nodes (event_node (code_world d script ps) c)).pace mote.is.pace in
    let later = settled.paces first.0 first.2 in
    performed d script ps ms c at event number old x0 x1 r v may mote handled settled apart awaited first.0 later.0 first.1.0 first.1.1 later.1 later.2 new x4
    (says later.0 (taken-so d script ps ms c at event number old x0 x1 r v may mote handled settled apart awaited first.0 later.0 first.1.0 first.1.1 later.1 later.2)
    (has-settled d script ps ms c at event number old x0 x1 r v may mote handled settled apart awaited first.0 later.0 first.1.0 first.1.1 later.1 later.2))
