-- One event more of a run.
use Rattle.std.proofs.Common.{◌≡◌, ◌≢◌, ℕ, ◌+◌, ◌<◌, List, ◌∷◌, length, map, set, get_or, refl, sym, ◌∙◌, ap, subst, arith, inl, inr, length-append}
use Rattle.std.specs.Prelude.{Option, Some, None, IsSomeAnd, slice_get, option_map}
use Rattle.std.specs.Option.{option_map_or}
use Rattle.std.proofs.lemmas.Bool.{cases_eq}
use Rattle.std.proofs.lemmas.Option.{slice_get-map, slice_get-get_or}
use Rattle.std.proofs.lemmas.List.{length-map, length-set}
use Rattle.mate_num.specs.declared.call.Stamp.{Stamp}
use Rattle.vm_shape.specs.declared.description.Description.{Description}
use Rattle.script_steps.specs.declared.world.World.{World as Script}
use Rattle.script_steps.specs.declared.world.Planned.{Planned}
use Rattle.mate_journal.specs.Log.{Log}
use Rattle.mate_journal.specs.Journal.{journal_of, journal_entry, first_state, TimedEntry as Entered}
use Rattle.mate_journal.specs.WellFormed.{IsWellFormed}
use Rattle.mate_journal.specs.NodeScript.{records_max}
use Rattle.mate_journal.specs.Machine.{HeldProgram}
use Rattle.mate_journal.specs.declared.entry.Stamped.{Stamped}
use Rattle.mate_journal.specs.declared.air.Aired.{Aired}
use Rattle.mate_journal.specs.declared.program.Program.{Program}
use Rattle.node_programs.specs.ScriptSteps.{program_at}
use Rattle.node_state.specs.Keeps.{event_at}
use Rattle.node_state.specs.Meaning.{machine_in}
use Rattle.node_open.specs.View.{NodeView}
use Rattle.node_open.specs.Journal.{KeepsJournal}
use Rattle.radio_sim.specs.declared.shared_event.SharedEvent.{SharedEvent}
use Rattle.radio_sim.specs.Radio.{Ether}
use Rattle.world_rules.specs.Cause.{Cause}
use Rattle.world_rules.specs.Cause as event
use Rattle.world_rules.specs.World.{World, PlannedLine, line_planned}
use Rattle.world_rules.specs.Effect.{Node, event_node}
use Rattle.world_rules.specs.State.{Moment, state, air_made}
use Rattle.world_rules.specs.Run.{stamp_of, airs, journal}
use Rattle.world_laws.proofs.Points.{nodes-other}
use Rattle.world_laws.proofs.Journals.{journal-here, journal-other}
use Rattle.world_air.specs.Air.{radio_event, aired_at}
use Rattle.world_run_laws.specs.Coming.{code_world, IsExpected}
use Rattle.world_run_laws.specs.Sound.{HasWellFormed, NextMayCome, AreOfNodes, DuesAreOfNodes}
use Rattle.world_state.specs.Standing.{IsMoteOf}
use Rattle.world_state.specs.declared.mote.Mote.{Mote}
use Rattle.world_state.specs.StandingAfter.{IsMoteAfter}
use Rattle.world_event.specs.Performing.{MayPerform, Performed}
use Rattle.world_state.specs.Running.{StandsAfter, StandsAtNext}
use Rattle.world_event.specs.Placing.{NamesPart, named_node}
use Rattle.world_state.specs.declared.simulation.Simulation.{Simulation}
use Rattle.event_queue.proofs.WheelLemmas.{slice_get_set_same, slice_get_set_other}

-- ---- which node

node-some : (f : ℕ → HeldProgram) (o : Option Planned) → option_map_or (λ (p : Planned). p.node) o 0 ≡ option_map_or (λ (l : PlannedLine). l.node) (option_map (line_planned f) o) 0
node-some f None = refl
node-some f (Some p) = refl

pub named-is : (d : Description) (script : Script) (ps : List Program) (c : Cause) (e : SharedEvent) → radio_event (code_world d script ps) c ≡ e → named_node script e ≡ event_node (code_world d script ps) c
named-is d script ps c e is = ap (named_node script) (sym is) ∙ by c where
  by : (c : Cause) → named_node script (radio_event (code_world d script ps) c) ≡ event_node (code_world d script ps) c
  by (event.Planned line) = node-some (program_at ps) (slice_get script.events line) ∙ ap (λ (o : Option PlannedLine). option_map_or (λ (l : PlannedLine). l.node) o 0) (sym (slice_get-map (line_planned (program_at ps)) script.events line))
  by (event.Period node h) = refl
  by (event.Fire node) = refl
  by (event.Expire node) = refl
  by (event.Pump node) = refl
  by (event.Due node context inv value) = refl
  by (event.Deliver link number packet) = refl

pub names-part : (d : Description) (script : Script) (ps : List Program) (n : Node) (time : ℕ) (c : Cause) (e : SharedEvent) → radio_event (code_world d script ps) c ≡ e → IsExpected (code_world d script ps) n time c → NamesPart script e
names-part d script ps n time c e is expected = subst (NamesPart script) is (by c expected) where
  by : (c : Cause) → IsExpected (code_world d script ps) n time c → NamesPart script (radio_event (code_world d script ps) c)
  by (event.Planned line) x = subst (λ (k : ℕ). line < k) (length-map script.events (line_planned (program_at ps))) x
  by (event.Period node h) x = tt
  by (event.Fire node) x = tt
  by (event.Expire node) x = tt
  by (event.Pump node) x = tt
  by (event.Due node context inv value) x = tt
  by (event.Deliver link number packet) x = x.0

-- what comes next is of a node of the world
pub record IsPlaced (d : Description) (script : Script) (ps : List Program) (e : SharedEvent) : Type 0 where
  pub names : NamesPart script e
  pub low : named_node script e < script.nodes

pub placed : (d : Description) (script : Script) (ps : List Program) (e : SharedEvent) (at : Stamp) (s : Simulation) → NextMayCome (code_world d script ps) → DuesAreOfNodes (code_world d script ps)
    → StandsAtNext (code_world d script ps) e at s → IsPlaced d script ps e
placed d script ps e at s next dues b =
    let low : event_node (code_world d script ps) b.cause < script.nodes = first-low (code_world d script ps) ((state (code_world d script ps) b.moments).due at.time) b.cause b.next.others b.next.due (dues b.moments at.time b.come b.in_time) in
    let comes = next b.moments at.time b.cause b.come b.fit (b.well_formed (event_node (code_world d script ps) b.cause) low) b.next b.in_time in
    record {
      names = names-part d script ps ((state (code_world d script ps) b.moments).nodes (event_node (code_world d script ps) b.cause)) at.time b.cause e b.is comes.2.expected;
      low = subst (λ (k : ℕ). k < script.nodes) (sym (named-is d script ps b.cause e b.is)) low;
    } where
      first-low : (w : World) (cs : List Cause) (c : Cause) (others : List Cause) → cs ≡ c ∷ others → AreOfNodes w cs → event_node w c < w.nodes
      first-low w cs c others is are = (subst (AreOfNodes w) is are).0

-- the event of the node's number may be performed
may-perform : (d : Description) (script : Script) (ps : List Program) (e : SharedEvent) (at : Stamp) (s : Simulation) (number : ℕ) (x : Mote) (b : StandsAtNext (code_world d script ps) e at s) → number ≡ named_node script e → number < script.nodes
    → slice_get s.motes.items number ≡ Some x → MayPerform (code_world d script ps) b.moments b.cause number e at s.radio x
may-perform d script ps e at s number x b is low found = record {
  come = b.come;
  next = b.next;
  in_time = b.in_time;
  room = subst (λ (n : ℕ). n < records_max) b.records b.room;
  cause = b.is;
  node = sym (is ∙ named-is d script ps b.cause e b.is);
  stamp = b.stamp;
  taken = b.taken;
  air = b.air;
  fit = b.fit;
  mote = subst (λ (o : Option Mote). IsSomeAnd o (IsMoteAfter (code_world d script ps) b.moments number)) found (b.motes number low);
}

found-at : (motes : List Mote) (from number : ℕ) (x : Mote) → from ≡ number → number < length motes → x ≡ get_or motes from x → slice_get motes number ≡ Some x
found-at motes from number x same below is = slice_get-get_or motes number x below ∙ ap (λ (y : Mote). Some y) (ap (λ (n : ℕ). get_or motes n x) (sym same) ∙ sym is)

-- the mote at the event's node, on which the event may be performed
pub record IsOfMote (d : Description) (script : Script) (ps : List Program) (e : SharedEvent) (at : Stamp) (s : Simulation) (number : ℕ) (x : Mote) (b : StandsAtNext (code_world d script ps) e at s) : Type 0 where
  pub low : number < script.nodes
  pub may : MayPerform (code_world d script ps) b.moments b.cause number e at s.radio x

pub of-mote : (d : Description) (script : Script) (ps : List Program) (e : SharedEvent) (at : Stamp) (s : Simulation) (from number : ℕ) (x : Mote) → NextMayCome (code_world d script ps) → DuesAreOfNodes (code_world d script ps)
    → (b : StandsAtNext (code_world d script ps) e at s) → number ≡ named_node script e → from ≡ number → x ≡ get_or s.motes.items from x → IsOfMote d script ps e at s number x b
of-mote d script ps e at s from number x next dues b is same found =
    let below = (placed d script ps e at s next dues b).low in
    let count = b.nodes in
    let low : number < script.nodes = omega (arith, below, is) in
    record { low = low; may = may-perform d script ps e at s number x b is low (found-at s.motes.items from number x same (omega (arith, low, count)) found) }

-- ---- how much more stands

journal-longer : (w : World) (m : Moment) (before : List Moment) → length (journal w (event_node w m.cause) (m ∷ before)) ≡ length (journal w (event_node w m.cause) before) + length m.told
journal-longer w m before =
    let here = ap (λ (es : List Entered). length es) (journal-here w m before) in
    let long = length-append (journal w (event_node w m.cause) before) (map (event_at (stamp_of m before)) m.told) in
    let told = length-map m.told (event_at (stamp_of m before)) in omega (arith, here, long, told)

long-log : (l : Log) → length (journal_of l) ≡ length l.entries
long-log l = length-map l.entries (λ (e : Stamped). let v : Entered = record { stamp = e.stamp; told = journal_entry l e.entry } in v)

-- the node told this more, and this more stands on the air
pub record HasMore (w : World) (ms : List Moment) (m : Moment) (told aired : ℕ) (old new : Mote) (e f : Ether) : Type 0 where
  pub told_more : length new.node.log.entries ≡ length old.node.log.entries + told
  pub aired_more : length f.air ≡ length e.air + aired
  pub records : (state w (m ∷ ms)).records ≡ (state w ms).records + (told + aired)

pub has-more : (w : World) (ms : List Moment) (c : Cause) (number : ℕ) (event : SharedEvent) (at : Stamp) (e f : Ether) (old new : Mote) → MayPerform w ms c number event at e old → (p : Performed w ms c number at e f old new)
    → HasMore w ms p.moment (length p.moment.told) (length (air_made w (state w ms) p.moment)) old new e f
has-more w ms c number event at e f old new may p = record {
  told_more =
      let was = long-log old.node.log in
      let is = long-log new.node.log in
      let before = ap (λ (es : List Entered). length es) may.mote.journal in
      let after = ap (λ (es : List Entered). length es) p.mote.journal in
      let own : event_node w p.moment.cause ≡ number = ap (event_node w) p.cause ∙ may.node in
      let more = subst (λ (k : ℕ). length (journal w k (p.moment ∷ ms)) ≡ length (journal w k ms) + length p.moment.told) own (journal-longer w p.moment ms) in
      omega (arith, was, is, before, after, more);
  aired_more =
      let before = ap (λ (rs : List Aired). length rs) may.air in
      let after = ap (λ (rs : List Aired). length rs) p.radio.air in
      let long = length-append (airs w ms) (map (aired_at (stamp_of p.moment ms) (event_node w p.moment.cause)) (air_made w (state w ms) p.moment)) in
      let made = length-map (air_made w (state w ms) p.moment) (aired_at (stamp_of p.moment ms) (event_node w p.moment.cause)) in
      omega (arith, before, after, long, made);
  records = omega arith;
}

-- ---- behind the event

other-mote : (w : World) (m : Moment) (ms : List Moment) (k : ℕ) (x : Mote) → k ≢ event_node w m.cause → IsMoteAfter w ms k x → IsMoteAfter w (m ∷ ms) k x
other-mote w m ms k x other was = record {
  is = subst (λ (n : Node). IsMoteOf w k n x) (sym (nodes-other w (state w ms) m k other)) was.is;
  journal = was.journal ∙ sym (journal-other w k m ms other);
}

some-other : (w : World) (m : Moment) (ms : List Moment) (k : ℕ) (o : Option Mote) → k ≢ event_node w m.cause → IsSomeAnd o (IsMoteAfter w ms k) → IsSomeAnd o (IsMoteAfter w (m ∷ ms) k)
some-other w m ms k None other was = absurd was
some-other w m ms k (Some x) other was = other-mote w m ms k x other was

pub stands-after : (d : Description) (script : Script) (ps : List Program) (e : SharedEvent) (at : Stamp) (s new : Simulation) (number : ℕ) (x y : Mote) (b : StandsAtNext (code_world d script ps) e at s) → number < script.nodes
    → MayPerform (code_world d script ps) b.moments b.cause number e at s.radio x → (p : Performed (code_world d script ps) b.moments b.cause number at s.radio new.radio x y)
    → HasWellFormed (code_world d script ps) number (p.moment ∷ b.moments)
    → new.motes.items ≡ set s.motes.items number y → new.records ≡ (state (code_world d script ps) (p.moment ∷ b.moments)).records → StandsAfter (code_world d script ps) at.event new
stands-after d script ps e at s new number x y b low may p well motes records =
    let own : event_node (code_world d script ps) p.moment.cause ≡ number = ap (event_node (code_world d script ps)) p.cause ∙ may.node in record {
      moments = p.moment ∷ b.moments;
      come = (b.come, p.may);
      count = sym b.stamp;
      radio = p.radio;
      nodes = ap (λ (ms : List Mote). length ms) motes ∙ length-set s.motes.items number y ∙ b.nodes;
      motes = λ k below. subst (λ (ms : List Mote). IsSomeAnd (slice_get ms k) (IsMoteAfter (code_world d script ps) (p.moment ∷ b.moments) k)) (sym motes) (elim (cases_eq k number) [
        | inl same ↦
            subst (λ (o : Option Mote). IsSomeAnd o (IsMoteAfter (code_world d script ps) (p.moment ∷ b.moments) k))
            (sym (ap (slice_get (set s.motes.items number y)) same ∙ slice_get_set_same s.motes.items number y (let long = b.nodes in omega (arith, low, long))))
            (subst (λ (j : ℕ). IsMoteAfter (code_world d script ps) (p.moment ∷ b.moments) j y) (sym same) p.mote)
        | inr other ↦
            subst (λ (o : Option Mote). IsSomeAnd o (IsMoteAfter (code_world d script ps) (p.moment ∷ b.moments) k)) (sym (slice_get_set_other s.motes.items number k y other))
            (some-other (code_world d script ps) p.moment b.moments k (slice_get s.motes.items k) (λ is. other (is ∙ own)) (b.motes k below))
      ]);
      records = records;
      well_formed = λ k below. elim (cases_eq k number) [
        | inl same ↦ subst (λ (j : ℕ). HasWellFormed (code_world d script ps) j (p.moment ∷ b.moments)) (sym same) well
        | inr other ↦ subst (λ (es : List Entered). IsWellFormed (code_world d script ps).machine (first_state (code_world d script ps).machine) es) (sym (journal-other (code_world d script ps) k p.moment b.moments (λ is. other (is ∙ own)))) (b.well_formed k below)
      ];
    }

pub well-of : (d : Description) (v : NodeView) (es : List Entered) → v.description ≡ d → KeepsJournal v.description (machine_in v.description) v.log → journal_of v.log ≡ es → IsWellFormed (machine_in d) (first_state (machine_in d)) es
well-of d v es same keeps is =
    subst (λ (fs : List Entered). IsWellFormed (machine_in d) (first_state (machine_in d)) fs) is
    (subst (λ (e : Description). IsWellFormed (machine_in e) (first_state (machine_in e)) (journal_of v.log)) same keeps.well_formed)
