use Rattle.std.proofs.Common.{◌≡◌, ℕ, suc, ◌+◌, ◌≤◌, length, refl, sym, ◌∙◌, ap, subst, arith}
use Rattle.mate_journal.specs.NodeScript.{Whole, Full}
use Rattle.radio_sim.specs.Radio.{Ether}
use Rattle.world_run_laws.specs.Coming.{code_world}
use Rattle.world_state.proofs.KeepingLemmas.{whole-still, whole-shown}
use Rattle.world_state.proofs.RunLemmas.{behind, is-done}
use Rattle.world_state.proofs.WorldLemmas.{all-timely, of-machine, shown-machine, full-report, whole-report}
use Rattle.world_state.specs.Keeping.{IsWhole}
use Rattle.world_sim.proofs.running.run_stored.Goals as goal

pub see_stores-requires : goal.see_stores-requires
see_stores-requires c =
    let count = c.loop-events.invariant.stands.count in
    all-timely c.args.desc.now c.args.world.now c.args.programs.now c.loop-events.invariant.stands.moments (record { event = c.loop-events.events + 1; time = c.args.world.now.until }) c.loop-events.sim.motes.items c.loop-events.invariant.stands.come
    c.loop-events.invariant.stands.nodes c.loop-events.invariant.stands.motes (omega (arith, count)) refl

pub report_of-requires-clause-count : goal.report_of-requires-clause-count
report_of-requires-clause-count c = c.loop-events.invariant.logs ∙ sym (c.in_ok-see_stores.ensures.count ∙ c.loop-events.invariant.stands.nodes)

pub returns-in_default : goal.returns-in_default
returns-in_default c =
    let count = c.loop-events.invariant.stands.count in
    let next : c.loop-events.events + 1 ≡ suc (length c.loop-events.invariant.stands.moments) = omega (arith, count) in
    c.reports_keep_the_promise.ensures c.args.desc.now c.args.world.now c.args.programs.now Whole c.report_of.result c.requires
    (whole-report c.args.desc.now c.args.world.now c.args.programs.now c.loop-events.invariant.stands.moments c.loop-events.events (record { event = c.loop-events.events + 1; time = c.args.world.now.until }) c.loop-events.sim.motes.items
    (record { radio = c.next_into.new.self; motes = c.see_stores.new.motes; records = c.loop-events.sim.records }) c.report_of.result c.loop-events.invariant.stands.come
    (is-done (code_world c.args.desc.now c.args.world.now c.args.programs.now) c.loop-events.invariant.stands.moments c.loop-events.sim.radio c.loop-events.invariant.stands.radio c.in_default.ensures.first)
    (ap (λ (e : Ether). e.air) c.next_into.ensures.others ∙ c.loop-events.invariant.stands.radio.air) c.loop-events.invariant.stands.nodes c.loop-events.invariant.stands.motes (sym count)
    (λ i. record { event = next i; time = c.args.world.now.until }) c.in_ok-see_stores.ensures
    (c.report_of.ensures.keeps c.args.desc.now (shown-machine c.args.desc.now _ c.loop-events.sim.motes.items c.see_stores.new.motes.items c.in_ok-see_stores.ensures
    (of-machine c.args.desc.now c.args.world.now c.args.programs.now c.loop-events.invariant.stands.moments c.loop-events.sim.motes.items c.loop-events.invariant.stands.nodes c.loop-events.invariant.stands.motes)))
    c.report_of.ensures.is)
    c.report_of.ensures.ranges

pub report_of-requires-then-sim-ge-RECORDS_MAX-clause-count : goal.report_of-requires-then-sim-ge-RECORDS_MAX-clause-count
report_of-requires-then-sim-ge-RECORDS_MAX-clause-count c = c.loop-events.invariant.logs ∙ sym c.loop-events.invariant.stands.nodes

pub returns-then-sim-ge-RECORDS_MAX : goal.returns-then-sim-ge-RECORDS_MAX
returns-then-sim-ge-RECORDS_MAX c =
    let b = behind (code_world c.args.desc.now c.args.world.now c.args.programs.now) c.loop-events.invariant.stands.moments c.loop-events.sim.radio c.next_into.new.self c.in-Some.time c.next_into.new.event c.requires.world.nodes_high
    (c.states_are_sound.ensures.dues c.args.desc.now c.args.world.now c.args.programs.now c.requires) c.loop-events.invariant.stands.come c.loop-events.invariant.stands.radio c.in-Some.ensures.first c.next_into.ensures.others in
    c.reports_keep_the_promise.ensures c.args.desc.now c.args.world.now c.args.programs.now Full c.report_of-then-sim-ge-RECORDS_MAX.result c.requires
    (full-report c.args.desc.now c.args.world.now c.args.programs.now c.loop-events.invariant.stands.moments c.loop-events.events
    (record { radio = c.next_into.new.self; motes = c.loop-events.sim.motes; records = c.loop-events.sim.records }) c.report_of-then-sim-ge-RECORDS_MAX.result c.loop-events.invariant.stands.come
    (subst (λ (n : ℕ). 1000000 ≤ n) c.loop-events.invariant.stands.records c.if-sim-ge-RECORDS_MAX.true, c.in-Some.time, b.cause, b.within, b.next)
    (ap (λ (e : Ether). e.air) c.next_into.ensures.others ∙ c.loop-events.invariant.stands.radio.air) c.loop-events.invariant.stands.nodes c.loop-events.invariant.stands.motes (sym c.loop-events.invariant.stands.count)
    (c.report_of-then-sim-ge-RECORDS_MAX.ensures.keeps c.args.desc.now
    (of-machine c.args.desc.now c.args.world.now c.args.programs.now c.loop-events.invariant.stands.moments c.loop-events.sim.motes.items c.loop-events.invariant.stands.nodes c.loop-events.invariant.stands.motes))
    c.report_of-then-sim-ge-RECORDS_MAX.ensures.is)
    c.report_of-then-sim-ge-RECORDS_MAX.ensures.ranges

pub step-requires-clause-stands : goal.step-requires-clause-stands
step-requires-clause-stands c =
    let count = c.loop-events.invariant.stands.count in
    let b = behind (code_world c.args.desc.now c.args.world.now c.args.programs.now) c.loop-events.invariant.stands.moments c.loop-events.sim.radio c.next_into.new.self c.in-Some.time c.next_into.new.event c.requires.world.nodes_high
    (c.states_are_sound.ensures.dues c.args.desc.now c.args.world.now c.args.programs.now c.requires) c.loop-events.invariant.stands.come c.loop-events.invariant.stands.radio c.in-Some.ensures.first c.next_into.ensures.others in
    record {
      moments = c.loop-events.invariant.stands.moments;
      cause = b.cause;
      come = c.loop-events.invariant.stands.come;
      next = b.next;
      in_time = b.within;
      room = c.if-sim-ge-RECORDS_MAX.false;
      is = b.is;
      stamp = omega (arith, count);
      taken = b.taken;
      air = ap (λ (e : Ether). e.air) c.next_into.ensures.others ∙ c.loop-events.invariant.stands.radio.air;
      nodes = c.loop-events.invariant.stands.nodes;
      motes = c.loop-events.invariant.stands.motes;
      records = c.loop-events.invariant.stands.records;
      fit = c.loop-events.invariant.stands.radio.fit;
      well_formed = c.loop-events.invariant.stands.well_formed;
    }

pub report_of-requires-clause-whole : goal.report_of-requires-clause-whole
report_of-requires-clause-whole c = record {
  nodes = whole-shown _ c.loop-events.sim.motes.items c.see_stores.new.motes.items c.in_ok-see_stores.ensures c.loop-events.invariant.whole.nodes;
  air = ap (λ (e : Ether). e.gone) c.next_into.ensures.others ∙ c.loop-events.invariant.whole.air;
}

pub report_of-requires-then-sim-ge-RECORDS_MAX-clause-whole : goal.report_of-requires-then-sim-ge-RECORDS_MAX-clause-whole
report_of-requires-then-sim-ge-RECORDS_MAX-clause-whole c =
    record { nodes = c.loop-events.invariant.whole.nodes; air = ap (λ (e : Ether). e.gone) c.next_into.ensures.others ∙ c.loop-events.invariant.whole.air }

pub loop-events-init : goal.loop-events-init
loop-events-init c = record { stands = c.in_ok-sim.ensures.stands c.args.programs.now; empty = record { entries = c.new-room.ensures.entries; images = c.new-room.ensures.images; stores = c.new-room.ensures.stores }; plain = c.none-effect.ensures; logs = c.in_ok-logs.ensures.count; whole = c.in_ok-sim.ensures.whole }

pub loop-events-preserved : goal.loop-events-preserved
loop-events-preserved c =
    let a = c.in_ok-step.ensures.adds in record {
      stands = c.in_ok-step.ensures.stands;
      empty = c.in_ok-step.ensures.empty;
      plain = c.in_ok-step.ensures.plain;
      logs = c.loop-events.invariant.logs;
      whole = whole-still (c.loop-events.events + 1) c.in_ok-step.field-0 a.mid c.step.new.sim a.adds
          (subst IsWhole (sym a.lets_go) (record { nodes = c.loop-events.invariant.whole.nodes; air = ap (λ (e : Ether). e.gone) c.next_into.ensures.others ∙ c.loop-events.invariant.whole.air }));
    }
