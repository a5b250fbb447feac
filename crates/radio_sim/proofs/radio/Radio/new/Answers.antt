use Rattle.std.proofs.Common.{◌≡◌, List, ◌++◌, length, sym, ◌∙◌, ap, subst, refl, arith}
use Rattle.mate_journal.specs.declared.air.Aired.{Aired}
use Rattle.script_steps.specs.declared.world.Link.{Link}
use Rattle.radio_sim.specs.Sending.{AreLeaving}
use Rattle.vm_shape.proofs.DescriptionLemmas.{bounds_of}
use Rattle.event_queue.specs.Agenda.{Agenda}
use Rattle.radio_sim.specs.declared.waiting.Waiting.{Waiting}
use Rattle.radio_sim.specs.Waiting.{IsOnTime}
use Rattle.radio_sim.proofs.RadioLemmas.{few_links}
use Rattle.radio_sim.proofs.WaitingLemmas.{none_waits}
use Rattle.radio_sim.proofs.radio.Radio.new.Goals as goal

pub wires_of-requires-clause-few : goal.wires_of-requires-clause-few
wires_of-requires-clause-few c =
    let few = few_links c.args.desc.now c.args.world.now c.requires in
    let is : length c.as_slice.result.now ≡ length c.args.world.now.links = ap (λ (ls : List Link). length ls) c.as_slice.ensures in
    omega (arith, few, is)

pub invariant_of-result : goal.invariant_of-result
invariant_of-result c = record {
  now_is = ap (λ (q : Agenda Waiting). q.now) (sym c.in_ok-queue.ensures);
  ahead = subst (λ (q : Agenda Waiting). IsOnTime q) (sym c.in_ok-queue.ensures) (record { in_time = omega arith; none_before = λ t low. refl });
  gone_is = ap (λ (xs : List Aired). length xs) (sym c.new-3.ensures);
  gone_few = omega arith;
  counted = omega arith;
  near = (let bounds = bounds_of c.args.desc.now in let near = bounds.delay_high in omega (arith, near));
  nodes = c.in_ok-wires.ensures.nodes;
}

pub returns : goal.returns
returns c =
    let leaving = subst (λ (ls : List Link). AreLeaving c.args.world.now.random ls c.in_ok-wires.wires.items) c.as_slice.ensures c.in_ok-wires.ensures.leaving in
    record {
      agenda = none_waits c.in_ok-coming.coming.value.items c.in_ok-queue.queue c.args.world.now.until c.in_ok-coming.ensures c.in_ok-queue.ensures;
      air = ap (λ (xs : List Aired). xs ++ c.new-4.result) c.new-3.ensures ∙ c.new-4.ensures;
      gone = refl;
      delay = refl;
      stands = record { sent = refl; wires = leaving };
    }
