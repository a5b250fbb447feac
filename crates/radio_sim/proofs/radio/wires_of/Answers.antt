use Rattle.std.proofs.Common.{◌<◌, ◌∙◌, length, get_or, refl, arith}
use Rattle.std.proofs.lemmas.List.{length-set}
use Rattle.script_steps.specs.declared.world.Link.{Link}
use Rattle.radio_sim.proofs.RadioLemmas.{links_none, links_more, links_all}
use Rattle.radio_sim.proofs.radio.wires_of.Goals as goal

pub loop-position-init : goal.loop-position-init
loop-position-init c = record { nodes = c.in_ok-wires.ensures.nodes; leaving = links_none c.args.random c.args.links.now c.in_ok-wires.wires.items c.in_ok-wires.ensures.empty }

pub returns-clause-leaving : goal.returns-clause-leaving
returns-clause-leaving c = links_all c.args.random c.args.links.now c.loop-position.position c.loop-position.wires.items c.loop-position.invariant.leaving c.loop-position-test.false

pub loop-position-preserved : goal.loop-position-preserved
loop-position-preserved c =
    let i = c.loop-position.position in
    let links = c.args.links.now in
    let d : Link = record { from = 0; to = 0; loss = 0 } in
    let l : Link = get_or links i d in
    let within : i < length links = omega arith in
    let wires = c.loop-position.wires.items in
    record {
      nodes = length-set wires l.from c.push.new.self ∙ c.loop-position.invariant.nodes;
      leaving = links_more c.args.random links i l d wires c.index_mut.result.now c.push.new.self c.new.result c.loop-position.invariant.leaving c.loop-position.invariant.nodes within refl (c.requires.near i d within)
          c.index_mut.ensures.value c.in_ok-push.ensures c.new.ensures;
    }
