use Rattle.std.proofs.Common.{◌≡◌, ℕ, ◌+◌, List, sym, ◌∙◌, subst, arith}
use Rattle.world_state.specs.declared.mote.Mote.{Mote}
use Rattle.world_run_laws.specs.Coming.{code_world}
use Rattle.world_state.specs.Starting.{HaveBegun}
use Rattle.world_state.proofs.BeginLemmas.{begun-more}
use Rattle.world_state.proofs.simulation.begin_motes.Goals as goal

pub loop-node-preserved : goal.loop-node-preserved
loop-node-preserved c = record {
  begun = λ ps.
      subst (λ (ms : List Mote). HaveBegun (code_world c.args.machine.now c.args.world.now ps) (c.loop-node.node + 1) c.args.radio.now c.begin_mote.new.radio ms) (sym c.in_ok-push.ensures.items)
      (begun-more c.args.machine.now c.args.world.now ps c.loop-node.node c.args.radio.now c.loop-node.radio c.begin_mote.new.radio c.loop-node.motes.items c.in_ok-begin_mote.field-0 (c.loop-node.invariant.begun ps) c.in_ok-begin_mote.ensures.begins c.in_ok-begin_mote.ensures.adds);
  now = c.in_ok-begin_mote.ensures.adds.grows.now ∙ c.loop-node.invariant.now;
}

pub returns : goal.returns
returns c = λ ps.
    let past = c.loop-node-test.false in
    let within = c.loop-node.auto.node-end in
    let same : c.loop-node.node ≡ c.args.world.now.nodes = omega (arith, past, within) in
    subst (λ (n : ℕ). HaveBegun (code_world c.args.machine.now c.args.world.now ps) n c.args.radio.now c.loop-node.radio c.loop-node.motes.items) same (c.loop-node.invariant.begun ps)
