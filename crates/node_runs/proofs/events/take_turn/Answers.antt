use Rattle.std.proofs.Common.{refl, inl, inr}
use Rattle.mate_journal.specs.declared.entry.VoidCause.TheVariants as void
use Rattle.mate_journal.specs.NodeScript.{StepIn}
use Rattle.node_state.specs.Meaning.{machine_in}
use Rattle.node_open.specs.View.{heard_of}
use Rattle.node_open.specs.Calls.{HasStepped}
use Rattle.node_runs.specs.Running.{MakesOn}
use Rattle.node_open.proofs.CallLemmas.{Tells-by}
use Rattle.node_runs.proofs.EventLemmas.{Tells-void}
use Rattle.node_runs.proofs.events.take_turn.Goals as goal

pub returns-in-Ok : goal.returns-in-Ok
returns-in-Ok c =
    let v = c.args.node.now in
    Tells-by v c.step.new.self c.args.at (HasStepped (machine_in v.description) (heard_of v) c.args.ctx c.args.n c.in-Ok.field-0) (MakesOn v (StepIn c.args.ctx c.args.n))
    (λ p told q x. inl x.turn) c.in-Ok.ensures

pub returns-in-Err : goal.returns-in-Err
returns-in-Err c =
    Tells-void c.args.node.now c.step.new.self c.void.new.self c.args.at void.NotReady (MakesOn c.args.node.now (StepIn c.args.ctx c.args.n)) c.in-Err.ensures.1
    (λ p. inr (record { none = c.in-Err.ensures.0; made = refl }, refl)) c.void.ensures
