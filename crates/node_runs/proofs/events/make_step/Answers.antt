use Rattle.std.proofs.Common.{length, sym, subst, arith}
use Rattle.mate_num.specs.declared.bounds.TheConstants.{CODE_MAX}
use Rattle.std.specs.Prelude.{◌+◌, ◌*◌}
use Rattle.script_steps.specs.declared.steps.Step.{Step}
use Rattle.mate_journal.specs.NodeScript.{Run, Show, ResetNode, ShowsOnce, Resets}
use Rattle.node_state.specs.Meaning.{machine_in}
use Rattle.node_calls.specs.Pacing.{SettlesWithin}
use Rattle.node_open.specs.View.{heard_of, Tells}
use Rattle.node_open.specs.Calls.{Pacing}
use Rattle.script_steps.specs.Steps.{IsRightStep}
use Rattle.node_programs.specs.ScriptSteps.{step_of}
use Rattle.node_runs.specs.Running.{MakesOn}
use Rattle.node_open.proofs.CallLemmas.{Tells-by}
use Rattle.node_runs.proofs.events.make_step.Goals as goal

pub install_file-requires-clause-below : goal.install_file-requires-clause-below
install_file-requires-clause-below c =
    let right = subst (λ (s : Step). IsRightStep c.args.node.now.description (length c.args.programs.now) s) c.in-Install.is c.requires.right in
    right.program_high

pub install_file-requires-in-Load-clause-below : goal.install_file-requires-in-Load-clause-below
install_file-requires-in-Load-clause-below c =
    subst (λ (s : Step). IsRightStep c.args.node.now.description (length c.args.programs.now) s) c.in-Load.is c.requires.right

pub post-requires-clause-handler : goal.post-requires-clause-handler
post-requires-clause-handler c =
    let right = subst (λ (s : Step). IsRightStep c.args.node.now.description (length c.args.programs.now) s) c.in-Post.is c.requires.right in
    right.handler_high

pub take_turn-requires-clause-right : goal.take_turn-requires-clause-right
take_turn-requires-clause-right c =
    subst (λ (s : Step). IsRightStep c.args.node.now.description (length c.args.programs.now) s) c.in-Step.is c.requires.right

pub answer-requires-clause-context : goal.answer-requires-clause-context
answer-requires-clause-context c =
    let right = subst (λ (s : Step). IsRightStep c.args.node.now.description (length c.args.programs.now) s) c.in-Answer.is c.requires.right in
    let contexts = c.requires.contexts in
    omega (arith, right, contexts)

pub seen-requires-clause-few : goal.seen-requires-clause-few
seen-requires-clause-few c = let few = c.requires.ready.few in omega (arith, few)

pub seen-requires-clause-room : goal.seen-requires-clause-room
seen-requires-clause-room c = let room = c.requires.ready.room in omega (arith, room)

pub reset-requires-clause-few : goal.reset-requires-clause-few
reset-requires-clause-few c = let few = c.requires.ready.few in omega (arith, few)

pub reset-requires-clause-room : goal.reset-requires-clause-room
reset-requires-clause-room c = let room = c.requires.ready.room in omega (arith, room)

pub returns-in-Install : goal.returns-in-Install
returns-in-Install c =
    let v = c.args.node.now in
    let P : Step → Type 0 = λ s. Tells v c.install_file.new.node c.args.at (MakesOn v (step_of c.args.programs.now s)) in
    subst P (sym c.in-Install.is) c.install_file.ensures

pub returns-in-Load : goal.returns-in-Load
returns-in-Load c =
    let v = c.args.node.now in
    let P : Step → Type 0 = λ s. Tells v c.install_file-in-Load.new.node c.args.at (MakesOn v (step_of c.args.programs.now s)) in
    subst P (sym c.in-Load.is) c.install_file-in-Load.ensures

pub returns-in-Step : goal.returns-in-Step
returns-in-Step c =
    let v = c.args.node.now in
    let P : Step → Type 0 = λ s. Tells v c.take_turn.new.node c.args.at (MakesOn v (step_of c.args.programs.now s)) in
    subst P (sym c.in-Step.is) c.take_turn.ensures

pub returns-in-Post : goal.returns-in-Post
returns-in-Post c =
    let v = c.args.node.now in
    let P : Step → Type 0 = λ s. Tells v c.post.new.node c.args.at (MakesOn v (step_of c.args.programs.now s)) in
    subst P (sym c.in-Post.is) c.post.ensures

pub returns-in-Run : goal.returns-in-Run
returns-in-Run c =
    let v = c.args.node.now in
    let P : Step → Type 0 = λ s. Tells v c.settle.new.self c.args.at (MakesOn v (step_of c.args.programs.now s)) in
    subst P (sym c.in-Run.is)
    (Tells-by v c.settle.new.self c.args.at (SettlesWithin (machine_in v.description) ((v.description.turns + 1) * CODE_MAX) (heard_of v)) (MakesOn v Run)
    (λ p told q x. x.settles) c.settle.ensures)

pub returns-in-Show : goal.returns-in-Show
returns-in-Show c =
    let v = c.args.node.now in
    let P : Step → Type 0 = λ s. Tells v c.seen.new.self c.args.at (MakesOn v (step_of c.args.programs.now s)) in
    subst P (sym c.in-Show.is)
    (Tells-by v c.seen.new.self c.args.at (Pacing (ShowsOnce (machine_in v.description) (heard_of v))) (MakesOn v Show) (λ p told q x. (x.0, x.1)) c.seen.ensures)

pub returns-in-Reset : goal.returns-in-Reset
returns-in-Reset c =
    let v = c.args.node.now in
    let P : Step → Type 0 = λ s. Tells v c.reset.new.self c.args.at (MakesOn v (step_of c.args.programs.now s)) in
    subst P (sym c.in-Reset.is)
    (Tells-by v c.reset.new.self c.args.at (Pacing (Resets (machine_in v.description) (heard_of v))) (MakesOn v ResetNode) (λ p told q x. (x.0, x.1)) c.reset.ensures)
