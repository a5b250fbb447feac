use Rattle.std.proofs.Common.{ℕ, List, ◌∙◌, ap, subst}
use Rattle.mate_journal.specs.declared.entry.VoidCause.TheVariants as void
use Rattle.mate_journal.specs.NodeScript.{Install}
use Rattle.mate_journal.specs.declared.program.Program.{Program}
use Rattle.node_calls.specs.Installing.{InstallsBytes, IsNoNewer, Refuses}
use Rattle.node_calls.specs.declared.installing.InstallFault.{InstallFault}
use Rattle.node_open.specs.View.{heard_of, Tells}
use Rattle.node_open.specs.Calls.{Pacing}
use Rattle.node_programs.specs.Sources.{held_as}
use Rattle.node_runs.specs.Running.{MakesOn}
use Rattle.node_open.proofs.CallLemmas.{Tells-by}
use Rattle.node_runs.proofs.EventLemmas.{Tells-void, not-bad_capsule, not-bad_code, Makes-installed, Makes-not_newer}
use Rattle.node_runs.proofs.events.install.Goals as goal

pub returns-in-Ok : goal.returns-in-Ok
returns-in-Ok c =
    let v = c.args.node.now in
    let p = c.args.program.now in
    Tells-by v c.install.new.self c.args.at (Pacing (InstallsBytes v.description (heard_of v) p.image.items)) (MakesOn v (Install (held_as p)))
    (λ pace told q x. Makes-installed v.description p c.requires.right (heard_of v) pace told q x)
    (let P : List ℕ → Type 0 = λ bs. Tells v c.install.new.self c.args.at (Pacing (InstallsBytes v.description (heard_of v) bs)) in subst P (c.as_slice.ensures.value ∙ ap (λ (q : Program). q.image.items) c.program.view_is) c.in-Ok.ensures)

pub returns-in-Err-NotNewer : goal.returns-in-Err-NotNewer
returns-in-Err-NotNewer c =
    let v = c.args.node.now in
    let p = c.args.program.now in
    let h = c.in-Err-NotNewer.held in
    Tells-void v c.install.new.self c.void.new.self c.args.at (void.NotNewer h) (MakesOn v (Install (held_as p))) c.in-Err-NotNewer.ensures.1
    (λ pace. Makes-not_newer v.description p c.requires.right (heard_of v) pace h
    (let P : List ℕ → Type 0 = λ bs. IsNoNewer v.description (heard_of v) bs h in
    let Q : InstallFault → Type 0 = λ fault. Refuses v.description (heard_of v) c.as_slice.result.now fault in
    subst P (c.as_slice.ensures.value ∙ ap (λ (q : Program). q.image.items) c.program.view_is) (subst Q c.in-Err-NotNewer.field-0-is c.in-Err-NotNewer.ensures.0)))
    c.void.ensures

pub unreachable-requires : goal.unreachable-requires
unreachable-requires c =
    let d = c.args.node.now.description in
    not-bad_capsule d c.args.program.now c.requires.right (heard_of c.args.node.now) c.as_slice.result.now _ _ (c.as_slice.ensures.value ∙ ap (λ (q : Program). q.image.items) c.program.view_is) c.in-Err-Capsule.field-0-is c.in-Err-Capsule.ensures.0

pub unreachable-requires-in-Err-Code : goal.unreachable-requires-in-Err-Code
unreachable-requires-in-Err-Code c =
    let d = c.args.node.now.description in
    not-bad_code d c.args.program.now c.requires.right (heard_of c.args.node.now) c.as_slice.result.now _ _ (c.as_slice.ensures.value ∙ ap (λ (q : Program). q.image.items) c.program.view_is) c.in-Err-Code.field-0-is c.in-Err-Code.ensures.0
