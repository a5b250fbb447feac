use Rattle.std.proofs.Common.{◌≡◌, ◌<◌, ◌⊎◌, ℕ, List, length, Some, refl, sym, ◌∙◌, ap, subst, get_or}
use Rattle.std.specs.Prelude.{Option, slice_get, OnOk}
use Rattle.std.proofs.lemmas.Option.{slice_get_read}
use Rattle.std.proofs.lemmas.Result.{on_ok_weaker}
use Rattle.arrayvec.specs.ArrayVec.{ArrayVec}
use Rattle.mate_num.specs.declared.id.HandlerId.{HandlerId}
use Rattle.mate_journal.specs.declared.program.Program.{Program}
use Rattle.node_programs.specs.Right.{IsRightProgram}
use Rattle.node_programs.specs.ScriptSteps.{program_at, held_or_none}
use Rattle.node_programs.specs.Sources.{held_as}
use Rattle.script_steps.specs.World.{IsRightWhat}
use Rattle.script_steps.specs.declared.world.What.{What}
use Rattle.world_rules.specs.World.{Inject, Post, Show, ResetNode, want_of}
use Rattle.world_state.specs.Motes.{InstallsImage, LeavesImage}
use Rattle.world_event.proofs.HearLemmas.{does-inject}
use Rattle.world_event.proofs.LineLemmas.{by-want, does-post, does-show, does-reset}
use Rattle.world_event.proofs.handling.follow.Goals as goal

pub returns-in-Inject-clause-does : goal.returns-in-Inject-clause-does
returns-in-Inject-clause-does c =
    let ps = c.args.programs.now in
    let old = c.args.mote.now in
    let d = old.node.description in
    let at = c.args.at in
    let place = c.in-Inject.program in
    let x : Program = c.index-as_slice-program.result in
    let R : What → Type 0 = λ what. IsRightWhat d (length ps) what in
    let right = subst R c.in-Inject.is c.requires.what in
    let is : x ≡ get_or ps place x = c.index-as_slice-program.is ∙ ap (λ (xs : List Program). get_or xs place x) c.as_slice.ensures in
    let there : slice_get ps place ≡ Some x = slice_get_read ps (length ps) place x refl right.program_high is in
    let program : IsRightProgram d x = subst (IsRightProgram d) (sym is) (c.requires.programs place x right.program_high) in
    let below : x.handler.0 < length d.handlers.items = subst (λ (k : ℕ). k < length d.handlers.items) program.handler program.of_machine.handler in
    let want : want_of (program_at ps) c.args.what.now ≡ Inject (held_as x) = ap (want_of (program_at ps)) c.in-Inject.is ∙ ap (λ (o : Option Program). Inject (held_or_none o)) there in
    let new = c.install.new.self in
    let r = c.install.new.effect in
    let P : HandlerId → ℕ → ArrayVec ℕ → Type 0 =
    λ handler version image. OnOk c.install.result (InstallsImage at handler version image.items old new r ⊎ LeavesImage handler version image.items old new r) in
    let by_fields = subst (λ (image : ArrayVec ℕ). P c.program.inside.handler c.program.inside.version image) c.image-image.ensures c.install.ensures in
    let installed : P x.handler x.version x.image = subst (λ (q : Program). P q.handler q.version q.image) c.program.view_is by_fields in
    on_ok_weaker c.install.result (λ installs. by-want ps c.args.what.now (Inject (held_as x)) at old new r want (does-inject at old new r (held_as x) below installs)) installed

pub returns-in-Post-clause-does : goal.returns-in-Post-clause-does
returns-in-Post-clause-does c =
    let h = c.in-Post.handler in
    let payload = c.in-Post.payload in
    let r = c.args.effect.now in
    on_ok_weaker c.post.result
    (λ told. by-want c.args.programs.now c.args.what.now (Post h payload) c.args.at c.args.mote.now c.post.new.self r (ap (want_of (program_at c.args.programs.now)) c.in-Post.is)
    (does-post c.args.at c.args.mote.now c.post.new.self r h payload told c.requires.plain)) c.post.ensures

pub returns-in-Show-clause-does : goal.returns-in-Show-clause-does
returns-in-Show-clause-does c =
    let r = c.args.effect.now in
    on_ok_weaker c.show.result
    (λ told. by-want c.args.programs.now c.args.what.now Show c.args.at c.args.mote.now c.show.new.self r (ap (want_of (program_at c.args.programs.now)) c.in-Show.is)
    (does-show c.args.at c.args.mote.now c.show.new.self r told c.requires.plain)) c.show.ensures

pub returns-in-Reset-clause-does : goal.returns-in-Reset-clause-does
returns-in-Reset-clause-does c =
    let old = c.args.mote.now in
    let new = c.reset.new.self in
    let r = c.reset.new.effect in
    on_ok_weaker c.reset.result (λ x. by-want c.args.programs.now c.args.what.now ResetNode c.args.at old new r (ap (want_of (program_at c.args.programs.now)) c.in-Reset.is) (does-reset c.args.at old new r x)) c.reset.ensures
