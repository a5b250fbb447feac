use Rattle.std.proofs.Common.{◌<◌, ◌≤◌, ℕ, length, arith, Bool, List, Result, true, refl, sym, ◌∙◌, ap, subst, inl, inr}
use Rattle.std.specs.Prelude.{⊤}
use Rattle.std.proofs.lemmas.Bool.{eqb-true, eqb-false}
use Rattle.std.proofs.lemmas.List.{nil_from_length}
use Rattle.std.proofs.lemmas.Result.{IfOk-from_err}
use Rattle.mate_journal.specs.Journal.{NodeState}
use Rattle.vm_shape.specs.declared.description.Description.{Description}
use Rattle.node_calls.specs.Installing.{InstallsBytes, Refuses}
use Rattle.node_calls.specs.declared.installing.InstallFault.{InstallFault}
use Rattle.node_open.specs.View.{heard_of, Tells, IsSameNode}
use Rattle.node_open.specs.Calls.{Pacing, TakesCapsule}
use Rattle.node_open.proofs.CallLemmas.{same-on}
use Rattle.world_state.specs.declared.effect.Effect.{Effect}
use Rattle.world_state.specs.Motes.{plain_effect, IsNotInstalled}
use Rattle.world_state.proofs.NodeLemmas.{tellable-same, heard-same, tells-behind}
use Rattle.world_state.proofs.MoteLemmas.{begins-reset}
use Rattle.world_state.proofs.mote.Mote.install.Goals.{then-version-held-via-then-version-held, then-version-held-via-else-version-held+then-is_empty}
use Rattle.world_state.proofs.mote.Mote.install.Goals as goal

pub install_anywhere-requires-clause-timely : goal.install_anywhere-requires-clause-timely
install_anywhere-requires-clause-timely c = (tellable-same c.args.self.now.node c.reserve.new.self c.args.at c.in_ok-reserve.ensures.same c.requires.tellable).timely

pub returns-in_ok-installed-in-Ok : goal.returns-in_ok-installed-in-Ok
returns-in_ok-installed-in-Ok c =
    let mid = c.reserve.new.self in
    let new = c.install_anywhere.new.self in
    let T : Result ⊤ InstallFault → Type 0 = λ r. TakesCapsule mid new c.as_slice.result.now c.args.at r in
    let P : List ℕ → Type 0 = λ bs. Tells mid new c.args.at (Pacing (InstallsBytes mid.description (heard_of mid) bs)) in
    let E : Bool → Effect = λ b. record plain_effect { begins = b; cuts = true } in
    inl (record {
      tells =
          tells-behind c.args.self.now.node mid new c.args.at (λ d r. Pacing (InstallsBytes d r c.args.image.now.items)) c.in_ok-reserve.ensures.same c.in_ok-reserve.ensures.pace
          (subst P c.as_slice.ensures.value (subst T c.in-Ok.is c.in_ok-install_anywhere.ensures));
      timer = c.reset-effect.ensures.next.next;
      exchange = c.in_ok-installed-in-Ok.ensures.learned;
      pumps = refl;
      calls = refl;
      effect = ap (λ (e : Effect). record e { begins = c.reset-effect.result; cuts = true }) c.requires.plain ∙ ap E (c.reset-effect.ensures.begun ∙ sym (begins-reset c.args.self.now.timer));
    })

pub returns-in-Err : goal.returns-in-Err
returns-in-Err c =
    let v = c.args.self.now.node in
    let mid = c.reserve.new.self in
    let new = c.install_anywhere.new.self in
    let fault = c.in-Err.field-0 in
    let T : Result ⊤ InstallFault → Type 0 = λ r. TakesCapsule mid new c.as_slice.result.now c.args.at r in
    let refused : Refuses mid.description (heard_of mid) c.as_slice.result.now fault × IsSameNode mid new = subst T c.in-Err.is c.in_ok-install_anywhere.ensures in
    let D : Description → Type 0 = λ d. Refuses d (heard_of mid) c.as_slice.result.now fault in
    let R : NodeState → Type 0 = λ r. Refuses v.description r c.as_slice.result.now fault in
    let B : List ℕ → Type 0 = λ bs. Refuses v.description (heard_of v) bs fault in
    inr (record {
      why = inr (inr (fault, subst B c.as_slice.ensures.value (subst R (heard-same v mid c.in_ok-reserve.ensures.same) (subst D c.in_ok-reserve.ensures.same.description refused.0))));
      node = same-on v mid new c.in_ok-reserve.ensures.same refused.1;
      same = refl;
      effect = c.requires.plain;
    })

pub returns-in_err-reserve : goal.returns-in_err-reserve
returns-in_err-reserve c = IfOk-from_err _ _ c.from_residual.ensures.0

pub returns-in_err-install_anywhere : goal.returns-in_err-install_anywhere
returns-in_err-install_anywhere c = IfOk-from_err _ _ c.from_residual-in_err-install_anywhere.ensures.0

pub returns-in_err-installed-in-Ok : goal.returns-in_err-installed-in-Ok
returns-in_err-installed-in-Ok c = IfOk-from_err _ _ c.from_residual-in_err-installed-in-Ok.ensures.0

pub installed-requires-clause-newer : goal.installed-requires-clause-newer
installed-requires-clause-newer c = subst (λ (n : ℕ). n < c.args.version) c.held.ensures.value c.if-version-held.false

pub install_anywhere-requires-clause-few : goal.install_anywhere-requires-clause-few
install_anywhere-requires-clause-few c = (tellable-same c.args.self.now.node c.reserve.new.self c.args.at c.in_ok-reserve.ensures.same c.requires.tellable).few

pub returns-then-version-held : goal.returns-then-version-held
returns-then-version-held c =
    let why : IsNotInstalled c.args.handler c.args.version c.args.image.now.items c.args.self.now =
    elim c.then-version-held.branch [
      | then-version-held-via-then-version-held w ↦ inl (subst (λ (n : ℕ). c.args.version ≤ n) c.held.ensures.value w.if-version-held.true)
      | then-version-held-via-else-version-held+then-is_empty w ↦ inr (inl (nil_from_length c.args.image.now.items (eqb-true (length c.args.image.now.items) 0 (sym w.if-is_empty.ensures))))
    ] in
    inr (record { why = why; node = c.in_ok-reserve.ensures.same; same = refl; effect = c.requires.plain })

pub installed-requires-clause-filled : goal.installed-requires-clause-filled
installed-requires-clause-filled c = let some = eqb-false (length c.args.image.now.items) 0 (sym c.if-is_empty.ensures) in omega (arith, some)
