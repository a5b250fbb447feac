use Rattle.std.proofs.Common.{ℕ, List, [], ◌∷◌, ◌++◌, subst}
use Rattle.std.specs.Prelude.{OnOk}
use Rattle.script_steps.specs.declared.world.World.{World}
use Rattle.radio_sim.specs.Radio.{Ether, IsEtherOf}
use Rattle.radio_sim.proofs.radio.Radio.transmit_own.Goals as goal

pub returns-clause-stands : goal.returns-clause-stands
returns-clause-stands c =
    subst (λ (e : Ether). OnOk c.transmit_shared.result ((world : World) (senders : List ℕ) → IsEtherOf world senders e → IsEtherOf world (senders ++ c.args.node ∷ []) c.transmit_shared.new.self)) c.self.view_is
    c.transmit_shared.ensures.stands
