use Rattle.std.proofs.Common.{[], ◌∷◌, sym, subst}
use Rattle.std.specs.Prelude.{Option}
use Rattle.mate_journal.specs.declared.air.Air.{Air}
use Rattle.mate_journal.specs.declared.air.Air.TheVariants.{Got}
use Rattle.world_rules.specs.Effect.{of_packet}
use Rattle.world_event.specs.Handling.{DoesBy}
use Rattle.world_event.proofs.HearLemmas.{does-got}
use Rattle.world_event.proofs.handling.get.Goals as goal

pub returns-clause-does : goal.returns-clause-does
returns-clause-does c =
    let a = Got c.args.number c.args.link.now.from in
    let P : Option Air → Type 0 = λ o. DoesBy c.args.at (λ w n. record (of_packet w n.exchange c.args.packet.now) { first = a ∷ [] }) c.args.mote.now c.hear.new.mote (record c.hear.new.effect { first = o }) in
    subst P (sym c.got.ensures) (does-got c.args.at c.args.mote.now c.hear.new.mote c.hear.new.effect c.args.packet.now a c.in_ok-hear.ensures.does)
