use Rattle.std.proofs.Common.{subst}
use Rattle.std.proofs.lemmas.List.{take_all}
use Rattle.std.proofs.lemmas.List.Elements.{All-more}
use Rattle.node_state.specs.Meaning.{machine_in}
use Rattle.node_open.specs.Journal.{KeepsJournal}
use Rattle.world_state.specs.declared.mote.Mote.{Mote}
use Rattle.world_state.specs.Telling.{LogsAreKept}
use Rattle.world_runs.proofs.pieces.logs_are_kept.Goals as goal

pub loop-mote-preserved : goal.loop-mote-preserved
loop-mote-preserved c =
    let Own : Mote → Type 0 = λ m. KeepsJournal m.node.description (machine_in m.node.description) m.node.log in
    All-more Own c.args.motes.now c.loop-mote.mote-index c.mote-item.result c.loop-mote-test.true c.loop-mote.invariant (subst Own c.mote-item.is c.kept-kept.ensures.keeps)

pub returns : goal.returns
returns c = subst LogsAreKept (take_all c.loop-mote.mote-index c.args.motes.now c.loop-mote-test.false) c.loop-mote.invariant
