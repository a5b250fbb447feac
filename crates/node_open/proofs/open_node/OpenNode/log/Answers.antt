-- What a node that rests keeps.
use Rattle.std.proofs.Common.{subst, sym}
use Rattle.vm_shape.specs.declared.description.Description.{Description}
use Rattle.node_state.specs.Meaning.{machine_in}
use Rattle.node_state.specs.Starting.{Rests}
use Rattle.node_open.specs.View.{NodeView}
use Rattle.node_open.specs.Journal.{KeepsJournal}
use Rattle.node_open.proofs.open_node.OpenNode.log.Goals as goal

pub keeps_journal-requires : goal.keeps_journal-requires
keeps_journal-requires c = subst (λ (d : Description). Rests d c.self.inside.parts) (sym c.description.ensures) c.self.invariant.rests

pub returns-clause-keeps : goal.returns-clause-keeps
returns-clause-keeps c =
    let P : NodeView → Type 0 = λ v. KeepsJournal v.description (machine_in v.description) v.log in
    let Q : Description → Type 0 = λ d. KeepsJournal d (machine_in d) c.self.inside.parts.log.all in
    subst P c.self.view_is (subst Q c.description.ensures c.keeps_journal.ensures)
