use Rattle.std.proofs.Common.{◌∙◌, ap, sym, subst}
use Rattle.mate_journal.specs.Log.{IsEmpty}
use Rattle.mate_journal.specs.Pace.{no_pace}
use Rattle.node_open.specs.View.{NodeView, HasPlaces}
use Rattle.node_runs.specs.Keeping.{IsNewNode}
use Rattle.node_runs.proofs.heap_node.HeapNode.new.Goals as goal

pub invariant_of-result : goal.invariant_of-result
invariant_of-result c = record { places = subst HasPlaces (sym c.in-Ok.ensures.ok) c.in_ok-make_places.ensures.places }

pub returns-in-Ok : goal.returns-in-Ok
returns-in-Ok c =
    let (machine, empty, pace, whole) = c.in_ok-node.ensures in
    let same = c.make_places.ensures.same in
    subst (IsNewNode c.args.desc.now) (sym c.in-Ok.ensures.ok) (record {
      description = ap (λ (v : NodeView). v.description) same ∙ machine ∙ c.in_ok-machine.ensures;
      empty = subst (λ (v : NodeView). IsEmpty v.log) (sym same) empty;
      pace = c.make_places.ensures.pace no_pace pace;
      whole = ap (λ (v : NodeView). v.gone) same ∙ whole;
    })
