use Rattle.std.proofs.Common.{◌≡◌, ◌≤◌, length, subst, sym}
use Rattle.mate_num.specs.declared.bounds.TheConstants.{CONTEXTS_MAX}
use Rattle.vm_shape.specs.Whole.{context_count}
use Rattle.script_steps.specs.Steps.{IsRightStep}
use Rattle.node_open.specs.View.{NodeView, HasPlaces, Tells}
use Rattle.node_programs.specs.Right.{AreRightPrograms}
use Rattle.node_programs.specs.ScriptSteps.{step_of}
use Rattle.node_runs.specs.Running.{IsReadyFor, MakesOn}
use Rattle.node_open.proofs.CallLemmas.{places-told}
use Rattle.node_runs.proofs.KeptLemmas.{ranges-told-as, goes-on-as}
use Rattle.node_runs.proofs.heap_node.HeapNode.make.Goals as goal

pub returns-clause-ranges : goal.returns-clause-ranges
returns-clause-ranges c =
    let first : c.args.self.now ≡ c.deref.result.now = cc in
    let old : c.args.self.now ≡ c.deref_mut.result.now = cc in
    let last : c.make_step.new.node ≡ c.deref-2.result.now = cc in
    ranges-told-as c.args.self.now c.deref.result.now c.deref_mut.result.now c.make_step.new.node c.deref-2.result.now first old last c.kept.result.now c.kept-2.result.now c.of-size.result c.args.at _ c.kept.ensures.keeps c.kept-2.ensures.keeps
    c.kept.ensures.kept c.of-size.ensures c.make_step.ensures c.kept-2.ensures.kept c.log_is_in_range_from.ensures

pub returns-clause-goes_on : goal.returns-clause-goes_on
returns-clause-goes_on c =
    let first : c.args.self.now ≡ c.deref.result.now = cc in
    let old : c.args.self.now ≡ c.deref_mut.result.now = cc in
    let last : c.make_step.new.node ≡ c.deref-2.result.now = cc in
    goes-on-as c.args.self.now c.deref.result.now c.deref_mut.result.now c.make_step.new.node c.deref-2.result.now first old last c.args.at _ c.kept.ensures.keeps c.kept-2.ensures.keeps c.make_step.ensures

pub invariant_of-self : goal.invariant_of-self
invariant_of-self c =
    let e : c.self.inside.node.value ≡ c.deref_mut.result.now = cc in
    record { places = places-told c.deref_mut.result.now c.make_step.new.node c.args.at _ (subst HasPlaces e c.self.invariant.places) c.make_step.ensures }

pub make_step-requires-clause-places : goal.make_step-requires-clause-places
make_step-requires-clause-places c =
    let e : c.self.inside.node.value ≡ c.deref_mut.result.now = cc in
    subst HasPlaces e c.self.invariant.places

pub make_step-requires-clause-ready : goal.make_step-requires-clause-ready
make_step-requires-clause-ready c =
    let old : c.args.self.now ≡ c.deref_mut.result.now = cc in
    subst (λ (v : NodeView). IsReadyFor v c.args.at) old c.requires.ready

pub make_step-requires-clause-right : goal.make_step-requires-clause-right
make_step-requires-clause-right c =
    let old : c.args.self.now ≡ c.deref_mut.result.now = cc in
    subst (λ (v : NodeView). IsRightStep v.description (length c.args.programs.now) c.args.step.now) old c.requires.right

pub make_step-requires-clause-programs : goal.make_step-requires-clause-programs
make_step-requires-clause-programs c =
    let old : c.args.self.now ≡ c.deref_mut.result.now = cc in
    subst (λ (v : NodeView). AreRightPrograms v.description c.args.programs.now) old c.requires.programs

pub make_step-requires-clause-contexts : goal.make_step-requires-clause-contexts
make_step-requires-clause-contexts c =
    let old : c.args.self.now ≡ c.deref_mut.result.now = cc in
    subst (λ (v : NodeView). context_count v.description ≤ CONTEXTS_MAX) old c.requires.contexts

pub returns-clause-tells : goal.returns-clause-tells
returns-clause-tells c =
    let old : c.args.self.now ≡ c.deref_mut.result.now = cc in
    subst (λ (v : NodeView). Tells v c.make_step.new.node c.args.at (MakesOn v (step_of c.args.programs.now c.args.step.now))) (sym old) c.make_step.ensures
