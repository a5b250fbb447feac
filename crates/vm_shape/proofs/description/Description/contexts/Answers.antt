use Rattle.std.proofs.Common.{arith}
use Rattle.vm_shape.specs.Bounds.{HasBounds}
use Rattle.vm_shape.proofs.DescriptionLemmas.{bounds_of, first_context-all}
use Rattle.vm_shape.proofs.description.Description.contexts.Goals as goal

pub returns-clause-value : goal.returns-clause-value
returns-clause-value c = first_context-all c.args.self.now c.len.result c.contexts_before.result c.len.ensures.value c.contexts_before.ensures

pub returns-clause-low : goal.returns-clause-low
returns-clause-low c =
    let b : HasBounds c.args.self.now = bounds_of c.args.self.now in
    let same = first_context-all c.args.self.now c.len.result c.contexts_before.result c.len.ensures.value c.contexts_before.ensures in
    omega arith

pub returns-clause-high : goal.returns-clause-high
returns-clause-high c =
    let b : HasBounds c.args.self.now = bounds_of c.args.self.now in
    let same = first_context-all c.args.self.now c.len.result c.contexts_before.result c.len.ensures.value c.contexts_before.ensures in
    omega arith
