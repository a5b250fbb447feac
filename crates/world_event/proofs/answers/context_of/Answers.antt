use Rattle.std.proofs.Common.{◌≤◌, ℕ, Some, sym, ◌∙◌, ap, arith, inl, inr}
use Rattle.std.proofs.lemmas.Bool.{cases_eq, false≢true}
use Rattle.mate_num.specs.declared.id.ContextId.{ContextId}
use Rattle.node_open.specs.View.{heard_of}
use Rattle.world_event.proofs.answers.context_of.Goals as goal

pub loop-ctx-init : goal.loop-ctx-init
loop-ctx-init c = λ apart waits. omega arith

pub loop-ctx-preserved : goal.loop-ctx-preserved
loop-ctx-preserved c = λ apart waits.
    let at : ContextId = ((heard_of c.args.node.now).invocations c.args.inv).context in
    let reached : c.loop-ctx.ctx ≤ ((heard_of c.args.node.now).invocations c.args.inv).context.0 = c.loop-ctx.invariant apart waits in
    elim (cases_eq ((heard_of c.args.node.now).invocations c.args.inv).context.0 c.loop-ctx.ctx) [
      | inl same ↦ absurd (false≢true (sym c.if-waits_in.false ∙ c.waits_in.ensures.found apart waits (ap (λ (n : ℕ). let x : ContextId = record { 0 = n } in x) same)))
      | inr other ↦ omega (arith, reached, other)
    ]

pub returns-then-waits_in : goal.returns-then-waits_in
returns-then-waits_in c = λ apart within. ap (λ (x : ContextId). Some x) (sym (c.waits_in.ensures.there c.if-waits_in.true))

pub returns : goal.returns
returns c = λ apart within.
    let past = c.loop-ctx-test.false in
    let reached = c.loop-ctx.invariant apart within.waits in
    let small = within.small in
    absurd (omega (arith, past, reached, small))
