-- A place more has no program.
use Rattle.std.proofs.Common.{List, Option, length, refl, ap, ◌∙◌, arith}
use Rattle.node_state.specs.declared.handlers.Held.{Held}
use Rattle.node_state.specs.Programs.{held_either}
use Rattle.node_state.proofs.HandlerLemmas.{either-none, one-place-more}
use Rattle.node_state.proofs.handlers.reach.Goals as goal

pub loop-own-preserved : goal.loop-own-preserved
loop-own-preserved c =
    let old = c.loop-own.own.items in
    let new = c.push_reserved.new.self.items in
    let more = c.push_reserved.ensures.items in
    let before = c.loop-own.invariant in
    let longer = one-place-more old new (length old) more refl in
    let few = before.few in
    let len = c.len.ensures in
    let size = c.loop-own.own.ok.0 in
    let below = c.loop-own-test.true in
    record {
      same = λ shared. ap (λ (l : List (Option Held)). held_either l shared) more ∙ either-none old shared ∙ before.same shared;
      few = omega (arith, longer, few, len, size, below);
      capacity = c.push_reserved.ensures.capacity ∙ before.capacity;
    }
