-- No place has a program.
use Rattle.std.proofs.Common.{◌≡◌, List, Option, sym, subst}
use Rattle.node_state.specs.declared.handlers.Held.{Held}
use Rattle.node_state.specs.Programs.{held_at, held_either}
use Rattle.node_state.proofs.HandlerLemmas.{nothing-held, no-place, nothing-yet, one-place-more, nothing-more}
use Rattle.node_state.proofs.handlers.Handlers.new.Goals as goal

pub loop-place-init : goal.loop-place-init
loop-place-init c =
    let empty = c.in_ok-shared.ensures.items in
    record { count = no-place c.in_ok-shared.shared.items empty; none = nothing-yet c.in_ok-shared.shared.items empty }

pub loop-place-preserved : goal.loop-place-preserved
loop-place-preserved c =
    let old = c.loop-place.shared.items in
    let new = c.push.new.self.items in
    let more = c.in_ok-push.ensures.items in
    record { count = one-place-more old new c.loop-place._place more c.loop-place.invariant.count; none = nothing-more old new more c.loop-place.invariant.none }

pub returns-clause-none : goal.returns-clause-none
returns-clause-none c = λ h.
    subst (λ (own : List (Option Held)). held_at (held_either own c.loop-place.shared.items) h ≡ _) (sym c.new.ensures.items) (nothing-held c.loop-place.shared.items c.loop-place.invariant.none h)
