-- The locks are granted, and the start is told.
use Rattle.std.proofs.Common.{Option, refl, sym, ◌∙◌, ap, subst}
use Rattle.std.specs.Prelude.{IsSome}
use Rattle.node_state.specs.At.{At, at}
use Rattle.node_state.specs.declared.seat.Seat.{Seat}
use Rattle.node_state.proofs.FitLemmas.{seat-by}
use Rattle.node_state.specs.Programs.{held_at}
use Rattle.node_state.specs.declared.contexts.Contexts.{Contexts}
use Rattle.node_state.specs.Keeps.{reading}
use Rattle.node_state.proofs.StartingLemmas.{CanStart-fits, has-room, StartsNext-placed, StartsNone-from}
use Rattle.node_state.proofs.starting.start_next.Goals as goal

pub grant-requires : goal.grant-requires
grant-requires c =
    let s = c.args.parts.now in
    CanStart-fits (held_at s.handlers.programs) (reading c.args.description.now s.log.all) s.contexts c.requires.starting.order.keeps.fits

pub returns-in_default-clause-starts : goal.returns-in_default-clause-starts
returns-in_default-clause-starts c =
    let s = c.args.parts.now in
    let h = c.in_default.ensures in
    StartsNone-from c.args.description.now s (record s { contexts = c.grant.new.self }) c.requires.starting h.granted.0 h.once (ap (λ (x : Contexts). record s { contexts = x }) h.granted.1)

pub tell-requires-clause-room : goal.tell-requires-clause-room
tell-requires-clause-room c =
    let h = c.in-Some.ensures in
    has-room c.args.description.now c.args.parts.now c.grant.new.self c.in-Some.ctx c.number-inv.result c.requires.starting h.granted h.once c.number-inv.ensures c.requires.room

pub returns-clause-starts : goal.returns-clause-starts
returns-clause-starts c =
    let h = c.in-Some.ensures in
    StartsNext-placed c.args.description.now c.args.parts.now c.grant.new.self c.tell.new.log c.args.at c.in-Some.ctx c.number-inv.result c.requires.starting c.requires.timely h.granted h.once h.small c.number-inv.ensures
    c.tell.ensures.pushed c.tell.ensures.spare

pub number-inv-requires-clause-small : goal.number-inv-requires-clause-small
number-inv-requires-clause-small c = c.in-Some.ensures.small

pub returns-clause-gone : goal.returns-clause-gone
returns-clause-gone c = c.tell.ensures.gone

pub number-inv-requires-clause-taken : goal.number-inv-requires-clause-taken
number-inv-requires-clause-taken c =
    let s = c.args.parts.now in
    let h = c.in-Some.ensures.granted in
    let seat = seat-by (λ (a : At). a.waits) h.set (held_at s.handlers.programs) (reading c.args.description.now s.log.all) c.in-Some.ctx (at s.contexts c.in-Some.ctx) refl h.waited (c.requires.starting.order.keeps.fits.each c.in-Some.ctx) in
    let P : Option Seat → Type 0 = λ o. IsSome o in
    subst P (sym (ap (λ (a : At). a.seat) h.becomes.here ∙ seat.is)) refl
