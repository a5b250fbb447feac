-- Whoever waits in the context was heard to ask.
use Rattle.std.proofs.Common.{Option, sym, ◌∙◌, ap, subst}
use Rattle.std.specs.Prelude.{MatchOption}
use Rattle.std.specs.Option.{option_copied}
use Rattle.node_calls.specs.Calls.{NobodyWaits}
use Rattle.node_open.specs.View.{NodeView, heard_of}
use Rattle.node_open.specs.Calls.{IsAsked}
use Rattle.node_open.specs.declared.standing.Asked.{Asked}
use Rattle.node_open.proofs.StandingLemmas.{nobody-waits, seat-asked, asked-seat}
use Rattle.node_open.proofs.open_node.OpenNode.asked.Goals as goal

pub returns-in_err-fun : goal.returns-in_err-fun
returns-in_err-fun c =
    let n = c.self.inside in
    let r = heard_of c.args.self.now in
    let P : NodeView → Type 0 = λ v. NobodyWaits (heard_of v) c.args.ctx in
    let Q : Option Asked → Type 0 = λ o. MatchOption o (NobodyWaits r c.args.ctx) (IsAsked r c.args.ctx) in
    subst Q (sym c.from_residual.ensures)
    (subst P c.self.view_is (nobody-waits n.machine n.parts c.self.invariant.rests.order.keeps c.args.ctx (sym c.asked.ensures ∙ c.in_err-fun.was)))

pub returns-in_err-inv : goal.returns-in_err-inv
returns-in_err-inv c =
    let n = c.self.inside in
    let r = heard_of c.args.self.now in
    let Q : Option Asked → Type 0 = λ o. MatchOption o (NobodyWaits r c.args.ctx) (IsAsked r c.args.ctx) in
    subst Q (sym c.from_residual-in_err-inv.ensures)
    (absurd (seat-asked n.machine n.parts c.self.invariant.rests.order.keeps c.args.ctx (c.in_ok-fun.fun, c.in_ok-fun.args) (sym c.asked.ensures ∙ c.in_ok-fun.was) (sym c.seat.ensures ∙ ap option_copied c.in_err-inv.was)))

pub returns : goal.returns
returns c =
    let n = c.self.inside in
    let P : NodeView → Type 0 = λ v. IsAsked (heard_of v) c.args.ctx (record { inv = c.in_ok-inv.field-0.now.inv; fun = c.in_ok-fun.fun; args = c.in_ok-fun.args }) in
    subst P c.self.view_is
    (asked-seat n.machine n.parts c.self.invariant.rests.order.keeps c.args.ctx (c.in_ok-fun.fun, c.in_ok-fun.args) (sym c.asked.ensures ∙ c.in_ok-fun.was) c.in_ok-inv.field-0.now (sym c.seat.ensures ∙ ap option_copied c.in_ok-inv.was))
