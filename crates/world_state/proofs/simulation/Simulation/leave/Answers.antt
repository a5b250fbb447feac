use Rattle.std.proofs.Common.{◌<◌, ◌≡◌, length, refl, sym, ◌∙◌, ap, arith, inl, inr}
use Rattle.std.specs.Prelude.{Some, slice_get}
use Rattle.std.proofs.lemmas.Option.{slice_get-get_or}
use Rattle.std.proofs.lemmas.List.{length-set}
use Rattle.world_state.specs.declared.mote.Mote.{Mote}
use Rattle.world_state.proofs.KeepingLemmas.{kept-still}
use Rattle.world_state.specs.declared.simulation.Written.TheVariants.{Forgotten}
use Rattle.world_state.proofs.simulation.Simulation.leave.Goals as goal

pub returns-then-self-ge-RECORDS_MAX-clause-leaves : goal.returns-then-self-ge-RECORDS_MAX-clause-leaves
returns-then-self-ge-RECORDS_MAX-clause-leaves c = inl refl

pub let_go-requires-clause-log : goal.let_go-requires-clause-log
let_go-requires-clause-log c = (c.requires.few c.if-self-ge-RECORDS_MAX.false).log

pub let_go-requires-clause-air : goal.let_go-requires-clause-air
let_go-requires-clause-air c = (c.requires.few c.if-self-ge-RECORDS_MAX.false).air

pub returns-clause-leaves : goal.returns-clause-leaves
returns-clause-leaves c = inr c.let_go.ensures.lets_go

pub index-requires : goal.index-requires
index-requires c =
    let go = c.let_go.ensures.lets_go in
    let long = ap length go.motes ∙ length-set c.args.self.now.motes.items c.args.number go.after in
    let low = c.requires.node in
    let from = c.from.ensures in
    omega (arith, long, low, from)

pub returns-clause-kept : goal.returns-clause-kept
returns-clause-kept c = λ kept.
    let s = c.let_go.new.self in
    let go = c.let_go.ensures.lets_go in
    let x = c.index.result.now in
    let long = ap length go.motes ∙ length-set c.args.self.now.motes.items c.args.number go.after in
    let low = c.requires.node in
    let from = c.from.ensures in
    let high : c.from.result < length s.motes.items = omega (arith, long, low, from) in
    let found : slice_get s.motes.items c.args.number ≡ Some x = ap (slice_get s.motes.items) (sym from) ∙ slice_get-get_or s.motes.items c.from.result x high ∙ ap (λ (m : Mote). Some m) (sym c.index.ensures) in
    kept-still Forgotten c.args.self.now s c.args.number x go found low c.kept-kept.ensures.keeps kept

pub returns-then-not-trades-clause-leaves : goal.returns-then-not-trades-clause-leaves
returns-then-not-trades-clause-leaves c = inl refl
