use Rattle.std.proofs.Common.{◌≡◌, ◌<◌, length, refl, sym, ◌∙◌, ap, subst, arith, rules}
use Rattle.std.specs.Prelude.{Some, slice_get, slice_set}
use Rattle.std.proofs.lemmas.Option.{slice_get-get_or}
use Rattle.std.specs.Vec.{with_item}
use Rattle.world_state.specs.declared.mote.Mote.{Mote}
use Rattle.world_state.specs.Keeping.{LetsGo, LetsGoAsTold}
use Rattle.world_state.specs.declared.simulation.Simulation.{Simulation}
use Rattle.world_state.specs.declared.simulation.Written.{Written}
use Rattle.world_state.proofs.simulation.Simulation.let_go.Goals as goal

pub returns-in-Forgotten-clause-lets_go : goal.returns-in-Forgotten-clause-lets_go
returns-in-Forgotten-clause-lets_go c =
    let motes = c.args.self.now.motes.items in
    let x = c.index_mut.result.now in
    let low : c.from.result < length motes = search rules in
    let found : slice_get motes c.args.number ≡ Some x = ap (slice_get motes) (sym c.from.ensures) ∙ slice_get-get_or motes c.from.result x low ∙ ap (λ (m : Mote). Some m) (sym c.index_mut.ensures.value) in
    let after : Mote = record x { node = c.forget_told.new.node } in
    let mid : Simulation = record { radio = c.forget.new.self; motes = with_item c.args.self.now.motes c.from.result after; records = c.args.self.now.records } in
    let gone : LetsGo c.args.self.now mid c.args.number = record {
      before = x;
      after = after;
      found = found;
      motes = ap (λ n. slice_set motes n after) c.from.ensures;
      forgets = record {
        description = c.forget_told.ensures.description;
        log = c.forget_told.ensures.log;
        gone = c.forget_told.ensures.gone;
        pace = c.forget_told.ensures.pace;
        rest = refl;
        few = c.requires.log x found;
      };
      radio = c.forget.ensures;
      records = refl;
    } in
    subst (λ (written : Written). LetsGoAsTold written c.args.self.now mid c.args.number) (sym c.in-Forgotten.is) gone

pub forget_told-requires-clause-few : goal.forget_told-requires-clause-few
forget_told-requires-clause-few c =
    let motes = c.args.self.now.motes.items in
    let x = c.index_mut.result.now in
    let low : c.from.result < length motes = search rules in
    let few = c.requires.log x (ap (slice_get motes) (sym c.from.ensures) ∙ slice_get-get_or motes c.from.result x low ∙ ap (λ (m : Mote). Some m) (sym c.index_mut.ensures.value)) in
    omega (arith, few)
