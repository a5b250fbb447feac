use Rattle.std.proofs.Common.{◌<◌, ℕ, refl, sym, ◌∙◌, subst, arith, rules}
use Rattle.std.proofs.lemmas.Result.{IfOk-from_err}
use Rattle.world_rules.specs.State.{state}
use Rattle.world_run_laws.specs.Coming.{code_world}
use Rattle.world_state.specs.declared.mote.Mote.{Mote}
use Rattle.world_event.specs.Finishing.{HasSettled}
use Rattle.world_event.proofs.NeedLemmas.{event-right, exchange-open, handlers-all, entries-few, tellable, begun-before, wires-here, handled, timely-still, paced-still, described-still, begins-ahead, counts-all}
use Rattle.world_event.proofs.PerformLemmas.{came, performed-by}
use Rattle.world_event.proofs.event.perform.Goals as goal

pub handle-requires-clause-event : goal.handle-requires-clause-event
handle-requires-clause-event c =
    event-right c.args.desc.now c.args.world.now c.args.programs.now c.requires.may.0 c.requires.may.1 c.args.at c.args.event.now c.args.number c.args.radio.now c.args.mote.now c.requires.may.2 c.is_well_formed.ensures (c.states_are_sound.ensures.next c.args.desc.now c.args.world.now c.args.programs.now c.requires.right) (c.states_are_sound.ensures.nodes c.args.desc.now c.args.world.now c.args.programs.now c.requires.right)

pub handle-requires-clause-is_open : goal.handle-requires-clause-is_open
handle-requires-clause-is_open c =
    exchange-open c.args.desc.now c.args.world.now c.args.programs.now c.requires.may.0 c.requires.may.1 c.args.at c.args.event.now c.args.number c.args.radio.now c.args.mote.now c.requires.may.2 c.is_well_formed.ensures (c.states_are_sound.ensures.next c.args.desc.now c.args.world.now c.args.programs.now c.requires.right) (c.states_are_sound.ensures.nodes c.args.desc.now c.args.world.now c.args.programs.now c.requires.right)

pub handle-requires-clause-handlers : goal.handle-requires-clause-handlers
handle-requires-clause-handlers c =
    handlers-all c.args.desc.now c.args.world.now c.args.programs.now c.requires.may.0 c.requires.may.1 c.args.at c.args.event.now c.args.number c.args.radio.now c.args.mote.now c.requires.may.2 c.is_well_formed.ensures (c.states_are_sound.ensures.next c.args.desc.now c.args.world.now c.args.programs.now c.requires.right) (c.states_are_sound.ensures.nodes c.args.desc.now c.args.world.now c.args.programs.now c.requires.right)

pub handle-requires-clause-tellable : goal.handle-requires-clause-tellable
handle-requires-clause-tellable c =
    tellable c.args.desc.now c.args.world.now c.args.programs.now c.requires.may.0 c.requires.may.1 c.args.at c.args.event.now c.args.number c.args.radio.now c.args.mote.now c.requires.may.2 c.is_well_formed.ensures (c.states_are_sound.ensures.next c.args.desc.now c.args.world.now c.args.programs.now c.requires.right) (c.states_are_sound.ensures.nodes c.args.desc.now c.args.world.now c.args.programs.now c.requires.right)

pub handle-requires-clause-few : goal.handle-requires-clause-few
handle-requires-clause-few c =
    let few = entries-few c.args.desc.now c.args.world.now c.args.programs.now c.requires.may.0 c.requires.may.1 c.args.at c.args.event.now c.args.number c.args.radio.now c.args.mote.now c.requires.may.2 c.is_well_formed.ensures (c.states_are_sound.ensures.next c.args.desc.now c.args.world.now c.args.programs.now c.requires.right) (c.states_are_sound.ensures.nodes c.args.desc.now c.args.world.now c.args.programs.now c.requires.right) in
    omega (arith, few)

pub handle-requires-clause-within : goal.handle-requires-clause-within
handle-requires-clause-within c =
    begun-before c.args.desc.now c.args.world.now c.args.programs.now c.requires.may.0 c.requires.may.1 c.args.at c.args.event.now c.args.number c.args.radio.now c.args.mote.now c.requires.may.2 c.is_well_formed.ensures (c.states_are_sound.ensures.next c.args.desc.now c.args.world.now c.args.programs.now c.requires.right) (c.states_are_sound.ensures.nodes c.args.desc.now c.args.world.now c.args.programs.now c.requires.right)

pub have_turns-requires-clause-timely : goal.have_turns-requires-clause-timely
have_turns-requires-clause-timely c =
    timely-still c.args.desc.now c.args.world.now c.args.programs.now c.requires.may.0 c.requires.may.1 c.args.at c.args.event.now c.args.number c.args.radio.now c.args.mote.now c.requires.may.2 c.is_well_formed.ensures (c.states_are_sound.ensures.next c.args.desc.now c.args.world.now c.args.programs.now c.requires.right) (c.states_are_sound.ensures.nodes c.args.desc.now c.args.world.now c.args.programs.now c.requires.right) c.handle.new.mote c.handle.new.effect c.in_ok-handle.ensures.handled

pub have_turns-requires-clause-paced : goal.have_turns-requires-clause-paced
have_turns-requires-clause-paced c =
    paced-still c.args.desc.now c.args.world.now c.args.programs.now c.requires.may.0 c.requires.may.1 c.args.at c.args.event.now c.args.number c.args.radio.now c.args.mote.now c.requires.may.2 c.is_well_formed.ensures (c.states_are_sound.ensures.next c.args.desc.now c.args.world.now c.args.programs.now c.requires.right) (c.states_are_sound.ensures.nodes c.args.desc.now c.args.world.now c.args.programs.now c.requires.right) c.handle.new.mote c.handle.new.effect c.in_ok-handle.ensures.handled

pub finish-requires-clause-machine : goal.finish-requires-clause-machine
finish-requires-clause-machine c =
    c.in_ok-have_turns.ensures.tells.description ∙ described-still c.args.desc.now c.args.world.now c.args.programs.now c.requires.may.0 c.requires.may.1 c.args.at c.args.event.now c.args.number c.args.radio.now c.args.mote.now c.requires.may.2 c.is_well_formed.ensures (c.states_are_sound.ensures.next c.args.desc.now c.args.world.now c.args.programs.now c.requires.right) (c.states_are_sound.ensures.nodes c.args.desc.now c.args.world.now c.args.programs.now c.requires.right) c.handle.new.mote c.handle.new.effect c.in_ok-handle.ensures.handled

pub finish-requires-clause-few : goal.finish-requires-clause-few
finish-requires-clause-few c =
    let few = entries-few c.args.desc.now c.args.world.now c.args.programs.now c.requires.may.0 c.requires.may.1 c.args.at c.args.event.now c.args.number c.args.radio.now c.args.mote.now c.requires.may.2 c.is_well_formed.ensures (c.states_are_sound.ensures.next c.args.desc.now c.args.world.now c.args.programs.now c.requires.right) (c.states_are_sound.ensures.nodes c.args.desc.now c.args.world.now c.args.programs.now c.requires.right) in
    omega (arith, few)

pub finish-requires-clause-wires : goal.finish-requires-clause-wires
finish-requires-clause-wires c =
    let low : c.args.number < 256 = search rules in
    wires-here c.args.desc.now c.args.world.now c.args.programs.now c.requires.may.0 c.requires.may.1 c.args.at c.args.event.now c.args.number c.args.radio.now c.args.mote.now c.requires.may.2 c.is_well_formed.ensures (c.states_are_sound.ensures.next c.args.desc.now c.args.world.now c.args.programs.now c.requires.right) (c.states_are_sound.ensures.nodes c.args.desc.now c.args.world.now c.args.programs.now c.requires.right) c.requires.right.world low

pub finish-requires-clause-interval : goal.finish-requires-clause-interval
finish-requires-clause-interval c =
    begins-ahead c.args.desc.now c.args.world.now c.args.programs.now c.requires.may.0 c.requires.may.1 c.args.at c.args.event.now c.args.number c.args.radio.now c.args.mote.now c.requires.may.2 c.is_well_formed.ensures (c.states_are_sound.ensures.next c.args.desc.now c.args.world.now c.args.programs.now c.requires.right) (c.states_are_sound.ensures.nodes c.args.desc.now c.args.world.now c.args.programs.now c.requires.right) c.handle.new.mote c.handle.new.effect c.in_ok-handle.ensures.handled

pub finish-requires-clause-counts : goal.finish-requires-clause-counts
finish-requires-clause-counts c =
    counts-all c.args.desc.now c.args.world.now c.args.programs.now c.requires.may.0 c.requires.may.1 c.args.at c.args.event.now c.args.number c.args.radio.now c.args.mote.now c.requires.may.2 c.is_well_formed.ensures (c.states_are_sound.ensures.next c.args.desc.now c.args.world.now c.args.programs.now c.requires.right) (c.states_are_sound.ensures.nodes c.args.desc.now c.args.world.now c.args.programs.now c.requires.right) c.handle.new.mote c.handle.new.effect c.in_ok-handle.ensures.handled

pub returns-clause-performed : goal.returns-clause-performed
returns-clause-performed c = λ ms cause may.
    let own = handled c.args.desc.now c.args.world.now c.args.programs.now ms cause c.args.at c.args.event.now c.args.number c.args.radio.now c.args.mote.now may c.is_well_formed.ensures (c.states_are_sound.ensures.next c.args.desc.now c.args.world.now c.args.programs.now c.requires.right) (c.states_are_sound.ensures.nodes c.args.desc.now c.args.world.now c.args.programs.now c.requires.right) c.handle.new.mote c.handle.new.effect c.in_ok-handle.ensures.handled in
    let settled : Mote = record c.handle.new.mote { node = c.have_turns.new.node } in
    performed-by c.args.desc.now c.args.world.now c.args.programs.now ms cause c.args.at c.args.event.now c.args.number c.args.radio.now c.finish.new.radio c.args.mote.now c.handle.new.mote c.finish.new.mote c.handle.new.effect c.have_turns.new.node
    may own c.in_ok-have_turns.ensures.tells c.in_ok-have_turns.ensures.apart c.in_ok-have_turns.ensures.awaited
    (λ q taken ended. c.in_ok-finish.ensures c.args.programs.now (state (code_world c.args.desc.now c.args.world.now c.args.programs.now) ms) (came c.args.at.time cause own.tells.told c.in_ok-have_turns.ensures.tells.told q) refl may.cause may.node taken
    (subst (λ (n : ℕ). HasSettled (code_world c.args.desc.now c.args.world.now c.args.programs.now) (state (code_world c.args.desc.now c.args.world.now c.args.programs.now) ms) (came c.args.at.time cause own.tells.told c.in_ok-have_turns.ensures.tells.told q) n (record c.handle.new.mote { node = c.have_turns.new.node }) c.handle.new.effect) (sym c.told-from.ensures.count) ended))

pub returns-in_err-handle-clause-performed : goal.returns-in_err-handle-clause-performed
returns-in_err-handle-clause-performed c = IfOk-from_err _ _ c.from_residual.ensures.0

pub returns-in_err-have_turns-clause-performed : goal.returns-in_err-have_turns-clause-performed
returns-in_err-have_turns-clause-performed c = IfOk-from_err _ _ c.from_residual-in_err-have_turns.ensures.0

pub returns-in_err-finish-clause-performed : goal.returns-in_err-finish-clause-performed
returns-in_err-finish-clause-performed c = IfOk-from_err _ _ c.from_residual-in_err-finish.ensures.0

pub finish-requires-clause-right : goal.finish-requires-clause-right
finish-requires-clause-right c = c.in_ok-handle.ensures.right
