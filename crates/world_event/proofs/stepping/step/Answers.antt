use Rattle.std.proofs.Common.{◌≡◌, ℕ, ◌<◌, List, length, drop, get_or, set, All, refl, sym, ◌∙◌, ap, subst, arith, rules}
use Rattle.std.specs.Prelude.{Some, slice_get}
use Rattle.std.proofs.lemmas.Option.{slice_get-get_or}
use Rattle.mate_journal.specs.Ranges.{HasAiredRanges}
use Rattle.mate_journal.specs.declared.air.Aired.{Aired}
use Rattle.world_state.specs.declared.mote.Mote.{Mote}
use Rattle.world_run_laws.specs.Coming.{code_world}
use Rattle.world_state.proofs.KeepingLemmas.{few-stand, stands-still, kept-still}
use Rattle.world_event.proofs.AddingLemmas.{piece-adds}
use Rattle.world_state.proofs.MotesLemmas.{kept-set, first-mote, at-mote}
use Rattle.world_state.proofs.RangeLemmas.{told-ranges, event-ranges}
use Rattle.world_event.proofs.StepLemmas.{placed, of-mote, has-more, stands-after, well-of}
use Rattle.world_event.proofs.stepping.step.Goals as goal

pub node_of-number-requires : goal.node_of-number-requires
node_of-number-requires c = (placed c.args.desc.now c.args.world.now c.args.programs.now c.args.event.now c.args.at c.args.sim.now (c.states_are_sound.ensures.next c.args.desc.now c.args.world.now c.args.programs.now c.requires.right) (c.states_are_sound.ensures.dues c.args.desc.now c.args.world.now c.args.programs.now c.requires.right) c.requires.stands).names

pub let_go-requires-clause-node : goal.let_go-requires-clause-node
let_go-requires-clause-node c =
    let w = code_world c.args.desc.now c.args.world.now c.args.programs.now in
    let place = placed c.args.desc.now c.args.world.now c.args.programs.now c.args.event.now c.args.at c.args.sim.now (c.states_are_sound.ensures.next c.args.desc.now c.args.world.now c.args.programs.now c.requires.right) (c.states_are_sound.ensures.dues c.args.desc.now c.args.world.now c.args.programs.now c.requires.right) c.requires.stands in
    let below = place.low in
    let is = c.node_of-number.ensures in
    let count = c.requires.stands.nodes in
    let within : c.node_of-number.result < c.args.world.now.nodes = omega (arith, below, is) in
    let low : c.node_of-number.result < length c.args.sim.now.motes.items = omega (arith, within, count) in
    low

pub let_go-requires-clause-log : goal.let_go-requires-clause-log
let_go-requires-clause-log c = λ mote found.
    let w = code_world c.args.desc.now c.args.world.now c.args.programs.now in
    let place = placed c.args.desc.now c.args.world.now c.args.programs.now c.args.event.now c.args.at c.args.sim.now (c.states_are_sound.ensures.next c.args.desc.now c.args.world.now c.args.programs.now c.requires.right) (c.states_are_sound.ensures.dues c.args.desc.now c.args.world.now c.args.programs.now c.requires.right) c.requires.stands in
    let below = place.low in
    let is = c.node_of-number.ensures in
    let count = c.requires.stands.nodes in
    let within : c.node_of-number.result < c.args.world.now.nodes = omega (arith, below, is) in
    let low : c.node_of-number.result < length c.args.sim.now.motes.items = omega (arith, within, count) in
    let few = few-stand w c.args.event.now c.args.at c.args.sim.now c.node_of-number.result mote c.requires.stands within found in
    omega (arith, few)

pub let_go-requires-clause-air : goal.let_go-requires-clause-air
let_go-requires-clause-air c =
    let w = code_world c.args.desc.now c.args.world.now c.args.programs.now in
    let place = placed c.args.desc.now c.args.world.now c.args.programs.now c.args.event.now c.args.at c.args.sim.now (c.states_are_sound.ensures.next c.args.desc.now c.args.world.now c.args.programs.now c.requires.right) (c.states_are_sound.ensures.dues c.args.desc.now c.args.world.now c.args.programs.now c.requires.right) c.requires.stands in
    let below = place.low in
    let is = c.node_of-number.ensures in
    let count = c.requires.stands.nodes in
    let within : c.node_of-number.result < c.args.world.now.nodes = omega (arith, below, is) in
    let low : c.node_of-number.result < length c.args.sim.now.motes.items = omega (arith, within, count) in
    let few = few-stand w c.args.event.now c.args.at c.args.sim.now c.node_of-number.result (first-mote c.args.sim.now.motes.items c.node_of-number.result low) c.requires.stands within (at-mote c.args.sim.now.motes.items c.node_of-number.result low) in
    omega (arith, few)

pub index_mut-mote-requires : goal.index_mut-mote-requires
index_mut-mote-requires c =
    let w = code_world c.args.desc.now c.args.world.now c.args.programs.now in
    let place = placed c.args.desc.now c.args.world.now c.args.programs.now c.args.event.now c.args.at c.args.sim.now (c.states_are_sound.ensures.next c.args.desc.now c.args.world.now c.args.programs.now c.requires.right) (c.states_are_sound.ensures.dues c.args.desc.now c.args.world.now c.args.programs.now c.requires.right) c.requires.stands in
    let below = place.low in
    let is = c.node_of-number.ensures in
    let count = c.requires.stands.nodes in
    let within : c.node_of-number.result < c.args.world.now.nodes = omega (arith, below, is) in
    let low : c.node_of-number.result < length c.args.sim.now.motes.items = omega (arith, within, count) in
    let s = c.let_go.new.self in
    let b = stands-still c.args.written c.args.sim.now s c.node_of-number.result w c.args.event.now c.args.at c.let_go.ensures.lets_go low c.requires.stands in
    let from = c.from.ensures in
    let nodes = b.nodes in
    let high : c.from.result < length s.motes.items = omega (arith, within, from, nodes) in
    search rules

pub perform-requires-clause-may : goal.perform-requires-clause-may
perform-requires-clause-may c =
    let w = code_world c.args.desc.now c.args.world.now c.args.programs.now in
    let place = placed c.args.desc.now c.args.world.now c.args.programs.now c.args.event.now c.args.at c.args.sim.now (c.states_are_sound.ensures.next c.args.desc.now c.args.world.now c.args.programs.now c.requires.right) (c.states_are_sound.ensures.dues c.args.desc.now c.args.world.now c.args.programs.now c.requires.right) c.requires.stands in
    let below = place.low in
    let is = c.node_of-number.ensures in
    let count = c.requires.stands.nodes in
    let within : c.node_of-number.result < c.args.world.now.nodes = omega (arith, below, is) in
    let low : c.node_of-number.result < length c.args.sim.now.motes.items = omega (arith, within, count) in
    let s = c.let_go.new.self in
    let b = stands-still c.args.written c.args.sim.now s c.node_of-number.result w c.args.event.now c.args.at c.let_go.ensures.lets_go low c.requires.stands in
    let x = c.index_mut-mote.result.now in
    let own = of-mote c.args.desc.now c.args.world.now c.args.programs.now c.args.event.now c.args.at s c.from.result c.node_of-number.result x (c.states_are_sound.ensures.next c.args.desc.now c.args.world.now c.args.programs.now c.requires.right) (c.states_are_sound.ensures.dues c.args.desc.now c.args.world.now c.args.programs.now c.requires.right) b c.node_of-number.ensures c.from.ensures c.index_mut-mote.ensures.value in
    (b.moments, b.cause, own.may)

pub overflow_sub-told : goal.overflow_sub-told
overflow_sub-told c =
    let w = code_world c.args.desc.now c.args.world.now c.args.programs.now in
    let place = placed c.args.desc.now c.args.world.now c.args.programs.now c.args.event.now c.args.at c.args.sim.now (c.states_are_sound.ensures.next c.args.desc.now c.args.world.now c.args.programs.now c.requires.right) (c.states_are_sound.ensures.dues c.args.desc.now c.args.world.now c.args.programs.now c.requires.right) c.requires.stands in
    let below = place.low in
    let is = c.node_of-number.ensures in
    let count = c.requires.stands.nodes in
    let within : c.node_of-number.result < c.args.world.now.nodes = omega (arith, below, is) in
    let low : c.node_of-number.result < length c.args.sim.now.motes.items = omega (arith, within, count) in
    let s = c.let_go.new.self in
    let b = stands-still c.args.written c.args.sim.now s c.node_of-number.result w c.args.event.now c.args.at c.let_go.ensures.lets_go low c.requires.stands in
    let x = c.index_mut-mote.result.now in
    let own = of-mote c.args.desc.now c.args.world.now c.args.programs.now c.args.event.now c.args.at s c.from.result c.node_of-number.result x (c.states_are_sound.ensures.next c.args.desc.now c.args.world.now c.args.programs.now c.requires.right) (c.states_are_sound.ensures.dues c.args.desc.now c.args.world.now c.args.programs.now c.requires.right) b c.node_of-number.ensures c.from.ensures c.index_mut-mote.ensures.value in
    let y = c.perform.new.mote in
    let p = c.in_ok-perform.ensures.performed b.moments b.cause own.may in
    let more = has-more w b.moments b.cause c.node_of-number.result c.args.event.now c.args.at s.radio c.perform.new.radio x y own.may p in
    let told = more.told_more in
    let old = c.told-entries.ensures in
    let new = c.told.ensures in
    omega (arith, told, old, new)

pub overflow_sub-aired : goal.overflow_sub-aired
overflow_sub-aired c =
    let w = code_world c.args.desc.now c.args.world.now c.args.programs.now in
    let place = placed c.args.desc.now c.args.world.now c.args.programs.now c.args.event.now c.args.at c.args.sim.now (c.states_are_sound.ensures.next c.args.desc.now c.args.world.now c.args.programs.now c.requires.right) (c.states_are_sound.ensures.dues c.args.desc.now c.args.world.now c.args.programs.now c.requires.right) c.requires.stands in
    let below = place.low in
    let is = c.node_of-number.ensures in
    let count = c.requires.stands.nodes in
    let within : c.node_of-number.result < c.args.world.now.nodes = omega (arith, below, is) in
    let low : c.node_of-number.result < length c.args.sim.now.motes.items = omega (arith, within, count) in
    let s = c.let_go.new.self in
    let b = stands-still c.args.written c.args.sim.now s c.node_of-number.result w c.args.event.now c.args.at c.let_go.ensures.lets_go low c.requires.stands in
    let x = c.index_mut-mote.result.now in
    let own = of-mote c.args.desc.now c.args.world.now c.args.programs.now c.args.event.now c.args.at s c.from.result c.node_of-number.result x (c.states_are_sound.ensures.next c.args.desc.now c.args.world.now c.args.programs.now c.requires.right) (c.states_are_sound.ensures.dues c.args.desc.now c.args.world.now c.args.programs.now c.requires.right) b c.node_of-number.ensures c.from.ensures c.index_mut-mote.ensures.value in
    let y = c.perform.new.mote in
    let p = c.in_ok-perform.ensures.performed b.moments b.cause own.may in
    let more = has-more w b.moments b.cause c.node_of-number.result c.args.event.now c.args.at s.radio c.perform.new.radio x y own.may p in
    let aired = more.aired_more in
    let old = c.aired-air.ensures in
    let new = c.aired.ensures in
    omega (arith, aired, old, new)

pub returns-clause-stands : goal.returns-clause-stands
returns-clause-stands c =
    let w = code_world c.args.desc.now c.args.world.now c.args.programs.now in
    let place = placed c.args.desc.now c.args.world.now c.args.programs.now c.args.event.now c.args.at c.args.sim.now (c.states_are_sound.ensures.next c.args.desc.now c.args.world.now c.args.programs.now c.requires.right) (c.states_are_sound.ensures.dues c.args.desc.now c.args.world.now c.args.programs.now c.requires.right) c.requires.stands in
    let below = place.low in
    let is = c.node_of-number.ensures in
    let count = c.requires.stands.nodes in
    let within : c.node_of-number.result < c.args.world.now.nodes = omega (arith, below, is) in
    let low : c.node_of-number.result < length c.args.sim.now.motes.items = omega (arith, within, count) in
    let s = c.let_go.new.self in
    let b = stands-still c.args.written c.args.sim.now s c.node_of-number.result w c.args.event.now c.args.at c.let_go.ensures.lets_go low c.requires.stands in
    let x = c.index_mut-mote.result.now in
    let own = of-mote c.args.desc.now c.args.world.now c.args.programs.now c.args.event.now c.args.at s c.from.result c.node_of-number.result x (c.states_are_sound.ensures.next c.args.desc.now c.args.world.now c.args.programs.now c.requires.right) (c.states_are_sound.ensures.dues c.args.desc.now c.args.world.now c.args.programs.now c.requires.right) b c.node_of-number.ensures c.from.ensures c.index_mut-mote.ensures.value in
    let y = c.perform.new.mote in
    let p = c.in_ok-perform.ensures.performed b.moments b.cause own.may in
    let more = has-more w b.moments b.cause c.node_of-number.result c.args.event.now c.args.at s.radio c.perform.new.radio x y own.may p in
    let told = more.told_more in
    let aired = more.aired_more in
    let records = more.records in
    let before = b.records in
    let old = c.told-entries.ensures in
    let new = c.told.ensures in
    let air_old = c.aired-air.ensures in
    let air_new = c.aired.ensures in
    let sum = c.in_ok-sim.ensures in
    stands-after c.args.desc.now c.args.world.now c.args.programs.now c.args.event.now c.args.at s _ c.node_of-number.result x y b own.low own.may p
    (well-of c.args.desc.now y.node _ p.mote.is.description c.kept-after.ensures.keeps p.mote.journal)
    (ap (λ (n : ℕ). set s.motes.items n y) c.from.ensures)
    (omega (arith, told, aired, records, before, old, new, air_old, air_new, sum))

pub returns-clause-adds : goal.returns-clause-adds
returns-clause-adds c =
    let w = code_world c.args.desc.now c.args.world.now c.args.programs.now in
    let place = placed c.args.desc.now c.args.world.now c.args.programs.now c.args.event.now c.args.at c.args.sim.now (c.states_are_sound.ensures.next c.args.desc.now c.args.world.now c.args.programs.now c.requires.right) (c.states_are_sound.ensures.dues c.args.desc.now c.args.world.now c.args.programs.now c.requires.right) c.requires.stands in
    let below = place.low in
    let is = c.node_of-number.ensures in
    let count = c.requires.stands.nodes in
    let within : c.node_of-number.result < c.args.world.now.nodes = omega (arith, below, is) in
    let low : c.node_of-number.result < length c.args.sim.now.motes.items = omega (arith, within, count) in
    let s = c.let_go.new.self in
    let b = stands-still c.args.written c.args.sim.now s c.node_of-number.result w c.args.event.now c.args.at c.let_go.ensures.lets_go low c.requires.stands in
    let x = c.index_mut-mote.result.now in
    let own = of-mote c.args.desc.now c.args.world.now c.args.programs.now c.args.event.now c.args.at s c.from.result c.node_of-number.result x (c.states_are_sound.ensures.next c.args.desc.now c.args.world.now c.args.programs.now c.requires.right) (c.states_are_sound.ensures.dues c.args.desc.now c.args.world.now c.args.programs.now c.requires.right) b c.node_of-number.ensures c.from.ensures c.index_mut-mote.ensures.value in
    let y = c.perform.new.mote in
    let p = c.in_ok-perform.ensures.performed b.moments b.cause own.may in
    let more = has-more w b.moments b.cause c.node_of-number.result c.args.event.now c.args.at s.radio c.perform.new.radio x y own.may p in
    let nodes = b.nodes in
    let high : c.node_of-number.result < length s.motes.items = omega (arith, within, nodes) in record {
      mid = s;
      lets_go = c.let_go.ensures.lets_go;
      adds =
          piece-adds w (c.text_grows_by_events.ensures.events w) c.args.desc.now c.args.world.now c.args.programs.now c.args.event.now c.args.at s c.node_of-number.result x y c.perform.new.radio b own.may p high c.kept-before.ensures.keeps.tidy.numbered
          c.kept-after.ensures.keeps.tidy.numbered (ap (λ (n : ℕ). get_or s.motes.items n x) (sym c.from.ensures) ∙ sym c.index_mut-mote.ensures.value) _ refl (ap (λ (n : ℕ). set s.motes.items n y) c.from.ensures);
    }

pub returns-clause-kept : goal.returns-clause-kept
returns-clause-kept c = λ kept.
    let w = code_world c.args.desc.now c.args.world.now c.args.programs.now in
    let place = placed c.args.desc.now c.args.world.now c.args.programs.now c.args.event.now c.args.at c.args.sim.now (c.states_are_sound.ensures.next c.args.desc.now c.args.world.now c.args.programs.now c.requires.right) (c.states_are_sound.ensures.dues c.args.desc.now c.args.world.now c.args.programs.now c.requires.right) c.requires.stands in
    let below = place.low in
    let is = c.node_of-number.ensures in
    let count = c.requires.stands.nodes in
    let within : c.node_of-number.result < c.args.world.now.nodes = omega (arith, below, is) in
    let low : c.node_of-number.result < length c.args.sim.now.motes.items = omega (arith, within, count) in
    let s = c.let_go.new.self in
    let b = stands-still c.args.written c.args.sim.now s c.node_of-number.result w c.args.event.now c.args.at c.let_go.ensures.lets_go low c.requires.stands in
    let x = c.index_mut-mote.result.now in
    let nodes = b.nodes in
    let from = c.from.ensures in
    let high : c.from.result < length s.motes.items = omega (arith, within, nodes, from) in
    let found : slice_get s.motes.items c.node_of-number.result ≡ Some x =
    ap (slice_get s.motes.items) (sym from) ∙ slice_get-get_or s.motes.items c.from.result x high ∙ ap (λ (m : Mote). Some m) (sym c.index_mut-mote.ensures.value) in
    kept-set s.motes.items c.from.result c.perform.new.mote (kept-still c.args.written c.args.sim.now s c.node_of-number.result x c.let_go.ensures.lets_go found low c.kept-before.ensures.keeps kept) c.kept-after.ensures.keeps

pub returns-clause-ranges : goal.returns-clause-ranges
unfolding returns-clause-adds
returns-clause-ranges c = λ has.
    let w = code_world c.args.desc.now c.args.world.now c.args.programs.now in
    let place = placed c.args.desc.now c.args.world.now c.args.programs.now c.args.event.now c.args.at c.args.sim.now (c.states_are_sound.ensures.next c.args.desc.now c.args.world.now c.args.programs.now c.requires.right) (c.states_are_sound.ensures.dues c.args.desc.now c.args.world.now c.args.programs.now c.requires.right) c.requires.stands in
    let below = place.low in
    let is = c.node_of-number.ensures in
    let count = c.requires.stands.nodes in
    let within : c.node_of-number.result < c.args.world.now.nodes = omega (arith, below, is) in
    let low : c.node_of-number.result < length c.args.sim.now.motes.items = omega (arith, within, count) in
    let s = c.let_go.new.self in
    let b = stands-still c.args.written c.args.sim.now s c.node_of-number.result w c.args.event.now c.args.at c.let_go.ensures.lets_go low c.requires.stands in
    let x = c.index_mut-mote.result.now in
    let y = c.perform.new.mote in
    let nodes = b.nodes in
    let from = c.from.ensures in
    let high : c.from.result < length s.motes.items = omega (arith, within, nodes, from) in
    let found : slice_get s.motes.items c.node_of-number.result ≡ Some x =
    ap (slice_get s.motes.items) (sym from) ∙ slice_get-get_or s.motes.items c.from.result x high ∙ ap (λ (m : Mote). Some m) (sym c.index_mut-mote.ensures.value) in
    let a = returns-clause-adds c in
    event-ranges c.args.at.event c.node_of-number.result s _ a.adds x y found (ap (λ (n : ℕ). set s.motes.items n y) c.from.ensures) c.kept-before.result.now c.kept-after.result.now c.of-size.result (length c.air-heard.result.now) c.kept-before.ensures.kept
    c.of-size.ensures c.kept-after.ensures.kept c.log_is_in_range_from.ensures (ap (λ (xs : List Aired). length xs) c.air-heard.ensures)
    (subst (λ (xs : List Aired). All HasAiredRanges (drop (length c.air-heard.result.now) xs)) c.air.ensures c.air_is_in_range_from.ensures)
    (told-ranges c.args.written c.args.sim.now s c.node_of-number.result c.let_go.ensures.lets_go has)
