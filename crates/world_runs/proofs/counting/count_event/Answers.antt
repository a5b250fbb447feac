use Rattle.std.proofs.Common.{◌≡◌, ◌<◌, ◌+◌, ◌*◌, ◌^◌, ◌++◌, ℕ, List, length, set, take, sym, ◌∙◌, ap, arith}
use Rattle.std.specs.Prelude.{Some, slice_get}
use Rattle.std.proofs.lemmas.List.{take-append-drop}
use Rattle.std.proofs.lemmas.Option.{slice_get-get_or}
use Rattle.mate_journal.specs.declared.air.Aired.{Aired}
use Rattle.report_writer.specs.declared.tally.LogTally.{LogTally}
use Rattle.report_writer.proofs.TallyLemmas.{up-to, air-same, air-up-to}
use Rattle.world_state.specs.declared.mote.Mote.{Mote}
use Rattle.world_runs.proofs.CountingLemmas.{event-counted, event-small}
use Rattle.world_runs.proofs.counting.count_event.Goals as goal

pub index_mut-requires : goal.index_mut-requires
index_mut-requires c = let low = c.requires.node in let count = c.requires.count in let at = c.from-at.ensures in omega (arith, low, count, at)

pub count_kept-requires : goal.count_kept-requires
count_kept-requires c =
    let nodes = c.args.tally.now.nodes.items in
    let own = c.index_mut.result.now in
    let low = c.requires.node in
    let count = c.requires.count in
    let at = c.from-at.ensures in
    let here : c.from-at.result < length nodes = omega (arith, low, count, at) in
    let found : slice_get nodes c.args.node ≡ Some own = ap (slice_get nodes) (sym at) ∙ slice_get-get_or nodes c.from-at.result own here ∙ ap (λ (x : LogTally). Some x) (sym c.index_mut.ensures.value) in
    up-to (2 ^ 56) (2 ^ 63) own (omega arith) (c.requires.few.own own found)

pub add_all-requires : goal.add_all-requires
add_all-requires c = air-up-to (2 ^ 56) (2 ^ 63) c.args.tally.now.air (omega arith) c.requires.few.air

pub returns-clause-counted : goal.returns-clause-counted
returns-clause-counted c = λ n b.
    let nodes = c.args.tally.now.nodes.items in
    let own = c.index_mut.result.now in
    let motes = c.args.sim.now.motes.items in
    let m = c.index-mote.result.now in
    let low = c.requires.node in
    let count = c.requires.count in
    let at = c.from-at.ensures in
    let here : c.from-at.result < length nodes = omega (arith, low, count, at) in
    let there : c.from-at.result < length motes = omega (arith, low, at) in
    let found : slice_get nodes c.args.node ≡ Some own = ap (slice_get nodes) (sym at) ∙ slice_get-get_or nodes c.from-at.result own here ∙ ap (λ (x : LogTally). Some x) (sym c.index_mut.ensures.value) in
    let found_m : slice_get motes c.args.node ≡ Some m = ap (slice_get motes) (sym at) ∙ slice_get-get_or motes c.from-at.result m there ∙ ap (λ (x : Mote). Some x) (sym c.index-mote.ensures) in
    let air = c.args.sim.now.radio.air in
    let gone = c.args.sim.now.radio.gone in
    event-counted c.args.tally.now _ c.args.sim.now c.args.node own c.count_kept.new.tally m (omega (arith, low, count)) found (ap (λ (k : ℕ). set nodes k c.count_kept.new.tally) at) found_m c.count_kept.ensures n b
    (air-same c.add_all.new.self (take gone air ++ c.air.result.now) air (ap (λ (xs : List Aired). take gone air ++ xs) c.air.ensures ∙ take-append-drop gone air) (c.add_all.ensures.tallies (take gone air) b.air))

pub returns-clause-small : goal.returns-clause-small
returns-clause-small c =
    let nodes = c.args.tally.now.nodes.items in
    let own = c.index_mut.result.now in
    let motes = c.args.sim.now.motes.items in
    let m = c.index-mote.result.now in
    let low = c.requires.node in
    let count = c.requires.count in
    let at = c.from-at.ensures in
    let here : c.from-at.result < length nodes = omega (arith, low, count, at) in
    let there : c.from-at.result < length motes = omega (arith, low, at) in
    let found : slice_get nodes c.args.node ≡ Some own = ap (slice_get nodes) (sym at) ∙ slice_get-get_or nodes c.from-at.result own here ∙ ap (λ (x : LogTally). Some x) (sym c.index_mut.ensures.value) in
    let found_m : slice_get motes c.args.node ≡ Some m = ap (slice_get motes) (sym at) ∙ slice_get-get_or motes c.from-at.result m there ∙ ap (λ (x : Mote). Some x) (sym c.index-mote.ensures) in
    event-small c.args.tally.now _ c.args.sim.now c.args.node own c.count_kept.new.tally m (omega (arith, low, count)) found (ap (λ (k : ℕ). set nodes k c.count_kept.new.tally) at) found_m c.count_kept.ensures c.requires.few
    (air-up-to (2 ^ 56 + 2 ^ 57) (3 * 2 ^ 56) c.add_all.new.self (omega arith) (c.add_all.ensures.up (2 ^ 56) c.requires.few.air))
