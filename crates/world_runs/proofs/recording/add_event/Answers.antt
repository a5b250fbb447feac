use Rattle.std.proofs.Common.{◌≡◌, ◌<◌, length, sym, ◌∙◌, ap, arith, rules}
use Rattle.std.specs.Prelude.{Some, slice_get}
use Rattle.std.proofs.lemmas.Option.{slice_get-get_or}
use Rattle.std.proofs.lemmas.Result.{MatchResult-weaker}
use Rattle.world_state.specs.declared.mote.Mote.{Mote}
use Rattle.world_runs.proofs.RecordingLemmas.{event-may, record-low, event-recorded, same-record}
use Rattle.world_runs.proofs.recording.add_event.Goals as goal

pub returns-then-told-ge-ENTRIES_MAX : goal.returns-then-told-ge-ENTRIES_MAX
returns-then-told-ge-ENTRIES_MAX c = same-record c.args.records.now

pub add-requires-clause-node : goal.add-requires-clause-node
add-requires-clause-node c =
    let motes = c.args.sim.now.motes.items in
    let x = c.index-mote.result.now in
    let low : c.from.result < length motes = search rules in
    let found : slice_get motes c.args.node ≡ Some x = ap (slice_get motes) (sym c.from.ensures) ∙ slice_get-get_or motes c.from.result x low ∙ ap (λ (m : Mote). Some m) (sym c.index-mote.ensures) in
    record-low c.args.records.now c.args.sim.now c.args.node c.requires.before c.requires.node x found c.kept.result.now c.kept.ensures.kept

pub add-requires-clause-told : goal.add-requires-clause-told
add-requires-clause-told c =
    let motes = c.args.sim.now.motes.items in
    let x = c.index-mote.result.now in
    let low : c.from.result < length motes = search rules in
    let found : slice_get motes c.args.node ≡ Some x = ap (slice_get motes) (sym c.from.ensures) ∙ slice_get-get_or motes c.from.result x low ∙ ap (λ (m : Mote). Some m) (sym c.index-mote.ensures) in
    let few = c.if-told-ge-ENTRIES_MAX.false in
    let told = c.told.ensures.count in
    event-may c.args.records.now c.args.sim.now c.args.node c.requires.before c.requires.node x found c.kept.result.now c.kept.ensures.kept c.kept.ensures.keeps.tidy.numbered (omega (arith, few, told))

pub returns : goal.returns
returns c =
    let motes = c.args.sim.now.motes.items in
    let x = c.index-mote.result.now in
    let low : c.from.result < length motes = search rules in
    let found : slice_get motes c.args.node ≡ Some x = ap (slice_get motes) (sym c.from.ensures) ∙ slice_get-get_or motes c.from.result x low ∙ ap (λ (m : Mote). Some m) (sym c.index-mote.ensures) in
    MatchResult-weaker c.add.result c.add.ensures
    (λ _ added. event-recorded c.args.records.now c.args.sim.now c.args.node c.requires.before c.requires.node x found c.kept.result.now c.kept.ensures.kept c.add.new.self c.air.result.now c.air.ensures added) (λ _ same. same)
