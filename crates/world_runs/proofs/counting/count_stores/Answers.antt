use Rattle.std.proofs.Common.{◌≡◌, ◌<◌, ◌+◌, ℕ, List, length, set, refl, sym, ◌∙◌, ap, subst, arith}
use Rattle.std.specs.Prelude.{Some, slice_get}
use Rattle.std.proofs.lemmas.Option.{slice_get-get_or}
use Rattle.report_writer.specs.declared.tally.LogTally.{LogTally}
use Rattle.world_state.specs.declared.mote.Mote.{Mote}
use Rattle.world_runs.proofs.CountingLemmas.{StoresCounted, none-counted, store-few, store-counted, stores-counted, stores-small}
use Rattle.world_runs.proofs.counting.count_stores.Goals as goal

pub loop-mote-init : goal.loop-mote-init
loop-mote-init c = record { node = refl; counted = none-counted c.args.tallies.now.items c.args.motes.now }

pub index_mut-requires : goal.index_mut-requires
index_mut-requires c =
    let below = c.loop-mote-test.true in
    let count = c.loop-mote.invariant.counted.count in
    let same = c.requires.count in
    let at = c.loop-mote.invariant.node in
    omega (arith, below, count, same, at)

pub count_kept-requires : goal.count_kept-requires
count_kept-requires c =
    let now = c.loop-mote.tallies.items in
    let own = c.index_mut.result.now in
    let below = c.loop-mote-test.true in
    let count = c.loop-mote.invariant.counted.count in
    let same = c.requires.count in
    let at = c.loop-mote.invariant.node in
    let low : c.loop-mote.node < length now = omega (arith, below, count, same, at) in
    let found : slice_get now c.loop-mote.node ≡ Some own = slice_get-get_or now c.loop-mote.node own low ∙ ap (λ (x : LogTally). Some x) (sym c.index_mut.ensures.value) in
    store-few c.args.tallies.now.items now c.args.motes.now c.loop-mote.mote-index own c.loop-mote.invariant.counted c.requires.few (subst (λ (k : ℕ). slice_get now k ≡ Some own) at found)

pub loop-mote-preserved : goal.loop-mote-preserved
loop-mote-preserved c =
    let now = c.loop-mote.tallies.items in
    let own = c.index_mut.result.now in
    let m = c.mote-item.result in
    let below = c.loop-mote-test.true in
    let count = c.loop-mote.invariant.counted.count in
    let same = c.requires.count in
    let at = c.loop-mote.invariant.node in
    let low : c.loop-mote.node < length now = omega (arith, below, count, same, at) in
    let found : slice_get now c.loop-mote.node ≡ Some own = slice_get-get_or now c.loop-mote.node own low ∙ ap (λ (x : LogTally). Some x) (sym c.index_mut.ensures.value) in
    let new : List LogTally = set now c.loop-mote.node c.count_kept.new.tally in
    let here : slice_get c.args.motes.now c.loop-mote.mote-index ≡ Some m = slice_get-get_or c.args.motes.now c.loop-mote.mote-index m below ∙ ap (λ (x : Mote). Some x) (sym c.mote-item.is) in
    record {
      node = omega (arith, at);
      counted = subst (λ (k : ℕ). StoresCounted (k + 1) c.args.tallies.now.items new c.args.motes.now) at
          (store-counted c.args.tallies.now.items now new c.args.motes.now c.loop-mote.node own c.count_kept.new.tally m
          (subst (λ (k : ℕ). StoresCounted k c.args.tallies.now.items now c.args.motes.now) (sym at) c.loop-mote.invariant.counted) low found
          (subst (λ (k : ℕ). slice_get c.args.motes.now k ≡ Some m) (sym at) here) refl c.count_kept.ensures);
    }

pub returns-clause-counted : goal.returns-clause-counted
returns-clause-counted c = λ n behind.
    let all = c.loop-mote-test.false in
    stores-counted n c.loop-mote.mote-index c.args.tallies.now.items c.loop-mote.tallies.items c.args.motes.now c.loop-mote.invariant.counted (omega (arith, all)) behind

pub returns-clause-small : goal.returns-clause-small
returns-clause-small c =
    let all = c.loop-mote-test.false in
    stores-small c.loop-mote.mote-index c.args.tallies.now.items c.loop-mote.tallies.items c.args.motes.now c.loop-mote.invariant.counted (omega (arith, all)) c.requires.count c.requires.few
