use Rattle.std.proofs.Common.{◌≡◌, ℕ, List, [], refl, sym, ◌∙◌, ap, subst, arith}
use Rattle.std.specs.Prelude.{Some, slice_get}
use Rattle.std.proofs.lemmas.Option.{slice_get-get_or}
use Rattle.std.proofs.lemmas.Result.{MatchResult-from_err}
use Rattle.mate_journal.specs.declared.air.Aired.{Aired}
use Rattle.world_runs.specs.Records.{MayAdd, HasAdded, HasRoomFor, OthersStay}
use Rattle.world_state.specs.Reporting.{mote_logs}
use Rattle.world_state.specs.declared.mote.Mote.{Mote}
use Rattle.world_runs.specs.Recording.{IsRecordOf}
use Rattle.world_runs.proofs.RecordingLemmas.{none-added, behind-as, store-low, store-may, store-room, store-added, stores-recorded}
use Rattle.world_runs.proofs.recording.add_stores.Goals as goal

pub returns-in_err-reserve : goal.returns-in_err-reserve
returns-in_err-reserve c = MatchResult-from_err c.from_residual.result _ _ c.from_residual.ensures.0 (λ _. c.in_err-reserve.ensures.same)

pub loop-mote-init : goal.loop-mote-init
loop-mote-init c = record { node = refl; added = none-added c.reserve.new.self c.args.motes.now }

pub add_within-requires-clause-node : goal.add_within-requires-clause-node
add_within-requires-clause-node c =
    let k = c.loop-mote.mote-index in
    let old = c.reserve.new.self in
    let m = c.mote-item.result in
    let found : slice_get c.args.motes.now k ≡ Some m = slice_get-get_or c.args.motes.now k m c.loop-mote-test.true ∙ ap (λ (x : Mote). Some x) (sym c.mote-item.is) in
    let at = c.loop-mote.invariant.node in
    let low = store-low old c.loop-mote.records c.args.motes.now k c.loop-mote.invariant.added (behind-as c.args.records.now old c.args.motes.now c.in_ok-reserve.ensures.same c.requires.before) m found c.kept.result.now c.kept.ensures.kept in
    omega (arith, low, at)

pub add_within-requires-clause-told : goal.add_within-requires-clause-told
add_within-requires-clause-told c =
    let k = c.loop-mote.mote-index in
    let old = c.reserve.new.self in
    let m = c.mote-item.result in
    let found : slice_get c.args.motes.now k ≡ Some m = slice_get-get_or c.args.motes.now k m c.loop-mote-test.true ∙ ap (λ (x : Mote). Some x) (sym c.mote-item.is) in
    let may = store-may old c.loop-mote.records c.args.motes.now k c.loop-mote.invariant.added (behind-as c.args.records.now old c.args.motes.now c.in_ok-reserve.ensures.same c.requires.before) m found c.kept.result.now c.kept.ensures.kept in
    subst (λ (n : ℕ). MayAdd c.loop-mote.records n c.kept.result.now) (sym c.loop-mote.invariant.node) may

pub add_within-requires-clause-room : goal.add_within-requires-clause-room
add_within-requires-clause-room c =
    let k = c.loop-mote.mote-index in
    let old = c.reserve.new.self in
    let m = c.mote-item.result in
    let found : slice_get c.args.motes.now k ≡ Some m = slice_get-get_or c.args.motes.now k m c.loop-mote-test.true ∙ ap (λ (x : Mote). Some x) (sym c.mote-item.is) in
    let room = store-room old c.loop-mote.records c.args.motes.now k c.loop-mote.invariant.added (behind-as c.args.records.now old c.args.motes.now c.in_ok-reserve.ensures.same c.requires.before) m found c.kept.result.now c.kept.ensures.kept
    c.in_ok-reserve.ensures.room in
    subst (λ (n : ℕ). HasRoomFor c.loop-mote.records n c.kept.result.now) (sym c.loop-mote.invariant.node) room

pub loop-mote-preserved : goal.loop-mote-preserved
loop-mote-preserved c =
    let k = c.loop-mote.mote-index in
    let old = c.reserve.new.self in
    let m = c.mote-item.result in
    let found : slice_get c.args.motes.now k ≡ Some m = slice_get-get_or c.args.motes.now k m c.loop-mote-test.true ∙ ap (λ (x : Mote). Some x) (sym c.mote-item.is) in
    let at = c.loop-mote.invariant.node in
    record {
      node = omega (arith, at);
      added = store-added old c.loop-mote.records c.args.motes.now k c.loop-mote.invariant.added (behind-as c.args.records.now old c.args.motes.now c.in_ok-reserve.ensures.same c.requires.before) m found c.kept.result.now c.kept.ensures.kept
          c.add_within.new.self (subst (λ (n : ℕ). HasAdded c.loop-mote.records c.add_within.new.self n c.kept.result.now []) at c.add_within.ensures.added)
          (subst (λ (n : ℕ). OthersStay c.loop-mote.records c.add_within.new.self n) at c.add_within.ensures.others);
    }

pub returns : goal.returns
returns c =
    let old = c.reserve.new.self in
    let all = c.loop-mote-test.false in
    let of = stores-recorded old c.loop-mote.records c.args.motes.now c.loop-mote.mote-index c.loop-mote.invariant.added (omega (arith, all)) (behind-as c.args.records.now old c.args.motes.now c.in_ok-reserve.ensures.same c.requires.before) in
    subst (λ (a : List Aired). IsRecordOf c.loop-mote.records (mote_logs c.args.motes.now) a) c.in_ok-reserve.ensures.same.air of
