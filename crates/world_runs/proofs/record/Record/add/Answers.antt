use Rattle.std.proofs.Common.{◌<◌, ◌≤◌, ◌+◌, length, refl, sym, ◌∙◌, ap, subst, arith, rules}
use Rattle.std.proofs.lemmas.Result.{MatchResult-from_err}
use Rattle.mate_journal.specs.Log.{Log, IsSameLog}
use Rattle.mate_journal.specs.OpenLog.{joined}
use Rattle.world_runs.specs.Records.{FitsBehind}
use Rattle.world_runs.proofs.RecordLemmas.{all-set_one, same-then, has-log, one-log, again-own, again-set, set-as, joined-as, fits-as}
use Rattle.world_runs.proofs.record.Record.add.Goals as goal

pub returns-in_err-reserve : goal.returns-in_err-reserve
returns-in_err-reserve c =
    let items = c.args.self.now.logs.items in
    let low : c.from.result < length items = search rules in
    MatchResult-from_err c.from_residual.result _ _ c.from_residual.ensures.0 (λ _. record {
      logs = all-set_one items c.from.result c.reserve.new.self c.index_mut.result.now (has-log items c.from.result c.from.result c.index_mut.result.now refl low c.index_mut.ensures.value) c.in_err-reserve.ensures.same;
      air = refl;
      places = refl;
    })

pub returns-in_err-add_air : goal.returns-in_err-add_air
returns-in_err-add_air c =
    let items = c.args.self.now.logs.items in
    let low : c.from.result < length items = search rules in
    MatchResult-from_err c.from_residual-in_err-add_air.result _ _ c.from_residual-in_err-add_air.ensures.0 (λ _. record {
      logs = all-set_one items c.from.result c.reserve.new.self c.index_mut.result.now (has-log items c.from.result c.from.result c.index_mut.result.now refl low c.index_mut.ensures.value) c.in_ok-reserve.ensures.same;
      air = c.in_err-add_air.ensures;
      places = refl;
    })

pub returns : goal.returns
returns c =
    let items = c.args.self.now.logs.items in
    let low : c.from.result < length items = search rules in
    let own = again-own items c.from.result c.from-2.result c.args.node c.reserve.new.self c.index_mut-2.result.now c.from.ensures c.from-2.ensures low c.index_mut-2.ensures.value in
    let first = has-log items c.from.result c.args.node c.index_mut.result.now c.from.ensures low c.index_mut.ensures.value in record {
      logs = λ l found.
          set-as items _ c.args.node c.append.new.own (joined l c.args.told.now) (again-set items c.from.result c.from-2.result c.args.node c.reserve.new.self c.append.new.own c.from.ensures c.from-2.ensures)
          (same-then c.append.new.own (joined c.index_mut-2.result.now c.args.told.now) (joined l c.args.told.now) c.append.ensures
          (joined-as c.index_mut-2.result.now l c.args.told.now
          (subst (λ (x : Log). IsSameLog x l) (sym own) (subst (λ (x : Log). IsSameLog c.reserve.new.self x) (one-log c.index_mut.result.now l (sym first ∙ found)) c.in_ok-reserve.ensures.same))));
      air = c.in_ok-add_air.ensures;
      places = refl;
    }

pub append-requires-clause-room : goal.append-requires-clause-room
append-requires-clause-room c =
    let items = c.args.self.now.logs.items in
    let low : c.from.result < length items = search rules in
    let own = again-own items c.from.result c.from-2.result c.args.node c.reserve.new.self c.index_mut-2.result.now c.from.ensures c.from-2.ensures low c.index_mut-2.ensures.value in
    let room = c.in_ok-reserve.ensures.room in
    let entries = ap length c.entries.ensures in
    let images = ap length c.images.ensures in
    let stores = ap length c.stores.ensures in
    subst (λ (x : Log). length c.args.told.now.entries + length c.args.told.now.images + length c.args.told.now.stores ≤ x.spare) (sym own) (omega (arith, room, entries, images, stores))

pub append-requires-clause-fits : goal.append-requires-clause-fits
append-requires-clause-fits c =
    let items = c.args.self.now.logs.items in
    let low : c.from.result < length items = search rules in
    let own = again-own items c.from.result c.from-2.result c.args.node c.reserve.new.self c.index_mut-2.result.now c.from.ensures c.from-2.ensures low c.index_mut-2.ensures.value in
    let first = has-log items c.from.result c.args.node c.index_mut.result.now c.from.ensures low c.index_mut.ensures.value in
    subst (λ (x : Log). FitsBehind x c.args.told.now) (sym own) (fits-as c.reserve.new.self c.index_mut.result.now c.args.told.now c.in_ok-reserve.ensures.same (c.requires.told.fits c.index_mut.result.now first))
