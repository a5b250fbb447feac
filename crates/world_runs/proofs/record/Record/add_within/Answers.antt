use Rattle.std.proofs.Common.{◌<◌, ℕ, length, refl, sym, ◌∙◌, ap, subst, rules, append-nil}
use Rattle.std.specs.Prelude.{slice_get, slice_set}
use Rattle.mate_journal.specs.Log.{Log, IsSameLog}
use Rattle.mate_journal.specs.OpenLog.{joined}
use Rattle.event_queue.proofs.WheelLemmas.{slice_get_set_other}
use Rattle.world_runs.proofs.RecordLemmas.{has-log, one-log, set-as}
use Rattle.world_runs.proofs.record.Record.add_within.Goals as goal

pub returns-clause-added : goal.returns-clause-added
returns-clause-added c =
    let items = c.args.self.now.logs.items in
    let low : c.from.result < length items = search rules in
    let first = has-log items c.from.result c.args.node c.index_mut.result.now c.from.ensures low c.index_mut.ensures.value in record {
      logs = λ l found.
          set-as items _ c.args.node c.append.new.own (joined l c.args.told.now) (ap (λ n. slice_set items n c.append.new.own) c.from.ensures)
          (subst (λ (x : Log). IsSameLog c.append.new.own (joined x c.args.told.now)) (one-log c.index_mut.result.now l (sym first ∙ found)) c.append.ensures);
      air = sym (append-nil c.args.self.now.air);
      places = refl;
    }

pub append-requires-clause-room : goal.append-requires-clause-room
append-requires-clause-room c =
    let items = c.args.self.now.logs.items in
    let low : c.from.result < length items = search rules in
    c.requires.room c.index_mut.result.now (has-log items c.from.result c.args.node c.index_mut.result.now c.from.ensures low c.index_mut.ensures.value)

pub append-requires-clause-fits : goal.append-requires-clause-fits
append-requires-clause-fits c =
    let items = c.args.self.now.logs.items in
    let low : c.from.result < length items = search rules in
    c.requires.told.fits c.index_mut.result.now (has-log items c.from.result c.args.node c.index_mut.result.now c.from.ensures low c.index_mut.ensures.value)

pub returns-clause-others : goal.returns-clause-others
returns-clause-others c = λ k other.
    ap (λ (n : ℕ). slice_get (slice_set c.args.self.now.logs.items n c.append.new.own) k) c.from.ensures ∙ slice_get_set_other c.args.self.now.logs.items c.args.node k c.append.new.own other
