use Rattle.std.proofs.Common.{◌≡◌, ◌<◌, ◌≤◌, length, set, refl, sym, ◌∙◌, ap, subst, arith, inl, inr}
use Rattle.std.specs.Prelude.{slice_get, unwrap_or}
use Rattle.std.proofs.lemmas.Bool.{cases_eq}
use Rattle.std.proofs.lemmas.List.{length-set}
use Rattle.std.proofs.lemmas.Option.{slice_get-get_or}
use Rattle.event_queue.proofs.WheelLemmas.{slice_get_set_same, slice_get_set_other}
use Rattle.mate_journal.specs.Log.{Log}
use Rattle.world_runs.proofs.RecordLemmas.{all-self, all-then, all-set_one, has-log}
use Rattle.world_runs.proofs.record.Record.reserve.Goals as goal

pub loop-node-init : goal.loop-node-init
loop-node-init c = record {
  same = record { logs = all-self c.args.self.now.logs.items; air = refl; places = refl };
  count = sym (c.len-node-end.ensures ∙ c.args.self.now.logs.ok.0);
  room = λ k x below found. absurd (omega (arith, below));
}

pub returns-in_err-reserve-clause-same : goal.returns-in_err-reserve-clause-same
returns-in_err-reserve-clause-same c =
    let items = c.loop-node.self.logs.items in
    let k = c.loop-node.node in
    let count = c.loop-node.invariant.count in
    let test = c.loop-node-test.true in
    let low : k < length items = omega (arith, count, test) in
    let before = c.loop-node.invariant.same in record {
      logs = all-then (set items k c.reserve.new.self) items c.args.self.now.logs.items
          (all-set_one items k c.reserve.new.self c.index_mut.result.now (has-log items k k c.index_mut.result.now refl low c.index_mut.ensures.value) c.in_err-reserve.ensures.same) before.logs;
      air = before.air;
      places = before.places;
    }

pub loop-node-preserved : goal.loop-node-preserved
loop-node-preserved c =
    let items = c.loop-node.self.logs.items in
    let k = c.loop-node.node in
    let count = c.loop-node.invariant.count in
    let test = c.loop-node-test.true in
    let low : k < length items = omega (arith, count, test) in
    let before = c.loop-node.invariant.same in record {
      same = record {
        logs = all-then (set items k c.reserve.new.self) items c.args.self.now.logs.items
            (all-set_one items k c.reserve.new.self c.index_mut.result.now (has-log items k k c.index_mut.result.now refl low c.index_mut.ensures.value) c.in_ok-reserve.ensures.same) before.logs;
        air = before.air;
        places = before.places;
      };
      count = length-set items k c.reserve.new.self ∙ count;
      room = λ j x below found. elim (cases_eq j k) [
        | inl same ↦
            let is : c.reserve.new.self ≡ x = ap (λ o. unwrap_or o x) (sym (slice_get_set_same items k c.reserve.new.self low) ∙ ap (slice_get (set items k c.reserve.new.self)) (sym same) ∙ found) in
            subst (λ (l : Log). c.args.room ≤ l.spare) is c.in_ok-reserve.ensures.room
        | inr other ↦ c.loop-node.invariant.room j x (omega (arith, below, other)) (sym (slice_get_set_other items k j c.reserve.new.self other) ∙ found)
      ];
    }

pub returns-clause-room : goal.returns-clause-room
returns-clause-room c = λ k d below.
    let items = c.loop-node.self.logs.items in
    let count = c.loop-node.invariant.count in
    let test = c.loop-node-test.false in
    c.loop-node.invariant.room k _ (omega (arith, below, count, test)) (slice_get-get_or items k d below)
