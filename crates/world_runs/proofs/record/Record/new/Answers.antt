use Rattle.std.proofs.Common.{◌+◌, ◌++◌, ◌∷◌, [], ℕ, length, ap, ◌∙◌}
use Rattle.std.proofs.Math.Nat.{le_antisymm}
use Rattle.std.proofs.lemmas.List.{length_push}
use Rattle.std.proofs.lemmas.List.Elements.{All-nil, All-push, All-same}
use Rattle.std.proofs.lemmas.Result.{IfOk-from_err}
use Rattle.mate_journal.specs.Log.{IsEmpty}
use Rattle.world_runs.specs.Records.{IsEmptyRecord}
use Rattle.world_runs.proofs.record.Record.new.Goals as goal

pub loop-node-init : goal.loop-node-init
loop-node-init c = record {
  count = ap length c.new-logs.ensures.items;
  empty = All-same IsEmpty c.new-logs.result.items [] c.new-logs.ensures.items (All-nil IsEmpty);
  places = ap length c.places.view_is ∙ c.in_ok-places.ensures.count;
}

pub loop-node-preserved : goal.loop-node-preserved
loop-node-preserved c =
    let logs = c.loop-node.logs.items in
    let log = c.new.result in
    let none : IsEmpty log = record { entries = c.new.ensures.entries; images = c.new.ensures.images; stores = c.new.ensures.stores } in record {
      count = ap length c.in_ok-push.ensures.items ∙ length_push logs log ∙ ap (λ (n : ℕ). n + 1) c.loop-node.invariant.count;
      empty = All-same IsEmpty c.push.new.self.items (logs ++ log ∷ []) c.in_ok-push.ensures.items (All-push IsEmpty logs log c.loop-node.invariant.empty none);
      places = c.loop-node.invariant.places;
    }

pub returns : goal.returns
returns c = record {
  count = c.loop-node.invariant.count ∙ le_antisymm c.loop-node.auto._node-end c.loop-node-test.false;
  empty = c.loop-node.invariant.empty;
  air = c.new-2.ensures;
  places = c.in_ok-places.ensures.count;
}

pub returns-in_err-push : goal.returns-in_err-push
returns-in_err-push c = IfOk-from_err c.from_residual-in_err-push.result (IsEmptyRecord c.args.nodes) c.from_residual-in_err-push.ensures.0
