use Rattle.std.proofs.Common.{◌≡◌, ◌+◌, ◌++◌, ◌∷◌, [], ℕ, length, ap, ◌∙◌}
use Rattle.std.proofs.Math.Nat.{le_antisymm}
use Rattle.std.proofs.lemmas.List.{length_push}
use Rattle.std.proofs.lemmas.List.Elements.{All-nil, All-cons, All-append, All-same}
use Rattle.std.proofs.lemmas.Result.{IfOk-from_err}
use Rattle.std.specs.Prelude.{All, List}
use Rattle.mate_journal.specs.Log.{Log, IsEmpty}
use Rattle.mate_journal.proofs.report.NodeLogs.empty.Goals as goal

pub loop-node-init : goal.loop-node-init
loop-node-init c = record {
  count = ap length c.new-logs.ensures.items;
  empty = All-same IsEmpty c.new-logs.result.items [] c.new-logs.ensures.items (All-nil IsEmpty);
}

pub loop-node-preserved : goal.loop-node-preserved
loop-node-preserved c =
    let logs = c.loop-node.logs.items in
    let log = c.new.result in
    let none : IsEmpty log = record { entries = c.new.ensures.entries; images = c.new.ensures.images; stores = c.new.ensures.stores } in record {
      count = ap length c.in_ok-push.ensures.items ∙ length_push logs log ∙ ap (λ (n : ℕ). n + 1) c.loop-node.invariant.count;
      empty = All-same IsEmpty c.push.new.self.items (logs ++ log ∷ []) c.in_ok-push.ensures.items
          (All-append IsEmpty logs (log ∷ []) c.loop-node.invariant.empty (All-cons IsEmpty log [] none (All-nil IsEmpty)));
    }

pub returns-clause-count : goal.returns-clause-count
returns-clause-count c = c.loop-node.invariant.count ∙ le_antisymm c.loop-node.auto._node-end c.loop-node-test.false

pub returns-clause-empty : goal.returns-clause-empty
returns-clause-empty c = c.loop-node.invariant.empty

pub returns-in_err-push-clause-count : goal.returns-in_err-push-clause-count
returns-in_err-push-clause-count c = IfOk-from_err c.from_residual.result (λ (logs : List Log). length logs ≡ c.args.n) c.from_residual.ensures.0

pub returns-in_err-push-clause-empty : goal.returns-in_err-push-clause-empty
returns-in_err-push-clause-empty c = IfOk-from_err c.from_residual.result (λ (logs : List Log). All IsEmpty logs) c.from_residual.ensures.0
