use Rattle.std.proofs.Common.{◌+◌, ◌++◌, ◌∷◌, [], ℕ, length, ap, ◌∙◌}
use Rattle.std.proofs.Math.Nat.{le_antisymm}
use Rattle.std.proofs.lemmas.List.{length_push}
use Rattle.std.proofs.lemmas.List.Elements.{All-nil, All-cons, All-append, All-same}
use Rattle.report_writer.specs.Tally.{IsLogTally}
use Rattle.report_writer.specs.declared.tally.LogTally.{LogTally}
use Rattle.report_writer.proofs.summary.RunTally.new.Goals as goal

pub loop-node-init : goal.loop-node-init
loop-node-init c =
    let Is : LogTally → Type 0 = λ a. IsLogTally c.args.handlers a [] in record {
      count = ap length c.new-tallies.ensures.items;
      none = All-same Is c.new-tallies.result.items [] c.new-tallies.ensures.items (All-nil Is);
    }

pub loop-node-preserved : goal.loop-node-preserved
loop-node-preserved c =
    let Is : LogTally → Type 0 = λ a. IsLogTally c.args.handlers a [] in
    let tallies = c.loop-node.tallies.items in
    let one = c.in_ok-new.field-0 in record {
      count = ap length c.in_ok-push.ensures.items ∙ length_push tallies one ∙ ap (λ (n : ℕ). n + 1) c.loop-node.invariant.count;
      none = All-same Is c.push.new.self.items (tallies ++ one ∷ []) c.in_ok-push.ensures.items
          (All-append Is tallies (one ∷ []) c.loop-node.invariant.none (All-cons Is one [] c.in_ok-new.ensures (All-nil Is)));
    }

pub returns : goal.returns
returns c = record {
  count = c.loop-node.invariant.count ∙ le_antisymm c.loop-node.auto._node-end c.loop-node-test.false;
  none = c.loop-node.invariant.none;
  air = c.new-2.ensures;
}
