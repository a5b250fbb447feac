use Rattle.std.proofs.Common.{get_or, pos, arith, rules}
use Rattle.std.specs.Prelude.{FitsSigned}
use Rattle.std.specs.Int.{w16}
use Rattle.std.proofs.lemmas.Grind.{common_steps}
use Rattle.std.proofs.lemmas.List.Elements.{All-more}
use Rattle.packet_codec.proofs.encoding.put_values.Goals as goal

pub loop-value-preserved : goal.loop-value-preserved
loop-value-preserved c =
    let fits : FitsSigned w16 (get_or c.args.values.now c.loop-value.value-index (pos 0)) = search rules in
    record {
      so_far = grind (arith, common_steps);
      room = grind (arith, common_steps);
      ranges = All-more (λ value. FitsSigned w16 value) c.args.values.now c.loop-value.value-index (pos 0) c.loop-value-test.true c.loop-value.invariant.ranges fits;
    }
