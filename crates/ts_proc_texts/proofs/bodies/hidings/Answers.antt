use Rattle.std.proofs.Common.{◌∷◌, [], ap, length, arith}
use Rattle.std.proofs.lemmas.List.{length-append}
use Rattle.ts_proc_texts.proofs.HidingLemmas.{hidings_more}
use Rattle.ts_proc_texts.proofs.bodies.hidings.Goals as goal

pub loop-place-preserved : goal.loop-place-preserved
loop-place-preserved c =
    record {
      each = omega (arith, ap length c.in_ok-push.ensures.items, length-append c.loop-place.hidden.items (c.in_ok-hiding.field-0 ∷ []), c.loop-place.invariant.each);
      are = hidings_more c.args.plan.now.heads.procs.now c.loop-place.hidden.items c.push.new.self.items c.loop-place.place c.in_ok-hiding.field-0
          c.loop-place.invariant.each c.in_ok-push.ensures.items c.loop-place.invariant.are c.in_ok-hiding.ensures;
    }
