use Rattle.std.proofs.Common.{◌≡◌, ◌≤◌, ◌∙◌, ℕ, List, [], ◌∷◌, ap, sym, subst, length, arith}
use Rattle.std.proofs.lemmas.List.{length-append}
use Rattle.ts_proc_expansion.specs.Targets.{AreTargets}
use Rattle.ts_proc_expansion.proofs.ExtentLemmas.{bodies_all}
use Rattle.ts_proc_expansion.proofs.LiveLemmas.{live_more}
use Rattle.ts_proc_expansion.proofs.TargetLemmas.{targets_more}
use Rattle.ts_proc_expansion.proofs.live.live_procs.Goals as goal

pub live_block-requires-clause-are : goal.live_block-requires-clause-are
live_block-requires-clause-are c = subst (AreTargets c.args.plan.now.heads.procs.now) (sym c.as_slice.ensures.value) c.loop-place.invariant.are

pub target-target-requires-clause-are : goal.target-target-requires-clause-are
target-target-requires-clause-are c = subst (AreTargets c.args.plan.now.heads.procs.now) (sym c.as_slice-in-loop-place.ensures.value) c.loop-place.invariant.are

pub loop-place-preserved : goal.loop-place-preserved
loop-place-preserved c =
    record {
      same = live_more c.args.plan.now.heads.procs.now c.loop-place.live.items c.push-in-loop-place.new.self.items c.loop-place.place c.proc-item.result _
          c.loop-place-test.true c.proc-item.is c.loop-place.invariant.same c.in_ok-push-2.ensures.items c.same-name.ensures
          (c.in_ok-params.ensures ∙ c.as_slice-in-loop-place-3.ensures) c.in_ok-body.ensures;
      each = omega (arith, ap length c.in_ok-push.ensures.items, length-append c.loop-place.targets.items (c.target-target.result ∷ []), c.loop-place.invariant.each);
      are = targets_more c.args.plan.now.heads.procs.now c.loop-place.targets.items c.push.new.self.items c.loop-place.place c.target-target.result
          c.loop-place.invariant.each c.in_ok-push.ensures.items c.loop-place.invariant.are c.target-target.ensures;
    }

pub returns-clause-same : goal.returns-clause-same
returns-clause-same c = c.loop-place.invariant.same ∙ bodies_all c.args.plan.now.heads.procs.now c.loop-place.place c.loop-place-test.false
