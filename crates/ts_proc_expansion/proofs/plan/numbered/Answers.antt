use Rattle.std.proofs.Common.{◌≡◌, ◌∙◌, ◌+◌, ◌≤◌, ap, sym, arith, length, map}
use Rattle.ts_trees.specs.Seen.{procedure_of}
use Rattle.ts_proc_names.specs.Heads.{parameter_count}
use Rattle.ts_proc_expansion.specs.Plan.{firsts_of}
use Rattle.ts_proc_expansion.proofs.CalleeLemmas.{count_before, count_before-more, fits_all, firsts-more, count_all}
use Rattle.ts_proc_expansion.proofs.ExtentLemmas.{bodies_all}
use Rattle.ts_proc_expansion.proofs.plan.numbered.Goals as goal

pub overflow_cast-next : goal.overflow_cast-next
overflow_cast-next c =
    let fits : count_before c.args.procs.now c.loop-proc.proc-index + length c.proc-item.result.params ≤ parameter_count (map procedure_of c.args.procs.now) =
    fits_all c.args.procs.now c.loop-proc.proc-index c.proc-item.result c.loop-proc-test.true c.proc-item.is in
    let len : c.len.result ≡ length c.proc-item.result.params = c.len.ensures in
    omega (arith, fits, len, c.requires)

pub overflow_add-next : goal.overflow_add-next
overflow_add-next c =
    let fits : count_before c.args.procs.now c.loop-proc.proc-index + length c.proc-item.result.params ≤ parameter_count (map procedure_of c.args.procs.now) =
    fits_all c.args.procs.now c.loop-proc.proc-index c.proc-item.result c.loop-proc-test.true c.proc-item.is in
    let len : c.len.result ≡ length c.proc-item.result.params = c.len.ensures in
    omega (arith, fits, len, c.requires, c.loop-proc.invariant.next)

pub loop-proc-preserved : goal.loop-proc-preserved
loop-proc-preserved c =
    record {
      firsts = firsts-more c.args.procs.now c.loop-proc.proc-index c.proc-item.result c.loop-proc.firsts.items c.push.new.self.items c.loop-proc.next
          c.loop-proc.invariant.firsts c.loop-proc-test.true c.proc-item.is c.loop-proc.invariant.next c.in_ok-push.ensures.items;
      next = ap (λ n. n + c.len.result) c.loop-proc.invariant.next ∙ ap (λ n. count_before c.args.procs.now c.loop-proc.proc-index + n) c.len.ensures
          ∙ sym (count_before-more c.args.procs.now c.loop-proc.proc-index c.proc-item.result c.loop-proc-test.true c.proc-item.is);
    }

pub returns-clause-firsts : goal.returns-clause-firsts
returns-clause-firsts c = c.loop-proc.invariant.firsts ∙ ap firsts_of (bodies_all c.args.procs.now c.loop-proc.proc-index c.loop-proc-test.false)

pub returns-clause-count : goal.returns-clause-count
returns-clause-count c = c.loop-proc.invariant.next ∙ count_all c.args.procs.now c.loop-proc.proc-index c.loop-proc-test.false
