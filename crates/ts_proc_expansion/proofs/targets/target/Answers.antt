use Rattle.std.proofs.Common.{◌≡◌, ◌≤◌, ◌∙◌, ap, arith, rules, sym, length, get_or}
use Rattle.ts_trees.specs.declared.procedure.Proc.{Proc}
use Rattle.ts_trees.specs.Seen.{acts_of, act_of, trees_of}
use Rattle.ts_trees.specs.Tree.{Act, act_then, no_acts, run_procedure}
use Rattle.ts_trees.proofs.SeenLemmas.{act_run_procedure}
use Rattle.ts_proc_expansion.proofs.TargetLemmas.{target_through, target_of, one_stmt}
use Rattle.ts_proc_expansion.proofs.targets.target.Goals as goal

pub returns : goal.returns
returns c =
    let q : Proc = c.index-heads-run.result in
    let runs : acts_of c.args.body.now ≡ act_then (run_procedure c.in-Run.name (trees_of c.in-Run._args)) no_acts =
    ap acts_of (one_stmt c.args.body.now c.stmt-item.result c.in-len1.len_at_least c.in-len1.len_below c.stmt-item.is)
    ∙ ap (λ (a : Act). act_then a no_acts) (ap act_of c.in-Run.is ∙ act_run_procedure c.in-Run.name c.in-Run._args) in
    let params : length q.params ≡ c.len.result = ap (λ (p : Proc). length p.params) c.index-heads-run.is ∙ sym c.len.ensures in
    target_through c.args.heads.now.procs.now c.args.place c.args.proc.now (acts_of c.args.body.now) c.in-Run.name (trees_of c.in-Run._args) c.in-Some.run' q
    (get_or c.args.targets.now c.in-Some.run' 0) c.requires.within c.requires.there c.requires.same runs c.in-Some.ensures.value c.in-Some.ensures.below c.in-Some.ensures.within
    c.index-heads-run.is (omega (arith, params, c.if-len-gt0.false))
    (target_of c.args.heads.now.procs.now c.args.targets.now c.in-Some.run' c.args.place c.requires.are c.in-Some.ensures.below (omega (arith, c.requires.each)))
