use Rattle.std.proofs.Common.{rules, FitsSigned, ◌∙◌}
use Rattle.std.specs.Int.{w16}
use Rattle.std.proofs.lemmas.Int.{to_z-of_z}
use Rattle.ts_checked.specs.TreeOf.{expr_tree}
use Rattle.ts_compiler.proofs.PartLemmas.{head_first, head_second, head_third, head_test, head_writes}
use Rattle.ts_compiler.proofs.emitter.Emitter.for_head.Goals as goal

pub expr_then-requires : goal.expr_then-requires
expr_then-requires c =
    let head = c.args.head.now in
    head_first head.var (expr_tree head.from) (expr_tree head.to) head.step c.requires c.set_instr-set.result c.set_instr-set.ensures

pub push-requires : goal.push-requires
push-requires c =
    let head = c.args.head.now in
    head_second head.var (expr_tree head.from) (expr_tree head.to) head.step c.requires c.set_instr-set.result c.get_instr-get.result
    c.set_instr-set.ensures c.get_instr-get.ensures c.expr_then.ensures

pub expr_then-requires-2 : goal.expr_then-requires-2
expr_then-requires-2 c =
    let head = c.args.head.now in
    let fits : FitsSigned w16 head.step = search rules in
    head_third head.var (expr_tree head.from) (expr_tree head.to) head.step c.requires c.set_instr-set.result c.get_instr-get.result c.within_instr-within.result
    c.set_instr-set.ensures c.get_instr-get.ensures (simp to_z-of_z at c.within_instr-within.ensures) c.expr_then.ensures c.push.ensures

pub returns-clause-code : goal.returns-clause-code
returns-clause-code c =
    let head = c.args.head.now in
    let fits : FitsSigned w16 head.step = search rules in
    head_writes head.var (expr_tree head.from) (expr_tree head.to) head.step c.set_instr-set.result c.get_instr-get.result c.within_instr-within.result
    c.set_instr-set.ensures c.get_instr-get.ensures (simp to_z-of_z at c.within_instr-within.ensures) c.expr_then.ensures c.push.ensures c.expr_then-2.ensures

pub returns-clause-test : goal.returns-clause-test
returns-clause-test c =
    let head = c.args.head.now in
    c.next-test.ensures.place ∙ head_test head.var (expr_tree head.from) c.set_instr-set.result c.set_instr-set.ensures c.expr_then.ensures
