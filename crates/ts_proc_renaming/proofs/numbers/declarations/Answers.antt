use Rattle.std.proofs.Common.{◌∙◌, sym}
use Rattle.ts_proc_renaming.proofs.RenamingLemmas.{decls_next, decl_named}
use Rattle.ts_proc_renaming.proofs.numbers.declarations.Goals as goal

pub loop-number-preserved : goal.loop-number-preserved
loop-number-preserved c =
    sym (decls_next c.loop-number.all c.push-in-loop-number.new.self _ c.loop-number.number c.args.count c.loop-number-test.true
    (decl_named c.loop-number.number c.parameter_name-name.result c.parameter_name-name.ensures) c.in_ok-push-2.ensures) ∙ c.loop-number.invariant
