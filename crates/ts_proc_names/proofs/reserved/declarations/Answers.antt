use Rattle.std.proofs.Common.{◌∙◌, ◌+◌, Option, drop, refl, sym}
use Rattle.ts_proc_names.specs.declared.fault.ProcFault.{ProcFault}
use Rattle.ts_proc_names.specs.NameFaults.{◌<|>◌, word_fault, decls_fault}
use Rattle.ts_proc_names.proofs.PartLemmas.{refused_first, passed_as, decls_from, decls_next, decls_end}
use Rattle.ts_proc_names.proofs.reserved.declarations.Goals as goal

pub loop-decl-init : goal.loop-decl-init
loop-decl-init c = refl

pub returns-in_err-word : goal.returns-in_err-word
returns-in_err-word c =
    let rest : Option ProcFault = decls_fault (drop (c.loop-decl.decl-index + 1) c.args.decls.now) in
    passed_as c.from_residual.result (decls_fault c.args.decls.now) (word_fault c.decl-item.result.word <|> rest)
    (c.loop-decl.invariant ∙ decls_from c.args.decls.now c.loop-decl.decl-index c.decl-item.result c.loop-decl-test.true c.decl-item.is)
    (refused_first c.in_err-word.field-0.0 c.from_residual.result (word_fault c.decl-item.result.word) rest c.from_residual.ensures.1 c.in_err-word.ensures)

pub loop-decl-preserved : goal.loop-decl-preserved
loop-decl-preserved c =
    c.loop-decl.invariant ∙ decls_next c.args.decls.now c.loop-decl.decl-index c.decl-item.result c.loop-decl-test.true c.decl-item.is c.in_ok-word.ensures

pub returns : goal.returns
returns c = sym (c.loop-decl.invariant ∙ decls_end c.args.decls.now c.loop-decl.decl-index c.loop-decl-test.false)
