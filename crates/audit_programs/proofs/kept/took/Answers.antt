use Rattle.std.proofs.Common.{◌∙◌, ap, sym, arith}
use Rattle.mate_num.specs.declared.call.Call.{Call}
use Rattle.audit_programs.proofs.KeptLemmas.{took-more}
use Rattle.audit_programs.proofs.kept.took.Goals as goal

pub loop-i-preserved : goal.loop-i-preserved
loop-i-preserved c =
    let few = c.if-calls-first.false in
    let within = c.loop-i-test.true in
    took-more c.args.first.now c.args.calls.now c.loop-i.i c.index-first-i.result c.index-calls-i.result within (omega (arith, few, within)) c.index-first-i.is c.index-calls-i.is (ap (λ (d : Call). d.result) c.index-first-i.is ∙ c.same_value.ensures c.if-not-same_value.false ∙ sym (ap (λ (d : Call). d.result) c.index-calls-i.is)) c.loop-i.invariant
