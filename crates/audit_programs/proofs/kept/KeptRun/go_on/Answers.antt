use Rattle.std.proofs.Common.{arith, subst}
use Rattle.code_verifier.specs.Verified.{VerifiedCode}
use Rattle.exec_unit.specs.Running.{HasRunTo}
use Rattle.exec_unit.specs.declared.step_end.StepEnd.{StepEnd}
use Rattle.audit_programs.specs.declared.kept.KeptRun.{KeptRun}
use Rattle.audit_programs.proofs.KeptLemmas.{executed-low, goes-by, low, next-run, stopped, stops-by}
use Rattle.audit_programs.proofs.kept.KeptRun.go_on.Goals as goal

pub overflow_sub-left : goal.overflow_sub-left
overflow_sub-left c =
    let v : VerifiedCode = c.args.code.now in
    let k : KeptRun = c.instructions.self in
    let few = executed-low v k.base k.payload c.args.turns k.machine k.heap k.calls c.instructions.invariant.run c.shape-verified.ensures.verified
    4294967295 c.run-ran.result c.run-ran.result.how c.run-ran.new.machine c.run-ran.new.heap c.run-ran.ensures in
    let all = c.instructions.invariant.of_all in
    let from = c.from-left.ensures in
    omega (arith, few, all, from)

pub returns-then-not-goes_on-2-clause-run : goal.returns-then-not-goes_on-2-clause-run
returns-then-not-goes_on-2-clause-run c =
    let k : KeptRun = c.instructions.self in
    stopped c.args.code.now k.base k.payload c.args.turns k.machine k.heap k.calls c.instructions.invariant.run c.shape-verified.ensures.verified
    4294967295 c.run-ran.result c.run-ran.result.how c.run-ran.new.machine c.run-ran.new.heap
    (stops-by c.goes_on-in-instructions.result c.run-ran.result.how c.if-not-goes_on-2.true c.goes_on-in-instructions.ensures) c.run-ran.ensures

pub instructions-preserved : goal.instructions-preserved
instructions-preserved c =
    let v : VerifiedCode = c.args.code.now in
    let k : KeptRun = c.instructions.self in
    let inv = c.instructions.invariant in
    let how = goes-by c.goes_on-in-instructions.result c.run-ran.result.how c.if-not-goes_on-2.false c.goes_on-in-instructions.ensures in
    let h = subst (λ (e : StepEnd). HasRunTo e v k.machine k.heap 4294967295 c.run-ran.result c.run-ran.new.machine c.run-ran.new.heap) how c.run-ran.ensures in
    let next = next-run v k.base k.payload c.args.turns k.machine k.heap k.calls inv.run c.shape-verified.ensures.verified 4294967295 c.run-ran.new.machine c.run-ran.new.heap h.1 in
    let all = inv.of_all in
    let from = c.from-left.ensures in
    let count = next.1 in
    let few = next.2 in
    let made = h.0 in
    record { same = record { program = inv.same.program; payload = inv.same.payload; base = inv.same.base }; calls = inv.calls; began = inv.began; how = inv.how; run = next.0; of_all = omega (arith, all, from, count, few, made) }

pub unreachable-requires : goal.unreachable-requires
unreachable-requires c =
    let k : KeptRun = c.instructions.self in
    let few = low c.args.code.now k.base k.payload c.args.turns k.machine k.heap k.calls c.instructions.invariant.run c.shape-verified.ensures.verified in
    let all = c.instructions.invariant.of_all in
    let none = c.instructions-test.false in
    omega (arith, few, all, none)
