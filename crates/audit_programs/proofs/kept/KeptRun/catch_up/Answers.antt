use Rattle.std.proofs.Common.{Bool, true, false, ℤ, ap, sym, subst}
use Rattle.std.specs.Prelude.{slice_index_or}
use Rattle.mate_num.specs.declared.call.Call.{Call}
use Rattle.audit_programs.specs.Kept.{AnswersIf}
use Rattle.audit_programs.proofs.KeptLemmas.{catches-next, catches-stop}
use Rattle.audit_programs.proofs.kept.KeptRun.catch_up.Goals as goal

pub returns-then-not-branch : goal.returns-then-not-branch
returns-then-not-branch c =
    let v = c.args.code.now in
    catches-stop v c.args.turns c.args.calls.now c.loop-i.i c.args.self.now c.loop-i.self c.go_on.new.self c.answer.new.self c.loop-i.invariant c.go_on.ensures.moves c.go_on.ensures.run c.go_on.ensures.stops
    (subst (λ (x : ℤ). AnswersIf v.shape v.code c.args.turns false c.go_on.new.self x c.answer.new.self) (sym (ap (λ (d : Call). d.result) c.index-calls-i.is))
    (subst (λ (b : Bool). AnswersIf v.shape v.code c.args.turns b c.go_on.new.self (slice_index_or c.args.calls.now c.loop-i.i c.index-calls-i.result).result c.answer.new.self) c.if-not-branch.true c.in_ok-answer.ensures))

pub loop-i-preserved : goal.loop-i-preserved
loop-i-preserved c =
    let v = c.args.code.now in
    catches-next v c.args.turns c.args.calls.now c.loop-i.i c.args.self.now c.loop-i.self c.go_on.new.self c.answer.new.self c.index-calls-i.result c.loop-i.invariant c.go_on.ensures.moves
    (subst (λ (x : ℤ). AnswersIf v.shape v.code c.args.turns true c.go_on.new.self x c.answer.new.self) (sym (ap (λ (d : Call). d.result) c.index-calls-i.is))
    (subst (λ (b : Bool). AnswersIf v.shape v.code c.args.turns b c.go_on.new.self (slice_index_or c.args.calls.now c.loop-i.i c.index-calls-i.result).result c.answer.new.self) c.if-not-branch.false c.in_ok-answer.ensures))
    c.loop-i-test.true c.index-calls-i.is
