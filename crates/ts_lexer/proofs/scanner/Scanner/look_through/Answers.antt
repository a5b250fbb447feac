use Rattle.ts_lexer.specs.Scanner.{due}
use Rattle.ts_lexer.proofs.StepLemmas.{all_due, leads_by, leads_on, leads_end}
use Rattle.ts_lexer.proofs.scanner.Scanner.look_through.Goals as goal

pub loop-first-preserved : goal.loop-first-preserved
loop-first-preserved c =
    leads_on (due c.args.self) (due c.step.new.self) (due c.forget.new.self)
    (leads_by (due c.args.self) (due c.loop-first.scanner) (due c.step.new.self) c.loop-first.invariant c.in_ok-step.ensures.same) c.forget.ensures.leads

pub returns : goal.returns
returns c =
    leads_end (due c.args.self) (due c.loop-first.scanner) c.loop-first.scanner.tokens c.loop-first.invariant (all_due c.loop-first.scanner c.in_default.ensures.value)
