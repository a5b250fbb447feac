use Rattle.std.proofs.Common.{rules, Some, None, ◌∙◌}
use Rattle.ts_checker.specs.Seen.{scope_names}
use Rattle.ts_checker.proofs.CallLemmas.{sent_other, sent_one}
use Rattle.ts_checker.proofs.exprs.sent.Goals as goal
use Rattle.ts_checker.proofs.exprs.sent.Goals.{in_default-via-then-args-lt1, in_default-via-else-args-lt1+else-args-lt2}

pub returns-in_default : goal.returns-in_default
returns-in_default c =
    sent_other (scope_names c.args.scope.now) c.args.place c.args.args.now
    (elim c.in_default.branch [ in_default-via-then-args-lt1 w ↦ λ e. search rules | in_default-via-else-args-lt1+else-args-lt2 w ↦ λ e. search rules ])

pub returns-in-Some : goal.returns-in-Some
returns-in-Some c =
    c.buffer.ensures ∙ sent_one (scope_names c.args.scope.now) c.args.place c.args.args.now c.arg-item.result (Some c.in-Some.word.now)
    c.in-len1.len_at_least c.in-len1.len_below c.arg-item.is c.in-Some.ensures

pub returns-in-None : goal.returns-in-None
returns-in-None c =
    sent_one (scope_names c.args.scope.now) c.args.place c.args.args.now c.arg-item.result None c.in-len1.len_at_least c.in-len1.len_below c.arg-item.is c.in-None.ensures
