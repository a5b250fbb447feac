use Rattle.std.proofs.Common.{◌≤◌, ℕ, length, sym, subst, ◌∙◌}
use Rattle.report_text.proofs.LengthLemmas.{length-found}
use Rattle.report_text.proofs.text.line_len.Goals as goal

pub returns-clause-value : goal.returns-clause-value
returns-clause-value c = c.unwrap_or.ensures ∙ (length-found c.args.bytes.now c.memchr.result c.memchr.ensures).0

pub returns-clause-within : goal.returns-clause-within
returns-clause-within c =
    subst (λ (n : ℕ). n ≤ length c.args.bytes.now) (sym c.unwrap_or.ensures) (length-found c.args.bytes.now c.memchr.result c.memchr.ensures).1
