use Rattle.std.proofs.Common.{◌≡◌, ◌∙◌, List, Option, Result, Err, Ok, Bor, refl}
use Rattle.std.specs.Prelude.{IfOk}
use Rattle.ts_trees.specs.declared.expr.Expr.{Expr}
use Rattle.ts_trees.specs.declared.stmt.ForHead.{ForHead}
use Rattle.ts_trees.specs.declared.stmt.Step.{Step}
use Rattle.ts_trees.specs.declared.token.Token.{Token}
use Rattle.ts_trees.specs.declared.token.TokenKind.TheVariants as kind
use Rattle.ts_trees.specs.declared.word.Word.{Word}
use Rattle.ts_trees.specs.Seen.{tree_of}
use Rattle.ts_trees.specs.Tree.{Acts}
use Rattle.ts_trees.specs.declared.halt.Halt.{Halt}
use Rattle.ts_trees.specs.Machine.{Frame, Whole, for_word, for_named, expr_due, have, in_from, in_to}
use Rattle.ts_trees.specs.Parsing.{reads, Reads, Lacks, TakesName, Ended}
use Rattle.ts_trees.proofs.Parts.{halts}
use Rattle.ts_statements.specs.Simple.{Bound, limit_due, limited, head_read}
use Rattle.ts_statements.proofs.EndedLemmas.{name_reads, ended_reads, ended_over}
use Rattle.ts_statements.proofs.SimpleLemmas.{var_read, var_missing, from_begins, from_missing, from_open, to_read}
use Rattle.ts_statements.proofs.head.for_head.Goals as goal

-- the variable and `=`
var_reads : (ts : List Token) (named result : Result (Word × Bor (List Token)) Halt) → TakesName ts named → Ended kind.Eq named result →
    Reads {K = Acts × Frame} ts (λ k. for_word k.0 k.1) (λ v k. expr_due (in_from v k.0 k.1)) result
var_reads ts named result h =
    ended_reads {X = Word} {K = Acts × Frame} {L = Acts × Frame} kind.Eq ts ts (λ k. for_word k.0 k.1) (λ v k. for_named v k.0 k.1) (λ k. for_word k.0 k.1) (λ v k. expr_due (in_from v k.0 k.1)) (λ k. k)
    (λ k. refl) (λ v vs ws s k. from_begins s v k.0 k.1) (λ v vs rest l k. from_missing l v k.0 k.1) named result
    (name_reads ts (λ k. for_word k.0 k.1) (λ v k. for_named v k.0 k.1) (λ k v us s. var_read s k.0 k.1) (λ k rest l. var_missing l k.0 k.1) named h)

-- the first value and `to`
from_reads : (ts us : List Token) (v : Word) → ((k : Acts × Frame) → reads ts (for_word k.0 k.1) ≡ reads us (expr_due (in_from v k.0 k.1))) → (read result : Result (Expr × Bor (List Token)) Halt) →
    Reads {K = Whole} us (λ k. expr_due k) (λ e k. have (tree_of e) k) read → IfOk read (λ x. Lacks kind.Or x.1.now) → Ended kind.To read result →
    Reads {K = Acts × Frame} ts (λ k. for_word k.0 k.1) (λ e k. expr_due (in_to v (tree_of e) k.0 k.1)) result
from_reads ts us v s =
    ended_over {X = Expr} {K = Whole} {L = Acts × Frame} kind.To (λ vs. Lacks kind.Or vs) ts us (λ k. expr_due k) (λ e k. have (tree_of e) k)
    (λ k. for_word k.0 k.1) (λ e k. expr_due (in_to v (tree_of e) k.0 k.1)) (λ k. in_from v k.0 k.1) s
    (λ e vs ws t k. to_read t (tree_of e) v k.0 k.1) (λ e vs rest o l k. from_open o l (tree_of e) v k.0 k.1)

pub returns-in_err-var-clause-reads : goal.returns-in_err-var-clause-reads
returns-in_err-var-clause-reads c =
    halts Word ForHead (Acts × Frame) (Acts × Frame) c.args.tokens.now c.args.tokens.now (λ k. for_word k.0 k.1) (λ v k. expr_due (in_from v k.0 k.1)) (λ k. for_word k.0 k.1) (λ h k. head_read k h)
    (λ k. k) (λ k. refl) c.from_residual.result c.in_err-var.field-0.0 c.from_residual.ensures.1 (var_reads c.args.tokens.now c.name.result (Err c.in_err-var.field-0.0) c.name.ensures c.in_err-var.ensures)

pub returns-in_err-from-clause-reads : goal.returns-in_err-from-clause-reads
returns-in_err-from-clause-reads c =
    halts Expr ForHead (Acts × Frame) (Acts × Frame) c.args.tokens.now c.args.tokens.now (λ k. for_word k.0 k.1) (λ e k. expr_due (in_to c.in_ok-var.var (tree_of e) k.0 k.1))
    (λ k. for_word k.0 k.1) (λ h k. head_read k h) (λ k. k) (λ k. refl) c.from_residual-in_err-from.result c.in_err-from.field-0.0 c.from_residual-in_err-from.ensures.1
    (from_reads c.args.tokens.now c.in_ok-var.rest.now c.in_ok-var.var (var_reads c.args.tokens.now c.name.result (Ok (c.in_ok-var.var, c.in_ok-var.rest)) c.name.ensures c.in_ok-var.ensures)
    c.expr.result (Err c.in_err-from.field-0.0) c.expr.ensures.reads c.expr.ensures.over c.in_err-from.ensures)

pub returns-in_err-to-clause-reads : goal.returns-in_err-to-clause-reads
returns-in_err-to-clause-reads c =
    halts (Expr × Option Step) ForHead Bound (Acts × Frame) c.args.tokens.now c.in_ok-from.rest.now
    (λ k. limit_due k) (λ x k. limited k (tree_of x.0) x.1) (λ k. for_word k.0 k.1) (λ h k. head_read k h)
    (λ k. record { var = c.in_ok-var.var; from = tree_of c.in_ok-from.from; before = k.0; frame = k.1 })
    (from_reads c.args.tokens.now c.in_ok-var.rest.now c.in_ok-var.var (var_reads c.args.tokens.now c.name.result (Ok (c.in_ok-var.var, c.in_ok-var.rest)) c.name.ensures c.in_ok-var.ensures)
    c.expr.result (Ok (c.in_ok-from.from, c.in_ok-from.rest)) c.expr.ensures.reads c.expr.ensures.over c.in_ok-from.ensures)
    c.from_residual-in_err-to.result c.in_err-to.field-0.0 c.from_residual-in_err-to.ensures.1 c.in_err-to.ensures.reads

pub returns-clause-reads : goal.returns-clause-reads
returns-clause-reads c =
    λ k. from_reads c.args.tokens.now c.in_ok-var.rest.now c.in_ok-var.var (var_reads c.args.tokens.now c.name.result (Ok (c.in_ok-var.var, c.in_ok-var.rest)) c.name.ensures c.in_ok-var.ensures)
    c.expr.result (Ok (c.in_ok-from.from, c.in_ok-from.rest)) c.expr.ensures.reads c.expr.ensures.over c.in_ok-from.ensures k
    ∙ c.in_ok-to.ensures.reads (record { var = c.in_ok-var.var; from = tree_of c.in_ok-from.from; before = k.0; frame = k.1 })
