use Rattle.std.proofs.Common.{◌≡◌, List, Result, Err, Ok, Bor, sym, ◌∙◌, ap}
use Rattle.std.specs.Prelude.{IfOk}
use Rattle.ts_trees.specs.declared.expr.Expr.{Expr}
use Rattle.ts_trees.specs.declared.token.Token.{Token}
use Rattle.ts_trees.specs.declared.token.TokenKind.TheVariants as kind
use Rattle.ts_trees.specs.declared.word.Word.{Word}
use Rattle.ts_trees.specs.Seen.{tree_of}
use Rattle.ts_trees.specs.Tree.{Acts, set}
use Rattle.ts_trees.proofs.SeenLemmas.{act_set, act_take_last}
use Rattle.ts_trees.specs.declared.halt.Halt.{Halt}
use Rattle.ts_trees.specs.Machine.{Frame, Whole, in_set, have, block, set_to, expr_due, with_act}
use Rattle.ts_trees.specs.Parsing.{reads, Reads, Lacks, Ended}
use Rattle.ts_statements.proofs.EndedLemmas.{ended_over, stmt_stops}
use Rattle.ts_statements.proofs.Halting.{stmt_misses}
use Rattle.ts_statements.proofs.SimpleLemmas.{taken_ends, taken_open, set_ends, set_open}
use Rattle.ts_statements.proofs.simple.setting.Goals as goal

-- the value and its `;`, where no buffer is taken
set_reads : (ts : List Token) (w : Word) → ((a : Acts) (f : Frame) → reads ts (set_to w a f) ≡ reads ts (expr_due (in_set w a f))) → (read result : Result (Expr × Bor (List Token)) Halt) →
    Reads {K = Whole} ts (λ k. expr_due k) (λ e k. have (tree_of e) k) read → IfOk read (λ x. Lacks kind.Or x.1.now) → Ended kind.Semi read result →
    Reads {K = Acts × Frame} ts (λ k. set_to w k.0 k.1) (λ e k. block (with_act k.0 (set w (tree_of e))) k.1) result
set_reads ts w u =
    ended_over {X = Expr} {K = Whole} {L = Acts × Frame} kind.Semi (λ vs. Lacks kind.Or vs) ts ts (λ k. expr_due k) (λ e k. have (tree_of e) k)
    (λ k. set_to w k.0 k.1) (λ e k. block (with_act k.0 (set w (tree_of e))) k.1) (λ k. in_set w k.0 k.1) (λ k. u k.0 k.1)
    (λ e vs ws s k. set_ends s (tree_of e) w k.0 k.1) (λ e vs rest o l k. set_open o l (tree_of e) w k.0 k.1)

pub returns-in_err-rest-clause-reads : goal.returns-in_err-rest-clause-reads
returns-in_err-rest-clause-reads c =
    stmt_misses kind.Semi c.args.tokens.now c.in-Some.rest.now (set_to c.args.word)
    (λ k more l. c.in-Some.ensures.finds c.args.word k.0 k.1 ∙ taken_open l c.args.word c.in-Some.buffer k.0 k.1)
    c.from_residual.result c.in_err-rest.field-0.0 c.from_residual.ensures.1 c.in_err-rest.ensures

pub returns-in-Some-clause-reads : goal.returns-in-Some-clause-reads
returns-in-Some-clause-reads c =
    λ k. c.in-Some.ensures.finds c.args.word k.0 k.1 ∙ taken_ends c.in_ok-rest.ensures c.args.word c.in-Some.buffer k.0 k.1
    ∙ ap (λ x. reads c.in_ok-rest.rest.now (block (with_act k.0 x) k.1)) (sym (act_take_last c.args.word c.in-Some.buffer))

pub returns-in_err-value-clause-reads : goal.returns-in_err-value-clause-reads
returns-in_err-value-clause-reads c =
    stmt_stops {X = Expr} c.args.tokens.now (set_to c.args.word) (λ e k. block (with_act k.0 (set c.args.word (tree_of e))) k.1) c.from_residual-in_err-value.result c.in_err-value.field-0.0 c.from_residual-in_err-value.ensures.1
    (set_reads c.args.tokens.now c.args.word (c.in_default.ensures.finds c.args.word) c.expr.result (Err c.in_err-value.field-0.0) c.expr.ensures.reads c.expr.ensures.over c.in_err-value.ensures)

pub returns-clause-reads : goal.returns-clause-reads
returns-clause-reads c =
    λ k. set_reads c.args.tokens.now c.args.word (c.in_default.ensures.finds c.args.word) c.expr.result (Ok (c.in_ok-value.value, c.in_ok-value.rest)) c.expr.ensures.reads c.expr.ensures.over c.in_ok-value.ensures k
    ∙ ap (λ x. reads c.in_ok-value.rest.now (block (with_act k.0 x) k.1)) (sym (act_set c.args.word c.in_ok-value.value))
