use Rattle.std.proofs.Common.{List, Result, Err, Ok, Bor, sym, ◌∙◌, ap}
use Rattle.std.specs.Prelude.{IfOk}
use Rattle.ts_trees.specs.declared.expr.Expr.{Expr}
use Rattle.ts_trees.specs.declared.token.Token.{Token}
use Rattle.ts_trees.specs.declared.token.TokenKind.TheVariants as kind
use Rattle.ts_trees.specs.declared.word.Word.{Word}
use Rattle.ts_trees.specs.Seen.{tree_of}
use Rattle.ts_trees.specs.Tree.{Acts}
use Rattle.ts_trees.proofs.SeenLemmas.{act_append, act_set_item}
use Rattle.ts_trees.specs.declared.halt.Halt.{Halt}
use Rattle.ts_trees.specs.Machine.{Frame, Whole, in_index, have, block, boxed, item_indexed, expr_due, with_act}
use Rattle.ts_trees.specs.Parsing.{reads, Reads, Lacks, Ended}
use Rattle.ts_statements.specs.Simple.{Target, of_append, of_item, value_due, value_set}
use Rattle.ts_statements.proofs.EndedLemmas.{ended_over, stmt_stops}
use Rattle.ts_statements.proofs.Halting.{stmt_halts}
use Rattle.ts_statements.proofs.SimpleLemmas.{append_read, index_due, index_read, index_stops}
use Rattle.ts_statements.proofs.simple.item_setting.Goals as goal

-- the index and `]`
index_reads : (ts : List Token) (w : Word) → Lacks kind.CloseBox ts → (read result : Result (Expr × Bor (List Token)) Halt) →
    Reads {K = Whole} ts (λ k. expr_due k) (λ e k. have (tree_of e) k) read → IfOk read (λ x. Lacks kind.Or x.1.now) → Ended kind.CloseBox read result →
    Reads {K = Acts × Frame} ts (λ k. boxed w k.0 k.1) (λ e k. item_indexed w (tree_of e) k.0 k.1) result
index_reads ts w n =
    ended_over {X = Expr} {K = Whole} {L = Acts × Frame} kind.CloseBox (λ vs. Lacks kind.Or vs) ts ts (λ k. expr_due k) (λ e k. have (tree_of e) k)
    (λ k. boxed w k.0 k.1) (λ e k. item_indexed w (tree_of e) k.0 k.1) (λ k. in_index w k.0 k.1) (λ k. index_due ts n w k.0 k.1)
    (λ e vs ws s k. index_read s (tree_of e) w k.0 k.1) (λ e vs rest o l k. index_stops o l (tree_of e) w k.0 k.1)

pub returns-in_err-value-clause-reads : goal.returns-in_err-value-clause-reads
returns-in_err-value-clause-reads c =
    stmt_halts {X = Expr} {K = Target} c.args.tokens.now c.in-Some.rest.now (λ k. value_due k) (λ e k. value_set k (tree_of e)) (boxed c.args.buffer)
    (λ k. of_append c.args.buffer k.0 k.1) (λ k. append_read c.in-Some.ensures c.args.buffer k.0 k.1)
    c.from_residual.result c.in_err-value.field-0.0 c.from_residual.ensures.1 c.in_err-value.ensures.reads

pub returns-in-Some-clause-reads : goal.returns-in-Some-clause-reads
returns-in-Some-clause-reads c =
    λ k. append_read c.in-Some.ensures c.args.buffer k.0 k.1 ∙ c.in_ok-value.ensures.reads (of_append c.args.buffer k.0 k.1)
    ∙ ap (λ x. reads c.in_ok-value.rest.now (block (with_act k.0 x) k.1)) (sym (act_append c.args.buffer c.in_ok-value.value))

pub returns-in_err-index-clause-reads : goal.returns-in_err-index-clause-reads
returns-in_err-index-clause-reads c =
    stmt_stops {X = Expr} c.args.tokens.now (boxed c.args.buffer) (λ e k. item_indexed c.args.buffer (tree_of e) k.0 k.1) c.from_residual-in_err-index.result c.in_err-index.field-0.0 c.from_residual-in_err-index.ensures.1
    (index_reads c.args.tokens.now c.args.buffer c.in_default.ensures c.expr.result (Err c.in_err-index.field-0.0) c.expr.ensures.reads c.expr.ensures.over c.in_err-index.ensures)

pub returns-in_err-value-2-clause-reads : goal.returns-in_err-value-2-clause-reads
returns-in_err-value-2-clause-reads c =
    stmt_halts {X = Expr} {K = Target} c.args.tokens.now c.in_ok-index.rest.now (λ k. value_due k) (λ e k. value_set k (tree_of e)) (boxed c.args.buffer)
    (λ k. of_item c.args.buffer (tree_of c.in_ok-index.index) k.0 k.1)
    (index_reads c.args.tokens.now c.args.buffer c.in_default.ensures c.expr.result (Ok (c.in_ok-index.index, c.in_ok-index.rest)) c.expr.ensures.reads c.expr.ensures.over c.in_ok-index.ensures)
    c.from_residual-in_err-value-2.result c.in_err-value-2.field-0.0 c.from_residual-in_err-value-2.ensures.1 c.in_err-value-2.ensures.reads

pub returns-clause-reads : goal.returns-clause-reads
returns-clause-reads c =
    λ k. index_reads c.args.tokens.now c.args.buffer c.in_default.ensures c.expr.result (Ok (c.in_ok-index.index, c.in_ok-index.rest)) c.expr.ensures.reads c.expr.ensures.over c.in_ok-index.ensures k
    ∙ c.in_ok-value-2.ensures.reads (of_item c.args.buffer (tree_of c.in_ok-index.index) k.0 k.1)
    ∙ ap (λ x. reads c.in_ok-value-2.rest.now (block (with_act k.0 x) k.1)) (sym (act_set_item c.args.buffer c.in_ok-index.index c.in_ok-value-2.value))
