use Rattle.std.proofs.Common.{◌≡◌, refl, subst, List, Option, Some, None, Ok, Err, sym, ◌∙◌, ap, arith, le_refl, le_trans, lt_trans, le_of_lt, lt_of_le_of_lt, lt_of_lt_of_le, lit<}
use Rattle.std.specs.declared.alloc.Global.{Global}
use Rattle.std.specs.declared.boxed.Box.{Box}
use Rattle.ts_expressions.specs.Boxed.{boxed_tree}
use Rattle.ts_trees.specs.declared.expr.Expr.{Expr}
use Rattle.ts_trees.specs.declared.stmt.Stmt.{Stmt}
use Rattle.ts_trees.specs.declared.stmt.ForHead.{ForHead}
use Rattle.ts_trees.specs.declared.stmt.Stmt.TheVariants as does
use Rattle.ts_trees.specs.declared.word.Word.{Word}
use Rattle.ts_trees.specs.Seen.{tree_of, act_of, acts_of}
use Rattle.ts_trees.specs.Tree.{Acts, no_acts, if_then}
use Rattle.ts_trees.proofs.SeenLemmas.{act_if_then, act_if_else, act_for_next, act_while_do}
use Rattle.ts_trees.specs.Machine.{Frame, Whole, have, stmt_named, cleared, do_word, in_if, in_while, block, for_word, expr_due, with_act}
use Rattle.ts_trees.specs.Parsing.{reads}
use Rattle.ts_statements.specs.Blocks.{opened_by, FrameIn, ReadsStmtIn, if_made, choice_made, Branch, branch_due, Repetition, repeated_block, repetition_made, Count, counted_block, count_made}
use Rattle.ts_statements.specs.Simple.{head_read}
use Rattle.ts_expressions.proofs.ShorterLemmas.{untold, lower, lowest, fewer}
use Rattle.ts_statements.proofs.DialectLemmas.{no_more}
use Rattle.ts_statements.proofs.Halting.{token_misses}
use Rattle.ts_trees.proofs.Parts.{halts, starts_shorter}
use Rattle.ts_statements.proofs.OpeningLemmas.{stmt_opens, opens_shorter, then_read, then_left, body_due}
use Rattle.ts_trees.specs.declared.token.TokenKind.TheVariants as kind
use Rattle.ts_statements.proofs.BlockLemmas.{then_in, else_in, else_begins, then_end, if_named}
use Rattle.ts_statements.proofs.EndingLemmas.{repeated_reads, else_reads, counted_reads, ended_shorter, counted_shorter, branch_stuck}
use Rattle.ts_statements.proofs.TakenLemmas.{onto, onto_halts, onto_shorter, onto_less, not_more, narrowed, block_halts}
use Rattle.ts_statements.proofs.stmt.+stmt.Goals as goal

pub block-returns-in-Err-clause-reads : goal.block-returns-in-Err-clause-reads
block-returns-in-Err-clause-reads t c =
    block_halts c.args.dialect c.args.tokens.now c.in-Some.behind.now (opened_by c.in-Some.opening) c.loop-opening.stmts c.statement.new.stmts
    (λ f. c.loop-opening.invariant.1 f ∙ stmt_opens c.in-Some.ensures (acts_of c.loop-opening.stmts) f) c.in-Err.halt c.in-Err.ensures.reads

pub block-loop-opening-preserved : goal.block-loop-opening-preserved
block-loop-opening-preserved t c = (
  omega (arith, opens_shorter c.in-Some.ensures, c.in-Ok.ensures.shorter, c.loop-opening.invariant.0),
  λ f. c.loop-opening.invariant.1 f ∙ stmt_opens c.in-Some.ensures (acts_of c.loop-opening.stmts) f ∙ c.in-Ok.ensures.reads f,
)

act_if : (e : Expr) (a : List Stmt) (b : Option (List Stmt)) → act_of (does.If e a b) ≡ if_made (tree_of e) (acts_of a) b
act_if e a None = act_if_then e a
act_if e a (Some b) = act_if_else e a b

pub choice-returns-in-Ok-block-clause-reads : goal.choice-returns-in-Ok-block-clause-reads
choice-returns-in-Ok-block-clause-reads t c =
    onto {X = Option (List Stmt)} {K = Branch c.args.dialect} {L = FrameIn c.args.dialect} (λ f. f.frame) c.args.tokens.now c.in-Ok-block.rest.now
    (λ k. branch_due k) (λ b k. choice_made k.choice k.body b) (λ a f. expr_due (in_if a f)) c.args.stmts.now c.append_choice.new.stmts
    (λ f. record { choice = record { test = boxed_tree c.in_ok-test.test; before = acts_of c.args.stmts.now; frame = f }; body = acts_of c.in-Ok-block.body })
    (λ x. does.If c.in_ok-test.test.value c.in-Ok-block.body x)
    (λ f. c.in_ok-test.ensures.reads (in_if (acts_of c.args.stmts.now) f.frame) ∙ then_read c.in-Ok.ensures (boxed_tree c.in_ok-test.test) (acts_of c.args.stmts.now) f.frame ∙ c.in-Ok-block.ensures.reads (then_in (record { test = boxed_tree c.in_ok-test.test; before = acts_of c.args.stmts.now; frame = f })))
    (λ x f. ap (λ a. block (with_act (acts_of c.args.stmts.now) a) f.frame) (sym (act_if c.in_ok-test.test.value c.in-Ok-block.body x)))
    c.other_branch-other.result c.other_branch-other.ensures.reads c.append_choice.result c.append_choice.ensures

pub choice-returns-in-Err-block-clause-reads : goal.choice-returns-in-Err-block-clause-reads
choice-returns-in-Err-block-clause-reads t c =
    onto_halts {X = List Stmt} {K = FrameIn c.args.dialect} {L = FrameIn c.args.dialect} (λ f. f.frame) c.args.tokens.now c.in-Ok.rest.now
    (λ f. block no_acts f.frame) (λ b f. block (acts_of b) f.frame) (λ a f. expr_due (in_if a f)) c.args.stmts.now c.args.stmts.now
    (λ f. then_in (record { test = boxed_tree c.in_ok-test.test; before = acts_of c.args.stmts.now; frame = f })) (λ f. c.in_ok-test.ensures.reads (in_if (acts_of c.args.stmts.now) f.frame) ∙ then_read c.in-Ok.ensures (boxed_tree c.in_ok-test.test) (acts_of c.args.stmts.now) f.frame)
    (Err c.in-Err-block.halt) c.in-Err-block.halt refl c.in-Err-block.ensures.reads

pub counting-returns-clause-reads : goal.counting-returns-clause-reads
counting-returns-clause-reads t c =
    onto {X = List Stmt × Word} {K = Count c.args.dialect} {L = FrameIn c.args.dialect} (λ f. f.frame) c.args.tokens.now c.in_ok-head.rest.now
    (λ k. counted_block k) (λ x k. count_made k (acts_of x.0) x.1) for_word c.args.stmts.now c.append_count.new.stmts
    (λ f. record { var = c.in_ok-head.head.var; from = tree_of c.in_ok-head.head.from; to = tree_of c.in_ok-head.head.to; step = c.in_ok-head.head.step; before = acts_of c.args.stmts.now; frame = f })
    (λ x. does.For c.in_ok-head.head x.0 x.1) (λ f. c.in_ok-head.ensures.reads (acts_of c.args.stmts.now, f.frame))
    (λ x f. ap (λ a. block (with_act (acts_of c.args.stmts.now) a) f.frame) (sym (act_for_next c.in_ok-head.head x.0 x.1)))
    c.counted.result (counted_reads c.args.dialect c.in_ok-head.rest.now c.block.result c.block.ensures.reads c.block.ensures.over c.counted.result c.counted.ensures)
    c.append_count.result c.append_count.ensures

pub repetition-returns-clause-reads : goal.repetition-returns-clause-reads
repetition-returns-clause-reads t c =
    onto {X = List Stmt} {K = Repetition c.args.dialect} {L = FrameIn c.args.dialect} (λ f. f.frame) c.args.tokens.now c.in_ok-test.rest.now
    (λ k. repeated_block k) (λ b k. repetition_made k (acts_of b)) (λ a f. expr_due (in_while a f)) c.args.stmts.now c.append_repetition.new.stmts
    (λ f. record { test = boxed_tree c.in_ok-test.test; before = acts_of c.args.stmts.now; frame = f }) (λ x. does.While c.in_ok-test.test.value x)
    (λ f. c.in_ok-test.ensures.reads (in_while (acts_of c.args.stmts.now) f.frame) ∙ body_due c.in_ok-test.rest.now c.in_ok-test.ensures.over (boxed_tree c.in_ok-test.test) (acts_of c.args.stmts.now) f.frame)
    (λ x f. ap (λ a. block (with_act (acts_of c.args.stmts.now) a) f.frame) (sym (act_while_do c.in_ok-test.test.value x)))
    c.closed_block-read.result (repeated_reads c.args.dialect c.in_ok-test.rest.now c.block.result c.block.ensures.reads c.block.ensures.over c.closed_block-read.result c.closed_block-read.ensures)
    c.append_repetition.result c.append_repetition.ensures

pub counting-returns-in_err-head-clause-reads : goal.counting-returns-in_err-head-clause-reads
counting-returns-in_err-head-clause-reads t c =
    onto_halts {X = ForHead} {K = Acts × Frame} {L = FrameIn c.args.dialect} (λ f. f.frame) c.args.tokens.now c.args.tokens.now (λ k. for_word k.0 k.1) (λ h k. head_read k h) for_word
    c.args.stmts.now c.args.stmts.now (λ f. (acts_of c.args.stmts.now, f.frame)) (λ f. refl) c.from_residual.result c.in_err-head.field-0.0 c.from_residual.ensures.1 c.in_err-head.ensures.reads

pub other_branch-returns-in_err-other-clause-reads : goal.other_branch-returns-in_err-other-clause-reads
other_branch-returns-in_err-other-clause-reads t c =
    halts (List Stmt) (Option (List Stmt)) (Branch c.args.dialect) (Branch c.args.dialect) c.args.tokens.now c.in-Some.rest.now
    (λ k. block no_acts (else_in k).frame) (λ b k. choice_made k.choice k.body (Some b)) (λ k. branch_due k) (λ b k. choice_made k.choice k.body b) (λ k. k)
    (λ k. else_begins c.in-Some.ensures k.body k.choice.test k.choice.before k.choice.frame.frame)
    c.from_residual.result c.in_err-other.field-0.0 c.from_residual.ensures.1 (else_reads c.args.dialect c.in-Some.rest.now c.block.result c.block.ensures.reads c.block.ensures.over (Err c.in_err-other.field-0.0) c.in_err-other.ensures)

pub other_branch-returns-in_err-rest-clause-reads : goal.other_branch-returns-in_err-rest-clause-reads
other_branch-returns-in_err-rest-clause-reads t c =
    halts (Option (List Stmt)) (Option (List Stmt)) (Branch c.args.dialect) (Branch c.args.dialect) c.args.tokens.now c.args.tokens.now
    (λ k. branch_due k) (λ b k. choice_made k.choice k.body b) (λ k. branch_due k) (λ b k. choice_made k.choice k.body b) (λ k. k) (λ k. refl)
    c.from_residual-in_err-rest.result c.in_err-rest.field-0.0 c.from_residual-in_err-rest.ensures.1
    (branch_stuck c.args.tokens.now c.requires c.in_default.ensures (λ b k. choice_made k.choice k.body b) c.in_err-rest.field-0.0 c.in_err-rest.ensures)

pub other_branch-returns-in-Some-clause-reads : goal.other_branch-returns-in-Some-clause-reads
other_branch-returns-in-Some-clause-reads t c =
    let read = else_reads c.args.dialect c.in-Some.rest.now c.block.result c.block.ensures.reads c.block.ensures.over (Ok (c.in_ok-other.other, c.in_ok-other.rest)) c.in_ok-other.ensures in
    λ k. else_begins c.in-Some.ensures k.body k.choice.test k.choice.before k.choice.frame.frame ∙ read k

pub statement-returns-in-Named-clause-reads : goal.statement-returns-in-Named-clause-reads
statement-returns-in-Named-clause-reads t c =
    subst (λ o. ReadsStmtIn c.args.dialect c.args.tokens.now (opened_by o) c.args.stmts.now c.append_named.new.stmts c.append_named.result) (sym c.in-Named.is)
    (narrowed c.args.dialect c.args.tokens.now (stmt_named c.in-Named.word) c.args.stmts.now c.append_named.new.stmts c.append_named.result c.append_named.ensures.reads)

pub statement-returns-in-Clear-clause-reads : goal.statement-returns-in-Clear-clause-reads
statement-returns-in-Clear-clause-reads t c =
    subst (λ o. ReadsStmtIn c.args.dialect c.args.tokens.now (opened_by o) c.args.stmts.now c.append_clearing.new.stmts c.append_clearing.result) (sym c.in-Clear.is)
    (narrowed c.args.dialect c.args.tokens.now cleared c.args.stmts.now c.append_clearing.new.stmts c.append_clearing.result c.append_clearing.ensures.reads)

pub statement-returns-in-Do-clause-reads : goal.statement-returns-in-Do-clause-reads
statement-returns-in-Do-clause-reads t c =
    subst (λ o. ReadsStmtIn c.args.dialect c.args.tokens.now (opened_by o) c.args.stmts.now c.append_running.new.stmts c.append_running.result) (sym c.in-Do.is)
    (narrowed c.args.dialect c.args.tokens.now do_word c.args.stmts.now c.append_running.new.stmts c.append_running.result c.append_running.ensures.reads)

pub statement-returns-in-If-clause-reads : goal.statement-returns-in-If-clause-reads
statement-returns-in-If-clause-reads t c =
    subst (λ o. ReadsStmtIn c.args.dialect c.args.tokens.now (opened_by o) c.args.stmts.now c.choice.new.stmts c.choice.result) (sym c.in-If.is) c.choice.ensures.reads

pub statement-returns-in-For-clause-reads : goal.statement-returns-in-For-clause-reads
statement-returns-in-For-clause-reads t c =
    subst (λ o. ReadsStmtIn c.args.dialect c.args.tokens.now (opened_by o) c.args.stmts.now c.counting.new.stmts c.counting.result) (sym c.in-For.is) c.counting.ensures.reads

pub statement-returns-in-While-clause-reads : goal.statement-returns-in-While-clause-reads
statement-returns-in-While-clause-reads t c =
    subst (λ o. ReadsStmtIn c.args.dialect c.args.tokens.now (opened_by o) c.args.stmts.now c.repetition.new.stmts c.repetition.result) (sym c.in-While.is) c.repetition.ensures.reads

pub choice-returns-in_err-test-clause-reads : goal.choice-returns-in_err-test-clause-reads
choice-returns-in_err-test-clause-reads t c =
    onto_halts {X = Box Expr Global} {K = Whole} {L = FrameIn c.args.dialect} (λ f. f.frame) c.args.tokens.now c.args.tokens.now (λ k. expr_due k) (λ e k. have (boxed_tree e) k) (λ a f. expr_due (in_if a f))
    c.args.stmts.now c.args.stmts.now (λ f. in_if (acts_of c.args.stmts.now) f.frame) (λ f. refl) c.from_residual.result c.in_err-test.field-0.0 c.from_residual.ensures.1 c.in_err-test.ensures.reads

pub repetition-returns-in_err-test-clause-reads : goal.repetition-returns-in_err-test-clause-reads
repetition-returns-in_err-test-clause-reads t c =
    onto_halts {X = Box Expr Global} {K = Whole} {L = FrameIn c.args.dialect} (λ f. f.frame) c.args.tokens.now c.args.tokens.now (λ k. expr_due k) (λ e k. have (boxed_tree e) k) (λ a f. expr_due (in_while a f))
    c.args.stmts.now c.args.stmts.now (λ f. in_while (acts_of c.args.stmts.now) f.frame) (λ f. refl) c.from_residual.result c.in_err-test.field-0.0 c.from_residual.ensures.1 c.in_err-test.ensures.reads

pub block-loop-opening-init : goal.block-loop-opening-init
block-loop-opening-init t c = (le_refl _, λ f. ap (λ z. reads c.args.tokens.now (block (acts_of z) f.frame)) (sym c.new-stmts.ensures))

pub block-returns-clause-reads : goal.block-returns-clause-reads
block-returns-clause-reads t c = c.loop-opening.invariant.1

pub choice-returns-in-Err-clause-reads : goal.choice-returns-in-Err-clause-reads
choice-returns-in-Err-clause-reads t c =
    onto_halts {X = Stmt} {K = FrameIn c.args.dialect} {L = FrameIn c.args.dialect} (λ f. f.frame) c.args.tokens.now c.args.tokens.now
    (λ f. expr_due (in_if (acts_of c.args.stmts.now) f.frame)) (λ s f. block no_acts f.frame) (λ a f. expr_due (in_if a f)) c.args.stmts.now c.args.stmts.now (λ f. f) (λ f. refl)
    (Err c.in-Err.halt) c.in-Err.halt refl
    (token_misses {Y = Stmt} {L = FrameIn c.args.dialect} kind.Then c.args.tokens.now c.in_ok-test.rest.now (λ f. expr_due (in_if (acts_of c.args.stmts.now) f.frame)) (λ s f. block no_acts f.frame)
    (λ f more l. c.in_ok-test.ensures.reads (in_if (acts_of c.args.stmts.now) f.frame) ∙ then_left c.in_ok-test.ensures.over l (boxed_tree c.in_ok-test.test) (acts_of c.args.stmts.now) f.frame)
    (Err c.in-Err.halt) c.in-Err.halt refl c.in-Err.ensures)

pub other_branch-returns-clause-reads : goal.other_branch-returns-clause-reads
other_branch-returns-clause-reads t c =
    λ k. then_end c.in_ok-rest.ensures.ends k.body k.choice.test k.choice.before k.choice.frame.frame
    ∙ if_named c.in_ok-rest.ensures.names (if_then k.choice.test k.body) k.choice.before k.choice.frame.frame

-- ---- what is left behind a part

pub choice-returns-in_err-test-clause-shorter : goal.choice-returns-in_err-test-clause-shorter
choice-returns-in_err-test-clause-shorter t c = untold _ c.from_residual.result c.in_err-test.field-0.0 c.from_residual.ensures.1

pub counting-returns-in_err-head-clause-shorter : goal.counting-returns-in_err-head-clause-shorter
counting-returns-in_err-head-clause-shorter t c = untold _ c.from_residual.result c.in_err-head.field-0.0 c.from_residual.ensures.1

pub repetition-returns-in_err-test-clause-shorter : goal.repetition-returns-in_err-test-clause-shorter
repetition-returns-in_err-test-clause-shorter t c = untold _ c.from_residual.result c.in_err-test.field-0.0 c.from_residual.ensures.1

pub other_branch-returns-in_err-other-clause-shorter : goal.other_branch-returns-in_err-other-clause-shorter
other_branch-returns-in_err-other-clause-shorter t c = untold _ c.from_residual.result c.in_err-other.field-0.0 c.from_residual.ensures.1

pub other_branch-returns-in_err-rest-clause-shorter : goal.other_branch-returns-in_err-rest-clause-shorter
other_branch-returns-in_err-rest-clause-shorter t c = untold _ c.from_residual-in_err-rest.result c.in_err-rest.field-0.0 c.from_residual-in_err-rest.ensures.1

pub choice-returns-in-Ok-block-clause-shorter : goal.choice-returns-in-Ok-block-clause-shorter
choice-returns-in-Ok-block-clause-shorter t c =
    onto_less c.args.tokens.now c.in-Ok-block.rest.now (le_trans c.in-Ok-block.ensures.shorter (le_of_lt (lt_trans (starts_shorter kind.Then c.in-Ok.ensures) c.in_ok-test.ensures.shorter))) c.append_choice.result
    (onto_shorter c.in-Ok-block.rest.now (λ x. does.If c.in_ok-test.test.value c.in-Ok-block.body x) c.args.stmts.now c.append_choice.new.stmts c.other_branch-other.result c.other_branch-other.ensures.shorter c.append_choice.result c.append_choice.ensures)

pub repetition-returns-clause-shorter : goal.repetition-returns-clause-shorter
repetition-returns-clause-shorter t c =
    onto_less c.args.tokens.now c.in_ok-test.rest.now (le_of_lt c.in_ok-test.ensures.shorter) c.append_repetition.result
    (onto_shorter c.in_ok-test.rest.now (λ x. does.While c.in_ok-test.test.value x) c.args.stmts.now c.append_repetition.new.stmts c.closed_block-read.result
    (ended_shorter kind.While c.in_ok-test.rest.now c.block.result c.block.ensures.shorter c.closed_block-read.result c.closed_block-read.ensures) c.append_repetition.result c.append_repetition.ensures)

pub counting-returns-clause-shorter : goal.counting-returns-clause-shorter
counting-returns-clause-shorter t c =
    onto_less c.args.tokens.now c.in_ok-head.rest.now (le_of_lt c.in_ok-head.ensures.shorter) c.append_count.result
    (onto_shorter c.in_ok-head.rest.now (λ x. does.For c.in_ok-head.head x.0 x.1) c.args.stmts.now c.append_count.new.stmts c.counted.result
    (counted_shorter c.in_ok-head.rest.now c.block.result c.block.ensures.shorter c.counted.result c.counted.ensures) c.append_count.result c.append_count.ensures)

pub other_branch-returns-in-Some-clause-shorter : goal.other_branch-returns-in-Some-clause-shorter
other_branch-returns-in-Some-clause-shorter t c = le_trans (ended_shorter kind.If c.in-Some.rest.now c.block.result c.block.ensures.shorter (Ok (c.in_ok-other.other, c.in_ok-other.rest)) c.in_ok-other.ensures) (no_more kind.Else c.in-Some.ensures)

pub statement-returns-in-Named-clause-shorter : goal.statement-returns-in-Named-clause-shorter
statement-returns-in-Named-clause-shorter t c = not_more c.args.tokens.now c.append_named.result c.append_named.ensures.shorter

pub statement-returns-in-Clear-clause-shorter : goal.statement-returns-in-Clear-clause-shorter
statement-returns-in-Clear-clause-shorter t c = not_more c.args.tokens.now c.append_clearing.result c.append_clearing.ensures.shorter

pub statement-returns-in-Do-clause-shorter : goal.statement-returns-in-Do-clause-shorter
statement-returns-in-Do-clause-shorter t c = not_more c.args.tokens.now c.append_running.result c.append_running.ensures.shorter

pub statement-returns-in-If-clause-shorter : goal.statement-returns-in-If-clause-shorter
statement-returns-in-If-clause-shorter t c = c.choice.ensures.shorter

pub statement-returns-in-For-clause-shorter : goal.statement-returns-in-For-clause-shorter
statement-returns-in-For-clause-shorter t c = c.counting.ensures.shorter

pub statement-returns-in-While-clause-shorter : goal.statement-returns-in-While-clause-shorter
statement-returns-in-While-clause-shorter t c = c.repetition.ensures.shorter

pub block-returns-clause-over : goal.block-returns-clause-over
block-returns-clause-over t c = c.in_default.ensures

pub block-returns-clause-shorter : goal.block-returns-clause-shorter
block-returns-clause-shorter t c = c.loop-opening.invariant.0

pub other_branch-returns-clause-shorter : goal.other_branch-returns-clause-shorter
other_branch-returns-clause-shorter t c = le_trans (no_more kind.If c.in_ok-rest.ensures.names) (no_more kind.End c.in_ok-rest.ensures.ends)

-- ---- each part begins with less

pub block-loop-opening-smaller : goal.block-loop-opening-smaller
block-loop-opening-smaller t c = lt_of_le_of_lt c.in-Ok.ensures.shorter (opens_shorter c.in-Some.ensures)

pub block-statement-requires : goal.block-statement-requires
block-statement-requires t c = (fewer 4 (lit< tt) (lt_of_lt_of_le (opens_shorter c.in-Some.ensures) c.loop-opening.invariant.0) c.decreases, tt)

pub statement-choice-requires : goal.statement-choice-requires
statement-choice-requires t c = (lower 3 4 (lit< tt) (le_refl _) c.decreases, tt)

pub statement-counting-requires : goal.statement-counting-requires
statement-counting-requires t c = (lower 3 4 (lit< tt) (le_refl _) c.decreases, tt)

pub choice-block-requires : goal.choice-block-requires
choice-block-requires t c = (lowest 3 (lit< tt) (le_of_lt (lt_trans (starts_shorter kind.Then c.in-Ok.ensures) c.in_ok-test.ensures.shorter)) c.decreases, tt)

pub choice-other_branch-other-requires : goal.choice-other_branch-other-requires
choice-other_branch-other-requires t c = (lower 1 3 (lit< tt) (le_trans c.in-Ok-block.ensures.shorter (le_of_lt (lt_trans (starts_shorter kind.Then c.in-Ok.ensures) c.in_ok-test.ensures.shorter))) c.decreases, c.in-Ok-block.ensures.over)

pub other_branch-block-requires : goal.other_branch-block-requires
other_branch-block-requires t c = (lowest 1 (lit< tt) (no_more kind.Else c.in-Some.ensures) c.decreases, tt)

pub statement-repetition-requires : goal.statement-repetition-requires
statement-repetition-requires t c = (lower 3 4 (lit< tt) (le_refl _) c.decreases, tt)

pub repetition-block-requires : goal.repetition-block-requires
repetition-block-requires t c = (lowest 3 (lit< tt) (le_of_lt c.in_ok-test.ensures.shorter) c.decreases, tt)

pub counting-block-requires : goal.counting-block-requires
counting-block-requires t c = (lowest 3 (lit< tt) (le_of_lt c.in_ok-head.ensures.shorter) c.decreases, tt)
