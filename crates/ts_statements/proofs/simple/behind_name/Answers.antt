use Rattle.std.proofs.Common.{List, Result, Err, Ok, Bor, refl, sym, ◌∙◌, ap}
use Rattle.ts_trees.specs.declared.expr.Expr.{Expr}
use Rattle.ts_trees.specs.declared.token.Token.{Token}
use Rattle.ts_trees.specs.declared.token.TokenKind.TheVariants as kind
use Rattle.ts_trees.specs.declared.word.Word.{Word}
use Rattle.ts_trees.specs.Seen.{trees_of}
use Rattle.ts_trees.specs.Tree.{Acts, call_alone}
use Rattle.ts_trees.proofs.SeenLemmas.{act_call_alone}
use Rattle.ts_trees.specs.declared.halt.Halt.{Halt}
use Rattle.ts_trees.specs.Machine.{Frame, block, stmt_named, set_to, boxed, with_act}
use Rattle.ts_trees.specs.Parsing.{reads, Reads, Starts, Caller, of_stmt, called_open, called, Ended}
use Rattle.ts_statements.proofs.EndedLemmas.{closed_reads, stmt_stops}
use Rattle.ts_statements.proofs.Halting.{stmt_misses, stmt_ends}
use Rattle.ts_statements.proofs.SimpleLemmas.{set_begins, item_begins, call_open, call_read}
use Rattle.ts_statements.proofs.simple.behind_name.Goals as goal

-- the arguments and `;`
args_reads : (ts us : List Token) (w : Word) → Starts kind.Open ts us → (read result : Result (List Expr × Bor (List Token)) Halt) →
    Reads {K = Caller} us (λ k. called_open k) (λ es k. called k (trees_of es)) read → Ended kind.Semi read result →
    Reads {K = Acts × Frame} ts (λ k. stmt_named w k.0 k.1) (λ es k. block (with_act k.0 (call_alone w (trees_of es))) k.1) result
args_reads ts us w o =
    closed_reads {X = List Expr} {K = Caller} ts us (λ k. called_open k) (λ es k. called k (trees_of es)) (stmt_named w) (λ es. call_alone w (trees_of es))
    (λ k. of_stmt w k.0 k.1) (λ k. call_read o w k.0 k.1) (λ es vs k. refl)

pub returns-in_err-args-clause-reads : goal.returns-in_err-args-clause-reads
returns-in_err-args-clause-reads c =
    stmt_stops {X = List Expr} c.args.tokens.now (stmt_named c.args.word) (λ es k. block (with_act k.0 (call_alone c.args.word (trees_of es))) k.1) c.from_residual-in_err-args.result c.in_err-args.field-0.0 c.from_residual-in_err-args.ensures.1
    (args_reads c.args.tokens.now c.in_ok-rest.rest.now c.args.word c.in_ok-rest.ensures c.arguments.result (Err c.in_err-args.field-0.0) c.arguments.ensures.reads c.in_err-args.ensures)

pub returns-clause-reads : goal.returns-clause-reads
returns-clause-reads c =
    λ k. args_reads c.args.tokens.now c.in_ok-rest.rest.now c.args.word c.in_ok-rest.ensures c.arguments.result (Ok (c.in_ok-args.args, c.in_ok-args.rest)) c.arguments.ensures.reads c.in_ok-args.ensures k
    ∙ ap (λ x. reads c.in_ok-args.rest.now (block (with_act k.0 x) k.1)) (sym (act_call_alone c.args.word c.in_ok-args.args))

pub returns-in-Some-clause-reads : goal.returns-in-Some-clause-reads
returns-in-Some-clause-reads c =
    stmt_ends c.args.tokens.now c.in-Some.rest.now (set_to c.args.word) (stmt_named c.args.word) (λ k. set_begins c.in-Some.ensures c.args.word k.0 k.1) c.setting.result c.setting.ensures.reads

pub returns-in-Some-after-clause-reads : goal.returns-in-Some-after-clause-reads
returns-in-Some-after-clause-reads c =
    stmt_ends c.args.tokens.now c.in-Some-after.rest.now (boxed c.args.word) (stmt_named c.args.word) (λ k. item_begins c.in-Some-after.ensures c.args.word k.0 k.1)
    c.item_setting.result c.item_setting.ensures.reads

pub returns-in_err-rest-clause-reads : goal.returns-in_err-rest-clause-reads
returns-in_err-rest-clause-reads c =
    stmt_misses kind.Open c.args.tokens.now c.args.tokens.now (stmt_named c.args.word) (λ k more l. call_open l c.in_default.ensures c.in_default-after.ensures c.args.word k.0 k.1)
    c.from_residual.result c.in_err-rest.field-0.0 c.from_residual.ensures.1 c.in_err-rest.ensures
