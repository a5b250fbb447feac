use Rattle.std.proofs.Common.{◌≡◌, List, Result, Err, Ok, Bor, refl, sym, ◌∙◌, ap}
use Rattle.ts_trees.specs.declared.expr.Expr.{Expr}
use Rattle.ts_trees.specs.declared.token.Token.{Token}
use Rattle.ts_trees.specs.declared.token.TokenKind.TheVariants as kind
use Rattle.ts_trees.specs.declared.word.Word.{Word}
use Rattle.ts_trees.specs.Seen.{trees_of}
use Rattle.ts_trees.specs.Tree.{Acts, run_procedure}
use Rattle.ts_trees.proofs.SeenLemmas.{act_run_procedure}
use Rattle.ts_trees.specs.declared.halt.Halt.{Halt}
use Rattle.ts_trees.specs.Machine.{Frame, block, do_word, do_named, do_opened, with_act}
use Rattle.ts_trees.specs.Parsing.{reads, Reads, TakesName, Caller, of_do, called_open, called, Ended}
use Rattle.ts_statements.proofs.EndedLemmas.{name_reads, ended_reads, closed_reads, stmt_stops}
use Rattle.ts_statements.proofs.SimpleLemmas.{do_missing, do_names, do_unopened, do_opens}
use Rattle.ts_statements.proofs.simple.running.Goals as goal

-- the name and `(`
word_reads : (ts : List Token) (named opened : Result (Word × Bor (List Token)) Halt) → TakesName ts named → Ended kind.Open named opened →
    Reads {K = Acts × Frame} ts (λ k. do_word k.0 k.1) (λ v k. do_opened v k.0 k.1) opened
word_reads ts named opened h =
    ended_reads {X = Word} {K = Acts × Frame} {L = Acts × Frame} kind.Open ts ts (λ k. do_word k.0 k.1) (λ v k. do_named v k.0 k.1) (λ k. do_word k.0 k.1) (λ v k. do_opened v k.0 k.1) (λ k. k)
    (λ k. refl) (λ v vs ws o k. do_opens o v k.0 k.1) (λ v vs rest l k. do_unopened l v k.0 k.1) named opened
    (name_reads ts (λ k. do_word k.0 k.1) (λ v k. do_named v k.0 k.1) (λ k v us s. do_names s k.0 k.1) (λ k rest l. do_missing l k.0 k.1) named h)

-- the arguments and `;`
args_reads : (ts us : List Token) (v : Word) → ((k : Acts × Frame) → reads ts (do_word k.0 k.1) ≡ reads us (do_opened v k.0 k.1)) → (read result : Result (List Expr × Bor (List Token)) Halt) →
    Reads {K = Caller} us (λ k. called_open k) (λ es k. called k (trees_of es)) read → Ended kind.Semi read result →
    Reads {K = Acts × Frame} ts (λ k. do_word k.0 k.1) (λ es k. block (with_act k.0 (run_procedure v (trees_of es))) k.1) result
args_reads ts us v s =
    closed_reads {X = List Expr} {K = Caller} ts us (λ k. called_open k) (λ es k. called k (trees_of es)) do_word (λ es. run_procedure v (trees_of es)) (λ k. of_do v k.0 k.1) s (λ es vs k. refl)

pub returns-in_err-word-clause-reads : goal.returns-in_err-word-clause-reads
returns-in_err-word-clause-reads c =
    stmt_stops {X = Word} c.args.tokens.now do_word (λ v k. do_opened v k.0 k.1)
    c.from_residual.result c.in_err-word.field-0.0 c.from_residual.ensures.1 (word_reads c.args.tokens.now c.name.result (Err c.in_err-word.field-0.0) c.name.ensures c.in_err-word.ensures)

pub returns-in_err-args-clause-reads : goal.returns-in_err-args-clause-reads
returns-in_err-args-clause-reads c =
    stmt_stops {X = List Expr} c.args.tokens.now do_word (λ es k. block (with_act k.0 (run_procedure c.in_ok-word.word (trees_of es))) k.1) c.from_residual-in_err-args.result c.in_err-args.field-0.0 c.from_residual-in_err-args.ensures.1
    (args_reads c.args.tokens.now c.in_ok-word.rest.now c.in_ok-word.word (word_reads c.args.tokens.now c.name.result (Ok (c.in_ok-word.word, c.in_ok-word.rest)) c.name.ensures c.in_ok-word.ensures)
    c.arguments.result (Err c.in_err-args.field-0.0) c.arguments.ensures.reads c.in_err-args.ensures)

pub returns-clause-reads : goal.returns-clause-reads
returns-clause-reads c =
    λ k. args_reads c.args.tokens.now c.in_ok-word.rest.now c.in_ok-word.word (word_reads c.args.tokens.now c.name.result (Ok (c.in_ok-word.word, c.in_ok-word.rest)) c.name.ensures c.in_ok-word.ensures)
    c.arguments.result (Ok (c.in_ok-args.args, c.in_ok-args.rest)) c.arguments.ensures.reads c.in_ok-args.ensures k
    ∙ ap (λ x. reads c.in_ok-args.rest.now (block (with_act k.0 x) k.1)) (sym (act_run_procedure c.in_ok-word.word c.in_ok-args.args))
