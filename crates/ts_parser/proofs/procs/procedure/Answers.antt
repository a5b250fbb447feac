use Rattle.std.proofs.Common.{List, [], ◌∷◌, ◌++◌, Result, Ok, Err, Bor, refl, ◌∙◌}
use Rattle.ts_trees.specs.declared.procedure.Proc.{Proc}
use Rattle.ts_trees.specs.declared.script.Decl.{Decl}
use Rattle.ts_trees.specs.declared.stmt.Stmt.{Stmt}
use Rattle.ts_trees.specs.declared.token.Token.{Token}
use Rattle.ts_trees.specs.declared.token.TokenKind.TheVariants as kind
use Rattle.ts_trees.specs.declared.word.Word.{Word}
use Rattle.ts_trees.specs.Seen.{acts_of, procedure_of}
use Rattle.ts_trees.specs.Tree.{Procedure}
use Rattle.ts_trees.specs.declared.halt.Halt.{Halt}
use Rattle.ts_trees.specs.Machine.{proc_word, proc_named, proc_opened, procedures}
use Rattle.ts_trees.specs.Parsing.{Reads, TakesName, Ended}
use Rattle.ts_trees.proofs.Parts.{halts}
use Rattle.ts_parser.specs.Scripts.{Header, params_due, header_read, Routine, routine_due, routine_read}
use Rattle.ts_parser.proofs.ScriptLemmas.{header_missing, header_names, header_open, header_begins}
use Rattle.ts_statements.proofs.EndedLemmas.{name_reads, ended_reads}
use Rattle.ts_parser.proofs.procs.procedure.Goals as goal

header : Word → List Decl × List Procedure → Header
header w k = record { name = w; decls = k.0; procs = k.1 }

-- the name and `(`
word_reads : (ts : List Token) (named opened : Result (Word × Bor (List Token)) Halt) → TakesName ts named → Ended kind.Open named opened →
    Reads {K = List Decl × List Procedure} ts (λ k. proc_word k.0 k.1) (λ v k. proc_opened v k.0 k.1) opened
word_reads ts named opened h =
    ended_reads {X = Word} {K = List Decl × List Procedure} {L = List Decl × List Procedure} kind.Open ts ts (λ k. proc_word k.0 k.1) (λ v k. proc_named v k.0 k.1) (λ k. proc_word k.0 k.1) (λ v k. proc_opened v k.0 k.1)
    (λ k. k) (λ k. refl) (λ v vs ws o k. header_begins o v k.0 k.1) (λ v vs rest l k. header_open l v k.0 k.1) named opened
    (name_reads ts (λ k. proc_word k.0 k.1) (λ v k. proc_named v k.0 k.1) (λ k v us s. header_names s k.0 k.1) (λ k rest l. header_missing l k.0 k.1) named h)

pub returns-in_err-word-clause-reads : goal.returns-in_err-word-clause-reads
returns-in_err-word-clause-reads c =
    halts Word Proc (List Decl × List Procedure) (List Decl × List Procedure) c.args.tokens.now c.args.tokens.now
    (λ k. proc_word k.0 k.1) (λ v k. proc_opened v k.0 k.1) (λ k. proc_word k.0 k.1) (λ p k. procedures k.0 (k.1 ++ procedure_of p ∷ [])) (λ k. k) (λ k. refl)
    c.from_residual.result c.in_err-word.field-0.0 c.from_residual.ensures.1 (word_reads c.args.tokens.now c.name.result (Err c.in_err-word.field-0.0) c.name.ensures c.in_err-word.ensures)

pub returns-in_err-params-clause-reads : goal.returns-in_err-params-clause-reads
unfolding header
returns-in_err-params-clause-reads c =
    halts (List Word) Proc Header (List Decl × List Procedure) c.args.tokens.now c.in_ok-word.rest.now
    (λ k. params_due k) (λ ws k. header_read k ws) (λ k. proc_word k.0 k.1) (λ p k. procedures k.0 (k.1 ++ procedure_of p ∷ []))
    (header c.in_ok-word.word) (word_reads c.args.tokens.now c.name.result (Ok (c.in_ok-word.word, c.in_ok-word.rest)) c.name.ensures c.in_ok-word.ensures)
    c.from_residual-in_err-params.result c.in_err-params.field-0.0 c.from_residual-in_err-params.ensures.1 c.in_err-params.ensures.reads

pub returns-in_err-body-clause-reads : goal.returns-in_err-body-clause-reads
unfolding header
returns-in_err-body-clause-reads c =
    halts (List Stmt) Proc Routine (List Decl × List Procedure) c.args.tokens.now c.in_ok-params.rest.now
    (λ k. routine_due k) (λ b k. routine_read k (acts_of b)) (λ k. proc_word k.0 k.1) (λ p k. procedures k.0 (k.1 ++ procedure_of p ∷ []))
    (λ k. record { header = header c.in_ok-word.word k; params = c.in_ok-params.params })
    (λ k. word_reads c.args.tokens.now c.name.result (Ok (c.in_ok-word.word, c.in_ok-word.rest)) c.name.ensures c.in_ok-word.ensures k ∙ c.in_ok-params.ensures.reads (header c.in_ok-word.word k))
    c.from_residual-in_err-body.result c.in_err-body.field-0.0 c.from_residual-in_err-body.ensures.1 c.in_err-body.ensures.reads

pub returns-clause-reads : goal.returns-clause-reads
unfolding header
returns-clause-reads c =
    λ k. word_reads c.args.tokens.now c.name.result (Ok (c.in_ok-word.word, c.in_ok-word.rest)) c.name.ensures c.in_ok-word.ensures k ∙ c.in_ok-params.ensures.reads (header c.in_ok-word.word k)
    ∙ c.in_ok-body.ensures.reads (record { header = header c.in_ok-word.word k; params = c.in_ok-params.params })
