use Rattle.std.proofs.Common.{◌≡◌, List, Result, Ok, Err, Bor, length, sym, ◌∙◌, ap, arith}
use Rattle.ts_trees.specs.declared.token.Token.{Token}
use Rattle.ts_trees.specs.declared.token.TokenKind.TheVariants as kind
use Rattle.ts_trees.specs.declared.word.Word.{Word}
use Rattle.ts_trees.specs.Spelling.{kinds}
use Rattle.ts_trees.specs.declared.halt.Halt.{Halt}
use Rattle.ts_trees.specs.declared.halt.Halt.TheVariants as halt
use Rattle.ts_trees.specs.Machine.{param_due}
use Rattle.ts_trees.specs.Parsing.{reads, Reads, Starts, Lacks, Ended}
use Rattle.ts_trees.proofs.Parts.{starts_shorter}
use Rattle.ts_parser.specs.Scripts.{Header, params_due, header_read}
use Rattle.ts_parser.proofs.ScriptLemmas.{no_params, params_begin, param_missing, param_taken, param_follows, params_close, param_stops}
use Rattle.ts_statements.proofs.Halting.{name_misses}
use Rattle.ts_parser.proofs.procs.parameters.Goals as goal

pub returns-in-Some-clause-reads : goal.returns-in-Some-clause-reads
returns-in-Some-clause-reads c = λ k. no_params c.in-Some.ensures k.name k.decls k.procs ∙ ap (λ z. reads c.in-Some.rest.now (header_read k z)) (sym c.new-params.ensures)

pub loop-params-init : goal.loop-params-init
loop-params-init c = (
  λ k. params_begin c.args.tokens.now c.in_default.ensures k ∙ ap (λ z. reads c.args.tokens.now (param_due k.name z k.decls k.procs)) (sym c.new-params.ensures),
  omega arith,
)

pub returns-in_err-word-clause-reads : goal.returns-in_err-word-clause-reads
returns-in_err-word-clause-reads c =
    name_misses {Y = List Word} {L = Header} c.args.tokens.now c.loop-params.rest.now (λ k. params_due k) (λ ws k. header_read k ws)
    (λ k more l. c.loop-params.invariant.0 k ∙ param_missing l k.name c.loop-params.params k.decls k.procs)
    c.from_residual.result c.in_err-word.field-0.0 c.from_residual.ensures.1 c.in_err-word.ensures

-- `)` behind all of them
close_reads : (ts : List Token) (all : List Word × Bor (List Token)) →
    ((k : Header) (rest : List Token) → Starts kind.Close all.1.now rest → reads ts (params_due k) ≡ reads rest (header_read k all.0)) →
    ((k : Header) (rest : List Token) → (rest ≡ all.1.now) × Lacks kind.Close all.1.now → reads ts (params_due k) ≡ Err (kinds rest)) →
    (result : Result (List Word × Bor (List Token)) Halt) → Ended kind.Close (Ok all) result → Reads {X = List Word} {K = Header} ts (λ k. params_due k) (λ ws k. header_read k ws) result
close_reads ts all s n (Ok x) i = λ k. s k x.1.now i.1 ∙ ap (λ z. reads x.1.now (header_read k z)) (sym i.0)
close_reads ts all s n (Err halt.Memory) i = absurd i
close_reads ts all s n (Err (halt.At rest)) i = λ k. n k rest.now i

pub returns-in_default-after-clause-reads : goal.returns-in_default-after-clause-reads
returns-in_default-after-clause-reads c =
    close_reads c.args.tokens.now (c.push.new.self, c.in_ok-word.behind)
    (λ k rest s. c.loop-params.invariant.0 k ∙ param_taken c.in_ok-word.ensures k.name c.loop-params.params k.decls k.procs
    ∙ params_close s k.name c.loop-params.params c.in_ok-word.word k.decls k.procs
    ∙ ap (λ z. reads rest (header_read k z)) (sym c.in_ok-push.ensures))
    (λ k rest l. c.loop-params.invariant.0 k ∙ param_taken c.in_ok-word.ensures k.name c.loop-params.params k.decls k.procs
    ∙ param_stops c.in_default-after.ensures l k.name c.loop-params.params c.in_ok-word.word k.decls k.procs)
    c.ended.result c.ended.ensures

pub loop-params-preserved : goal.loop-params-preserved
loop-params-preserved c = (
  λ k. c.loop-params.invariant.0 k ∙ param_taken c.in_ok-word.ensures k.name c.loop-params.params k.decls k.procs
      ∙ param_follows c.in-Some-after.ensures k.name c.loop-params.params c.in_ok-word.word k.decls k.procs
      ∙ ap (λ z. reads c.in-Some-after.next.now (param_due k.name z k.decls k.procs)) (sym c.in_ok-push.ensures),
  omega (arith, starts_shorter kind.Comma c.in-Some-after.ensures, ap length c.in_ok-word.ensures.are, c.loop-params.invariant.1),
)
