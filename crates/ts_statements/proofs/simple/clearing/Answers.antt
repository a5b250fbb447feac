use Rattle.std.proofs.Common.{List, Result, Err, Ok, Bor, refl, sym, ◌∙◌, ap}
use Rattle.ts_trees.specs.declared.token.Token.{Token}
use Rattle.ts_trees.specs.declared.token.TokenKind.TheVariants as kind
use Rattle.ts_trees.specs.declared.word.Word.{Word}
use Rattle.ts_trees.specs.Tree.{Acts, clear}
use Rattle.ts_trees.proofs.SeenLemmas.{act_clear}
use Rattle.ts_trees.specs.declared.halt.Halt.{Halt}
use Rattle.ts_trees.specs.Machine.{Frame, block, cleared, clear_opened, clear_named, closed, with_act}
use Rattle.ts_trees.specs.Parsing.{reads, Reads, Starts, TakesName, Ended}
use Rattle.ts_statements.proofs.EndedLemmas.{name_reads, ended_reads, closed_reads, stmt_stops}
use Rattle.ts_statements.proofs.Halting.{stmt_misses}
use Rattle.ts_statements.proofs.SimpleLemmas.{clear_missing, clear_opens, clear_unnamed, clear_names, clear_open, clear_closes}
use Rattle.ts_statements.proofs.simple.clearing.Goals as goal

-- the buffer, `)` and `;`
buffer_reads : (ts us : List Token) → Starts kind.Open ts us → (named closes result : Result (Word × Bor (List Token)) Halt) → TakesName us named → Ended kind.Close named closes → Ended kind.Semi closes result →
    Reads {K = Acts × Frame} ts (λ k. cleared k.0 k.1) (λ v k. block (with_act k.0 (clear v)) k.1) result
buffer_reads ts us o named closes result h i =
    closed_reads {X = Word} {K = Acts × Frame} ts ts (λ k. cleared k.0 k.1) (λ v k. closed (clear v) k.0 k.1) cleared clear (λ k. k) (λ k. refl) (λ v vs k. refl) closes result
    (ended_reads {X = Word} {K = Acts × Frame} {L = Acts × Frame} kind.Close ts us (λ k. clear_opened k.0 k.1) (λ v k. clear_named v k.0 k.1) (λ k. cleared k.0 k.1) (λ v k. closed (clear v) k.0 k.1) (λ k. k)
    (λ k. clear_opens o k.0 k.1) (λ v vs ws s k. clear_closes s v k.0 k.1) (λ v vs rest l k. clear_open l v k.0 k.1) named closes
    (name_reads us (λ k. clear_opened k.0 k.1) (λ v k. clear_named v k.0 k.1) (λ k v us s. clear_names s k.0 k.1) (λ k rest l. clear_unnamed l k.0 k.1) named h) i)

pub returns-in_err-rest-clause-reads : goal.returns-in_err-rest-clause-reads
returns-in_err-rest-clause-reads c =
    stmt_misses kind.Open c.args.tokens.now c.args.tokens.now cleared (λ k more l. clear_missing l k.0 k.1)
    c.from_residual.result c.in_err-rest.field-0.0 c.from_residual.ensures.1 c.in_err-rest.ensures

pub returns-in_err-buffer-clause-reads : goal.returns-in_err-buffer-clause-reads
returns-in_err-buffer-clause-reads c =
    stmt_stops {X = Word} c.args.tokens.now cleared (λ v k. block (with_act k.0 (clear v)) k.1)
    c.from_residual-in_err-buffer.result c.in_err-buffer.field-0.0 c.from_residual-in_err-buffer.ensures.1
    (buffer_reads c.args.tokens.now c.in_ok-rest.rest.now c.in_ok-rest.ensures c.name.result c.ended-named.result (Err c.in_err-buffer.field-0.0) c.name.ensures c.ended-named.ensures c.in_err-buffer.ensures)

pub returns-clause-reads : goal.returns-clause-reads
returns-clause-reads c =
    λ k. buffer_reads c.args.tokens.now c.in_ok-rest.rest.now c.in_ok-rest.ensures c.name.result c.ended-named.result (Ok (c.in_ok-buffer.buffer, c.in_ok-buffer.rest)) c.name.ensures c.ended-named.ensures c.in_ok-buffer.ensures k
    ∙ ap (λ x. reads c.in_ok-buffer.rest.now (block (with_act k.0 x) k.1)) (sym (act_clear c.in_ok-buffer.buffer))
