use Rattle.std.proofs.Common.{[], ◌++◌, ◌∙◌, List, ap, refl, sym, length, append_assoc}
use Rattle.std.proofs.lemmas.List.{append-nil}
use Rattle.ts_trees.specs.declared.procedure.Proc.{Proc}
use Rattle.ts_trees.specs.declared.token.TokenKind.{TokenKind}
use Rattle.ts_proc_texts.specs.Rest.{block_tokens, tokens_if, tokens_on}
use Rattle.ts_proc_texts.specs.Size.{size_if}
use Rattle.ts_proc_texts.specs.declared.rest.Rest.{Rest}
use Rattle.ts_proc_texts.proofs.ProgressLemmas.{all_left, part_printed}
use Rattle.ts_proc_texts.proofs.StackLemmas.{tokens_on_push, fewer}
use Rattle.ts_proc_texts.proofs.walk.walk.Goals as goal

pub returns-in_default : goal.returns-in_default
returns-in_default g c = (_, all_left refl)

pub loop-rest-init : goal.loop-rest-init
loop-rest-init g c =
    let procs : List Proc = c.args.bodies.now.plan.heads.procs.now in
    let all : List TokenKind = block_tokens procs (length procs) c.args.stmts.now in
    all_left (sym (c.in-Ok.ensures.left procs ∙ ap (λ (rs : List Rest). (all ++ []) ++ tokens_on procs rs) c.new-stack.ensures.items
    ∙ append-nil (all ++ []) ∙ append-nil all))

pub loop-rest-preserved : goal.loop-rest-preserved
loop-rest-preserved g c =
    let procs : List Proc = c.args.bodies.now.plan.heads.procs.now in
    let below : List TokenKind = tokens_on procs c.pop.new.self.items in
    part_printed below (ap (tokens_on procs) c.in-Some.ensures.items ∙ tokens_on_push procs c.pop.new.self.items c.in-Some.rest)
    (c.in-Ok-push_both.ensures.left procs ∙ sym (append_assoc (tokens_if procs c.advance.result.0) (tokens_if procs c.advance.result.1) below))
    c.loop-rest.invariant c.advance.ensures.prints

pub loop-rest-smaller : goal.loop-rest-smaller
loop-rest-smaller g c =
    let procs : List Proc = c.args.bodies.now.plan.heads.procs.now in
    fewer procs c.loop-rest.stack.items c.pop.new.self.items c.in-Some.rest (size_if procs c.advance.result.1) (size_if procs c.advance.result.0) _
    c.in-Some.ensures.items c.advance.ensures.smaller (c.in-Ok-push_both.ensures.size procs)

pub returns-in_default-push_both : goal.returns-in_default-push_both
returns-in_default-push_both g c =
    let procs : List Proc = c.args.bodies.now.plan.heads.procs.now in
    let below : List TokenKind = tokens_on procs c.pop.new.self.items in (
      _,
      part_printed below (ap (tokens_on procs) c.in-Some.ensures.items ∙ tokens_on_push procs c.pop.new.self.items c.in-Some.rest) refl
          c.loop-rest.invariant c.advance.ensures.prints,
    )
