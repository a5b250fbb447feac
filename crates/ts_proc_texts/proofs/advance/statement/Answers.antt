use Rattle.std.proofs.Common.{◌≡◌, ◌<◌, ◌+◌, suc, [], ◌∷◌, ◌++◌, ◌∙◌, ℕ, List, Some, refl, ap, sym, subst, take, arith}
use Rattle.ts_trees.specs.declared.procedure.Proc.{Proc}
use Rattle.ts_trees.specs.declared.stmt.Stmt.TheVariants as does
use Rattle.ts_trees.specs.declared.token.TokenKind.TheVariants as kind
use Rattle.ts_trees.specs.Seen.{tree_of, act_of, acts}
use Rattle.ts_trees.specs.Spelling.{name, spelled, acts_spelled}
use Rattle.ts_trees.proofs.SeenLemmas.{act_if_then, act_if_else, act_for_next, act_while_do, act_run_procedure}
use Rattle.ts_syntax.specs.Print.{head_spelled}
use Rattle.ts_proc_renaming.specs.Renaming.{Hiding, renamed, renamed_expr}
use Rattle.ts_proc_expansion.specs.Expansion.{Callee, expanded_act}
use Rattle.ts_proc_expansion.specs.Plan.{bodies_of}
use Rattle.ts_proc_texts.specs.Hidings.{hiding_at}
use Rattle.ts_proc_texts.specs.Rest.{block_tokens}
use Rattle.ts_proc_texts.specs.Size.{act_size, sizes_of_bodies, block_size, size_if}
use Rattle.ts_proc_texts.proofs.ProgressLemmas.{up_to, up_to_by}
use Rattle.ts_proc_texts.proofs.TokenLemmas.{if_then_becomes, if_else_becomes, for_becomes, while_becomes}
use Rattle.ts_proc_texts.proofs.advance.statement.Goals as goal

-- a block is smaller than its statement, and so are two blocks together
smaller : {a b x : ℕ} → a ≡ suc (suc b) → x ≡ b → suc (x + 0) < a
smaller is same = omega arith

smaller_both : {a b x : ℕ} (d : ℕ) → a ≡ suc (suc (b + suc d)) → x ≡ b → suc (x + suc d) < a
smaller_both d is same = omega arith

pub returns-in-For-clause-prints : goal.returns-in-For-clause-prints
returns-in-For-clause-prints g c =
    let procs : List Proc = c.args.bodies.now.plan.heads.procs.now in
    let known : List (List ℕ × Callee) = take c.args.place (bodies_of procs) in
    let h : Hiding = hiding_at procs c.args.place in
    up_to (ap (λ s. acts_spelled (acts (expanded_act known h (act_of s)))) c.in-For.is ∙ for_becomes known h c.in-For.head c.in-For.block c.in-For.word
    ∙ ap (λ ss. head_spelled (renamed h) c.in-For.head ++ (block_tokens procs c.args.place ss ++ (kind.Next ∷ name (renamed h c.in-For.word) ∷ []))) (sym c.as_slice-in-For.ensures)) c.for_head.ensures

pub returns-in-While-clause-prints : goal.returns-in-While-clause-prints
returns-in-While-clause-prints g c =
    let procs : List Proc = c.args.bodies.now.plan.heads.procs.now in
    let known : List (List ℕ × Callee) = take c.args.place (bodies_of procs) in
    let h : Hiding = hiding_at procs c.args.place in
    up_to (ap (λ s. acts_spelled (acts (expanded_act known h (act_of s)))) c.in-While.is ∙ while_becomes known h c.in-While.test c.in-While.block
    ∙ ap (λ ss. (kind.While ∷ spelled (renamed_expr h (tree_of c.in-While.test))) ++ (block_tokens procs c.args.place ss ++ (kind.End ∷ kind.While ∷ []))) (sym c.as_slice-in-While.ensures))
    c.while_head.ensures

pub returns-in-Run-clause-prints : goal.returns-in-Run-clause-prints
returns-in-Run-clause-prints g c =
    let procs : List Proc = c.args.bodies.now.plan.heads.procs.now in
    up_to_by refl (ap (λ a. acts_spelled (acts (expanded_act (take c.args.place (bodies_of procs)) (hiding_at procs c.args.place) a)))
    (ap act_of c.in-Run.is ∙ act_run_procedure c.in-Run.name c.in-Run.args)) c.call.ensures.prints

pub returns-in-None-clause-prints : goal.returns-in-None-clause-prints
returns-in-None-clause-prints g c =
    let procs : List Proc = c.args.bodies.now.plan.heads.procs.now in
    let known : List (List ℕ × Callee) = take c.args.place (bodies_of procs) in
    let h : Hiding = hiding_at procs c.args.place in
    let is = c.in-If.is ∙ ap (does.If c.in-If.test c.in-If.block) c.in-None.is in
    up_to (ap (λ s. acts_spelled (acts (expanded_act known h (act_of s)))) is ∙ if_then_becomes known h c.in-If.test c.in-If.block
    ∙ ap (λ ss. (kind.If ∷ spelled (renamed_expr h (tree_of c.in-If.test)) ++ (kind.Then ∷ [])) ++ (block_tokens procs c.args.place ss ++ (kind.End ∷ kind.If ∷ []))) (sym c.as_slice-stmts.ensures))
    c.if_head.ensures

pub returns-in-None-clause-smaller : goal.returns-in-None-clause-smaller
returns-in-None-clause-smaller g c =
    let procs : List Proc = c.args.bodies.now.plan.heads.procs.now in
    let known : List (List ℕ × ℕ) = take c.args.place (sizes_of_bodies procs) in
    let is = c.in-If.is ∙ ap (does.If c.in-If.test c.in-If.block) c.in-None.is in
    smaller (ap (act_size known) (ap act_of is ∙ act_if_then c.in-If.test c.in-If.block)) (ap (block_size procs c.args.place) c.as_slice-stmts.ensures)

pub returns-in-Some-clause-prints : goal.returns-in-Some-clause-prints
returns-in-Some-clause-prints g c =
    let procs : List Proc = c.args.bodies.now.plan.heads.procs.now in
    let known : List (List ℕ × Callee) = take c.args.place (bodies_of procs) in
    let h : Hiding = hiding_at procs c.args.place in
    let is = c.in-If.is ∙ ap (does.If c.in-If.test c.in-If.block) (c.in-Some.is ∙ ap (λ ss. Some ss) (sym c.as_slice.ensures)) in
    up_to (ap (λ s. acts_spelled (acts (expanded_act known h (act_of s)))) is ∙ if_else_becomes known h c.in-If.test c.in-If.block c.as_slice.result.now
    ∙ ap (λ ss. (kind.If ∷ spelled (renamed_expr h (tree_of c.in-If.test)) ++ (kind.Then ∷ [])) ++ (block_tokens procs c.args.place ss
    ++ (kind.Else ∷ block_tokens procs c.args.place c.as_slice.result.now ++ (kind.End ∷ kind.If ∷ [])))) (sym c.as_slice-stmts.ensures))
    c.if_head.ensures

pub returns-in-Some-clause-smaller : goal.returns-in-Some-clause-smaller
returns-in-Some-clause-smaller g c =
    let procs : List Proc = c.args.bodies.now.plan.heads.procs.now in
    let known : List (List ℕ × ℕ) = take c.args.place (sizes_of_bodies procs) in
    let is = c.in-If.is ∙ ap (does.If c.in-If.test c.in-If.block) (c.in-Some.is ∙ ap (λ ss. Some ss) (sym c.as_slice.ensures)) in
    smaller_both _ (ap (act_size known) (ap act_of is ∙ act_if_else c.in-If.test c.in-If.block c.as_slice.result.now)) (ap (block_size procs c.args.place) c.as_slice-stmts.ensures)

pub returns-in-For-clause-smaller : goal.returns-in-For-clause-smaller
returns-in-For-clause-smaller g c =
    let procs : List Proc = c.args.bodies.now.plan.heads.procs.now in
    let known : List (List ℕ × ℕ) = take c.args.place (sizes_of_bodies procs) in
    smaller (ap (act_size known) (ap act_of c.in-For.is ∙ act_for_next c.in-For.head c.in-For.block c.in-For.word)) (ap (block_size procs c.args.place) c.as_slice-in-For.ensures)

pub returns-in-While-clause-smaller : goal.returns-in-While-clause-smaller
returns-in-While-clause-smaller g c =
    let procs : List Proc = c.args.bodies.now.plan.heads.procs.now in
    let known : List (List ℕ × ℕ) = take c.args.place (sizes_of_bodies procs) in
    smaller (ap (act_size known) (ap act_of c.in-While.is ∙ act_while_do c.in-While.test c.in-While.block)) (ap (block_size procs c.args.place) c.as_slice-in-While.ensures)

pub returns-in-Run-clause-smaller : goal.returns-in-Run-clause-smaller
returns-in-Run-clause-smaller g c =
    let procs : List Proc = c.args.bodies.now.plan.heads.procs.now in
    let known : List (List ℕ × ℕ) = take c.args.place (sizes_of_bodies procs) in
    subst (λ n. size_if procs c.call.result < n) (sym (ap (act_size known) (ap act_of c.in-Run.is ∙ act_run_procedure c.in-Run.name c.in-Run.args))) c.call.ensures.smaller
