use Rattle.std.proofs.Common.{rules, ◌≡◌, ℕ, ◌+◌, List, [], ◌∷◌, ◌++◌, map, drop, refl, ap, sym, ◌∙◌, subst}
use Rattle.std.specs.Prelude.{max}
use Rattle.mate_code.specs.declared.instr.Instr.{Instr}
use Rattle.mate_code.specs.declared.instr.Instr.TheVariants as instr
use Rattle.mate_code.specs.Instr.{size_of}
use Rattle.ts_checked.specs.Expression.{Expression, Arguments, arguments, Shared, Private, Item, Size, MsgItem, MsgSize, Call, SendBuf, Neg, Not, Two}
use Rattle.ts_checked.specs.TreeOf.{expr_tree, args_trees}
use Rattle.ts_checked.specs.declared.checked_expr.CExpr.{CExpr, the_lemmas}
use Rattle.ts_semantics.specs.Translation.{size_of_instrs, expr_code, args_code, args_need, expr_size, expr_need, operator_code}
use Rattle.ts_semantics.proofs.PlaceLemmas.{size_of-operator_code}
use Rattle.ts_compiler.specs.Parts.{capped}
use Rattle.ts_compiler.proofs.ExtentLemmas.{ArgsMeasured, args_next, args_size, args_needs, capped-push, capped-two, two_sizes, capped-with, capped-above, capped-max}
use Rattle.ts_compiler.proofs.PartLemmas.{bytes_of-push, rest_more, rest_none}
use Rattle.ts_compiler.proofs.TreeLemmas.{tree-Shared, tree-Private, tree-Size, tree-MsgSize, tree-Call, tree-SendBuf}
use Rattle.ts_compiler.proofs.extent.+expr.Goals as goal

-- the bytes and the need of an expression
abbrev bytes : Expression → ℕ
bytes e = capped (expr_size e)

abbrev room : Expression → ℕ
room e = capped (expr_need e)

-- an instruction behind an expression
pushed : (e : Expression) (i : Instr) (k size all : ℕ) → size_of i ≡ k → size ≡ bytes e → all ≡ capped (size + k) → all ≡ capped (size_of_instrs (expr_code e ++ i ∷ []))
pushed e i k size all one size_is all_is =
    capped-push (expr_code e) i all (all_is ∙ ap (λ (n : ℕ). capped (n + k)) size_is ∙ ap (λ (n : ℕ). capped (capped (expr_size e) + n)) (sym one))

pub expr_extent-returns-in-Shared : goal.expr_extent-returns-in-Shared
expr_extent-returns-in-Shared t c =
    let seen : expr_tree c.args.expr.now ≡ Shared c.in-Shared.field-0 = ap expr_tree c.in-Shared.is ∙ tree-Shared c.in-Shared.field-0 in
    record { size = c.one-in-Shared.ensures.size ∙ ap bytes (sym seen); need = c.one-in-Shared.ensures.need ∙ ap room (sym seen) }

pub expr_extent-returns-in-Private : goal.expr_extent-returns-in-Private
expr_extent-returns-in-Private t c =
    let seen : expr_tree c.args.expr.now ≡ Private c.in-Private.field-0 = ap expr_tree c.in-Private.is ∙ tree-Private c.in-Private.field-0 in
    record { size = c.one-in-Private.ensures.size ∙ ap bytes (sym seen); need = c.one-in-Private.ensures.need ∙ ap room (sym seen) }

pub expr_extent-returns-in-Item : goal.expr_extent-returns-in-Item
expr_extent-returns-in-Item t c =
    let e : Expression = expr_tree c.deref.result.now in
    let seen : expr_tree c.args.expr.now ≡ Item c.in-Item.field-0 e = search (rules, the_lemmas) in
    record {
      size = pushed e (instr.BGet c.in-Item.field-0) 2 c.expr_extent.result.size c.with.result.size refl c.expr_extent.ensures.size c.with.ensures.size ∙ ap bytes (sym seen);
      need = c.with.ensures.need ∙ c.expr_extent.ensures.need ∙ ap room (sym seen);
    }

pub expr_extent-returns-in-Size : goal.expr_extent-returns-in-Size
expr_extent-returns-in-Size t c =
    let seen : expr_tree c.args.expr.now ≡ Size c.in-Size.field-0 = ap expr_tree c.in-Size.is ∙ tree-Size c.in-Size.field-0 in
    record { size = c.one-in-Size.ensures.size ∙ ap bytes (sym seen); need = c.one-in-Size.ensures.need ∙ ap room (sym seen) }

pub expr_extent-returns-in-MsgItem : goal.expr_extent-returns-in-MsgItem
expr_extent-returns-in-MsgItem t c =
    let e : Expression = expr_tree c.deref-in-MsgItem.result.now in
    let seen : expr_tree c.args.expr.now ≡ MsgItem e = search (rules, the_lemmas) in
    record {
      size = pushed e instr.MsgGet 1 c.expr_extent-in-MsgItem.result.size c.with-in-MsgItem.result.size refl c.expr_extent-in-MsgItem.ensures.size c.with-in-MsgItem.ensures.size ∙ ap bytes (sym seen);
      need = c.with-in-MsgItem.ensures.need ∙ c.expr_extent-in-MsgItem.ensures.need ∙ ap room (sym seen);
    }

pub expr_extent-returns-in-MsgSize : goal.expr_extent-returns-in-MsgSize
expr_extent-returns-in-MsgSize t c =
    let seen : expr_tree c.args.expr.now ≡ MsgSize = ap expr_tree c.in-MsgSize.is ∙ tree-MsgSize in
    record { size = c.one-in-MsgSize.ensures.size ∙ ap bytes (sym seen); need = c.one-in-MsgSize.ensures.need ∙ ap room (sym seen) }

pub expr_extent-returns-in-Call : goal.expr_extent-returns-in-Call
expr_extent-returns-in-Call t c =
    let given : Arguments = arguments (args_trees c.in-Call.args) in
    let seen : expr_tree c.args.expr.now ≡ Call c.in-Call.field-0 given = ap expr_tree c.in-Call.is ∙ tree-Call c.in-Call.field-0 c.in-Call.args in
    let size = bytes_of-push (args_code given) (instr.Fun c.in-Call.field-0) in
    record {
      size = c.call_extent.ensures.size ∙ ap capped (sym size) ∙ ap bytes (sym seen);
      need = c.call_extent.ensures.need ∙ ap room (sym seen);
    }

pub expr_extent-returns-in-SendBuf : goal.expr_extent-returns-in-SendBuf
expr_extent-returns-in-SendBuf t c =
    let seen : expr_tree c.args.expr.now ≡ SendBuf c.in-SendBuf.field-0 c.in-SendBuf.field-1 = ap expr_tree c.in-SendBuf.is ∙ tree-SendBuf c.in-SendBuf.field-0 c.in-SendBuf.field-1 in
    record { size = c.one-in-SendBuf.ensures.size ∙ ap bytes (sym seen); need = c.one-in-SendBuf.ensures.need ∙ ap room (sym seen) }

pub expr_extent-returns-in-Neg : goal.expr_extent-returns-in-Neg
expr_extent-returns-in-Neg t c =
    let e : Expression = expr_tree c.deref-in-Neg.result.now in
    let seen : expr_tree c.args.expr.now ≡ Neg e = search (rules, the_lemmas) in
    record {
      size = pushed e instr.Neg 1 c.expr_extent-in-Neg.result.size c.with-in-Neg.result.size refl c.expr_extent-in-Neg.ensures.size c.with-in-Neg.ensures.size ∙ ap bytes (sym seen);
      need = c.with-in-Neg.ensures.need ∙ c.expr_extent-in-Neg.ensures.need ∙ ap room (sym seen);
    }

pub expr_extent-returns-in-Not : goal.expr_extent-returns-in-Not
expr_extent-returns-in-Not t c =
    let e : Expression = expr_tree c.deref-in-Not.result.now in
    let seen : expr_tree c.args.expr.now ≡ Not e = search (rules, the_lemmas) in
    record {
      size = pushed e instr.Not 1 c.expr_extent-in-Not.result.size c.with-in-Not.result.size refl c.expr_extent-in-Not.ensures.size c.with-in-Not.ensures.size ∙ ap bytes (sym seen);
      need = c.with-in-Not.ensures.need ∙ c.expr_extent-in-Not.ensures.need ∙ ap room (sym seen);
    }

pub expr_extent-returns-in-Two : goal.expr_extent-returns-in-Two
expr_extent-returns-in-Two t c =
    let o = c.in-Two.field-0 in
    let r : Expression = expr_tree c.deref-in-Two.result.now in
    let l : Expression = expr_tree c.deref-in-Two-2.result.now in
    let seen : expr_tree c.args.expr.now ≡ Two o l r = search (rules, the_lemmas) in
    let one = size_of-operator_code o in
    let left : c.expr_extent-in-Two-2.result.size ≡ capped (size_of_instrs (expr_code l)) = c.expr_extent-in-Two-2.ensures.size in
    let right : c.above-right.result.size ≡ capped (size_of_instrs (expr_code r)) = c.above-right.ensures.size ∙ c.expr_extent-in-Two.ensures.size in
    let both : c.then.result.size ≡ capped (c.expr_extent-in-Two-2.result.size + c.above-right.result.size) = c.then.ensures.size in
    let all : c.with-in-Two.result.size ≡ capped (c.then.result.size + 1) = c.with-in-Two.ensures.size in
    record {
      size =
          capped-two (expr_code l) (expr_code r) (operator_code o) c.with-in-Two.result.size
          (two_sizes c.with-in-Two.result.size c.then.result.size c.expr_extent-in-Two-2.result.size c.above-right.result.size (size_of_instrs (expr_code l)) (size_of_instrs (expr_code r)) (size_of (operator_code o)) left right both all one)
          ∙ ap bytes (sym seen);
      need =
          c.with-in-Two.ensures.need
          ∙ capped-max (expr_need l) (1 + expr_need r) c.expr_extent-in-Two-2.result.need c.above-right.result.need c.then.result.need c.expr_extent-in-Two-2.ensures.need
          (capped-above (expr_need r) 1 c.expr_extent-in-Two.result.need c.above-right.result.need c.expr_extent-in-Two.ensures.need c.above-right.ensures.need) c.then.ensures.need
          ∙ ap room (sym seen);
    }

pub call_extent-returns : goal.call_extent-returns
call_extent-returns t c =
    let given : Arguments = arguments (args_trees c.args.args.now) in
    record {
      size =
          c.at_least.ensures.size
          ∙ capped-with (size_of_instrs (args_code given)) 1 c.args_extent.result.size c.with.result.size c.args_extent.ensures.size c.with.ensures.size;
      need =
          capped-max 1 (args_need 0 given) 1 c.with.result.need c.at_least.result.need refl (c.with.ensures.need ∙ c.args_extent.ensures.need) c.at_least.ensures.need;
    }

pub args_extent-loop-arg-preserved : goal.args_extent-loop-arg-preserved
args_extent-loop-arg-preserved t c =
    let es : List CExpr = c.as_slice-arg-items.result.now in
    let i : ℕ = c.loop-arg.arg-index in
    let F : List Expression → Type 0 = λ xs. ArgsMeasured c.loop-arg.extent.size c.loop-arg.extent.need c.loop-arg.below i (map expr_tree es) xs in
    args_next (expr_tree c.arg-item.result) (map expr_tree (drop (i + 1) es)) c.then-extent.result.size c.then-extent.result.need c.plus-below.result (i + 1)
    (subst F (rest_more expr_tree es i c.arg-item.result c.arg-item.is c.loop-arg-test.true) c.loop-arg.invariant)
    (c.then-extent.ensures.size ∙ ap (λ (n : ℕ). capped (c.loop-arg.extent.size + n)) (c.above.ensures.size ∙ c.expr_extent.ensures.size))
    (c.then-extent.ensures.need ∙ ap (λ (n : ℕ). max c.loop-arg.extent.need n) (c.above.ensures.need ∙ ap (λ (n : ℕ). capped (n + c.loop-arg.below)) c.expr_extent.ensures.need))
    c.plus-below.ensures refl

pub args_extent-returns-clause-size : goal.args_extent-returns-clause-size
args_extent-returns-clause-size t c =
    let es : List CExpr = c.as_slice-arg-items.result.now in
    let seen : args_trees c.args.args.now ≡ map expr_tree c.args.args.now.items.items = search (rules, the_lemmas) in
    let all : args_trees c.args.args.now ≡ map expr_tree es = seen ∙ ap (map expr_tree) (sym c.as_slice-arg-items.ensures.value) in
    let F : List Expression → Type 0 = λ xs. ArgsMeasured c.loop-arg.extent.size c.loop-arg.extent.need c.loop-arg.below c.loop-arg.arg-index (map expr_tree es) xs in
    let P : List Expression → Type 0 = λ xs. c.loop-arg.extent.size ≡ capped (size_of_instrs (args_code (arguments xs))) in
    subst P (sym all) (args_size (subst F (rest_none expr_tree es c.loop-arg.arg-index c.loop-arg-test.false) c.loop-arg.invariant))

pub args_extent-returns-clause-need : goal.args_extent-returns-clause-need
args_extent-returns-clause-need t c =
    let es : List CExpr = c.as_slice-arg-items.result.now in
    let seen : args_trees c.args.args.now ≡ map expr_tree c.args.args.now.items.items = search (rules, the_lemmas) in
    let all : args_trees c.args.args.now ≡ map expr_tree es = seen ∙ ap (map expr_tree) (sym c.as_slice-arg-items.ensures.value) in
    let F : List Expression → Type 0 = λ xs. ArgsMeasured c.loop-arg.extent.size c.loop-arg.extent.need c.loop-arg.below c.loop-arg.arg-index (map expr_tree es) xs in
    let P : List Expression → Type 0 = λ xs. c.loop-arg.extent.need ≡ capped (args_need 0 (arguments xs)) in
    subst P (sym all) (args_needs (subst F (rest_none expr_tree es c.loop-arg.arg-index c.loop-arg-test.false) c.loop-arg.invariant))
