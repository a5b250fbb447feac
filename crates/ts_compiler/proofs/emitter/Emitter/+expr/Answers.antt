use Rattle.std.proofs.Common.{rules, ℕ, ◌+◌, ◌≡◌, List, [], ◌∷◌, ◌++◌, map, drop, drop-cons, ap, sym, ◌∙◌, subst}
use Rattle.mate_code.specs.declared.instr.Instr.{Instr}
use Rattle.mate_code.specs.declared.instr.Instr.TheVariants.{Fun}
use Rattle.ts_checked.specs.Expression.{Expression, arguments, Shared, Private, Item, Size, MsgItem, MsgSize, Call, SendBuf, Neg, Not, Two}
use Rattle.ts_checked.specs.TreeOf.{expr_tree, args_trees}
use Rattle.ts_checked.specs.declared.checked_expr.CExpr.{CExpr, the_lemmas}
use Rattle.ts_semantics.specs.Translation.{expr_code, args_code, operator_code}
use Rattle.ts_compiler.specs.Parts.{HasRoom, WritesInstrs}
use Rattle.ts_compiler.proofs.PartLemmas.{◌⟫◌, room_first, room_second, ArgsFrom, args_room, args_step, args_end, rest_more, rest_none, room_expr, writes_expr}
use Rattle.ts_compiler.proofs.TreeLemmas.{tree-Shared, tree-Private, tree-Size, tree-MsgSize, tree-Call, tree-SendBuf}
use Rattle.ts_compiler.proofs.emitter.Emitter.+expr.Goals as goal

pub call-args-requires : goal.call-args-requires
call-args-requires t c = (search (rules, the_lemmas), room_first (args_code (arguments (args_trees c.args.args.now))) (Fun c.args.fun ∷ []) c.requires)

pub call-push-requires : goal.call-push-requires
call-push-requires t c = room_second (Fun c.args.fun ∷ []) c.args-2.ensures c.requires

pub call-returns : goal.call-returns
call-returns t c = c.args-2.ensures ⟫ c.push.ensures

pub expr_then-expr-requires : goal.expr_then-expr-requires
expr_then-expr-requires t c = (search (rules, the_lemmas), room_first (expr_code (expr_tree c.args.expr.now)) (c.args.instr ∷ []) c.requires)

pub expr_then-push-requires : goal.expr_then-push-requires
expr_then-push-requires t c = room_second (c.args.instr ∷ []) c.expr.ensures c.requires

pub expr_then-returns : goal.expr_then-returns
expr_then-returns t c = c.expr.ensures ⟫ c.push.ensures

pub expr-expr-requires : goal.expr-expr-requires
expr-expr-requires t c =
    let l : Expression = expr_tree c.deref-in-Two.result.now in
    let r : Expression = expr_tree c.in-Two.right.value in
    let seen : expr_tree c.args.expr.now ≡ Two c.in-Two.op l r = search (rules, the_lemmas) in
    let R : Expression → Type 0 = λ e. HasRoom c.args.self.now (expr_code e) in
    (search (rules, the_lemmas), room_first (expr_code l) (expr_code r ++ operator_code c.in-Two.op ∷ []) (subst R seen c.requires))

pub expr-expr_then-requires-in-Two : goal.expr-expr_then-requires-in-Two
expr-expr_then-requires-in-Two t c =
    let l : Expression = expr_tree c.deref-in-Two.result.now in
    let r : Expression = expr_tree c.deref-in-Two-2.result.now in
    let seen : expr_tree c.args.expr.now ≡ Two c.in-Two.op l r = search (rules, the_lemmas) in
    let R : Expression → Type 0 = λ e. HasRoom c.args.self.now (expr_code e) in
    let I : Instr → Type 0 = λ i. HasRoom c.expr.new.self (expr_code r ++ i ∷ []) in
    (search (rules, the_lemmas), subst I (sym c.operator_instr-instr.ensures) (room_second (expr_code r ++ operator_code c.in-Two.op ∷ []) c.expr.ensures (subst R seen c.requires)))

pub expr-returns-in-Two : goal.expr-returns-in-Two
expr-returns-in-Two t c =
    let l : Expression = expr_tree c.deref-in-Two.result.now in
    let r : Expression = expr_tree c.deref-in-Two-2.result.now in
    let seen : expr_tree c.args.expr.now ≡ Two c.in-Two.op l r = search (rules, the_lemmas) in
    let W : Expression → Type 0 = λ e. WritesInstrs c.args.self.now (expr_code e) c.expr_then-in-Two.new.self in
    let I : Instr → Type 0 = λ i. WritesInstrs c.args.self.now (expr_code l ++ (expr_code r ++ i ∷ [])) c.expr_then-in-Two.new.self in
    subst W (sym seen) (subst I c.operator_instr-instr.ensures (c.expr.ensures ⟫ c.expr_then-in-Two.ensures))

pub args-expr-requires : goal.args-expr-requires
args-expr-requires t c =
    let es : List CExpr = c.as_slice-arg-items.result.now in
    let seen : args_trees c.args.args.now ≡ map expr_tree c.args.args.now.items.items = search (rules, the_lemmas) in
    let all : args_trees c.args.args.now ≡ map expr_tree es = seen ∙ ap (map expr_tree) (sym c.as_slice-arg-items.ensures.value) in
    let F : List Expression → Type 0 = λ xs. ArgsFrom c.args.self.now c.loop-arg.self (map expr_tree es) xs in
    let R : List Expression → Type 0 = λ xs. HasRoom c.args.self.now (args_code (arguments xs)) in (
      search (rules, the_lemmas),
      args_room (expr_tree c.arg-item.result) (map expr_tree (drop (c.loop-arg.arg-index + 1) es))
          (subst F (rest_more expr_tree es c.loop-arg.arg-index c.arg-item.result c.arg-item.is c.loop-arg-test.true) c.loop-arg.invariant) (subst R all c.requires),
    )

pub args-loop-arg-preserved : goal.args-loop-arg-preserved
args-loop-arg-preserved t c =
    let es : List CExpr = c.as_slice-arg-items.result.now in
    let F : List Expression → Type 0 = λ xs. ArgsFrom c.args.self.now c.loop-arg.self (map expr_tree es) xs in
    args_step (expr_tree c.arg-item.result) (map expr_tree (drop (c.loop-arg.arg-index + 1) es))
    (subst F (rest_more expr_tree es c.loop-arg.arg-index c.arg-item.result c.arg-item.is c.loop-arg-test.true) c.loop-arg.invariant) c.expr.ensures

pub args-returns : goal.args-returns
args-returns t c =
    let es : List CExpr = c.as_slice-arg-items.result.now in
    let seen : args_trees c.args.args.now ≡ map expr_tree c.args.args.now.items.items = search (rules, the_lemmas) in
    let all : args_trees c.args.args.now ≡ map expr_tree es = seen ∙ ap (map expr_tree) (sym c.as_slice-arg-items.ensures.value) in
    let F : List Expression → Type 0 = λ xs. ArgsFrom c.args.self.now c.loop-arg.self (map expr_tree es) xs in
    let W : List Expression → Type 0 = λ xs. WritesInstrs c.args.self.now (args_code (arguments xs)) c.loop-arg.self in
    subst W (sym all) (args_end (subst F (rest_none expr_tree es c.loop-arg.arg-index c.loop-arg-test.false) c.loop-arg.invariant))

-- ---- an expression that one call writes

pub expr-push-requires-in-Shared : goal.expr-push-requires-in-Shared
expr-push-requires-in-Shared t c = let seen : expr_tree c.args.expr.now ≡ Shared c.in-Shared.variable = ap expr_tree c.in-Shared.is ∙ tree-Shared c.in-Shared.variable in room_expr seen c.requires

pub expr-returns-in-Shared : goal.expr-returns-in-Shared
expr-returns-in-Shared t c = let seen : expr_tree c.args.expr.now ≡ Shared c.in-Shared.variable = ap expr_tree c.in-Shared.is ∙ tree-Shared c.in-Shared.variable in writes_expr seen c.push-in-Shared.ensures

pub expr-push-requires-in-Private : goal.expr-push-requires-in-Private
expr-push-requires-in-Private t c = let seen : expr_tree c.args.expr.now ≡ Private c.in-Private.private = ap expr_tree c.in-Private.is ∙ tree-Private c.in-Private.private in room_expr seen c.requires

pub expr-returns-in-Private : goal.expr-returns-in-Private
expr-returns-in-Private t c = let seen : expr_tree c.args.expr.now ≡ Private c.in-Private.private = ap expr_tree c.in-Private.is ∙ tree-Private c.in-Private.private in writes_expr seen c.push-in-Private.ensures

pub expr-expr_then-requires : goal.expr-expr_then-requires
expr-expr_then-requires t c = let seen : expr_tree c.args.expr.now ≡ Item c.in-Item.buffer (expr_tree c.deref.result.now) = search (rules, the_lemmas) in (search (rules, the_lemmas), room_expr seen c.requires)

pub expr-returns-in-Item : goal.expr-returns-in-Item
expr-returns-in-Item t c = let seen : expr_tree c.args.expr.now ≡ Item c.in-Item.buffer (expr_tree c.deref.result.now) = search (rules, the_lemmas) in writes_expr seen c.expr_then.ensures

pub expr-push-requires-in-Size : goal.expr-push-requires-in-Size
expr-push-requires-in-Size t c = let seen : expr_tree c.args.expr.now ≡ Size c.in-Size.buffer = ap expr_tree c.in-Size.is ∙ tree-Size c.in-Size.buffer in room_expr seen c.requires

pub expr-returns-in-Size : goal.expr-returns-in-Size
expr-returns-in-Size t c = let seen : expr_tree c.args.expr.now ≡ Size c.in-Size.buffer = ap expr_tree c.in-Size.is ∙ tree-Size c.in-Size.buffer in writes_expr seen c.push-in-Size.ensures

pub expr-expr_then-requires-in-MsgItem : goal.expr-expr_then-requires-in-MsgItem
expr-expr_then-requires-in-MsgItem t c = let seen : expr_tree c.args.expr.now ≡ MsgItem (expr_tree c.deref-in-MsgItem.result.now) = search (rules, the_lemmas) in (search (rules, the_lemmas), room_expr seen c.requires)

pub expr-returns-in-MsgItem : goal.expr-returns-in-MsgItem
expr-returns-in-MsgItem t c = let seen : expr_tree c.args.expr.now ≡ MsgItem (expr_tree c.deref-in-MsgItem.result.now) = search (rules, the_lemmas) in writes_expr seen c.expr_then-in-MsgItem.ensures

pub expr-push-requires-in-MsgSize : goal.expr-push-requires-in-MsgSize
expr-push-requires-in-MsgSize t c = let seen : expr_tree c.args.expr.now ≡ MsgSize = ap expr_tree c.in-MsgSize.is ∙ tree-MsgSize in room_expr seen c.requires

pub expr-returns-in-MsgSize : goal.expr-returns-in-MsgSize
expr-returns-in-MsgSize t c = let seen : expr_tree c.args.expr.now ≡ MsgSize = ap expr_tree c.in-MsgSize.is ∙ tree-MsgSize in writes_expr seen c.push-in-MsgSize.ensures

pub expr-call-requires : goal.expr-call-requires
expr-call-requires t c = let seen : expr_tree c.args.expr.now ≡ Call c.in-Call.fun (arguments (args_trees c.in-Call.args)) = ap expr_tree c.in-Call.is ∙ tree-Call c.in-Call.fun c.in-Call.args in (search (rules, the_lemmas), room_expr seen c.requires)

pub expr-returns-in-Call : goal.expr-returns-in-Call
expr-returns-in-Call t c = let seen : expr_tree c.args.expr.now ≡ Call c.in-Call.fun (arguments (args_trees c.in-Call.args)) = ap expr_tree c.in-Call.is ∙ tree-Call c.in-Call.fun c.in-Call.args in writes_expr seen c.call.ensures

pub expr-push-requires-in-SendBuf : goal.expr-push-requires-in-SendBuf
expr-push-requires-in-SendBuf t c = let seen : expr_tree c.args.expr.now ≡ SendBuf c.in-SendBuf.fun c.in-SendBuf.buffer = ap expr_tree c.in-SendBuf.is ∙ tree-SendBuf c.in-SendBuf.fun c.in-SendBuf.buffer in room_expr seen c.requires

pub expr-returns-in-SendBuf : goal.expr-returns-in-SendBuf
expr-returns-in-SendBuf t c = let seen : expr_tree c.args.expr.now ≡ SendBuf c.in-SendBuf.fun c.in-SendBuf.buffer = ap expr_tree c.in-SendBuf.is ∙ tree-SendBuf c.in-SendBuf.fun c.in-SendBuf.buffer in writes_expr seen c.push-in-SendBuf.ensures

pub expr-expr_then-requires-in-Neg : goal.expr-expr_then-requires-in-Neg
expr-expr_then-requires-in-Neg t c = let seen : expr_tree c.args.expr.now ≡ Neg (expr_tree c.deref-in-Neg.result.now) = search (rules, the_lemmas) in (search (rules, the_lemmas), room_expr seen c.requires)

pub expr-returns-in-Neg : goal.expr-returns-in-Neg
expr-returns-in-Neg t c = let seen : expr_tree c.args.expr.now ≡ Neg (expr_tree c.deref-in-Neg.result.now) = search (rules, the_lemmas) in writes_expr seen c.expr_then-in-Neg.ensures

pub expr-expr_then-requires-in-Not : goal.expr-expr_then-requires-in-Not
expr-expr_then-requires-in-Not t c = let seen : expr_tree c.args.expr.now ≡ Not (expr_tree c.deref-in-Not.result.now) = search (rules, the_lemmas) in (search (rules, the_lemmas), room_expr seen c.requires)

pub expr-returns-in-Not : goal.expr-returns-in-Not
expr-returns-in-Not t c = let seen : expr_tree c.args.expr.now ≡ Not (expr_tree c.deref-in-Not.result.now) = search (rules, the_lemmas) in writes_expr seen c.expr_then-in-Not.ensures
