-- How a scope and the checker's own values are seen.
use Rattle.std.specs.declared.alloc.Global.{Global}
use Rattle.std.specs.declared.boxed.Box.{Box}
use Rattle.ts_checked.specs.Expression.{Expression, Arguments, arguments}
use Rattle.ts_checked.specs.TreeOf.{expr_tree, args_trees}
use Rattle.ts_checked.specs.declared.checked_expr.CArgs.{CArgs}
use Rattle.ts_checked.specs.declared.checked_expr.CExpr.{CExpr}
use Rattle.ts_checked.specs.declared.checked_stmt.CForHead.{CForHead}
use Rattle.ts_checker.specs.declared.scope.Scope.{Scope}
use Rattle.ts_checker.specs.declared.called.Called as of
use Rattle.ts_checker.specs.declared.called.Called.TheVariants as variant
use Rattle.ts_checker.specs.Names.{ScriptNames}
use Rattle.ts_checker.specs.Checks.{Called, sends, calls, CheckedHead}

abbrev pub scope_names : Scope → ScriptNames
scope_names s = record { machine = s.desc.now; declared = s.names.items }

abbrev pub boxed_expression : Box CExpr Global → Expression
boxed_expression e = expr_tree e.value

abbrev pub arguments_of : CArgs → Arguments
arguments_of args = arguments (args_trees args)

abbrev pub call_of : of.Called → Called
call_of (variant.Sends f p) = sends f p
call_of (variant.Calls f es) = calls f (arguments_of es)

abbrev pub checked_head_of : CForHead → CheckedHead
checked_head_of h = record { var = h.var; from = expr_tree h.from; to = expr_tree h.to; step = h.step }
