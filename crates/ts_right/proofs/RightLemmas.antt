-- The arguments of a call are counted as the list is long.
use Rattle.std.proofs.Common.{◌≡◌, suc, List, [], ◌∷◌, length, refl, ap}
use Rattle.ts_checked.specs.Expression.{Expression, arguments}
use Rattle.ts_checked.specs.Right.{argument_count}

pub argument_count-arguments : (es : List Expression) → argument_count (arguments es) ≡ length es
argument_count-arguments [] = refl
argument_count-arguments (e ∷ es) = ap suc (argument_count-arguments es)

pub ruleset counts = (argument_count-arguments)
