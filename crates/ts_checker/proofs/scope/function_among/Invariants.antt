use Rattle.std.proofs.Common.{◌≡◌, drop}
use Rattle.ts_checker.specs.Names.{function_from}
use Rattle.ts_checker.proofs.scope.function_among.Given as goal

-- the name is none of those before this one
abbrev pub invariant-loop-index : goal.invariant-loop-index
invariant-loop-index l = function_from 0 l.functions l.name ≡ function_from l.index (drop l.index l.functions) l.name
