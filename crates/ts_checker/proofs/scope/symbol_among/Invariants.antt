use Rattle.std.proofs.Common.{◌≡◌, drop}
use Rattle.ts_checker.specs.Names.{symbol_of}
use Rattle.ts_checker.proofs.scope.symbol_among.Given as goal

-- the name is none of those before this one
abbrev pub invariant-loop-entry : goal.invariant-loop-entry
invariant-loop-entry l = symbol_of l.entries l.name ≡ symbol_of (drop l.entry-index l.entries) l.name
