use Rattle.std.proofs.Common.{◌≡◌, drop}
use Rattle.ts_checker.specs.Names.{names_before, declare_all}
use Rattle.ts_checker.specs.Room.{IsFit}
use Rattle.ts_checker.specs.Seen.{scope_names}
use Rattle.ts_checker.proofs.scope.Scope.of.Given as goal

-- the rest of the declarations goes on from the names so far, which fit
abbrev pub invariant-loop-decl : goal.invariant-loop-decl
invariant-loop-decl l =
    (declare_all (names_before l.desc) l.decls ≡ declare_all (scope_names l.scope) (drop l.decl-index l.decls))
    × IsFit l.scope.desc.now l.scope.names.items
