use Rattle.std.proofs.Common.{◌≡◌, ◌++◌, ◌-◌, take}
use Rattle.ts_proc_renaming.specs.Renaming.{parameter_decls}
use Rattle.ts_proc_renaming.proofs.numbers.declarations.Given as goal

-- the declarations so far
abbrev pub invariant-loop-decl : goal.invariant-loop-decl
invariant-loop-decl l = l.all ≡ take l.decl-index l.decls

-- those so far, and the parameters that are left
abbrev pub invariant-loop-number : goal.invariant-loop-number
invariant-loop-number l = l.all ++ parameter_decls l.number (l.count - l.number) ≡ l.decls ++ parameter_decls 0 l.count
