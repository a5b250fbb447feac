use Rattle.std.proofs.Common.{◌≡◌, drop}
use Rattle.ts_proc_names.specs.NameFaults.{decls_fault}
use Rattle.ts_proc_names.proofs.reserved.declarations.Given as goal

-- the first refusal of all the declarations is that of the rest
abbrev pub invariant-loop-decl : goal.invariant-loop-decl
invariant-loop-decl l = decls_fault l.decls ≡ decls_fault (drop l.decl-index l.decls)
