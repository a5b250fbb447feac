use Rattle.std.proofs.Common.{◌≡◌, [], length}
use Rattle.ts_trees.specs.declared.dialect.Dialect.{Dialect}
use Rattle.ts_trees.specs.Machine.{decls}
use Rattle.ts_trees.specs.Parsing.{reads}
use Rattle.ts_parser.proofs.decls.declarations.Given as goal

-- the declarations so far were read
abbrev pub invariant-loop-kind : goal.invariant-loop-kind
invariant-loop-kind l = (d : Dialect) → reads l.tokens (decls d []) ≡ reads l.rest (decls d l.all)

abbrev pub decreases-loop-kind : goal.decreases-loop-kind
decreases-loop-kind l = length l.rest
