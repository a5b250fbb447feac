use Rattle.std.proofs.Common.{◌≡◌, ◌≤◌, true, length}
use Rattle.ts_trees.specs.declared.dialect.Dialect.{Dialect}
use Rattle.ts_trees.specs.Machine.{decl_name}
use Rattle.ts_trees.specs.Parsing.{reads}
use Rattle.ts_parser.proofs.decls.names.Given as goal

-- the names so far were read
abbrev pub invariant-loop-word : goal.invariant-loop-word
invariant-loop-word l =
    ((d : Dialect) → reads l.tokens (decl_name d l.kind true l.initial.all) ≡ reads l.rest (decl_name d l.kind l.first l.all)) × (length l.rest ≤ length l.tokens)

abbrev pub decreases-loop-word : goal.decreases-loop-word
decreases-loop-word l = length l.rest
