use Rattle.std.proofs.Common.{◌≡◌, [], length, List, map}
use Rattle.ts_trees.specs.declared.script.Decl.{Decl}
use Rattle.ts_trees.specs.Seen.{procedure_of}
use Rattle.ts_trees.specs.Machine.{procedures}
use Rattle.ts_trees.specs.Parsing.{reads}
use Rattle.ts_parser.proofs.procs.procedures.Given as goal

-- the procedures so far were read
abbrev pub invariant-loop-behind : goal.invariant-loop-behind
invariant-loop-behind l = (ds : List Decl) → reads l.tokens (procedures ds []) ≡ reads l.rest (procedures ds (map procedure_of l.procs))

abbrev pub decreases-loop-behind : goal.decreases-loop-behind
decreases-loop-behind l = length l.rest
