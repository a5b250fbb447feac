use Rattle.std.proofs.Common.{◌≡◌, ◌≤◌, length}
use Rattle.ts_trees.specs.Machine.{param_due}
use Rattle.ts_trees.specs.Parsing.{reads}
use Rattle.ts_parser.specs.Scripts.{Header, params_due}
use Rattle.ts_parser.proofs.procs.parameters.Given as goal

-- the parameters so far were read, each with its comma
abbrev pub invariant-loop-params : goal.invariant-loop-params
invariant-loop-params l =
    ((k : Header) → reads l.tokens (params_due k) ≡ reads l.rest (param_due k.name l.params k.decls k.procs)) × (length l.rest ≤ length l.tokens)

abbrev pub decreases-loop-params : goal.decreases-loop-params
decreases-loop-params l = length l.rest
