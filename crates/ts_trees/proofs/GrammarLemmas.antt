-- The grammar and the trees agree: on whole scripts, and on what begins one.
use Rattle.std.proofs.Common.{◌↔◌, List, refl, subst}
use Rattle.ts_trees.specs.declared.token.TokenKind.{TokenKind}
use Rattle.ts_trees.specs.Grammar.{rule, script, pscript, Whole, BeginsPart}
use Rattle.ts_trees.specs.Script.{IsScript, BeginsScript, IsProcedureScript}
use Rattle.ts_trees.proofs.Begins.{Completed, completed, begun}
use Rattle.ts_trees.proofs.FromTree.{source_whole, procedure_source_whole}
use Rattle.ts_trees.proofs.ToTree.{script_spelled, procedure_script_spelled}

script_whole : {ms : List TokenKind} → IsScript ms → Whole (rule script) ms
script_whole s = subst (λ z. Whole (rule script) z) s.spells (source_whole s.source s.derived)

-- tokens are a whole script exactly where a derived tree spells them
pub whole_is_script : (ms : List TokenKind) → Whole (rule script) ms ↔ IsScript ms
whole_is_script ms = (script_spelled, script_whole)

to_begins : {ms : List TokenKind} → BeginsPart (rule script) ms → BeginsScript IsScript ms
to_begins b =
    let c : Completed (rule script) _ = completed b in
    record { rest = c.rest; script = script_spelled c.whole }

-- tokens begin a script exactly where some tokens after them make it whole
pub begins_is_begins_script : (ms : List TokenKind) → BeginsPart (rule script) ms ↔ BeginsScript IsScript ms
begins_is_begins_script ms = (to_begins, λ b. begun (script_whole b.script) ms b.rest refl)

-- the same, for scripts with procedures
procedure_script_whole : {ms : List TokenKind} → IsProcedureScript ms → Whole (rule pscript) ms
procedure_script_whole s = subst (λ z. Whole (rule pscript) z) s.spells (procedure_source_whole s.source s.derived)

pub whole_is_procedure_script : (ms : List TokenKind) → Whole (rule pscript) ms ↔ IsProcedureScript ms
whole_is_procedure_script ms = (procedure_script_spelled, procedure_script_whole)

procedures_begin : {ms : List TokenKind} → BeginsPart (rule pscript) ms → BeginsScript IsProcedureScript ms
procedures_begin b =
    let c : Completed (rule pscript) _ = completed b in
    record { rest = c.rest; script = procedure_script_spelled c.whole }

pub begins_is_begins_procedures : (ms : List TokenKind) → BeginsPart (rule pscript) ms ↔ BeginsScript IsProcedureScript ms
begins_is_begins_procedures ms = (procedures_begin, λ b. begun (procedure_script_whole b.script) ms b.rest refl)
