use Rattle.std.proofs.Common.{sym, subst}
use Rattle.ts_trees.specs.Faults.{IsUnexpectedIn}
use Rattle.ts_trees.specs.Seen.{procedure_source_of}
use Rattle.ts_parser.proofs.ParseLemmas.{spells_all, rest_length, unexpected}
use Rattle.ts_parser.proofs.parser.shallow.Goals as goal

pub place_before-requires : goal.place_before-requires
place_before-requires c = rest_length c.args.dialect c.args.tokens.now c.in-Err-At.rest.now (rw c.in-Err-At.field-0-is at c.in-Err-At.ensures)

pub returns-in-Ok : goal.returns-in-Ok
returns-in-Ok c = spells_all c.args.dialect c.args.tokens.now (procedure_source_of c.in-Ok.script) c.in-Ok.ensures c.requires

pub returns-in-Err-At : goal.returns-in-Err-At
returns-in-Err-At c =
    subst (λ p. IsUnexpectedIn c.args.dialect c.args.tokens.now c.args.len p) (sym c.place_before.ensures)
    (unexpected c.args.dialect c.args.tokens.now c.in-Err-At.rest.now c.args.len (rw c.in-Err-At.field-0-is at c.in-Err-At.ensures) c.requires)
