use Rattle.ts_trees.specs.Seen.{procedure_source_of}
use Rattle.ts_parser.proofs.OwnPlaces.{spells_plain}
use Rattle.ts_parser.proofs.ReadingLemmas.{same_refusal}
use Rattle.ts_parser.proofs.parser.parse.Goals as goal

pub returns-in-Ok : goal.returns-in-Ok
returns-in-Ok c = spells_plain c.args.tokens.now (procedure_source_of c.in-Ok.script) c.in-Ok.ensures

pub returns-in-Err : goal.returns-in-Err
returns-in-Err c = same_refusal c.args.tokens.now c.args.len c.in-Err.fault c.in-Err.ensures
