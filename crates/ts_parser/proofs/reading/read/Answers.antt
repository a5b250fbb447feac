use Rattle.std.proofs.Common.{refl}
use Rattle.ts_parser.proofs.ReadingLemmas.{plain_script, plain_refusal}
use Rattle.ts_parser.proofs.reading.read.Goals as goal

pub returns-in-Ok : goal.returns-in-Ok
returns-in-Ok c = plain_script c.args.bytes.now c.in-Ok.script _ refl c.in-Ok.ensures

pub returns-in-Err : goal.returns-in-Err
returns-in-Err c = plain_refusal c.args.bytes.now c.in-Err.fault c.in-Err.ensures
