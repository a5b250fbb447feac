use Rattle.ts_lexer.proofs.SignLemmas.{sign_fits, no_sign_due, sign_steps, sign_stays}
use Rattle.ts_lexer.proofs.scanner.Scanner.sign.Goals as goal

pub returns-in_default : goal.returns-in_default
returns-in_default c = no_sign_due c.args.self.now c.requires c.in_default.ensures

pub take-requires : goal.take-requires
take-requires c = sign_fits c.args.self.now.rest.now c.in-Some.kind c.in-Some.len c.in-Some.ensures

pub returns : goal.returns
returns c = sign_steps c.args.self.now c.take.new.self c.push.new.self c.in-Some.kind c.in-Some.len c.push.result c.requires c.in-Some.ensures c.take.ensures.takes
    (c.push.ensures c.in-Some.kind (sign_stays c.take.new.self.dialect c.args.self.now.rest.now c.in-Some.kind c.in-Some.len c.in-Some.ensures))
