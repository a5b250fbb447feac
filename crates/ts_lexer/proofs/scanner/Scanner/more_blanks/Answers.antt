use Rattle.ts_trees.specs.Cut.{is_blank}
use Rattle.ts_lexer.proofs.StepLemmas.{fits_front, blanks_due, no_longer}
use Rattle.ts_lexer.proofs.scanner.Scanner.more_blanks.Goals as goal

pub take-requires : goal.take-requires
take-requires c = fits_front is_blank c.args.self.now.rest.now c.blank_len-len.result c.blank_len-len.ensures

pub returns-clause-same : goal.returns-clause-same
returns-clause-same c = blanks_due c.args.self.now c.take.new.self c.blank_len-len.result c.blank_len-len.ensures c.take.ensures.takes

pub returns-clause-rest : goal.returns-clause-rest
returns-clause-rest c = no_longer c.args.self.now c.take.new.self c.blank_len-len.result c.take.ensures.takes
