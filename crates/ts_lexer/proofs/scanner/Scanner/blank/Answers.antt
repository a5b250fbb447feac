use Rattle.ts_lexer.proofs.StepLemmas.{blank_steps, moves_on}
use Rattle.ts_lexer.proofs.scanner.Scanner.blank.Goals as goal

pub returns-then-self-lt1 : goal.returns-then-self-lt1
returns-then-self-lt1 c = blank_steps c.args.self.now c.take.new.self c.requires c.take.ensures.takes

pub returns-in-0-to-32 : goal.returns-in-0-to-32
returns-in-0-to-32 c =
    moves_on c.args.self.now c.take.new.self c.more_blanks.new.self (blank_steps c.args.self.now c.take.new.self c.requires c.take.ensures.takes)
    c.more_blanks.ensures.same c.more_blanks.ensures.rest

pub returns-else-this-lt33 : goal.returns-else-this-lt33
returns-else-this-lt33 c = blank_steps c.args.self.now c.take.new.self c.requires c.take.ensures.takes
