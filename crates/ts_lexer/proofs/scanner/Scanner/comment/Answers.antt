use Rattle.ts_lexer.proofs.CutLemmas.{in_line}
use Rattle.ts_lexer.proofs.StepLemmas.{fits_front, comment_steps}
use Rattle.ts_lexer.proofs.scanner.Scanner.comment.Goals as goal

pub take-requires : goal.take-requires
take-requires c = fits_front in_line c.args.self.now.rest.now c.line_len-len.result c.line_len-len.ensures

pub returns : goal.returns
returns c = comment_steps c.args.self.now c.take.new.self c.line_len-len.result c.requires c.line_len-len.ensures c.take.ensures.takes
