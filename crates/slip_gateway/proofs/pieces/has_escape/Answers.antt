use Rattle.slip_gateway.proofs.PieceLemmas.{found_any, none_found}
use Rattle.slip_gateway.proofs.pieces.has_escape.Goals as goal

pub returns-clause-value : goal.returns-clause-value
returns-clause-value c = found_any c.args.piece.now c.memchr.result c.is_some.result c.memchr.ensures c.is_some.ensures

pub returns-clause-plain : goal.returns-clause-plain
returns-clause-plain c = λ shut. none_found c.args.piece.now c.memchr.result c.is_some.result c.memchr.ensures c.is_some.ensures shut
