use Rattle.std.proofs.Common.{None}
use Rattle.capsule_exchange.proofs.TableLemmas.{table_is}
use Rattle.capsule_exchange.proofs.pieces.no_pieces.Goals as goal

pub returns : goal.returns
returns c = table_is (λ _. None) c.default.result None c.default.ensures.long (λ k below. c.default.ensures.at k None below)
