use Rattle.std.proofs.Common.{false, replicate, refl}
use Rattle.std.proofs.lemmas.List.{get_or-replicate}
use Rattle.capsule_exchange.proofs.TableLemmas.{table_is}
use Rattle.capsule_exchange.proofs.pieces.no_marks.Goals as goal

pub returns : goal.returns
returns c = table_is (λ _. false) (replicate 22 false) false refl (λ k below. get_or-replicate 22 k false false below)
