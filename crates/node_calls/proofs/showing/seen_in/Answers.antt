-- The store is told.
use Rattle.std.proofs.Common.{[], ◌∷◌, ◌++◌, ap, ◌∙◌, arith}
use Rattle.mate_num.specs.declared.store.Store.{Store}
use Rattle.node_calls.proofs.ReadyLemmas.{TellsStore-pushed}
use Rattle.journal_laws.proofs.TidyLemmas.{stores-few}
use Rattle.node_calls.proofs.showing.seen_in.Goals as goal

pub returns-clause-tells : goal.returns-clause-tells
returns-clause-tells c =
    TellsStore-pushed c.args.description.now c.args.parts.now c.push_seen.new.self c.args.at c.requires.rests c.requires.timely
    (record {
      entries = c.push_seen.ensures.entries;
      images = c.push_seen.ensures.images;
      stores = c.push_seen.ensures.stores ∙ ap (λ (s : Store). c.args.parts.now.log.all.stores ++ s ∷ []) c.store.ensures;
    }) c.push_seen.ensures.spare

pub push_seen-requires-clause-count : goal.push_seen-requires-clause-count
push_seen-requires-clause-count c =
    let few = stores-few c.args.parts.now.log.all c.requires.rests.order.keeps.tidy.numbered in
    let entries = c.requires.few in
    omega arith
