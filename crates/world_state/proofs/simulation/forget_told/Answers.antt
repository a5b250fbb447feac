use Rattle.std.proofs.Common.{◌∙◌, sym, ap}
use Rattle.node_open.specs.View.{NodeView}
use Rattle.world_state.proofs.KeepingLemmas.{gone-same}
use Rattle.world_state.proofs.simulation.forget_told.Goals as goal

pub returns-clause-description : goal.returns-clause-description
returns-clause-description c = ap (λ (v : NodeView). v.description) c.trade_room.ensures.same ∙ c.forget.ensures.same.description

pub returns-clause-log : goal.returns-clause-log
returns-clause-log c = record {
  entries = ap (λ (v : NodeView). v.log.entries) c.trade_room.ensures.same ∙ c.forget.ensures.same.log.entries;
  images = ap (λ (v : NodeView). v.log.images) c.trade_room.ensures.same ∙ c.forget.ensures.same.log.images;
  stores = ap (λ (v : NodeView). v.log.stores) c.trade_room.ensures.same ∙ c.forget.ensures.same.log.stores;
}

pub returns-clause-gone : goal.returns-clause-gone
returns-clause-gone c = ap (λ (v : NodeView). v.gone) c.trade_room.ensures.same ∙ c.forget.ensures.same.gone

pub returns-clause-pace : goal.returns-clause-pace
returns-clause-pace c = λ p pace. c.trade_room.ensures.pace p (c.forget.ensures.pace p pace)

pub trade_room-requires-clause-gone : goal.trade_room-requires-clause-gone
trade_room-requires-clause-gone c = c.forget.ensures.same.gone ∙ sym (gone-same c.forget.new.self.log c.args.node.now.log c.forget.ensures.same.log)
