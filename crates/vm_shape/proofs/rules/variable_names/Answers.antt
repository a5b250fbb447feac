use Rattle.std.proofs.Common.{[], ◌∙◌, sym, append-nil, lit<, lit≤}
use Rattle.vm_shape.proofs.NameLemmas.{names_pushed, names_room, names_all}
use Rattle.vm_shape.proofs.rules.variable_names.Goals as goal

pub push-requires : goal.push-requires
push-requires c = (lit< tt, names_room [] c.args.shared.now c.loop-name.name-index 0 16 24 c.loop-name.names.items c.loop-name-test.true (lit≤ tt) c.requires.shared (lit≤ tt) c.loop-name.invariant)

pub loop-name-preserved : goal.loop-name-preserved
loop-name-preserved c =
    names_pushed [] c.args.shared.now c.loop-name.name-index c.name-item.result c.copy.result c.loop-name.names.items c.push.new.self.items
    c.loop-name-test.true c.name-item.is c.copy.ensures c.loop-name.invariant c.push.ensures.items

pub loop-name-2-init : goal.loop-name-2-init
loop-name-2-init c = names_all [] c.args.shared.now c.loop-name.name-index c.loop-name.names.items c.loop-name-test.false c.loop-name.invariant ∙ sym (append-nil c.args.shared.now)

pub push-requires-in-loop-name-2 : goal.push-requires-in-loop-name-2
push-requires-in-loop-name-2 c =
    (lit< tt, names_room c.args.shared.now c.args.buffers.now c.loop-name-2.name-index 16 8 24 c.loop-name-2.names.items c.loop-name-2-test.true c.requires.shared c.requires.buffers (lit≤ tt) c.loop-name-2.invariant)

pub loop-name-2-preserved : goal.loop-name-2-preserved
loop-name-2-preserved c =
    names_pushed c.args.shared.now c.args.buffers.now c.loop-name-2.name-index c.name-item-in-loop-name-2.result c.copy-in-loop-name-2.result c.loop-name-2.names.items c.push-in-loop-name-2.new.self.items
    c.loop-name-2-test.true c.name-item-in-loop-name-2.is c.copy-in-loop-name-2.ensures c.loop-name-2.invariant c.push-in-loop-name-2.ensures.items

pub returns : goal.returns
returns c = names_all c.args.shared.now c.args.buffers.now c.loop-name-2.name-index c.loop-name-2.names.items c.loop-name-2-test.false c.loop-name-2.invariant
