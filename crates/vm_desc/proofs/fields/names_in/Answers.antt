use Rattle.std.proofs.Common.{sym, refl}
use Rattle.vm_desc.proofs.FieldLemmas.{names_next, names_none, names_all}
use Rattle.vm_desc.proofs.fields.names_in.Goals as goal

pub returns-in_default-clause-value : goal.returns-in_default-clause-value
returns-in_default-clause-value g c =
    let none = names_none c.deref-item-items.result.now c.loop-item.item-index c.loop-item.names.items c.item-item.result c.loop-item.invariant c.loop-item-test.true (sym c.item-item.is)
    (sym (rw c.in_default.is at c.name_in.ensures.value)) in
    rw (rw c.deref-item-items.ensures.value at none) refl

pub loop-item-preserved : goal.loop-item-preserved
loop-item-preserved g c =
    names_next c.deref-item-items.result.now c.loop-item.item-index c.loop-item.names.items c.push.new.self.items c.item-item.result c.in-Some.name
    c.loop-item.invariant c.loop-item-test.true (sym c.item-item.is) (sym c.in-Some.ensures.value) c.in-Some.ensures.form c.push.ensures.items

pub returns-clause-value : goal.returns-clause-value
returns-clause-value g c =
    let all = names_all c.deref-item-items.result.now c.loop-item.item-index c.loop-item.names.items c.loop-item.invariant c.loop-item-test.false in
    rw (rw c.deref-item-items.ensures.value at all) refl

pub returns-clause-form : goal.returns-clause-form
returns-clause-form g c = c.loop-item.invariant.form
