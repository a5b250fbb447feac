use Rattle.std.proofs.Common.{refl, sym, ◌∙◌}
use Rattle.toml.specs.View.{items_view}
use Rattle.vm_desc.specs.Places.{items_have_known}
use Rattle.vm_desc.proofs.KnownLemmas.{items_known-next, items_known-none, items_known-all}
use Rattle.vm_desc.proofs.known.+known.Goals as goal

pub items_are_known-items-init : goal.items_are_known-items-init
items_are_known-items-init t c = refl

pub items_are_known-returns-then-not-is_known : goal.items_are_known-returns-then-not-is_known
items_are_known-returns-then-not-is_known t c =
    let items = c.deref-item-items.result.now in
    let none = items_known-none c.args.place items c.items.item-index c.item-item.result (items_have_known c.args.place (items_view items)) c.items-test.true (sym c.item-item.is)
    (sym c.is_known.ensures ∙ c.if-not-is_known.true) c.items.invariant in
    rw c.deref-item-items.ensures.value at none

pub items_are_known-items-preserved : goal.items_are_known-items-preserved
items_are_known-items-preserved t c =
    let items = c.deref-item-items.result.now in
    items_known-next c.args.place items c.items.item-index c.item-item.result (items_have_known c.args.place (items_view items)) c.items-test.true (sym c.item-item.is)
    (sym c.is_known.ensures ∙ c.if-not-is_known.false) c.items.invariant

pub items_are_known-returns : goal.items_are_known-returns
items_are_known-returns t c =
    let items = c.deref-item-items.result.now in
    rw c.deref-item-items.ensures.value at (items_known-all c.args.place items c.items.item-index (items_have_known c.args.place (items_view items)) c.items-test.false c.items.invariant)
