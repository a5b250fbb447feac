use Rattle.std.proofs.Common.{refl, sym, ◌∙◌}
use Rattle.toml.specs.View.{items_view}
use Rattle.vm_desc.specs.Fields.{are_tables}
use Rattle.vm_desc.proofs.FieldLemmas.{are_tables-next, are_tables-none, are_tables-all}
use Rattle.vm_desc.proofs.fields.are_tables.Goals as goal

pub loop-item-init : goal.loop-item-init
loop-item-init c = refl

pub returns-then-not-is_table : goal.returns-then-not-is_table
returns-then-not-is_table c =
    let items = c.deref-item-items.result.now in
    let none = are_tables-none items c.loop-item.item-index c.item-item.result (are_tables (items_view items)) c.loop-item-test.true (sym c.item-item.is)
    (sym c.is_table.ensures ∙ c.if-not-is_table.true) c.loop-item.invariant in
    rw c.deref-item-items.ensures.value at none

pub loop-item-preserved : goal.loop-item-preserved
loop-item-preserved c =
    let items = c.deref-item-items.result.now in
    are_tables-next items c.loop-item.item-index c.item-item.result (are_tables (items_view items)) c.loop-item-test.true (sym c.item-item.is)
    (sym c.is_table.ensures ∙ c.if-not-is_table.false) c.loop-item.invariant

pub returns : goal.returns
returns c =
    let items = c.deref-item-items.result.now in
    rw c.deref-item-items.ensures.value at (are_tables-all items c.loop-item.item-index (are_tables (items_view items)) c.loop-item-test.false c.loop-item.invariant)
