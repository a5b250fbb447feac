use Rattle.std.proofs.Common.{◌≡◌, drop}
use Rattle.toml.specs.View.{items_view}
use Rattle.vm_desc.specs.Fields.{are_tables}
use Rattle.vm_desc.proofs.fields.are_tables.Given as goal

abbrev pub invariant-loop-item : goal.invariant-loop-item
invariant-loop-item l = are_tables (items_view (drop l.item-index l.item-items)) ≡ are_tables (items_view l.item-items)
