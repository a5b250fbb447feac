use Rattle.std.proofs.Common.{◌≡◌, drop}
use Rattle.toml.specs.View.{items_view, members_view}
use Rattle.vm_desc.specs.Places.{items_have_known, members_have_known}
use Rattle.vm_desc.proofs.known.+known.Given as goal

abbrev pub invariant-items_are_known-items : goal.invariant-items_are_known-items
invariant-items_are_known-items l =
    items_have_known l.place (items_view (drop l.item-index l.item-items)) ≡ items_have_known l.place (items_view l.item-items)

abbrev pub invariant-members_are_known-members : goal.invariant-members_are_known-members
invariant-members_are_known-members l =
    (goal.iterator-members_are_known-members).can_next l.key-iterator ×
    (goal.iterator-members_are_known-members).is_finite l.key-iterator ×
    (members_have_known l.place (members_view l.key-iterator) ≡ members_have_known l.place (members_view l.table.entries))
