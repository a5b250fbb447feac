use Rattle.std.proofs.Common.{◌≡◌, length}
use Rattle.std.specs.List.{find}
use Rattle.capsule_exchange.specs.Happenings.{slots_from}
use Rattle.capsule_exchange.specs.Steps.{is_marked_in}
use Rattle.capsule_exchange.proofs.handlers.first_marked.Given as goal

-- the slots that are left give the answer of all
abbrev pub invariant-loop-slot : goal.invariant-loop-slot
invariant-loop-slot l =
    find (is_marked_in l.states) (slots_from (length l.states) l.slot) ≡ find (is_marked_in l.states) (slots_from (length l.states) l.first)
