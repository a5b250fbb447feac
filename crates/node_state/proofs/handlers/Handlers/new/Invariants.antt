use Rattle.std.proofs.Common.{◌≡◌, length, Option, None}
use Rattle.std.specs.List.{All}
use Rattle.node_state.specs.declared.handlers.Held.{Held}
use Rattle.node_state.proofs.handlers.Handlers.new.Given as goal

abbrev pub invariant-loop-place : goal.invariant-loop-place
invariant-loop-place l = record { count : length l.shared.items ≡ l._place; none : All (λ (held : Option Held). held ≡ None) l.shared.items }
