-- What the states of all handlers say together.
use Rattle.std.specs.Prelude.{◌≡◌, ◌≤◌, List, length, map, is_some}
use Rattle.std.specs.List.{find}
use Rattle.mate_num.specs.declared.bounds.TheConstants.{HANDLERS_MAX}
use Rattle.capsule_exchange.specs.declared.handler_state.HandlerState.{HandlerState}
use Rattle.capsule_exchange.specs.declared.summary.Summary.{Summary}
use Rattle.capsule_exchange.specs.Happenings.{slots_from}
use Rattle.capsule_exchange.specs.Sound.{AreSound}
use Rattle.capsule_exchange.specs.Steps.{is_marked_in}

-- the summary has the versions that are held, and says whether a slot is marked
pub record IsSummaryOf (states : List HandlerState) (summary : Summary) : Type 0 where
  pub held : summary.held.items ≡ map (λ (s : HandlerState). s.held) states
  pub owes : summary.owes ≡ is_some (find (is_marked_in states) (slots_from (length states) 0))

-- the states of a machine's handlers are sound, and the summary is theirs
pub record AreKept (states : List HandlerState) (summary : Summary) : Type 0 where
  pub few : length states ≤ HANDLERS_MAX
  pub sound : AreSound states
  pub summed : IsSummaryOf states summary
