use Rattle.std.proofs.Common.{◌≡◌, ◌≤◌, ◌-◌, length}
use Rattle.std.specs.Prelude.{max, vec_capacity, vec_len}
use Rattle.node_state.specs.Programs.{HaveSame}
use Rattle.node_state.proofs.handlers.reach.Given as goal

abbrev pub invariant-loop-own : goal.invariant-loop-own
invariant-loop-own l = record {
  same : HaveSame l.initial.own.items l.own.items;
  few : length l.own.items ≤ max l.count (length l.initial.own.items);
  capacity : vec_capacity l.own ≡ vec_capacity l.initial.own;
}

abbrev pub decreases-loop-own : goal.decreases-loop-own
decreases-loop-own l = l.count - vec_len l.own
