use Rattle.std.proofs.Common.{◌≡◌, List, [], ◌++◌, take, length}
use Rattle.mate_num.specs.declared.id.FunId.{FunId}
use Rattle.mate_journal.specs.Log.{Log}
use Rattle.node_open.specs.View.{heard_of}
use Rattle.world_rules.specs.World.{World}
use Rattle.world_rules.specs.State.{answers_due, calls_in}
use Rattle.world_air.specs.Calls.{AreCallsOf, HasSensors}
use Rattle.world_air.specs.Air.{timed_events}
use Rattle.world_air.specs.Changes.{AddsToAir}
use Rattle.journal_laws.specs.Waiting.{WaitApart, AreAwaited}
use Rattle.node_open.specs.Calls.{told_by_entries}
use Rattle.world_event.proofs.answers.schedule_answers.Given as goal

abbrev pub invariant-loop-stamped : goal.invariant-loop-stamped
invariant-loop-stamped l = record {
  due : (w : World) (called : List FunId) (log : Log) → HasSensors w l.desc l.series → AreCallsOf w l.number called l.initial.calls → WaitApart (heard_of l.node) → AreAwaited (heard_of l.node) (told_by_entries log l.entries)
      → AddsToAir l.initial.radio l.radio [] (timed_events w (answers_due w l.number l.now (heard_of l.node) called (told_by_entries log (take l.stamped-index l.entries))));
  calls : (w : World) (called : List FunId) (log : Log) → HasSensors w l.desc l.series → AreCallsOf w l.number called l.initial.calls → AreCallsOf w l.number (called ++ calls_in (told_by_entries log (take l.stamped-index l.entries))) l.calls;
  counts : length l.calls.counts.items ≡ length l.desc.functions.items;
  now : l.radio.agenda.now ≡ l.initial.radio.agenda.now;
}
