-- Small logs and a small report.
use Rattle.std.specs.Prelude.{◌≡◌, ℕ, true, List, [], ◌∷◌, codes}
use Rattle.mate_num.specs.Store.{payload}
use Rattle.vm_shape.specs.declared.handler.Handler.{Handler}
use Rattle.vm_shape.specs.declared.handler.HandlerKind.TheVariants.{Plain}
use Rattle.mate_journal.specs.Log.{Log}
use Rattle.mate_journal.specs.declared.entry.Entry.{Entry}
use Rattle.mate_journal.specs.declared.entry.Entry.TheVariants.{Post, Dropped, Halt, Reset}
use Rattle.mate_journal.specs.declared.entry.DropCause.TheVariants.{NoCode}
use Rattle.mate_journal.specs.declared.entry.Stamped.{Stamped}
use Rattle.mate_journal.specs.declared.report.Report.{Report}

-- the one handler `main`, which has one context
abbrev pub main_alone : List Handler
main_alone = record { name = codes "main"; kind = Plain; contexts = 1 } ∷ []

abbrev pub told_at_event : ℕ → ℕ → Entry → Stamped
told_at_event event time e = record { stamp = record { event = event; time = time }; entry = e }

abbrev pub a_halt : Stamped
a_halt = told_at_event 5 70 (Halt 1)

abbrev pub a_reset : Stamped
a_reset = told_at_event 6 80 Reset

-- invocation 9 has context 0, and no values
abbrev pub a_first_post : Stamped
a_first_post = told_at_event 5 70 (Post 9 (record { 0 = 0 }) (record { 0 = 0 }) (payload []))

abbrev pub a_drop : Stamped
a_drop = told_at_event 0 0 (Dropped (record { 0 = 0 }) NoCode)

-- a whole run of one node, on which an event is dropped
pub record IsOfADrop (r : Report) : Type 0 where
  pub log : Log
  pub entries : log.entries ≡ a_drop ∷ []
  pub nodes : r.nodes ≡ log ∷ []
  pub air : r.air ≡ []
  pub events : r.events ≡ 0
  pub whole : r.whole ≡ true
