-- Calls after one another, and entries that change nothing but the log.
use Rattle.std.proofs.Common.{◌≡◌, ◌+◌, ◌≤◌, List, [], ◌∷◌, ◌++◌, refl, sym, ◌∙◌, subst}
use Rattle.mate_num.specs.declared.call.Stamp.{Stamp}
use Rattle.vm_shape.specs.declared.description.Description.{Description}
use Rattle.mate_journal.specs.declared.entry.Entry.{Entry}
use Rattle.mate_journal.specs.Log.{Log}
use Rattle.mate_journal.specs.Journal.{JournalEntry, NodeState, next_state}
use Rattle.mate_journal.specs.Grants.{AllHeldBack, IsGranted}
use Rattle.node_state.specs.declared.parts.Parts.{Parts}
use Rattle.node_state.specs.Meaning.{machine_in}
use Rattle.node_state.specs.Keeps.{reading}
use Rattle.node_state.specs.Continues.{Continues}
use Rattle.node_state.proofs.KeepLemmas.{Grows-then}
use Rattle.mate_journal.specs.Pace.{Pace, paced, paced_all}
use Rattle.node_state.specs.Pace.{IsPace}
use Rattle.node_state.specs.Starting.{last_started, Rests}
use Rattle.node_state.proofs.OrderLemmas.{KeepsOrder-push, heard-by, grows-by}
use Rattle.node_state.proofs.StartingLemmas.{paced_all-append}
use Rattle.node_calls.specs.Calls.{RestsAgain}
use Rattle.mate_journal.specs.OpenLog.{OpenView}

-- one call after another
pub RestsAgain-then : (d : Description) (a b c : Parts) (at_ : Stamp) (First Then Both : List JournalEntry → Type 0) → RestsAgain d a b at_ First → RestsAgain d b c at_ Then
    → ((xs ys : List JournalEntry) → First xs → Then ys → Both (xs ++ ys)) → RestsAgain d a c at_ Both
RestsAgain-then d a b c at_ First Then Both f g both = record {
  adds = record {
    told = f.adds.told ++ g.adds.told;
    grows = Grows-then a.log.all b.log.all c.log.all at_ f.adds.told g.adds.told f.adds.grows g.adds.grows;
    made = both f.adds.told g.adds.told f.adds.made g.adds.made;
  };
  rests = g.rests;
  pace = λ p pace.
      (let P : Pace → Type 0 = λ q. IsPace (reading d c.log.all) c.contexts q in
      subst P (sym (paced_all-append p f.adds.told g.adds.told)) (g.pace (paced_all p f.adds.told) (f.pace p pace)));
}

-- the rule is met in other words
pub RestsAgain-as : (d : Description) (a b : Parts) (at_ : Stamp) (First Then : List JournalEntry → Type 0) → RestsAgain d a b at_ First → ((xs : List JournalEntry) → First xs → Then xs) → RestsAgain d a b at_ Then
RestsAgain-as d a b at_ First Then f as_ = record {
  adds = record { told = f.adds.told; grows = f.adds.grows; made = as_ f.adds.told f.adds.made };
  rests = f.rests;
  pace = f.pace;
}

-- an entry that leaves contexts, heap and programs as they are
module _ (d : Description) (old : Parts) (log : OpenView) (before : Log) (at_ : Stamp) (e : Entry) (told : JournalEntry) (rests : Rests d old) (continues : Continues d old (record old { log = log }) before at_ e told) (room : old.log.all.spare ≤ log.all.spare + 1)
    (granted : IsGranted (machine_in d) (reading d old.log.all) (last_started old.log.all) told) (unheard : next_state (machine_in d) (reading d old.log.all) told ≡ reading d old.log.all) (unpaced : (p : Pace) → paced p told ≡ p) where
  heard-is : reading d log.all ≡ reading d old.log.all
  heard-is = heard-by d old (record old { log = log }) before at_ e told rests.order continues room ∙ unheard

  pub RestsAgain-quiet : RestsAgain d old (record old { log = log }) at_ (λ xs. xs ≡ told ∷ [])
  RestsAgain-quiet = record {
    adds = record { told = told ∷ []; grows = grows-by d old (record old { log = log }) before at_ e told rests.order continues room; made = refl };
    rests = record {
      order = KeepsOrder-push d old (record old { log = log }) before at_ e told rests.order continues room granted rests.order.queue;
      held = (let P : NodeState → Type 0 = λ r. AllHeldBack (machine_in d) r in subst P (sym heard-is) rests.held);
    };
    pace = λ p pace.
        (let P : NodeState → Type 0 = λ r. IsPace r old.contexts p in
        let Q : Pace → Type 0 = λ q. IsPace (reading d log.all) old.contexts q in
        subst Q (sym (unpaced p)) (subst P (sym heard-is) pace));
  }
