-- A node's calls behind a reserve.
use Rattle.std.proofs.Common.{◌≡◌, ◌≤◌, List, ◌++◌, sym, ◌∙◌, ap, subst, arith, length, map}
use Rattle.mate_num.specs.declared.call.Stamp.{Stamp}
use Rattle.mate_journal.specs.Log.{Log, IsSameLog}
use Rattle.mate_journal.specs.Journal.{JournalEntry, TimedEntry, NodeState, journal_of, first_state, state_after_all}
use Rattle.mate_journal.specs.Pace.{Pace}
use Rattle.mate_journal.specs.declared.entry.Stamped.{Stamped}
use Rattle.journal_laws.specs.Growth.{FollowsLast}
use Rattle.journal_laws.proofs.Append.{journal_of-same}
use Rattle.vm_shape.specs.declared.description.Description.{Description}
use Rattle.node_state.specs.Meaning.{machine_in}
use Rattle.node_state.specs.Keeps.{reading, event_at, Grows}
use Rattle.node_open.specs.View.{NodeView, heard_of, HasPace, Tells, IsSameNode}
use Rattle.world_state.specs.Motes.{IsTellable}

pub tellable-same : (old mid : NodeView) (at : Stamp) → IsSameNode old mid → IsTellable old at → IsTellable mid at
tellable-same old mid at same t =
    let journals : journal_of mid.log ≡ journal_of old.log = journal_of-same old.log mid.log same.log in
    let P : List TimedEntry → Type 0 = λ es. FollowsLast es at in
    let long = ap (λ es. length {A = Stamped} es) same.log.entries in
    let few = t.few in
    record { timely = record { after_last = subst P (sym journals) t.timely.after_last }; few = omega (arith, long, few) }

pub heard-same : (old mid : NodeView) → IsSameNode old mid → heard_of mid ≡ heard_of old
unfolding reading
heard-same old mid same =
    let R : Description → List TimedEntry → NodeState = λ d es. state_after_all (machine_in d) (first_state (machine_in d)) es in
    ap (λ (d : Description). R d (journal_of mid.log)) same.description ∙ ap (λ (es : List TimedEntry). R old.description es) (journal_of-same old.log mid.log same.log)

pub grows-behind : (old mid new : Log) (at : Stamp) (told : List JournalEntry) → IsSameLog mid old → old.spare ≤ mid.spare → Grows mid new at told → Grows old new at told
grows-behind old mid new at told same room g =
    let long = ap (λ es. length {A = Stamped} es) same.entries in
    let count = g.count in
    let spare = g.spare in
    record {
      journal = g.journal ∙ ap (λ (es : List TimedEntry). es ++ map (event_at at) told) (journal_of-same old mid same);
      count = omega (arith, long, count);
      spare = omega (arith, room, spare);
      timely = g.timely;
    }

-- what a call tells behind a reserve, it tells of the node before it
pub tells-behind : (old mid new : NodeView) (at : Stamp) (Rule : Description → NodeState → Pace → List JournalEntry → Pace → Type 0) → IsSameNode old mid → ((p : Pace) → HasPace old p → HasPace mid p)
    → Tells mid new at (Rule mid.description (heard_of mid)) → Tells old new at (Rule old.description (heard_of old))
tells-behind old mid new at Rule same paces t = record {
  told = t.told;
  description = t.description ∙ same.description;
  grows = grows-behind old.log mid.log new.log at t.told same.log same.room t.grows;
  gone = t.gone ∙ same.gone;
  places = let before = same.places in let after = t.places in omega (arith, before, after);
  paces = λ p has.
      let x = t.paces p (paces p has) in
      let P : Description → Type 0 = λ d. Rule d (heard_of mid) p t.told x.0 in
      let Q : NodeState → Type 0 = λ r. Rule old.description r p t.told x.0 in
      (x.0, subst Q (heard-same old mid same) (subst P same.description x.1), x.2);
}
