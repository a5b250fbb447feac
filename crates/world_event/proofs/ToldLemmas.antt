-- What a node tells in an event: its own part, and then its turns.
use Rattle.std.proofs.Common.{◌≡◌, ℕ, List, [], ◌∷◌, ◌++◌, length, map, drop, refl, sym, ◌∙◌, ap, append_assoc}
use Rattle.std.proofs.lemmas.List.{drop-map, length-map, map-append}
use Rattle.std.proofs.Math.Seq.{drop-append_seam}
use Rattle.mate_num.specs.declared.call.Stamp.{Stamp}
use Rattle.mate_journal.specs.Log.{Log}
use Rattle.mate_journal.specs.Journal.{JournalEntry, TimedEntry, NodeState, state_after_entries, journal_of, journal_entry}
use Rattle.mate_journal.specs.Pace.{Pace}
use Rattle.mate_journal.specs.declared.entry.Stamped.{Stamped}
use Rattle.node_state.specs.Meaning.{machine_in}
use Rattle.node_state.specs.Keeps.{reading, event_at, Grows}
use Rattle.node_open.specs.View.{NodeView, heard_of, Tells}
use Rattle.node_calls.proofs.SettleLemmas.{heard_told-append, reading-grows}
use Rattle.vm_shape.specs.declared.description.Description.{Description}
use Rattle.node_open.specs.Calls.{told_from}

-- what a node tells is heard
pub tells-heard : (old new : NodeView) (at : Stamp) (Rule : Pace → List JournalEntry → Pace → Type 0) (t : Tells old new at Rule) → heard_of new ≡ state_after_entries (machine_in old.description) (heard_of old) t.told
tells-heard old new at Rule t = ap (λ (d : Description). reading d new.log) t.description ∙ reading-grows old.description old.log new.log at t.told t.grows

map-told : (at : Stamp) (told : List JournalEntry) → map (λ (e : TimedEntry). e.told) (map (event_at at) told) ≡ told
map-told at [] = refl
map-told at (t ∷ told) = ap (λ (ts : List JournalEntry). t ∷ ts) (map-told at told)

told-of : (l : Log) (es : List Stamped) → map (λ (e : TimedEntry). e.told) (map (λ (e : Stamped). let v : TimedEntry = record { stamp = e.stamp; told = journal_entry l e.entry } in v) es) ≡ map (λ (e : Stamped). journal_entry l e.entry) es
told-of l [] = refl
told-of l (e ∷ es) = ap (λ (ts : List JournalEntry). journal_entry l e.entry ∷ ts) (told-of l es)

-- the entries behind those that a log had are what it tells more
pub told-behind : (old new : Log) (at : Stamp) (told : List JournalEntry) → Grows old new at told → told_from (length old.entries) new ≡ told
told-behind old new at told g =
    let T : List TimedEntry → List JournalEntry = map (λ (e : TimedEntry). e.told) in
    let V : Stamped → TimedEntry = λ e. record { stamp = e.stamp; told = journal_entry new e.entry } in
    let long : length (journal_of old) ≡ length old.entries = length-map old.entries (λ (e : Stamped). let v : TimedEntry = record { stamp = e.stamp; told = journal_entry old e.entry } in v) in
    sym (told-of new (drop (length old.entries) new.entries))
    ∙ ap (map (λ (e : TimedEntry). e.told)) (sym (drop-map V (length old.entries) new.entries)
    ∙ ap (drop (length old.entries)) g.journal
    ∙ ap (λ (n : ℕ). drop n (journal_of old ++ map (event_at at) told)) (sym long)
    ∙ drop-append_seam (journal_of old) (map (event_at at) told))
    ∙ map-told at told

-- its own part, and then its turns
module _ (old mid new : NodeView) (at : Stamp) (Rule Later : Pace → List JournalEntry → Pace → Type 0) (first : Tells old mid at Rule) (later : Tells mid new at Later) where
  pub heard-both : heard_of new ≡ state_after_entries (machine_in old.description) (heard_of old) (first.told ++ later.told)
  heard-both =
      tells-heard mid new at Later later
      ∙ ap (λ (d : Description). state_after_entries (machine_in d) (heard_of mid) later.told) first.description
      ∙ ap (λ (r : NodeState). state_after_entries (machine_in old.description) r later.told) (tells-heard old mid at Rule first)
      ∙ sym (heard_told-append (machine_in old.description) (heard_of old) first.told later.told)

  pub journal-both : journal_of new.log ≡ journal_of old.log ++ map (event_at at) (first.told ++ later.told)
  journal-both =
      later.grows.journal
      ∙ ap (λ (es : List TimedEntry). es ++ map (event_at at) later.told) first.grows.journal
      ∙ append_assoc (journal_of old.log) (map (event_at at) first.told) (map (event_at at) later.told)
      ∙ ap (λ (es : List TimedEntry). journal_of old.log ++ es) (sym (map-append (event_at at) first.told later.told))
