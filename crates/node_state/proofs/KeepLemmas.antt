-- The parts of a node go on keeping what they keep, entry by entry.
use Rattle.std.proofs.Common.{ℕ, ◌≡◌, ◌+◌, ◌≤◌, false, List, [], ◌∷◌, ◌++◌, length, map, refl, sym, ◌∙◌, ap, subst, arith, length-append, append_assoc, ◌<◌, None}
use Rattle.std.proofs.lemmas.List.{map-append, append-nil}
use Rattle.std.specs.Prelude.{All}
use Rattle.arrayvec.specs.ArrayVec.{ArrayVec}
use Rattle.mate_num.specs.declared.store.Store.{Store}
use Rattle.mate_num.specs.declared.call.Stamp.{Stamp}
use Rattle.mate_journal.specs.declared.entry.Entry.{Entry}
use Rattle.mate_journal.specs.declared.entry.Stamped.{Stamped}
use Rattle.mate_journal.specs.Log.{Log}
use Rattle.mate_journal.specs.Machine.{Machine}
use Rattle.mate_journal.specs.Journal.{JournalEntry, journal_entry, TimedEntry, journal_of, NodeState, next_state, state_after_all, first_state}
use Rattle.journal_laws.proofs.TidyLemmas.{NumbersInOrder-push, in_range-push, ordered-in_time}
use Rattle.mate_journal.specs.Entries.{IsEntryInRange}
use Rattle.mate_journal.specs.Tidy.{image_named, store_named, IsStoreOf}
use Rattle.journal_laws.specs.Growth.{event_of, IsPushed, FollowsLast, last_is_seen}
use Rattle.mate_journal.specs.WellFormed.{MayFollow, IsWellFormed}
use Rattle.mate_journal.specs.Serial.{EndsAsRun, RunsSoFar, IsSerial}
use Rattle.mate_journal.specs.Stores.{ShowsStore, IsSeenBefore, ShowsStores}
use Rattle.journal_laws.proofs.Append.{heard_all-push, journal_of-push, FollowsLast-push, IsWellFormed-push, IsSerial-push, ShowsStores-push}
use Rattle.node_state.specs.Programs.{held_at}
use Rattle.node_state.proofs.SerialLemmas.{stands}
use Rattle.vm_shape.specs.declared.description.Description.{Description}
use Rattle.node_state.specs.declared.parts.Parts.{Parts}
use Rattle.node_state.specs.Meaning.{machine_in}
use Rattle.node_state.specs.Keeps.{reading, Keeps, IsTimely, event_at, Grows}
use Rattle.node_state.specs.Continues.{IsPrepared, AddsTidily, AgreesAfter, Continues}
use Rattle.mate_journal.specs.OpenLog.{OpenView}

-- ---- growing logs

pub Grows-none : (l : Log) (at : Stamp) → IsTimely at l → Grows l l at []
Grows-none l at timely = record { journal = sym (append-nil (journal_of l)); count = omega arith; spare = omega arith; timely = timely }

pub Grows-then : (a b c : Log) (at : Stamp) (first then : List JournalEntry) → Grows a b at first → Grows b c at then → Grows a c at (first ++ then)
Grows-then a b c at first then f g =
    record {
      journal =
          g.journal ∙ ap (λ (es : List TimedEntry). es ++ map (event_at at) then) f.journal
          ∙ append_assoc (journal_of a) (map (event_at at) first) (map (event_at at) then)
          ∙ ap (λ (es : List TimedEntry). journal_of a ++ es) (sym (map-append (event_at at) first then));
      count = let m = f.count in let n = g.count in omega (arith, length-append first then);
      spare = let m = f.spare in let n = g.spare in omega (arith, length-append first then);
      timely = g.timely;
    }

-- ---- one more entry

module _ (d : Description) (old new : Parts) (before : Log) (at : Stamp) (e : Entry) (told : JournalEntry) (keeps : Keeps d old) (next : Continues d old new before at e told) where
  abbrev m : Machine
  m = machine_in d

  abbrev s : Stamped
  s = record { stamp = at; entry = e }

  journal-new : journal_of new.log.all ≡ journal_of old.log.all ++ event_at at told ∷ []
  journal-new =
      journal_of-push before s new.log.all next.pushed
      ∙ ap (λ (es : List TimedEntry). es ++ event_of before s ∷ []) next.prepared.journal
      ∙ ap (λ (t : JournalEntry). journal_of old.log.all ++ event_at at t ∷ []) next.tells

  reading-new : reading d new.log.all ≡ next_state m (reading d old.log.all) told
  unfolding reading
  reading-new = ap (state_after_all m (first_state m)) journal-new ∙ heard_all-push m (first_state m) (journal_of old.log.all) (event_at at told)

  well_formed-new : IsWellFormed m (first_state m) (journal_of new.log.all)
  unfolding reading
  well_formed-new =
      let P : List TimedEntry → Type 0 = λ es. IsWellFormed m (first_state m) es in
      subst P (sym journal-new) (IsWellFormed-push m (first_state m) (journal_of old.log.all) (event_at at told) keeps.well_formed next.timely.after_last next.follows)

  entries-new : length new.log.all.entries ≡ length old.log.all.entries + 1
  entries-new =
      let n = ap length next.pushed.entries in
      let k = length-append before.entries (s ∷ []) in
      let j = ap length next.prepared.entries in
      omega arith

  timely-new : IsTimely at new.log.all
  timely-new =
      let P : List TimedEntry → Type 0 = λ es. FollowsLast es at in
      record { after_last = subst P (sym journal-new) (FollowsLast-push (journal_of old.log.all) (event_at at told)) }

  after-new : AgreesAfter d (reading d new.log.all) new
  after-new = let P : NodeState → Type 0 = λ r. AgreesAfter d r new in subst P (sym reading-new) next.after

  serial-new : IsSerial m (first_state m) (journal_of new.log.all)
  unfolding reading
  serial-new =
      let P : List TimedEntry → Type 0 = λ es. IsSerial m (first_state m) es in
      let x = next.after in
      let runs : RunsSoFar m (next_state m (reading d old.log.all) told) =
      stands d (next_state m (reading d old.log.all) told) new.contexts (held_at new.handlers.programs) new.heap x.fits x.installed.each x.agrees in
      subst P (sym journal-new) (IsSerial-push m (first_state m) (journal_of old.log.all) (event_at at told) keeps.serial next.ends runs)

  shows-new : ShowsStores m (first_state m) (journal_of new.log.all)
  unfolding reading
  shows-new =
      let P : List TimedEntry → Type 0 = λ es. ShowsStores m (first_state m) es in
      subst P (sym journal-new) (ShowsStores-push m (first_state m) (journal_of old.log.all) (event_at at told) keeps.shows next.shown next.before_era)

  in_range-new : All (λ (x : Stamped). IsEntryInRange d x.entry) new.log.all.entries
  in_range-new =
      let is : new.log.all.entries ≡ old.log.all.entries ++ s ∷ [] = next.pushed.entries ∙ ap (λ (es : List Stamped). es ++ s ∷ []) next.prepared.entries in
      let P : List Stamped → Type 0 = λ es. All (λ (x : Stamped). IsEntryInRange d x.entry) es in
      subst P (sym is) (in_range-push d old.log.all.entries s next.tidily.in_range keeps.tidy.in_range)

  pub Keeps-push : Keeps d new
  Keeps-push =
      let entries = entries-new in
      let numbers = next.numbers in
      record {
        tidy = record {
          in_range = in_range-new;
          numbered = next.tidily.numbered keeps.tidy.numbered;
          lengths = next.tidily.lengths keeps.tidy.lengths;
          ordered = ordered-in_time new.log.all well_formed-new.in_time;
        };
        full = next.tidily.full keeps.full;
        numbers = omega arith;
        well_formed = well_formed-new;
        posts = after-new.posts;
        places = after-new.places;
        installed = after-new.installed;
        fits = after-new.fits;
        seats = after-new.seats;
        lengths = after-new.lengths;
        agrees = after-new.agrees;
        serial = serial-new;
        shows = shows-new;
      }

  pub Grows-push : old.log.all.spare ≤ new.log.all.spare + 1 → Grows old.log.all new.log.all at (told ∷ [])
  Grows-push room = record { journal = journal-new; count = entries-new; spare = room; timely = timely-new }

-- where nothing was prepared
pub IsPrepared-same : (l : Log) → IsPrepared l l
IsPrepared-same l = record { journal = refl; entries = refl }

-- an entry that names no image and no store, with ids in range
pub record IsPlain (d : Description) (e : Entry) : Type 0 where
  pub image : image_named e ≡ None
  pub store : store_named e ≡ None
  pub in_range : IsEntryInRange d e

pub AddsTidily-plain : (d : Description) (old new : Log) (at : Stamp) (e : Entry) → IsPushed old record { stamp = at; entry = e } new → IsPlain d e → AddsTidily d old e new
AddsTidily-plain d old new at e pushed plain =
    let S : List Store → Type 0 = λ l. All (IsStoreOf d) l in
    let I : List (ArrayVec ℕ) → Type 0 = λ l. All (λ (image : ArrayVec ℕ). 0 < length image.items) l in
    record {
      in_range = plain.in_range;
      numbered = NumbersInOrder-push old new record { stamp = at; entry = e } pushed.entries pushed.images pushed.stores plain.image plain.store;
      lengths = λ lengths. subst S (sym pushed.stores) lengths;
      full = λ full. record { full = subst I (sym pushed.images) full.full };
    }

-- an entry that changes nothing of the parts
pub Continues-same : (d : Description) (old : Parts) (log : OpenView) (at : Stamp) (e : Entry) (told : JournalEntry) → Keeps d old → IsTimely at old.log.all → IsPushed old.log.all record { stamp = at; entry = e } log.all
    → journal_entry old.log.all e ≡ told → IsPlain d e → MayFollow (machine_in d) (reading d old.log.all) told
    → EndsAsRun (machine_in d) (reading d old.log.all) told → ShowsStore (machine_in d) (reading d old.log.all) told → IsSeenBefore (last_is_seen false (journal_of old.log.all)) told
    → next_state (machine_in d) (reading d old.log.all) told ≡ reading d old.log.all
    → Continues d old (record old { log = log }) old.log.all at e told
Continues-same d old log at e told keeps timely pushed tells plain follows ends shown before_era same =
    let n = keeps.numbers in
    let after : AgreesAfter d (reading d old.log.all) (record old { log = log }) = record { posts = keeps.posts; places = keeps.places; installed = keeps.installed; fits = keeps.fits; seats = keeps.seats; lengths = keeps.lengths; agrees = keeps.agrees } in
    let P : NodeState → Type 0 = λ r. AgreesAfter d r (record old { log = log }) in
    record {
      prepared = IsPrepared-same old.log.all;
      pushed = pushed;
      tells = tells;
      tidily = AddsTidily-plain d old.log.all log.all at e pushed plain;
      timely = timely;
      follows = follows;
      ends = ends;
      shown = shown;
      before_era = before_era;
      numbers = omega arith;
      after = subst P (sym same) after;
    }
