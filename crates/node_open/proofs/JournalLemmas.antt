-- What a node that rests keeps of its log, and that more room changes nothing.
use Rattle.std.proofs.Common.{◌∙◌, ◌≡◌, List, Option, length, sym, ap, subst, arith, ℕ, ◌<◌}
use Rattle.vm_shape.specs.declared.description.Description.{Description}
use Rattle.mate_journal.specs.Log.{IsSameLog}
use Rattle.mate_journal.specs.Journal.{TimedEntry, NodeState, journal_of, first_state, state_after_all}
use Rattle.mate_journal.specs.WellFormed.{IsWellFormed}
use Rattle.mate_journal.specs.Serial.{IsSerial}
use Rattle.mate_journal.specs.Stores.{ShowsStores}
use Rattle.mate_journal.specs.Grants.{AllHeldBack, GrantsInOrder}
use Rattle.mate_journal.specs.Machine.{Machine}
use Rattle.mate_journal.specs.Devices.{DeviceOf, WritesWhatItAsks, AsksDevicesInOrder}
use Rattle.mate_journal.specs.OpenLog.{OpenView}
use Rattle.journal_laws.specs.Progress.{GoesForward}
use Rattle.journal_laws.specs.Growth.{GrantsBefore}
use Rattle.journal_laws.proofs.Append.{journal_of-same, GrantsInOrder-join}
use Rattle.mate_journal.specs.Entries.{IsEntryInRange}
use Rattle.mate_journal.specs.Tidy.{IsStoreOf, EventsRise, entry_event, names_in, image_named, store_named, below}
use Rattle.mate_journal.specs.declared.entry.Stamped.{Stamped}
use Rattle.mate_num.specs.declared.store.Store.{Store}
use Rattle.arrayvec.specs.ArrayVec.{ArrayVec}
use Rattle.std.specs.Prelude.{All}
use Rattle.journal_laws.proofs.Apart.{nothing_heard-orderly}
use Rattle.journal_laws.proofs.Order.{ends-in_order}
use Rattle.journal_laws.proofs.Progress.{never-stuck}
use Rattle.node_state.specs.declared.handlers.Held.{Held}
use Rattle.node_state.specs.Programs.{HeldPrograms, held_at}
use Rattle.node_state.proofs.AskLemmas.{writes-what_it_asks}
use Rattle.node_state.specs.declared.parts.Parts.{Parts}
use Rattle.node_state.specs.Meaning.{machine_in}
use Rattle.node_state.specs.Fits.{AreInstalled, ContextsMatch}
use Rattle.node_state.specs.Agrees.{Agrees}
use Rattle.node_state.specs.Keeps.{reading}
use Rattle.mate_journal.specs.Pace.{Pace}
use Rattle.node_state.specs.Pace.{IsPace}
use Rattle.node_state.specs.Starting.{Rests}
use Rattle.node_open.specs.Journal.{KeepsJournal}

grants-of : (d : Description) (s : Parts) → Rests d s → GrantsInOrder (machine_in d) (first_state (machine_in d)) 0 (journal_of s.log.all)
unfolding reading
grants-of d s rests = GrantsInOrder-join (machine_in d) (first_state (machine_in d)) 0 (journal_of s.log.all) rests.order.grants rests.held

pub Forward : (d : Description) (s : Parts) → Rests d s → GoesForward (reading d s.log.all)
unfolding reading
Forward d s rests =
    let m = machine_in d in
    (never-stuck m (first_state m) 0 (journal_of s.log.all) rests.order.keeps.well_formed.follow (grants-of d s rests) (record { numbered = (nothing_heard-orderly m).numbered })).last

-- the calls to devices are in order in each such journal
abbrev pub InOrder : Type 0
InOrder = (m : Machine) (es : List TimedEntry) (device_of : DeviceOf) → WritesWhatItAsks device_of m.meaning → IsWellFormed m (first_state m) es → IsSerial m (first_state m) es
    → GrantsInOrder m (first_state m) 0 es → AsksDevicesInOrder device_of es

pub KeepsJournal-rests : (d : Description) (s : Parts) → InOrder → Rests d s → KeepsJournal d (machine_in d) s.log.all
KeepsJournal-rests d s in_order rests =
    let m = machine_in d in
    let keeps = rests.order.keeps in
    let grants = grants-of d s rests in
    record {
      well_formed = keeps.well_formed;
      serial = keeps.serial;
      stores = keeps.shows;
      grants = grants;
      tidy = keeps.tidy;
      full = keeps.full;
      never_stuck = never-stuck m (first_state m) 0 (journal_of s.log.all) keeps.well_formed.follow grants (record { numbered = (nothing_heard-orderly m).numbered });
      devices = in_order m (journal_of s.log.all) m.device_of (writes-what_it_asks d) keeps.well_formed keeps.serial grants;
      ends_as_posted = ends-in_order m (first_state m) 0 (journal_of s.log.all) keeps.well_formed.follow rests.order.grants (nothing_heard-orderly m);
    }

-- ---- the same log, with other room

module _ (d : Description) (s : Parts) (log : OpenView) (same : IsSameLog log.all s.log.all) (rests : Rests d s) where
  journal-is : journal_of log.all ≡ journal_of s.log.all
  journal-is = journal_of-same s.log.all log.all same

  pub reading-is : reading d log.all ≡ reading d s.log.all
  unfolding reading
  reading-is = ap (state_after_all (machine_in d) (first_state (machine_in d))) journal-is

  along : (P : List TimedEntry → Type 0) → P (journal_of s.log.all) → P (journal_of log.all)
  along P here = subst P (sym journal-is) here

  heard : (P : NodeState → Type 0) → P (reading d s.log.all) → P (reading d log.all)
  heard P here = subst P (sym reading-is) here

  pub Rests-room : Rests d (record s { log = log })
  Rests-room =
      let keeps = rests.order.keeps in
      let m = machine_in d in
      let n = first_state m in
      let entries = ap length same.entries in
      let numbers = keeps.numbers in
      record {
        order = record {
          keeps = record {
            tidy = record {
              in_range = (let P : List Stamped → Type 0 = λ l. All (λ (e : Stamped). IsEntryInRange d e.entry) l in subst P (sym same.entries) keeps.tidy.in_range);
              numbered = record {
                images = ap (names_in image_named) same.entries ∙ keeps.tidy.numbered.images ∙ ap (λ (l : List (ArrayVec ℕ)). below (length l)) (sym same.images);
                stores = ap (names_in store_named) same.entries ∙ keeps.tidy.numbered.stores ∙ ap (λ (l : List Store). below (length l)) (sym same.stores);
              };
              lengths = (let P : List Store → Type 0 = λ l. All (IsStoreOf d) l in subst P (sym same.stores) keeps.tidy.lengths);
              ordered = (let P : List Stamped → Type 0 = λ l. EventsRise entry_event 0 l in subst P (sym same.entries) keeps.tidy.ordered);
            };
            full = record { full = (let P : List (ArrayVec ℕ) → Type 0 = λ l. All (λ (image : ArrayVec ℕ). 0 < length image.items) l in subst P (sym same.images) keeps.full.full) };
            numbers = omega arith;
            well_formed = along (λ es. IsWellFormed m n es) keeps.well_formed;
            posts = heard (λ r. r.posts ≡ s.posts) keeps.posts;
            places = keeps.places;
            installed = heard (λ r. AreInstalled d r.installed (held_at s.handlers.programs)) keeps.installed;
            fits = heard (λ r. ContextsMatch (held_at s.handlers.programs) r s.contexts) keeps.fits;
            seats = keeps.seats;
            lengths = keeps.lengths;
            agrees = heard (λ r. Agrees d r s.contexts s.heap) keeps.agrees;
            serial = along (λ es. IsSerial m n es) keeps.serial;
            shows = along (λ es. ShowsStores m n es) keeps.shows;
          };
          queue = rests.order.queue;
          grants = along (λ es. GrantsBefore m n 0 es) rests.order.grants;
        };
        held = heard (λ r. AllHeldBack m r) rests.held;
      }

  pub IsPace-room : (p : Pace) → IsPace (reading d s.log.all) s.contexts p → IsPace (reading d log.all) s.contexts p
  IsPace-room p pace = heard (λ r. IsPace r s.contexts p) pace

-- ---- the same programs, with other room

pub Rests-programs : (d : Description) (s : Parts) (held : HeldPrograms) → held.programs ≡ s.handlers.programs → Rests d s → Rests d (record s { handlers = held })
Rests-programs d s held same rests =
    let keeps = rests.order.keeps in
    let along : (P : List (Option Held) → Type 0) → P s.handlers.programs → P held.programs = λ P here. subst P (sym same) here in
    record {
      order = record {
        keeps = record {
          tidy = keeps.tidy;
          full = keeps.full;
          numbers = keeps.numbers;
          well_formed = keeps.well_formed;
          posts = keeps.posts;
          places = along (λ ps. length ps ≡ length d.handlers.items) keeps.places;
          installed = along (λ ps. AreInstalled d (reading d s.log.all).installed (held_at ps)) keeps.installed;
          fits = along (λ ps. ContextsMatch (held_at ps) (reading d s.log.all) s.contexts) keeps.fits;
          seats = keeps.seats;
          lengths = keeps.lengths;
          agrees = keeps.agrees;
          serial = keeps.serial;
          shows = keeps.shows;
        };
        queue = rests.order.queue;
        grants = rests.order.grants;
      };
      held = rests.held;
    }
