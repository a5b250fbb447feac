-- Stores that are seen, and steps that do nothing.
use Rattle.std.proofs.Common.{◌≡◌, ℕ, ◌+◌, ◌≤◌, ◌<◌, List, [], ◌∷◌, ◌++◌, length, refl, sym, ap, subst, arith}
use Rattle.std.proofs.Math.Seq.{get_or-append_seam}
use Rattle.mate_num.specs.declared.call.Stamp.{Stamp}
use Rattle.mate_num.specs.declared.store.Store.{Store}
use Rattle.std.specs.Prelude.{All}
use Rattle.arrayvec.specs.ArrayVec.{ArrayVec}
use Rattle.mate_journal.specs.Tidy.{IsStoreOf}
use Rattle.journal_laws.proofs.TidyLemmas.{NumbersInOrder-seen, NamesInLog-numbered, lengths-add}
use Rattle.vm_shape.specs.declared.description.Description.{Description}
use Rattle.mate_journal.specs.declared.entry.Entry.TheVariants as entry
use Rattle.mate_journal.specs.declared.entry.VoidCause.{VoidCause}
use Rattle.mate_journal.specs.declared.entry.DropCause.{DropCause}
use Rattle.mate_num.specs.declared.id.HandlerId.{HandlerId}
use Rattle.mate_journal.specs.Log.{Log}
use Rattle.mate_journal.specs.Journal.{Dropped, Seen, Void}
use Rattle.journal_laws.specs.Growth.{IsPushed, AddsStore}
use Rattle.journal_laws.proofs.Append.{journal_of-add_store}
use Rattle.node_state.specs.Programs.{held_at}
use Rattle.node_state.specs.declared.parts.Parts.{Parts}
use Rattle.node_state.specs.Keeps.{reading, Keeps, IsTimely}
use Rattle.node_state.specs.Continues.{IsPrepared, AddsTidily, Continues}
use Rattle.node_state.proofs.KeepLemmas.{Continues-same}
use Rattle.node_state.proofs.SerialLemmas.{shown}
use Rattle.node_state.specs.Starting.{Rests}
use Rattle.node_calls.specs.Calls.{RestsAgain}
use Rattle.node_calls.proofs.QuietLemmas.{RestsAgain-quiet}
use Rattle.mate_journal.specs.OpenLog.{OpenView}

-- the log with one more store, and an entry that shows it
pub record IsShownIn (l : Log) (store : Store) (at : Stamp) (after : Log) : Type 0 where
  pub entries : after.entries ≡ l.entries ++ record { stamp = at; entry = entry.Seen (length l.stores) } ∷ []
  pub images : after.images ≡ l.images
  pub stores : after.stores ≡ l.stores ++ store ∷ []

module _ (d : Description) (old : Parts) (log : OpenView) (stamp : Stamp) (rests : Rests d old) (timely : IsTimely stamp old.log.all) where
  abbrev keeps : Keeps d old
  keeps = rests.order.keeps

  -- a store is seen
  module _ (is : IsShownIn old.log.all old.heap stamp log.all) where
    abbrev before : Log
    before = record (old.log.all) { stores = old.log.all.stores ++ old.heap ∷ [] }

    adds : AddsStore old.log.all old.heap before
    adds = record { entries = refl; images = refl; stores = refl }

    prepared : IsPrepared old.log.all before
    prepared =
        record { journal = journal_of-add_store old.log.all old.heap before (NamesInLog-numbered old.log.all keeps.tidy.numbered) adds; entries = refl }

    tidily : AddsTidily d old.log.all (entry.Seen (length old.log.all.stores)) log.all
    tidily =
        let S : List Store → Type 0 = λ l. All (IsStoreOf d) l in
        let I : List (ArrayVec ℕ) → Type 0 = λ l. All (λ (image : ArrayVec ℕ). 0 < length image.items) l in
        record {
          in_range = tt;
          numbered = NumbersInOrder-seen old.log.all log.all stamp old.heap is.entries is.images is.stores;
          lengths = λ lengths. subst S (sym is.stores) (lengths-add d old.log.all.stores old.heap (record { shared = keeps.lengths.shared; buffers = keeps.lengths.buffers }) lengths);
          full = λ full. record { full = subst I (sym is.images) full.full };
        }

    pub Continues-seen : Continues d old (record old { log = log }) before stamp (entry.Seen (length old.log.all.stores)) (Seen old.heap)
    Continues-seen =
        let posts = keeps.numbers in
        record {
          prepared = prepared;
          pushed = record { entries = is.entries; images = is.images; stores = is.stores };
          tells = ap Seen (get_or-append_seam old.log.all.stores old.heap [] (record { shared = record { items = [] }; buffers = record { items = [] } }));
          tidily = tidily;
          timely = timely;
          follows = tt;
          ends = tt;
          shown = shown d (reading d old.log.all) old.contexts (held_at old.handlers.programs) old.heap keeps.fits keeps.installed.each keeps.agrees keeps.lengths;
          before_era = tt;
          numbers = omega arith;
          after = record { posts = keeps.posts; places = keeps.places; installed = keeps.installed; fits = keeps.fits; seats = keeps.seats; lengths = keeps.lengths; agrees = keeps.agrees };
        }

    pub RestsAgain-seen : old.log.all.spare ≤ log.all.spare + 1 → RestsAgain d old (record old { log = log }) stamp (λ told. told ≡ Seen old.heap ∷ [])
    RestsAgain-seen room = RestsAgain-quiet d old log before stamp (entry.Seen (length old.log.all.stores)) (Seen old.heap) rests Continues-seen room rests.held refl (λ p. refl)

  -- a step that does nothing
  pub RestsAgain-void : (cause : VoidCause) → IsPushed old.log.all record { stamp = stamp; entry = entry.Void cause } log.all → old.log.all.spare ≤ log.all.spare + 1
      → RestsAgain d old (record old { log = log }) stamp (λ told. told ≡ Void cause ∷ [])
  RestsAgain-void cause pushed room =
      RestsAgain-quiet d old log old.log.all stamp (entry.Void cause) (Void cause) rests (Continues-same d old log stamp (entry.Void cause) (Void cause) keeps timely pushed refl (record { image = refl; store = refl; in_range = tt }) tt tt tt tt refl) room rests.held refl (λ p. refl)

  -- an event that becomes no invocation
  pub RestsAgain-dropped : (h : HandlerId) (cause : DropCause) → h.0 < length d.handlers.items → IsPushed old.log.all record { stamp = stamp; entry = entry.Dropped h cause } log.all → old.log.all.spare ≤ log.all.spare + 1
      → RestsAgain d old (record old { log = log }) stamp (λ told. told ≡ Dropped h cause ∷ [])
  RestsAgain-dropped h cause of_machine pushed room =
      RestsAgain-quiet d old log old.log.all stamp (entry.Dropped h cause) (Dropped h cause) rests (Continues-same d old log stamp (entry.Dropped h cause) (Dropped h cause) keeps timely pushed refl (record { image = refl; store = refl; in_range = of_machine }) tt tt tt tt refl) room rests.held refl (λ p. refl)
