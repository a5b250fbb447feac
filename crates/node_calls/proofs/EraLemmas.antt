-- The beginning of an era: all live invocations are cut, and the store is as at first.
use Rattle.std.proofs.Common.{◌≡◌, ℕ, ◌+◌, ◌≤◌, Bool, true, false, List, [], ◌∷◌, ◌++◌, Some, None, length, map, refl, sym, ◌∙◌, ap, subst, arith}
use Rattle.std.proofs.Math.ListN.{length-replicate}
use Rattle.mate_num.specs.Store.{zero_store}
use Rattle.mate_num.specs.declared.call.Stamp.{Stamp}
use Rattle.mate_num.specs.declared.store.Store.{Store}
use Rattle.vm_shape.specs.declared.description.Description.{Description}
use Rattle.vm_shape.specs.Shapes.{shape_of}
use Rattle.mate_journal.specs.declared.entry.Entry.{Entry}
use Rattle.mate_journal.specs.declared.entry.Entry.TheVariants as entry
use Rattle.mate_journal.specs.Log.{Log}
use Rattle.mate_journal.specs.Journal.{JournalEntry, Reset, Seen, journal_entry, Phase, is_live, is_started, Invocation, NodeState, next_state, journal_of}
use Rattle.mate_journal.specs.Grants.{AllHeldBack, IsGranted}
use Rattle.mate_journal.specs.NodeScript.{Resets}
use Rattle.mate_journal.specs.Serial.{EndsAsRun}
use Rattle.mate_journal.specs.Stores.{ShowsStore, IsSeenBefore}
use Rattle.mate_journal.specs.WellFormed.{MayFollow}
use Rattle.journal_laws.specs.Growth.{IsPushed, last_is_seen}
use Rattle.journal_laws.proofs.Append.{last_is_seen-push}
use Rattle.journal_laws.proofs.Moves.{Cuts}
use Rattle.exec_unit.specs.Step.{HasLengths}
use Rattle.node_state.specs.At.{At, AreIdle}
use Rattle.node_state.specs.Programs.{HeldPrograms, held_at}
use Rattle.node_state.specs.declared.parts.Parts.{Parts}
use Rattle.node_state.specs.Meaning.{machine_in}
use Rattle.node_state.specs.Fits.{AreInstalled}
use Rattle.node_state.specs.Keeps.{reading, Keeps, IsTimely, Grows, event_at}
use Rattle.node_state.specs.Continues.{IsPrepared, AddsTidily, Continues}
use Rattle.node_state.proofs.SerialLemmas.{started-live}
use Rattle.node_state.proofs.KeepLemmas.{IsPrepared-same, AddsTidily-plain}
use Rattle.node_state.proofs.MoveLemmas.{Fits-idle, cut-dead}
use Rattle.node_state.proofs.StartLemmas.{Agrees-idle}
use Rattle.node_state.specs.Queue.{invocation_in}
use Rattle.mate_journal.specs.Pace.{Pace, paced}
use Rattle.node_state.specs.Pace.{IsPace}
use Rattle.node_state.specs.Starting.{last_started, Rests}
use Rattle.node_state.proofs.OrderLemmas.{KeepsOrder-push, heard-by, grows-by, IsQueue-idle}
use Rattle.node_calls.specs.Calls.{RestsAgain, AtPace, TellsStore, IsCleared}
use Rattle.node_calls.proofs.QuietLemmas.{RestsAgain-then}
use Rattle.mate_journal.specs.OpenLog.{OpenView}

-- the last entry shows a store
pub seen-last : (old new : Log) (at_ : Stamp) (told : List JournalEntry) (store : Store) → Grows old new at_ told → told ≡ Seen store ∷ [] → last_is_seen false (journal_of new) ≡ true
seen-last old new at_ told store grows is =
    let journal : journal_of new ≡ journal_of old ++ event_at at_ (Seen store) ∷ [] = grows.journal ∙ ap (λ (ts : List JournalEntry). journal_of old ++ map (event_at at_) ts) is in
    ap (last_is_seen false) journal ∙ last_is_seen-push false (journal_of old) (event_at at_ (Seen store))

-- one entry was told, in one place at most
pub told-one : (old new : Log) (at_ : Stamp) (told : List JournalEntry) (one : JournalEntry) → Grows old new at_ told → told ≡ one ∷ [] → (length new.entries ≡ length old.entries + 1) × (old.spare ≤ new.spare + 1)
told-one old new at_ told one grows is =
    let P : List JournalEntry → Type 0 = λ ts. (length new.entries ≡ length old.entries + length ts) × (old.spare ≤ new.spare + length ts) in
    subst P is (grows.count, grows.spare)

-- what is told begins an era
pub record BeginsEra (d : Description) (r : NodeState) (told : JournalEntry) : Type 0 where
  pub serial : (next_state (machine_in d) r told).serial ≡ (machine_in d).zero_store
  pub cuts : Cuts r (next_state (machine_in d) r told)
  pub follows : MayFollow (machine_in d) r told
  pub ends : EndsAsRun (machine_in d) r told
  pub shown : ShowsStore (machine_in d) r told
  pub granted : AllHeldBack (machine_in d) r → (last : ℕ) → IsGranted (machine_in d) r last told
  pub before_era : IsSeenBefore true told
  pub line : (p : Pace) → (paced p told).line ≡ []

module _ (d : Description) (old new : Parts) (before : Log) (stamp : Stamp) (e : Entry) (told : JournalEntry) (rests : Rests d old) (timely : IsTimely stamp old.log.all) (era : BeginsEra d (reading d old.log.all) told)
    (seen : last_is_seen false (journal_of old.log.all) ≡ true) (idles : AreIdle new.contexts) (seats : length new.contexts.seats ≡ length old.contexts.seats) (zero : new.heap ≡ zero_store (length d.shared.items) (length d.buffers.items)) (posts : new.posts ≡ old.posts)
    (places : length new.handlers.programs ≡ length d.handlers.items)
    (installed : AreInstalled d (next_state (machine_in d) (reading d old.log.all) told).installed (held_at new.handlers.programs))
    (prepared : IsPrepared old.log.all before) (pushed : IsPushed before record { stamp = stamp; entry = e } new.log.all) (tells : journal_entry before e ≡ told) (tidily : AddsTidily d old.log.all e new.log.all)
    (room : old.log.all.spare ≤ new.log.all.spare + 1) where
  abbrev r : NodeState
  r = reading d old.log.all

  abbrev later : NodeState
  later = next_state (machine_in d) (reading d old.log.all) told

  abbrev keeps : Keeps d old
  keeps = rests.order.keeps

  dead : (n : ℕ) → is_live (later.invocations n).phase ≡ false
  dead n = ap (λ (i : Invocation). is_live i.phase) (era.cuts.each n) ∙ cut-dead (r.invocations n)

  unstarted : (p : Phase) → is_live p ≡ false → (b : Bool) → is_started p ≡ b → is_started p ≡ false
  unstarted p none true is = absurd (let f : false ≡ true = sym none ∙ started-live p is in cc)
  unstarted p none false is = is

  lengths-now : HasLengths (shape_of d) new.heap
  lengths-now = let H : Store → Type 0 = λ x. HasLengths (shape_of d) x in subst H (sym zero) (record { shared = length-replicate _ _; buffers = length-replicate _ _ })

  pub Continues-era : Continues d old new before stamp e told
  Continues-era =
      let few = keeps.numbers in
      let P : _ → Type 0 = λ b. IsSeenBefore b told in
      record {
        prepared = prepared;
        pushed = pushed;
        tells = tells;
        tidily = tidily;
        timely = timely;
        follows = era.follows;
        ends = era.ends;
        shown = era.shown;
        before_era = subst P (sym seen) era.before_era;
        numbers = omega arith;
        after = record {
          posts = era.cuts.posts ∙ keeps.posts ∙ sym posts;
          places = places;
          installed = installed;
          fits = Fits-idle (held_at new.handlers.programs) later new.contexts idles dead;
          seats = let was = keeps.seats in omega (arith, was, seats);
          lengths = lengths-now;
          agrees = Agrees-idle d later new.contexts new.heap idles (zero ∙ sym era.serial) (λ n. unstarted (later.invocations n).phase (dead n) (is_started (later.invocations n).phase) refl);
        };
      }

  heard-is : reading d new.log.all ≡ later
  heard-is = heard-by d old new before stamp e told rests.order Continues-era room

  held-now : AllHeldBack (machine_in d) later
  held-now n queued_ = absurd (let f : false ≡ true = sym (dead n) ∙ ap is_live queued_ in cc)

  pace-now : (p : Pace) → IsPace later new.contexts (paced p told)
  pace-now p = record {
    line = era.line p ∙ ap (map (invocation_in new.contexts)) (sym idles.ring);
    counts = λ c t e started. absurd (let f : None ≡ Some t = ap (λ (a : At). a.seat) (sym (idles.each c)) ∙ e in cc);
  }

  pub RestsAgain-era : RestsAgain d old new stamp (λ xs. xs ≡ told ∷ [])
  RestsAgain-era = record {
    adds = record { told = told ∷ []; grows = grows-by d old new before stamp e told rests.order Continues-era room; made = refl };
    rests = record {
      order = KeepsOrder-push d old new before stamp e told rests.order Continues-era room (era.granted rests.held (last_started old.log.all)) (IsQueue-idle new.contexts idles);
      held = (let P : NodeState → Type 0 = λ q. AllHeldBack (machine_in d) q in subst P (sym heard-is) held-now);
    };
    pace = λ p pace. (let P : NodeState → Type 0 = λ q. IsPace q new.contexts (paced p told) in subst P (sym heard-is) (pace-now p));
  }

-- a reset does
pub BeginsEra-reset : (d : Description) (r : NodeState) → BeginsEra d r Reset
BeginsEra-reset d r = record {
  serial = refl;
  cuts = record { posts = refl; each = λ n. refl };
  follows = tt;
  ends = tt;
  shown = tt;
  granted = λ held last. held;
  before_era = refl;
  line = λ p. refl;
}

pub RestsAgain-reset : (d : Description) (old new : Parts) (stamp : Stamp) → Rests d old → IsTimely stamp old.log.all → last_is_seen false (journal_of old.log.all) ≡ true → AreIdle new.contexts
    → length new.contexts.seats ≡ length old.contexts.seats → new.heap ≡ zero_store (length d.shared.items) (length d.buffers.items) → new.posts ≡ old.posts → new.handlers ≡ old.handlers → IsPushed old.log.all record { stamp = stamp; entry = entry.Reset } new.log.all
    → old.log.all.spare ≤ new.log.all.spare + 1 → RestsAgain d old new stamp (λ xs. xs ≡ Reset ∷ [])
RestsAgain-reset d old new stamp rests timely seen idles seats zero posts handlers pushed room =
    let P : _ → Type 0 = λ h. AreInstalled d (reading d old.log.all).installed (held_at h.programs) in
    RestsAgain-era d old new old.log.all stamp entry.Reset Reset rests timely (BeginsEra-reset d (reading d old.log.all)) seen idles seats zero posts (ap (λ (h : HeldPrograms). length h.programs) handlers ∙ rests.order.keeps.places) (subst P (sym handlers) rests.order.keeps.installed)
    (IsPrepared-same old.log.all) pushed refl (AddsTidily-plain d old.log.all new.log.all stamp entry.Reset pushed (record { image = refl; store = refl; in_range = tt })) room

-- the store is told, all is cleared, and the reset is told
pub RestsAgain-resets : (d : Description) (old mid next : Parts) (log : OpenView) (at_ : Stamp) → TellsStore d old mid at_ → IsCleared d mid next → IsPushed next.log.all record { stamp = at_; entry = entry.Reset } log.all → next.log.all.spare ≤ log.all.spare + 1
    → RestsAgain d old (record next { log = log }) at_ (AtPace d old (Resets (machine_in d) (reading d old.log.all)))
RestsAgain-resets d old mid next log at_ told cleared pushed room =
    let log_is : next.log.all ≡ mid.log.all = ap (λ (s : Parts). s.log.all) cleared.same in
    let P : Log → Type 0 = λ l. IsPushed l record { stamp = at_; entry = entry.Reset } log.all in
    let Q : Log → Type 0 = λ l. l.spare ≤ log.all.spare + 1 in
    let last = seen-last old.log.all mid.log.all at_ told.again.adds.told old.heap told.again.adds.grows told.again.adds.made in
    RestsAgain-then d old mid (record next { log = log }) at_ (λ ts. ts ≡ Seen old.heap ∷ []) (λ ts. ts ≡ Reset ∷ []) (AtPace d old (Resets (machine_in d) (reading d old.log.all))) told.again
    (RestsAgain-reset d mid (record next { log = log }) at_ told.again.rests told.again.adds.grows.timely last cleared.idle cleared.seats cleared.zero (ap (λ (s : Parts). s.posts) cleared.same) (ap (λ (s : Parts). s.handlers) cleared.same)
    (subst P log_is pushed) (subst Q log_is room))
    (λ xs ys e f p has. record { seen = old.heap; shown = told.shown p has; made = ap (λ (l : List JournalEntry). l ++ ys) e ∙ ap (λ (l : List JournalEntry). Seen old.heap ∷ l) f })
