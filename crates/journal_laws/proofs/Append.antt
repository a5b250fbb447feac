-- How a journal grows: what a rule owes at one more entry, at what was heard before it.
use Rattle.std.proofs.Common.{◌≡◌, ◌<◌, ℕ, Bool, false, List, [], ◌∷◌, ◌++◌, length, map, refl, sym, ◌∙◌, ap, subst, arith}
use Rattle.std.specs.Prelude.{slice_index_or}
use Rattle.std.proofs.Math.ListN.{get_or-append}
use Rattle.std.proofs.lemmas.List.{map-append, append-nil}
use Rattle.std.proofs.lemmas.List.Sums.{fold-append}
use Rattle.arrayvec.specs.ArrayVec.{ArrayVec}
use Rattle.mate_num.specs.declared.call.Stamp.{Stamp}
use Rattle.mate_num.specs.declared.store.Store.{Store}
use Rattle.mate_num.proofs.ListLemmas.{along-push, along-parts}
use Rattle.mate_journal.specs.Log.{Log, IsSameLog, IsEmpty}
use Rattle.mate_journal.specs.Machine.{Machine}
use Rattle.mate_journal.specs.Journal.{JournalEntry, Installed, Seen, TimedEntry, journal_entry, journal_of, NodeState, next_state, state_after_all, AtEachEntry, AtEachPlace}
use Rattle.mate_journal.specs.WellFormed.{MayFollow, NotBefore, StampsRise, IsWellFormed}
use Rattle.mate_journal.specs.Serial.{EndsAsRun, RunsSoFar, IsSerial}
use Rattle.mate_journal.specs.Stores.{ShowsStore, ShowsStores, is_seen, IsSeenBefore}
use Rattle.mate_journal.specs.Grants.{AllHeldBack, IsGranted, started_number, GrantsInOrder}
pub use Rattle.mate_journal.proofs.JournalLemmas.{heard_all-append}
use Rattle.journal_laws.specs.Growth.{event_of, IsNamedBelow, AreNamedBelow, NamesInLog, IsPushed, AddsImage, AddsStore, last_stamp, FollowsLast, last_start, last_is_seen, GrantsBefore}
use Rattle.mate_journal.specs.declared.entry.Entry.{Entry}
use Rattle.mate_journal.specs.declared.entry.Entry.TheVariants as entry
use Rattle.mate_journal.specs.declared.entry.Stamped.{Stamped}

-- ---- what was heard

pub heard_all-push : (m : Machine) (r : NodeState) (es : List TimedEntry) (e : TimedEntry) → state_after_all m r (es ++ e ∷ []) ≡ next_state m (state_after_all m r es) e.told
heard_all-push m r es e = heard_all-append m r es (e ∷ [])

-- ---- a rule for each entry

pub AtEachEntry-back : (Rule : NodeState → JournalEntry → Type 0) (m : Machine) (r : NodeState) (es fs : List TimedEntry) → AtEachEntry Rule m r (es ++ fs) → AtEachEntry Rule m (state_after_all m r es) fs
AtEachEntry-back Rule m r es fs all = (along-parts _ _ r es fs all).1

-- ---- a fact at each place

pub AtEachPlace-first : (Fact : NodeState → Type 0) (m : Machine) (r : NodeState) (es : List TimedEntry) → AtEachPlace Fact m r es → Fact r
AtEachPlace-first Fact m r [] all = all
AtEachPlace-first Fact m r (e ∷ es) all = all.0

pub AtEachPlace-last : (Fact : NodeState → Type 0) (m : Machine) (r : NodeState) (es : List TimedEntry) → AtEachPlace Fact m r es → Fact (state_after_all m r es)
AtEachPlace-last Fact m r [] all = all
AtEachPlace-last Fact m r (e ∷ es) all = AtEachPlace-last Fact m (next_state m r e.told) es all.1

pub AtEachPlace-push : (Fact : NodeState → Type 0) (m : Machine) (r : NodeState) (es : List TimedEntry) (e : TimedEntry)
    → AtEachPlace Fact m r es → Fact (next_state m (state_after_all m r es) e.told) → AtEachPlace Fact m r (es ++ e ∷ [])
AtEachPlace-push Fact m r [] e first last = (first, last)
AtEachPlace-push Fact m r (x ∷ es) e first last = (first.0, AtEachPlace-push Fact m (next_state m r x.told) es e first.1 last)

pub AtEachPlace-back : (Fact : NodeState → Type 0) (m : Machine) (r : NodeState) (es fs : List TimedEntry) → AtEachPlace Fact m r (es ++ fs) → AtEachPlace Fact m (state_after_all m r es) fs
AtEachPlace-back Fact m r [] fs all = all
AtEachPlace-back Fact m r (e ∷ es) fs all = AtEachPlace-back Fact m (next_state m r e.told) es fs all.1

-- ---- stamps

pub last_stamp-append : (before : Stamp) (es fs : List TimedEntry) → last_stamp before (es ++ fs) ≡ last_stamp (last_stamp before es) fs
last_stamp-append before es fs = fold-append (λ last e. e.stamp) before es fs

-- before any stamp there is event 0 at time 0
abbrev pub start : Stamp
start = record { event = 0; time = 0 }

pub NotBefore-same : (at : Stamp) → NotBefore at at
NotBefore-same at = record { event = omega arith; time = omega arith; same = λ _. refl }

pub StampsRise-push : (es : List TimedEntry) (e : TimedEntry) → StampsRise es → FollowsLast es e.stamp → StampsRise (es ++ e ∷ [])
StampsRise-push [] e rise last = tt
StampsRise-push (x ∷ es) e rise last = along-push _ _ x.stamp es e rise last

-- the last one's own stamp may come again
pub FollowsLast-push : (es : List TimedEntry) (e : TimedEntry) → FollowsLast (es ++ e ∷ []) e.stamp
FollowsLast-push [] e = NotBefore-same e.stamp
FollowsLast-push (x ∷ es) e =
    let P : Stamp → Type 0 = λ last. NotBefore last e.stamp in
    subst P (sym (last_stamp-append x.stamp es (e ∷ []))) (NotBefore-same e.stamp)

pub FollowsLast-from : (es : List TimedEntry) (at : Stamp) → NotBefore (last_stamp start es) at → FollowsLast es at
FollowsLast-from [] at last = tt
FollowsLast-from (e ∷ es) at last = last

-- one that may come after whatever another may come after
pub FollowsLast-later : (es : List TimedEntry) (a b : Stamp) → ((last : Stamp) → NotBefore last a → NotBefore last b) → FollowsLast es a → FollowsLast es b
FollowsLast-later [] a b later last = tt
FollowsLast-later (e ∷ es) a b later last = later (last_stamp e.stamp es) last

-- ---- stores seen before eras

pub last_is_seen-push : (seen : Bool) (es : List TimedEntry) (e : TimedEntry) → last_is_seen seen (es ++ e ∷ []) ≡ is_seen e.told
last_is_seen-push seen es e = fold-append (λ just_seen e. is_seen e.told) seen es (e ∷ [])

-- ---- grants

pub GrantsBefore-push : (m : Machine) (r : NodeState) (last : ℕ) (es : List TimedEntry) (e : TimedEntry)
    → GrantsBefore m r last es → IsGranted m (state_after_all m r es) (last_start last es) e.told → GrantsBefore m r last (es ++ e ∷ [])
GrantsBefore-push m r last [] e first here = (here, tt)
GrantsBefore-push m r last (x ∷ es) e first here = (first.0, GrantsBefore-push m (next_state m r x.told) (started_number x.told) es e first.1 here)

-- the rule along a journal is the rule before each entry, and at the end
pub GrantsInOrder-join : (m : Machine) (r : NodeState) (last : ℕ) (es : List TimedEntry) → GrantsBefore m r last es → AllHeldBack m (state_after_all m r es) → GrantsInOrder m r last es
GrantsInOrder-join m r last [] before held = held
GrantsInOrder-join m r last (e ∷ es) before held = (before.0, GrantsInOrder-join m (next_state m r e.told) (started_number e.told) es before.1 held)

pub GrantsInOrder-before : (m : Machine) (r : NodeState) (last : ℕ) (es : List TimedEntry) → GrantsInOrder m r last es → GrantsBefore m r last es
GrantsInOrder-before m r last [] all = tt
GrantsInOrder-before m r last (e ∷ es) all = (all.0, GrantsInOrder-before m (next_state m r e.told) (started_number e.told) es all.1)

pub GrantsInOrder-last : (m : Machine) (r : NodeState) (last : ℕ) (es : List TimedEntry) → GrantsInOrder m r last es → AllHeldBack m (state_after_all m r es)
GrantsInOrder-last m r last [] all = all
GrantsInOrder-last m r last (e ∷ es) all = GrantsInOrder-last m (next_state m r e.told) (started_number e.told) es all.1

pub GrantsBefore-front : (m : Machine) (r : NodeState) (last : ℕ) (es fs : List TimedEntry) → GrantsBefore m r last (es ++ fs) → GrantsBefore m r last es
GrantsBefore-front m r last [] fs all = tt
GrantsBefore-front m r last (e ∷ es) fs all = (all.0, GrantsBefore-front m (next_state m r e.told) (started_number e.told) es fs all.1)

pub GrantsBefore-back : (m : Machine) (r : NodeState) (last : ℕ) (es fs : List TimedEntry) → GrantsBefore m r last (es ++ fs) → GrantsBefore m (state_after_all m r es) (last_start last es) fs
GrantsBefore-back m r last [] fs all = all
GrantsBefore-back m r last (e ∷ es) fs all = GrantsBefore-back m (next_state m r e.told) (started_number e.told) es fs all.1

pub last_start-push : (last : ℕ) (es : List TimedEntry) (e : TimedEntry) → last_start last (es ++ e ∷ []) ≡ started_number e.told
last_start-push last es e = fold-append (λ last e. started_number e.told) last es (e ∷ [])

-- ---- whole journals

pub IsWellFormed-push : (m : Machine) (r : NodeState) (es : List TimedEntry) (e : TimedEntry)
    → IsWellFormed m r es → FollowsLast es e.stamp → MayFollow m (state_after_all m r es) e.told → IsWellFormed m r (es ++ e ∷ [])
IsWellFormed-push m r es e right time follows = record {
  in_time = StampsRise-push es e right.in_time time;
  follow = along-push _ _ r es e right.follow follows;
}

pub IsSerial-push : (m : Machine) (r : NodeState) (es : List TimedEntry) (e : TimedEntry)
    → IsSerial m r es → EndsAsRun m (state_after_all m r es) e.told → RunsSoFar m (next_state m (state_after_all m r es) e.told) → IsSerial m r (es ++ e ∷ [])
IsSerial-push m r es e serial ends runs = record {
  ends = along-push _ _ r es e serial.ends ends;
  so_far = AtEachPlace-push (RunsSoFar m) m r es e serial.so_far runs;
}

pub ShowsStores-push : (m : Machine) (r : NodeState) (es : List TimedEntry) (e : TimedEntry)
    → ShowsStores m r es → ShowsStore m (state_after_all m r es) e.told → IsSeenBefore (last_is_seen false es) e.told → ShowsStores m r (es ++ e ∷ [])
ShowsStores-push m r es e shows shown before = record {
  shown = along-push _ _ r es e shows.shown shown;
  before_eras = along-push _ _ false es e shows.before_eras before;
}

-- ---- the journal of a log

abbrev events_of : Log → List Stamped → List TimedEntry
events_of l entries = map (λ s. event_of l s) entries

-- the images and stores of a log stand in front of those of another
record IsLonger (l after : Log) : Type 0 where
  images : List (ArrayVec ℕ)
  stores : List Store
  images_are : after.images ≡ l.images ++ images
  stores_are : after.stores ≡ l.stores ++ stores

at_longer : {A : Type 0} (xs ys more : List A) (d : A) (n : ℕ) → ys ≡ xs ++ more → n < length xs → slice_index_or ys n d ≡ slice_index_or xs n d
at_longer {A} xs ys more d n is below = subst (λ (zs : List A). slice_index_or zs n d ≡ slice_index_or xs n d) (sym is) (get_or-append xs more d n below)

told_of-longer : (l after : Log) (e : Entry) → IsLonger l after → IsNamedBelow (length l.images) (length l.stores) e → journal_entry after e ≡ journal_entry l e
told_of-longer l after (entry.Install h version image) longer named =
    ap (λ (i : ArrayVec ℕ). Installed (record { handler = h; version = version; image = i }))
    (at_longer l.images after.images longer.images (record { items = [] }) image longer.images_are named)
told_of-longer l after (entry.Seen store) longer named =
    ap Seen (at_longer l.stores after.stores longer.stores (record { shared = record { items = [] }; buffers = record { items = [] } }) store longer.stores_are named)
told_of-longer l after _ longer named = refl

events_of-longer : (l after : Log) (entries : List Stamped) → IsLonger l after → AreNamedBelow (length l.images) (length l.stores) entries → events_of after entries ≡ events_of l entries
events_of-longer l after [] longer named = refl
events_of-longer l after (s ∷ entries) longer named =
    ap (λ (told : JournalEntry). record { stamp = s.stamp; told = told } ∷ events_of after entries) (told_of-longer l after s.entry longer named.0)
    ∙ ap (λ (es : List TimedEntry). event_of l s ∷ es) (events_of-longer l after entries longer named.1)

-- a log that has the same images and stores tells the same of each entry
told_of-same : (l after : Log) (e : Entry) → after.images ≡ l.images → after.stores ≡ l.stores → journal_entry after e ≡ journal_entry l e
told_of-same l after (entry.Install h version image) images stores =
    ap (λ (all : List (ArrayVec ℕ)). Installed (record { handler = h; version = version; image = slice_index_or all image (record { items = [] }) })) images
told_of-same l after (entry.Seen store) images stores =
    ap (λ (all : List Store). Seen (slice_index_or all store (record { shared = record { items = [] }; buffers = record { items = [] } }))) stores
told_of-same l after _ images stores = refl

events_of-same : (l after : Log) (entries : List Stamped) → after.images ≡ l.images → after.stores ≡ l.stores → events_of after entries ≡ events_of l entries
events_of-same l after [] images stores = refl
events_of-same l after (s ∷ entries) images stores =
    ap (λ (told : JournalEntry). record { stamp = s.stamp; told = told } ∷ events_of after entries) (told_of-same l after s.entry images stores)
    ∙ ap (λ (es : List TimedEntry). event_of l s ∷ es) (events_of-same l after entries images stores)

-- one more entry tells one more event
pub journal_of-push : (l : Log) (s : Stamped) (after : Log) → IsPushed l s after → journal_of after ≡ journal_of l ++ event_of l s ∷ []
journal_of-push l s after pushed =
    ap (λ (entries : List Stamped). events_of after entries) pushed.entries
    ∙ events_of-same l after (l.entries ++ s ∷ []) pushed.images pushed.stores
    ∙ map-append (λ s. event_of l s) l.entries (s ∷ [])

-- one more image, or store, changes nothing of what was told
pub journal_of-add_image : (l : Log) (image : ArrayVec ℕ) (after : Log) → NamesInLog l → AddsImage l image after → journal_of after ≡ journal_of l
journal_of-add_image l image after names adds =
    ap (λ (entries : List Stamped). events_of after entries) adds.entries
    ∙ events_of-longer l after l.entries
    (record { images = image ∷ []; stores = []; images_are = adds.images; stores_are = adds.stores ∙ sym (append-nil l.stores) })
    names.named

pub journal_of-add_store : (l : Log) (store : Store) (after : Log) → NamesInLog l → AddsStore l store after → journal_of after ≡ journal_of l
journal_of-add_store l store after names adds =
    ap (λ (entries : List Stamped). events_of after entries) adds.entries
    ∙ events_of-longer l after l.entries
    (record { images = []; stores = store ∷ []; images_are = adds.images ∙ sym (append-nil l.images); stores_are = adds.stores })
    names.named

pub journal_of-same : (l after : Log) → IsSameLog after l → journal_of after ≡ journal_of l
journal_of-same l after same =
    ap (λ (entries : List Stamped). events_of after entries) same.entries ∙ events_of-same l after l.entries same.images same.stores

pub journal_of-empty : (l : Log) → IsEmpty l → journal_of l ≡ []
journal_of-empty l nothing = ap (λ (entries : List Stamped). events_of l entries) nothing.entries
