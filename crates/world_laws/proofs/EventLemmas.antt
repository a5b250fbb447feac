-- One event more of a world is one more piece of its report's text.
use Rattle.std.proofs.Common.{◌≡◌, ℕ, zero, suc, ◌+◌, ◌<◌, ◌≤◌, List, [], ◌∷◌, ◌++◌, length, map, get_or, set, take, drop, pred, ◌-◌, ◌≢◌, refl, sym, ◌∙◌, ap, subst, arith, inl, inr, append-nil, append_assoc, length-append}
use Rattle.std.specs.Prelude.{All, flat_map, ◌==◌}
use Rattle.std.proofs.lemmas.Bool.{eq-eqb, cond-true}
use Rattle.std.proofs.lemmas.List.{drop_all, take_all, take-append-drop, length-map, append_cancel_right}
use Rattle.std.proofs.Math.Seq.{take-suc, take-append_seam}
use Rattle.std.proofs.lemmas.List.Elements.{All-nil, All-cons, All-head, All-tail, All-append, All-weaker, All-same, All-take, All-drop, filter-append}
use Rattle.mate_journal.specs.Log.{Log}
use Rattle.mate_journal.specs.Journal.{JournalEntry, journal_entry, journal_of}
use Rattle.mate_journal.specs.Journal.{TimedEntry as Entered}
use Rattle.mate_journal.specs.Tidy.{NumbersInOrder, below, entry_event}
use Rattle.mate_journal.specs.declared.report.Report.{Report}
use Rattle.report_writer.specs.Progress.{air_event, at_event}
use Rattle.report_writer.proofs.EventLemmas.{at_event-none}
use Rattle.mate_journal.specs.declared.air.Aired.{Aired}
use Rattle.mate_journal.specs.declared.entry.Stamped.{Stamped}
use Rattle.journal_laws.proofs.GoesOnLemmas.{GoesOn-journal}
use Rattle.report_writer.specs.Pieces.{AddsPiece, IsBefore, IsNamed}
use Rattle.report_writer.specs.Text.{lines, event_lines, event_piece, air_line, entry_line, entry_lines}
use Rattle.report_writer.proofs.PieceLemmas.{lines-piece, lines-earlier, lines-upto, events_end-le}
use Rattle.vm_shape.specs.declared.description.Description.{Description}
use Rattle.world_rules.specs.World.{World}
use Rattle.world_rules.specs.Effect.{event_node}
use Rattle.world_rules.specs.State.{Moment}
use Rattle.world_rules.specs.Run.{stamp_of, airs, journal}
use Rattle.std.proofs.lemmas.Bool.Decides.{eqb_tells}
use Rattle.world_laws.specs.EventText.{so_far, TellJournals, AddsLines, StartsWithIntervals, EventsAddTheirLines, ShowTheirStores, store_lines, AllLinesStand, StoresAddTheirLines}
use Rattle.world_laws.proofs.Bounds.{stamped-all, journal-upto, airs-upto, airs-new, airs-more, entries-of, entries-new, entries-front, logs-upto, all-named}

abbrev LogUpTo : ℕ → Log → Type 0
LogUpTo n l = All (λ (e : Stamped). e.stamp.event ≤ n) l.entries

abbrev AirUpTo : ℕ → Aired → Type 0
AirUpTo n a = a.stamp.event ≤ n

higher : (n : ℕ) (l : Log) → LogUpTo n l → LogUpTo (suc n) l
higher n l all = All-weaker (λ (e : Stamped). e.stamp.event ≤ n) (λ (e : Stamped). e.stamp.event ≤ suc n) (λ (e : Stamped) (le : e.stamp.event ≤ n). omega (arith, le)) l.entries all

before : (n : ℕ) (l : Log) → LogUpTo n l → IsBefore (suc n) l
before n l all = All-weaker (λ (e : Stamped). e.stamp.event ≤ n) (λ (e : Stamped). e.stamp.event < suc n) (λ (e : Stamped) (le : e.stamp.event ≤ n). omega (arith, le)) l.entries all

air-higher : (n : ℕ) (xs : List Aired) → All (AirUpTo n) xs → All (AirUpTo (suc n)) xs
air-higher n xs all = All-weaker (AirUpTo n) (AirUpTo (suc n)) (λ (a : Aired) (le : a.stamp.event ≤ n). omega (arith, le)) xs all

-- ---- an event

-- the journal of an event's own node
journal-here : (w : World) (m : Moment) (ms : List Moment) → journal w (event_node w m.cause) (m ∷ ms) ≡ journal w (event_node w m.cause) ms ++ map (λ (t : JournalEntry). record { stamp = stamp_of m ms; told = t }) m.told
journal-here w m ms = elim (eqb_tells (event_node w m.cause) (event_node w m.cause)) [ inl same ↦ rw same.0 refl | inr other ↦ absurd (other.1 refl) ]

module _ (w : World) (ms : List Moment) (m : Moment) (logs : List Log) (k : ℕ) (old new : Log) (told : TellJournals w ms logs) (low : k < length logs) (is : get_or logs k old ≡ old)
    (own : event_node w m.cause ≡ k) (old-numbered : NumbersInOrder old) (numbered : NumbersInOrder new) (journal_is : journal_of new ≡ journal w k (m ∷ ms)) where
  more : List Entered
  more = map (λ (t : JournalEntry). record { stamp = stamp_of m ms; told = t }) m.told

  goes : journal_of new ≡ journal_of old ++ more
  unfolding more
  goes =
      journal_is ∙ subst (λ (j : ℕ). journal w j (m ∷ ms) ≡ journal w j ms ++ map (λ (t : JournalEntry). record { stamp = stamp_of m ms; told = t }) m.told) own (journal-here w m ms)
      ∙ ap (λ (es : List Entered). es ++ map (λ (t : JournalEntry). record { stamp = stamp_of m ms; told = t }) m.told) (sym (ap journal_of (sym is) ∙ told k old low))

  of_event : All (λ (e : Stamped). e.stamp.event ≡ suc (length ms)) (drop (length old.entries) new.entries)
  unfolding more
  of_event = entries-new (λ n. n ≡ suc (length ms)) old new more goes (stamped-all (stamp_of m ms) m.told)

  adds : AddsPiece (so_far logs (airs w ms)) (so_far (set logs k new) (airs w (m ∷ ms))) (drop (length (airs w ms)) (airs w (m ∷ ms))) new (length old.entries) k
  adds = record {
    event = suc (length ms);
    before = old;
    within = low;
    is = is;
    goes_on = GoesOn-journal old new more old-numbered numbered goes;
    position = refl;
    named = all-named old old-numbered;
    nodes = refl;
    air = airs-more w m ms;
    of_event = of_event;
    air_of_event = airs-new w m ms;
    up_to = All-weaker (LogUpTo (length ms)) (LogUpTo (suc (length ms))) (λ (l : Log) (all : LogUpTo (length ms) l). higher (length ms) l all) logs (logs-upto w ms logs told);
    air_up_to = air-higher (length ms) (airs w ms) (airs-upto w ms);
    later_nodes = λ j l above below. before (length ms) (get_or logs j l) (logs-upto w ms logs told j l below);
    air_first = inr (All-weaker (LogUpTo (length ms)) (IsBefore (suc (length ms))) (λ (l : Log) (all : LogUpTo (length ms) l). before (length ms) l all) logs (logs-upto w ms logs told));
  }

  event-lines : AddsLines (so_far logs (airs w ms)) (so_far (set logs k new) (airs w (m ∷ ms))) (suc (length ms)) (drop (length (airs w ms)) (airs w (m ∷ ms))) new (length old.entries) k
  unfolding adds
  event-lines = record {
    lines_are = λ d. lines-piece d (so_far logs (airs w ms)) (so_far (set logs k new) (airs w (m ∷ ms))) (drop (length (airs w ms)) (airs w (m ∷ ms))) new (length old.entries) k adds;
    before = λ d. lines-earlier d (so_far logs (airs w ms)) (so_far (set logs k new) (airs w (m ∷ ms))) (drop (length (airs w ms)) (airs w (m ∷ ms))) new (length old.entries) k adds
        (events_end-le (so_far logs (airs w ms)) (length ms) (airs-upto w ms) (logs-upto w ms logs told));
  }

pub events_add : (w : World) → EventsAddTheirLines w
events_add w ms m logs k old new told low is own old-numbered numbered journal_is = event-lines w ms m logs k old new told low is own old-numbered numbered journal_is

-- ---- the start

no-entries : (d : Description) (node : ℕ) (logs : List Log) → All (λ (l : Log). l.entries ≡ []) logs → entry_lines d 0 node logs ≡ []
no-entries d node [] none = refl
no-entries d node (l ∷ logs) none =
    let e : l.entries ≡ [] = none 0 l (omega arith) in
    rw e (no-entries d (suc node) logs (λ i x below. none (suc i) x (omega (arith, below))))

set-same : (logs : List Log) (k : ℕ) (x : Log) → k < length logs → get_or logs k x ≡ x → logs ≡ set logs k x
set-same [] k x low is = absurd (omega (arith, low))
set-same (l ∷ logs) zero x low is = ap (λ (y : Log). y ∷ logs) is
set-same (l ∷ logs) (suc k) x low is = ap (λ (ls : List Log). l ∷ ls) (set-same logs k x (omega (arith, low)) is)

none-upto : (logs : List Log) → All (λ (l : Log). l.entries ≡ []) logs → All (LogUpTo 0) logs
none-upto logs none k l below = All-same (λ (e : Stamped). e.stamp.event ≤ 0) (get_or logs k l).entries [] (none k l below) (All-nil (λ (e : Stamped). e.stamp.event ≤ 0))

module _ (w : World) (d : Description) (logs : List Log) (first : Log) (none : All (λ (l : Log). l.entries ≡ []) logs) (some : 0 < length logs) (is : get_or logs 0 first ≡ first) where
  first-none : first.entries ≡ []
  first-none = ap (λ (l : Log). l.entries) (sym is) ∙ none 0 first some

  start-adds : AddsPiece (so_far logs []) (so_far logs (airs w [])) (airs w []) first 0 0
  start-adds = record {
    event = 0;
    before = first;
    within = some;
    is = is;
    goes_on = record {
      entries = [];
      images = [];
      stores = [];
      entries_are = sym (append-nil first.entries);
      images_are = sym (append-nil first.images);
      stores_are = sym (append-nil first.stores);
    };
    position = sym (ap (λ (es : List Stamped). length es) first-none);
    named = All-same (λ (e : Stamped). IsNamed first e.entry) first.entries [] first-none (All-nil (λ (e : Stamped). IsNamed first e.entry));
    nodes = set-same logs 0 first some is;
    air = refl;
    of_event = All-same (λ (e : Stamped). e.stamp.event ≡ 0) first.entries [] first-none (All-nil (λ (e : Stamped). e.stamp.event ≡ 0));
    air_of_event = All-weaker (AirUpTo 0) (λ (a : Aired). a.stamp.event ≡ 0) (λ (a : Aired) (le : a.stamp.event ≤ 0). omega (arith, le)) (airs w []) (airs-upto w []);
    up_to = none-upto logs none;
    air_up_to = All-nil (AirUpTo 0);
    later_nodes = λ j l above below. All-same (λ (e : Stamped). e.stamp.event < 0) (get_or logs j l).entries [] (none j l below) (All-nil (λ (e : Stamped). e.stamp.event < 0));
    air_first = inr (λ j l below. All-same (λ (e : Stamped). e.stamp.event < 0) (get_or logs j l).entries [] (none j l below) (All-nil (λ (e : Stamped). e.stamp.event < 0)));
  }

  nothing-before : lines d (so_far logs []) ≡ []
  nothing-before = lines-upto d (so_far logs []) 0 (events_end-le (so_far logs []) 0 (All-nil (AirUpTo 0)) (none-upto logs none)) ∙ no-entries d 0 logs none

  start-lines : lines d (so_far logs (airs w [])) ≡ event_piece d (airs w []) first 0 0
  start-lines = lines-piece d (so_far logs []) (so_far logs (airs w [])) (airs w []) first 0 0 start-adds ∙ ap (λ (bs : List ℕ). bs ++ event_piece d (airs w []) first 0 0) nothing-before

pub starts : (w : World) → StartsWithIntervals w
starts w d logs first none some is = start-lines w d logs first none some is

-- ---- the stores at the end

at-later : (news olds : List Log) (k j : ℕ) (l : Log) → length news ≡ length olds → k ≤ j → get_or (take k news ++ drop k olds) j l ≡ get_or olds j l
at-later news olds zero j l same le = refl
at-later [] [] (suc k) j l same le = refl
at-later [] (o ∷ os) (suc k) j l same le = absurd (omega (arith, same))
at-later (n ∷ ns) [] (suc k) j l same le = absurd (omega (arith, same))
at-later (n ∷ ns) (o ∷ os) (suc k) zero l same le = absurd (omega (arith, le))
at-later (n ∷ ns) (o ∷ os) (suc k) (suc j) l same le = at-later ns os k j l (omega (arith, same)) (omega (arith, le))

set-shown : (news olds : List Log) (k : ℕ) (x : Log) → length news ≡ length olds → k < length olds → get_or news k x ≡ x → take (suc k) news ++ drop (suc k) olds ≡ set (take k news ++ drop k olds) k x
set-shown [] [] k x same low is = absurd (omega (arith, low))
set-shown [] (o ∷ os) k x same low is = absurd (omega (arith, same))
set-shown (n ∷ ns) [] k x same low is = absurd (omega (arith, same))
set-shown (n ∷ ns) (o ∷ os) zero x same low is = ap (λ (l : Log). l ∷ os) is
set-shown (n ∷ ns) (o ∷ os) (suc k) x same low is = ap (λ (ls : List Log). n ∷ ls) (set-shown ns os k x (omega (arith, same)) (omega (arith, low)) is)

length-shown : (news olds : List Log) (k : ℕ) → length news ≡ length olds → length (take k news ++ drop k olds) ≡ length olds
length-shown news olds zero same = refl
length-shown [] [] (suc k) same = refl
length-shown [] (o ∷ os) (suc k) same = absurd (omega (arith, same))
length-shown (n ∷ ns) [] (suc k) same = absurd (omega (arith, same))
length-shown (n ∷ ns) (o ∷ os) (suc k) same = let rest = length-shown ns os k (omega (arith, same)) in omega (arith, rest)

-- ---- lists of logs

no_log : Log
no_log = record { entries = []; images = []; stores = []; spare = 0 }

get_or-any : (ls : List Log) (k : ℕ) (x y : Log) → k < length ls → get_or ls k x ≡ get_or ls k y
get_or-any [] k x y low = absurd (omega (arith, low))
get_or-any (l ∷ ls) zero x y low = refl
get_or-any (l ∷ ls) (suc k) x y low = get_or-any ls k x y (omega (arith, low))

pub store_lines-both : (d : Description) (node : ℕ) (xs ys : List Log) → store_lines d node (xs ++ ys) ≡ store_lines d node xs ++ store_lines d (node + length xs) ys
store_lines-both d node [] ys = let e : node ≡ node + 0 = omega arith in ap (λ (n : ℕ). store_lines d n ys) e
store_lines-both d node (l ∷ xs) ys =
    let e : suc node + length xs ≡ node + suc (length xs) = omega arith in
    ap (λ (bs : List ℕ). event_piece d [] l (length l.entries - 1) node ++ bs) (store_lines-both d (suc node) xs ys ∙ ap (λ (n : ℕ). store_lines d (suc node) xs ++ store_lines d n ys) e)
    ∙ sym (append_assoc (event_piece d [] l (length l.entries - 1) node) (store_lines d (suc node) xs) (store_lines d (node + suc (length xs)) ys))

store_lines-append : (d : Description) (node : ℕ) (xs : List Log) (x : Log) → store_lines d node (xs ++ x ∷ []) ≡ store_lines d node xs ++ event_piece d [] x (length x.entries - 1) (node + length xs)
store_lines-append d node [] x =
    let e : node ≡ node + 0 = omega arith in
    append-nil (event_piece d [] x (length x.entries - 1) node) ∙ ap (λ (n : ℕ). event_piece d [] x (length x.entries - 1) n) e
store_lines-append d node (l ∷ xs) x =
    let e : suc node + length xs ≡ node + suc (length xs) = omega arith in
    ap (λ (bs : List ℕ). event_piece d [] l (length l.entries - 1) node ++ bs) (store_lines-append d (suc node) xs x ∙ ap (λ (n : ℕ). store_lines d (suc node) xs ++ event_piece d [] x (length x.entries - 1) n) e)
    ∙ sym (append_assoc (event_piece d [] l (length l.entries - 1) node) (store_lines d (suc node) xs) (event_piece d [] x (length x.entries - 1) (node + suc (length xs))))

pub store_lines-next : (d : Description) (news : List Log) (k : ℕ) (x : Log) → k < length news → get_or news k x ≡ x
    → store_lines d 0 (take (suc k) news) ≡ store_lines d 0 (take k news) ++ event_piece d [] x (length x.entries - 1) k
store_lines-next d news k x low is =
    let long : length (take k news) ≡ k = length-take-of k news (omega (arith, low)) in
    let at : 0 + length (take k news) ≡ k = omega (arith, long) in
    ap (store_lines d 0) (take-suc news k x low ∙ ap (λ (y : Log). take k news ++ y ∷ []) is) ∙ store_lines-append d 0 (take k news) x
    ∙ ap (λ (n : ℕ). store_lines d 0 (take k news) ++ event_piece d [] x (length x.entries - 1) n) at where
      length-take-of : (k : ℕ) (ls : List Log) → k ≤ length ls → length (take k ls) ≡ k
      length-take-of zero ls within = refl
      length-take-of (suc k) [] within = absurd (omega (arith, within))
      length-take-of (suc k) (l ∷ ls) within = let rest = length-take-of k ls (omega (arith, within)) in omega (arith, rest)

-- exactly the entries from position n on are of the event
record SplitsAt (event : ℕ) (l : Log) (n : ℕ) : Type 0 where
  front : All (λ (e : Stamped). e.stamp.event ≤ pred event) (take n l.entries)
  rest : All (λ (e : Stamped). e.stamp.event ≡ event) (drop n l.entries)

abbrev IsLastOf : ℕ → Log → Type 0
IsLastOf event l = SplitsAt event l (length l.entries - 1)

all-of-event : {A : Type 0} (ev : A → ℕ) (event : ℕ) (xs : List A) → All (λ (x : A). ev x ≡ event) xs → at_event ev event xs ≡ xs
all-of-event ev event [] h = refl
all-of-event ev event (x ∷ xs) h =
    cond-true (ev x == event) (x ∷ at_event ev event xs) (at_event ev event xs) (eq-eqb (ev x) event (All-head (λ (y : _). ev y ≡ event) x xs h))
    ∙ ap (λ ys. x ∷ ys) (all-of-event ev event xs (All-tail (λ (y : _). ev y ≡ event) x xs h))

split-at : (event : ℕ) (l : Log) (n : ℕ) → 0 < event → SplitsAt event l n → at_event entry_event event l.entries ≡ drop n l.entries
split-at event l n some s =
    ap (at_event entry_event event) (sym (take-append-drop n l.entries)) ∙ filter-append (λ (e : Stamped). entry_event e == event) (take n l.entries) (drop n l.entries)
    ∙ ap (λ (es : List Stamped). es ++ at_event entry_event event (drop n l.entries))
    (at_event-none entry_event event (take n l.entries) (All-weaker (λ (e : Stamped). e.stamp.event ≤ pred event) (λ (e : Stamped). entry_event e ≢ event) (λ (e : Stamped) (le : e.stamp.event ≤ pred event) (is : entry_event e ≡ event). absurd (omega (arith, some, le, is))) (take n l.entries) s.front))
    ∙ all-of-event entry_event event (drop n l.entries) s.rest

last-lines : (d : Description) (n node : ℕ) (logs : List Log) → All (IsLastOf (suc n)) logs → entry_lines d (suc n) node logs ≡ store_lines d node logs
last-lines d n node [] last = refl
last-lines d n node (l ∷ logs) last =
    ap (λ (es : List Stamped). flat_map (entry_line d l node) es ++ entry_lines d (suc n) (suc node) logs) (split-at (suc n) l (length l.entries - 1) (omega arith) (All-head (IsLastOf (suc n)) l logs last))
    ∙ ap (λ (bs : List ℕ). flat_map (entry_line d l node) (drop (length l.entries - 1) l.entries) ++ bs) (last-lines d n (suc node) logs (All-tail (IsLastOf (suc n)) l logs last))

none-aired : (w : World) (ms : List Moment) → at_event air_event (suc (length ms)) (airs w ms) ≡ []
none-aired w ms = at_event-none air_event (suc (length ms)) (airs w ms) (All-weaker (AirUpTo (length ms)) (λ (a : Aired). air_event a ≢ suc (length ms)) (λ (a : Aired) (le : a.stamp.event ≤ length ms) (is : air_event a ≡ suc (length ms)). absurd (omega (arith, le, is))) (airs w ms) (airs-upto w ms))

-- the first k of them were shown
abbrev shown_up_to : List Log → List Log → ℕ → List Log
shown_up_to olds news k = take k news ++ drop k olds

module _ (w : World) (ms : List Moment) (olds news : List Log) (shows : ShowTheirStores w ms olds news) where
  new-upto : All (LogUpTo (suc (length ms))) news
  new-upto j l below =
      let count = shows.count in
      let s = shows.shown j l (omega (arith, below, count)) in
      entries-of (λ n. n ≤ suc (length ms)) (get_or news j l)
      (All-same (λ (e : Entered). e.stamp.event ≤ suc (length ms)) (journal_of (get_or news j l)) (journal w j ms ++ s.0 ∷ []) s.1
      (All-append (λ (e : Entered). e.stamp.event ≤ suc (length ms)) (journal w j ms) (s.0 ∷ [])
      (All-weaker (λ (e : Entered). e.stamp.event ≤ length ms) (λ (e : Entered). e.stamp.event ≤ suc (length ms)) (λ (e : Entered) (le : e.stamp.event ≤ length ms). omega (arith, le)) (journal w j ms) (journal-upto w j ms))
      (All-cons (λ (e : Entered). e.stamp.event ≤ suc (length ms)) s.0 [] (let same = s.2 in omega (arith, same)) (All-nil (λ (e : Entered). e.stamp.event ≤ suc (length ms))))))

  old-upto : All (LogUpTo (length ms)) olds
  old-upto = logs-upto w ms olds shows.old

  module _ (k : ℕ) (low : k < length olds) where
    old : Log
    old = get_or olds k no_log

    new : Log
    new = get_or news k no_log

    high : k < length news
    high = let count = shows.count in omega (arith, low, count)

    shown : (e : Entered) × (journal_of new ≡ journal w k ms ++ e ∷ []) × (e.stamp.event ≡ suc (length ms))
    unfolding new
    shown = shows.shown k no_log low

    is_old : get_or olds k old ≡ old
    unfolding old
    is_old = get_or-any olds k (get_or olds k no_log) no_log low

    is_new : get_or news k new ≡ new
    unfolding new
    is_new = get_or-any news k (get_or news k no_log) no_log high

    goes-new : journal_of new ≡ journal_of old ++ shown.0 ∷ []
    unfolding old
    goes-new = shown.1 ∙ ap (λ (es : List Entered). es ++ shown.0 ∷ []) (sym (shows.old k no_log low))

    length-new : length new.entries ≡ length old.entries + 1
    length-new =
        let a = length-map old.entries (λ (s : Stamped). let x : Entered = record { stamp = s.stamp; told = journal_entry old s.entry } in x) in
        let b = length-map new.entries (λ (s : Stamped). let x : Entered = record { stamp = s.stamp; told = journal_entry new s.entry } in x) in
        let c = ap (λ (es : List Entered). length es) goes-new ∙ length-append (journal_of old) (shown.0 ∷ []) in
        omega (arith, a, b, c)

    last-new : All (λ (e : Stamped). e.stamp.event ≡ suc (length ms)) (drop (length old.entries) new.entries)
    last-new =
        entries-new (λ n. n ≡ suc (length ms)) old new (shown.0 ∷ []) goes-new
        (All-cons (λ (e : Entered). e.stamp.event ≡ suc (length ms)) shown.0 [] shown.2 (All-nil (λ (e : Entered). e.stamp.event ≡ suc (length ms))))

    stores-add : AddsPiece (so_far (shown_up_to olds news k) (airs w ms)) (so_far (shown_up_to olds news (suc k)) (airs w ms)) [] new (length old.entries) k
    unfolding old new
    stores-add = record {
      event = suc (length ms);
      before = old;
      within = let long = length-shown news olds k shows.count in omega (arith, long, low);
      is = at-later news olds k k old shows.count (omega arith) ∙ is_old;
      goes_on = GoesOn-journal old new (shown.0 ∷ []) (shows.old_numbered k no_log low) (shows.new_numbered k no_log high) goes-new;
      position = refl;
      named = all-named old (shows.old_numbered k no_log low);
      nodes = set-shown news olds k new shows.count low is_new;
      air = sym (append-nil (airs w ms));
      of_event = last-new;
      air_of_event = All-nil (λ (a : Aired). a.stamp.event ≡ suc (length ms));
      up_to = All-append (LogUpTo (suc (length ms))) (take k news) (drop k olds) (All-take (LogUpTo (suc (length ms))) k news new-upto)
          (All-drop (LogUpTo (suc (length ms))) k olds (All-weaker (LogUpTo (length ms)) (LogUpTo (suc (length ms))) (λ (l : Log) (all : LogUpTo (length ms) l). higher (length ms) l all) olds old-upto));
      air_up_to = air-higher (length ms) (airs w ms) (airs-upto w ms);
      later_nodes = λ j l above below.
          let long = length-shown news olds k shows.count in
          subst (IsBefore (suc (length ms))) (sym (at-later news olds k j l shows.count (omega (arith, above)))) (before (length ms) (get_or olds j l) (old-upto j l (omega (arith, below, long))));
      air_first = inl refl;
    }

    one-more : (d : Description) → lines d (so_far (shown_up_to olds news (suc k)) (airs w ms))
        ≡ lines d (so_far (shown_up_to olds news k) (airs w ms)) ++ event_piece d [] new (length new.entries - 1) k
    one-more d =
        lines-piece d (so_far (shown_up_to olds news k) (airs w ms)) (so_far (shown_up_to olds news (suc k)) (airs w ms)) [] new (length old.entries) k stores-add
        ∙ ap (λ (from : ℕ). lines d (so_far (shown_up_to olds news k) (airs w ms)) ++ event_piece d [] new from k) (let long = length-new in omega (arith, long))

  up-to : (d : Description) (k : ℕ) → k ≤ length olds → lines d (so_far (shown_up_to olds news k) (airs w ms)) ≡ lines d (so_far olds (airs w ms)) ++ store_lines d 0 (take k news)
  up-to d zero within = sym (append-nil (lines d (so_far olds (airs w ms))))
  up-to d (suc k) within =
      let low : k < length olds = omega (arith, within) in
      one-more k low d
      ∙ ap (λ (bs : List ℕ). bs ++ event_piece d [] (new k low) (length (new k low).entries - 1) k) (up-to d k (omega (arith, within)))
      ∙ append_assoc (lines d (so_far olds (airs w ms))) (store_lines d 0 (take k news)) (event_piece d [] (new k low) (length (new k low).entries - 1) k)
      ∙ ap (λ (bs : List ℕ). lines d (so_far olds (airs w ms)) ++ bs) (sym (store_lines-next d news k (new k low) (high k low) (is_new k low)))

  all-up-to : (d : Description) → lines d (so_far news (airs w ms)) ≡ lines d (so_far olds (airs w ms)) ++ store_lines d 0 news
  all-up-to d =
      let n : ℕ = length olds in
      let count = shows.count in
      let whole : take n news ≡ news = take_all n news (omega (arith, count)) in
      let none : drop n olds ≡ [] = drop_all n olds (omega arith) in
      let P : List Log → Type 0 = λ ls. lines d (so_far ls (airs w ms)) ≡ lines d (so_far olds (airs w ms)) ++ store_lines d 0 news in
      subst P (ap (λ (ls : List Log). ls ++ drop n olds) whole ∙ ap (λ (ls : List Log). news ++ ls) none ∙ append-nil news)
      (up-to d n (omega arith) ∙ ap (λ (ls : List Log). lines d (so_far olds (airs w ms)) ++ store_lines d 0 ls) whole)

  -- the last event's lines are theirs alone
  same-at : (k : ℕ) (l : Log) (low : k < length olds) → k < length news → get_or news k l ≡ new k low
  unfolding new
  same-at k l low below = get_or-any news k l no_log below

  old-journal : (k : ℕ) (low : k < length olds) → journal_of (old k low) ≡ journal w k ms
  unfolding old
  old-journal k low = shows.old k no_log low

  last-of : (k : ℕ) (low : k < length olds) → IsLastOf (suc (length ms)) (new k low)
  last-of k low =
      let at : length (new k low).entries - 1 ≡ length (old k low).entries = let long = length-new k low in omega (arith, long) in
      subst (λ (n : ℕ). SplitsAt (suc (length ms)) (new k low) n) (sym at) (record {
        front = entries-front (λ n. n ≤ length ms) (old k low) (new k low) ((shown k low).0 ∷ []) (goes-new k low)
            (All-same (λ (e : Entered). e.stamp.event ≤ length ms) (journal_of (old k low)) (journal w k ms) (old-journal k low) (journal-upto w k ms));
        rest = last-new k low;
      })

  is-last : All (IsLastOf (suc (length ms))) news
  is-last k l below =
      let count = shows.count in
      let low : k < length olds = omega (arith, below, count) in
      subst (IsLastOf (suc (length ms))) (sym (same-at k l low below)) (last-of k low)

  stands-last : (d : Description) → lines d (so_far olds (airs w ms)) ≡ flat_map (event_lines d (so_far news (airs w ms))) (below (suc (length ms)))
  stands-last d =
      let r : Report = so_far news (airs w ms) in
      let all : lines d r ≡ flat_map (event_lines d r) (below (suc (length ms))) ++ event_lines d r (suc (length ms)) =
      lines-upto d r (suc (length ms)) (events_end-le r (suc (length ms)) (air-higher (length ms) (airs w ms) (airs-upto w ms)) new-upto) in
      let own : event_lines d r (suc (length ms)) ≡ store_lines d 0 news =
      ap (λ (xs : List Aired). flat_map air_line xs ++ entry_lines d (suc (length ms)) 0 news) (none-aired w ms) ∙ last-lines d (length ms) 0 news is-last in
      append_cancel_right (lines d (so_far olds (airs w ms))) (flat_map (event_lines d r) (below (suc (length ms)))) (store_lines d 0 news)
      (sym (all-up-to d) ∙ all ∙ ap (λ (bs : List ℕ). flat_map (event_lines d r) (below (suc (length ms))) ++ bs) own)

pub stores_add : (w : World) → StoresAddTheirLines w
stores_add w ms olds news shows d = (all-up-to w ms olds news shows d, stands-last w ms olds news shows d)

-- ---- all lines

pub all_stand : (w : World) → AllLinesStand w
all_stand w ms logs told d = lines-upto d (so_far logs (airs w ms)) (length ms) (events_end-le (so_far logs (airs w ms)) (length ms) (airs-upto w ms) (logs-upto w ms logs told))
