-- The marks of a report: each is of the start, of an event, or of the stores that are seen last.
use Rattle.std.proofs.Common.{◌≡◌, ℕ, suc, ◌+◌, ◌<◌, ◌≤◌, false, List, [], ◌∷◌, ◌++◌, map, length, refl, sym, ◌∙◌, ap, subst, arith, inl, inr, ◌⊎◌}
use Rattle.std.specs.Prelude.{All, IsSomeAnd, IsTrue, is_some, slice_get}
use Rattle.std.proofs.lemmas.Bool.Decides.{eqb_tells}
use Rattle.std.proofs.lemmas.List.Elements.{All-nil, All-cons, All-append, All-map, All-same, All-weaker}
use Rattle.mate_num.specs.declared.call.Stamp.{Stamp}
use Rattle.mate_journal.specs.Journal.{JournalEntry, Seen, TimedEntry, store_seen, journal_entry, journal_of}
use Rattle.mate_journal.specs.Log.{Log}
use Rattle.mate_journal.specs.NodeScript.{RunEnd, Whole, Full, Cut}
use Rattle.mate_journal.specs.Tidy.{store_named}
use Rattle.journal_laws.proofs.Append.{start}
use Rattle.mate_journal.specs.declared.air.Aired.{Aired}
use Rattle.mate_journal.specs.declared.entry.Entry.{Entry}
use Rattle.mate_journal.specs.declared.entry.Entry.TheVariants as entry
use Rattle.mate_journal.specs.declared.entry.Stamped.{Stamped}
use Rattle.mate_journal.specs.declared.report.Report.{Report}
use Rattle.report_writer.specs.Tidy.{Mark, log_marks, marks, IsNoEarlier, IsLastSeen, AreOfOneNode}
use Rattle.report_writer.proofs.EventLemmas.{All-of_map}
use Rattle.world_rules.specs.World.{World}
use Rattle.world_rules.specs.Effect.{event_node}
use Rattle.world_rules.specs.State.{Moment}
use Rattle.world_rules.specs.Run.{HaveCome, stamp_of, journal, EndsJournal, IsJournalOf}
use Rattle.world_rules.specs.Report.{IsLogOf}
use Rattle.world_run_laws.proofs.Stamps.{IsOfEvent, event-low, event-high, event-in_time, events-rise, one-place}
use Rattle.world_run_laws.proofs.AirRecords.{IsAirOfRun}

-- what is seen last has the number behind all events, and the last time
abbrev pub closing_stamp : World → List Moment → Stamp
closing_stamp w ms = record { event = suc (length ms); time = w.until }

pub data IsMarkOfRun (w : World) (ms : List Moment) (m : Mark) : Type 0 where
  at_start : m.stamp ≡ start → IsMarkOfRun w ms m
  at_event : IsOfEvent w ms m.stamp m.node → IsMarkOfRun w ms m
  seen_last : m.stamp ≡ closing_stamp w ms → IsTrue m.is_seen → IsMarkOfRun w ms m

-- ---- a journal

-- an entry of an event on the node, or a store that is seen last
abbrev IsEntered : World → List Moment → ℕ → TimedEntry → Type 0
IsEntered w ms k e = IsOfEvent w ms e.stamp k ⊎ ((e.stamp ≡ closing_stamp w ms) × IsTrue (is_some (store_seen e.told)))

abbrev IsCome : World → List Moment → ℕ → TimedEntry → Type 0
IsCome w ms k e = IsOfEvent w ms e.stamp k

journal-come : (w : World) (k : ℕ) (ms : List Moment) → All (IsCome w ms k) (journal w k ms)
journal-come w k [] = All-nil (IsCome w [] k)
journal-come w k (m ∷ before) =
    All-append (IsCome w (m ∷ before) k) (journal w k before) _
    (All-weaker (IsCome w before k) (IsCome w (m ∷ before) k) (λ e h. inr h) (journal w k before) (journal-come w k before))
    (elim (eqb_tells k (event_node w m.cause)) [
      | inl same ↦ rw same.0 (told-here same.1 m.told)
      | inr other ↦ rw other.0 (All-nil (IsCome w (m ∷ before) k))
    ]) where
      here : JournalEntry → TimedEntry
      here t = record { stamp = stamp_of m before; told = t }

      told-here : k ≡ event_node w m.cause → (ts : List JournalEntry) → All (IsCome w (m ∷ before) k) (map here ts)
      told-here same [] = All-nil (IsCome w (m ∷ before) k)
      told-here same (t ∷ ts) = All-cons (IsCome w (m ∷ before) k) (here t) (map here ts) (inl (refl, same)) (told-here same ts)

last-entered : (w : World) (k : ℕ) (how : RunEnd) (ms : List Moment) (es : List TimedEntry) → EndsJournal w k how ms es → All (IsEntered w ms k) es
last-entered w k Whole ms es ends =
    let told : es ≡ record { stamp = closing_stamp w ms; told = Seen ends.shown.seen } ∷ [] = ends.stamped ∙ ap (map (λ (t : JournalEntry). record { stamp = closing_stamp w ms; told = t })) ends.shown.made in
    All-same (IsEntered w ms k) es _ told (All-cons (IsEntered w ms k) (record { stamp = closing_stamp w ms; told = Seen ends.shown.seen }) [] (inr (refl, refl)) (All-nil (IsEntered w ms k)))
last-entered w k Full ms es ends = All-same (IsEntered w ms k) es [] ends (All-nil (IsEntered w ms k))
last-entered w k Cut ms es ends = All-same (IsEntered w ms k) es [] ends (All-nil (IsEntered w ms k))

journal-entered : (w : World) (how : RunEnd) (ms : List Moment) (k : ℕ) (es : List TimedEntry) → IsJournalOf w how ms k es → All (IsEntered w ms k) es
journal-entered w how ms k es is =
    All-same (IsEntered w ms k) es (journal w k ms ++ is.last) is.journal_is
    (All-append (IsEntered w ms k) (journal w k ms) is.last
    (All-weaker (IsCome w ms k) (IsEntered w ms k) (λ e h. inl h) (journal w k ms) (journal-come w k ms)) (last-entered w k how ms is.last is.ends))

-- ---- logs

-- an entry that tells of a store names one
names-store : (l : Log) (e : Entry) → IsTrue (is_some (store_seen (journal_entry l e))) → IsTrue (is_some (store_named e))
names-store l (entry.Post n h c payload) seen = seen
names-store l _ seen = seen

abbrev mark_at : ℕ → Stamped → Mark
mark_at k e = record { stamp = e.stamp; node = k; is_seen = is_some (store_named e.entry) }

log-marks : (w : World) (how : RunEnd) (ms : List Moment) (k : ℕ) (l : Log) → IsLogOf w how ms k l → All (IsMarkOfRun w ms) (map (mark_at k) l.entries)
log-marks w how ms k l is =
    All-map (IsMarkOfRun w ms) (mark_at k) l.entries
    (All-weaker (λ (e : Stamped). IsEntered w ms k (told-at e)) (λ (e : Stamped). IsMarkOfRun w ms (mark_at k e)) mark l.entries
    (All-of_map (IsEntered w ms k) told-at l.entries (journal-entered w how ms k (journal_of l) is.journal))) where
      told-at : Stamped → TimedEntry
      told-at e = record { stamp = e.stamp; told = journal_entry l e.entry }

      mark : (e : Stamped) → IsEntered w ms k (told-at e) → IsMarkOfRun w ms (mark_at k e)
      mark e (inl h) = at_event h
      mark e (inr s) = seen_last s.0 (names-store l e.entry s.1)

-- each log from the node on is of the run
abbrev pub AreLogsFrom : World → RunEnd → List Moment → ℕ → List Log → Type 0
AreLogsFrom w how ms n ls = (k : ℕ) → k < length ls → IsSomeAnd (slice_get ls k) (IsLogOf w how ms (n + k))

first-log : (w : World) (how : RunEnd) (ms : List Moment) (n : ℕ) (l : Log) (ls : List Log) → AreLogsFrom w how ms n (l ∷ ls) → IsLogOf w how ms n l
first-log w how ms n l ls are = let same : n + 0 ≡ n = omega arith in subst (λ (k : ℕ). IsLogOf w how ms k l) same (are 0 (omega arith))

other-logs : (w : World) (how : RunEnd) (ms : List Moment) (n : ℕ) (l : Log) (ls : List Log) → AreLogsFrom w how ms n (l ∷ ls) → AreLogsFrom w how ms (suc n) ls
other-logs w how ms n l ls are k below =
    let same : n + suc k ≡ suc n + k = omega arith in
    subst (λ (i : ℕ). IsSomeAnd (slice_get ls k) (IsLogOf w how ms i)) same (are (suc k) (omega (arith, below)))

pub each-log : (P : Log → Type 0) (w : World) (how : RunEnd) (ms : List Moment) (n : ℕ) (ls : List Log) → ((k : ℕ) (l : Log) → IsLogOf w how ms k l → P l) → AreLogsFrom w how ms n ls → All P ls
each-log P w how ms n [] gives are = All-nil P
each-log P w how ms n (l ∷ ls) gives are = All-cons P l ls (gives n l (first-log w how ms n l ls are)) (each-log P w how ms (suc n) ls gives (other-logs w how ms n l ls are))

logs-marks : (w : World) (how : RunEnd) (ms : List Moment) (n : ℕ) (ls : List Log) → AreLogsFrom w how ms n ls → All (IsMarkOfRun w ms) (log_marks n ls)
logs-marks w how ms n [] are = All-nil (IsMarkOfRun w ms)
logs-marks w how ms n (l ∷ ls) are =
    All-append (IsMarkOfRun w ms) (map (mark_at n) l.entries) (log_marks (suc n) ls) (log-marks w how ms n l (first-log w how ms n l ls are))
    (logs-marks w how ms (suc n) ls (other-logs w how ms n l ls are))

-- ---- a report

pub run-marks : (w : World) (how : RunEnd) (ms : List Moment) (r : Report) → All (IsAirOfRun w ms) r.air → AreLogsFrom w how ms 0 r.nodes → All (IsMarkOfRun w ms) (marks r)
run-marks w how ms r on_air logs =
    All-append (IsMarkOfRun w ms) (map on-air r.air) (log_marks 0 r.nodes)
    (All-map (IsMarkOfRun w ms) on-air r.air (All-weaker (IsAirOfRun w ms) (λ (a : Aired). IsMarkOfRun w ms (on-air a)) mark r.air on_air)) (logs-marks w how ms 0 r.nodes logs) where
      on-air : Aired → Mark
      on-air a = record { stamp = a.stamp; node = a.node; is_seen = false }

      mark : (a : Aired) → IsAirOfRun w ms a → IsMarkOfRun w ms (on-air a)
      mark a is = elim is.came [ inl e ↦ at_start e | inr h ↦ at_event h ]

number-of : (a b : Stamp) → a ≡ b → a.event ≡ b.event
number-of a b same = ap (λ (s : Stamp). s.event) same

time-of : (a b : Stamp) → a ≡ b → a.time ≡ b.time
time-of a b same = ap (λ (s : Stamp). s.time) same

pub no-earlier : (w : World) (ms : List Moment) (a b : Mark) → 1 ≤ w.nodes → HaveCome w ms → IsMarkOfRun w ms a → IsMarkOfRun w ms b → IsNoEarlier a b
no-earlier w ms a b some come (at_start p) q = let time = time-of a.stamp start p in λ order. omega (arith, time)
no-earlier w ms a b some come (at_event p) (at_start q) =
    let low = event-low w ms a.stamp a.node p in
    let number = number-of b.stamp start q in λ order. absurd (omega (arith, low, number, order))
no-earlier w ms a b some come (at_event p) (at_event q) = events-rise w ms a.stamp b.stamp a.node b.node some come p q
no-earlier w ms a b some come (at_event p) (seen_last q seen) =
    let within = event-in_time w ms a.stamp a.node come p in
    let time = time-of b.stamp (closing_stamp w ms) q in λ order. omega (arith, within, time)
no-earlier w ms a b some come (seen_last p seen) (at_start q) =
    let last = number-of a.stamp (closing_stamp w ms) p in
    let number = number-of b.stamp start q in λ order. absurd (omega (arith, last, number, order))
no-earlier w ms a b some come (seen_last p seen) (at_event q) =
    let last = number-of a.stamp (closing_stamp w ms) p in
    let high = event-high w ms b.stamp b.node q in λ order. absurd (omega (arith, last, high, order))
no-earlier w ms a b some come (seen_last p seen) (seen_last q seen') =
    let time = time-of a.stamp b.stamp (p ∙ sym q) in λ order. omega (arith, time)

last-seen : (w : World) (ms : List Moment) (all : List Mark) (event : ℕ) → event ≡ suc (length ms) → All (IsMarkOfRun w ms) all → IsLastSeen all event
last-seen w ms all event is of_run = All-weaker (IsMarkOfRun w ms) (λ (m : Mark). (m.stamp.event ≤ event) × (m.stamp.event ≡ event → IsTrue m.is_seen)) low all of_run where
  low : (m : Mark) → IsMarkOfRun w ms m → (m.stamp.event ≤ event) × (m.stamp.event ≡ event → IsTrue m.is_seen)
  low m (at_start p) = let number = number-of m.stamp start p in (omega (arith, number, is), λ same. absurd (omega (arith, number, is, same)))
  low m (at_event p) = let high = event-high w ms m.stamp m.node p in (omega (arith, high, is), λ same. absurd (omega (arith, high, is, same)))
  low m (seen_last p seen) = let last = number-of m.stamp (closing_stamp w ms) p in (omega (arith, last, is), λ same. seen)

pub one-node : (w : World) (ms : List Moment) (all : List Mark) (a b : Mark) → All (IsMarkOfRun w ms) all → IsMarkOfRun w ms a → IsMarkOfRun w ms b → AreOfOneNode all a b
one-node w ms all a b of_run (at_start p) q = λ same. inr (inl (number-of a.stamp start p))
one-node w ms all a b of_run (seen_last p seen) q = λ same. inr (inr (last-seen w ms all a.stamp.event (number-of a.stamp (closing_stamp w ms) p) of_run))
one-node w ms all a b of_run (at_event p) (at_start q) =
    let low = event-low w ms a.stamp a.node p in
    let number = number-of b.stamp start q in λ same. absurd (omega (arith, low, number, same))
one-node w ms all a b of_run (at_event p) (at_event q) = λ same. inl (one-place w ms a.stamp b.stamp a.node b.node p q same)
one-node w ms all a b of_run (at_event p) (seen_last q seen) =
    let high = event-high w ms a.stamp a.node p in
    let last = number-of b.stamp (closing_stamp w ms) q in λ same. absurd (omega (arith, high, last, same))
