-- Events are numbered by how many came.
use Rattle.std.proofs.Common.{◌≡◌, ℕ, zero, suc, ◌+◌, ◌≤◌, Bool, true, false, List, [], ◌∷◌, ◌++◌, length, map, get_or, drop, take, refl, sym, ◌∙◌, ap, arith}
use Rattle.std.specs.Prelude.{All, ◌==◌, if◌then◌else◌}
use Rattle.std.specs.List.{range_with_len}
use Rattle.std.proofs.lemmas.List.Elements.{All-nil, All-cons, All-append, All-weaker, All-map, All-same}
use Rattle.std.proofs.Math.Seq.{drop-append_seam, take-append_seam}
use Rattle.std.proofs.lemmas.List.{drop-map, length-map}
use Rattle.mate_num.specs.declared.call.Stamp.{Stamp}
use Rattle.mate_journal.specs.Log.{Log}
use Rattle.mate_journal.specs.Journal.{JournalEntry, journal_entry, journal_of}
use Rattle.mate_journal.specs.Journal.{TimedEntry as Entered}
use Rattle.mate_journal.specs.Tidy.{NumbersInOrder}
use Rattle.mate_journal.specs.declared.air.Air.TheVariants as air
use Rattle.mate_journal.specs.declared.air.Aired.{Aired}
use Rattle.mate_journal.specs.declared.entry.Entry.{Entry}
use Rattle.mate_journal.specs.declared.entry.Entry.TheVariants as entry
use Rattle.mate_journal.specs.declared.entry.Stamped.{Stamped}
use Rattle.journal_laws.specs.Growth.{event_of, AreNamedBelow, IsNamedBelow}
use Rattle.journal_laws.proofs.TidyLemmas.{NamesInLog-numbered}
use Rattle.report_writer.specs.Pieces.{IsNamed}
use Rattle.report_writer.proofs.EventLemmas.{All-of_map}
use Rattle.world_rules.specs.World.{World}
use Rattle.world_rules.specs.Effect.{event_node}
use Rattle.world_rules.specs.State.{Moment, state, air_made}
use Rattle.world_rules.specs.Run.{stamp_of, airs, journal}
use Rattle.world_laws.specs.EventText.{TellJournals}

abbrev UpTo : ℕ → Entered → Type 0
UpTo n e = e.stamp.event ≤ n

abbrev AirUpTo : ℕ → Aired → Type 0
AirUpTo n a = a.stamp.event ≤ n

pub stamped-all : (at : Stamp) (told : List JournalEntry) → All (λ (e : Entered). e.stamp.event ≡ at.event) (map (λ t. record { stamp = at; told = t }) told)
stamped-all at [] = All-nil (λ (e : Entered). e.stamp.event ≡ at.event)
stamped-all at (t ∷ ts) =
    All-cons (λ (e : Entered). e.stamp.event ≡ at.event) (let x : Entered = record { stamp = at; told = t } in x) (map (λ t. record { stamp = at; told = t }) ts) refl (stamped-all at ts)

more-upto : (n : ℕ) (es : List Entered) (at : Stamp) (told : List JournalEntry) (b : Bool) → at.event ≡ suc n → All (UpTo n) es
    → All (UpTo (suc n)) (es ++ (if b then map (λ t. record { stamp = at; told = t }) told else []))
more-upto n es at told b is low = by b where
  front : All (UpTo (suc n)) es
  front = All-weaker (UpTo n) (UpTo (suc n)) (λ (e : Entered) (le : e.stamp.event ≤ n). omega (arith, le)) es low

  by : (b : Bool) → All (UpTo (suc n)) (es ++ (if b then map (λ t. record { stamp = at; told = t }) told else []))
  by true =
      All-append (UpTo (suc n)) es (map (λ t. record { stamp = at; told = t }) told) front
      (All-weaker (λ (e : Entered). e.stamp.event ≡ at.event) (UpTo (suc n)) (λ (e : Entered) (same : e.stamp.event ≡ at.event). omega (arith, same, is)) (map (λ t. record { stamp = at; told = t }) told) (stamped-all at told))
  by false = All-append (UpTo (suc n)) es [] front (All-nil (UpTo (suc n)))

-- the journal of an event has its number
pub journal-upto : (w : World) (k : ℕ) (ms : List Moment) → All (UpTo (length ms)) (journal w k ms)
journal-upto w k [] = All-nil (UpTo 0)
journal-upto w k (m ∷ ms) = more-upto (length ms) (journal w k ms) (stamp_of m ms) m.told (k == event_node w m.cause) refl (journal-upto w k ms)

aired-all : (w : World) (m : Moment) (ms : List Moment) → All (λ (a : Aired). a.stamp.event ≡ suc (length ms))
    (map (λ a. record { stamp = stamp_of m ms; node = event_node w m.cause; air = a }) (air_made w (state w ms) m))
aired-all w m ms = All-map (λ (a : Aired). a.stamp.event ≡ suc (length ms)) (λ a. record { stamp = stamp_of m ms; node = event_node w m.cause; air = a }) (air_made w (state w ms) m) (λ i d low. refl)

pub airs-upto : (w : World) (ms : List Moment) → All (AirUpTo (length ms)) (airs w ms)
airs-upto w [] =
    All-map (AirUpTo 0) (λ k. record { stamp = record { event = 0; time = 0 }; node = k; air = air.Interval w.description.trickle.imin }) (range_with_len 0 w.nodes) (λ i d low. omega arith)
airs-upto w (m ∷ ms) =
    let made : List Aired = map (λ a. record { stamp = stamp_of m ms; node = event_node w m.cause; air = a }) (air_made w (state w ms) m) in
    All-append (AirUpTo (suc (length ms))) (airs w ms) made
    (All-weaker (AirUpTo (length ms)) (AirUpTo (suc (length ms))) (λ (a : Aired) (le : a.stamp.event ≤ length ms). omega (arith, le)) (airs w ms) (airs-upto w ms))
    (All-weaker (λ (a : Aired). a.stamp.event ≡ suc (length ms)) (AirUpTo (suc (length ms))) (λ (a : Aired) (is : a.stamp.event ≡ suc (length ms)). omega (arith, is)) made (aired-all w m ms))

-- what an event puts on the air
pub airs-new : (w : World) (m : Moment) (ms : List Moment) → All (λ (a : Aired). a.stamp.event ≡ suc (length ms)) (drop (length (airs w ms)) (airs w (m ∷ ms)))
airs-new w m ms =
    let made : List Aired = map (λ a. record { stamp = stamp_of m ms; node = event_node w m.cause; air = a }) (air_made w (state w ms) m) in
    All-same (λ (a : Aired). a.stamp.event ≡ suc (length ms)) (drop (length (airs w ms)) (airs w ms ++ made)) made (drop-append_seam (airs w ms) made) (aired-all w m ms)

pub airs-more : (w : World) (m : Moment) (ms : List Moment) → airs w (m ∷ ms) ≡ airs w ms ++ drop (length (airs w ms)) (airs w (m ∷ ms))
airs-more w m ms =
    let made : List Aired = map (λ a. record { stamp = stamp_of m ms; node = event_node w m.cause; air = a }) (air_made w (state w ms) m) in
    ap (λ (xs : List Aired). airs w ms ++ xs) (sym (drop-append_seam (airs w ms) made))

-- the entries of a log
pub entries-of : (P : ℕ → Type 0) (l : Log) → All (λ (e : Entered). P e.stamp.event) (journal_of l) → All (λ (e : Stamped). P e.stamp.event) l.entries
entries-of P l all =
    All-of_map (λ (e : Entered). P e.stamp.event) (λ (s : Stamped). let x : Entered = record { stamp = s.stamp; told = journal_entry l s.entry } in x) l.entries all

-- the entries behind those that were told before
pub entries-new : (P : ℕ → Type 0) (old new : Log) (more : List Entered) → journal_of new ≡ journal_of old ++ more → All (λ (e : Entered). P e.stamp.event) more
    → All (λ (e : Stamped). P e.stamp.event) (drop (length old.entries) new.entries)
entries-new P old new more is all =
    let long : length (journal_of old) ≡ length old.entries = length-map old.entries (λ (s : Stamped). let x : Entered = record { stamp = s.stamp; told = journal_entry old s.entry } in x) in
    let same : map (event_of new) (drop (length old.entries) new.entries) ≡ more =
    sym (drop-map (event_of new) (length old.entries) new.entries) ∙ ap (λ (es : List Entered). drop (length old.entries) es) is
    ∙ ap (λ (k : ℕ). drop k (journal_of old ++ more)) (sym long) ∙ drop-append_seam (journal_of old) more in
    All-of_map (λ (e : Entered). P e.stamp.event) (event_of new) (drop (length old.entries) new.entries)
    (All-same (λ (e : Entered). P e.stamp.event) (map (event_of new) (drop (length old.entries) new.entries)) more same all)

map-take : {A B : Type 0} (f : A → B) (n : ℕ) (xs : List A) → take n (map f xs) ≡ map f (take n xs)
map-take f zero xs = refl
map-take f (suc n) [] = refl
map-take f (suc n) (x ∷ xs) = ap (λ ys. f x ∷ ys) (map-take f n xs)

-- the entries that were told before
pub entries-front : (P : ℕ → Type 0) (old new : Log) (more : List Entered) → journal_of new ≡ journal_of old ++ more → All (λ (e : Entered). P e.stamp.event) (journal_of old)
    → All (λ (e : Stamped). P e.stamp.event) (take (length old.entries) new.entries)
entries-front P old new more is all =
    let long : length (journal_of old) ≡ length old.entries = length-map old.entries (λ (s : Stamped). let x : Entered = record { stamp = s.stamp; told = journal_entry old s.entry } in x) in
    let same : map (event_of new) (take (length old.entries) new.entries) ≡ journal_of old =
    sym (map-take (event_of new) (length old.entries) new.entries) ∙ ap (λ (es : List Entered). take (length old.entries) es) is
    ∙ ap (λ (k : ℕ). take k (journal_of old ++ more)) (sym long) ∙ take-append_seam (journal_of old) more in
    All-of_map (λ (e : Entered). P e.stamp.event) (event_of new) (take (length old.entries) new.entries)
    (All-same (λ (e : Entered). P e.stamp.event) (map (event_of new) (take (length old.entries) new.entries)) (journal_of old) same all)

-- ---- all logs

pub logs-upto : (w : World) (ms : List Moment) (logs : List Log) → TellJournals w ms logs → All (λ (l : Log). All (λ (e : Stamped). e.stamp.event ≤ length ms) l.entries) logs
logs-upto w ms logs told k l below =
    entries-of (λ n. n ≤ length ms) (get_or logs k l) (All-same (UpTo (length ms)) (journal_of (get_or logs k l)) (journal w k ms) (told k l below) (journal-upto w k ms))

-- ---- what entries name

named-entry : (l : Log) (e : Entry) → IsNamedBelow (length l.images) (length l.stores) e → IsNamed l e
named-entry l (entry.Install h version image) named = named
named-entry l (entry.Seen store) named = named
named-entry l _ named = tt

named-all : (l : Log) (es : List Stamped) → AreNamedBelow (length l.images) (length l.stores) es → All (λ (e : Stamped). IsNamed l e.entry) es
named-all l [] named = All-nil (λ (e : Stamped). IsNamed l e.entry)
named-all l (e ∷ es) named = All-cons (λ (e : Stamped). IsNamed l e.entry) e es (named-entry l e.entry named.0) (named-all l es named.1)

pub all-named : (l : Log) → NumbersInOrder l → All (λ (e : Stamped). IsNamed l e.entry) l.entries
all-named l numbered = named-all l l.entries (NamesInLog-numbered l numbered).named
