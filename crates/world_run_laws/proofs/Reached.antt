-- What a report shows of the time that its run reached.
use Rattle.std.proofs.Common.{◌≡◌, ◌<◌, ◌≤◌, ℕ, zero, suc, true, List, [], ◌∷◌, ◌++◌, map, length, Option, refl, sym, ◌∙◌, ap, subst, arith, inl, inr}
use Rattle.std.specs.Prelude.{slice_index_or, IsSomeAnd, Contains}
use Rattle.std.specs.List.{range_with_len}
use Rattle.std.proofs.lemmas.Option.{slice_get_within}
use Rattle.std.proofs.lemmas.Bool.Decides.{eqb_tells}
use Rattle.mate_journal.specs.Log.{Log}
use Rattle.mate_journal.specs.Journal.{JournalEntry, journal_of}
use Rattle.mate_journal.specs.Journal.{TimedEntry as Entered}
use Rattle.mate_journal.specs.NodeScript.{RunEnd, Whole, Full, Cut}
use Rattle.mate_journal.specs.NodeReport.{is_whole}
use Rattle.mate_journal.specs.declared.air.Air.{Air}
use Rattle.mate_journal.specs.declared.air.Air.TheVariants as air
use Rattle.mate_journal.specs.declared.air.Aired.{Aired}
use Rattle.mate_journal.specs.declared.report.Report.{Report}
use Rattle.script_steps.specs.declared.world.World.{World as Script}
use Rattle.world_rules.specs.World.{World}
use Rattle.world_rules.specs.Effect.{event_node}
use Rattle.world_rules.specs.State.{Moment, air_made, state}
use Rattle.world_rules.specs.Run.{HaveCome, EndsJournal, IsJournalOf, airs, journal, stamp_of}
use Rattle.world_rules.specs.Report.{IsLogOf, IsWorldReport}
use Rattle.world_laws.specs.Times.{last_time}
use Rattle.mate_num.specs.Lists.{Among}
use Rattle.mate_num.proofs.ListLemmas.{among-append}
use Rattle.world_laws.proofs.Points.{run-past, last-before}
use Rattle.world_laws.proofs.Journals.{journal-here, journal-other}
use Rattle.world_laws.specs.PacketRecords.{HasReached}
use Rattle.world_run_laws.specs.SourceWorld.{source_world}
use Rattle.world_run_laws.specs.Bound.{ShowsTime, whole, aired, told, ShownIsReached}

among-at : {X : Type 0} (xs : List X) (x : X) (k : ℕ) → k < length xs → slice_index_or xs k x ≡ x → Among x xs
among-at [] x k low is = absurd (omega (arith, low))
among-at (y ∷ ys) x zero low is = inl is
among-at (y ∷ ys) x (suc k) low is = inr (among-at ys x k (omega (arith, low)) is)

contained : {X : Type 0} (xs : List X) (x : X) → Contains xs x → Among x xs
contained xs x has = among-at xs x has.0 has.1 has.2

among-map : {X Y : Type 0} (f : X → Y) (y : Y) (xs : List X) → Among y (map f xs) → (x : X) × (f x ≡ y)
among-map f y [] a = absurd a
among-map f y (x ∷ xs) (inl e) = (x, e)
among-map f y (x ∷ xs) (inr a) = among-map f y xs a

-- the last time doesn't fall
pub last-rises : (w : World) (m : Moment) (before : List Moment) → HaveCome w (m ∷ before) → last_time before ≤ m.time
last-rises w m before come = last-before (state w before) (last_time before) m.time m.cause (run-past w before come.0) come.1.next

airs-early : (w : World) (ms : List Moment) (x : Aired) → HaveCome w ms → Among x (airs w ms) → x.stamp.time ≤ last_time ms
airs-early w [] x come a =
    let found = among-map (λ (k : ℕ). record { stamp = record { event = 0; time = 0 }; node = k; air = air.Interval w.description.trickle.imin }) x (range_with_len 0 w.nodes) a in
    let is : 0 ≡ x.stamp.time = ap (λ (y : Aired). y.stamp.time) found.1 in
    omega (arith, is)
airs-early w (m ∷ before) x come a = elim (among-append x (airs w before) (map (λ (y : Air). record { stamp = stamp_of m before; node = event_node w m.cause; air = y }) (air_made w (state w before) m)) a) [
  | inl earlier ↦ (let low : x.stamp.time ≤ last_time before = airs-early w before x come.0 earlier in let rises : last_time before ≤ m.time = last-rises w m before come in omega (arith, low, rises))
  | inr now ↦ (
      let found = among-map (λ (y : Air). record { stamp = stamp_of m before; node = event_node w m.cause; air = y }) x (air_made w (state w before) m) now in
      let is : m.time ≡ x.stamp.time = ap (λ (y : Aired). y.stamp.time) found.1 in
      omega (arith, is))
]

journal-early : (w : World) (k : ℕ) (ms : List Moment) (e : Entered) → HaveCome w ms → Among e (journal w k ms) → e.stamp.time ≤ last_time ms
journal-early w k [] e come a = absurd a
journal-early w k (m ∷ before) e come a = elim (eqb_tells k (event_node w m.cause)) [
  | inl same ↦ here (λ b. journal-early w (event_node w m.cause) before e come.0 b) (subst (λ (es : List Entered). Among e es) (journal-here w m before) (subst (λ (j : ℕ). Among e (journal w j (m ∷ before))) same.1 a))
  | inr other ↦ late (journal-early w k before e come.0 (subst (λ (es : List Entered). Among e es) (journal-other w k m before other.1) a))
] where
  late : e.stamp.time ≤ last_time before → e.stamp.time ≤ m.time
  late low = let rises : last_time before ≤ m.time = last-rises w m before come in omega (arith, low, rises)

  here : (Among e (journal w (event_node w m.cause) before) → e.stamp.time ≤ last_time before) → Among e (journal w (event_node w m.cause) before ++ map (λ (t : JournalEntry). record { stamp = stamp_of m before; told = t }) m.told) → e.stamp.time ≤ m.time
  here earlier_are b = elim (among-append e (journal w (event_node w m.cause) before) (map (λ (t : JournalEntry). record { stamp = stamp_of m before; told = t }) m.told) b) [
    | inl earlier ↦ late (earlier_are earlier)
    | inr now ↦ (
        let found = among-map (λ (t : JournalEntry). record { stamp = stamp_of m before; told = t }) e m.told now in
        let is : m.time ≡ e.stamp.time = ap (λ (x : Entered). x.stamp.time) found.1 in
        omega (arith, is))
  ]

is-whole : (how : RunEnd) → is_whole how ≡ true → how ≡ Whole
is-whole Whole is = refl
is-whole Full is = cc
is-whole Cut is = cc

-- the last entries of a whole run are of its end
last-reached : (w : World) (k : ℕ) (how : RunEnd) (ms : List Moment) (last : List Entered) (e : Entered) (t : ℕ) → EndsJournal w k how ms last → Among e last → t < e.stamp.time → HasReached w how ms t
last-reached w k Whole ms last e t ends a late =
    let found = among-map (λ (y : JournalEntry). record { stamp = record { event = suc (length ms); time = w.until }; told = y }) e ends.told (subst (λ (es : List Entered). Among e es) ends.stamped a) in
    let is : w.until ≡ e.stamp.time = ap (λ (x : Entered). x.stamp.time) found.1 in
    inl (refl, omega (arith, is, late))
last-reached w k Full ms last e t ends a late = absurd (subst (λ (es : List Entered). Among e es) ends a)
last-reached w k Cut ms last e t ends a late = absurd (subst (λ (es : List Entered). Among e es) ends a)

entry-reached : (w : World) (how : RunEnd) (ms : List Moment) (k : ℕ) (es : List Entered) (e : Entered) (t : ℕ) → HaveCome w ms → IsJournalOf w how ms k es → Among e es → t < e.stamp.time → HasReached w how ms t
entry-reached w how ms k es e t come of a late = elim (among-append e (journal w k ms) of.last (subst (λ (xs : List Entered). Among e xs) of.journal_is a)) [
  | inl came ↦ inr (let early : e.stamp.time ≤ last_time ms = journal-early w k ms e come came in omega (arith, early, late))
  | inr last ↦ last-reached w k how ms of.last e t of.ends last late
]

pub report-reached : (w : World) (script : Script) (how : RunEnd) (r : Report) (t : ℕ) → w.until ≡ script.until → (of : IsWorldReport w how r) → ShowsTime script r t → HasReached w how of.moments t
report-reached w script how r t until of (whole is low) = inl (is-whole how (sym of.whole ∙ is), omega (arith, low, until))
report-reached w script how r t until of (aired x has late) =
    inr (let early : x.stamp.time ≤ last_time of.moments = airs-early w of.moments x of.come (subst (λ (xs : List Aired). Among x xs) of.air (contained r.air x has)) in omega (arith, early, late))
report-reached w script how r t until of (told k l e stands has late) = entry-reached w how of.moments k (journal_of l) e t of.come own.journal (contained (journal_of l) e has) late where
  low : k < w.nodes
  low = let within : k < length r.nodes = slice_get_within r.nodes k l stands in let count : length r.nodes ≡ w.nodes = of.nodes in omega (arith, within, count)

  own : IsLogOf w how of.moments k l
  own = subst (λ (o : Option Log). IsSomeAnd o (IsLogOf w how of.moments k)) stands (of.logs k low)

pub shown_is_reached : ShownIsReached
shown_is_reached d script ps how r t of shows = report-reached (source_world d script ps) script how r t refl of shows
