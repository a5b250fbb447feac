-- A world's run that was stopped begins the whole run.
use Rattle.std.proofs.Common.{◌≡◌, ℕ, zero, suc, ◌+◌, ◌<◌, ◌≤◌, Bool, true, false, List, [], ◌∷◌, ◌++◌, Option, length, map, get_or, drop, sym, ◌∙◌, ap, subst, inl, inr, arith, append-nil, append_assoc, length-append}
use Rattle.std.specs.List.{AllZip}
use Rattle.std.specs.Prelude.{All, IsSomeAnd, slice_get, ◌==◌, if◌then◌else◌}
use Rattle.std.proofs.lemmas.Bool.Decides.{leb_tells}
use Rattle.std.proofs.lemmas.List.Elements.{All-nil, All-same, All-weaker, All-append}
use Rattle.report_laws.specs.Begins.{Begins}
use Rattle.report_laws.proofs.NodeFronts.{same-text}
use Rattle.report_laws.proofs.TextLemmas.{LogGoesOn, GoesOnBehind, lines-begin, begins-then, begins-text}
use Rattle.journal_laws.proofs.GoesOnLemmas.{GoesOn-journal}
use Rattle.mate_num.specs.declared.call.Stamp.{Stamp}
use Rattle.mate_journal.specs.Journal.{JournalEntry, journal_of}
use Rattle.mate_journal.specs.Journal.{TimedEntry as Entered}
use Rattle.mate_journal.specs.Log.{Log}
use Rattle.mate_journal.specs.NodeScript.{RunEnd, Whole, Full, Cut}
use Rattle.mate_journal.specs.declared.air.Aired.{Aired}
use Rattle.mate_journal.specs.declared.entry.Stamped.{Stamped}
use Rattle.mate_journal.specs.declared.report.Report.{Report}
use Rattle.report_writer.specs.Text.{lines, text}
use Rattle.report_writer.specs.Writing.{IsWrittenPart, written_text}
use Rattle.report_laws.specs.OneReport.{EventsAreOfNodes}
use Rattle.report_laws.proofs.OneReport.{one-report, report-kept, both-some, zip-places}
use Rattle.report_laws.proofs.OneRun.{AreKept, kept-before, moments-once, not-shorter}
use Rattle.world_rules.specs.Effect.{event_node}
use Rattle.world_rules.specs.Report.{IsLogOf, IsWorldReport}
use Rattle.world_rules.specs.Run.{HaveCome, stamp_of, journal, airs}
use Rattle.world_rules.specs.State.{Moment}
use Rattle.world_rules.specs.World.{World}
use Rattle.world_laws.proofs.Bounds.{stamped-all, journal-upto, airs-upto, airs-new, airs-more, entries-of, entries-new, all-named}

-- ---- the events

-- of two runs the longer one goes on after the other
record GoesOnAfter (ms ns : List Moment) : Type 0 where
  later : List Moment
  is : ns ≡ later ++ ms

after : (w : World) → EventsAreOfNodes w → (ms ns : List Moment) → HaveCome w ms → HaveCome w ns → AreKept w ms → AreKept w ns → length ms ≤ length ns → GoesOnAfter ms ns
after w nodes ms [] come come' kept kept' le = record { later = []; is = moments-once w nodes [] ms (omega (arith, le)) come' come kept' kept }
after w nodes ms (n ∷ ns) come come' kept kept' le = elim (leb_tells (length ms) (length ns)) [
  | inl low ↦
      let before = after w nodes ms ns come come'.0 kept (kept-before w n ns come'.1 kept') low.1 in
      record { later = n ∷ before.later; is = ap (λ (xs : List Moment). n ∷ xs) before.is }
  | inr high ↦ let more = high.1 in record { later = []; is = sym (moments-once w nodes ms (n ∷ ns) (omega (arith, le, more)) come come' kept kept') }
]

-- ---- what they record

record JournalOn (w : World) (k : ℕ) (ms ns : List Moment) : Type 0 where
  more : List Entered
  is : journal w k ns ≡ journal w k ms ++ more
  later : All (λ (e : Entered). length ms < e.stamp.event) more

told-of : (n : ℕ) (told : Bool) (at : Stamp) (ts : List JournalEntry) → n < at.event → All (λ (e : Entered). n < e.stamp.event) (if told then map (λ t. record { stamp = at; told = t }) ts else [])
told-of n true at ts low =
    All-weaker (λ (e : Entered). e.stamp.event ≡ at.event) (λ (e : Entered). n < e.stamp.event) (λ e same. omega (arith, low, same)) (map (λ (t : JournalEntry). record { stamp = at; told = t }) ts) (stamped-all at ts)
told-of n false at ts low = All-nil (λ (e : Entered). n < e.stamp.event)

journal-on : (w : World) (k : ℕ) (ms later : List Moment) → JournalOn w k ms (later ++ ms)
journal-on w k ms [] = record { more = []; is = sym (append-nil (journal w k ms)); later = All-nil (λ (e : Entered). length ms < e.stamp.event) }
journal-on w k ms (m ∷ later) =
    let before = journal-on w k ms later in
    let long : length (later ++ ms) ≡ length later + length ms = length-append later ms in
    let new : List Entered = if k == event_node w m.cause then map (λ t. record { stamp = stamp_of m (later ++ ms); told = t }) m.told else [] in
    record {
      more = before.more ++ new;
      is = ap (λ (xs : List Entered). xs ++ new) before.is ∙ append_assoc (journal w k ms) before.more new;
      later = All-append (λ (e : Entered). length ms < e.stamp.event) before.more new before.later (told-of (length ms) (k == event_node w m.cause) (stamp_of m (later ++ ms)) m.told (omega (arith, long)));
    }

record AirOn (w : World) (ms ns : List Moment) : Type 0 where
  more : List Aired
  is : airs w ns ≡ airs w ms ++ more
  later : All (λ (a : Aired). length ms < a.stamp.event) more

air-on : (w : World) (ms later : List Moment) → AirOn w ms (later ++ ms)
air-on w ms [] = record { more = []; is = sym (append-nil (airs w ms)); later = All-nil (λ (a : Aired). length ms < a.stamp.event) }
air-on w ms (m ∷ later) =
    let before = air-on w ms later in
    let long : length (later ++ ms) ≡ length later + length ms = length-append later ms in
    let new : List Aired = drop (length (airs w (later ++ ms))) (airs w (m ∷ (later ++ ms))) in
    record {
      more = before.more ++ new;
      is = airs-more w m (later ++ ms) ∙ ap (λ (xs : List Aired). xs ++ new) before.is ∙ append_assoc (airs w ms) before.more new;
      later = All-append (λ (a : Aired). length ms < a.stamp.event) before.more new before.later
          (All-weaker (λ (a : Aired). a.stamp.event ≡ suc (length (later ++ ms))) (λ (a : Aired). length ms < a.stamp.event) (λ a same. omega (arith, same, long)) new (airs-new w m (later ++ ms)));
    }

-- ---- the reports

some-at : (P : Log → Type 0) (xs : List Log) (k : ℕ) (x : Log) → k < length xs → IsSomeAnd (slice_get xs k) P → P (get_or xs k x)
some-at P [] k x low is = absurd (omega (arith, low))
some-at P (y ∷ ys) zero x low is = is
some-at P (y ∷ ys) (suc k) x low is = some-at P ys k x (omega (arith, low)) is

module _ (w : World) (nodes : EventsAreOfNodes w) (r r' : Report) (stopped : IsWorldReport w Cut r) (whole : IsWorldReport w Whole r') where
  abbrev ms : List Moment
  ms = stopped.moments

  abbrev ns : List Moment
  ns = whole.moments

  abbrev N : ℕ
  N = length stopped.moments

  kept : AreKept w ms
  kept = report-kept w Cut r stopped

  kept' : AreKept w ns
  kept' = report-kept w Whole r' whole

  on : GoesOnAfter ms ns
  on = elim (leb_tells (length ms) (length ns)) [
    | inl low ↦ after w nodes ms ns stopped.come whole.come kept kept' low.1
    | inr less ↦ absurd (not-shorter w nodes Whole ns ms tt whole.at_end whole.come stopped.come kept' kept less.1)
  ]

  log-on : (k : ℕ) (x y : Log) → IsLogOf w Cut ms k x → IsLogOf w Whole ns k y → LogGoesOn N x y
  log-on k x y a b =
      let more = subst (λ (xs : List Moment). JournalOn w k ms xs) (sym on.is) (journal-on w k ms on.later) in
      let long : length ns ≡ length on.later + N = ap (λ (xs : List Moment). length xs) on.is ∙ length-append on.later ms in
      let old : journal_of x ≡ journal w k ms = a.journal.journal_is ∙ ap (λ (es : List Entered). journal w k ms ++ es) a.journal.ends ∙ append-nil (journal w k ms) in
      let last = b.journal.last in
      let is : journal_of y ≡ journal_of x ++ (more.more ++ last) =
      b.journal.journal_is ∙ ap (λ (es : List Entered). es ++ last) more.is ∙ append_assoc (journal w k ms) more.more last ∙ ap (λ (es : List Entered). es ++ (more.more ++ last)) (sym old) in
      let at : Stamp = record { event = suc (length ns); time = w.until } in
      let seen : All (λ (e : Entered). N < e.stamp.event) last =
      All-same (λ (e : Entered). N < e.stamp.event) last (map (λ (t : JournalEntry). record { stamp = at; told = t }) b.journal.ends.told) b.journal.ends.stamped (told-of N true at b.journal.ends.told (omega (arith, long))) in
      record {
        goes_on = GoesOn-journal x y (more.more ++ last) a.tidy.numbered b.tidy.numbered is;
        named = all-named x a.tidy.numbered;
        later = entries-new (λ n. N < n) x y (more.more ++ last) is (All-append (λ (e : Entered). N < e.stamp.event) more.more last more.later seen);
      }

  report-on : GoesOnBehind N r r'
  report-on =
      let air = subst (λ (xs : List Moment). AirOn w ms xs) (sym on.is) (air-on w ms on.later) in
      record {
        logs = zip-places (LogGoesOn N) r.nodes r'.nodes (stopped.nodes ∙ sym whole.nodes)
            (λ k low. let inside : k < w.nodes = subst (λ (n : ℕ). k < n) stopped.nodes low in
            both-some (slice_get r.nodes k) (slice_get r'.nodes k) (IsLogOf w Cut ms k) (IsLogOf w Whole ns k) (LogGoesOn N) (stopped.logs k inside) (whole.logs k inside) (log-on k));
        air = air.more;
        air_is = whole.air ∙ air.is ∙ ap (λ (xs : List Aired). xs ++ air.more) (sym stopped.air);
        air_later = air.later;
        up_to = λ k l low.
            let inside : k < w.nodes = subst (λ (n : ℕ). k < n) stopped.nodes low in
            let of = some-at (IsLogOf w Cut ms k) r.nodes k l low (stopped.logs k inside) in
            entries-of (λ n. n ≤ N) (get_or r.nodes k l)
            (All-same (λ (e : Entered). e.stamp.event ≤ N) (journal_of (get_or r.nodes k l)) (journal w k ms)
            (of.journal.journal_is ∙ ap (λ (es : List Entered). journal w k ms ++ es) of.journal.ends ∙ append-nil (journal w k ms)) (journal-upto w k ms));
        air_up_to = All-same (λ (a : Aired). a.stamp.event ≤ N) r.air (airs w ms) stopped.air (airs-upto w ms);
      }

  cut-text : Begins (lines w.description r) (text w.description r')
  cut-text = begins-then (lines w.description r) (lines w.description r') (text w.description r') (lines-begin w.description N r r' report-on) (begins-text w.description r')

pub world-front : (w : World) → EventsAreOfNodes w → (out out' : Option (List ℕ)) (r r' : Report) → (left : IsWrittenPart w.description (IsWorldReport w) out out' r) → IsWorldReport w Whole r' → Begins left.part.front (text w.description r')
world-front w nodes out out' r r' left whole = by left.how left.report left.part.front left.part.rest left.part.whole where
  by : (how : RunEnd) → IsWorldReport w how r → (front rest : List ℕ) → front ++ rest ≡ written_text how w.description r → Begins front (text w.description r')
  by Whole report front rest is =
      begins-then front (text w.description r) (text w.description r') (record { rest = rest; is = sym is }) (same-text (text w.description r) (text w.description r') (one-report w nodes Whole Whole r r' tt tt report whole).0.text)
  by Full report front rest is =
      begins-then front (text w.description r) (text w.description r') (record { rest = rest; is = sym is }) (same-text (text w.description r) (text w.description r') (one-report w nodes Full Whole r r' tt tt report whole).0.text)
  by Cut report front rest is = begins-then front (lines w.description r) (text w.description r') (record { rest = rest; is = sym is }) (cut-text w nodes r r' report whole)
