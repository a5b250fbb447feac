-- A world has one report.
use Rattle.std.proofs.Common.{◌≡◌, ℕ, zero, suc, ◌<◌, List, [], ◌∷◌, ◌++◌, map, length, refl, sym, ◌∙◌, ap, subst, arith, append-nil}
use Rattle.std.specs.Prelude.{Option, Some, None, IsSomeAnd, slice_get}
use Rattle.std.specs.List.{AllZip}
use Rattle.std.proofs.lemmas.List.{map-append}
use Rattle.mate_num.specs.declared.call.Stamp.{Stamp}
use Rattle.mate_journal.specs.Log.{Log, IsSameLog}
use Rattle.mate_journal.specs.Journal.{JournalEntry, NodeState, first_state, untimed, journal_of}
use Rattle.mate_journal.specs.Journal.{TimedEntry as Entered}
use Rattle.mate_journal.specs.NodeReport.{is_whole}
use Rattle.mate_journal.specs.NodeScript.{RunEnd, Whole, Full, Cut}
use Rattle.mate_journal.specs.declared.report.Report.{Report}
use Rattle.world_rules.specs.World.{World}
use Rattle.world_rules.specs.Effect.{Node}
use Rattle.world_rules.specs.State.{Moment, state}
use Rattle.world_rules.specs.Run.{IsAtEnd, airs, journal, SeesStore, EndsJournal}
use Rattle.world_rules.specs.Report.{IsLogOf, IsWorldReport}
use Rattle.report_laws.proofs.Rules.{KeepsRules, keeps-events, keeps-back, start_after, BeginsOtherwise}
use Rattle.report_laws.proofs.OneText.{log-once}
use Rattle.report_laws.specs.OneReport.{EventsAreOfNodes, WorldHasOneReport}
use Rattle.report_laws.proofs.OneEvent.{shown-once}
use Rattle.report_laws.proofs.OneRun.{told-stamped, IsKept, AreKept, reads-told, run-once, ends-once}
use Rattle.report_laws.proofs.SameBrief.{brief-same}
use Rattle.report_text.specs.Parts.{IsSameReport}
use Rattle.report_text.proofs.BackLemmas.{text_same}

-- ---- the rules of a report's journals

-- the last entries begin with no start
last-other : (w : World) (how : RunEnd) (ms : List Moment) (k : ℕ) (last : List Entered) → EndsJournal w k how ms last → BeginsOtherwise (untimed last)
last-other w Whole ms k last ends = subst BeginsOtherwise (sym (ap untimed ends.stamped ∙ told-stamped _ ends.told ∙ ends.shown.made)) (λ start. start)
last-other w Full ms k last ends = subst (λ (es : List Entered). BeginsOtherwise (untimed es)) (sym ends) tt
last-other w Cut ms k last ends = subst (λ (es : List Entered). BeginsOtherwise (untimed es)) (sym ends) tt

-- what the log tells keeps the rules
log-keeps : (w : World) (how : RunEnd) (ms : List Moment) (k : ℕ) (l : Log) → (of : IsLogOf w how ms k l) → KeepsRules w.machine (first_state w.machine) 0 (untimed (journal w k ms) ++ untimed of.journal.last)
log-keeps w how ms k l of =
    subst (KeepsRules w.machine (first_state w.machine) 0) (ap untimed of.journal.journal_is ∙ map-append (λ (e : Entered). e.told) (journal w k ms) of.journal.last)
    (keeps-events w.machine (first_state w.machine) 0 (journal_of l) of.right.well_formed.follow of.right.stores.shown of.right.grants)

log-kept : (w : World) (how : RunEnd) (ms : List Moment) (k : ℕ) (o : Option Log) → IsSomeAnd o (IsLogOf w how ms k) → IsKept w ms k
log-kept w how ms k None of = absurd of
log-kept w how ms k (Some l) of = record { rest = untimed of.journal.last; keeps = log-keeps w how ms k l of; other = last-other w how ms k of.journal.last of.journal.ends }

pub report-kept : (w : World) (how : RunEnd) (r : Report) → (is : IsWorldReport w how r) → AreKept w is.moments
report-kept w how r is k below = log-kept w how is.moments k (slice_get r.nodes k) (is.logs k below)

-- ---- the last entries

last-here : (w : World) (how : RunEnd) (ms : List Moment) (k : ℕ) (l : Log) → (of : IsLogOf w how ms k l)
    → KeepsRules w.machine ((state w ms).nodes k).reading (start_after 0 (untimed (journal w k ms))) (untimed of.journal.last)
last-here w how ms k l of = subst (λ (r : NodeState). KeepsRules w.machine r (start_after 0 (untimed (journal w k ms))) (untimed of.journal.last)) (sym (reads-told w k ms))
    (keeps-back w.machine (first_state w.machine) 0 (untimed (journal w k ms)) (untimed of.journal.last) (log-keeps w how ms k l of))

-- the store that is seen last is one
sees-once : (w : World) (ms : List Moment) (k : ℕ) (xs ys : List Entered) → SeesStore w k ms xs → SeesStore w k ms ys → KeepsRules w.machine ((state w ms).nodes k).reading (start_after 0 (untimed (journal w k ms))) (untimed xs)
    → KeepsRules w.machine ((state w ms).nodes k).reading (start_after 0 (untimed (journal w k ms))) (untimed ys) → xs ≡ ys
sees-once w ms k xs ys a b keeps keeps' =
    let at : Stamp = record { event = suc (length ms); time = w.until } in
    let node : Node = (state w ms).nodes k in
    let now = start_after 0 (untimed (journal w k ms)) in
    let keeps-a : KeepsRules w.machine node.reading now (a.told ++ []) = subst (KeepsRules w.machine node.reading now) (ap untimed a.stamped ∙ told-stamped at a.told ∙ sym (append-nil a.told)) keeps in
    let keeps-b : KeepsRules w.machine node.reading now (b.told ++ []) = subst (KeepsRules w.machine node.reading now) (ap untimed b.stamped ∙ told-stamped at b.told ∙ sym (append-nil b.told)) keeps' in
    let same : a.told ≡ b.told = shown-once w.machine node.reading node.pace now a.told [] b.told [] a.shown b.shown keeps-a keeps-b in
    a.stamped ∙ ap (λ (ts : List JournalEntry). map (λ (t : JournalEntry). record { stamp = at; told = t }) ts) same ∙ sym b.stamped

last-once : (w : World) (how : RunEnd) (ms : List Moment) (k : ℕ) (xs ys : List Entered) → EndsJournal w k how ms xs → EndsJournal w k how ms ys
    → KeepsRules w.machine ((state w ms).nodes k).reading (start_after 0 (untimed (journal w k ms))) (untimed xs) → KeepsRules w.machine ((state w ms).nodes k).reading (start_after 0 (untimed (journal w k ms))) (untimed ys) → xs ≡ ys
last-once w Whole ms k xs ys a b keeps keeps' = sees-once w ms k xs ys a b keeps keeps'
last-once w Full ms k xs ys a b keeps keeps' = a ∙ sym b
last-once w Cut ms k xs ys a b keeps keeps' = a ∙ sym b

-- ---- the logs

-- they are the same, and tell the same journal
record AreAlike (x y : Log) : Type 0 where
  pub log : IsSameLog x y
  pub journal : journal_of x ≡ journal_of y

logs-once : (w : World) (how : RunEnd) (ms : List Moment) (k : ℕ) (x y : Log) → IsLogOf w how ms k x → IsLogOf w how ms k y → AreAlike x y
logs-once w how ms k x y a b = record { log = log-once y x b.tidy.numbered a.tidy.numbered (sym same); journal = same } where
  same : journal_of x ≡ journal_of y
  same = a.journal.journal_is
      ∙ ap (λ (es : List Entered). journal w k ms ++ es) (last-once w how ms k a.journal.last b.journal.last a.journal.ends b.journal.ends (last-here w how ms k x a) (last-here w how ms k y b))
      ∙ sym b.journal.journal_is

pub both-some : (o p : Option Log) (P Q : Log → Type 0) (R : Log → Log → Type 0) → IsSomeAnd o P → IsSomeAnd p Q → ((x y : Log) → P x → Q y → R x y) → IsSomeAnd o (λ x. IsSomeAnd p (λ y. R x y))
both-some None p P Q R a b both = absurd a
both-some (Some x) None P Q R a b both = absurd b
both-some (Some x) (Some y) P Q R a b both = both x y a b

pub zip-places : (R : Log → Log → Type 0) (xs ys : List Log) → length xs ≡ length ys → ((k : ℕ) → k < length xs → IsSomeAnd (slice_get xs k) (λ x. IsSomeAnd (slice_get ys k) (λ y. R x y))) → AllZip R xs ys
zip-places R [] [] long each = tt
zip-places R [] (y ∷ ys) long each = cc
zip-places R (x ∷ xs) [] long each = cc
zip-places R (x ∷ xs) (y ∷ ys) long each =
    let shorter : length xs ≡ length ys = cc in
    (each zero (omega arith), zip-places R xs ys shorter (λ k low. each (suc k) (omega (arith, low))))

logs-alike : (xs ys : List Log) → AllZip AreAlike xs ys → AllZip IsSameLog xs ys × (map journal_of xs ≡ map journal_of ys)
logs-alike [] [] z = (tt, refl)
logs-alike [] (y ∷ ys) z = absurd z
logs-alike (x ∷ xs) [] z = absurd z
logs-alike (x ∷ xs) (y ∷ ys) z =
    let rest = logs-alike xs ys z.1 in
    ((z.0.log, rest.0), ap (λ (es : List Entered). es ∷ map journal_of xs) z.0.journal ∙ ap (λ (js : List (List Entered)). journal_of y ∷ js) rest.1)

-- ---- the law

-- two reports of these events, of runs that end alike
told-once : (w : World) (how : RunEnd) (ms : List Moment) (r r' : Report) → length r.nodes ≡ w.nodes → length r'.nodes ≡ w.nodes → ((k : ℕ) → k < w.nodes → IsSomeAnd (slice_get r.nodes k) (IsLogOf w how ms k))
    → ((k : ℕ) → k < w.nodes → IsSomeAnd (slice_get r'.nodes k) (IsLogOf w how ms k)) → AllZip AreAlike r.nodes r'.nodes
told-once w how ms r r' long long' logs logs' = zip-places AreAlike r.nodes r'.nodes (long ∙ sym long')
    (λ k low. let inside : k < w.nodes = subst (λ (n : ℕ). k < n) long low in
    both-some (slice_get r.nodes k) (slice_get r'.nodes k) (IsLogOf w how ms k) (IsLogOf w how ms k) AreAlike (logs k inside) (logs' k inside) (logs-once w how ms k))

pub one-report : (w : World) → EventsAreOfNodes w → WorldHasOneReport w
one-report w nodes how how' r r' itself itself' is is' = (
  record {
    ends = ends;
    journals = alike.1;
    air = same.air;
    events = same.events;
    whole = same.whole;
    text = text_same w.description r r' same;
    brief = brief-same w.description r r' same;
  },
  moments,
) where
  moments : is.moments ≡ is'.moments
  moments = run-once w nodes how how' is.moments is'.moments itself itself' is.at_end is'.at_end is.come is'.come (report-kept w how r is) (report-kept w how' r' is')

  ends : how ≡ how'
  ends = ends-once w how how' (state w is'.moments) itself itself' (subst (λ (ms : List Moment). IsAtEnd w how (state w ms)) moments is.at_end) is'.at_end

  logs : (k : ℕ) → k < w.nodes → IsSomeAnd (slice_get r.nodes k) (IsLogOf w how' is'.moments k)
  logs k below = subst (λ (e : RunEnd). IsSomeAnd (slice_get r.nodes k) (IsLogOf w e is'.moments k)) ends (subst (λ (ms : List Moment). IsSomeAnd (slice_get r.nodes k) (IsLogOf w how ms k)) moments (is.logs k below))

  alike : AllZip IsSameLog r.nodes r'.nodes × (map journal_of r.nodes ≡ map journal_of r'.nodes)
  alike = logs-alike r.nodes r'.nodes (told-once w how' is'.moments r r' is.nodes is'.nodes logs is'.logs)

  same : IsSameReport r r'
  same = record {
    nodes = alike.0;
    air = is.air ∙ ap (airs w) moments ∙ sym is'.air;
    events = is.events ∙ ap (length) moments ∙ sym is'.events;
    whole = is.whole ∙ ap is_whole ends ∙ sym is'.whole;
  }
