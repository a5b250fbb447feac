-- A script has one journal, and its run one report.
use Rattle.std.proofs.Common.{◌≡◌, ◌≢◌, ℕ, zero, suc, ◌+◌, ◌<◌, ◌≤◌, Bool, true, false, List, [], ◌∷◌, ◌++◌, map, length, All, refl, sym, ◌∙◌, ap, subst, inl, inr, ◌⊎◌, arith, append-nil, append_assoc, length-append}
use Rattle.mate_num.specs.declared.store.Store.{Store}
use Rattle.mate_journal.specs.Machine.{Machine}
use Rattle.mate_journal.specs.Journal.{JournalEntry, Seen, TimedEntry, NodeState, first_state, state_after_entries, untimed}
use Rattle.mate_journal.specs.Pace.{Pace, no_pace}
use Rattle.mate_journal.specs.NodeScript.{Step, records_max, Makes, ShowsOnce, made_at, HaveMade, RunEnd, Whole, Full, Cut, EndsRun, IsRunOf}
use Rattle.mate_journal.specs.NodeReport.{is_whole}
use Rattle.mate_journal.proofs.JournalLemmas.{told_by-at, told_by-made}
use Rattle.report_laws.specs.Ending.{EndsByItself}
use Rattle.report_laws.proofs.Rules.{KeepsRules, start_after, keeps-back, BeginsOtherwise}
use Rattle.report_laws.proofs.OneEach.{HasOneEach, one-along}
use Rattle.report_laws.proofs.OneSeen.{seen-once}
use Rattle.report_laws.proofs.OneStep.{step-once, step-other}

-- ---- a run, step by step

-- the log is full before a step
pub record StopsHere (records : ℕ) (whole : Bool) (count : ℕ) (es : List TimedEntry) : Type 0 where
  pub many : records_max ≤ records
  pub not_whole : whole ≡ false
  pub none : count ≡ 0
  pub nothing : es ≡ []

-- a step is made, and then `Then` holds of the rest
pub record StepMade (m : Machine) (records n : ℕ) (r : NodeState) (p : Pace) (step : Step) (count : ℕ) (es : List TimedEntry) (Then : ℕ → NodeState → Pace → ℕ → List TimedEntry → Type 0) : Type 0 where
  pub few : records < records_max
  pub told : List JournalEntry
  pub rest : List TimedEntry
  pub pace : Pace
  pub others : ℕ
  pub count_is : count ≡ suc others
  pub events : es ≡ map (made_at n) told ++ rest
  pub makes : Makes m r p step told pace
  pub goes_on : Then (records + length told) (state_after_entries m r told) pace others rest

-- these steps are left, and make these events before the run ends by itself: whole or not, after so many steps
abbrev pub RunsFrom : Machine → ℕ → Bool → List Step → ℕ → NodeState → Pace → ℕ → List TimedEntry → Type 0
RunsFrom m n whole [] records r p count es = (whole ≡ true) × (count ≡ 0) × (told : List JournalEntry) × ShowsOnce m r p told × (es ≡ map (made_at n) told)
RunsFrom m n whole (step ∷ steps) records r p count es =
    StopsHere records whole count es ⊎ StepMade m records n r p step count es (RunsFrom m (suc n) whole steps)

-- what entries of one event tell
untimed-made : (n : ℕ) (es : List TimedEntry) (told : List JournalEntry) → es ≡ map (made_at n) told → untimed es ≡ told
untimed-made n es told is = ap untimed is ∙ told_by-at (record { event = n; time = 0 }) told

-- a run begins with no start
runs-other : (m : Machine) (n : ℕ) (whole : Bool) (steps : List Step) (records : ℕ) (r : NodeState) (p : Pace) (count : ℕ) (es : List TimedEntry) → RunsFrom m n whole steps records r p count es → BeginsOtherwise (untimed es)
runs-other m n whole [] records r p count es (all, none, told, shows, is) = subst BeginsOtherwise (sym (untimed-made n es told is ∙ shows.made)) (λ start. start)
runs-other m n whole (step ∷ steps) records r p count es (inl stops) = subst (λ (xs : List TimedEntry). BeginsOtherwise (untimed xs)) (sym stops.nothing) tt
runs-other m n whole (step ∷ steps) records r p count es (inr made) =
    subst BeginsOtherwise (sym (ap untimed made.events ∙ told_by-made n made.told made.rest))
    (step-other m r p 0 step made.told made.pace (untimed made.rest) made.makes
    (runs-other m (suc n) whole steps (records + length made.told) (state_after_entries m r made.told) made.pace made.others made.rest made.goes_on))

-- two runs of a script are the same
pub record SameRun (es : List TimedEntry) (whole : Bool) (count : ℕ) (fs : List TimedEntry) (whole' : Bool) (count' : ℕ) : Type 0 where
  pub events : es ≡ fs
  pub ends : whole ≡ whole'
  pub steps : count ≡ count'

shows-once : (m : Machine) (last : ℕ) (r : NodeState) (p : Pace) (told told' : List JournalEntry) → ShowsOnce m r p told → ShowsOnce m r p told' → KeepsRules m r last told → KeepsRules m r last told' → told ≡ told'
shows-once m last r p told told' a b keeps keeps' =
    let keeps-a : KeepsRules m r last (Seen a.seen ∷ []) = subst (KeepsRules m r last) a.made keeps in
    let keeps-b : KeepsRules m r last (Seen b.seen ∷ []) = subst (KeepsRules m r last) b.made keeps' in
    a.made ∙ ap (λ (s : Store). Seen s ∷ []) (seen-once m r p a.seen b.seen keeps-a.1 keeps-b.1 a.shown b.shown) ∙ sym b.made

pub runs-once : (m : Machine) (n last : ℕ) (steps : List Step) (records : ℕ) (r : NodeState) (p : Pace) (whole : Bool) (count : ℕ) (es : List TimedEntry) (whole' : Bool) (count' : ℕ) (fs : List TimedEntry)
    → HasOneEach r → KeepsRules m r last (untimed es) → KeepsRules m r last (untimed fs) → RunsFrom m n whole steps records r p count es → RunsFrom m n whole' steps records r p count' fs
    → SameRun es whole count fs whole' count'
runs-once m n last [] records r p whole count es whole' count' fs each keeps keeps' (all, none, told, shows, is) (all', none', told', shows', is') = record {
  events = is ∙ ap (map (made_at n)) (shows-once m last r p told told' shows shows' (subst (KeepsRules m r last) (untimed-made n es told is) keeps) (subst (KeepsRules m r last) (untimed-made n fs told' is') keeps')) ∙ sym is';
  ends = all ∙ sym all';
  steps = none ∙ sym none';
}
runs-once m n last (step ∷ steps) records r p whole count es whole' count' fs each keeps keeps' (inl a) (inl b) =
    record { events = a.nothing ∙ sym b.nothing; ends = a.not_whole ∙ sym b.not_whole; steps = a.none ∙ sym b.none }
runs-once m n last (step ∷ steps) records r p whole count es whole' count' fs each keeps keeps' (inl a) (inr b) = let many = a.many in let few = b.few in absurd (omega (arith, many, few))
runs-once m n last (step ∷ steps) records r p whole count es whole' count' fs each keeps keeps' (inr a) (inl b) = let few = a.few in let many = b.many in absurd (omega (arith, many, few))
runs-once m n last (step ∷ steps) records r p whole count es whole' count' fs each keeps keeps' (inr a) (inr b) =
    joined (runs-once m (suc n) (start_after last b.told) steps (records + length b.told) (state_after_entries m r b.told) b.pace whole a.others a.rest whole' b.others b.rest
    (one-along m r last b.told (untimed b.rest) keeps-b each) rest-a (keeps-back m r last b.told (untimed b.rest) keeps-b) on-a b.goes_on) where
      keeps-a : KeepsRules m r last (a.told ++ untimed a.rest)
      keeps-a = subst (KeepsRules m r last) (ap untimed a.events ∙ told_by-made n a.told a.rest) keeps

      keeps-b : KeepsRules m r last (b.told ++ untimed b.rest)
      keeps-b = subst (KeepsRules m r last) (ap untimed b.events ∙ told_by-made n b.told b.rest) keeps'

      step-same : (a.told ≡ b.told) × (a.pace ≡ b.pace)
      step-same = step-once m r p last each step a.told a.pace (untimed a.rest) b.told b.pace (untimed b.rest) a.makes b.makes keeps-a keeps-b
          (runs-other m (suc n) whole steps _ _ _ _ a.rest a.goes_on) (runs-other m (suc n) whole' steps _ _ _ _ b.rest b.goes_on)

      rest-a : KeepsRules m (state_after_entries m r b.told) (start_after last b.told) (untimed a.rest)
      rest-a = subst (λ (ts : List JournalEntry). KeepsRules m (state_after_entries m r ts) (start_after last ts) (untimed a.rest)) step-same.0 (keeps-back m r last a.told (untimed a.rest) keeps-a)

      on-a : RunsFrom m (suc n) whole steps (records + length b.told) (state_after_entries m r b.told) b.pace a.others a.rest
      on-a = subst (λ (q : Pace). RunsFrom m (suc n) whole steps (records + length b.told) (state_after_entries m r b.told) q a.others a.rest) step-same.1
          (subst (λ (ts : List JournalEntry). RunsFrom m (suc n) whole steps (records + length ts) (state_after_entries m r ts) a.pace a.others a.rest) step-same.0 a.goes_on)

      joined : SameRun a.rest whole a.others b.rest whole' b.others → SameRun es whole count fs whole' count'
      joined later = record {
        events = a.events ∙ ap (λ (ts : List JournalEntry). map (made_at n) ts ++ a.rest) step-same.0 ∙ ap (λ (xs : List TimedEntry). map (made_at n) b.told ++ xs) later.events ∙ sym b.events;
        ends = later.ends;
        steps = a.count_is ∙ ap suc later.steps ∙ sym b.count_is;
      }

-- ---- a run of a script is one

ends-from : (m : Machine) (how : RunEnd) → EndsByItself how → (left : List Step) (records n : ℕ) (r : NodeState) (p : Pace) (es : List TimedEntry) → EndsRun m how left records n r p es
    → RunsFrom m n (is_whole how) left records r p 0 es
ends-from m Whole itself [] records n r p es ends = (refl, refl, ends.1, ends.2, ends.3)
ends-from m Whole itself (step ∷ left) records n r p es ends = absurd (let h : step ∷ left ≡ [] = ends.0 in cc)
ends-from m Full itself [] records n r p es ends = absurd (ends.0 refl)
ends-from m Full itself (step ∷ left) records n r p es ends = inl (record { many = ends.1; not_whole = refl; none = refl; nothing = ends.2 })
ends-from m Cut itself left records n r p es ends = absurd itself

made-from : (m : Machine) (how : RunEnd) → EndsByItself how → (done left : List Step) (records n : ℕ) (r : NodeState) (p : Pace) (es : List TimedEntry) → HaveMade (EndsRun m how left) m records n r p done es
    → RunsFrom m n (is_whole how) (done ++ left) records r p (length done) es
made-from m how itself [] left records n r p es made = ends-from m how itself left records n r p es made
made-from m how itself (step ∷ done) left records n r p es (few, told, rest, then, is, makes, later) = inr (record {
  few = few;
  told = told;
  rest = rest;
  pace = then;
  others = length done;
  count_is = refl;
  events = is;
  makes = makes;
  goes_on = made-from m how itself done left (records + length told) (suc n) (state_after_entries m r told) then rest later;
})

pub run-from : (m : Machine) (how : RunEnd) → EndsByItself how → (steps : List Step) (es : List TimedEntry) (run : IsRunOf m how steps es)
    → RunsFrom m 1 (is_whole how) steps 0 (first_state m) no_pace (length run.done) es
run-from m how itself steps es run =
    subst (λ (xs : List Step). RunsFrom m 1 (is_whole how) xs 0 (first_state m) no_pace (length run.done) es) (sym run.steps_are)
    (made-from m how itself run.done run.left 0 1 (first_state m) no_pace es run.made)
