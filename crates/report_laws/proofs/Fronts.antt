-- Of two runs of a script, the one that was cut begins each that did at least as many steps.
use Rattle.std.proofs.Common.{◌≡◌, ℕ, suc, ◌+◌, ◌<◌, ◌≤◌, List, [], ◌∷◌, ◌++◌, map, length, sym, ◌∙◌, ap, subst, arith, append_assoc}
use Rattle.std.specs.Prelude.{All}
use Rattle.std.proofs.lemmas.List.Elements.{All-nil, All-cons, All-same, All-weaker, All-append}
use Rattle.mate_journal.specs.Machine.{Machine}
use Rattle.mate_journal.specs.Journal.{JournalEntry, TimedEntry, NodeState, first_state, state_after_entries, untimed}
use Rattle.mate_journal.specs.Pace.{Pace, no_pace}
use Rattle.mate_journal.specs.NodeScript.{Step, made_at, Makes, HaveMade, RunEnd, Whole, Full, Cut, EndsRun}
use Rattle.mate_journal.proofs.JournalLemmas.{told_by-at, told_by-made}
use Rattle.report_laws.proofs.Rules.{KeepsRules, start_after, keeps-back, BeginsOtherwise}
use Rattle.report_laws.proofs.OneEach.{HasOneEach, one-along}
use Rattle.report_laws.proofs.OneStep.{step-once, step-other}

-- fs goes on after es, by entries of events from the n-th on
pub record GoesOnFrom (n : ℕ) (es fs : List TimedEntry) : Type 0 where
  pub rest : List TimedEntry
  pub is : fs ≡ es ++ rest
  pub later : All (λ (e : TimedEntry). n ≤ e.stamp.event) rest

abbrev From : ℕ → TimedEntry → Type 0
From n e = n ≤ e.stamp.event

abbrev Below : ℕ → TimedEntry → Type 0
Below n e = e.stamp.event < n

-- steps make entries from the first one's number on, one event a step
at-low : (k n : ℕ) (told : List JournalEntry) → k ≤ n → All (From k) (map (made_at n) told)
at-low k n [] low = All-nil (From k)
at-low k n (t ∷ ts) low = All-cons (From k) (made_at n t) (map (made_at n) ts) low (at-low k n ts low)

at-high : (k n : ℕ) (told : List JournalEntry) → n < k → All (Below k) (map (made_at n) told)
at-high k n [] high = All-nil (Below k)
at-high k n (t ∷ ts) high = All-cons (Below k) (made_at n t) (map (made_at n) ts) high (at-high k n ts high)

made-low : (m : Machine) (how : RunEnd) (left : List Step) (k records n : ℕ) (r : NodeState) (p : Pace) (steps : List Step) (es : List TimedEntry) → k ≤ n → HaveMade (EndsRun m how left) m records n r p steps es → All (From k) es
made-low m Whole left k records n r p [] es low (none, told, shows, is) = All-same (From k) es (map (made_at n) told) is (at-low k n told low)
made-low m Full left k records n r p [] es low made = All-same (From k) es [] made.2 (All-nil (From k))
made-low m Cut left k records n r p [] es low made = All-same (From k) es [] made (All-nil (From k))
made-low m how left k records n r p (step ∷ steps) es low (few, told, rest, then, is, makes, later) =
    All-same (From k) es (map (made_at n) told ++ rest) is
    (All-append (From k) (map (made_at n) told) rest (at-low k n told low)
    (made-low m how left k (records + length told) (suc n) (state_after_entries m r told) then steps rest (omega (arith, low)) later))

-- a cut run has no event above its steps
pub made-high : (m : Machine) (left : List Step) (records n : ℕ) (r : NodeState) (p : Pace) (steps : List Step) (es : List TimedEntry) → HaveMade (EndsRun m Cut left) m records n r p steps es → All (Below (n + length steps)) es
made-high m left records n r p [] es made = All-same (Below (n + 0)) es [] made (All-nil (Below (n + 0)))
made-high m left records n r p (step ∷ steps) es (few, told, rest, then, is, makes, later) =
    All-same (Below (n + length (step ∷ steps))) es (map (made_at n) told ++ rest) is
    (All-append (Below (n + length (step ∷ steps))) (map (made_at n) told) rest (at-high (n + length (step ∷ steps)) n told (omega arith))
    (All-weaker (Below (suc n + length steps)) (Below (n + length (step ∷ steps))) (λ e high. omega (arith, high)) rest
    (made-high m left (records + length told) (suc n) (state_after_entries m r told) then steps rest later)))

-- of a whole run no step is left
pub made-all : (m : Machine) (left : List Step) (records n : ℕ) (r : NodeState) (p : Pace) (steps : List Step) (es : List TimedEntry) → HaveMade (EndsRun m Whole left) m records n r p steps es → left ≡ []
made-all m left records n r p [] es made = made.0
made-all m left records n r p (step ∷ steps) es (few, told, rest, then, is, makes, later) = made-all m left (records + length told) (suc n) (state_after_entries m r told) then steps rest later

-- a run begins with no start
made-other : (m : Machine) (how : RunEnd) (left : List Step) (records n : ℕ) (r : NodeState) (p : Pace) (steps : List Step) (es : List TimedEntry) → HaveMade (EndsRun m how left) m records n r p steps es → BeginsOtherwise (untimed es)
made-other m Whole left records n r p [] es (none, told, shows, is) =
    subst BeginsOtherwise (sym (ap untimed is ∙ told_by-at (record { event = n; time = 0 }) told ∙ shows.made)) (λ start. start)
made-other m Full left records n r p [] es made = subst (λ (xs : List TimedEntry). BeginsOtherwise (untimed xs)) (sym made.2) tt
made-other m Cut left records n r p [] es made = subst (λ (xs : List TimedEntry). BeginsOtherwise (untimed xs)) (sym made) tt
made-other m how left records n r p (step ∷ steps) es (few, told, rest, then, is, makes, later) =
    subst BeginsOtherwise (sym (ap untimed is ∙ told_by-made n told rest))
    (step-other m r p 0 step told then (untimed rest) makes
    (made-other m how left (records + length told) (suc n) (state_after_entries m r told) then steps rest later))

pub fronts : (m : Machine) (how : RunEnd) (left left' done more : List Step) (records n last : ℕ) (r : NodeState) (p : Pace) (es fs : List TimedEntry)
    → HasOneEach r → KeepsRules m r last (untimed es) → KeepsRules m r last (untimed fs)
    → HaveMade (EndsRun m Cut left) m records n r p done es → HaveMade (EndsRun m how left') m records n r p (done ++ more) fs → GoesOnFrom (n + length done) es fs
fronts m how left left' [] more records n last r p es fs each keeps keeps' a b = record {
  rest = fs;
  is = ap (λ (xs : List TimedEntry). xs ++ fs) (sym a);
  later = made-low m how left' (n + 0) records n r p more fs (omega arith) b;
}
fronts m how left left' (step ∷ done) more records n last r p es fs each keeps keeps' (few, told, rest, then, is, makes, later) (few', told', rest', then', is', makes', later') =
    joined (fronts m how left left' done more (records + length told') (suc n) (start_after last told') (state_after_entries m r told') then' rest rest'
    (one-along m r last told' (untimed rest') keeps-b each) rest-a (keeps-back m r last told' (untimed rest') keeps-b) on-a later') where
      keeps-a : KeepsRules m r last (told ++ untimed rest)
      keeps-a = subst (KeepsRules m r last) (ap untimed is ∙ told_by-made n told rest) keeps

      keeps-b : KeepsRules m r last (told' ++ untimed rest')
      keeps-b = subst (KeepsRules m r last) (ap untimed is' ∙ told_by-made n told' rest') keeps'

      same : (told ≡ told') × (then ≡ then')
      same = step-once m r p last each step told then (untimed rest) told' then' (untimed rest') makes makes' keeps-a keeps-b
          (made-other m Cut left _ _ _ _ done rest later) (made-other m how left' _ _ _ _ (done ++ more) rest' later')

      rest-a : KeepsRules m (state_after_entries m r told') (start_after last told') (untimed rest)
      rest-a = subst (λ (ts : List JournalEntry). KeepsRules m (state_after_entries m r ts) (start_after last ts) (untimed rest)) same.0 (keeps-back m r last told (untimed rest) keeps-a)

      on-a : HaveMade (EndsRun m Cut left) m (records + length told') (suc n) (state_after_entries m r told') then' done rest
      on-a = subst (λ (x : Pace). HaveMade (EndsRun m Cut left) m (records + length told') (suc n) (state_after_entries m r told') x done rest) same.1
          (subst (λ (ts : List JournalEntry). HaveMade (EndsRun m Cut left) m (records + length ts) (suc n) (state_after_entries m r ts) then done rest) same.0 later)

      joined : GoesOnFrom (suc n + length done) rest rest' → GoesOnFrom (n + length (step ∷ done)) es fs
      joined later = record {
        rest = later.rest;
        is = is' ∙ ap (λ (xs : List TimedEntry). map (made_at n) told' ++ xs) later.is ∙ ap (λ (ts : List JournalEntry). map (made_at n) ts ++ (rest ++ later.rest)) (sym same.0)
            ∙ sym (append_assoc (map (made_at n) told) rest later.rest) ∙ ap (λ (xs : List TimedEntry). xs ++ later.rest) (sym is);
        later = All-weaker (From (suc n + length done)) (From (n + length (step ∷ done))) (λ e low. omega (arith, low)) later.rest later.later;
      }
