-- The run of a node script tells few entries: each that comes from outside is followed by two of the running of invocations at
-- most, and each step brings three from outside at most.
use Rattle.std.proofs.Common.{◌≡◌, ◌≢◌, ◌<◌, ◌≤◌, ◌⊎◌, ℕ, zero, suc, ◌+◌, ◌*◌, Bool, true, false, IsTrue, List, [], ◌∷◌, ◌++◌, length, refl, sym, ◌∙◌, ap, arith, inl, inr}
use Rattle.std.specs.Prelude.{ℤ, All, if◌then◌else◌, MatchBool}
use Rattle.std.proofs.lemmas.Bool.{cases_lt, MatchBool-at_true, MatchBool-at_false}
use Rattle.std.proofs.lemmas.Bool.Decides.{eqb_tells}
use Rattle.std.proofs.lemmas.List.Elements.{All-head, All-tail}
use Rattle.arrayvec.specs.ArrayVec.{ArrayVec}
use Rattle.mate_num.specs.declared.call.End.{End}
use Rattle.mate_num.specs.declared.call.End.TheVariants as end
use Rattle.mate_num.specs.declared.id.HandlerId.{HandlerId}
use Rattle.mate_journal.specs.Machine.{Machine, HeldProgram}
use Rattle.mate_journal.specs.Journal.{JournalEntry, Posted, Dropped, Started, Asked, Answered, Ended, Installed, Reset, Seen, Void, TimedEntry, Phase, Unposted, Queued, Ready, Waiting, Over, is_live, Invocation, NodeState, first_state, next_state, state_after_all, state_after_entries, untimed, whole_run, AtEachEntry}
use Rattle.mate_journal.specs.WellFormed.{MayFollow}
use Rattle.mate_journal.specs.Grants.{IsStart}
use Rattle.mate_journal.specs.Pace.{Pace, no_pace}
use Rattle.mate_journal.specs.Turns.{entry_at, Turn, IsTurn, mark_of, after_turn, AreTurns, told_in}
use Rattle.mate_journal.specs.NodeScript.{Step, Install, Post, StepIn, Run, Answer, Show, ResetNode, Occasion, Installs, IsNotNewer, AnswersCall, IsNotWaiting, Makes, HaveMade}
use Rattle.mate_journal.specs.declared.report.TheConstants.{RECORDS_MAX}
use Rattle.mate_journal.proofs.JournalLemmas.{told_by-made}
use Rattle.journal_laws.specs.Growth.{EndsWithPace}
use Rattle.journal_laws.proofs.Moves.{Moves, Joins, started-Moves, asked-Moves, answered-Moves, ended-Moves, posted-Joins}
use Rattle.journal_laws.proofs.Apart.{IsNumbered, live_posted, numbered-step, nothing_heard-orderly}

-- ---- entries from outside

abbrev from_outside : JournalEntry → ℕ
from_outside (Started n) = 0
from_outside (Asked n f args) = 0
from_outside (Ended n how) = 0
from_outside _ = 1

abbrev outside : List JournalEntry → ℕ
outside [] = 0
outside (t ∷ ts) = from_outside t + outside ts

outside-append : (ts more : List JournalEntry) → outside (ts ++ more) ≡ outside ts + outside more
outside-append [] more = omega arith
outside-append (t ∷ ts) more = let h = outside-append ts more in omega (arith, h)

one-at_most : (t : JournalEntry) → from_outside t ≤ 1
one-at_most (Started n) = omega arith
one-at_most _ = omega arith

outside-all : (ts : List JournalEntry) → outside ts ≤ length ts
outside-all [] = omega arith
outside-all (t ∷ ts) = let h = outside-all ts in let one = one-at_most t in omega (arith, h, one)

-- ---- what an invocation may still tell by itself

-- a queued one its start and a mark, a ready one a mark
abbrev pub entries_left : Phase → ℕ
entries_left Queued = 2
entries_left Ready = 1
entries_left _ = 0

-- f 0 + .. + f (n - 1)
abbrev total : (ℕ → ℕ) → ℕ → ℕ
total f zero = 0
total f (suc n) = total f n + f n

total-same : (f g : ℕ → ℕ) (n : ℕ) → ((k : ℕ) → k < n → g k ≡ f k) → total g n ≡ total f n
total-same f g zero same = refl
total-same f g (suc n) same = let h = total-same f g n (λ k below. same k (omega (arith, below))) in let last = same n (omega arith) in omega (arith, h, last)

total-below : (f g : ℕ → ℕ) (n : ℕ) → ((k : ℕ) → g k ≤ f k) → total g n ≤ total f n
total-below f g zero below = omega arith
total-below f g (suc n) below = let h = total-below f g n below in let last = below n in omega (arith, h, last)

-- one is another
total-moved : (f g : ℕ → ℕ) (n k : ℕ) → k < n → ((j : ℕ) → j ≢ k → g j ≡ f j) → total g n + f k ≡ total f n + g k
total-moved f g zero k below others = absurd (omega (arith, below))
total-moved f g (suc n) k below others = elim (eqb_tells n k) [ inl t ↦ here t.1 | inr u ↦ there u.1 (total-moved f g n k (omega (arith, below, u.1)) others) ] where
  here : n ≡ k → total g (suc n) + f k ≡ total f (suc n) + g k
  here is =
      let same = total-same f g n (λ j low. others j (λ e. omega (arith, low, is, e))) in
      let fs : f n ≡ f k = ap f is in
      let gs : g n ≡ g k = ap g is in omega (arith, same, fs, gs)

  there : n ≢ k → total g n + f k ≡ total f n + g k → total g (suc n) + f k ≡ total f (suc n) + g k
  there other h = let last = others n other in omega (arith, h, last)

abbrev pub left_at : NodeState → ℕ → ℕ
left_at r n = entries_left (r.invocations n).phase

abbrev owing : NodeState → ℕ
owing r = total (left_at r) (suc r.posts)

-- an invocation moves
owing-moves : (r s : NodeState) (n : ℕ) (phase was : Phase) → Moves r s n phase → (r.invocations n).phase ≡ was → n ≤ r.posts → owing s + entries_left was ≡ owing r + entries_left phase
owing-moves r s n phase was moves is posted =
    let moved = total-moved (left_at r) (left_at s) (suc r.posts) n (omega (arith, posted)) (λ j other. ap (λ (i : Invocation). entries_left i.phase) (moves.others j other)) in
    let before : left_at r n ≡ entries_left was = ap entries_left is in
    let after : left_at s n ≡ entries_left phase = ap entries_left moves.here in
    let posts : owing s ≡ total (left_at s) (suc r.posts) = ap (λ (k : ℕ). total (left_at s) (suc k)) moves.posts in
    omega (arith, moved, before, after, posts)

-- one is posted
owing-joins : (r s : NodeState) (n : ℕ) → Joins r s n → n ≡ suc r.posts → owing s ≡ owing r + 2
owing-joins r s n joins next =
    let same = total-same (left_at r) (left_at s) (suc r.posts) (λ j below. ap (λ (i : Invocation). entries_left i.phase) (joins.others j (λ e. omega (arith, below, next, e)))) in
    let here : left_at s n ≡ 2 = ap entries_left joins.here in
    let last : left_at s (suc r.posts) ≡ left_at s n = ap (left_at s) (sym next) in
    let posts : owing s ≡ total (left_at s) (suc (suc r.posts)) = ap (λ (k : ℕ). total (left_at s) (suc k)) (joins.posts ∙ next) in
    omega (arith, same, here, last, posts)

cut-entries_left : (phase : Phase) → entries_left (if is_live phase then Over else phase) ≤ entries_left phase
cut-entries_left Unposted = omega arith
cut-entries_left _ = omega arith

live : (r : NodeState) (n : ℕ) (phase : Phase) → IsNumbered r → (r.invocations n).phase ≡ phase → is_live phase ≡ true → n ≤ r.posts
live r n phase numbered is lives = live_posted r n numbered (ap is_live is ∙ lives)

owing-step : (m : Machine) (r : NodeState) (t : JournalEntry) → MayFollow m r t → IsNumbered r → 1 + owing (next_state m r t) ≤ 3 * from_outside t + owing r
owing-step m r (Posted n h c payload) follows numbered = let e = owing-joins r (next_state m r (Posted n h c payload)) n (posted-Joins m r n h c payload) follows.0 in omega (arith, e)
owing-step m r (Started n) follows numbered =
    let e = owing-moves r (next_state m r (Started n)) n Ready Queued (started-Moves m r n) follows (live r n Queued numbered follows refl) in omega (arith, e)
owing-step m r (Asked n f args) follows numbered =
    let e = owing-moves r (next_state m r (Asked n f args)) n (Waiting f args) Ready (asked-Moves m r n f args) follows (live r n Ready numbered follows refl) in omega (arith, e)
owing-step m r (Answered n value) follows numbered =
    let e = owing-moves r (next_state m r (Answered n value)) n Ready (Waiting follows.fun follows.args) (answered-Moves m r n value) follows.waits (live r n (Waiting follows.fun follows.args) numbered follows.waits refl) in omega (arith, e)
owing-step m r (Ended n how) follows numbered =
    let e = owing-moves r (next_state m r (Ended n how)) n Over Ready (ended-Moves m r n how) follows.0 (live r n Ready numbered follows.0 refl) in omega (arith, e)
owing-step m r (Installed p) follows numbered = let e = total-below (left_at r) (left_at (next_state m r (Installed p))) (suc r.posts) (λ k. cut-entries_left (r.invocations k).phase) in omega (arith, e)
owing-step m r Reset follows numbered = let e = total-below (left_at r) (left_at (next_state m r Reset)) (suc r.posts) (λ k. cut-entries_left (r.invocations k).phase) in omega (arith, e)
owing-step m r _ follows numbered = omega arith

-- each entry from outside is followed by two others at most
owing-all : (m : Machine) (r : NodeState) (es : List TimedEntry) → AtEachEntry (MayFollow m) m r es → IsNumbered r → length es ≤ 3 * outside (untimed es) + owing r
owing-all m r [] follow numbered = omega arith
owing-all m r (e ∷ es) follow numbered =
    let h = owing-all m (next_state m r e.told) es follow.1 (numbered-step m r e.told follow.0 numbered) in
    let one = owing-step m r e.told follow.0 numbered in omega (arith, h, one)

-- ---- what a step brings from outside

starts-inside : (ts : List JournalEntry) → All IsStart ts → outside ts ≡ 0
starts-inside [] all = refl
starts-inside (t ∷ ts) all = let h = starts-inside ts (All-tail IsStart t ts all) in let one = by t (All-head IsStart t ts all) in omega (arith, h, one) where
  by : (t : JournalEntry) → IsStart t → from_outside t ≡ 0
  by (Started n) is = refl
  by (Asked n f args) is = refl
  by (Ended n how) is = refl
  by _ is = absurd is

entry-inside : (n : ℕ) (e : End) → from_outside (entry_at n e) ≡ 0
entry-inside n end.Halt = refl
entry-inside n _ = refl

turn-inside : (m : Machine) (r : NodeState) (p : Pace) (instructions : ℕ) (t : Turn) → IsTurn m r p instructions t → outside t.told ≡ 0
turn-inside m r p instructions t turn = elim (cases_lt (p.counts t.invocation + instructions) (mark_of m r t.invocation)) [
  | inl short ↦ ap outside (turn.short short)
  | inr reached ↦ (let a = turn.reached reached in let starts = starts-inside a.starts a.are_starts in ap outside a.told_is ∙ (let one = entry-inside t.invocation (whole_run m r t.invocation).end in omega (arith, one, starts)))
]

turns-inside : (m : Machine) (r : NodeState) (p : Pace) (ts : List Turn) → AreTurns m r p ts → outside (told_in ts) ≡ 0
turns-inside m r p [] turns = refl
turns-inside m r p (t ∷ ts) turns =
    let one = turn-inside m r p m.quantum t turns.1 in
    let rest = turns-inside m (state_after_entries m r t.told) (after_turn m r p t) ts turns.2 in
    let sum = outside-append t.told (told_in ts) in omega (arith, one, rest, sum)

occasion-one : (m : Machine) (r : NodeState) (h : HandlerId) (payload : ArrayVec ℤ) (told : List JournalEntry) → Occasion m r h payload told → outside told ≤ 1
occasion-one m r h payload told (inl x) = let e = ap outside x.made in omega (arith, e)
occasion-one m r h payload told (inr (inl x)) = let e = ap outside x.made in omega (arith, e)
occasion-one m r h payload told (inr (inr x)) = let e = ap outside x.made in let starts = starts-inside x.starts x.are_starts in omega (arith, e, starts)

install-few : (m : Machine) (r : NodeState) (x : HeldProgram) (rest : List JournalEntry) (b : Bool) → m.runs_once x.handler ≡ b
    → MatchBool (m.runs_once x.handler) (Occasion m (next_state m r (Installed x)) x.handler (record { items = [] }) rest) (rest ≡ []) → outside rest ≤ 1
install-few m r x rest true is follows = occasion-one m (next_state m r (Installed x)) x.handler (record { items = [] }) rest (MatchBool-at_true _ _ is follows)
install-few m r x rest false is follows = let e = ap outside (MatchBool-at_false _ _ is follows) in omega (arith, e)

makes-few : (m : Machine) (r : NodeState) (p : Pace) (step : Step) (told : List JournalEntry) (q : Pace) → Makes m r p step told q → outside told ≤ 3
makes-few m r p (Install x) told q made = by made.0 where
  by : Installs m r p x told ⊎ IsNotNewer r x told → outside told ≤ 3
  by (inl i) = let rest = install-few m r x i.rest (m.runs_once x.handler) refl i.follows in let e = ap outside i.made in omega (arith, e, rest)
  by (inr n) = let e = ap outside n.made in omega (arith, e)
makes-few m r p (Post h payload) told q made = let one = occasion-one m r h payload told made.0 in omega (arith, one)
makes-few m r p (StepIn c n) told q (inl t) = let e = turn-inside m r p n (record { invocation = t.invocation; told = told }) t.turn in omega (arith, e)
makes-few m r p (StepIn c n) told q (inr x) = let e = ap outside x.0.made in omega (arith, e)
makes-few m r p Run told q made = let e = turns-inside m r p made.turns made.are_turns in let is = ap outside made.made in omega (arith, e, is)
makes-few m r p (Answer c value) told q made = by made.0 where
  by : AnswersCall r c value told ⊎ IsNotWaiting r c told → outside told ≤ 3
  by (inl a) = let e = ap outside a.made in omega (arith, e)
  by (inr n) = let e = ap outside n.made in omega (arith, e)
makes-few m r p Show told q made = let e = ap outside made.0.made in omega (arith, e)
makes-few m r p ResetNode told q made = let e = ap outside made.0.made in omega (arith, e)

-- ---- the run

-- the last event that was begun brings three at most
made-few : (m : Machine) (records n : ℕ) (r : NodeState) (p : Pace) (steps : List Step) (es : List TimedEntry) (q : Pace) → HaveMade (EndsWithPace q) m records n r p steps es
    → (outside (untimed es) ≡ 0) ⊎ (records + outside (untimed es) < RECORDS_MAX + 3)
made-few m records n r p [] es q made = inl (ap (λ (xs : List TimedEntry). outside (untimed xs)) made.0)
made-few m records n r p (step ∷ steps) es q (few, told, rest, pace, is, makes, later) =
    by (made-few m (records + length told) (suc n) (state_after_entries m r told) pace steps rest q later) where
      sum : outside (untimed es) ≡ outside told + outside (untimed rest)
      sum = ap (λ (xs : List TimedEntry). outside (untimed xs)) is ∙ ap outside (told_by-made n told rest) ∙ outside-append told (untimed rest)

      here : outside told ≤ 3
      here = makes-few m r p step told pace makes

      by : (outside (untimed rest) ≡ 0) ⊎ (records + length told + outside (untimed rest) < RECORDS_MAX + 3) → (outside (untimed es) ≡ 0) ⊎ (records + outside (untimed es) < RECORDS_MAX + 3)
      by (inl none) = let room = few in let three = here in let all = sum in inr (omega (arith, none, room, three, all))
      by (inr less) = let long = outside-all told in let all = sum in inr (omega (arith, less, long, all))

-- a run's log is far from a position's end
pub run-few : (m : Machine) (steps : List Step) (es : List TimedEntry) (q : Pace) → HaveMade (EndsWithPace q) m 0 1 (first_state m) no_pace steps es → AtEachEntry (MayFollow m) m (first_state m) es
    → length es ≤ 3 * (RECORDS_MAX + 3)
run-few m steps es q made follow =
    let all = owing-all m (first_state m) es follow (record { numbered = (nothing_heard-orderly m).numbered }) in
    by (made-few m 0 1 (first_state m) no_pace steps es q made) all where
      by : (outside (untimed es) ≡ 0) ⊎ (0 + outside (untimed es) < RECORDS_MAX + 3) → length es ≤ 3 * outside (untimed es) + owing (first_state m) → length es ≤ 3 * (RECORDS_MAX + 3)
      by (inl none) all = omega (arith, none, all)
      by (inr few) all = omega (arith, few, all)
