-- The starts at a place of a journal are one list: they rise, and leave no queued invocation that may start.
use Rattle.std.proofs.Common.{◌≡◌, ◌≢◌, ℕ, ◌<◌, ◌≤◌, Bool, true, false, IsTrue, List, [], ◌∷◌, ◌++◌, All, refl, sym, ◌∙◌, ap, subst, inl, inr, ◌⊎◌, ◌==◌, arith}
use Rattle.std.proofs.lemmas.Bool.Decides.{eqb_tells, leb_tells}
use Rattle.std.proofs.lemmas.List.Elements.{All-head, All-tail}
use Rattle.mate_num.specs.Uses.{Uses, Conflicts}
use Rattle.mate_journal.specs.Machine.{Machine, HeldProgram}
use Rattle.mate_journal.specs.Journal.{JournalEntry, Posted, Dropped, Started, Asked, Answered, Ended, Installed, Reset, Seen, Void, Queued, is_started, Invocation, NodeState, next_state}
use Rattle.mate_journal.specs.Grants.{IsAhead, AreConflicting, MayStart, IsStart, started_number}
use Rattle.journal_laws.proofs.Apart.{Conflicts-swap}
use Rattle.journal_laws.proofs.Moves.{started-Moves}
use Rattle.report_laws.proofs.Rules.{KeepsRules, BeginsOtherwise, held-here}

program-kept : (m : Machine) (r : NodeState) (j k : ℕ) → ((next_state m r (Started j)).invocations k).program ≡ (r.invocations k).program
program-kept m r j k =
    elim (eqb_tells k j) [
      | inl t ↦ subst (λ (i : ℕ). ((next_state m r (Started j)).invocations i).program ≡ (r.invocations i).program) (sym t.1) (started-Moves m r j).program
      | inr u ↦ ap (λ (i : Invocation). i.program) ((started-Moves m r j).others k u.1)
    ]

conflict-kept : (m : Machine) (r : NodeState) (j n k : ℕ) → AreConflicting m (next_state m r (Started j)) n k → AreConflicting m r n k
conflict-kept m r j n k conflict =
    subst (λ (p : HeldProgram). Conflicts (m.meaning.uses p) (m.meaning.uses (r.invocations k).program)) (program-kept m r j n)
    (subst (λ (p : HeldProgram). Conflicts (m.meaning.uses ((next_state m r (Started j)).invocations n).program) (m.meaning.uses p)) (program-kept m r j k) conflict)

-- whoever may start still may, where a later one that may is started
still-free : (m : Machine) (r : NodeState) (n j : ℕ) → n < j → (r.invocations n).phase ≡ Queued → MayStart m r n → MayStart m r j → MayStart m (next_state m r (Started j)) n
still-free m r n j low queued free later k ahead conflict = by (eqb_tells k j) where
  was : AreConflicting m r n k
  was = conflict-kept m r j n k conflict

  by : ((k == j) ≡ true) × (k ≡ j) ⊎ ((k == j) ≡ false) × (k ≢ j) → ⊥
  by (inl t) = later n (inr (low, queued)) (Conflicts-swap (m.meaning.uses (r.invocations n).program) (m.meaning.uses (r.invocations j).program) (subst (λ (i : ℕ). AreConflicting m r n i) t.1 was))
  by (inr u) = free k (subst (λ (i : Invocation). IsTrue (is_started i.phase) ⊎ ((k < n) × (i.phase ≡ Queued))) ((started-Moves m r j).others k u.1) ahead) was

still-queued : (m : Machine) (r : NodeState) (n j : ℕ) → n < j → (r.invocations n).phase ≡ Queued → ((next_state m r (Started j)).invocations n).phase ≡ Queued
still-queued m r n j low queued =
    let other : n ≢ j = λ e. let h : n < n = subst (λ (x : ℕ). n < x) (sym e) low in omega (arith, h) in
    ap (λ (i : Invocation). i.phase) ((started-Moves m r j).others n other) ∙ queued

-- nobody who may start is passed over
passed-over : (m : Machine) (r : NodeState) (last n : ℕ) (starts rest : List JournalEntry) → n ≤ last → (r.invocations n).phase ≡ Queued → MayStart m r n → All IsStart starts
    → KeepsRules m r last (starts ++ rest) → BeginsOtherwise rest → ⊥
passed-over m r last n [] rest low queued free are_starts keeps other = let held = held-here m r last rest keeps other n queued in free held.by held.ahead held.conflict
passed-over m r last n (Started j ∷ starts) rest low queued free are_starts keeps other =
    let rises = keeps.2.1 in
    let below : n < j = omega (arith, low, rises) in
    passed-over m (next_state m r (Started j)) j n starts rest (omega (arith, below)) (still-queued m r n j below queued) (still-free m r n j below queued free keeps.2.0)
    (All-tail IsStart (Started j) starts are_starts) keeps.3 other
passed-over m r last n (t ∷ starts) rest low queued free are_starts keeps other = absurd (All-head IsStart t starts are_starts)

-- the number that a start has
record StartIs (t : JournalEntry) : Type 0 where
  pub number : ℕ
  pub is : t ≡ Started number

start-is : (t : JournalEntry) → IsStart t → StartIs t
start-is (Started n) start = record { number = n; is = refl }
start-is _ start = absurd start

-- nobody starts where the others end
starts-end : (m : Machine) (r : NodeState) (last : ℕ) (rest : List JournalEntry) (j : ℕ) (more : List JournalEntry) → KeepsRules m r last rest → BeginsOtherwise rest → KeepsRules m r last (Started j ∷ more) → ⊥
starts-end m r last rest j more keeps other keeps' = let held = held-here m r last rest keeps other j keeps'.0 in keeps'.2.0 held.by held.ahead held.conflict

-- the lower of two starts isn't passed over
lower-first : (m : Machine) (r : NodeState) (last i j : ℕ) (more starts rest : List JournalEntry) → i < j → All IsStart starts → KeepsRules m r last (Started i ∷ more) → KeepsRules m r last (Started j ∷ (starts ++ rest))
    → BeginsOtherwise rest → ⊥
lower-first m r last i j more starts rest low are_starts keeps keeps' other =
    passed-over m (next_state m r (Started j)) j i starts rest (omega (arith, low)) (still-queued m r i j low keeps.0) (still-free m r i j low keeps.0 keeps.2.0 keeps'.2.0) are_starts keeps'.3 other

pub starts-once : (m : Machine) (r : NodeState) (last : ℕ) (xs rest ys rest' : List JournalEntry) → All IsStart xs → All IsStart ys → KeepsRules m r last (xs ++ rest) → KeepsRules m r last (ys ++ rest')
    → BeginsOtherwise rest → BeginsOtherwise rest' → xs ≡ ys
starts-once m r last [] rest [] rest' are_starts are_starts' keeps keeps' other other' = refl
starts-once m r last [] rest (y ∷ ys) rest' are_starts are_starts' keeps keeps' other other' =
    let start = start-is y (All-head IsStart y ys are_starts') in
    absurd (starts-end m r last rest start.number (ys ++ rest') keeps other (subst (λ (t : JournalEntry). KeepsRules m r last (t ∷ (ys ++ rest'))) start.is keeps'))
starts-once m r last (x ∷ xs) rest [] rest' are_starts are_starts' keeps keeps' other other' =
    let start = start-is x (All-head IsStart x xs are_starts) in
    absurd (starts-end m r last rest' start.number (xs ++ rest) keeps' other' (subst (λ (t : JournalEntry). KeepsRules m r last (t ∷ (xs ++ rest))) start.is keeps))
starts-once m r last (x ∷ xs) rest (y ∷ ys) rest' are_starts are_starts' keeps keeps' other other' =
    ap (λ (t : JournalEntry). t ∷ xs) first ∙ ap (λ (ts : List JournalEntry). y ∷ ts)
    (starts-once m (next_state m r x) (started_number x) xs rest ys rest' (All-tail IsStart x xs are_starts) (All-tail IsStart y ys are_starts') keeps.3
    (subst (λ (t : JournalEntry). KeepsRules m (next_state m r t) (started_number t) (ys ++ rest')) (sym first) keeps'.3) other other') where
      start : StartIs x
      start = start-is x (All-head IsStart x xs are_starts)

      start' : StartIs y
      start' = start-is y (All-head IsStart y ys are_starts')

      keeps-x : KeepsRules m r last (Started start.number ∷ (xs ++ rest))
      keeps-x = subst (λ (t : JournalEntry). KeepsRules m r last (t ∷ (xs ++ rest))) start.is keeps

      keeps-y : KeepsRules m r last (Started start'.number ∷ (ys ++ rest'))
      keeps-y = subst (λ (t : JournalEntry). KeepsRules m r last (t ∷ (ys ++ rest'))) start'.is keeps'

      not-lower : start.number < start'.number → ⊥
      not-lower low = lower-first m r last start.number start'.number (xs ++ rest) ys rest' low (All-tail IsStart y ys are_starts') keeps-x keeps-y other'

      not-higher : start'.number < start.number → ⊥
      not-higher low = lower-first m r last start'.number start.number (ys ++ rest') xs rest low (All-tail IsStart x xs are_starts) keeps-y keeps-x other

      same : start.number ≡ start'.number
      same = elim (leb_tells start.number start'.number) [
        | inl t ↦ elim (leb_tells start'.number start.number) [
          | inl v ↦ let a = t.1 in let b = v.1 in omega (arith, a, b)
          | inr v ↦ absurd (not-lower v.1)
        ]
        | inr u ↦ absurd (not-higher u.1)
      ]

      first : x ≡ y
      first = start.is ∙ ap Started same ∙ sym start'.is
