-- What turns record is one list.
use Rattle.std.proofs.Common.{◌≡◌, ℕ, ◌+◌, ◌<◌, ◌≤◌, List, [], ◌∷◌, ◌++◌, All, refl, sym, ◌∙◌, ap, subst, inl, inr, arith, append_assoc}
use Rattle.std.proofs.lemmas.Bool.Decides.{leb_tells}
use Rattle.mate_num.specs.declared.call.End.{End}
use Rattle.mate_num.specs.declared.call.End.TheVariants as end
use Rattle.mate_journal.specs.Machine.{Machine}
use Rattle.mate_journal.specs.Journal.{JournalEntry, NodeState, next_state, state_after_entries, whole_run}
use Rattle.mate_journal.specs.Grants.{IsStart, started_number}
use Rattle.mate_journal.specs.Pace.{Pace}
use Rattle.mate_journal.specs.Turns.{mark_of, Turn, entry_at, IsAtMark, IsTurn, after_turn, AreTurns, told_in, pace_after}
use Rattle.report_laws.proofs.Rules.{KeepsRules, start_after, keeps-back, BeginsOtherwise}
use Rattle.report_laws.proofs.OneStart.{starts-once}

-- a mark's entry starts nobody
entry-other : (n : ℕ) (how : End) (ts : List JournalEntry) → BeginsOtherwise (entry_at n how ∷ ts)
entry-other n end.Halt ts start = absurd start
entry-other n _ ts start = absurd start

abbrev one_turn : ℕ → List JournalEntry → Turn
one_turn n told = record { invocation = n; told = told }

-- what a turn tells begins with no start
pub turn-other : (m : Machine) (r : NodeState) (p : Pace) (instructions n : ℕ) (told rest : List JournalEntry) → IsTurn m r p instructions (one_turn n told) → BeginsOtherwise rest → BeginsOtherwise (told ++ rest)
turn-other m r p instructions n told rest turn other =
    elim (leb_tells (mark_of m r n) (p.counts n + instructions)) [
      | inl t ↦ let mark = turn.reached t.1 in
          subst (λ (ts : List JournalEntry). BeginsOtherwise (ts ++ rest)) (sym mark.told_is) (entry-other n (whole_run m r n).end (mark.starts ++ rest))
      | inr u ↦ subst (λ (ts : List JournalEntry). BeginsOtherwise (ts ++ rest)) (sym (turn.short u.1)) other
    ]

pub turn-once : (m : Machine) (r : NodeState) (p : Pace) (instructions n last : ℕ) (told rest told' rest' : List JournalEntry)
    → IsTurn m r p instructions (one_turn n told) → IsTurn m r p instructions (one_turn n told') → KeepsRules m r last (told ++ rest) → KeepsRules m r last (told' ++ rest')
    → BeginsOtherwise rest → BeginsOtherwise rest' → told ≡ told'
turn-once m r p instructions n last told rest told' rest' turn turn' keeps keeps' other other' =
    elim (leb_tells (mark_of m r n) (p.counts n + instructions)) [
      | inl t ↦ at_mark (turn.reached t.1) (turn'.reached t.1)
      | inr u ↦ turn.short u.1 ∙ sym (turn'.short u.1)
    ] where
      entry : JournalEntry
      entry = entry_at n (whole_run m r n).end

      at_mark : IsAtMark m r (one_turn n told) → IsAtMark m r (one_turn n told') → told ≡ told'
      at_mark a b =
          let keeps-a : KeepsRules m r last (entry ∷ (a.starts ++ rest)) = subst (λ (ts : List JournalEntry). KeepsRules m r last (ts ++ rest)) a.told_is keeps in
          let keeps-b : KeepsRules m r last (entry ∷ (b.starts ++ rest')) = subst (λ (ts : List JournalEntry). KeepsRules m r last (ts ++ rest')) b.told_is keeps' in
          a.told_is ∙ ap (λ (ts : List JournalEntry). entry ∷ ts) (starts-once m (next_state m r entry) (started_number entry) a.starts rest b.starts rest' a.are_starts b.are_starts keeps-a.3 keeps-b.3 other other')
          ∙ sym b.told_is

pub turns-other : (m : Machine) (r : NodeState) (p : Pace) (ts : List Turn) (rest : List JournalEntry) → AreTurns m r p ts → BeginsOtherwise rest → BeginsOtherwise (told_in ts ++ rest)
turns-other m r p [] rest turns other = other
turns-other m r p (t ∷ ts) rest turns other =
    subst BeginsOtherwise (sym (append_assoc t.told (told_in ts) rest))
    (turn-other m r p m.quantum t.invocation t.told (told_in ts ++ rest) turns.1
    (turns-other m (state_after_entries m r t.told) (after_turn m r p t) ts rest turns.2 other))

-- the first of the line is one
first-once : (line : List ℕ) (a b : ℕ) (as_ bs : List ℕ) → line ≡ a ∷ as_ → line ≡ b ∷ bs → a ≡ b
first-once line a b as_ bs is is' = let h : a ∷ as_ ≡ b ∷ bs = sym is ∙ is' in cc

none-first : (line : List ℕ) (a : ℕ) (as_ : List ℕ) → line ≡ [] → line ≡ a ∷ as_ → ⊥
none-first line a as_ is is' = let h : [] ≡ a ∷ as_ = sym is ∙ is' in cc

pub turns-once : (m : Machine) (r : NodeState) (p : Pace) (last : ℕ) (xs : List Turn) (rest : List JournalEntry) (ys : List Turn) (rest' : List JournalEntry) → AreTurns m r p xs → AreTurns m r p ys
    → (pace_after m r p xs).line ≡ [] → (pace_after m r p ys).line ≡ [] → KeepsRules m r last (told_in xs ++ rest) → KeepsRules m r last (told_in ys ++ rest') → BeginsOtherwise rest → BeginsOtherwise rest' → xs ≡ ys
turns-once m r p last [] rest [] rest' turns turns' empty empty' keeps keeps' other other' = refl
turns-once m r p last [] rest (y ∷ ys) rest' turns turns' empty empty' keeps keeps' other other' = absurd (none-first p.line y.invocation turns'.0.0 empty turns'.0.1)
turns-once m r p last (x ∷ xs) rest [] rest' turns turns' empty empty' keeps keeps' other other' = absurd (none-first p.line x.invocation turns.0.0 empty' turns.0.1)
turns-once m r p last (x ∷ xs) rest (y ∷ ys) rest' turns turns' empty empty' keeps keeps' other other' =
    ap (λ (t : Turn). t ∷ xs) same ∙ ap (λ (ts : List Turn). y ∷ ts)
    (turns-once m (state_after_entries m r y.told) (after_turn m r p y) (start_after last y.told) xs rest ys rest'
    (subst (λ (t : Turn). AreTurns m (state_after_entries m r t.told) (after_turn m r p t) xs) same turns.2) turns'.2
    (subst (λ (t : Turn). (pace_after m (state_after_entries m r t.told) (after_turn m r p t) xs).line ≡ []) same empty) empty'
    (subst (λ (t : Turn). KeepsRules m (state_after_entries m r t.told) (start_after last t.told) (told_in xs ++ rest)) same (keeps-back m r last x.told (told_in xs ++ rest) keeps-x))
    (keeps-back m r last y.told (told_in ys ++ rest') keeps-y) other other') where
      keeps-x : KeepsRules m r last (x.told ++ (told_in xs ++ rest))
      keeps-x = subst (KeepsRules m r last) (append_assoc x.told (told_in xs) rest) keeps

      keeps-y : KeepsRules m r last (y.told ++ (told_in ys ++ rest'))
      keeps-y = subst (KeepsRules m r last) (append_assoc y.told (told_in ys) rest') keeps'

      who : x.invocation ≡ y.invocation
      who = first-once p.line x.invocation y.invocation turns.0.0 turns'.0.0 turns.0.1 turns'.0.1

      turn-x : IsTurn m r p m.quantum (one_turn y.invocation x.told)
      turn-x = subst (λ (n : ℕ). IsTurn m r p m.quantum (one_turn n x.told)) who turns.1

      what : x.told ≡ y.told
      what = turn-once m r p m.quantum y.invocation last x.told (told_in xs ++ rest) y.told (told_in ys ++ rest') turn-x turns'.1 keeps-x keeps-y
          (turns-other m (state_after_entries m r x.told) (after_turn m r p x) xs rest turns.2 other) (turns-other m (state_after_entries m r y.told) (after_turn m r p y) ys rest' turns'.2 other')

      same : x ≡ y
      same = ap (λ (n : ℕ). one_turn n x.told) who ∙ ap (λ (ts : List JournalEntry). one_turn y.invocation ts) what
