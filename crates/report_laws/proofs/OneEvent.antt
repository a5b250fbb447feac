-- What an event makes is one list of entries, and leaves one pace.
use Rattle.std.proofs.Common.{◌≡◌, ℕ, List, [], ◌∷◌, ◌++◌, sym, ◌∙◌, ap, subst, append_assoc}
use Rattle.std.specs.Prelude.{ℤ}
use Rattle.arrayvec.specs.ArrayVec.{ArrayVec}
use Rattle.mate_num.specs.declared.id.HandlerId.{HandlerId}
use Rattle.mate_num.specs.declared.store.Store.{Store}
use Rattle.mate_journal.specs.Machine.{Machine}
use Rattle.mate_journal.specs.Journal.{JournalEntry, Seen, Reset, NodeState, state_after_entries}
use Rattle.mate_journal.specs.Pace.{Pace, paced_all}
use Rattle.mate_journal.specs.Turns.{Settles, told_in, pace_after}
use Rattle.mate_journal.specs.NodeScript.{ShowsOnce, Resets}
use Rattle.world_rules.specs.Effect.{Deed, Nothing, Installing, Posting, Answering, Showing, Resetting}
use Rattle.world_rules.specs.Run.{FirstThen, Occasions, DeedMakes}
use Rattle.report_laws.proofs.Rules.{KeepsRules, start_after, keeps-back, BeginsOtherwise}
use Rattle.report_laws.proofs.OneSeen.{seen-once}
use Rattle.report_laws.proofs.OneTurn.{turns-other, turns-once}
use Rattle.report_laws.proofs.OneStep.{occasion-once, occasion-other, installs-once}

-- ---- occasions

pub occasions-other : (m : Machine) (payload : ArrayVec ℤ) (hs : List HandlerId) (r : NodeState) (p : Pace) (xs rest : List JournalEntry) → Occasions m payload hs r p xs → BeginsOtherwise rest → BeginsOtherwise (xs ++ rest)
occasions-other m payload [] r p xs rest a other = subst (λ (ts : List JournalEntry). BeginsOtherwise (ts ++ rest)) (sym a) other
occasions-other m payload (h ∷ hs) r p xs rest a other =
    subst BeginsOtherwise (sym (ap (λ (ts : List JournalEntry). ts ++ rest) a.made ∙ append_assoc a.front a.rest rest))
    (occasion-other m r h payload a.front (a.rest ++ rest) a.by_first
    (occasions-other m payload hs (state_after_entries m r a.front) (paced_all p a.front) a.rest rest a.by_second other))

pub occasions-once : (m : Machine) (payload : ArrayVec ℤ) (hs : List HandlerId) (r : NodeState) (p : Pace) (last : ℕ) (xs rest ys rest' : List JournalEntry) → Occasions m payload hs r p xs → Occasions m payload hs r p ys
    → KeepsRules m r last (xs ++ rest) → KeepsRules m r last (ys ++ rest') → BeginsOtherwise rest → BeginsOtherwise rest' → xs ≡ ys
occasions-once m payload [] r p last xs rest ys rest' a b keeps keeps' other other' = a ∙ sym b
occasions-once m payload (h ∷ hs) r p last xs rest ys rest' a b keeps keeps' other other' =
    a.made ∙ ap (λ (ts : List JournalEntry). ts ++ a.rest) front ∙ ap (λ (ts : List JournalEntry). b.front ++ ts)
    (occasions-once m payload hs (state_after_entries m r b.front) (paced_all p b.front) (start_after last b.front) a.rest rest b.rest rest'
    (subst (λ (ts : List JournalEntry). Occasions m payload hs (state_after_entries m r ts) (paced_all p ts) a.rest) front a.by_second) b.by_second
    (subst (λ (ts : List JournalEntry). KeepsRules m (state_after_entries m r ts) (start_after last ts) (a.rest ++ rest)) front (keeps-back m r last a.front (a.rest ++ rest) keeps-a))
    (keeps-back m r last b.front (b.rest ++ rest') keeps-b) other other') ∙ sym b.made where
      keeps-a : KeepsRules m r last (a.front ++ (a.rest ++ rest))
      keeps-a = subst (KeepsRules m r last) (ap (λ (ts : List JournalEntry). ts ++ rest) a.made ∙ append_assoc a.front a.rest rest) keeps

      keeps-b : KeepsRules m r last (b.front ++ (b.rest ++ rest'))
      keeps-b = subst (KeepsRules m r last) (ap (λ (ts : List JournalEntry). ts ++ rest') b.made ∙ append_assoc b.front b.rest rest') keeps'

      front : a.front ≡ b.front
      front = occasion-once m r last h payload a.front (a.rest ++ rest) b.front (b.rest ++ rest') a.by_first b.by_first keeps-a keeps-b
          (occasions-other m payload hs (state_after_entries m r a.front) (paced_all p a.front) a.rest rest a.by_second other)
          (occasions-other m payload hs (state_after_entries m r b.front) (paced_all p b.front) b.rest rest' b.by_second other')

-- ---- deeds

-- the store that is shown first is one
pub shown-once : (m : Machine) (r : NodeState) (p : Pace) (last : ℕ) (xs rest ys rest' : List JournalEntry) → (a : ShowsOnce m r p xs) → (b : ShowsOnce m r p ys)
    → KeepsRules m r last (xs ++ rest) → KeepsRules m r last (ys ++ rest') → xs ≡ ys
shown-once m r p last xs rest ys rest' a b keeps keeps' =
    let keeps-a : KeepsRules m r last (Seen a.seen ∷ rest) = subst (λ (ts : List JournalEntry). KeepsRules m r last (ts ++ rest)) a.made keeps in
    let keeps-b : KeepsRules m r last (Seen b.seen ∷ rest') = subst (λ (ts : List JournalEntry). KeepsRules m r last (ts ++ rest')) b.made keeps' in
    a.made ∙ ap (λ (s : Store). Seen s ∷ []) (seen-once m r p a.seen b.seen keeps-a.1 keeps-b.1 a.shown b.shown) ∙ sym b.made

resets-once : (m : Machine) (r : NodeState) (p : Pace) (last : ℕ) (xs rest ys rest' : List JournalEntry) → (a : Resets m r p xs) → (b : Resets m r p ys)
    → KeepsRules m r last (xs ++ rest) → KeepsRules m r last (ys ++ rest') → xs ≡ ys
resets-once m r p last xs rest ys rest' a b keeps keeps' =
    let keeps-a : KeepsRules m r last (Seen a.seen ∷ Reset ∷ rest) = subst (λ (ts : List JournalEntry). KeepsRules m r last (ts ++ rest)) a.made keeps in
    let keeps-b : KeepsRules m r last (Seen b.seen ∷ Reset ∷ rest') = subst (λ (ts : List JournalEntry). KeepsRules m r last (ts ++ rest')) b.made keeps' in
    a.made ∙ ap (λ (s : Store). Seen s ∷ Reset ∷ []) (seen-once m r p a.seen b.seen keeps-a.1 keeps-b.1 a.shown b.shown) ∙ sym b.made

pub deed-other : (m : Machine) (deed : Deed) (r : NodeState) (p : Pace) (xs rest : List JournalEntry) → DeedMakes m deed r p xs → BeginsOtherwise rest → BeginsOtherwise (xs ++ rest)
deed-other m Nothing r p xs rest a other = subst (λ (ts : List JournalEntry). BeginsOtherwise (ts ++ rest)) (sym a) other
deed-other m (Posting hs payload) r p xs rest a other = occasions-other m payload hs r p xs rest a other
deed-other m (Answering inv value) r p xs rest a other = subst (λ (ts : List JournalEntry). BeginsOtherwise (ts ++ rest)) (sym a) (λ start. start)
deed-other m _ r p xs rest a other = subst (λ (ts : List JournalEntry). BeginsOtherwise (ts ++ rest)) (sym a.made) (λ start. start)

pub deed-once : (m : Machine) (deed : Deed) (r : NodeState) (p : Pace) (last : ℕ) (xs rest ys rest' : List JournalEntry) → DeedMakes m deed r p xs → DeedMakes m deed r p ys
    → KeepsRules m r last (xs ++ rest) → KeepsRules m r last (ys ++ rest') → BeginsOtherwise rest → BeginsOtherwise rest' → xs ≡ ys
deed-once m Nothing r p last xs rest ys rest' a b keeps keeps' other other' = a ∙ sym b
deed-once m (Installing x) r p last xs rest ys rest' a b keeps keeps' other other' = installs-once m r p last x xs rest ys rest' a b keeps keeps' other other'
deed-once m (Posting hs payload) r p last xs rest ys rest' a b keeps keeps' other other' = occasions-once m payload hs r p last xs rest ys rest' a b keeps keeps' other other'
deed-once m (Answering inv value) r p last xs rest ys rest' a b keeps keeps' other other' = a ∙ sym b
deed-once m Showing r p last xs rest ys rest' a b keeps keeps' other other' = shown-once m r p last xs rest ys rest' a b keeps keeps'
deed-once m Resetting r p last xs rest ys rest' a b keeps keeps' other other' = resets-once m r p last xs rest ys rest' a b keeps keeps'

-- ---- events

-- the deed's entries, and then turns, which leave this pace
abbrev pub EventMakes : Machine → Deed → NodeState → Pace → List JournalEntry → Pace → Type 0
EventMakes m deed r p told q = FirstThen m (DeedMakes m deed) (λ r p told. Settles m r p told q) r p told

settles-other : (m : Machine) (r : NodeState) (p q : Pace) (xs rest : List JournalEntry) → Settles m r p xs q → BeginsOtherwise rest → BeginsOtherwise (xs ++ rest)
settles-other m r p q xs rest a other = subst (λ (ts : List JournalEntry). BeginsOtherwise (ts ++ rest)) (sym a.made) (turns-other m r p a.turns rest a.are_turns other)

settles-once : (m : Machine) (r : NodeState) (p : Pace) (last : ℕ) (xs : List JournalEntry) (q : Pace) (rest ys : List JournalEntry) (q' : Pace) (rest' : List JournalEntry) → Settles m r p xs q → Settles m r p ys q'
    → KeepsRules m r last (xs ++ rest) → KeepsRules m r last (ys ++ rest') → BeginsOtherwise rest → BeginsOtherwise rest' → (xs ≡ ys) × (q ≡ q')
settles-once m r p last xs q rest ys q' rest' a b keeps keeps' other other' =
    let same = turns-once m r p last a.turns rest b.turns rest' a.are_turns b.are_turns (sym (ap (λ (x : Pace). x.line) a.then) ∙ a.empty) (sym (ap (λ (x : Pace). x.line) b.then) ∙ b.empty)
    (subst (λ (ts : List JournalEntry). KeepsRules m r last (ts ++ rest)) a.made keeps) (subst (λ (ts : List JournalEntry). KeepsRules m r last (ts ++ rest')) b.made keeps') other other' in
    (a.made ∙ ap told_in same ∙ sym b.made, a.then ∙ ap (pace_after m r p) same ∙ sym b.then)

pub event-other : (m : Machine) (deed : Deed) (r : NodeState) (p : Pace) (xs : List JournalEntry) (q : Pace) (rest : List JournalEntry) → EventMakes m deed r p xs q → BeginsOtherwise rest → BeginsOtherwise (xs ++ rest)
event-other m deed r p xs q rest a other =
    subst BeginsOtherwise (sym (ap (λ (ts : List JournalEntry). ts ++ rest) a.made ∙ append_assoc a.front a.rest rest))
    (deed-other m deed r p a.front (a.rest ++ rest) a.by_first
    (settles-other m (state_after_entries m r a.front) (paced_all p a.front) q a.rest rest a.by_second other))

pub event-once : (m : Machine) (deed : Deed) (r : NodeState) (p : Pace) (last : ℕ) (xs : List JournalEntry) (q : Pace) (rest ys : List JournalEntry) (q' : Pace) (rest' : List JournalEntry) → EventMakes m deed r p xs q → EventMakes m deed r p ys q'
    → KeepsRules m r last (xs ++ rest) → KeepsRules m r last (ys ++ rest') → BeginsOtherwise rest → BeginsOtherwise rest' → (xs ≡ ys) × (q ≡ q')
event-once m deed r p last xs q rest ys q' rest' a b keeps keeps' other other' =
    (a.made ∙ ap (λ (ts : List JournalEntry). ts ++ a.rest) front ∙ ap (λ (ts : List JournalEntry). b.front ++ ts) back.0 ∙ sym b.made, back.1) where
      keeps-a : KeepsRules m r last (a.front ++ (a.rest ++ rest))
      keeps-a = subst (KeepsRules m r last) (ap (λ (ts : List JournalEntry). ts ++ rest) a.made ∙ append_assoc a.front a.rest rest) keeps

      keeps-b : KeepsRules m r last (b.front ++ (b.rest ++ rest'))
      keeps-b = subst (KeepsRules m r last) (ap (λ (ts : List JournalEntry). ts ++ rest') b.made ∙ append_assoc b.front b.rest rest') keeps'

      front : a.front ≡ b.front
      front = deed-once m deed r p last a.front (a.rest ++ rest) b.front (b.rest ++ rest') a.by_first b.by_first keeps-a keeps-b
          (settles-other m (state_after_entries m r a.front) (paced_all p a.front) q a.rest rest a.by_second other)
          (settles-other m (state_after_entries m r b.front) (paced_all p b.front) q' b.rest rest' b.by_second other')

      back : (a.rest ≡ b.rest) × (q ≡ q')
      back = settles-once m (state_after_entries m r b.front) (paced_all p b.front) (start_after last b.front) a.rest q rest b.rest q' rest'
          (subst (λ (ts : List JournalEntry). Settles m (state_after_entries m r ts) (paced_all p ts) a.rest q) front a.by_second) b.by_second
          (subst (λ (ts : List JournalEntry). KeepsRules m (state_after_entries m r ts) (start_after last ts) (a.rest ++ rest)) front (keeps-back m r last a.front (a.rest ++ rest) keeps-a))
          (keeps-back m r last b.front (b.rest ++ rest') keeps-b) other other'
