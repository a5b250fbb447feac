-- Settling tells little: each live invocation starts once and comes to one mark. So each entry has a number of its own below 32, by
-- its invocation's context and by what it may tell after that.
use Rattle.std.proofs.Common.{◌≡◌, ◌≢◌, ◌<◌, ◌≤◌, ◌+◌, ◌*◌, ℕ, suc, Bool, true, false, IsTrue, List, [], ◌∷◌, length, eqb, refl, sym, ◌∙◌, ap, subst, arith, inl, inr}
use Rattle.std.specs.Prelude.{◌==◌, ◌||◌}
use Rattle.std.specs.List.{IsDistinct, AllByRecursion, list_any}
use Rattle.std.proofs.lemmas.Bool.{cases_lt, ne_eqb}
use Rattle.std.proofs.lemmas.Bool.Decides.{eqb_tells}
use Rattle.std.proofs.lemmas.Map.Steps.{length-le_from_distinct_below}
use Rattle.mate_num.specs.declared.bounds.TheConstants.{CONTEXTS_MAX}
use Rattle.mate_num.specs.declared.id.ContextId.{ContextId}
use Rattle.mate_journal.specs.Machine.{Machine}
use Rattle.mate_journal.specs.Journal.{JournalEntry, Started, Asked, Ended, Phase, Unposted, Queued, Ready, Waiting, Over, is_live, Invocation, NodeState, next_state}
use Rattle.mate_journal.specs.WellFormed.{MayFollow}
use Rattle.journal_laws.proofs.Changed.{changed-here}
use Rattle.journal_laws.proofs.FewLemmas.{entries_left, left_at}
use Rattle.journal_laws.proofs.Moves.{started-Moves, asked-Moves, ended-Moves}
use Rattle.journal_laws.specs.Waiting.{AreFollowing}
use Rattle.journal_laws.proofs.WaitsApart.{LiveApart, LiveSmall}
use Rattle.journal_laws.proofs.Settling.{IsOfTurn, AreOfTurns}

-- ---- where an invocation stands that may still tell anything while turns settle

abbrev place : NodeState → ℕ → ℕ
place r n = (r.invocations n).context.0

-- those that may tell anything have contexts of their own, below 16
record ArePlaced (r : NodeState) : Type 0 where
  apart : (a b : ℕ) → 0 < left_at r a → 0 < left_at r b → place r a ≡ place r b → a ≡ b
  small : (n : ℕ) → 0 < left_at r n → place r n < CONTEXTS_MAX

left-live : (phase : Phase) → 0 < entries_left phase → IsTrue (is_live phase)
left-live Unposted some = absurd (omega arith)
left-live Over some = absurd (omega arith)
left-live _ some = refl

live-placed : (r : NodeState) → LiveApart r → LiveSmall r → ArePlaced r
live-placed r apart small = record {
  apart = λ a b first second same.
      apart a b (left-live (r.invocations a).phase first) (left-live (r.invocations b).phase second) (ap (λ (x : ℕ). let c : ContextId = record { 0 = x } in c) same);
  small = λ n some. small n (left-live (r.invocations n).phase some);
}

-- ---- one entry

-- the entry of a turn is of this invocation, and leaves it so much
abbrev teller : JournalEntry → ℕ
teller (Started n) = n
teller (Asked n f args) = n
teller (Ended n how) = n
teller _ = 0

abbrev leaves : JournalEntry → ℕ
leaves (Started n) = 1
leaves _ = 0

-- one invocation has one entry less to tell, and the others are as they were
record Tells (r s : NodeState) (n left : ℕ) : Type 0 where
  before : left_at r n ≡ suc left
  after : left_at s n ≡ left
  context : place s n ≡ place r n
  others : (k : ℕ) → k ≢ n → s.invocations k ≡ r.invocations k

tells-step : (m : Machine) (r : NodeState) (t : JournalEntry) → IsOfTurn t → MayFollow m r t → Tells r (next_state m r t) (teller t) (leaves t)
tells-step m r (Started n) of follows = record {
  before = ap entries_left follows;
  after = ap entries_left (started-Moves m r n).here;
  context = ap (λ (i : Invocation). i.context.0) (changed-here r.invocations n _);
  others = (started-Moves m r n).others;
}
tells-step m r (Asked n f args) of follows = record {
  before = ap entries_left follows;
  after = ap entries_left (asked-Moves m r n f args).here;
  context = ap (λ (i : Invocation). i.context.0) (changed-here r.invocations n _);
  others = (asked-Moves m r n f args).others;
}
tells-step m r (Ended n how) of follows = record {
  before = ap entries_left follows.0;
  after = ap entries_left (ended-Moves m r n how).here;
  context = ap (λ (i : Invocation). i.context.0) (changed-here r.invocations n _);
  others = (ended-Moves m r n how).others;
}
tells-step m r t of follows = absurd of

leaves-most : (t : JournalEntry) → leaves t ≤ 1
leaves-most (Started n) = omega arith
leaves-most t = omega arith

-- nobody has more to tell, and each stays in its place
falls : (r s : NodeState) (n left : ℕ) → Tells r s n left → (k : ℕ) → (left_at s k ≤ left_at r k) × (place s k ≡ place r k)
falls r s n left tells k = elim (eqb_tells k n) [
  | inl t ↦ subst (λ (j : ℕ). (left_at s j ≤ left_at r j) × (place s j ≡ place r j)) (sym t.1) (omega (arith, tells.before, tells.after), tells.context)
  | inr u ↦ same (tells.others k u.1)
] where
  same : s.invocations k ≡ r.invocations k → (left_at s k ≤ left_at r k) × (place s k ≡ place r k)
  same is = let e : left_at s k ≡ left_at r k = ap (λ (i : Invocation). entries_left i.phase) is in (omega (arith, e), ap (λ (i : Invocation). i.context.0) is)

placed-step : (r s : NodeState) (n left : ℕ) → Tells r s n left → ArePlaced r → ArePlaced s
placed-step r s n left tells placed = record {
  apart = λ a b first second same.
      let x = falls r s n left tells a in
      let y = falls r s n left tells b in placed.apart a b (omega (arith, x.0, first)) (omega (arith, y.0, second)) (sym x.1 ∙ same ∙ y.1);
  small = λ k some.
      let x = falls r s n left tells k in
      let below = placed.small k (omega (arith, x.0, some)) in omega (arith, x.1, below);
}

-- ---- an entry is told once

-- whoever is in the context has no more than this to tell
abbrev IsWithin : NodeState → ℕ → ℕ → Type 0
IsWithin r c most = (n : ℕ) → place r n ≡ c → left_at r n ≤ most

within-kept : (r s : NodeState) (n left c most : ℕ) → Tells r s n left → IsWithin r c most → IsWithin s c most
within-kept r s n left c most tells within k there =
    let x = falls r s n left tells k in
    let low = within k (sym x.1 ∙ there) in omega (arith, x.0, low)

within-reached : (r s : NodeState) (n left : ℕ) → Tells r s n left → ArePlaced r → IsWithin s (place r n) left
within-reached r s n left tells placed k there = elim (eqb_tells k n) [
  | inl t ↦ subst (λ (j : ℕ). left_at s j ≤ left) (sym t.1) (omega (arith, tells.after))
  | inr u ↦ elim (cases_lt 0 (left_at s k)) [ inl some ↦ absurd (u.1 (same some)) | inr none ↦ omega (arith, none) ]
] where
  same : 0 < left_at s k → k ≡ n
  same some = let x = falls r s n left tells k in placed.apart k n (omega (arith, x.0, some)) (omega (arith, tells.before)) (sym x.1 ∙ there)

-- the number of an entry, and those of several
abbrev number_of : NodeState → JournalEntry → ℕ
number_of r t = 2 * place r (teller t) + leaves t

abbrev numbers_of : Machine → NodeState → List JournalEntry → List ℕ
numbers_of m r [] = []
numbers_of m r (t ∷ told) = number_of r t ∷ numbers_of m (next_state m r t) told

count-numbers : (m : Machine) (r : NodeState) (told : List JournalEntry) → length (numbers_of m r told) ≡ length told
count-numbers m r [] = refl
count-numbers m r (t ∷ told) = ap suc (count-numbers m (next_state m r t) told)

other-number : (r s : NodeState) (n left c most : ℕ) → Tells r s n left → left ≤ 1 → most ≤ 1 → IsWithin r c most → (2 * c + most == 2 * place r n + left) ≡ false
other-number r s n left c most tells small few within = ne_eqb (2 * c + most) (2 * place r n + left) (λ same.
    let there : place r n ≡ c = omega (arith, same, small, few) in
    let low = within n there in
    omega (arith, same, there, low, tells.before))

other-numbers : (m : Machine) (r : NodeState) (told : List JournalEntry) (c most : ℕ) → AreOfTurns told → AreFollowing m r told → most ≤ 1 → IsWithin r c most
    → AllByRecursion (λ k. eqb (2 * c + most) k ≡ false) (numbers_of m r told)
other-numbers m r [] c most of follow few within = tt
other-numbers m r (t ∷ told) c most of follow few within =
    let tells = tells-step m r t of.0 follow.0 in (
      other-number r (next_state m r t) (teller t) (leaves t) c most tells (leaves-most t) few within,
      other-numbers m (next_state m r t) told c most of.1 follow.1 few (within-kept r (next_state m r t) (teller t) (leaves t) c most tells within),
    )

numbers-distinct : (m : Machine) (r : NodeState) (told : List JournalEntry) → AreOfTurns told → AreFollowing m r told → ArePlaced r → IsDistinct eqb (numbers_of m r told)
unfolding IsDistinct
numbers-distinct m r [] of follow placed = tt
numbers-distinct m r (t ∷ told) of follow placed =
    let tells = tells-step m r t of.0 follow.0 in (
      other-numbers m (next_state m r t) told (place r (teller t)) (leaves t) of.1 follow.1 (leaves-most t) (within-reached r (next_state m r t) (teller t) (leaves t) tells placed),
      numbers-distinct m (next_state m r t) told of.1 follow.1 (placed-step r (next_state m r t) (teller t) (leaves t) tells placed),
    )

numbers-below : (m : Machine) (r : NodeState) (told : List JournalEntry) → AreOfTurns told → AreFollowing m r told → ArePlaced r → (k : ℕ) → list_any (eqb k) (numbers_of m r told) ≡ true → k < 32
numbers-below m r [] of follow placed k is = cc
numbers-below m r (t ∷ told) of follow placed k is = elim (eqb_tells k (number_of r t)) [
  | inl x ↦ (let small = placed.small (teller t) (omega (arith, tells.before)) in let low = leaves-most t in omega (arith, x.1, small, low))
  | inr x ↦ numbers-below m (next_state m r t) told of.1 follow.1 (placed-step r (next_state m r t) (teller t) (leaves t) tells placed) k (sym (ap (λ (b : Bool). b || list_any (eqb k) (numbers_of m (next_state m r t) told)) x.0) ∙ is)
] where
  tells : Tells r (next_state m r t) (teller t) (leaves t)
  tells = tells-step m r t of.0 follow.0

pub few-told : (m : Machine) (r : NodeState) (told : List JournalEntry) → AreOfTurns told → AreFollowing m r told → LiveApart r → LiveSmall r → length told ≤ 32
few-told m r told of follow apart small =
    let placed = live-placed r apart small in
    let few = length-le_from_distinct_below (numbers_of m r told) 32 (numbers-distinct m r told of follow placed) (numbers-below m r told of follow placed) in
    let count = count-numbers m r told in omega (arith, few, count)
