-- Who waits, and who calls, along what an event tells in a well-formed journal.
use Rattle.std.proofs.Common.{append_assoc, ◌≡◌, ◌≢◌, ◌≤◌, ℕ, ◌+◌, false, List, [], ◌∷◌, ◌++◌, refl, sym, ◌∙◌, ap, subst, arith, inl, inr, ◌⊎◌}
use Rattle.std.specs.Prelude.{ℤ, ◌==◌, if◌then◌else◌}
use Rattle.std.proofs.lemmas.Bool.Decides.{eqb_tells}
use Rattle.arrayvec.specs.ArrayVec.{ArrayVec}
use Rattle.mate_num.specs.declared.id.FunId.{FunId}
use Rattle.mate_num.specs.declared.store.Store.{Store}
use Rattle.mate_num.proofs.ListLemmas.{each-append, along-parts}
use Rattle.mate_journal.specs.Machine.{Machine}
use Rattle.mate_journal.specs.Journal.{JournalEntry, Asked, Answered, Installed, Reset, Seen, Ready, Waiting, NodeState, next_state, state_after_entries}
use Rattle.mate_journal.specs.WellFormed.{IsWaiting, MayFollow}
use Rattle.mate_journal.specs.Pace.{Pace, paced_all}
use Rattle.mate_journal.specs.Turns.{Settles}
use Rattle.mate_journal.proofs.JournalLemmas.{heard_told-append}
use Rattle.journal_laws.specs.Waiting.{AreFollowing, ends_wait}
use Rattle.journal_laws.proofs.Staying.{waits-same, goes_on-told}
use Rattle.journal_laws.proofs.Settling.{settles-of_turns}
use Rattle.journal_laws.proofs.Plain.{IsPlain, ArePlain, turns-plain, installs-plain}
use Rattle.journal_laws.proofs.Moves.{asked-Moves, answered-Moves}
use Rattle.journal_laws.proofs.Apart.{IsNumbered, numbered-step}
use Rattle.world_rules.specs.Effect.{Deed, Nothing, Installing, Posting, Answering, Showing, Resetting, cuts}
use Rattle.world_rules.specs.Run.{FirstThen, DeedMakes}
use Rattle.world_laws.proofs.Agree.{occasions-plain}

-- how often the invocation calls
abbrev pub calls_by : ℕ → JournalEntry → ℕ
calls_by n (Asked k f args) = if k == n then 1 else 0
calls_by n _ = 0

abbrev pub calls_of : ℕ → List JournalEntry → ℕ
calls_of n [] = 0
calls_of n (t ∷ told) = calls_by n t + calls_of n told

-- ---- one entry

plain-stays : (n : ℕ) (t : JournalEntry) → IsPlain t → ends_wait n t ≡ false
plain-stays n (Answered k value) plain = absurd plain
plain-stays n (Installed p) plain = absurd plain
plain-stays n Reset plain = absurd plain
plain-stays n _ plain = refl

-- whoever waits doesn't call
quiet : (m : Machine) (r : NodeState) (t : JournalEntry) (n : ℕ) → MayFollow m r t → IsWaiting r n → calls_by n t ≡ 0
quiet m r (Asked k f args) n follows w = elim (eqb_tells k n) [
  | inl same ↦ (let clash : Waiting w.fun w.args ≡ Ready = sym w.waits ∙ ap (λ (i : ℕ). (r.invocations i).phase) (sym same.1) ∙ follows in cc)
  | inr other ↦ rw other.0 refl
]
quiet m r _ n follows w = refl

-- whoever waits is left as it is
keeps-one : (m : Machine) (r : NodeState) (t : JournalEntry) (n : ℕ) → MayFollow m r t → IsPlain t → IsNumbered r → IsWaiting r n → ((next_state m r t).invocations n ≡ r.invocations n) × (calls_by n t ≡ 0)
keeps-one m r t n follows plain right w = (goes_on-told m r n (t ∷ []) right (follows, tt) w (plain-stays n t plain, tt), quiet m r t n follows w)

-- the invocation doesn't call in the entry, or it waits then
calls-one : (m : Machine) (r : NodeState) (t : JournalEntry) (n : ℕ) → (calls_by n t ≡ 0) ⊎ ((calls_by n t ≡ 1) × IsWaiting (next_state m r t) n)
calls-one m r (Asked k f args) n = elim (eqb_tells k n) [
  | inl same ↦ inr (rw same.0 refl, subst (λ (i : ℕ). IsWaiting (next_state m r (Asked k f args)) i) same.1 (record { fun = f; args = args; waits = (asked-Moves m r k f args).here }))
  | inr other ↦ inl (rw other.0 refl)
]
calls-one m r _ n = inl refl

-- ---- plain entries

-- whoever waits goes on waiting, and doesn't call
pub plain-keep : (m : Machine) (r : NodeState) (told : List JournalEntry) (n : ℕ) → AreFollowing m r told → ArePlain told → IsNumbered r → IsWaiting r n
    → ((state_after_entries m r told).invocations n ≡ r.invocations n) × (calls_of n told ≡ 0)
plain-keep m r [] n follow plain right w = (refl, refl)
plain-keep m r (t ∷ told) n follow plain right w =
    let one = keeps-one m r t n follow.0 plain.0 right w in
    let rest = plain-keep m (next_state m r t) told n follow.1 plain.1 (numbered-step m r t follow.0 right) (waits-same r (next_state m r t) n one.0 w) in
    (rest.0 ∙ one.0, omega (arith, one.1, rest.1))

-- nobody calls twice
pub plain-once : (m : Machine) (r : NodeState) (told : List JournalEntry) (n : ℕ) → AreFollowing m r told → ArePlain told → IsNumbered r → calls_of n told ≤ 1
plain-once m r [] n follow plain right = omega arith
plain-once m r (t ∷ told) n follow plain right = elim (calls-one m r t n) [
  | inl none ↦ let rest = plain-once m (next_state m r t) told n follow.1 plain.1 (numbered-step m r t follow.0 right) in omega (arith, none, rest)
  | inr calls ↦ let rest = plain-keep m (next_state m r t) told n follow.1 plain.1 (numbered-step m r t follow.0 right) calls.1 in omega (arith, calls.0, rest.1)
]

-- whoever calls waits at the end
pub plain-waits : (m : Machine) (r : NodeState) (told : List JournalEntry) (n : ℕ) → AreFollowing m r told → ArePlain told → IsNumbered r → 1 ≤ calls_of n told → IsWaiting (state_after_entries m r told) n
plain-waits m r [] n follow plain right some = absurd (omega (arith, some))
plain-waits m r (t ∷ told) n follow plain right some = elim (calls-one m r t n) [
  | inl none ↦ plain-waits m (next_state m r t) told n follow.1 plain.1 (numbered-step m r t follow.0 right) (omega (arith, none, some))
  | inr calls ↦ waits-same (next_state m r t) (state_after_entries m (next_state m r t) told) n (plain-keep m (next_state m r t) told n follow.1 plain.1 (numbered-step m r t follow.0 right) calls.1).0 calls.1
]

-- ---- an event tells first what its deed is, and then plain entries

abbrev pub IsFirstOf : Deed → List JournalEntry → Type 0
IsFirstOf (Installing p) first = (store : Store) × (first ≡ Seen store ∷ Installed p ∷ [])
IsFirstOf (Answering inv value) first = first ≡ Answered inv value ∷ []
IsFirstOf Resetting first = (store : Store) × (first ≡ Seen store ∷ Reset ∷ [])
IsFirstOf _ first = first ≡ []

pub record BeginsWith (d : Deed) (told : List JournalEntry) : Type 0 where
  pub first : List JournalEntry
  pub rest : List JournalEntry
  pub split : told ≡ first ++ rest
  pub begins : IsFirstOf d first
  pub plain : ArePlain rest

deed-begins : (m : Machine) (r : NodeState) (p : Pace) (d : Deed) (told : List JournalEntry) → DeedMakes m d r p told → BeginsWith d told
deed-begins m r p Nothing told is = record { first = []; rest = told; split = refl; begins = refl; plain = subst ArePlain (sym is) tt }
deed-begins m r p (Posting hs payload) told is = record { first = []; rest = told; split = refl; begins = refl; plain = occasions-plain m payload hs r p told is }
deed-begins m r p (Answering inv value) told is = record { first = Answered inv value ∷ []; rest = []; split = is; begins = refl; plain = tt }
deed-begins m r p Showing told is = record { first = []; rest = told; split = refl; begins = refl; plain = subst ArePlain (sym is.made) (tt, tt) }
deed-begins m r p Resetting told is = record { first = Seen is.seen ∷ Reset ∷ []; rest = []; split = is.made; begins = (is.seen, refl); plain = tt }
deed-begins m r p (Installing x) told is = record {
  first = Seen is.seen ∷ Installed x ∷ [];
  rest = is.rest;
  split = is.made;
  begins = (is.seen, refl);
  plain = installs-plain m r p x told is;
}

pub event-begins : (m : Machine) (r : NodeState) (p : Pace) (d : Deed) (told : List JournalEntry) (after : Pace) → FirstThen m (DeedMakes m d) (λ s q xs. Settles m s q xs after) r p told → BeginsWith d told
event-begins m r p d told after both =
    let deed : BeginsWith d both.front = deed-begins m r p d both.front both.by_first in
    record {
      first = deed.first;
      rest = deed.rest ++ both.rest;
      split = both.made ∙ ap (λ (ts : List JournalEntry). ts ++ both.rest) deed.split ∙ append_assoc deed.first deed.rest both.rest;
      begins = deed.begins;
      plain = each-append IsPlain deed.rest both.rest deed.plain (turns-plain both.rest (settles-of_turns m (state_after_entries m r both.front) (paced_all p both.front) both.rest after both.by_second));
    }

-- ---- the whole event

-- the deed answers another invocation, or none
abbrev pub AnswersOther : Deed → ℕ → Type 0
AnswersOther (Answering inv value) n = n ≢ inv
AnswersOther _ n = Unit {0}

following-as : (m : Machine) (r : NodeState) (xs ys : List JournalEntry) → xs ≡ ys → AreFollowing m r xs → AreFollowing m r ys
following-as m r xs ys is follow = subst (λ (ts : List JournalEntry). AreFollowing m r ts) is follow

calls-parts : (n : ℕ) (xs ys : List JournalEntry) → calls_of n (xs ++ ys) ≡ calls_of n xs + calls_of n ys
calls-parts n [] ys = omega arith
calls-parts n (x ∷ xs) ys = let rest = calls-parts n xs ys in omega (arith, rest)

pub numbered-told : (m : Machine) (r : NodeState) (told : List JournalEntry) → AreFollowing m r told → IsNumbered r → IsNumbered (state_after_entries m r told)
numbered-told m r [] follow right = right
numbered-told m r (t ∷ told) follow right = numbered-told m (next_state m r t) told follow.1 (numbered-step m r t follow.0 right)

-- the deed's own entries call nothing
first-calls : (d : Deed) (first : List JournalEntry) (n : ℕ) → IsFirstOf d first → calls_of n first ≡ 0
first-calls (Installing p) first n is = ap (calls_of n) is.1
first-calls Resetting first n is = ap (calls_of n) is.1
first-calls _ first n is = ap (calls_of n) is

-- and leave whoever waits, if it isn't answered and no era begins
first-keep : (m : Machine) (r : NodeState) (d : Deed) (first : List JournalEntry) (n : ℕ) → IsFirstOf d first → cuts d ≡ false → AnswersOther d n → (state_after_entries m r first).invocations n ≡ r.invocations n
first-keep m r (Installing p) first n is stays other = cc
first-keep m r (Answering inv value) first n is stays other = ap (λ (ts : List JournalEntry). (state_after_entries m r ts).invocations n) is ∙ (answered-Moves m r inv value).others n other
first-keep m r Resetting first n is stays other = cc
first-keep m r _ first n is stays other = ap (λ (ts : List JournalEntry). (state_after_entries m r ts).invocations n) is

-- whoever waits goes on waiting, and doesn't call
pub event-keeps : (m : Machine) (r : NodeState) (d : Deed) (told : List JournalEntry) (n : ℕ) → BeginsWith d told → AreFollowing m r told → IsNumbered r → cuts d ≡ false → AnswersOther d n → IsWaiting r n
    → ((state_after_entries m r told).invocations n ≡ r.invocations n) × (calls_of n told ≡ 0)
event-keeps m r d told n parts follow right stays other w =
    let both = following-as m r told (parts.first ++ parts.rest) parts.split follow in
    let follows = along-parts _ _ r parts.first parts.rest both in
    let first : (state_after_entries m r parts.first).invocations n ≡ r.invocations n = first-keep m r d parts.first n parts.begins stays other in
    let rest = plain-keep m (state_after_entries m r parts.first) parts.rest n follows.1 parts.plain (numbered-told m r parts.first follows.0 right) (waits-same r (state_after_entries m r parts.first) n first w) in
    let none : calls_of n parts.first ≡ 0 = first-calls d parts.first n parts.begins in (
      ap (λ (ts : List JournalEntry). (state_after_entries m r ts).invocations n) parts.split ∙ ap (λ (s : NodeState). s.invocations n) (heard_told-append m r parts.first parts.rest) ∙ rest.0 ∙ first,
      ap (calls_of n) parts.split ∙ calls-parts n parts.first parts.rest ∙ omega (arith, none, rest.1),
    )

pub event-once : (m : Machine) (r : NodeState) (d : Deed) (told : List JournalEntry) (n : ℕ) → BeginsWith d told → AreFollowing m r told → IsNumbered r → calls_of n told ≤ 1
event-once m r d told n parts follow right =
    let both = following-as m r told (parts.first ++ parts.rest) parts.split follow in
    let follows = along-parts _ _ r parts.first parts.rest both in
    let rest : calls_of n parts.rest ≤ 1 = plain-once m (state_after_entries m r parts.first) parts.rest n follows.1 parts.plain (numbered-told m r parts.first follows.0 right) in
    let none : calls_of n parts.first ≡ 0 = first-calls d parts.first n parts.begins in
    let sum : calls_of n told ≡ calls_of n parts.first + calls_of n parts.rest = ap (calls_of n) parts.split ∙ calls-parts n parts.first parts.rest in
    omega (arith, rest, none, sum)

pub event-waits : (m : Machine) (r : NodeState) (d : Deed) (told : List JournalEntry) (n : ℕ) → BeginsWith d told → AreFollowing m r told → IsNumbered r → 1 ≤ calls_of n told → IsWaiting (state_after_entries m r told) n
event-waits m r d told n parts follow right some =
    let both = following-as m r told (parts.first ++ parts.rest) parts.split follow in
    let follows = along-parts _ _ r parts.first parts.rest both in
    let none : calls_of n parts.first ≡ 0 = first-calls d parts.first n parts.begins in
    let sum : calls_of n told ≡ calls_of n parts.first + calls_of n parts.rest = ap (calls_of n) parts.split ∙ calls-parts n parts.first parts.rest in
    let rest : IsWaiting (state_after_entries m (state_after_entries m r parts.first) parts.rest) n = plain-waits m (state_after_entries m r parts.first) parts.rest n follows.1 parts.plain (numbered-told m r parts.first follows.0 right) (omega (arith, none, sum, some)) in
    subst (λ (s : NodeState). IsWaiting s n) (sym (ap (state_after_entries m r) parts.split ∙ heard_told-append m r parts.first parts.rest)) rest

pub asked-calls : (told front rest : List JournalEntry) (n : ℕ) (f : FunId) (args : ArrayVec ℤ) → told ≡ front ++ Asked n f args ∷ rest → 1 ≤ calls_of n told
asked-calls told front rest n f args is =
    let sum : calls_of n told ≡ calls_of n front + calls_of n (Asked n f args ∷ rest) = ap (calls_of n) is ∙ calls-parts n front (Asked n f args ∷ rest) in
    let one : calls_by n (Asked n f args) ≡ 1 = elim (eqb_tells n n) [ inl same ↦ rw same.0 refl | inr other ↦ absurd (other.1 refl) ] in
    omega (arith, sum, one)
