-- Live invocations have contexts of their own, which are the machine's: kept entry by entry.
use Rattle.std.proofs.Common.{◌≡◌, ◌≢◌, ◌<◌, ◌⊎◌, ℕ, false, IsTrue, List, [], ◌∷◌, refl, sym, ◌∙◌, ap, subst, inl, inr}
use Rattle.std.proofs.lemmas.Bool.Decides.{eqb_tells}
use Rattle.mate_num.specs.declared.bounds.TheConstants.{CONTEXTS_MAX}
use Rattle.mate_num.specs.declared.id.ContextId.{ContextId}
use Rattle.mate_num.specs.declared.id.HandlerId.{HandlerId}
use Rattle.mate_journal.specs.Machine.{Machine, IsContextOf}
use Rattle.mate_journal.specs.Journal.{JournalEntry, Posted, Dropped, Started, Asked, Answered, Ended, Installed, Reset, Seen, Void, TimedEntry, is_live, Invocation, NodeState, first_state, next_state, state_after_all, changed, cut_at_era, AtEachEntry}
use Rattle.mate_journal.specs.WellFormed.{IsIdle, MayFollow}
use Rattle.journal_laws.proofs.Changed.{at_changed, changed-here, untrue}
use Rattle.journal_laws.proofs.Moves.{posted-Joins, cut-dead}
use Rattle.journal_laws.proofs.Apart.{queued_live, ready_live, waiting_live}
use Rattle.journal_laws.specs.Waiting.{WaitApart, WaitSmall, HasFewContexts}

abbrev pub IsLive : NodeState → ℕ → Type 0
IsLive r n = IsTrue (is_live (r.invocations n).phase)

-- of two live invocations, each has a context of its own
abbrev pub LiveApart : NodeState → Type 0
LiveApart r = (a b : ℕ) → IsLive r a → IsLive r b → (r.invocations a).context ≡ (r.invocations b).context → a ≡ b

-- whatever is live is so in a context of a machine
abbrev pub LiveSmall : NodeState → Type 0
LiveSmall r = (n : ℕ) → IsLive r n → (r.invocations n).context.0 < CONTEXTS_MAX

-- ---- what an entry does to who is live

-- an invocation k that is live was so before, in the same context
abbrev WasLive : NodeState → ℕ → Invocation → Type 0
WasLive r k i = IsTrue (is_live i.phase) → IsLive r k × (i.context ≡ (r.invocations k).context)

record NoneJoins (r s : NodeState) : Type 0 where
  was : (k : ℕ) → WasLive r k (s.invocations k)

-- one is posted, in an idle context of its handler
record OneJoins (m : Machine) (r s : NodeState) : Type 0 where
  joining : ℕ
  handler : HandlerId
  context : ContextId
  of : IsContextOf m handler context
  idle : IsIdle r context
  here : (s.invocations joining).context ≡ context
  others : (k : ℕ) → k ≢ joining → s.invocations k ≡ r.invocations k

one-changes : (r : NodeState) (n : ℕ) (i : Invocation) → IsLive r n → i.context ≡ (r.invocations n).context → (k : ℕ) → WasLive r k (changed r.invocations n i k)
one-changes r n i live same = at_changed (WasLive r) r.invocations n i (λ now. (live, same)) (λ k other now. (now, refl))

all-cut : (r : NodeState) (k : ℕ) → WasLive r k (cut_at_era (r.invocations k))
all-cut r k now = absurd (cut-dead (r.invocations k) now)

who-joins : (m : Machine) (r : NodeState) (t : JournalEntry) → MayFollow m r t → NoneJoins r (next_state m r t) ⊎ OneJoins m r (next_state m r t)
who-joins m r (Posted n h c payload) follows = inr (record {
  joining = n;
  handler = h;
  context = c;
  of = follows.2;
  idle = follows.3;
  here = ap (λ (i : Invocation). i.context) (changed-here r.invocations n _);
  others = (posted-Joins m r n h c payload).others;
})
who-joins m r (Started n) follows = inl (record { was = one-changes r n _ (queued_live r n follows) refl })
who-joins m r (Asked n f args) follows = inl (record { was = one-changes r n _ (ready_live r n follows) refl })
who-joins m r (Answered n value) follows = inl (record { was = one-changes r n _ (waiting_live r n follows) refl })
who-joins m r (Ended n how) follows = inl (record { was = one-changes r n _ (ready_live r n follows.0) refl })
who-joins m r (Installed p) follows = inl (record { was = all-cut r })
who-joins m r Reset follows = inl (record { was = all-cut r })
who-joins m r _ follows = inl (record { was = λ k now. (now, refl) })

-- ---- contexts of their own

was_live : (m : Machine) (r s : NodeState) (j : OneJoins m r s) (k : ℕ) → k ≢ j.joining → IsLive s k → IsLive r k
was_live m r s j k other now = subst (λ (i : Invocation). IsTrue (is_live i.phase)) (j.others k other) now

same_context : (m : Machine) (r s : NodeState) (j : OneJoins m r s) (k : ℕ) → k ≢ j.joining → (s.invocations k).context ≡ (r.invocations k).context
same_context m r s j k other = ap (λ (i : Invocation). i.context) (j.others k other)

apart-joined : (m : Machine) (r s : NodeState) → OneJoins m r s → LiveApart r → LiveApart s
apart-joined m r s j apart a b first second same =
    elim (eqb_tells a j.joining) [
      | inl x ↦ elim (eqb_tells b j.joining) [
        | inl y ↦ x.1 ∙ sym y.1
        | inr y ↦ absurd (elsewhere b y.1 second (sym same ∙ ap (λ (k : ℕ). (s.invocations k).context) x.1 ∙ j.here))
      ]
      | inr x ↦ elim (eqb_tells b j.joining) [
        | inl y ↦ absurd (elsewhere a x.1 first (same ∙ ap (λ (k : ℕ). (s.invocations k).context) y.1 ∙ j.here))
        | inr y ↦ apart a b (was_live m r s j a x.1 first) (was_live m r s j b y.1 second) (sym (same_context m r s j a x.1) ∙ same ∙ same_context m r s j b y.1)
      ]
    ] where
      elsewhere : (k : ℕ) → k ≢ j.joining → IsLive s k → (s.invocations k).context ≡ j.context → ⊥
      elsewhere k other now there = j.idle k (was_live m r s j k other now) (sym (same_context m r s j k other) ∙ there)

pub apart-step : (m : Machine) (r : NodeState) (t : JournalEntry) → MayFollow m r t → LiveApart r → LiveApart (next_state m r t)
apart-step m r t follows apart = by (who-joins m r t follows) where
  by : NoneJoins r (next_state m r t) ⊎ OneJoins m r (next_state m r t) → LiveApart (next_state m r t)
  by (inl none) = λ a b first second same.
      let x = none.was a first in
      let y = none.was b second in apart a b x.0 y.0 (sym x.1 ∙ same ∙ y.1)
  by (inr one) = apart-joined m r (next_state m r t) one apart

pub apart-after : (m : Machine) (r : NodeState) (es : List TimedEntry) → AtEachEntry (MayFollow m) m r es → LiveApart r → LiveApart (state_after_all m r es)
apart-after m r [] follow apart = apart
apart-after m r (e ∷ es) follow apart = apart-after m (next_state m r e.told) es follow.1 (apart-step m r e.told follow.0 apart)

pub nothing_heard-apart : (m : Machine) → LiveApart (first_state m)
nothing_heard-apart m a b first second same = absurd (untrue false first refl)

pub live-waits_apart : (r : NodeState) → LiveApart r → WaitApart r
live-waits_apart r apart a b first second same = apart a b (waiting_live r a first) (waiting_live r b second) same

-- ---- contexts of the machine

small-joined : (m : Machine) (r s : NodeState) → HasFewContexts m → OneJoins m r s → LiveSmall r → LiveSmall s
small-joined m r s few j small k now =
    elim (eqb_tells k j.joining) [
      | inl x ↦ subst (λ (c : ContextId). c.0 < CONTEXTS_MAX) (sym (ap (λ (k : ℕ). (s.invocations k).context) x.1 ∙ j.here)) (few j.handler j.context j.of)
      | inr x ↦ subst (λ (c : ContextId). c.0 < CONTEXTS_MAX) (sym (same_context m r s j k x.1)) (small k (was_live m r s j k x.1 now))
    ]

pub small-step : (m : Machine) (r : NodeState) (t : JournalEntry) → HasFewContexts m → MayFollow m r t → LiveSmall r → LiveSmall (next_state m r t)
small-step m r t few follows small = by (who-joins m r t follows) where
  by : NoneJoins r (next_state m r t) ⊎ OneJoins m r (next_state m r t) → LiveSmall (next_state m r t)
  by (inl none) = λ k now. let x = none.was k now in subst (λ (c : ContextId). c.0 < CONTEXTS_MAX) (sym x.1) (small k x.0)
  by (inr one) = small-joined m r (next_state m r t) few one small

pub small-after : (m : Machine) (r : NodeState) (es : List TimedEntry) → HasFewContexts m → AtEachEntry (MayFollow m) m r es → LiveSmall r → LiveSmall (state_after_all m r es)
small-after m r [] few follow small = small
small-after m r (e ∷ es) few follow small = small-after m (next_state m r e.told) es few follow.1 (small-step m r e.told few follow.0 small)

pub nothing_heard-small : (m : Machine) → LiveSmall (first_state m)
nothing_heard-small m k now = absurd (untrue false now refl)

pub live-waits_small : (r : NodeState) → LiveSmall r → WaitSmall r
live-waits_small r small n waits = small n (waiting_live r n waits)
