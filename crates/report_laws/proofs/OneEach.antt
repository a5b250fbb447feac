-- A context has one live invocation at most.
use Rattle.std.proofs.Common.{◌≡◌, ◌≢◌, ℕ, Bool, true, false, IsTrue, List, [], ◌∷◌, ◌++◌, refl, sym, ◌∙◌, ap, subst, inl, inr}
use Rattle.std.specs.Prelude.{if◌then◌else◌}
use Rattle.std.proofs.lemmas.Bool.Decides.{eqb_tells}
use Rattle.mate_num.specs.declared.id.ContextId.{ContextId}
use Rattle.mate_journal.specs.Machine.{Machine}
use Rattle.mate_journal.specs.Journal.{JournalEntry, Posted, Dropped, Started, Asked, Answered, Ended, Installed, Reset, Seen, Void, Phase, Unposted, Queued, Ready, Waiting, Over, is_live, Invocation, NodeState, changed, cut_at_era, first_state, next_state, state_after_entries}
use Rattle.mate_journal.specs.WellFormed.{MayFollow}
use Rattle.mate_journal.specs.Grants.{started_number}
use Rattle.journal_laws.proofs.Changed.{changed-here, changed-other}
use Rattle.report_laws.proofs.Rules.{KeepsRules}

pub record HasOneEach (r : NodeState) : Type 0 where
  pub one : (j k : ℕ) → IsTrue (is_live (r.invocations j).phase) → IsTrue (is_live (r.invocations k).phase) → (r.invocations j).context ≡ (r.invocations k).context → j ≡ k

-- who is live was live in the same context
record WasLive (i was : Invocation) : Type 0 where
  pub live : IsTrue (is_live was.phase)
  pub context : i.context ≡ was.context

one-still : (r s : NodeState) → ((j : ℕ) → IsTrue (is_live (s.invocations j).phase) → WasLive (s.invocations j) (r.invocations j)) → HasOneEach r → HasOneEach s
one-still r s was right = record {
  one = λ j k live live' same. right.one j k (was j live).live (was k live').live (sym (was j live).context ∙ same ∙ (was k live').context);
}

-- one invocation changes, and was live in the same context
one-changed : (r s : NodeState) (n : ℕ) (i : Invocation) → ((k : ℕ) → s.invocations k ≡ changed r.invocations n i k) → IsTrue (is_live (r.invocations n).phase) → i.context ≡ (r.invocations n).context
    → HasOneEach r → HasOneEach s
one-changed r s n i each live context right = one-still r s was right where
  was : (j : ℕ) → IsTrue (is_live (s.invocations j).phase) → WasLive (s.invocations j) (r.invocations j)
  was j alive =
      elim (eqb_tells j n) [
        | inl t ↦ subst (λ (k : ℕ). WasLive (s.invocations k) (r.invocations k)) (sym t.1)
            (subst (λ (x : Invocation). WasLive x (r.invocations n)) (sym (each n ∙ changed-here r.invocations n i)) (record { live = live; context = context }))
        | inr u ↦ let is = each j ∙ changed-other r.invocations n i j u.1 in
            subst (λ (x : Invocation). WasLive x (r.invocations j)) (sym is) (record { live = subst (λ (x : Invocation). IsTrue (is_live x.phase)) is alive; context = refl })
      ]

-- a live one joins in an idle context
one-joins : (r s : NodeState) (n : ℕ) (i : Invocation) → ((k : ℕ) → s.invocations k ≡ changed r.invocations n i k) → ((k : ℕ) → IsTrue (is_live (r.invocations k).phase) → (r.invocations k).context ≡ i.context → ⊥)
    → HasOneEach r → HasOneEach s
one-joins r s n i each idle right = record { one = one } where
  here : s.invocations n ≡ i
  here = each n ∙ changed-here r.invocations n i

  there : (k : ℕ) → k ≢ n → s.invocations k ≡ r.invocations k
  there k other = each k ∙ changed-other r.invocations n i k other

  apart : (j k : ℕ) → j ≡ n → k ≢ n → IsTrue (is_live (s.invocations k).phase) → (s.invocations j).context ≡ (s.invocations k).context → ⊥
  apart j k is other live same =
      let first : (s.invocations j).context ≡ i.context = ap (λ (x : ℕ). (s.invocations x).context) is ∙ ap (λ (x : Invocation). x.context) here in
      let second : (s.invocations k).context ≡ (r.invocations k).context = ap (λ (x : Invocation). x.context) (there k other) in
      idle k (subst (λ (x : Invocation). IsTrue (is_live x.phase)) (there k other) live) (sym second ∙ sym same ∙ first)

  one : (j k : ℕ) → IsTrue (is_live (s.invocations j).phase) → IsTrue (is_live (s.invocations k).phase) → (s.invocations j).context ≡ (s.invocations k).context → j ≡ k
  one j k live live' same =
      elim (eqb_tells j n) [
        | inl t ↦ elim (eqb_tells k n) [ inl v ↦ t.1 ∙ sym v.1 | inr v ↦ absurd (apart j k t.1 v.1 live' same) ]
        | inr u ↦ elim (eqb_tells k n) [
          | inl v ↦ absurd (apart k j v.1 u.1 live (sym same))
          | inr v ↦ right.one j k (subst (λ (x : Invocation). IsTrue (is_live x.phase)) (there j u.1) live) (subst (λ (x : Invocation). IsTrue (is_live x.phase)) (there k v.1) live')
              (sym (ap (λ (x : Invocation). x.context) (there j u.1)) ∙ same ∙ ap (λ (x : Invocation). x.context) (there k v.1))
        ]
      ]

not-live : (phase : Phase) → IsTrue (is_live (if is_live phase then Over else phase)) → ⊥
not-live Unposted live = cc
not-live _ live = cc

one-cut : (r s : NodeState) → ((n : ℕ) → s.invocations n ≡ cut_at_era (r.invocations n)) → HasOneEach s
one-cut r s each = record { one = λ j k live live' same. absurd (not-live (r.invocations j).phase (subst (λ (x : Invocation). IsTrue (is_live x.phase)) (each j) live)) }

live-by : (phase now : Phase) → now ≡ phase → IsTrue (is_live phase) → IsTrue (is_live now)
live-by phase now is live = subst (λ (x : Phase). IsTrue (is_live x)) (sym is) live

pub one-step : (m : Machine) (r : NodeState) (t : JournalEntry) → MayFollow m r t → HasOneEach r → HasOneEach (next_state m r t)
one-step m r (Posted n h c payload) follow right = one-joins r (next_state m r (Posted n h c payload)) n _ (λ k. refl) follow.3 right
one-step m r (Started n) follow right = one-changed r (next_state m r (Started n)) n _ (λ k. refl) (live-by Queued _ follow refl) refl right
one-step m r (Asked n f args) follow right = one-changed r (next_state m r (Asked n f args)) n _ (λ k. refl) (live-by Ready _ follow refl) refl right
one-step m r (Answered n value) follow right = one-changed r (next_state m r (Answered n value)) n _ (λ k. refl) (live-by (Waiting follow.fun follow.args) _ follow.waits refl) refl right
one-step m r (Ended n how) follow right = one-changed r (next_state m r (Ended n how)) n _ (λ k. refl) (live-by Ready _ follow.0 refl) refl right
one-step m r (Installed p) follow right = one-cut r (next_state m r (Installed p)) (λ n. refl)
one-step m r Reset follow right = one-cut r (next_state m r Reset) (λ n. refl)
one-step m r _ follow right = right

pub one-along : (m : Machine) (r : NodeState) (last : ℕ) (xs ys : List JournalEntry) → KeepsRules m r last (xs ++ ys) → HasOneEach r → HasOneEach (state_after_entries m r xs)
one-along m r last [] ys keeps right = right
one-along m r last (x ∷ xs) ys keeps right = one-along m (next_state m r x) (started_number x) xs ys keeps.3 (one-step m r x keeps.0 right)

pub nothing_heard-one : (m : Machine) → HasOneEach (first_state m)
nothing_heard-one m = record { one = λ j k live live' same. absurd (let h : false ≡ true = live in cc) }
