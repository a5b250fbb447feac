-- An invocation that is queued made no call yet.
use Rattle.std.proofs.Common.{◌≡◌, ℕ, refl, sym, ◌∙◌, ap, subst, inl, inr, List, [], ◌∷◌}
use Rattle.std.specs.Prelude.{if◌then◌else◌}
use Rattle.std.proofs.lemmas.Bool.Decides.{eqb_tells}
use Rattle.mate_journal.specs.Machine.{Machine}
use Rattle.mate_journal.specs.Journal.{JournalEntry, Posted, Dropped, Started, Asked, Answered, Ended, Installed, Reset, Seen, Void, TimedEntry, Phase, Unposted, Queued, Ready, Waiting, Over, is_live, Invocation, NodeState, first_state, changed, next_state, state_after_all}
use Rattle.journal_laws.proofs.Changed.{changed-here}
use Rattle.journal_laws.proofs.Moves.{Moves, started-Moves, asked-Moves, answered-Moves, ended-Moves, Joins, posted-Joins, Cuts}

pub record IsFresh (r : NodeState) : Type 0 where
  pub fresh : (n : ℕ) → (r.invocations n).phase ≡ Queued → (r.invocations n).calls ≡ []

fresh-moves : (r s : NodeState) (n : ℕ) (phase : Phase) → Moves r s n phase → (phase ≡ Queued → ⊥) → IsFresh r → IsFresh s
fresh-moves r s n phase moves not_queued right = record {
  fresh = λ k queued.
      elim (eqb_tells k n) [
        | inl t ↦ absurd (not_queued (sym moves.here ∙ subst (λ (j : ℕ). (s.invocations j).phase ≡ Queued) t.1 queued))
        | inr u ↦ let is = moves.others k u.1 in subst (λ (i : Invocation). i.calls ≡ []) (sym is) (right.fresh k (subst (λ (i : Invocation). i.phase ≡ Queued) is queued))
      ];
}

fresh-joins : (r s : NodeState) (n : ℕ) (i : Invocation) → ((k : ℕ) → s.invocations k ≡ changed r.invocations n i k) → i.calls ≡ [] → Joins r s n → IsFresh r → IsFresh s
fresh-joins r s n i each none joins right = record {
  fresh = λ k queued.
      elim (eqb_tells k n) [
        | inl t ↦ subst (λ (j : ℕ). (s.invocations j).calls ≡ []) (sym t.1) (ap (λ (i : Invocation). i.calls) (each n ∙ changed-here r.invocations n i) ∙ none)
        | inr u ↦ let is = joins.others k u.1 in subst (λ (i : Invocation). i.calls ≡ []) (sym is) (right.fresh k (subst (λ (i : Invocation). i.phase ≡ Queued) is queued))
      ];
}

cut-not_queued : (phase : Phase) → (if is_live phase then Over else phase) ≡ Queued → ⊥
cut-not_queued Unposted is = cc
cut-not_queued _ is = cc

fresh-cuts : (r s : NodeState) → Cuts r s → IsFresh s
fresh-cuts r s cuts = record { fresh = λ k queued. absurd (cut-not_queued (r.invocations k).phase (subst (λ (i : Invocation). i.phase ≡ Queued) (cuts.each k) queued)) }

pub fresh-step : (m : Machine) (r : NodeState) (told : JournalEntry) → IsFresh r → IsFresh (next_state m r told)
fresh-step m r (Posted n h c payload) right = fresh-joins r (next_state m r (Posted n h c payload)) n _ (λ k. refl) refl (posted-Joins m r n h c payload) right
fresh-step m r (Started n) right = fresh-moves r (next_state m r (Started n)) n Ready (started-Moves m r n) (λ e. cc) right
fresh-step m r (Asked n f args) right = fresh-moves r (next_state m r (Asked n f args)) n (Waiting f args) (asked-Moves m r n f args) (λ e. cc) right
fresh-step m r (Answered n value) right = fresh-moves r (next_state m r (Answered n value)) n Ready (answered-Moves m r n value) (λ e. cc) right
fresh-step m r (Ended n how) right = fresh-moves r (next_state m r (Ended n how)) n Over (ended-Moves m r n how) (λ e. cc) right
fresh-step m r (Installed p) right = fresh-cuts r (next_state m r (Installed p)) (record { posts = refl; each = λ n. refl })
fresh-step m r Reset right = fresh-cuts r (next_state m r Reset) (record { posts = refl; each = λ n. refl })
fresh-step m r _ right = right

pub fresh-after : (m : Machine) (r : NodeState) (es : List TimedEntry) → IsFresh r → IsFresh (state_after_all m r es)
fresh-after m r [] right = right
fresh-after m r (e ∷ es) right = fresh-after m (next_state m r e.told) es (fresh-step m r e.told right)

pub nothing_heard-fresh : (m : Machine) → IsFresh (first_state m)
nothing_heard-fresh m = record { fresh = λ n queued. refl }
