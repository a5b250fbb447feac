-- What an entry does to the invocations: one moves, or all live ones are cut.
use Rattle.std.proofs.Common.{◌≡◌, ◌≢◌, ℕ, Bool, true, false, IsTrue, refl, sym, ◌∙◌, ap, subst, inl, inr}
use Rattle.std.specs.Prelude.{ℤ, if◌then◌else◌}
use Rattle.std.proofs.lemmas.Bool.Decides.{eqb_tells}
use Rattle.arrayvec.specs.ArrayVec.{ArrayVec}
use Rattle.mate_num.specs.declared.call.End.{End}
use Rattle.mate_num.specs.declared.id.ContextId.{ContextId}
use Rattle.mate_num.specs.declared.id.FunId.{FunId}
use Rattle.mate_num.specs.declared.id.HandlerId.{HandlerId}
use Rattle.mate_journal.specs.Machine.{Machine, HeldProgram}
use Rattle.mate_journal.specs.Journal.{Posted, Started, Asked, Answered, Ended, Phase, Unposted, Queued, Ready, Waiting, Over, is_live, is_started, Invocation, NodeState, changed, cut_at_era, next_state}
use Rattle.journal_laws.proofs.Changed.{changed-here, changed-other, untrue}

-- ---- one moves

-- the invocation n comes to another phase, and nothing else of the invocations changes but its calls
pub record Moves (r s : NodeState) (n : ℕ) (phase : Phase) : Type 0 where
  pub posts : s.posts ≡ r.posts
  pub here : (s.invocations n).phase ≡ phase
  pub program : (s.invocations n).program ≡ (r.invocations n).program
  pub others : (k : ℕ) → k ≢ n → s.invocations k ≡ r.invocations k

moves_by : (r s : NodeState) (n : ℕ) (i : Invocation) → s.posts ≡ r.posts → ((k : ℕ) → s.invocations k ≡ changed r.invocations n i k) → i.program ≡ (r.invocations n).program
    → Moves r s n i.phase
moves_by r s n i posts each program = record {
  posts = posts;
  here = ap (λ (i : Invocation). i.phase) (each n ∙ changed-here r.invocations n i);
  program = ap (λ (i : Invocation). i.program) (each n ∙ changed-here r.invocations n i) ∙ program;
  others = λ k other. each k ∙ changed-other r.invocations n i k other;
}

pub started-Moves : (m : Machine) (r : NodeState) (n : ℕ) → Moves r (next_state m r (Started n)) n Ready
started-Moves m r n = moves_by r (next_state m r (Started n)) n _ refl (λ k. refl) refl

pub asked-Moves : (m : Machine) (r : NodeState) (n : ℕ) (f : FunId) (args : ArrayVec ℤ) → Moves r (next_state m r (Asked n f args)) n (Waiting f args)
asked-Moves m r n f args = moves_by r (next_state m r (Asked n f args)) n _ refl (λ k. refl) refl

pub answered-Moves : (m : Machine) (r : NodeState) (n : ℕ) (value : ℤ) → Moves r (next_state m r (Answered n value)) n Ready
answered-Moves m r n value = moves_by r (next_state m r (Answered n value)) n _ refl (λ k. refl) refl

pub ended-Moves : (m : Machine) (r : NodeState) (n : ℕ) (how : End) → Moves r (next_state m r (Ended n how)) n Over
ended-Moves m r n how = moves_by r (next_state m r (Ended n how)) n _ refl (λ k. refl) refl

-- what is known of an invocation after a move is known by which it is
pub at_moved : (P : ℕ → Phase → HeldProgram → Type 0) (r s : NodeState) (n : ℕ) (phase : Phase) → Moves r s n phase
    → P n phase (r.invocations n).program → ((k : ℕ) → k ≢ n → P k (r.invocations k).phase (r.invocations k).program)
    → (k : ℕ) → P k (s.invocations k).phase (s.invocations k).program
at_moved P r s n phase moves here there k =
    elim (eqb_tells k n) [
      | inl t ↦ subst (λ (j : ℕ). P j (s.invocations j).phase (s.invocations j).program) (sym t.1)
          (subst (λ (p : HeldProgram). P n (s.invocations n).phase p) (sym moves.program) (subst (λ (x : Phase). P n x (r.invocations n).program) (sym moves.here) here))
      | inr u ↦ subst (λ (i : Invocation). P k i.phase i.program) (sym (moves.others k u.1)) (there k u.1)
    ]

-- ---- one is posted

pub record Joins (r s : NodeState) (n : ℕ) : Type 0 where
  pub posts : s.posts ≡ n
  pub here : (s.invocations n).phase ≡ Queued
  pub others : (k : ℕ) → k ≢ n → s.invocations k ≡ r.invocations k

joins_by : (r s : NodeState) (n : ℕ) (i : Invocation) → s.posts ≡ n → ((k : ℕ) → s.invocations k ≡ changed r.invocations n i k) → i.phase ≡ Queued → Joins r s n
joins_by r s n i posts each queued = record {
  posts = posts;
  here = ap (λ (i : Invocation). i.phase) (each n ∙ changed-here r.invocations n i) ∙ queued;
  others = λ k other. each k ∙ changed-other r.invocations n i k other;
}

pub posted-Joins : (m : Machine) (r : NodeState) (n : ℕ) (h : HandlerId) (c : ContextId) (payload : ArrayVec ℤ) → Joins r (next_state m r (Posted n h c payload)) n
posted-Joins m r n h c payload = joins_by r (next_state m r (Posted n h c payload)) n _ refl (λ k. refl) refl

-- ---- all are cut

pub record Cuts (r s : NodeState) : Type 0 where
  pub posts : s.posts ≡ r.posts
  pub each : (n : ℕ) → s.invocations n ≡ cut_at_era (r.invocations n)

pub cut-dead : (i : Invocation) → IsTrue (is_live (cut_at_era i).phase) → ⊥
cut-dead i live = by i.phase (is_live i.phase) refl live where
  by : (phase : Phase) (b : Bool) → is_live phase ≡ b → IsTrue (is_live (if b then Over else phase)) → ⊥
  by phase true is live = untrue false live refl
  by phase false is live = untrue (is_live phase) live is

pub cut-unposted : (i : Invocation) → i.phase ≡ Unposted → (cut_at_era i).phase ≡ Unposted
cut-unposted i is = subst (λ (phase : Phase). (if is_live phase then Over else phase) ≡ Unposted) (sym is) refl

pub started_live : (phase : Phase) → IsTrue (is_started phase) → IsTrue (is_live phase)
started_live Queued h = absurd (untrue false h refl)
started_live _ h = h

pub posted_phase : (phase : Phase) → IsTrue (is_live phase) → phase ≡ Unposted → ⊥
posted_phase Unposted h e = untrue false h refl
posted_phase _ h e = cc
