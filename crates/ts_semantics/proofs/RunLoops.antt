-- The code of a loop runs as the loop does: round after round, each going back paid with a turn.
use Rattle.std.proofs.Common.{◌≡◌, ℕ, zero, suc, ◌+◌, ◌≤◌, ◌<◌, ℤ, Bool, true, false, List, Some, refl, ap, subst, arith}
use Rattle.std.specs.Prelude.{⊤}
use Rattle.mate_num.specs.declared.call.End.TheVariants.{Fault}
use Rattle.mate_num.specs.declared.call.FaultKind.TheVariants.{Overrun}
use Rattle.mate_num.specs.declared.shape.Shape.{Shape}
use Rattle.mate_code.specs.declared.instr.Instr.TheVariants as instr
use Rattle.mate_code.specs.declared.uses.Use.TheVariants.{Nothing}
use Rattle.mate_code.specs.Effect.{pays}
use Rattle.mate_code.specs.Run.{Code, fetch, run_by}
use Rattle.ts_semantics.specs.State.{ScriptState, Evaluation, Done, Over, with_turns, after_round, rounds, loop_does}
use Rattle.ts_semantics.proofs.TurnLemmas.{turns_after, WinsNoTurn}
use Rattle.ts_semantics.proofs.RunReaches.{own_at, run_at, Goal, Reaches, arrives, stops, reaches-then, executes}

-- where a round leaves the run: at the instruction that goes back, or behind the loop
abbrev pub round_end : ℕ → ℕ → Bool → ℕ
round_end back behind true = back
round_end back behind false = behind

module _ {shape : Shape} {code : Code} where
  -- a turn is paid, or none is left
  pays-Reaches : (k place next : ℕ) (s : ScriptState) (count : ℕ) (go : ScriptState → Evaluation ⊤) {target : ℕ} {stack : List ℤ} {goal : Goal ⊤}
      → ((j : ℕ) → k ≡ suc j → Reaches shape code (run_at target stack (record s { turns = j }) (count + 1)) (go (record s { turns = j })) goal)
      → Reaches shape code (run_by (pays k target (own_at next stack s)) Nothing (run_at place stack s count)) (with_turns k go s) goal
  pays-Reaches zero place next s count go rest = stops refl refl refl
  pays-Reaches (suc j) place next s count go rest = rest j refl

  module _ (back : ℕ) {start behind : ℕ} {stack : List ℤ} (found : fetch code back ≡ Some (instr.Back start)) where
    -- after a round the loop goes back, or is done
    after_round-Reaches : (next : ScriptState → Evaluation ⊤) (again : Bool) (s : ScriptState) (count : ℕ)
        → ((t : ScriptState) (k : ℕ) → t.turns < s.turns → Reaches shape code (run_at start stack t k) (next t) (λ _ u. run_at behind stack u))
        → Reaches shape code (run_at (round_end back behind again) stack s count) (after_round next again s) (λ _ u. run_at behind stack u)
    after_round-Reaches next true s count rest =
        executes (instr.Back start) found (pays-Reaches s.turns back (back + 3) s count next (λ j e. rest (record s { turns = j }) (count + 1) (omega arith)))
    after_round-Reaches next false s count rest = arrives count

    module _ {round : ScriptState → Evaluation Bool} (w : WinsNoTurn round)
        (does : (s : ScriptState) (count : ℕ) → Reaches shape code (run_at start stack s count) (round s) (λ again t. run_at (round_end back behind again) stack t)) where
      -- a round leaves no more turns than there were
      fewer : (s : ScriptState) {t : ScriptState} {again : Bool} → round s ≡ Done again t → t.turns ≤ s.turns
      fewer s is = let falls : turns_after (round s) ≤ s.turns = w.falls s in subst (λ (n : ℕ). n ≤ s.turns) (ap turns_after is) falls

      rounds-Reaches : (n : ℕ) (s : ScriptState) (count : ℕ) → s.turns ≤ n → Reaches shape code (run_at start stack s count) (rounds n round s) (λ _ u. run_at behind stack u)
      rounds-Reaches zero s count few =
          reaches-then (after_round (λ s. Over (Fault Overrun) s)) (does s count)
          (λ again t k is. after_round-Reaches (λ s. Over (Fault Overrun) s) again t k (λ u m less. let h = fewer s is in absurd (omega arith)))
      rounds-Reaches (suc n) s count few =
          reaches-then (after_round (rounds n round)) (does s count)
          (λ again t k is. after_round-Reaches (rounds n round) again t k (λ u m less. let h = fewer s is in rounds-Reaches n u m (omega arith)))

      -- a loop whose rounds run as they should comes behind it
      pub loop_does-Reaches : (s : ScriptState) (count : ℕ) → Reaches shape code (run_at start stack s count) (loop_does round s) (λ _ u. run_at behind stack u)
      loop_does-Reaches s count = rounds-Reaches s.turns s count (omega arith)
