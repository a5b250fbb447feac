-- A loop is a round, and then, if it goes back, the loop again.
use Rattle.std.proofs.Common.{◌≡◌, ℕ, zero, suc, ◌≤◌, ◌<◌, ℤ, Bool, true, false, arith, refl, ap, ◌∙◌}
use Rattle.std.specs.Prelude.{⊤}
use Rattle.mate_num.specs.declared.call.End.{End}
use Rattle.mate_num.specs.declared.call.End.TheVariants.{Fault}
use Rattle.mate_num.specs.declared.call.FaultKind.TheVariants.{Overrun}
use Rattle.ts_checked.specs.Expression.{Expression}
use Rattle.ts_checked.specs.Statement.{Block}
use Rattle.ts_checked.specs.declared.checked_stmt.CVar.{CVar}
use Rattle.ts_semantics.specs.State.{ScriptState, Evaluation, Done, Over, then_do, with_turns, after_round, rounds, loop_does}
use Rattle.ts_semantics.specs.Meaning.{value_of, run_block, while_round, for_round}
use Rattle.ts_semantics.proofs.TurnLemmas.{turns_after, WinsNoTurn, while_round-falls, for_round-falls, value_wins_none, block_wins_none}

with_turns-same : (a b : ScriptState → Evaluation ⊤) (n k : ℕ) (s : ScriptState) → k ≤ n → ((t : ScriptState) → t.turns < n → a t ≡ b t) → with_turns k a s ≡ with_turns k b s
with_turns-same a b n zero s h same = refl
with_turns-same a b n (suc k) s h same = same (record s { turns = k }) h

-- what comes after a round is told by what comes after it with fewer turns
after_round-same : (a b : ScriptState → Evaluation ⊤) (o : Evaluation Bool) (n : ℕ) → turns_after o ≤ n → ((t : ScriptState) → t.turns < n → a t ≡ b t)
    → then_do o (after_round a) ≡ then_do o (after_round b)
after_round-same a b (Done true s) n h same = with_turns-same a b n s.turns s h same
after_round-same a b (Done false s) n h same = refl
after_round-same a b (Over end s) n h same = refl

-- a loop that may go back at least as often as there are turns does not see how often
rounds_enough : (n m : ℕ) (round : ScriptState → Evaluation Bool) → WinsNoTurn round → (s : ScriptState) → s.turns ≤ n → s.turns ≤ m → rounds n round s ≡ rounds m round s
rounds_enough zero zero round w s hn hm = refl
rounds_enough zero (suc m) round w s hn hm =
    let f : turns_after (round s) ≤ s.turns = w.falls s in
    after_round-same (λ s. Over (Fault Overrun) s) (rounds m round) (round s) 0 (omega arith) (λ t h. absurd (omega arith))
rounds_enough (suc n) zero round w s hn hm =
    let f : turns_after (round s) ≤ s.turns = w.falls s in
    after_round-same (rounds n round) (λ s. Over (Fault Overrun) s) (round s) 0 (omega arith) (λ t h. absurd (omega arith))
rounds_enough (suc n) (suc m) round w s hn hm =
    after_round-same (rounds n round) (rounds m round) (round s) s.turns (w.falls s)
    (λ t h. rounds_enough n m round w t (omega arith) (omega arith))

loop-rounds : (k : ℕ) (round : ScriptState → Evaluation Bool) → WinsNoTurn round → (s : ScriptState) → s.turns ≡ k → rounds k round s ≡ then_do (round s) (after_round (loop_does round))
loop-rounds zero round w s e =
    let f : turns_after (round s) ≤ s.turns = w.falls s in
    after_round-same (λ s. Over (Fault Overrun) s) (loop_does round) (round s) 0 (omega arith) (λ t h. absurd (omega arith))
loop-rounds (suc k) round w s e =
    let f : turns_after (round s) ≤ s.turns = w.falls s in
    after_round-same (rounds k round) (loop_does round) (round s) (suc k) (omega arith)
    (λ t h. rounds_enough k t.turns round w t (omega arith) (omega arith))

-- a loop, by its first round
pub loop_does-round : (round : ScriptState → Evaluation Bool) → WinsNoTurn round → (s : ScriptState) → loop_does round s ≡ then_do (round s) (after_round (loop_does round))
loop_does-round round w s = loop-rounds s.turns round w s refl

with_turns-goes : (next : ScriptState → Evaluation ⊤) (k : ℕ) (s after : ScriptState) → with_turns k (Done tt) s ≡ Done tt after → with_turns k next s ≡ next after
with_turns-goes next zero s after e = cc
with_turns-goes next (suc k) s after e = let g : record s { turns = k } ≡ after = cc in ap next g

with_turns-stops : (next : ScriptState → Evaluation ⊤) (k : ℕ) (s after : ScriptState) (end : End) → with_turns k (Done tt) s ≡ Over end after → with_turns k next s ≡ Over end after
with_turns-stops next zero s after end e = e
with_turns-stops next (suc k) s after end e = cc

module _ (round : ScriptState → Evaluation Bool) (w : WinsNoTurn round) (s after : ScriptState) where
  -- the loop ends after this round
  pub loop_ends : round s ≡ Done false after → loop_does round s ≡ Done tt after
  loop_ends gives = loop_does-round round w s ∙ ap (λ (o : Evaluation Bool). then_do o (after_round (loop_does round))) gives

  -- the round ends the run
  pub loop_stops : (end : End) → round s ≡ Over end after → loop_does round s ≡ Over end after
  loop_stops end gives = loop_does-round round w s ∙ ap (λ (o : Evaluation Bool). then_do o (after_round (loop_does round))) gives

  -- the loop goes back
  pub loop_goes : (paid : ScriptState) → round s ≡ Done true after → with_turns after.turns (Done tt) after ≡ Done tt paid → loop_does round s ≡ loop_does round paid
  loop_goes paid gives pays =
      loop_does-round round w s ∙ ap (λ (o : Evaluation Bool). then_do o (after_round (loop_does round))) gives
      ∙ with_turns-goes (loop_does round) after.turns after paid pays

  -- no turn is left for going back
  pub loop_overruns : (paid : ScriptState) (end : End) → round s ≡ Done true after → with_turns after.turns (Done tt) after ≡ Over end paid → loop_does round s ≡ Over end paid
  loop_overruns paid end gives pays =
      loop_does-round round w s ∙ ap (λ (o : Evaluation Bool). then_do o (after_round (loop_does round))) gives
      ∙ with_turns-stops (loop_does round) after.turns after paid end pays

-- the rounds of a `while` and of a `for`
pub while_wins_none : (e : Expression) (a : Block) → WinsNoTurn (while_round (value_of e) (run_block a))
while_wins_none e a = while_round-falls (value_of e) (run_block a) (value_wins_none e) (block_wins_none a)

pub for_wins_none : (x : CVar) (to : Expression) (step : ℤ) (a : Block) → WinsNoTurn (for_round x (value_of to) step (run_block a))
for_wins_none x to step a = for_round-falls x (value_of to) step (run_block a) (value_wins_none to) (block_wins_none a)

pub ruleset loops = (loop_ends, loop_stops, loop_goes, loop_overruns, while_wins_none, for_wins_none)
