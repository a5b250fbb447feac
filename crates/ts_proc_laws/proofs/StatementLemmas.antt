-- Statements that do with frames what they do in the expansion.
use Rattle.std.proofs.Common.{ℕ, zero, suc, ℤ, ◌+ℤ◌, Bool, true, false, List, Result, Ok, Err, refl, subst}
use Rattle.std.specs.Prelude.{⊤}
use Rattle.mate_num.specs.Number.{is_truth, wrap}
use Rattle.mate_num.specs.Store.{buffer_at, item_set, appended, last_of, without_last}
use Rattle.mate_num.specs.declared.call.End.TheVariants.{Fault}
use Rattle.mate_num.specs.declared.call.FaultKind.{FaultKind}
use Rattle.mate_num.specs.declared.call.FaultKind.TheVariants.{Overrun}
use Rattle.mate_num.specs.declared.id.BufId.{BufId}
use Rattle.mate_num.specs.declared.id.FunId.{FunId}
use Rattle.ts_checked.specs.Expression.{Expression, Arguments, Call, SendBuf}
use Rattle.ts_checked.specs.Statement.{Set, SetItem, Append, Take, Clear, Do, DoSend}
use Rattle.ts_checked.specs.declared.checked_stmt.CVar.{CVar}
use Rattle.ts_semantics.specs.State.{ScriptState, Evaluation, Done, Over, then_do, variable_at, with_variable, with_buffer, buffer_changed, moved, dropped, with_turns, after_round, rounds, loop_does, choose, round_if}
use Rattle.ts_semantics.specs.Meaning.{value_of, is_within, while_round, stepped, body_and_step, for_round, run_stmt}
use Rattle.ts_proc_laws.proofs.StateLemmas.{Layout, HasRoom, Stands}
use Rattle.ts_proc_laws.proofs.EvaluationLemmas.{with_privates, Alike, done_alike, over_alike, then_alike, MeansValue, MeansValues, SameVariable, variable_alike, set_alike, means_call, means_send}

-- a part of a run with frames, and one of the expansion's
pub record MeansRun (l : Layout) (f g : ScriptState → Evaluation ⊤) : Type 0 where
  pub run : (s : ScriptState) (qs : List ℤ) → Stands l s.privates qs → Alike l (f s) (g (with_privates qs s))

pub record MeansRound (l : Layout) (f g : ScriptState → Evaluation Bool) : Type 0 where
  pub run : (s : ScriptState) (qs : List ℤ) → Stands l s.privates qs → Alike l (f s) (g (with_privates qs s))

changed_alike : (l : Layout) (p : BufId) (r : Result (List ℤ) FaultKind) (s : ScriptState) (qs : List ℤ) → Stands l s.privates qs
    → Alike l (buffer_changed p r s) (buffer_changed p r (with_privates qs s))
changed_alike l p (Ok values) s qs st = record { value = refl; after = refl; stands = st }
changed_alike l p (Err kind) s qs st = over_alike ⊤ l (Fault kind) s qs

moved_alike : (l : Layout) (x y : CVar) (p : BufId) (r : Result ℤ FaultKind) (s : ScriptState) (qs : List ℤ) → HasRoom l → SameVariable l x y → Stands l s.privates qs
    → Alike l (moved x p r s) (moved y p r (with_privates qs s))
moved_alike l x y p (Ok v) s qs room same st = set_alike l x y v (with_buffer p (without_last (buffer_at s.store p.0)) s) qs room same st
moved_alike l x y p (Err kind) s qs room same st = over_alike ⊤ l (Fault kind) s qs

-- ---- statements without blocks

pub runs_set : (l : Layout) (x y : CVar) (e f : Expression) → HasRoom l → SameVariable l x y → MeansValue l e f → MeansRun l (run_stmt (Set x e)) (run_stmt (Set y f))
runs_set l x y e f room same m =
    record {
      run = λ s qs st.
          then_alike l l (value_of e s) (value_of f (with_privates qs s)) (λ a s. Done tt (with_variable x a s)) (λ a s. Done tt (with_variable y a s)) (m.run s qs st)
          (λ a s qs st. set_alike l x y a s qs room same st);
    }

pub runs_set_item : (l : Layout) (p : BufId) (i j e f : Expression) → MeansValue l i j → MeansValue l e f → MeansRun l (run_stmt (SetItem p i e)) (run_stmt (SetItem p j f))
runs_set_item l p i j e f m n =
    record {
      run = λ s qs st.
          then_alike l l (value_of i s) (value_of j (with_privates qs s))
          (λ i s. then_do (value_of e s) (λ a s. buffer_changed p (item_set (buffer_at s.store p.0) i a) s))
          (λ i s. then_do (value_of f s) (λ a s. buffer_changed p (item_set (buffer_at s.store p.0) i a) s)) (m.run s qs st)
          (λ i s qs st.
          then_alike l l (value_of e s) (value_of f (with_privates qs s)) (λ a s. buffer_changed p (item_set (buffer_at s.store p.0) i a) s)
          (λ a s. buffer_changed p (item_set (buffer_at s.store p.0) i a) s) (n.run s qs st)
          (λ a s qs st. changed_alike l p (item_set (buffer_at s.store p.0) i a) s qs st));
    }

pub runs_append : (l : Layout) (p : BufId) (e f : Expression) → MeansValue l e f → MeansRun l (run_stmt (Append p e)) (run_stmt (Append p f))
runs_append l p e f m =
    record {
      run = λ s qs st.
          then_alike l l (value_of e s) (value_of f (with_privates qs s)) (λ a s. buffer_changed p (appended (buffer_at s.store p.0) a) s)
          (λ a s. buffer_changed p (appended (buffer_at s.store p.0) a) s) (m.run s qs st)
          (λ a s qs st. changed_alike l p (appended (buffer_at s.store p.0) a) s qs st);
    }

pub runs_take : (l : Layout) (x y : CVar) (p : BufId) → HasRoom l → SameVariable l x y → MeansRun l (run_stmt (Take x p)) (run_stmt (Take y p))
runs_take l x y p room same = record { run = λ s qs st. moved_alike l x y p (last_of (buffer_at s.store p.0)) s qs room same st }

pub runs_clear : (l : Layout) (p : BufId) → MeansRun l (run_stmt (Clear p)) (run_stmt (Clear p))
runs_clear l p = record { run = λ s qs st. record { value = refl; after = refl; stands = st } }

pub runs_do : (l : Layout) (g : FunId) (es fs : Arguments) → MeansValues l es fs → MeansRun l (run_stmt (Do g es)) (run_stmt (Do g fs))
runs_do l g es fs m =
    record {
      run = λ s qs st.
          then_alike l l (value_of (Call g es) s) (value_of (Call g fs) (with_privates qs s)) dropped dropped ((means_call l g es fs m).run s qs st)
          (λ v s qs st. done_alike l (tt {0}) s qs st);
    }

pub runs_send : (l : Layout) (g : FunId) (p : BufId) → MeansRun l (run_stmt (DoSend g p)) (run_stmt (DoSend g p))
runs_send l g p =
    record {
      run = λ s qs st.
          then_alike l l (value_of (SendBuf g p) s) (value_of (SendBuf g p) (with_privates qs s)) dropped dropped ((means_send l g p).run s qs st)
          (λ v s qs st. done_alike l (tt {0}) s qs st);
    }

-- ---- blocks, and loops

pub choose_alike : (l : Layout) (b : Bool) (f g h k : ScriptState → Evaluation ⊤) (s : ScriptState) (qs : List ℤ) → MeansRun l f g → MeansRun l h k → Stands l s.privates qs
    → Alike l (choose b f h s) (choose b g k (with_privates qs s))
choose_alike l true f g h k s qs m n st = m.run s qs st
choose_alike l false f g h k s qs m n st = n.run s qs st

pub runs_nothing : (l : Layout) → MeansRun l (Done tt) (Done tt)
runs_nothing l = record { run = λ s qs st. done_alike l (tt {0}) s qs st }

round_alike : (l : Layout) (b : Bool) (f g : ScriptState → Evaluation ⊤) (s : ScriptState) (qs : List ℤ) → MeansRun l f g → Stands l s.privates qs
    → Alike l (round_if b f s) (round_if b g (with_privates qs s))
round_alike l true f g s qs m st =
    then_alike l l (f s) (g (with_privates qs s)) (λ _ s. Done true s) (λ _ s. Done true s) (m.run s qs st) (λ _ s qs st. done_alike l true s qs st)
round_alike l false f g s qs m st = done_alike l false s qs st

turns_alike : (l : Layout) (n : ℕ) (f g : ScriptState → Evaluation ⊤) (s : ScriptState) (qs : List ℤ) → MeansRun l f g → Stands l s.privates qs
    → Alike l (with_turns n f s) (with_turns n g (with_privates qs s))
turns_alike l zero f g s qs m st = over_alike ⊤ l (Fault Overrun) s qs
turns_alike l (suc n) f g s qs m st = m.run (record s { turns = n }) qs st

after_alike : (l : Layout) (b : Bool) (f g : ScriptState → Evaluation ⊤) (s : ScriptState) (qs : List ℤ) → MeansRun l f g → Stands l s.privates qs
    → Alike l (after_round f b s) (after_round g b (with_privates qs s))
after_alike l true f g s qs m st = turns_alike l s.turns f g s qs m st
after_alike l false f g s qs m st = done_alike l (tt {0}) s qs st

overruns : (l : Layout) → MeansRun l (λ s. Over (Fault Overrun) s) (λ s. Over (Fault Overrun) s)
overruns l = record { run = λ s qs st. over_alike ⊤ l (Fault Overrun) s qs }

rounds_alike : (l : Layout) (n : ℕ) (f g : ScriptState → Evaluation Bool) → MeansRound l f g → MeansRun l (rounds n f) (rounds n g)
rounds_alike l zero f g m =
    record {
      run = λ s qs st.
          then_alike l l (f s) (g (with_privates qs s)) (after_round (λ s. Over (Fault Overrun) s)) (after_round (λ s. Over (Fault Overrun) s)) (m.run s qs st)
          (λ b s qs st. after_alike l b (λ s. Over (Fault Overrun) s) (λ s. Over (Fault Overrun) s) s qs (overruns l) st);
    }
rounds_alike l (suc n) f g m =
    let rest : MeansRun l (rounds n f) (rounds n g) = rounds_alike l n f g m in
    record {
      run = λ s qs st.
          then_alike l l (f s) (g (with_privates qs s)) (after_round (rounds n f)) (after_round (rounds n g)) (m.run s qs st)
          (λ b s qs st. after_alike l b (rounds n f) (rounds n g) s qs rest st);
    }

pub loop_alike : (l : Layout) (f g : ScriptState → Evaluation Bool) → MeansRound l f g → MeansRun l (loop_does f) (loop_does g)
loop_alike l f g m = record { run = λ s qs st. (rounds_alike l s.turns f g m).run s qs st }

pub while_alike : (l : Layout) (v w : ScriptState → Evaluation ℤ) (f g : ScriptState → Evaluation ⊤)
    → ((s : ScriptState) (qs : List ℤ) → Stands l s.privates qs → Alike l (v s) (w (with_privates qs s))) → MeansRun l f g
    → MeansRun l (loop_does (while_round v f)) (loop_does (while_round w g))
while_alike l v w f g m n =
    loop_alike l (while_round v f) (while_round w g) (record {
      run = λ s qs st.
          then_alike l l (v s) (w (with_privates qs s)) (λ a s. round_if (is_truth a) f s) (λ a s. round_if (is_truth a) g s) (m s qs st)
          (λ a s qs st. round_alike l (is_truth a) f g s qs n st);
    })

step_alike : (l : Layout) (x y : CVar) (step : ℤ) (f g : ScriptState → Evaluation ⊤) → HasRoom l → SameVariable l x y → MeansRun l f g
    → MeansRun l (body_and_step x step f) (body_and_step y step g)
step_alike l x y step f g room same m =
    record {
      run = λ s qs st.
          then_alike l l (f s) (g (with_privates qs s)) (λ _ s. Done tt (stepped x step s)) (λ _ s. Done tt (stepped y step s)) (m.run s qs st)
          (λ _ s qs st.
          subst (λ (v : ℤ). Alike l (Done (tt {0}) (stepped x step s)) (Done tt (with_variable y (wrap (v +ℤ step)) (with_privates qs s)))) (variable_alike l x y s qs same st)
          (set_alike l x y (wrap (variable_at x s +ℤ step)) s qs room same st));
    }

for_round_alike : (l : Layout) (x y : CVar) (step : ℤ) (e d : Expression) (f g : ScriptState → Evaluation ⊤) → HasRoom l → SameVariable l x y → MeansValue l e d → MeansRun l f g
    → MeansRound l (for_round x (value_of e) step f) (for_round y (value_of d) step g)
for_round_alike l x y step e d f g room same m n =
    record {
      run = λ s qs st.
          subst (λ (v : ℤ). Alike l (for_round x (value_of e) step f s) (then_do (value_of d (with_privates qs s)) (λ b after. round_if (is_within step v b) (body_and_step y step g) after)))
          (variable_alike l x y s qs same st)
          (then_alike l l (value_of e s) (value_of d (with_privates qs s)) (λ b after. round_if (is_within step (variable_at x s) b) (body_and_step x step f) after)
          (λ b after. round_if (is_within step (variable_at x s) b) (body_and_step y step g) after) (m.run s qs st)
          (λ b after rs stands. round_alike l (is_within step (variable_at x s) b) (body_and_step x step f) (body_and_step y step g) after rs (step_alike l x y step f g room same n) stands));
    }

pub for_alike : (l : Layout) (x y : CVar) (step : ℤ) (a b e d : Expression) (f g : ScriptState → Evaluation ⊤) → HasRoom l → SameVariable l x y → MeansValue l a b → MeansValue l e d → MeansRun l f g
    → MeansRun l (λ s. then_do (value_of a s) (λ v s. loop_does (for_round x (value_of e) step f) (with_variable x v s)))
    (λ s. then_do (value_of b s) (λ v s. loop_does (for_round y (value_of d) step g) (with_variable y v s)))
for_alike l x y step a b e d f g room same m n o =
    let rounds : MeansRun l (loop_does (for_round x (value_of e) step f)) (loop_does (for_round y (value_of d) step g)) =
    loop_alike l (for_round x (value_of e) step f) (for_round y (value_of d) step g) (for_round_alike l x y step e d f g room same n o) in
    record {
      run = λ s qs st.
          then_alike l l (value_of a s) (value_of b (with_privates qs s)) (λ v s. loop_does (for_round x (value_of e) step f) (with_variable x v s))
          (λ v s. loop_does (for_round y (value_of d) step g) (with_variable y v s)) (m.run s qs st)
          (λ v s qs st.
          then_alike l l (Done (tt {0}) (with_variable x v s)) (Done (tt {0}) (with_variable y v (with_privates qs s))) (λ _ s. loop_does (for_round x (value_of e) step f) s)
          (λ _ s. loop_does (for_round y (value_of d) step g) s) (set_alike l x y v s qs room same st) (λ _ s qs st. rounds.run s qs st));
    }
