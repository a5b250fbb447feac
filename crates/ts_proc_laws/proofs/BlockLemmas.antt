-- Statements of a script with procedures that do what the checked statements of their expansion do.
use Rattle.std.proofs.Common.{◌≡◌, ℤ, List, [], ◌∷◌, ◌++◌, Result, Ok, Err, refl, ap, sym, ◌∙◌, subst}
use Rattle.std.specs.Prelude.{⊤}
use Rattle.mate_num.specs.Number.{is_truth}
use Rattle.ts_checked.specs.Expression.{Expression}
use Rattle.ts_checked.specs.Statement.{Statement, Block, no_statements, statement, If, IfElse, For, While}
use Rattle.ts_trees.specs.Tree.{Act}
use Rattle.ts_trees.specs.Seen.{acts}
use Rattle.ts_checker.specs.declared.fault.CheckFault.{CheckFault}
use Rattle.mate_num.specs.Results.{◌>>=◌}
use Rattle.ts_checker.specs.Names.{ScriptNames}
use Rattle.ts_checker.specs.Checks.{CheckedHead, checked_stmt, checked_block}
use Rattle.ts_semantics.specs.State.{ScriptState, Evaluation, Done, Over, then_do, with_variable, loop_does, choose}
use Rattle.ts_semantics.specs.Meaning.{value_of, while_round, for_round, run_stmt, run_block}
use Rattle.ts_proc_laws.specs.Frames.{value_checked, stmt_checked, for_checked}
use Rattle.ts_proc_laws.proofs.StateLemmas.{Layout, HasRoom}
use Rattle.ts_proc_laws.proofs.EvaluationLemmas.{with_privates, Alike, then_alike, then_nothing, MeansValue}
use Rattle.ts_proc_laws.proofs.StatementLemmas.{MeansRun, choose_alike, runs_nothing, while_alike, for_alike}
use Rattle.ts_proc_laws.proofs.CheckLemmas.{Comes, SameHead}

-- a part of a run with frames does what the block does, where the checks give one
abbrev pub BlockMeans : Layout → (ScriptState → Evaluation ⊤) → Result Block CheckFault → Type 0
BlockMeans l f (Err e) = ⊤
BlockMeans l f (Ok b) = MeansRun l f (run_block b)

-- the block of one statement
abbrev pub alone : Result Statement CheckFault → Result Block CheckFault
alone x = x >>= (λ s. Ok (statement s no_statements))

pub block_of_stmt : (l : Layout) (x r : Result Statement CheckFault) → Comes (λ a b. MeansRun l (run_stmt a) (run_stmt b)) x r → BlockMeans l (stmt_checked r) (alone x)
block_of_stmt l (Err e) r h = tt
block_of_stmt l (Ok y) (Ok x) h = record { run = λ s qs st. then_nothing l (run_stmt x s) (run_stmt y (with_privates qs s)) (h.run s qs st) }
block_of_stmt l (Ok y) (Err e) h = absurd h

pub block_of_if : (l : Layout) (x r : Result Expression CheckFault) (y : Result Block CheckFault) (f : ScriptState → Evaluation ⊤) → Comes (MeansValue l) x r → BlockMeans l f y
    → BlockMeans l (λ s. then_do (value_checked r s) (λ v s. choose (is_truth v) f (Done tt) s)) (alone (x >>= (λ test. y >>= (λ body. Ok (If test body)))))
block_of_if l (Err e) r y f h m = tt
block_of_if l (Ok d) (Err e) y f h m = absurd h
block_of_if l (Ok d) (Ok e) (Err c) f h m = tt
block_of_if l (Ok d) (Ok e) (Ok b) f h m =
    record {
      run = λ s qs st.
          then_nothing l (then_do (value_of e s) (λ v s. choose (is_truth v) f (Done tt) s)) (run_stmt (If d b) (with_privates qs s))
          (then_alike l l (value_of e s) (value_of d (with_privates qs s)) (λ v s. choose (is_truth v) f (Done tt) s) (λ v s. choose (is_truth v) (run_block b) (Done tt) s) (h.run s qs st)
          (λ v s qs st. choose_alike l (is_truth v) f (run_block b) (Done tt) (Done tt) s qs m (runs_nothing l) st));
    }

pub block_of_if_else : (l : Layout) (x r : Result Expression CheckFault) (y z : Result Block CheckFault) (f g : ScriptState → Evaluation ⊤) → Comes (MeansValue l) x r → BlockMeans l f y → BlockMeans l g z
    → BlockMeans l (λ s. then_do (value_checked r s) (λ v s. choose (is_truth v) f g s)) (alone (x >>= (λ test. y >>= (λ body. z >>= (λ other. Ok (IfElse test body other))))))
block_of_if_else l (Err e) r y z f g h m n = tt
block_of_if_else l (Ok d) (Err e) y z f g h m n = absurd h
block_of_if_else l (Ok d) (Ok e) (Err c) z f g h m n = tt
block_of_if_else l (Ok d) (Ok e) (Ok b) (Err c) f g h m n = tt
block_of_if_else l (Ok d) (Ok e) (Ok b) (Ok c) f g h m n =
    record {
      run = λ s qs st.
          then_nothing l (then_do (value_of e s) (λ v s. choose (is_truth v) f g s)) (run_stmt (IfElse d b c) (with_privates qs s))
          (then_alike l l (value_of e s) (value_of d (with_privates qs s)) (λ v s. choose (is_truth v) f g s) (λ v s. choose (is_truth v) (run_block b) (run_block c) s) (h.run s qs st)
          (λ v s qs st. choose_alike l (is_truth v) f (run_block b) g (run_block c) s qs m n st));
    }

pub block_of_while : (l : Layout) (x r : Result Expression CheckFault) (y : Result Block CheckFault) (f : ScriptState → Evaluation ⊤) → Comes (MeansValue l) x r → BlockMeans l f y
    → BlockMeans l (λ s. loop_does (while_round (value_checked r) f) s) (alone (x >>= (λ test. y >>= (λ body. Ok (While test body)))))
block_of_while l (Err e) r y f h m = tt
block_of_while l (Ok d) (Err e) y f h m = absurd h
block_of_while l (Ok d) (Ok e) (Err c) f h m = tt
block_of_while l (Ok d) (Ok e) (Ok b) f h m =
    record {
      run = λ s qs st.
          then_nothing l (loop_does (while_round (value_of e) f) s) (run_stmt (While d b) (with_privates qs s))
          ((while_alike l (value_of e) (value_of d) f (run_block b) (λ s qs st. h.run s qs st) m).run s qs st);
    }

for_head : (l : Layout) (a b : CheckedHead) (f g : ScriptState → Evaluation ⊤) (i : ℤ) → HasRoom l → SameHead l a b → b.step ≡ i → MeansRun l f g
    → MeansRun l (λ s. then_do (value_of a.from s) (λ v s. loop_does (for_round a.var (value_of a.to) a.step f) (with_variable a.var v s)))
    (λ s. then_do (value_of b.from s) (λ v s. loop_does (for_round b.var (value_of b.to) i g) (with_variable b.var v s)))
for_head l a b f g i room h e m =
    subst (λ (i : ℤ). MeansRun l (λ s. then_do (value_of a.from s) (λ v s. loop_does (for_round a.var (value_of a.to) a.step f) (with_variable a.var v s)))
    (λ s. then_do (value_of b.from s) (λ v s. loop_does (for_round b.var (value_of b.to) i g) (with_variable b.var v s)))) (h.step ∙ e)
    (for_alike l a.var b.var a.step a.from b.from a.to b.to f g room h.var h.from h.to m)

pub block_of_for : (l : Layout) (x r : Result CheckedHead CheckFault) (y : Result Block CheckFault) (z : Result ⊤ CheckFault) (f : ScriptState → Evaluation ⊤) → HasRoom l → Comes (SameHead l) x r → BlockMeans l f y
    → BlockMeans l (for_checked r f) (alone (x >>= (λ h. y >>= (λ body. z >>= (λ _. Ok (For h.var h.from h.to h.step body))))))
block_of_for l (Err e) r y z f room h m = tt
block_of_for l (Ok b) (Err e) y z f room h m = absurd h
block_of_for l (Ok b) (Ok a) (Err e) z f room h m = tt
block_of_for l (Ok b) (Ok a) (Ok c) (Err e) f room h m = tt
block_of_for l (Ok b) (Ok a) (Ok c) (Ok _) f room h m =
    record {
      run = λ s qs st.
          then_nothing l (for_checked (Ok a) f s) (run_stmt (For b.var b.from b.to b.step c) (with_privates qs s))
          ((for_head l a b f (run_block c) b.step room h refl m).run s qs st);
    }

-- ---- statements behind others

-- the checks of statements behind others give a block whose run is the one and then the other
pub data SplitsInto (b : Block) (x y : Result Block CheckFault) : Type 0 where
  splits : (c d : Block) → x ≡ Ok c → y ≡ Ok d → ((s : ScriptState) → run_block b s ≡ then_do (run_block c s) (λ _ s. run_block d s)) → SplitsInto b x y

abbrev pub Splits : Result Block CheckFault → Result Block CheckFault → Result Block CheckFault → Type 0
Splits (Err e) x y = ⊤
Splits (Ok b) x y = SplitsInto b x y

then_twice : (o : Evaluation ⊤) (f g : ⊤ → ScriptState → Evaluation ⊤) → then_do (then_do o f) g ≡ then_do o (λ a s. then_do (f a s) g)
then_twice (Done a s) f g = refl
then_twice (Over end s) f g = refl

then_each : (o : Evaluation ⊤) (f g : ⊤ → ScriptState → Evaluation ⊤) → ((a : ⊤) (s : ScriptState) → f a s ≡ g a s) → then_do o f ≡ then_do o g
then_each (Done a s) f g h = h a s
then_each (Over end s) f g h = refl

splits_more : (x : Result Statement CheckFault) (w y z : Result Block CheckFault) → Splits w y z
    → Splits (x >>= (λ s. w >>= (λ ss. Ok (statement s ss)))) (x >>= (λ s. y >>= (λ ss. Ok (statement s ss)))) z
splits_more (Err e) w y z h = tt
splits_more (Ok a) (Err e) y z h = tt
splits_more (Ok a) (Ok b) y z (splits c d first second run) =
    splits (statement a c) d (ap (λ (y : Result Block CheckFault). y >>= (λ ss. Ok (statement a ss))) first) second
    (λ s. then_each (run_stmt a s) (λ _ s. run_block b s) (λ _ s. then_do (run_block c s) (λ _ s. run_block d s)) (λ _ s. run s)
    ∙ sym (then_twice (run_stmt a s) (λ _ s. run_block c s) (λ _ s. run_block d s)))

splits_none : (y : Result Block CheckFault) → Splits y (Ok no_statements) y
splits_none (Err e) = tt
splits_none (Ok b) = splits no_statements b refl refl (λ s. refl)

pub splits-append : (n : ScriptNames) (xs ys : List Act) → Splits (checked_block n (acts (xs ++ ys))) (checked_block n (acts xs)) (checked_block n (acts ys))
splits-append n [] ys = splits_none (checked_block n (acts ys))
splits-append n (x ∷ xs) ys = splits_more (checked_stmt n x) (checked_block n (acts (xs ++ ys))) (checked_block n (acts xs)) (checked_block n (acts ys)) (splits-append n xs ys)

pub block_of_two : (l : Layout) (w x y : Result Block CheckFault) (f g : ScriptState → Evaluation ⊤) → Splits w x y → BlockMeans l f x → BlockMeans l g y
    → BlockMeans l (λ s. then_do (f s) (λ _ s. g s)) w
block_of_two l (Err e) x y f g h m n = tt
block_of_two l (Ok b) x y f g (splits c d first second run) m n =
    let m2 : MeansRun l f (run_block c) = subst (λ (x : Result Block CheckFault). BlockMeans l f x) first m in
    let n2 : MeansRun l g (run_block d) = subst (λ (y : Result Block CheckFault). BlockMeans l g y) second n in
    record {
      run = λ s qs st.
          subst (λ (o : Evaluation ⊤). Alike l (then_do (f s) (λ _ s. g s)) o) (sym (run (with_privates qs s)))
          (then_alike l l (f s) (run_block c (with_privates qs s)) (λ _ s. g s) (λ _ s. run_block d s) (m2.run s qs st) (λ _ s qs st. n2.run s qs st));
    }
