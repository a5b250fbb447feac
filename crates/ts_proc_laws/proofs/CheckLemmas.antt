-- What the checks make of an expression of a script with procedures, and of what it becomes in the expansion.
use Rattle.std.proofs.Common.{◌≡◌, ℕ, suc, ℤ, pos, Bool, true, false, Option, Some, None, Result, Ok, Err, refl, ap, subst}
use Rattle.std.specs.Prelude.{⊤, ◌==◌, if◌then◌else◌}
use Rattle.mate_num.specs.Number.{wrap}
use Rattle.mate_num.specs.declared.id.FunId.{FunId}
use Rattle.mate_num.specs.declared.id.BufId.{BufId}
use Rattle.vm_shape.specs.Limits.{function_args}
use Rattle.vm_shape.specs.Shapes.{sends_buffer}
use Rattle.vm_shape.specs.declared.function.FunKind.{FunKind}
use Rattle.ts_trees.specs.declared.word.Word.{Word}
use Rattle.ts_trees.specs.declared.stmt.Step.{Step}
use Rattle.ts_trees.specs.Tree as given
use Rattle.ts_trees.specs.Tree.{Tree, Trees, no_trees, tree_then}
use Rattle.ts_checked.specs.Expression.{Arguments, argument, Item, Size, MsgItem, Call, SendBuf, Neg, Not, Two}
use Rattle.ts_checked.specs.Statement.{Do, DoSend}
use Rattle.ts_checker.specs.declared.fault.CheckFault.{CheckFault}
use Rattle.ts_checker.specs.declared.fault.CheckFault.TheVariants.{Kind, Arity}
use Rattle.mate_num.specs.Results.{◌>>=◌}
use Rattle.ts_checker.specs.Refusal.{unless_refused}
use Rattle.ts_checker.specs.Names.{ScriptNames, variable, buffer, function}
use Rattle.ts_checker.specs.Checks.{variable_expression, Called, sends, calls, as_expression, as_statement, name_alone, sent_name, sent, tree_count, called_function, checked_call, checked_expr, checked_args, checked_step, CheckedHead, checked_head}
use Rattle.ts_semantics.specs.Meaning.{run_stmt}
use Rattle.ts_proc_names.specs.declared.fault.ProcFault.{ProcFault}
use Rattle.ts_proc_names.specs.NameFaults.{◌<|>◌, word_fault, expr_fault, args_fault}
use Rattle.ts_proc_renaming.specs.Renaming.{Hiding, renamed, renamed_expr, renamed_args}
use Rattle.ts_proc_laws.proofs.StateLemmas.{Layout}
use Rattle.ts_proc_laws.proofs.EvaluationLemmas.{MeansValue, MeansValues, SameVariable, means_variable, means_number, means_item, means_size, means_msg_item, means_msg_size, means_call, means_send, means_negative, means_inverse, means_two, means_none, means_argument}
use Rattle.ts_proc_laws.proofs.StatementLemmas.{MeansRun, runs_do, runs_send}

-- where the expansion's check passes, that with frames does, and both give the like
abbrev pub Comes : {A B : Type 0} → (A → B → Type 0) → Result B CheckFault → Result A CheckFault → Type 0
Comes P (Err e) r = ⊤
Comes P (Ok b) (Ok a) = P a b
Comes P (Ok b) (Err e) = ⊥

pub comes_bind : {A B C D : Type 0} (P : A → B → Type 0) (Q : C → D → Type 0) (x : Result B CheckFault) (r : Result A CheckFault) (g : B → Result D CheckFault) (f : A → Result C CheckFault)
    → Comes P x r → ((a : A) (b : B) → P a b → Comes Q (g b) (f a)) → Comes Q (x >>= g) (r >>= f)
comes_bind P Q (Err e) r g f h next = tt
comes_bind P Q (Ok b) (Ok a) g f h next = next a b h
comes_bind P Q (Ok b) (Err e) g f h next = absurd h

abbrev pub Equals : {A : Type 0} → A → A → Type 0
Equals a b = a ≡ b

abbrev pub Passes : ⊤ → ⊤ → Type 0
Passes a b = ⊤

comes_self : {A : Type 0} (r : Result A CheckFault) → Comes (Equals {A = A}) r r
comes_self (Ok a) = refl
comes_self (Err e) = tt

pub comes_same : {A : Type 0} (x r : Result A CheckFault) → x ≡ r → Comes (Equals {A = A}) x r
comes_same {A} x r e = subst (λ (r : Result A CheckFault). Comes (Equals {A = A}) x r) e (comes_self x)

comes_unless : (b c : Bool) (e : CheckFault) → b ≡ c → Comes Passes (unless_refused b e) (unless_refused c e)
comes_unless false c e h = tt
comes_unless true true e h = tt
comes_unless true false e h = absurd (cc)

-- nothing is refused of either part
pub none_both : (a b : Option ProcFault) → (a <|> b) ≡ None → (a ≡ None) × (b ≡ None)
none_both None b e = (refl, e)
none_both (Some f) b e = absurd (cc)

-- names mean with frames what the names that they become do in the expansion
pub record NamesAgree (l : Layout) (h : Hiding) (nf nx : ScriptNames) : Type 0 where
  pub functions : (w : Word) → function nx w ≡ function nf w
  pub variables : (w : Word) → word_fault w ≡ None → Comes (SameVariable l) (variable nx (renamed h w)) (variable nf w)
  pub buffers : (w : Word) → word_fault w ≡ None → Comes (Equals {A = BufId}) (buffer nx (renamed h w)) (buffer nf w)

-- calls of functions
abbrev pub SameCalled : Layout → Called → Called → Type 0
SameCalled l (sends f p) (sends g q) = (f ≡ g) × (p ≡ q)
SameCalled l (sends f p) (calls g fs) = ⊥
SameCalled l (calls f es) (sends g q) = ⊥
SameCalled l (calls f es) (calls g fs) = (f ≡ g) × MeansValues l es fs

means_called : (l : Layout) (c d : Called) → SameCalled l c d → MeansValue l (as_expression c) (as_expression d)
means_called l (sends f p) (sends g q) h =
    subst (λ (g : FunId). MeansValue l (SendBuf f p) (SendBuf g q)) h.0 (subst (λ (q : BufId). MeansValue l (SendBuf f p) (SendBuf f q)) h.1 (means_send l f p))
means_called l (sends f p) (calls g fs) h = absurd h
means_called l (calls f es) (sends g q) h = absurd h
means_called l (calls f es) (calls g fs) h = subst (λ (g : FunId). MeansValue l (Call f es) (Call g fs)) h.0 (means_call l f es fs h.1)

pub runs_called : (l : Layout) (c d : Called) → SameCalled l c d → MeansRun l (run_stmt (as_statement c)) (run_stmt (as_statement d))
runs_called l (sends f p) (sends g q) h =
    subst (λ (g : FunId). MeansRun l (run_stmt (DoSend f p)) (run_stmt (DoSend g q))) h.0
    (subst (λ (q : BufId). MeansRun l (run_stmt (DoSend f p)) (run_stmt (DoSend f q))) h.1 (runs_send l f p))
runs_called l (sends f p) (calls g fs) h = absurd h
runs_called l (calls f es) (sends g q) h = absurd h
runs_called l (calls f es) (calls g fs) h = subst (λ (g : FunId). MeansRun l (run_stmt (Do f es)) (run_stmt (Do g fs))) h.0 (runs_do l f es fs h.1)

tree_count-renamed : (h : Hiding) (es : Trees) → tree_count (renamed_args h es) ≡ tree_count es
tree_count-renamed h no_trees = refl
tree_count-renamed h (tree_then e es) = ap suc (tree_count-renamed h es)

-- the heads of a `for`
pub record SameHead (l : Layout) (a b : CheckedHead) : Type 0 where
  pub var : SameVariable l a.var b.var
  pub from : MeansValue l a.from b.from
  pub to : MeansValue l a.to b.to
  pub step : a.step ≡ b.step

module _ (l : Layout) (h : Hiding) (nf nx : ScriptNames) (agree : NamesAgree l h nf nx) where
  name_comes : (place : ℕ) (e : Tree) → expr_fault e ≡ None → Comes (Equals {A = BufId}) (sent_name nx place (name_alone (renamed_expr h e))) (sent_name nf place (name_alone e))
  name_comes place (given.variable w) free = agree.buffers w free
  name_comes place e free = tt

  sent_comes : (place : ℕ) (es : Trees) → args_fault es ≡ None → Comes (Equals {A = BufId}) (sent nx place (renamed_args h es)) (sent nf place es)
  sent_comes place no_trees free = tt
  sent_comes place (tree_then e no_trees) free = name_comes place e (none_both (expr_fault e) None free).0
  sent_comes place (tree_then e (tree_then d es)) free = tt

  called_comes : (place : ℕ) (f : FunId × FunKind) (es : Trees) (x r : Result Arguments CheckFault) → args_fault es ≡ None → Comes (MeansValues l) x r
      → Comes (SameCalled l) (called_function nx place f (renamed_args h es) x) (called_function nf place f es r)
  called_comes place f es x r free same = by (sends_buffer f.1) where
    by : (b : Bool) → Comes (SameCalled l)
        (if b then sent nx place (renamed_args h es) >>= (λ p. Ok (sends f.0 p)) else unless_refused (tree_count (renamed_args h es) == function_args f.1) (Arity place) >>= (λ _. x >>= (λ checked. Ok (calls f.0 checked))))
        (if b then sent nf place es >>= (λ p. Ok (sends f.0 p)) else unless_refused (tree_count es == function_args f.1) (Arity place) >>= (λ _. r >>= (λ checked. Ok (calls f.0 checked))))
    by true =
        comes_bind (Equals {A = BufId}) (SameCalled l) (sent nx place (renamed_args h es)) (sent nf place es) (λ p. Ok (sends f.0 p)) (λ p. Ok (sends f.0 p)) (sent_comes place es free)
        (λ p q e. (refl, e))
    by false =
        comes_bind Passes (SameCalled l) (unless_refused (tree_count (renamed_args h es) == function_args f.1) (Arity place)) (unless_refused (tree_count es == function_args f.1) (Arity place))
        (λ _. x >>= (λ checked. Ok (calls f.0 checked))) (λ _. r >>= (λ checked. Ok (calls f.0 checked)))
        (comes_unless (tree_count (renamed_args h es) == function_args f.1) (tree_count es == function_args f.1) (Arity place) (ap (λ n. n == function_args f.1) (tree_count-renamed h es)))
        (λ _ _ _. comes_bind (MeansValues l) (SameCalled l) x r (λ checked. Ok (calls f.0 checked)) (λ checked. Ok (calls f.0 checked)) same (λ a b m. (refl, m)))

  pub call_comes : (allowed : Bool) (w : Word) (es : Trees) (x r : Result Arguments CheckFault) → args_fault es ≡ None → Comes (MeansValues l) x r
      → Comes (SameCalled l) (checked_call nx allowed w (renamed_args h es) x) (checked_call nf allowed w es r)
  call_comes allowed w es x r free same =
      comes_bind (Equals {A = FunId × FunKind}) (SameCalled l) (function nx w) (function nf w)
      (λ f. unless_refused allowed (Kind w.place) >>= (λ _. called_function nx w.place f (renamed_args h es) x))
      (λ f. unless_refused allowed (Kind w.place) >>= (λ _. called_function nf w.place f es r))
      (comes_same (function nx w) (function nf w) (agree.functions w))
      (λ f g e.
      comes_bind Passes (SameCalled l) (unless_refused allowed (Kind w.place)) (unless_refused allowed (Kind w.place))
      (λ _. called_function nx w.place g (renamed_args h es) x) (λ _. called_function nf w.place f es r) (comes_unless allowed allowed (Kind w.place) refl)
      (λ _ _ _. subst (λ (g : FunId × FunKind). Comes (SameCalled l) (called_function nx w.place g (renamed_args h es) x) (called_function nf w.place f es r)) e
      (called_comes w.place f es x r free same)))

  -- an expression, and the arguments of a call
  mutual
    pub expr_comes : (allowed : Bool) (e : Tree) → expr_fault e ≡ None → Comes (MeansValue l) (checked_expr nx allowed (renamed_expr h e)) (checked_expr nf allowed e)
    expr_comes allowed (given.number n) free = means_number l (wrap (pos n))
    expr_comes allowed (given.variable w) free =
        comes_bind (SameVariable l) (MeansValue l) (variable nx (renamed h w)) (variable nf w) (λ x. Ok (variable_expression x)) (λ x. Ok (variable_expression x)) (agree.variables w free)
        (λ x y same. means_variable l x y same)
    expr_comes allowed (given.item w e) free =
        let parts : (word_fault w ≡ None) × (expr_fault e ≡ None) = none_both (word_fault w) (expr_fault e) free in
        let inner : Comes (MeansValue l) (checked_expr nx allowed (renamed_expr h e)) (checked_expr nf allowed e) = expr_comes allowed e parts.1 in
        comes_bind (Equals {A = BufId}) (MeansValue l) (buffer nx (renamed h w)) (buffer nf w) (λ p. checked_expr nx allowed (renamed_expr h e) >>= (λ i. Ok (Item p i)))
        (λ p. checked_expr nf allowed e >>= (λ i. Ok (Item p i))) (agree.buffers w parts.0)
        (λ p q same.
        comes_bind (MeansValue l) (MeansValue l) (checked_expr nx allowed (renamed_expr h e)) (checked_expr nf allowed e) (λ i. Ok (Item q i)) (λ i. Ok (Item p i)) inner
        (λ a b m. subst (λ (q : BufId). MeansValue l (Item p a) (Item q b)) same (means_item l p a b m)))
    expr_comes allowed (given.size w) free =
        comes_bind (Equals {A = BufId}) (MeansValue l) (buffer nx (renamed h w)) (buffer nf w) (λ p. Ok (Size p)) (λ p. Ok (Size p)) (agree.buffers w free)
        (λ p q same. subst (λ (q : BufId). MeansValue l (Size p) (Size q)) same (means_size l p))
    expr_comes allowed (given.message_item e) free =
        comes_bind (MeansValue l) (MeansValue l) (checked_expr nx allowed (renamed_expr h e)) (checked_expr nf allowed e) (λ i. Ok (MsgItem i)) (λ i. Ok (MsgItem i)) (expr_comes allowed e free)
        (λ a b m. means_msg_item l a b m)
    expr_comes allowed given.message_size free = means_msg_size l
    expr_comes allowed (given.call w es) free =
        let parts : (word_fault w ≡ None) × (args_fault es ≡ None) = none_both (word_fault w) (args_fault es) free in
        comes_bind (SameCalled l) (MeansValue l) (checked_call nx allowed w (renamed_args h es) (checked_args nx allowed (renamed_args h es))) (checked_call nf allowed w es (checked_args nf allowed es))
        (λ c. Ok (as_expression c)) (λ c. Ok (as_expression c))
        (call_comes allowed w es (checked_args nx allowed (renamed_args h es)) (checked_args nf allowed es) parts.1 (args_comes allowed es parts.1))
        (λ c d same. means_called l c d same)
    expr_comes allowed (given.negative e) free =
        comes_bind (MeansValue l) (MeansValue l) (checked_expr nx allowed (renamed_expr h e)) (checked_expr nf allowed e) (λ a. Ok (Neg a)) (λ a. Ok (Neg a)) (expr_comes allowed e free)
        (λ a b m. means_negative l a b m)
    expr_comes allowed (given.inverse e) free =
        comes_bind (MeansValue l) (MeansValue l) (checked_expr nx allowed (renamed_expr h e)) (checked_expr nf allowed e) (λ a. Ok (Not a)) (λ a. Ok (Not a)) (expr_comes allowed e free)
        (λ a b m. means_inverse l a b m)
    expr_comes allowed (given.two o e d) free =
        let parts : (expr_fault e ≡ None) × (expr_fault d ≡ None) = none_both (expr_fault e) (expr_fault d) free in
        let second : Comes (MeansValue l) (checked_expr nx allowed (renamed_expr h d)) (checked_expr nf allowed d) = expr_comes allowed d parts.1 in
        comes_bind (MeansValue l) (MeansValue l) (checked_expr nx allowed (renamed_expr h e)) (checked_expr nf allowed e)
        (λ a. checked_expr nx allowed (renamed_expr h d) >>= (λ b. Ok (Two o a b))) (λ a. checked_expr nf allowed d >>= (λ b. Ok (Two o a b))) (expr_comes allowed e parts.0)
        (λ a b m.
        comes_bind (MeansValue l) (MeansValue l) (checked_expr nx allowed (renamed_expr h d)) (checked_expr nf allowed d) (λ c. Ok (Two o b c)) (λ c. Ok (Two o a c)) second
        (λ c d k. means_two l o a b c d m k))
    expr_comes allowed (given.paren e) free = expr_comes allowed e free

    pub args_comes : (allowed : Bool) (es : Trees) → args_fault es ≡ None → Comes (MeansValues l) (checked_args nx allowed (renamed_args h es)) (checked_args nf allowed es)
    args_comes allowed no_trees free = means_none l
    args_comes allowed (tree_then e es) free =
        let parts : (expr_fault e ≡ None) × (args_fault es ≡ None) = none_both (expr_fault e) (args_fault es) free in
        let rest : Comes (MeansValues l) (checked_args nx allowed (renamed_args h es)) (checked_args nf allowed es) = args_comes allowed es parts.1 in
        comes_bind (MeansValue l) (MeansValues l) (checked_expr nx allowed (renamed_expr h e)) (checked_expr nf allowed e)
        (λ a. checked_args nx allowed (renamed_args h es) >>= (λ more. Ok (argument a more))) (λ a. checked_args nf allowed es >>= (λ more. Ok (argument a more))) (expr_comes allowed e parts.0)
        (λ a b m.
        comes_bind (MeansValues l) (MeansValues l) (checked_args nx allowed (renamed_args h es)) (checked_args nf allowed es) (λ more. Ok (argument b more)) (λ more. Ok (argument a more)) rest
        (λ c d k. means_argument l a b c d m k))

  pub head_comes : (w : Word) (from to : Tree) (step : Option Step) → word_fault w ≡ None → expr_fault from ≡ None → expr_fault to ≡ None
      → Comes (SameHead l) (checked_head nx (renamed h w) (renamed_expr h from) (renamed_expr h to) step) (checked_head nf w from to step)
  head_comes w from to step wf ff tf =
      comes_bind (SameVariable l) (SameHead l) (variable nx (renamed h w)) (variable nf w)
      (λ x. checked_expr nx true (renamed_expr h from) >>= (λ first. checked_expr nx false (renamed_expr h to) >>= (λ limit. checked_step step >>= (λ size. Ok (record { var = x; from = first; to = limit; step = size })))))
      (λ x. checked_expr nf true from >>= (λ first. checked_expr nf false to >>= (λ limit. checked_step step >>= (λ size. Ok (record { var = x; from = first; to = limit; step = size })))))
      (agree.variables w wf)
      (λ x y same.
      comes_bind (MeansValue l) (SameHead l) (checked_expr nx true (renamed_expr h from)) (checked_expr nf true from)
      (λ first. checked_expr nx false (renamed_expr h to) >>= (λ limit. checked_step step >>= (λ size. Ok (record { var = y; from = first; to = limit; step = size }))))
      (λ first. checked_expr nf false to >>= (λ limit. checked_step step >>= (λ size. Ok (record { var = x; from = first; to = limit; step = size }))))
      (expr_comes true from ff)
      (λ a b m.
      comes_bind (MeansValue l) (SameHead l) (checked_expr nx false (renamed_expr h to)) (checked_expr nf false to)
      (λ limit. checked_step step >>= (λ size. Ok (record { var = y; from = b; to = limit; step = size })))
      (λ limit. checked_step step >>= (λ size. Ok (record { var = x; from = a; to = limit; step = size })))
      (expr_comes false to tf)
      (λ c d k.
      comes_bind (Equals {A = ℤ}) (SameHead l) (checked_step step) (checked_step step) (λ size. Ok (record { var = y; from = b; to = d; step = size }))
      (λ size. Ok (record { var = x; from = a; to = c; step = size })) (comes_self (checked_step step))
      (λ i j e. record { var = same; from = m; to = k; step = e }))))
