-- Parts of a run with frames that go as the expansion's do.
use Rattle.std.proofs.Common.{◌≡◌, ℤ, pos, List, [], ◌∷◌, length, Result, Ok, Err, refl, ap, sym, subst}
use Rattle.std.specs.Prelude.{⊤}
use Rattle.arrayvec.specs.ArrayVec.{ArrayVec}
use Rattle.mate_num.specs.Store.{payload, value_at, buffer_at, item_of}
use Rattle.mate_num.specs.Operators.{negative_of, not_of}
use Rattle.mate_num.specs.declared.call.End.{End}
use Rattle.mate_num.specs.declared.call.End.TheVariants.{Fault}
use Rattle.mate_num.specs.declared.call.FaultKind.{FaultKind}
use Rattle.mate_num.specs.declared.id.BufId.{BufId}
use Rattle.mate_num.specs.declared.id.FunId.{FunId}
use Rattle.ts_checked.specs.Expression.{Expression, Arguments, no_arguments, argument, Num, Item, Size, MsgItem, MsgSize, Call, SendBuf, Neg, Not, Two}
use Rattle.ts_checked.specs.declared.bin_op.BinOp.{BinOp}
use Rattle.ts_checked.specs.declared.checked_stmt.CVar.{CVar}
use Rattle.ts_checked.specs.declared.checked_stmt.CVar.TheVariants as var
use Rattle.ts_semantics.specs.State.{ScriptState, Evaluation, Done, Over, then_do, value_or_fault, variable_at, with_variable, first_ten, next_answer, call_answered}
use Rattle.ts_semantics.specs.Meaning.{applied, value_of, values_of}
use Rattle.ts_checker.specs.Checks.{variable_expression}
use Rattle.ts_proc_laws.proofs.StateLemmas.{Layout, HasRoom, Stands, SameNumber, read_same, set_same}

-- the state with these private variables
abbrev pub with_privates : List ℤ → ScriptState → ScriptState
with_privates qs s = record s { privates = qs }

-- both are done, with the same value, in states that differ in their private variables alone, which stand for one another
pub record DoneAlike {A : Type 0} (l : Layout) (a b : A) (s t : ScriptState) : Type 0 where
  pub value : a ≡ b
  pub after : t ≡ with_privates t.privates s
  pub stands : Stands l s.privates t.privates

-- both runs are over, and end alike
pub record OverAlike (e f : End) (s t : ScriptState) : Type 0 where
  pub end : e ≡ f
  pub store : s.store ≡ t.store
  pub calls : s.calls ≡ t.calls

-- with frames and in the expansion the same comes about
abbrev pub Alike : {A : Type 0} → Layout → Evaluation A → Evaluation A → Type 0
Alike l (Done a s) (Done b t) = DoneAlike l a b s t
Alike l (Done a s) (Over f t) = ⊥
Alike l (Over e s) (Done b t) = ⊥
Alike l (Over e s) (Over f t) = OverAlike e f s t

pub done_alike : {A : Type 0} (l : Layout) (a : A) (s : ScriptState) (qs : List ℤ) → Stands l s.privates qs → Alike l (Done a s) (Done a (with_privates qs s))
done_alike l a s qs st = record { value = refl; after = refl; stands = st }

pub over_alike : (A : Type 0) (l : Layout) (e : End) (s : ScriptState) (qs : List ℤ) → Alike {A = A} l (Over e s) (Over e (with_privates qs s))
over_alike A l e s qs = record { end = refl; store = refl; calls = refl }

-- one part after another
pub then_alike : {A B : Type 0} (l k : Layout) (o p : Evaluation A) (f g : A → ScriptState → Evaluation B) → Alike l o p
    → ((a : A) (s : ScriptState) (qs : List ℤ) → Stands l s.privates qs → Alike k (f a s) (g a (with_privates qs s))) → Alike k (then_do o f) (then_do p g)
then_alike {A} l k (Done a s) (Done b t) f g h next =
    subst (λ (b : A). Alike k (f a s) (g b t)) h.value (subst (λ (t : ScriptState). Alike k (f a s) (g a t)) (sym h.after) (next a s t.privates h.stands))
then_alike l k (Done a s) (Over e t) f g h next = absurd h
then_alike l k (Over e s) (Done b t) f g h next = absurd h
then_alike l k (Over e s) (Over d t) f g h next = h

-- nothing is done behind it
pub then_nothing : (l : Layout) (o p : Evaluation ⊤) → Alike l o p → Alike l o (then_do p (λ _ s. Done tt s))
then_nothing l (Done a s) (Done b t) h = record { value = refl; after = h.after; stands = h.stands }
then_nothing l (Done a s) (Over e t) h = absurd h
then_nothing l (Over e s) (Done b t) h = absurd h
then_nothing l (Over e s) (Over d t) h = h

-- ---- expressions

pub record MeansValue (l : Layout) (e f : Expression) : Type 0 where
  pub run : (s : ScriptState) (qs : List ℤ) → Stands l s.privates qs → Alike l (value_of e s) (value_of f (with_privates qs s))

pub record MeansValues (l : Layout) (es fs : Arguments) : Type 0 where
  pub run : (s : ScriptState) (qs : List ℤ) → Stands l s.privates qs → Alike l (values_of es s) (values_of fs (with_privates qs s))

-- a variable with frames, and in the expansion
abbrev pub SameVariable : Layout → CVar → CVar → Type 0
SameVariable l (var.Shared v) (var.Shared w) = v ≡ w
SameVariable l (var.Shared v) (var.Private j) = ⊥
SameVariable l (var.Private i) (var.Shared w) = ⊥
SameVariable l (var.Private i) (var.Private j) = SameNumber l i j

pub variable_alike : (l : Layout) (x y : CVar) (s : ScriptState) (qs : List ℤ) → SameVariable l x y → Stands l s.privates qs
    → variable_at x s ≡ variable_at y (with_privates qs s)
variable_alike l (var.Shared v) (var.Shared w) s qs h st = ap (λ v. value_at s.store v.0) h
variable_alike l (var.Shared v) (var.Private j) s qs h st = absurd h
variable_alike l (var.Private i) (var.Shared w) s qs h st = absurd h
variable_alike l (var.Private i) (var.Private j) s qs h st = read_same l s.privates qs i j st h

pub set_alike : (l : Layout) (x y : CVar) (v : ℤ) (s : ScriptState) (qs : List ℤ) → HasRoom l → SameVariable l x y → Stands l s.privates qs
    → Alike l (Done (tt {0}) (with_variable x v s)) (Done tt (with_variable y v (with_privates qs s)))
set_alike l (var.Shared x) (var.Shared y) v s qs r h st =
    subst (λ y. Alike l (Done (tt {0}) (with_variable (var.Shared x) v s)) (Done tt (with_variable (var.Shared y) v (with_privates qs s)))) h
    (done_alike l (tt {0}) (with_variable (var.Shared x) v s) qs st)
set_alike l (var.Shared x) (var.Private j) v s qs r h st = absurd h
set_alike l (var.Private i) (var.Shared y) v s qs r h st = absurd h
set_alike l (var.Private i) (var.Private j) v s qs r h st = record { value = refl; after = refl; stands = set_same l s.privates qs i j v r st h }

pub means_variable : (l : Layout) (x y : CVar) → SameVariable l x y → MeansValue l (variable_expression x) (variable_expression y)
means_variable l (var.Shared v) (var.Shared w) h =
    record { run = λ s qs st. subst (λ w. Alike l (Done (value_at s.store v.0) s) (Done (value_at s.store w.0) (with_privates qs s))) h (done_alike l (value_at s.store v.0) s qs st) }
means_variable l (var.Shared v) (var.Private j) h = absurd h
means_variable l (var.Private i) (var.Shared w) h = absurd h
means_variable l (var.Private i) (var.Private j) h =
    record { run = λ s qs st. record { value = read_same l s.privates qs i j st h; after = refl; stands = st } }

pub fault_alike : {A : Type 0} (l : Layout) (r : Result A FaultKind) (s : ScriptState) (qs : List ℤ) → Stands l s.privates qs
    → Alike l (value_or_fault r s) (value_or_fault r (with_privates qs s))
fault_alike {A} l (Ok a) s qs st = done_alike l a s qs st
fault_alike {A} l (Err kind) s qs st = over_alike A l (Fault kind) s qs

answered_alike : (l : Layout) (f : FunId) (args : ArrayVec ℤ) (left : List ℤ) (s : ScriptState) (qs : List ℤ) → Stands l s.privates qs
    → Alike l (call_answered f args left s) (call_answered f args left (with_privates qs s))
answered_alike l f args [] s qs st = record { end = refl; store = refl; calls = refl }
answered_alike l f args (a ∷ left) s qs st = record { value = refl; after = refl; stands = st }

pub means_number : (l : Layout) (n : ℤ) → MeansValue l (Num n) (Num n)
means_number l n = record { run = λ s qs st. done_alike l n s qs st }

pub means_item : (l : Layout) (p : BufId) (e f : Expression) → MeansValue l e f → MeansValue l (Item p e) (Item p f)
means_item l p e f m =
    record {
      run = λ s qs st.
          then_alike l l (value_of e s) (value_of f (with_privates qs s)) (λ i s. value_or_fault (item_of (buffer_at s.store p.0) i) s)
          (λ i s. value_or_fault (item_of (buffer_at s.store p.0) i) s) (m.run s qs st)
          (λ i s qs st. fault_alike l (item_of (buffer_at s.store p.0) i) s qs st);
    }

pub means_size : (l : Layout) (p : BufId) → MeansValue l (Size p) (Size p)
means_size l p = record { run = λ s qs st. done_alike l (pos (length (buffer_at s.store p.0))) s qs st }

pub means_msg_item : (l : Layout) (e f : Expression) → MeansValue l e f → MeansValue l (MsgItem e) (MsgItem f)
means_msg_item l e f m =
    record {
      run = λ s qs st.
          then_alike l l (value_of e s) (value_of f (with_privates qs s)) (λ i s. value_or_fault (item_of s.msg i) s)
          (λ i s. value_or_fault (item_of s.msg i) s) (m.run s qs st) (λ i s qs st. fault_alike l (item_of s.msg i) s qs st);
    }

pub means_msg_size : (l : Layout) → MeansValue l MsgSize MsgSize
means_msg_size l = record { run = λ s qs st. done_alike l (pos (length s.msg)) s qs st }

pub means_call : (l : Layout) (g : FunId) (es fs : Arguments) → MeansValues l es fs → MeansValue l (Call g es) (Call g fs)
means_call l g es fs m =
    record {
      run = λ s qs st.
          then_alike l l (values_of es s) (values_of fs (with_privates qs s)) (λ values s. next_answer g (first_ten values) s)
          (λ values s. next_answer g (first_ten values) s) (m.run s qs st)
          (λ values s qs st. answered_alike l g (first_ten values) s.left s qs st);
    }

pub means_send : (l : Layout) (g : FunId) (p : BufId) → MeansValue l (SendBuf g p) (SendBuf g p)
means_send l g p = record { run = λ s qs st. answered_alike l g (payload (buffer_at s.store p.0)) s.left s qs st }

pub means_negative : (l : Layout) (e f : Expression) → MeansValue l e f → MeansValue l (Neg e) (Neg f)
means_negative l e f m =
    record {
      run = λ s qs st.
          then_alike l l (value_of e s) (value_of f (with_privates qs s)) (λ a s. value_or_fault (negative_of a) s)
          (λ a s. value_or_fault (negative_of a) s) (m.run s qs st) (λ a s qs st. fault_alike l (negative_of a) s qs st);
    }

pub means_inverse : (l : Layout) (e f : Expression) → MeansValue l e f → MeansValue l (Not e) (Not f)
means_inverse l e f m =
    record {
      run = λ s qs st.
          then_alike l l (value_of e s) (value_of f (with_privates qs s)) (λ a s. value_or_fault (not_of a) s)
          (λ a s. value_or_fault (not_of a) s) (m.run s qs st) (λ a s qs st. fault_alike l (not_of a) s qs st);
    }

pub means_two : (l : Layout) (o : BinOp) (a b c d : Expression) → MeansValue l a b → MeansValue l c d → MeansValue l (Two o a c) (Two o b d)
means_two l o a b c d m n =
    record {
      run = λ s qs st.
          then_alike l l (value_of a s) (value_of b (with_privates qs s)) (λ x s. then_do (value_of c s) (λ y s. value_or_fault (applied o x y) s))
          (λ x s. then_do (value_of d s) (λ y s. value_or_fault (applied o x y) s)) (m.run s qs st)
          (λ x s qs st.
          then_alike l l (value_of c s) (value_of d (with_privates qs s)) (λ y s. value_or_fault (applied o x y) s)
          (λ y s. value_or_fault (applied o x y) s) (n.run s qs st) (λ y s qs st. fault_alike l (applied o x y) s qs st));
    }

pub means_none : (l : Layout) → MeansValues l no_arguments no_arguments
means_none l = record { run = λ s qs st. done_alike {A = List ℤ} l [] s qs st }

pub means_argument : (l : Layout) (e f : Expression) (es fs : Arguments) → MeansValue l e f → MeansValues l es fs → MeansValues l (argument e es) (argument f fs)
means_argument l e f es fs m n =
    record {
      run = λ s qs st.
          then_alike l l (value_of e s) (value_of f (with_privates qs s)) (λ a s. then_do (values_of es s) (λ values s. Done (a ∷ values) s))
          (λ a s. then_do (values_of fs s) (λ values s. Done (a ∷ values) s)) (m.run s qs st)
          (λ a s qs st.
          then_alike l l (values_of es s) (values_of fs (with_privates qs s)) (λ values s. Done (a ∷ values) s) (λ values s. Done (a ∷ values) s) (n.run s qs st)
          (λ values s qs st. done_alike {A = List ℤ} l (a ∷ values) s qs st));
    }
