-- The code of an expression leaves its value on the stack.
use Rattle.std.proofs.Common.{◌≡◌, ℕ, ◌+◌, ◌++◌, ℤ, pos, negsuc, neg_ℤ, Bool, true, false, not, ◌&&◌, List, [], ◌∷◌, length, take, drop, reverse, Option, None, Some, Result, Ok, Err, refl, sym, ap, ◌∙◌, subst, arith, append_assoc, length-append, le-ltb, eqb-true}
use Rattle.std.specs.Option.{option_map_or}
use Rattle.std.specs.Prelude.{◌==◌, IsTrue, nat_lt, if◌then◌else◌}
use Rattle.std.proofs.Math.Seq.{take-append_seam, drop-append_seam}
use Rattle.std.proofs.lemmas.Bool.{and_parts}
use Rattle.std.proofs.lemmas.List.{reverse-reverse, reverse-append, length-reverse}
use Rattle.arrayvec.specs.ArrayVec.{ArrayVec}
use Rattle.mate_num.specs.Number.{wrap, is_truth}
use Rattle.mate_num.specs.Store.{payload, buffer_at, item_of}
use Rattle.mate_num.specs.declared.call.FaultKind.{FaultKind}
use Rattle.mate_num.specs.declared.id.FunId.{FunId}
use Rattle.mate_num.specs.declared.shape.Shape.{Shape}
use Rattle.mate_num.specs.declared.shape.FunShape.{FunShape}
use Rattle.mate_code.specs.declared.instr.Instr.{Instr}
use Rattle.mate_code.specs.declared.instr.Instr.TheVariants as instr
use Rattle.mate_code.specs.CodeUses.{use_of}
use Rattle.mate_code.specs.declared.uses.Use.TheVariants.{Calls}
use Rattle.mate_code.specs.declared.uses.Use.{Use}
use Rattle.mate_num.specs.Uses.{function_shape}
use Rattle.mate_code.specs.Effect.{Effect, Asks, asks, gives, args_of}
use Rattle.mate_num.specs.Operators.{truth_value}
use Rattle.mate_code.specs.Instr.{size_of}
use Rattle.mate_code.specs.Run.{Code, Run, asked as asked_of, executed, run_by}
use Rattle.ts_checked.specs.Expression.{Expression, Arguments, no_arguments, argument, Num, Shared, Private, Item, Size, MsgItem, MsgSize, Call, SendBuf, Neg, Not, Two}
use Rattle.ts_checked.specs.Right.{takes, is_buffer, is_call, argument_count, is_right_expr, are_right}
use Rattle.ts_checked.specs.declared.bin_op.BinOp.{BinOp}
use Rattle.ts_checked.specs.declared.bin_op.BinOp.TheVariants as op
use Rattle.ts_semantics.specs.State.{ScriptState, Evaluation, Done, then_do, value_or_fault, call_answered, next_answer, first_ten}
use Rattle.ts_semantics.specs.Meaning.{value_of, values_of, applied}
use Rattle.ts_semantics.proofs.OutcomeLemmas.{values_of-length}
use Rattle.ts_semantics.specs.Translation.{size_of_instrs, number_code, operator_code, expr_code, args_code, expr_size}
use Rattle.ts_semantics.proofs.PlaceLemmas.{bytes_of-append}
use Rattle.ts_semantics.proofs.RunPlaces.{StandsAt, stands-front, stands-back}
use Rattle.ts_semantics.proofs.RunReaches.{own_at, run_at, Reaches, arrives, arrives_by, stops, reaches-then, executes, goal_at}

-- ---- what single instructions do

-- a number is pushed
pub number-executed : (shape : Shape) (n : ℤ) (place : ℕ) (stack : List ℤ) (s : ScriptState) (count : ℕ) → executed shape (number_code n) (run_at place stack s count) ≡ run_at (place + size_of (number_code n)) (n ∷ stack) s (count + 1)
number-executed shape (pos n) place stack s count = by (nat_lt n 256) where
  by : (b : Bool) → let i : Instr = if b then instr.PushB n else instr.PushW (pos n) in executed shape i (run_at place stack s count) ≡ run_at (place + size_of i) (pos n ∷ stack) s (count + 1)
  by true = refl
  by false = refl
number-executed shape (negsuc n) place stack s count = refl

-- what an operator makes of the topmost two values
pub operator-executed : (shape : Shape) (o : BinOp) (a b : ℤ) (place : ℕ) (stack : List ℤ) (s : ScriptState) (count : ℕ)
    → let r : Run = run_at place (b ∷ a ∷ stack) s count in
    executed shape (operator_code o) r ≡ run_by (gives (applied o a b) (own_at (place + size_of (operator_code o)) stack s)) (use_of (operator_code o)) r
operator-executed shape op.Or a b place stack s count = refl
operator-executed shape _ a b place stack s count = refl

-- values, each pushed above those before it
abbrev pub pushed : List ℤ → List ℤ → List ℤ
pushed [] stack = stack
pushed (a ∷ values) stack = pushed values (a ∷ stack)

pushed-reverse : (values stack : List ℤ) → pushed values stack ≡ reverse values ++ stack
pushed-reverse [] stack = refl
pushed-reverse (a ∷ values) stack =
    pushed-reverse values (a ∷ stack)
    ∙ sym (append_assoc (reverse values) (a ∷ []) stack)
    ∙ ap (λ (l : List ℤ). l ++ stack) (sym (reverse-append (a ∷ []) values))

-- a call asks with its values, the first one first
asks-reverse : (f : FunId) (values stack : List ℤ) (next : ℕ) (s : ScriptState)
    → asks (length (reverse values)) f (own_at next (reverse values ++ stack) s) ≡ Asks (own_at next stack s) f (first_ten values)
asks-reverse f values stack next s =
    let back : List ℤ = reverse values in
    let long : nat_lt (length (back ++ stack)) (length back) ≡ false = le-ltb (length (back ++ stack)) (length back) (omega (arith, length-append back stack)) in
    let left : drop (length back) (back ++ stack) ≡ stack = drop-append_seam back stack in
    let taken : reverse (take (length back) (back ++ stack)) ≡ values = ap reverse (take-append_seam back stack) ∙ reverse-reverse values in
    rw (long, left, taken) refl

asks-pushed : (n : ℕ) (f : FunId) (values stack : List ℤ) (next : ℕ) (s : ScriptState) → length values ≡ n
    → asks n f (own_at next (pushed values stack) s) ≡ Asks (own_at next stack s) f (first_ten values)
asks-pushed n f values stack next s e =
    ap (λ (l : List ℤ). asks n f (own_at next l s)) (pushed-reverse values stack)
    ∙ ap (λ (k : ℕ). asks k f (own_at next (reverse values ++ stack) s)) (sym e ∙ sym (length-reverse values))
    ∙ asks-reverse f values stack next s

-- a function is there for a right call, and pops as many values as there are arguments
takes-args : (found : Option FunShape) (n : ℕ) → takes found n ≡ true → n ≡ option_map_or (λ (f : FunShape). f.args) found 0
takes-args None n is = cc
takes-args (Some f) n is = sym (eqb-true f.args n (and_parts (not f.send) (f.args == n) is).1)

call-args : (shape : Shape) (f : FunId) (n : ℕ) → IsTrue (is_call shape f n) → n ≡ args_of shape f
call-args shape f n is = takes-args (function_shape shape f) n is

module _ {shape : Shape} {code : Code} where
  -- a value comes on the stack, or a fault ends the run
  gives-Reaches : (res : Result ℤ FaultKind) (u : Use) (place next : ℕ) (stack below : List ℤ) (s : ScriptState) (count : ℕ)
      → Reaches shape code (run_by (gives res (own_at next below s)) u (run_at place stack s count)) (value_or_fault res s) (λ a t. run_at next (a ∷ below) t)
  gives-Reaches (Ok x) u place next stack below s count = arrives (count + 1)
  gives-Reaches (Err kind) u place next stack below s count = stops refl refl refl

  -- the call has its answer, or the run ends and wants it
  answered-Reaches : (left : List ℤ) (f : FunId) (args : ArrayVec ℤ) (place next : ℕ) (stack below : List ℤ) (s : ScriptState) (count : ℕ)
      → Reaches shape code (record { own = asked_of (own_at next below s) f args left (run_at place stack s count).own; store = s.store }) (call_answered f args left s) (λ a t. run_at next (a ∷ below) t)
  answered-Reaches [] f args place next stack below s count = stops refl refl refl
  answered-Reaches (a ∷ left) f args place next stack below s count = arrives (count + 1)

  asked-Reaches : (u : Use) (f : FunId) (args : ArrayVec ℤ) (place next : ℕ) (stack below : List ℤ) (s : ScriptState) (count : ℕ)
      → Reaches shape code (run_by (Asks (own_at next below s) f args) u (run_at place stack s count)) (next_answer f args s) (λ a t. run_at next (a ∷ below) t)
  asked-Reaches u f args place next stack below s count = answered-Reaches s.left f args place next stack below s count

  -- ---- one piece of code after another

  -- code of two pieces does two parts, one after the other
  pub pieces : {A B : Type 0} (xs ys : List Instr) {place : ℕ} {stack : List ℤ} {s : ScriptState} {count : ℕ} {o : Evaluation A} {middle : A → List ℤ} {later : B → List ℤ} (next : A → ScriptState → Evaluation B)
      → StandsAt code place (xs ++ ys)
      → Reaches shape code (run_at place stack s count) o (λ a t. run_at (place + size_of_instrs xs) (middle a) t)
      → ((a : A) (t : ScriptState) (k : ℕ) → o ≡ Done a t → StandsAt code (place + size_of_instrs xs) ys
      → Reaches shape code (run_at (place + size_of_instrs xs) (middle a) t k) (next a t) (λ b u. run_at (place + size_of_instrs xs + size_of_instrs ys) (later b) u))
      → Reaches shape code (run_at place stack s count) (then_do o next) (λ b u. run_at (place + size_of_instrs (xs ++ ys)) (later b) u)
  pieces xs ys {place} next stands first rest =
      let behind : StandsAt code (place + size_of_instrs xs) ys = stands-back code place xs ys stands in
      let size = bytes_of-append xs ys in
      goal_at (place + size_of_instrs xs + size_of_instrs ys) (omega arith) (reaches-then next first (λ a t k is. rest a t k is behind))

  -- a piece of one instruction
  pub single : {B : Type 0} (i : Instr) {place : ℕ} {stack : List ℤ} {s : ScriptState} {count : ℕ} {o : Evaluation B} {later : B → List ℤ}
      → StandsAt code place (i ∷ [])
      → Reaches shape code (executed shape i (run_at place stack s count)) o (λ b u. run_at (place + size_of i) (later b) u)
      → Reaches shape code (run_at place stack s count) o (λ b u. run_at (place + size_of_instrs (i ∷ [])) (later b) u)
  single i {place} stands does = goal_at (place + size_of i) (omega arith) (executes i stands.0 does)

  -- a piece, and then one instruction
  pub piece_and_one : {A B : Type 0} (xs : List Instr) (i : Instr) {place : ℕ} {stack : List ℤ} {s : ScriptState} {count : ℕ} {o : Evaluation A} {middle : A → List ℤ} {later : B → List ℤ} (next : A → ScriptState → Evaluation B)
      → StandsAt code place (xs ++ i ∷ [])
      → Reaches shape code (run_at place stack s count) o (λ a t. run_at (place + size_of_instrs xs) (middle a) t)
      → ((a : A) (t : ScriptState) (k : ℕ) → o ≡ Done a t
      → Reaches shape code (executed shape i (run_at (place + size_of_instrs xs) (middle a) t k)) (next a t) (λ b u. run_at (place + size_of_instrs xs + size_of i) (later b) u))
      → Reaches shape code (run_at place stack s count) (then_do o next) (λ b u. run_at (place + size_of_instrs (xs ++ i ∷ [])) (later b) u)
  piece_and_one xs i next stands first rest = pieces xs (i ∷ []) next stands first (λ a t k is at. single i at (rest a t k is))

-- ---- expressions and arguments

-- from this place on a run comes behind the expression's code, with the value on its stack
abbrev pub ValueReaches : Shape → Code → Expression → ℕ → Type 0
ValueReaches shape code e place =
    (stack : List ℤ) (s : ScriptState) (count : ℕ) → Reaches shape code (run_at place stack s count) (value_of e s) (λ a t. run_at (place + expr_size e) (a ∷ stack) t)

-- and behind the code of arguments, with their values
abbrev ValuesReach : Shape → Code → Arguments → ℕ → Type 0
ValuesReach shape code es place =
    (stack : List ℤ) (s : ScriptState) (count : ℕ) → Reaches shape code (run_at place stack s count) (values_of es s) (λ values t. run_at (place + size_of_instrs (args_code es)) (pushed values stack) t)

module _ (shape : Shape) (code : Code) where
  mutual
    -- the code of an expression comes to its end with the value on the stack, or is over as the expression is
    pub value_of-Reaches : (e : Expression) (calls : Bool) → IsTrue (is_right_expr shape calls e) → (place : ℕ) → StandsAt code place (expr_code e) → ValueReaches shape code e place
    value_of-Reaches (Num n) calls right place stands stack s count = single (number_code n) stands (arrives_by (count + 1) (number-executed shape n place stack s count))
    value_of-Reaches (Shared v) calls right place stands stack s count = single (instr.GetS v) stands (arrives (count + 1))
    value_of-Reaches (Private i) calls right place stands stack s count = single (instr.GetP i) stands (arrives (count + 1))
    value_of-Reaches (Item p e) calls right place stands stack s count =
        piece_and_one (expr_code e) (instr.BGet p) (λ i s. value_or_fault (item_of (buffer_at s.store p.0) i) s) stands
        (value_of-Reaches e calls (and_parts (is_buffer shape p) (is_right_expr shape calls e) right).1 place (stands-front code place (expr_code e) (instr.BGet p ∷ []) stands) stack s count)
        (λ i t k is. gives-Reaches (item_of (buffer_at t.store p.0) i) _ _ _ _ stack t k)
    value_of-Reaches (Size p) calls right place stands stack s count = single (instr.BSize p) stands (arrives (count + 1))
    value_of-Reaches (MsgItem e) calls right place stands stack s count =
        piece_and_one (expr_code e) instr.MsgGet (λ i s. value_or_fault (item_of s.msg i) s) stands
        (value_of-Reaches e calls right place (stands-front code place (expr_code e) (instr.MsgGet ∷ []) stands) stack s count)
        (λ i t k is. gives-Reaches (item_of t.msg i) _ _ _ _ stack t k)
    value_of-Reaches MsgSize calls right place stands stack s count = single instr.MsgSize stands (arrives (count + 1))
    value_of-Reaches (Call f args) calls right place stands stack s count =
        let parts = and_parts (calls && is_call shape f (argument_count args)) (are_right shape calls args) right in
        let called : IsTrue (is_call shape f (argument_count args)) = (and_parts calls (is_call shape f (argument_count args)) parts.0).1 in
        let here : ℕ = place + size_of_instrs (args_code args) in
        let next : ℕ = here + size_of (instr.Fun f) in
        piece_and_one (args_code args) (instr.Fun f) (λ values s. next_answer f (first_ten values) s) stands
        (values_of-Reaches args calls parts.1 place (stands-front code place (args_code args) (instr.Fun f ∷ []) stands) stack s count)
        (λ values t k is.
        let all : length values ≡ args_of shape f = values_of-length args s t values is ∙ call-args shape f (argument_count args) called in
        let Q : Effect → Type 0 = λ e. Reaches shape code (run_by e (Calls f) (run_at here (pushed values stack) t k)) (next_answer f (first_ten values) t) (λ a u. run_at next (a ∷ stack) u) in
        subst Q (sym (asks-pushed (args_of shape f) f values stack next t all)) (asked-Reaches (Calls f) f (first_ten values) here next (pushed values stack) stack t k))
    value_of-Reaches (SendBuf f p) calls right place stands stack s count =
        single (instr.FunBuf f p) stands (asked-Reaches (use_of (instr.FunBuf f p)) f (payload (buffer_at s.store p.0)) _ _ _ stack s count)
    value_of-Reaches (Neg e) calls right place stands stack s count =
        piece_and_one (expr_code e) instr.Neg (λ a s. Done (wrap (neg_ℤ a)) s) stands
        (value_of-Reaches e calls right place (stands-front code place (expr_code e) (instr.Neg ∷ []) stands) stack s count)
        (λ a t k is. arrives (k + 1))
    value_of-Reaches (Not e) calls right place stands stack s count =
        piece_and_one (expr_code e) instr.Not (λ a s. value_or_fault (truth_value (not (is_truth a))) s) stands
        (value_of-Reaches e calls right place (stands-front code place (expr_code e) (instr.Not ∷ []) stands) stack s count)
        (λ a t k is. arrives (k + 1))
    value_of-Reaches (Two o l r) calls right place stands stack s count =
        let parts = and_parts (is_right_expr shape calls l) (is_right_expr shape calls r) right in
        let last : List Instr = operator_code o ∷ [] in
        let here : ℕ = place + expr_size l in
        let there : ℕ = here + expr_size r in
        let next : ℕ = there + size_of (operator_code o) in
        pieces (expr_code l) (expr_code r ++ last) (λ a s. then_do (value_of r s) (λ b s. value_or_fault (applied o a b) s)) stands
        (value_of-Reaches l calls parts.0 place (stands-front code place (expr_code l) (expr_code r ++ last) stands) stack s count)
        (λ a t k is at. piece_and_one (expr_code r) (operator_code o) (λ b s. value_or_fault (applied o a b) s) at
        (value_of-Reaches r calls parts.1 here (stands-front code here (expr_code r) last at) (a ∷ stack) t k)
        (λ b u n is.
        let Q : Run → Type 0 = λ x. Reaches shape code x (value_or_fault (applied o a b) u) (λ c w. run_at next (c ∷ stack) w) in
        subst Q (sym (operator-executed shape o a b there stack u n)) (gives-Reaches (applied o a b) (use_of (operator_code o)) there next (b ∷ a ∷ stack) stack u n)))

    -- the code of arguments leaves their values, the last one on top
    values_of-Reaches : (es : Arguments) (calls : Bool) → IsTrue (are_right shape calls es) → (place : ℕ) → StandsAt code place (args_code es) → ValuesReach shape code es place
    values_of-Reaches no_arguments calls right place stands stack s count = goal_at place (omega arith) (arrives count)
    values_of-Reaches (argument e es) calls right place stands stack s count =
        let parts = and_parts (is_right_expr shape calls e) (are_right shape calls es) right in
        let here : ℕ = place + expr_size e in
        pieces (expr_code e) (args_code es) (λ a s. then_do (values_of es s) (λ values s. Done (a ∷ values) s)) stands
        (value_of-Reaches e calls parts.0 place (stands-front code place (expr_code e) (args_code es) stands) stack s count)
        (λ a t k is at. reaches-then (λ values s. Done (a ∷ values) s) (values_of-Reaches es calls parts.1 here at (a ∷ stack) t k) (λ values u n is. arrives n))
