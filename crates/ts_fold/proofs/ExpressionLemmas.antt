-- A folded expression means what the expression does, uses nothing more, is right if it is, and takes no more room.
use Rattle.std.proofs.Common.{◌≡◌, ℕ, zero, suc, ◌+◌, ◌≤◌, ℤ, pos, negsuc, Bool, true, false, List, [], ◌∷◌, ◌++◌, Option, Some, None, Result, Ok, Err, refl, ap, sym, ◌∙◌, arith}
use Rattle.std.specs.Option.{option_map_or}
use Rattle.std.specs.Prelude.{neg_ℤ, not, ◌&&◌, ◌||◌, max, nat_lt, if◌then◌else◌}
use Rattle.std.specs.Option.{option_map}
use Rattle.std.specs.Result.{result_ok}
use Rattle.std.proofs.lemmas.Bool.{or_parts, and_parts}
use Rattle.arrayvec.specs.ArrayVec.{ArrayVec}
use Rattle.mate_num.specs.Number.{wrap, is_truth, truth}
use Rattle.mate_num.specs.Store.{buffer_at, item_of}
use Rattle.mate_num.specs.declared.call.FaultKind.{FaultKind}
use Rattle.mate_num.specs.declared.id.BufId.{BufId}
use Rattle.mate_num.specs.declared.id.FunId.{FunId}
use Rattle.mate_num.specs.declared.resource.Resource.TheVariants as resource
use Rattle.mate_num.specs.declared.shape.Shape.{Shape}
use Rattle.mate_code.specs.declared.instr.Instr.{Instr}
use Rattle.mate_code.specs.declared.instr.Instr.TheVariants as instr
use Rattle.mate_code.specs.Instr.{size_of}
use Rattle.mate_code.specs.declared.uses.Use.{Use}
use Rattle.mate_code.specs.declared.uses.Use.TheVariants.{Gets, Calls}
use Rattle.ts_checked.specs.Expression.{Expression, Arguments, no_arguments, argument, Num, Shared, Private, Item, Size, MsgItem, MsgSize, Call, SendBuf, Neg, Not, Two}
use Rattle.ts_checked.specs.Right.{is_buffer, is_call, argument_count, is_right_expr, are_right}
use Rattle.ts_checked.specs.declared.bin_op.BinOp.{BinOp}
use Rattle.ts_semantics.specs.State.{ScriptState, Evaluation, Done, Over, then_do, value_or_fault, first_ten, next_answer}
use Rattle.ts_semantics.specs.Meaning.{applied, value_of, values_of}
use Rattle.mate_num.specs.Operators.{truth_value}
use Rattle.ts_semantics.specs.Uses.{expr_has, args_have}
use Rattle.ts_semantics.specs.Translation.{size_of_instrs, number_code, operator_code, expr_code, args_code, expr_need, args_need, expr_size}
use Rattle.ts_semantics.proofs.PlaceLemmas.{bytes_of-append, bytes_of-then, size_of-operator_code}
use Rattle.ts_fold.specs.Folded.{literal_of, operated, negation, inverse, operation, folded_expr, folded_args}

-- ---- tests

-- what one test of two has, the other two have
pub or_within : (a b c d : Bool) → (a ≡ false → c ≡ false) → (b ≡ false → d ≡ false) → (a || b) ≡ false → (c || d) ≡ false
or_within a b c d first second none = both c d (first (or_parts a b none).0) (second (or_parts a b none).1) where
  both : (c d : Bool) → c ≡ false → d ≡ false → (c || d) ≡ false
  both c d e f = ap (λ x. x || d) e ∙ f

pub and_within : (a b c d : Bool) → (a ≡ true → c ≡ true) → (b ≡ true → d ≡ true) → (a && b) ≡ true → (c && d) ≡ true
and_within a b c d first second all = both c d (first (and_parts a b all).0) (second (and_parts a b all).1) where
  both : (c d : Bool) → c ≡ true → d ≡ true → (c && d) ≡ true
  both c d e f = ap (λ x. x && d) e ∙ f

-- ---- what folding keeps of an expression

pub record Keeps (old new : Expression) : Type 0 where
  pub value : (s : ScriptState) → value_of new s ≡ value_of old s
  pub uses : (test : Use → Bool) → expr_has test old ≡ false → expr_has test new ≡ false
  pub right : (shape : Shape) (calls : Bool) → is_right_expr shape calls old ≡ true → is_right_expr shape calls new ≡ true
  pub need : expr_need new ≤ expr_need old
  pub size : expr_size new ≤ expr_size old

pub record KeepsArgs (old new : Arguments) : Type 0 where
  pub values : (s : ScriptState) → values_of new s ≡ values_of old s
  pub uses : (test : Use → Bool) → args_have test old ≡ false → args_have test new ≡ false
  pub right : (shape : Shape) (calls : Bool) → are_right shape calls old ≡ true → are_right shape calls new ≡ true
  pub count : argument_count new ≡ argument_count old
  pub need : (below : ℕ) → args_need below new ≤ args_need below old
  pub size : size_of_instrs (args_code new) ≤ size_of_instrs (args_code old)

keeps_same : (e : Expression) → Keeps e e
keeps_same e =
    record {
      value = λ s. refl;
      uses = λ test h. h;
      right = λ shape calls h. h;
      need = omega arith;
      size = omega arith;
    }

keeps_along : (a b c : Expression) → Keeps a b → Keeps b c → Keeps a c
keeps_along a b c f g =
    record {
      value = λ s. g.value s ∙ f.value s;
      uses = λ test h. g.uses test (f.uses test h);
      right = λ shape calls h. g.right shape calls (f.right shape calls h);
      need = omega arith;
      size = omega arith;
    }

-- ---- parts in their places

-- an instruction behind an expression
size_push : (e : Expression) (i : Instr) → size_of_instrs (expr_code e ++ i ∷ []) ≡ expr_size e + size_of i
size_push e i = let h = bytes_of-then e (i ∷ []) in omega arith

keeps_item : (p : BufId) (e f : Expression) → Keeps e f → Keeps (Item p e) (Item p f)
keeps_item p e f k =
    record {
      value = λ s. ap (λ (o : Evaluation ℤ). then_do o (λ i s. value_or_fault (item_of (buffer_at s.store p.0) i) s)) (k.value s);
      uses = λ test h.
          or_within (test (Gets (resource.Buffer p))) (expr_has test e) (test (Gets (resource.Buffer p))) (expr_has test f) (λ g. g) (k.uses test) h;
      right = λ shape calls h.
          and_within (is_buffer shape p) (is_right_expr shape calls e) (is_buffer shape p) (is_right_expr shape calls f) (λ g. g) (k.right shape calls) h;
      need = k.need;
      size = let a = size_push e (instr.BGet p) in let b = size_push f (instr.BGet p) in let c = k.size in omega arith;
    }

keeps_msg_item : (e f : Expression) → Keeps e f → Keeps (MsgItem e) (MsgItem f)
keeps_msg_item e f k =
    record {
      value = λ s. ap (λ (o : Evaluation ℤ). then_do o (λ i s. value_or_fault (item_of s.msg i) s)) (k.value s);
      uses = k.uses;
      right = k.right;
      need = k.need;
      size = let a = size_push e instr.MsgGet in let b = size_push f instr.MsgGet in let c = k.size in omega arith;
    }

keeps_neg : (e f : Expression) → Keeps e f → Keeps (Neg e) (Neg f)
keeps_neg e f k =
    record {
      value = λ s. ap (λ (o : Evaluation ℤ). then_do o (λ a s. Done (wrap (neg_ℤ a)) s)) (k.value s);
      uses = k.uses;
      right = k.right;
      need = k.need;
      size = let a = size_push e instr.Neg in let b = size_push f instr.Neg in let c = k.size in omega arith;
    }

keeps_not : (e f : Expression) → Keeps e f → Keeps (Not e) (Not f)
keeps_not e f k =
    record {
      value = λ s. ap (λ (o : Evaluation ℤ). then_do o (λ a s. value_or_fault (truth_value (not (is_truth a))) s)) (k.value s);
      uses = k.uses;
      right = k.right;
      need = k.need;
      size = let a = size_push e instr.Not in let b = size_push f instr.Not in let c = k.size in omega arith;
    }

then_each : {A B : Type 0} (o : Evaluation A) (f g : A → ScriptState → Evaluation B) → ((a : A) (s : ScriptState) → f a s ≡ g a s) → then_do o f ≡ then_do o g
then_each (Done a s) f g h = h a s
then_each (Over end s) f g h = refl

-- two parts, one after the other, each by another that does the same
pub then_same : {A B : Type 0} (o p : Evaluation A) (f g : A → ScriptState → Evaluation B) → o ≡ p → ((a : A) (s : ScriptState) → f a s ≡ g a s) → then_do o f ≡ then_do p g
then_same o p f g e h = ap (λ q. then_do q f) e ∙ then_each p f g h

size_two : (op : BinOp) (l r : Expression) → expr_size (Two op l r) ≡ expr_size l + expr_size r + 1
size_two op l r =
    let a = bytes_of-then l (expr_code r ++ operator_code op ∷ []) in
    let b = size_push r (operator_code op) in
    let c = size_of-operator_code op in
    omega arith

keeps_two : (op : BinOp) (l m r n : Expression) → Keeps l m → Keeps r n → Keeps (Two op l r) (Two op m n)
keeps_two op l m r n k q =
    record {
      value = λ s.
          then_same (value_of m s) (value_of l s) (λ a s. then_do (value_of n s) (λ b s. value_or_fault (applied op a b) s))
          (λ a s. then_do (value_of r s) (λ b s. value_or_fault (applied op a b) s)) (k.value s)
          (λ a s. ap (λ (o : Evaluation ℤ). then_do o (λ b s. value_or_fault (applied op a b) s)) (q.value s));
      uses = λ test h.
          or_within (expr_has test l) (expr_has test r) (expr_has test m) (expr_has test n) (k.uses test) (q.uses test) h;
      right = λ shape calls h.
          and_within (is_right_expr shape calls l) (is_right_expr shape calls r) (is_right_expr shape calls m) (is_right_expr shape calls n)
          (k.right shape calls) (q.right shape calls) h;
      need = let a = k.need in let b = q.need in omega arith;
      size = let a = k.size in let b = q.size in let c = size_two op l r in let d = size_two op m n in omega arith;
    }

pub keeps_call : (f : FunId) (es fs : Arguments) → KeepsArgs es fs → Keeps (Call f es) (Call f fs)
keeps_call f es fs k =
    record {
      value = λ s. ap (λ (o : Evaluation (List ℤ)). then_do o (λ values s. next_answer f (first_ten values) s)) (k.values s);
      uses = λ test h.
          or_within (test (Calls f)) (args_have test es) (test (Calls f)) (args_have test fs) (λ g. g) (k.uses test) h;
      right = λ shape calls h.
          and_within (calls && is_call shape f (argument_count es)) (are_right shape calls es) (calls && is_call shape f (argument_count fs)) (are_right shape calls fs)
          (λ g. ap (λ n. calls && is_call shape f n) k.count ∙ g) (k.right shape calls) h;
      need = let a = k.need 0 in omega arith;
      size = let a = bytes_of-append (args_code es) (instr.Fun f ∷ []) in let b = bytes_of-append (args_code fs) (instr.Fun f ∷ []) in let c = k.size in omega arith;
    }

keeps_argument : (e f : Expression) (es fs : Arguments) → Keeps e f → KeepsArgs es fs → KeepsArgs (argument e es) (argument f fs)
keeps_argument e f es fs k q =
    record {
      values = λ s.
          then_same (value_of f s) (value_of e s) (λ a s. then_do (values_of fs s) (λ values s. Done (a ∷ values) s))
          (λ a s. then_do (values_of es s) (λ values s. Done (a ∷ values) s)) (k.value s)
          (λ a s. ap (λ (o : Evaluation (List ℤ)). then_do o (λ values s. Done (a ∷ values) s)) (q.values s));
      uses = λ test h. or_within (expr_has test e) (args_have test es) (expr_has test f) (args_have test fs) (k.uses test) (q.uses test) h;
      right = λ shape calls h.
          and_within (is_right_expr shape calls e) (are_right shape calls es) (is_right_expr shape calls f) (are_right shape calls fs) (k.right shape calls) (q.right shape calls) h;
      count = ap suc q.count;
      need = λ below. let a = k.need in let b = q.need (suc below) in omega arith;
      size = let a = bytes_of-then e (args_code es) in let b = bytes_of-then f (args_code fs) in let c = k.size in let d = q.size in omega arith;
    }

-- ---- an operation's value in its place

number_size : (n : ℤ) → (2 ≤ size_of (number_code n)) × (size_of (number_code n) ≤ 3)
number_size (pos n) = by (nat_lt n 256) where
  by : (b : Bool) → (2 ≤ size_of (if b then instr.PushB n else instr.PushW (pos n))) × (size_of (if b then instr.PushB n else instr.PushW (pos n)) ≤ 3)
  by true = (omega arith, omega arith)
  by false = (omega arith, omega arith)
number_size (negsuc n) = (omega arith, omega arith)

keeps_number : (e : Expression) (n : ℤ) → ((s : ScriptState) → value_of e s ≡ Done n s) → 1 ≤ expr_need e → 3 ≤ expr_size e → Keeps e (Num n)
keeps_number e n value need size =
    record {
      value = λ s. sym (value s);
      uses = λ test h. refl;
      right = λ shape calls h. refl;
      need = need;
      size = let a = number_size n in omega (arith, a.1);
    }

number_bytes : (n : ℤ) → 2 ≤ expr_size (Num n)
number_bytes n = let a = number_size n in omega (arith, a.0)

keeps_negation : (e : Expression) → Keeps (Neg e) (negation e)
keeps_negation (Num n) =
    keeps_number (Neg (Num n)) (wrap (neg_ℤ n)) (λ s. refl) (omega arith)
    (let a = number_bytes n in let b = size_push (Num n) instr.Neg in omega arith)
keeps_negation e = keeps_same (Neg e)

keeps_inverse : (e : Expression) → Keeps (Not e) (inverse e)
keeps_inverse (Num n) =
    keeps_number (Not (Num n)) (truth (not (is_truth n))).0 (λ s. refl) (omega arith)
    (let a = number_bytes n in let b = size_push (Num n) instr.Not in omega arith)
keeps_inverse e = keeps_same (Not e)

keeps_result : (op : BinOp) (a b : ℤ) (result : Result ℤ FaultKind) → applied op a b ≡ result
    → Keeps (Two op (Num a) (Num b)) (option_map_or Num (result_ok result) (Two op (Num a) (Num b)))
keeps_result op a b (Ok n) e =
    keeps_number (Two op (Num a) (Num b)) n (λ s. ap (λ r. value_or_fault r s) e) (omega arith)
    (let c = number_bytes a in let d = number_bytes b in let f = size_two op (Num a) (Num b) in omega arith)
keeps_result op a b (Err kind) e = keeps_same (Two op (Num a) (Num b))

keeps_right : (op : BinOp) (a : ℤ) (r : Expression) → Keeps (Two op (Num a) r) (operation op (Num a) r)
keeps_right op a (Num b) = keeps_result op a b (applied op a b) refl
keeps_right op a r = keeps_same (Two op (Num a) r)

keeps_operation : (op : BinOp) (l r : Expression) → Keeps (Two op l r) (operation op l r)
keeps_operation op (Num a) r = keeps_right op a r
keeps_operation op l r = keeps_same (Two op l r)

-- ---- folding keeps all this

mutual
  pub keeps_expr : (e : Expression) → Keeps e (folded_expr e)
  keeps_expr (Num n) = keeps_same (Num n)
  keeps_expr (Shared v) = keeps_same (Shared v)
  keeps_expr (Private i) = keeps_same (Private i)
  keeps_expr (Item p e) = keeps_item p e (folded_expr e) (keeps_expr e)
  keeps_expr (Size p) = keeps_same (Size p)
  keeps_expr (MsgItem e) = keeps_msg_item e (folded_expr e) (keeps_expr e)
  keeps_expr MsgSize = keeps_same MsgSize
  keeps_expr (Call f args) = keeps_call f args (folded_args args) (keeps_args args)
  keeps_expr (SendBuf f p) = keeps_same (SendBuf f p)
  keeps_expr (Neg e) =
      keeps_along (Neg e) (Neg (folded_expr e)) (negation (folded_expr e)) (keeps_neg e (folded_expr e) (keeps_expr e)) (keeps_negation (folded_expr e))
  keeps_expr (Not e) =
      keeps_along (Not e) (Not (folded_expr e)) (inverse (folded_expr e)) (keeps_not e (folded_expr e) (keeps_expr e)) (keeps_inverse (folded_expr e))
  keeps_expr (Two op l r) =
      keeps_along (Two op l r) (Two op (folded_expr l) (folded_expr r)) (operation op (folded_expr l) (folded_expr r))
      (keeps_two op l (folded_expr l) r (folded_expr r) (keeps_expr l) (keeps_expr r)) (keeps_operation op (folded_expr l) (folded_expr r))

  pub keeps_args : (es : Arguments) → KeepsArgs es (folded_args es)
  keeps_args no_arguments =
      record {
        values = λ s. refl;
        uses = λ test h. h;
        right = λ shape calls h. h;
        count = refl;
        need = λ below. omega arith;
        size = omega arith;
      }
  keeps_args (argument e es) = keeps_argument e (folded_expr e) es (folded_args es) (keeps_expr e) (keeps_args es)
