-- Code that is written part by part: how many bytes it takes, and how the parts are put together.
use Rattle.std.proofs.Common.{◌≡◌, ℕ, zero, suc, ◌+◌, ◌<◌, ◌≤◌, ℤ, List, [], ◌∷◌, ◌++◌, length, get_or, drop, map, refl, ap, sym, ◌∙◌, arith, subst, append_assoc, append-nil}
use Rattle.std.proofs.lemmas.List.{drop_more, drop_all}
use Rattle.mate_num.specs.declared.bounds.TheConstants.{CODE_MAX}
use Rattle.mate_code.specs.declared.instr.Instr.{Instr}
use Rattle.mate_code.specs.declared.instr.Instr.TheVariants as instr
use Rattle.mate_code.specs.Instr.{size_of}
use Rattle.ts_checked.specs.Expression.{Expression, arguments}
use Rattle.ts_checked.specs.Statement.{Statement, Block, block, If, IfElse, For, While}
use Rattle.ts_checked.specs.declared.checked_stmt.CVar.{CVar}
use Rattle.ts_semantics.specs.Translation.{size_of_instrs, get_code, set_code, number_code, within_code, expr_code, args_code, expr_size, stmt_code, block_code, stmt_size, block_size, while_end, else_begin, else_end, for_test, for_body, for_end, step_code, script_code, script_size}
use Rattle.ts_semantics.proofs.PlaceLemmas.{bytes_of-append, bytes_of-stmt_code, bytes_of-block_code, size_of-set_code, size_of-get_code, size_of-within_code}
use Rattle.ts_compiler.specs.Parts.{HasRoom, WritesInstrs, guarded_code, head_code, other_code}

-- each takes a byte or more
pub length-le-bytes_of : (is : List Instr) → length is ≤ size_of_instrs is
length-le-bytes_of [] = omega arith
length-le-bytes_of (i ∷ is) = let h = length-le-bytes_of is in omega arith

pub bytes_of-push : (is : List Instr) (i : Instr) → size_of_instrs (is ++ i ∷ []) ≡ size_of_instrs is + size_of i
bytes_of-push is i = let h = bytes_of-append is (i ∷ []) in omega arith

pub ruleset parts = (bytes_of-push, length-le-bytes_of)

-- one part after another
infixl 20 ◌⟫◌
pub ◌⟫◌ : {a b c xs ys : List Instr} → WritesInstrs a xs b → WritesInstrs b ys c → WritesInstrs a (xs ++ ys) c
◌⟫◌ {a} {b} {c} {xs} {ys} first second =
    let size = bytes_of-append xs ys in
    let s1 = first.size in
    let s2 = second.size in
    record {
      code = second.code ∙ ap (λ (is : List Instr). is ++ ys) first.code ∙ append_assoc a xs ys;
      size = omega arith;
    }

-- the first part has room where all have, and then the second
pub room_first : {written : List Instr} (xs ys : List Instr) → HasRoom written (xs ++ ys) → HasRoom written xs
room_first {written} xs ys room = let size = bytes_of-append xs ys in let h = room.fits in record { fits = omega arith }

pub room_second : {written new xs : List Instr} (ys : List Instr) → WritesInstrs written xs new → HasRoom written (xs ++ ys) → HasRoom new ys
room_second {written} {new} {xs} ys writes room =
    let size = bytes_of-append xs ys in
    let h = room.fits in
    let s = writes.size in
    record { fits = omega arith }

-- the same code, written otherwise
pub writes_same : {old new xs ys : List Instr} → xs ≡ ys → WritesInstrs old xs new → WritesInstrs old ys new
writes_same {old} {new} {xs} {ys} e writes = let P : List Instr → Type 0 = λ is. WritesInstrs old is new in subst P e writes

pub room_same : {old xs ys : List Instr} → xs ≡ ys → HasRoom old xs → HasRoom old ys
room_same {old} {xs} {ys} e room = let P : List Instr → Type 0 = λ is. HasRoom old is in subst P e room

-- the code of an expression and of a statement, by the tree that it shows
pub room_expr : {old : List Instr} {d e : Expression} → d ≡ e → HasRoom old (expr_code d) → HasRoom old (expr_code e)
room_expr {old} {d} {e} seen room = room_same (ap expr_code seen) room

pub writes_expr : {old new : List Instr} {d e : Expression} → d ≡ e → WritesInstrs old (expr_code e) new → WritesInstrs old (expr_code d) new
writes_expr {old} {new} {d} {e} seen writes = writes_same (ap expr_code (sym seen)) writes

pub room_stmt : {old : List Instr} {x y : Statement} → x ≡ y → HasRoom old (stmt_code (size_of_instrs old) x) → HasRoom old (stmt_code (size_of_instrs old) y)
room_stmt {old} {x} {y} seen room = room_same (ap (stmt_code (size_of_instrs old)) seen) room

pub writes_stmt : {old new : List Instr} {x y : Statement} → x ≡ y → WritesInstrs old (stmt_code (size_of_instrs old) y) new → WritesInstrs old (stmt_code (size_of_instrs old) x) new
writes_stmt {old} {new} {x} {y} seen writes = writes_same (ap (stmt_code (size_of_instrs old)) (sym seen)) writes

-- the last instruction, as a function gave it
pub room_last : {old : List Instr} {i j : Instr} (xs : List Instr) → i ≡ j → HasRoom old (xs ++ j ∷ []) → HasRoom old (xs ++ i ∷ [])
room_last {old} {i} {j} xs is room = room_same (ap (λ (k : Instr). xs ++ k ∷ []) (sym is)) room

pub writes_last : {old new : List Instr} {i j : Instr} (xs : List Instr) → i ≡ j → WritesInstrs old (xs ++ i ∷ []) new → WritesInstrs old (xs ++ j ∷ []) new
writes_last {old} {new} {i} {j} xs is writes = writes_same (ap (λ (k : Instr). xs ++ k ∷ []) is) writes

-- ---- the arguments of a call

-- the code of all arguments behind what was written at first is that of the rest behind what is written now
pub record ArgsFrom (old now : List Instr) (all rest : List Expression) : Type 0 where
  pub code : old ++ args_code (arguments all) ≡ now ++ args_code (arguments rest)
  pub size : size_of_instrs old + size_of_instrs (args_code (arguments all)) ≡ size_of_instrs now + size_of_instrs (args_code (arguments rest))

pub args_begin : (old : List Instr) (all : List Expression) → ArgsFrom old old all all
args_begin old all = record { code = refl; size = refl }

pub args_room : {old now : List Instr} {all : List Expression} (e : Expression) (es : List Expression) → ArgsFrom old now all (e ∷ es) → HasRoom old (args_code (arguments all)) → HasRoom now (expr_code e)
args_room e es from room =
    let size = bytes_of-append (expr_code e) (args_code (arguments es)) in
    let h = room.fits in
    let s = from.size in
    record { fits = omega arith }

pub args_step : {old now new : List Instr} {all : List Expression} (e : Expression) (es : List Expression) → ArgsFrom old now all (e ∷ es) → WritesInstrs now (expr_code e) new → ArgsFrom old new all es
args_step {old} {now} {new} {all} e es from writes =
    let size = bytes_of-append (expr_code e) (args_code (arguments es)) in
    let s = from.size in
    let w = writes.size in
    record {
      code = from.code ∙ sym (append_assoc now (expr_code e) (args_code (arguments es))) ∙ ap (λ (is : List Instr). is ++ args_code (arguments es)) (sym writes.code);
      size = omega arith;
    }

pub args_end : {old now : List Instr} {all : List Expression} → ArgsFrom old now all [] → WritesInstrs old (args_code (arguments all)) now
args_end {old} {now} {all} from =
    let s = from.size in
    record { code = sym (from.code ∙ append-nil now); size = omega arith }

-- ---- what a loop over a list has left

pub rest_more : {X Y : Type 0} (f : X → Y) (items : List X) (i : ℕ) (item : X) → item ≡ get_or items i item → i < length items
    → map f (drop i items) ≡ f item ∷ map f (drop (i + 1) items)
rest_more f items i item is within =
    ap (map f) (drop_more items i item within) ∙ ap (λ x. f x ∷ map f (drop (i + 1) items)) (sym is)

pub rest_none : {X Y : Type 0} (f : X → Y) (items : List X) (i : ℕ) → length items ≤ i → map f (drop i items) ≡ []
rest_none f items i past = ap (map f) (drop_all i items past)

-- ---- the statements of a block

pub record BlockFrom (old now : List Instr) (all rest : List Statement) : Type 0 where
  pub code : old ++ block_code (size_of_instrs old) (block all) ≡ now ++ block_code (size_of_instrs now) (block rest)
  pub size : size_of_instrs old + block_size (block all) ≡ size_of_instrs now + block_size (block rest)

pub block_begin : (old : List Instr) (all : List Statement) → BlockFrom old old all all
block_begin old all = record { code = refl; size = refl }

pub block_room : {old now : List Instr} {all : List Statement} (x : Statement) (xs : List Statement) → BlockFrom old now all (x ∷ xs)
    → HasRoom old (block_code (size_of_instrs old) (block all)) → HasRoom now (stmt_code (size_of_instrs now) x)
block_room {old} {now} {all} x xs from room =
    let size = bytes_of-block_code (size_of_instrs old) (block all) in
    let size' = bytes_of-stmt_code (size_of_instrs now) x in
    let h = room.fits in
    let s = from.size in
    record { fits = omega arith }

pub block_step : {old now new : List Instr} {all : List Statement} (x : Statement) (xs : List Statement) → BlockFrom old now all (x ∷ xs)
    → WritesInstrs now (stmt_code (size_of_instrs now) x) new → BlockFrom old new all xs
block_step {old} {now} {new} {all} x xs from writes =
    let size = bytes_of-stmt_code (size_of_instrs now) x in
    let s = from.size in
    let w = writes.size in
    let next : size_of_instrs now + stmt_size x ≡ size_of_instrs new = omega arith in
    record {
      code =
          from.code ∙ sym (append_assoc now (stmt_code (size_of_instrs now) x) (block_code (size_of_instrs now + stmt_size x) (block xs)))
          ∙ ap (λ (is : List Instr). is ++ block_code (size_of_instrs now + stmt_size x) (block xs)) (sym writes.code)
          ∙ ap (λ (p : ℕ). new ++ block_code p (block xs)) next;
      size = omega arith;
    }

pub block_end : {old now : List Instr} {all : List Statement} → BlockFrom old now all [] → WritesInstrs old (block_code (size_of_instrs old) (block all)) now
block_end {old} {now} {all} from =
    let size = bytes_of-block_code (size_of_instrs old) (block all) in
    let s = from.size in
    record { code = sym (from.code ∙ append-nil now); size = omega arith }

-- ---- jumps

-- more instructions have room where so many bytes have
pub room_of : {written more : List Instr} (size : ℕ) → size_of_instrs more ≡ size → size_of_instrs written + size ≤ CODE_MAX → HasRoom written more
room_of size is fits = record { fits = omega arith }

bytes_of-guarded_code : (place : ℕ) (e : Expression) (a : Block) (behind : ℕ) → size_of_instrs (guarded_code place e a behind) ≡ expr_size e + 3 + block_size a
bytes_of-guarded_code place e a behind =
    let h = bytes_of-append (expr_code e) (instr.Jz (place + expr_size e + 3 + block_size a + behind) ∷ block_code (place + expr_size e + 3) a) in
    let k = bytes_of-block_code (place + expr_size e + 3) a in
    omega arith

bytes_of-other_code : (place : ℕ) (b : Block) → size_of_instrs (other_code place b) ≡ 3 + block_size b
bytes_of-other_code place b = let k = bytes_of-block_code (place + 3) b in omega arith

-- a test, and a part that runs where it is true
module _ {old : List Instr} (e : Expression) (a : Block) (behind : ℕ) (room : HasRoom old (guarded_code (size_of_instrs old) e a behind)) where
  pub guarded_small : block_size a ≤ CODE_MAX
  guarded_small = let size = bytes_of-guarded_code (size_of_instrs old) e a behind in let h = room.fits in omega arith

  pub guarded_test : HasRoom old (expr_code e)
  guarded_test = let size = bytes_of-guarded_code (size_of_instrs old) e a behind in let h = room.fits in record { fits = omega arith }

  pub guarded_jump : {s1 : List Instr} (end : ℕ) → WritesInstrs old (expr_code e) s1 → HasRoom s1 (instr.Jz end ∷ [])
  guarded_jump {s1} end w1 =
      let size = bytes_of-guarded_code (size_of_instrs old) e a behind in
      let h = room.fits in
      let s = w1.size in
      record { fits = omega arith }

  pub guarded_body : {s1 s2 : List Instr} (end : ℕ) → WritesInstrs old (expr_code e) s1 → WritesInstrs s1 (instr.Jz end ∷ []) s2 → HasRoom s2 (block_code (size_of_instrs s2) a)
  guarded_body {s1} {s2} end w1 w2 =
      let size = bytes_of-guarded_code (size_of_instrs old) e a behind in
      let size' = bytes_of-block_code (size_of_instrs s2) a in
      let h = room.fits in
      let s = w1.size in
      let r = w2.size in
      record { fits = omega arith }

pub guarded_writes : {old s1 s2 s3 : List Instr} (e : Expression) (a : Block) (behind end : ℕ) → WritesInstrs old (expr_code e) s1 → end ≡ size_of_instrs s1 + 3 + block_size a + behind
    → WritesInstrs s1 (instr.Jz end ∷ []) s2 → WritesInstrs s2 (block_code (size_of_instrs s2) a) s3 → WritesInstrs old (guarded_code (size_of_instrs old) e a behind) s3
guarded_writes {old} {s1} {s2} {s3} e a behind end w1 is w2 w3 =
    let s = w1.size in
    let r = w2.size in
    let target : end ≡ size_of_instrs old + expr_size e + 3 + block_size a + behind = omega arith in
    let body : size_of_instrs s2 ≡ size_of_instrs old + expr_size e + 3 = omega arith in
    writes_same
    (ap (λ (k : ℕ). expr_code e ++ instr.Jz k ∷ block_code (size_of_instrs s2) a) target
    ∙ ap (λ (k : ℕ). expr_code e ++ instr.Jz (size_of_instrs old + expr_size e + 3 + block_size a + behind) ∷ block_code k a) body)
    (w1 ⟫ (w2 ⟫ w3))

-- a part that is passed by
module _ {old : List Instr} (b : Block) (room : HasRoom old (other_code (size_of_instrs old) b)) where
  pub other_small : block_size b ≤ CODE_MAX
  other_small = let size = bytes_of-other_code (size_of_instrs old) b in let h = room.fits in omega arith

  pub other_jump : (end : ℕ) → HasRoom old (instr.Jmp end ∷ [])
  other_jump end = let size = bytes_of-other_code (size_of_instrs old) b in let h = room.fits in record { fits = omega arith }

  pub other_body : {s1 : List Instr} (end : ℕ) → WritesInstrs old (instr.Jmp end ∷ []) s1 → HasRoom s1 (block_code (size_of_instrs s1) b)
  other_body {s1} end w1 =
      let size = bytes_of-other_code (size_of_instrs old) b in
      let size' = bytes_of-block_code (size_of_instrs s1) b in
      let h = room.fits in
      let s = w1.size in
      record { fits = omega arith }

pub other_writes : {old s1 s2 : List Instr} (b : Block) (end : ℕ) → end ≡ size_of_instrs old + 3 + block_size b → WritesInstrs old (instr.Jmp end ∷ []) s1
    → WritesInstrs s1 (block_code (size_of_instrs s1) b) s2 → WritesInstrs old (other_code (size_of_instrs old) b) s2
other_writes {old} {s1} {s2} b end is w1 w2 =
    let s = w1.size in
    let body : size_of_instrs s1 ≡ size_of_instrs old + 3 = omega arith in
    writes_same
    (ap (λ (k : ℕ). instr.Jmp k ∷ block_code (size_of_instrs s1) b) is ∙ ap (λ (k : ℕ). instr.Jmp (size_of_instrs old + 3 + block_size b) ∷ block_code k b) body)
    (w1 ⟫ w2)

-- ---- the statements with jumps

-- an `if` without an `else` goes on directly behind its part
guarded_none : (place : ℕ) (e : Expression) (a : Block) → guarded_code place e a 0 ≡ stmt_code place (If e a)
guarded_none place e a =
    let end : place + expr_size e + 3 + block_size a + 0 ≡ place + expr_size e + 3 + block_size a = omega arith in
    ap (λ (k : ℕ). expr_code e ++ instr.Jz k ∷ block_code (place + expr_size e + 3) a) end

pub if_room : {old : List Instr} (e : Expression) (a : Block) → HasRoom old (stmt_code (size_of_instrs old) (If e a)) → HasRoom old (guarded_code (size_of_instrs old) e a 0)
if_room {old} e a room = room_same (sym (guarded_none (size_of_instrs old) e a)) room

pub if_writes : {old new : List Instr} (e : Expression) (a : Block) → WritesInstrs old (guarded_code (size_of_instrs old) e a 0) new → WritesInstrs old (stmt_code (size_of_instrs old) (If e a)) new
if_writes {old} {new} e a writes = writes_same (guarded_none (size_of_instrs old) e a) writes

pub else_room_first : {old : List Instr} (e : Expression) (a b : Block) → HasRoom old (stmt_code (size_of_instrs old) (IfElse e a b)) → HasRoom old (guarded_code (size_of_instrs old) e a 3)
else_room_first {old} e a b room =
    let size = bytes_of-stmt_code (size_of_instrs old) (IfElse e a b) in
    let size' = bytes_of-guarded_code (size_of_instrs old) e a 3 in
    let h = room.fits in
    record { fits = omega arith }

pub else_room_second : {old s1 : List Instr} (e : Expression) (a b : Block) → WritesInstrs old (guarded_code (size_of_instrs old) e a 3) s1 → HasRoom old (stmt_code (size_of_instrs old) (IfElse e a b))
    → HasRoom s1 (other_code (size_of_instrs s1) b)
else_room_second {old} {s1} e a b w1 room =
    let size = bytes_of-stmt_code (size_of_instrs old) (IfElse e a b) in
    let size1 = bytes_of-guarded_code (size_of_instrs old) e a 3 in
    let size2 = bytes_of-other_code (size_of_instrs s1) b in
    let h = room.fits in
    let s = w1.size in
    record { fits = omega arith }

pub else_writes : {old s1 s2 : List Instr} (e : Expression) (a b : Block) → WritesInstrs old (guarded_code (size_of_instrs old) e a 3) s1 → WritesInstrs s1 (other_code (size_of_instrs s1) b) s2
    → WritesInstrs old (stmt_code (size_of_instrs old) (IfElse e a b)) s2
else_writes {old} {s1} {s2} e a b w1 w2 =
    let place : ℕ = size_of_instrs old in
    let size = bytes_of-guarded_code place e a 3 in
    let s = w1.size in
    let begin : size_of_instrs s1 + 3 ≡ else_begin place e a = omega arith in
    let jump : List Instr = instr.Jz (else_begin place e a) ∷ block_code (place + expr_size e + 3) a in
    writes_same
    (append_assoc (expr_code e) jump (other_code (size_of_instrs s1) b)
    ∙ ap (λ (k : ℕ). expr_code e ++ (jump ++ (instr.Jmp (k + block_size b) ∷ block_code k b))) begin)
    (w1 ⟫ w2)

pub while_room_first : {old : List Instr} (e : Expression) (a : Block) → HasRoom old (stmt_code (size_of_instrs old) (While e a)) → HasRoom old (guarded_code (size_of_instrs old) e a 3)
while_room_first {old} e a room =
    let size = bytes_of-stmt_code (size_of_instrs old) (While e a) in
    let size' = bytes_of-guarded_code (size_of_instrs old) e a 3 in
    let h = room.fits in
    record { fits = omega arith }

pub while_room_second : {old s1 : List Instr} (e : Expression) (a : Block) (back : ℕ) → WritesInstrs old (guarded_code (size_of_instrs old) e a 3) s1 → HasRoom old (stmt_code (size_of_instrs old) (While e a))
    → HasRoom s1 (instr.Back back ∷ [])
while_room_second {old} {s1} e a back w1 room =
    let size = bytes_of-stmt_code (size_of_instrs old) (While e a) in
    let size' = bytes_of-guarded_code (size_of_instrs old) e a 3 in
    let h = room.fits in
    let s = w1.size in
    record { fits = omega arith }

pub while_writes : {old s1 s2 : List Instr} (e : Expression) (a : Block) (begin : ℕ) → begin ≡ size_of_instrs old → WritesInstrs old (guarded_code (size_of_instrs old) e a 3) s1
    → WritesInstrs s1 (instr.Back begin ∷ []) s2 → WritesInstrs old (stmt_code (size_of_instrs old) (While e a)) s2
while_writes {old} {s1} {s2} e a begin is w1 w2 =
    let place : ℕ = size_of_instrs old in
    let jump : List Instr = instr.Jz (while_end place e a) ∷ block_code (place + expr_size e + 3) a in
    writes_same
    (append_assoc (expr_code e) jump (instr.Back begin ∷ []) ∙ ap (λ (k : ℕ). expr_code e ++ (jump ++ instr.Back k ∷ [])) is)
    (w1 ⟫ w2)

-- ---- `for`

bytes_of-head_code : (x : CVar) (from to : Expression) (step : ℤ) → size_of_instrs (head_code x from to step) ≡ expr_size from + expr_size to + 5
bytes_of-head_code x from to step =
    let h = bytes_of-append (expr_code from) (set_code x ∷ get_code x ∷ (expr_code to ++ within_code step ∷ [])) in
    let k = bytes_of-push (expr_code to) (within_code step) in
    let s = size_of-set_code x in
    let g = size_of-get_code x in
    let w = size_of-within_code step in
    omega arith

-- the first value and the test
module _ {old : List Instr} (x : CVar) (from to : Expression) (step : ℤ) (room : HasRoom old (head_code x from to step)) where
  pub head_first : (set : Instr) → set ≡ set_code x → HasRoom old (expr_code from ++ set ∷ [])
  head_first set is =
      let all = bytes_of-head_code x from to step in
      let size = bytes_of-push (expr_code from) set in
      let s : size_of set ≡ 2 = ap (λ (i : Instr). size_of i) is ∙ size_of-set_code x in
      let h = room.fits in
      record { fits = omega arith }

  pub head_second : {s1 : List Instr} (set get : Instr) → set ≡ set_code x → get ≡ get_code x → WritesInstrs old (expr_code from ++ set ∷ []) s1 → HasRoom s1 (get ∷ [])
  head_second {s1} set get set_is get_is w1 =
      let all = bytes_of-head_code x from to step in
      let size = bytes_of-push (expr_code from) set in
      let s : size_of set ≡ 2 = ap (λ (i : Instr). size_of i) set_is ∙ size_of-set_code x in
      let g : size_of get ≡ 2 = ap (λ (i : Instr). size_of i) get_is ∙ size_of-get_code x in
      let h = room.fits in
      let w = w1.size in
      record { fits = omega arith }

  pub head_third : {s1 s2 : List Instr} (set get within : Instr) → set ≡ set_code x → get ≡ get_code x → within ≡ within_code step → WritesInstrs old (expr_code from ++ set ∷ []) s1 → WritesInstrs s1 (get ∷ []) s2
      → HasRoom s2 (expr_code to ++ within ∷ [])
  head_third {s1} {s2} set get within set_is get_is within_is w1 w2 =
      let all = bytes_of-head_code x from to step in
      let size1 = bytes_of-push (expr_code from) set in
      let size3 = bytes_of-push (expr_code to) within in
      let s : size_of set ≡ 2 = ap (λ (i : Instr). size_of i) set_is ∙ size_of-set_code x in
      let g : size_of get ≡ 2 = ap (λ (i : Instr). size_of i) get_is ∙ size_of-get_code x in
      let t : size_of within ≡ 1 = ap (λ (i : Instr). size_of i) within_is ∙ size_of-within_code step in
      let h = room.fits in
      let w = w1.size in
      let v = w2.size in
      record { fits = omega arith }

-- the place of the test
pub head_test : {old s1 : List Instr} (x : CVar) (from : Expression) (set : Instr) → set ≡ set_code x → WritesInstrs old (expr_code from ++ set ∷ []) s1 → size_of_instrs s1 ≡ for_test (size_of_instrs old) from
head_test {old} {s1} x from set is w1 =
    let size = bytes_of-push (expr_code from) set in
    let s : size_of set ≡ 2 = ap (λ (i : Instr). size_of i) is ∙ size_of-set_code x in
    let w = w1.size in
    omega arith

pub head_writes : {old s1 s2 s3 : List Instr} (x : CVar) (from to : Expression) (step : ℤ) (set get within : Instr) → set ≡ set_code x → get ≡ get_code x → within ≡ within_code step
    → WritesInstrs old (expr_code from ++ set ∷ []) s1 → WritesInstrs s1 (get ∷ []) s2 → WritesInstrs s2 (expr_code to ++ within ∷ []) s3 → WritesInstrs old (head_code x from to step) s3
head_writes {old} {s1} {s2} {s3} x from to step set get within set_is get_is within_is w1 w2 w3 =
    let A : Instr → Type 0 = λ i. WritesInstrs old (expr_code from ++ i ∷ []) s1 in
    let B : Instr → Type 0 = λ i. WritesInstrs s1 (i ∷ []) s2 in
    let C : Instr → Type 0 = λ i. WritesInstrs s2 (expr_code to ++ i ∷ []) s3 in
    writes_same (append_assoc (expr_code from) (set_code x ∷ []) (get_code x ∷ (expr_code to ++ within_code step ∷ [])))
    (subst A set_is w1 ⟫ (subst B get_is w2 ⟫ subst C within_is w3))

-- the body, the step and the going back
module _ {old : List Instr} (x : CVar) (from to : Expression) (step : ℤ) (a : Block) (room : HasRoom old (stmt_code (size_of_instrs old) (For x from to step a))) where
  pub for_head_room : HasRoom old (head_code x from to step)
  for_head_room =
      let all = bytes_of-stmt_code (size_of_instrs old) (For x from to step a) in
      let size = bytes_of-head_code x from to step in
      let h = room.fits in
      record { fits = omega arith }

  pub for_small : block_size a ≤ CODE_MAX
  for_small =
      let all = bytes_of-stmt_code (size_of_instrs old) (For x from to step a) in
      let h = room.fits in
      omega arith

  module _ {s1 : List Instr} (n : Instr) (is : n ≡ number_code step) (w1 : WritesInstrs old (head_code x from to step) s1) where
    -- so many bytes are left behind the head
    for_left : size_of_instrs s1 + 3 + block_size a + 5 + size_of n + 3 ≤ CODE_MAX
    for_left =
        let all = bytes_of-stmt_code (size_of_instrs old) (For x from to step a) in
        let size = bytes_of-head_code x from to step in
        let s : size_of n ≡ size_of (number_code step) = ap (λ (i : Instr). size_of i) is in
        let h = room.fits in
        let w = w1.size in
        omega arith

    pub for_jump : (end : ℕ) → HasRoom s1 (instr.Jz end ∷ [])
    for_jump end = let h = for_left in record { fits = omega arith }

    pub for_body_room : {s2 : List Instr} (end : ℕ) → WritesInstrs s1 (instr.Jz end ∷ []) s2 → HasRoom s2 (block_code (size_of_instrs s2) a)
    for_body_room {s2} end w2 =
        let h = for_left in
        let size = bytes_of-block_code (size_of_instrs s2) a in
        let w = w2.size in
        record { fits = omega arith }

    pub for_step : {s2 s3 : List Instr} (end : ℕ) → WritesInstrs s1 (instr.Jz end ∷ []) s2 → WritesInstrs s2 (block_code (size_of_instrs s2) a) s3
        → HasRoom s3 (get_code x ∷ n ∷ instr.Add ∷ set_code x ∷ [])
    for_step {s2} {s3} end w2 w3 =
        let h = for_left in
        let size = bytes_of-block_code (size_of_instrs s2) a in
        let s = size_of-set_code x in
        let g = size_of-get_code x in
        let w = w2.size in
        let v = w3.size in
        record { fits = omega arith }

    pub for_back : {s2 s3 s4 : List Instr} (end back : ℕ) → WritesInstrs s1 (instr.Jz end ∷ []) s2 → WritesInstrs s2 (block_code (size_of_instrs s2) a) s3
        → WritesInstrs s3 (get_code x ∷ n ∷ instr.Add ∷ set_code x ∷ []) s4 → HasRoom s4 (instr.Back back ∷ [])
    for_back {s2} {s3} {s4} end back w2 w3 w4 =
        let h = for_left in
        let size = bytes_of-block_code (size_of_instrs s2) a in
        let s = size_of-set_code x in
        let g = size_of-get_code x in
        let w = w2.size in
        let v = w3.size in
        let u = w4.size in
        record { fits = omega arith }

    pub for_writes : {s2 s3 s4 s5 : List Instr} (end back : ℕ) → end ≡ size_of_instrs s1 + 3 + block_size a + 5 + size_of (number_code step) + 3 → back ≡ for_test (size_of_instrs old) from
        → WritesInstrs s1 (instr.Jz end ∷ []) s2 → WritesInstrs s2 (block_code (size_of_instrs s2) a) s3 → WritesInstrs s3 (get_code x ∷ n ∷ instr.Add ∷ set_code x ∷ []) s4 → WritesInstrs s4 (instr.Back back ∷ []) s5
        → WritesInstrs old (stmt_code (size_of_instrs old) (For x from to step a)) s5
    for_writes {s2} {s3} {s4} {s5} end back end_is back_is w2 w3 w4 w5 =
        let place : ℕ = size_of_instrs old in
        let size = bytes_of-head_code x from to step in
        let w = w1.size in
        let v = w2.size in
        let target : end ≡ for_end place from to step a = omega arith in
        let body : size_of_instrs s2 ≡ for_body place from to = omega arith in
        let tail : ℕ → Instr → List Instr = λ k i. get_code x ∷ i ∷ instr.Add ∷ set_code x ∷ instr.Back k ∷ [] in
        let rest : List Instr = instr.Jz end ∷ (block_code (size_of_instrs s2) a ++ tail back n) in
        let before : List Instr → List Instr = λ xs. expr_code from ++ set_code x ∷ get_code x ∷ (expr_code to ++ within_code step ∷ xs) in
        writes_same
        (append_assoc (expr_code from) (set_code x ∷ get_code x ∷ (expr_code to ++ within_code step ∷ [])) rest
        ∙ ap (λ (xs : List Instr). expr_code from ++ set_code x ∷ get_code x ∷ xs) (append_assoc (expr_code to) (within_code step ∷ []) rest)
        ∙ ap (λ (k : ℕ). before (instr.Jz k ∷ (block_code (size_of_instrs s2) a ++ tail back n))) target
        ∙ ap (λ (k : ℕ). before (instr.Jz (for_end place from to step a) ∷ (block_code k a ++ tail back n))) body
        ∙ ap (λ (k : ℕ). before (instr.Jz (for_end place from to step a) ∷ (block_code (for_body place from to) a ++ tail k n))) back_is
        ∙ ap (λ (i : Instr). before (instr.Jz (for_end place from to step a) ∷ (block_code (for_body place from to) a ++ tail (for_test place from) i))) is)
        (w1 ⟫ (w2 ⟫ (w3 ⟫ (w4 ⟫ w5))))

-- ---- a script

pub script_room : {written : List Instr} (tree : Block) → written ≡ [] → script_size tree ≤ CODE_MAX → HasRoom written (block_code (size_of_instrs written) tree)
script_room {written} tree empty fits =
    let size = bytes_of-block_code (size_of_instrs written) tree in
    let none : size_of_instrs written ≡ 0 = ap (λ (is : List Instr). size_of_instrs is) empty in
    record { fits = omega arith }

pub halt_room : {written s1 : List Instr} (tree : Block) → written ≡ [] → script_size tree ≤ CODE_MAX → WritesInstrs written (block_code (size_of_instrs written) tree) s1 → HasRoom s1 (instr.Halt ∷ [])
halt_room {written} {s1} tree empty fits w1 =
    let size = bytes_of-block_code (size_of_instrs written) tree in
    let none : size_of_instrs written ≡ 0 = ap (λ (is : List Instr). size_of_instrs is) empty in
    let w = w1.size in
    record { fits = omega arith }

pub script_writes : {written s1 s2 : List Instr} (tree : Block) → written ≡ [] → WritesInstrs written (block_code (size_of_instrs written) tree) s1 → WritesInstrs s1 (instr.Halt ∷ []) s2 → s2 ≡ script_code tree
script_writes {written} {s1} {s2} tree empty w1 w2 =
    w2.code ∙ ap (λ (is : List Instr). is ++ instr.Halt ∷ []) (w1.code ∙ ap (λ (is : List Instr). is ++ block_code (size_of_instrs is) tree) empty)
