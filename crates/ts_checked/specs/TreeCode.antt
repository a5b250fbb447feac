-- How proofs tell the trees of checked scripts apart: each has a code of its own. No promise speaks of these codes.
use Rattle.std.specs.Prelude.{◌≡◌, ℕ, Bool, true, false, ◌==◌, refl}
use Rattle.std.specs.Coded.{Coded, code_by, coded×, coded_ℕ, coded_ℤ}
use Rattle.std.proofs.Common.{sym, ap, subst, eq-eqb}
use Rattle.mate_num.specs.contracts.id.VarId as variable
use Rattle.mate_num.specs.contracts.id.BufId as buffer
use Rattle.mate_num.specs.contracts.id.FunId as function
use Rattle.mate_num.specs.contracts.shape.Shape as shape
use Rattle.mate_num.specs.declared.shape.Shape.{Shape}
use Rattle.ts_checked.specs.contracts.bin_op.BinOp as operator
use Rattle.ts_checked.specs.contracts.checked_stmt.CVar as target
use Rattle.ts_checked.specs.Checked.{ScriptTree}
use Rattle.ts_checked.specs.Expression.{Expression, Arguments, no_arguments, argument, Num, Shared, Private, Item, Size, MsgItem, MsgSize, Call, SendBuf, Neg, Not, Two}
use Rattle.ts_checked.specs.Statement.{Statement, Block, no_statements, statement, Set, SetItem, Append, Take, Clear, Do, DoSend, If, IfElse, For, While}
use base.Stored.{Gv, gnil, gnum, gcons}

-- a code is a number, which says the form of a node, with the codes of its parts
abbrev form : Gv → ℕ
form (gcons (gnum n) g) = n
form g = 0

abbrev head : Gv → Gv
head (gcons g h) = g
head g = gnil

abbrev tail : Gv → Gv
tail (gcons g h) = h
tail g = gnil

-- the code of a node's first part, and what is behind it
abbrev first_part : Gv → Gv
first_part g = head (tail g)

abbrev parts_behind : Gv → Gv
parts_behind g = tail (tail g)

abbrev IsYes : Bool → Type 0
IsYes true = Unit {0}
IsYes false = ⊥

-- codes of two forms differ
apart : (g h : Gv) → g ≡ h → (form g == form h) ≡ false → ⊥
apart g h same differ =
    let P : Gv → Type 0 = λ k. (form g == form k) ≡ false in
    let no : (form g == form g) ≡ false = subst P (sym same) differ in
    subst IsYes no (subst IsYes (sym (eq-eqb (form g) (form g) refl)) tt)

-- ---- expressions

abbrev mutual
  expr_code : Expression → Gv
  expr_code (Num n) = gcons (gnum 0) (coded_ℤ.code n)
  expr_code (Shared v) = gcons (gnum 1) (variable.the_row.coded.code v)
  expr_code (Private i) = gcons (gnum 2) (gnum i)
  expr_code (Item p e) = gcons (gnum 3) (gcons (buffer.the_row.coded.code p) (expr_code e))
  expr_code (Size p) = gcons (gnum 4) (buffer.the_row.coded.code p)
  expr_code (MsgItem e) = gcons (gnum 5) (expr_code e)
  expr_code MsgSize = gcons (gnum 6) gnil
  expr_code (Call f args) = gcons (gnum 7) (gcons (function.the_row.coded.code f) (args_code args))
  expr_code (SendBuf f p) = gcons (gnum 8) (gcons (function.the_row.coded.code f) (buffer.the_row.coded.code p))
  expr_code (Neg e) = gcons (gnum 9) (expr_code e)
  expr_code (Not e) = gcons (gnum 10) (expr_code e)
  expr_code (Two op l r) = gcons (gnum 11) (gcons (operator.the_row.coded.code op) (gcons (expr_code l) (expr_code r)))

  args_code : Arguments → Gv
  args_code no_arguments = gcons (gnum 0) gnil
  args_code (argument e es) = gcons (gnum 1) (gcons (expr_code e) (args_code es))

mutual
  expr_inj : (x y : Expression) → expr_code x ≡ expr_code y → x ≡ y
  expr_inj (Num n) (Num m) p = ap Num (coded_ℤ.inj n m (ap tail p))
  expr_inj (Shared v) (Shared w) p = ap Shared (variable.the_row.coded.inj v w (ap tail p))
  expr_inj (Private i) (Private j) p = ap Private (coded_ℕ.inj i j (ap tail p))
  expr_inj (Item a e) (Item b f) p =
      λ i. Item (buffer.the_row.coded.inj a b (ap first_part p) i) (expr_inj e f (ap parts_behind p) i)
  expr_inj (Size a) (Size b) p = ap Size (buffer.the_row.coded.inj a b (ap tail p))
  expr_inj (MsgItem e) (MsgItem f) p = ap MsgItem (expr_inj e f (ap tail p))
  expr_inj MsgSize MsgSize p = refl
  expr_inj (Call f es) (Call g fs) p =
      λ i. Call (function.the_row.coded.inj f g (ap first_part p) i) (args_inj es fs (ap parts_behind p) i)
  expr_inj (SendBuf f a) (SendBuf g b) p =
      λ i. SendBuf (function.the_row.coded.inj f g (ap first_part p) i) (buffer.the_row.coded.inj a b (ap parts_behind p) i)
  expr_inj (Neg e) (Neg f) p = ap Neg (expr_inj e f (ap tail p))
  expr_inj (Not e) (Not f) p = ap Not (expr_inj e f (ap tail p))
  expr_inj (Two o l r) (Two u m s) p =
      λ i. Two (operator.the_row.coded.inj o u (ap first_part p) i) (expr_inj l m (ap (λ g. head (parts_behind g)) p) i)
      (expr_inj r s (ap (λ g. tail (parts_behind g)) p) i)
  expr_inj x y p = absurd (apart (expr_code x) (expr_code y) p refl)

  args_inj : (x y : Arguments) → args_code x ≡ args_code y → x ≡ y
  args_inj no_arguments no_arguments p = refl
  args_inj (argument e es) (argument f fs) p =
      λ i. argument (expr_inj e f (ap first_part p) i) (args_inj es fs (ap parts_behind p) i)
  args_inj x y p = absurd (apart (args_code x) (args_code y) p refl)

-- ---- statements

abbrev mutual
  stmt_code : Statement → Gv
  stmt_code (Set x e) = gcons (gnum 0) (gcons (target.the_row.coded.code x) (expr_code e))
  stmt_code (SetItem p e f) = gcons (gnum 1) (gcons (buffer.the_row.coded.code p) (gcons (expr_code e) (expr_code f)))
  stmt_code (Append p e) = gcons (gnum 2) (gcons (buffer.the_row.coded.code p) (expr_code e))
  stmt_code (Take x p) = gcons (gnum 3) (gcons (target.the_row.coded.code x) (buffer.the_row.coded.code p))
  stmt_code (Clear p) = gcons (gnum 4) (buffer.the_row.coded.code p)
  stmt_code (Do f args) = gcons (gnum 5) (gcons (function.the_row.coded.code f) (args_code args))
  stmt_code (DoSend f p) = gcons (gnum 6) (gcons (function.the_row.coded.code f) (buffer.the_row.coded.code p))
  stmt_code (If e a) = gcons (gnum 7) (gcons (expr_code e) (block_code a))
  stmt_code (IfElse e a b) = gcons (gnum 8) (gcons (expr_code e) (gcons (block_code a) (block_code b)))
  stmt_code (For x e f n a) = gcons (gnum 9) (gcons (target.the_row.coded.code x)
      (gcons (gcons (expr_code e) (expr_code f)) (gcons (coded_ℤ.code n) (block_code a))))
  stmt_code (While e a) = gcons (gnum 10) (gcons (expr_code e) (block_code a))

  block_code : Block → Gv
  block_code no_statements = gcons (gnum 0) gnil
  block_code (statement x b) = gcons (gnum 1) (gcons (stmt_code x) (block_code b))

mutual
  stmt_inj : (x y : Statement) → stmt_code x ≡ stmt_code y → x ≡ y
  stmt_inj (Set x e) (Set y f) p =
      λ i. Set (target.the_row.coded.inj x y (ap first_part p) i) (expr_inj e f (ap parts_behind p) i)
  stmt_inj (SetItem a e f) (SetItem b g h) p =
      λ i. SetItem (buffer.the_row.coded.inj a b (ap first_part p) i) (expr_inj e g (ap (λ g. head (parts_behind g)) p) i)
      (expr_inj f h (ap (λ g. tail (parts_behind g)) p) i)
  stmt_inj (Append a e) (Append b f) p =
      λ i. Append (buffer.the_row.coded.inj a b (ap first_part p) i) (expr_inj e f (ap parts_behind p) i)
  stmt_inj (Take x a) (Take y b) p =
      λ i. Take (target.the_row.coded.inj x y (ap first_part p) i) (buffer.the_row.coded.inj a b (ap parts_behind p) i)
  stmt_inj (Clear a) (Clear b) p = ap Clear (buffer.the_row.coded.inj a b (ap tail p))
  stmt_inj (Do f es) (Do g fs) p =
      λ i. Do (function.the_row.coded.inj f g (ap first_part p) i) (args_inj es fs (ap parts_behind p) i)
  stmt_inj (DoSend f a) (DoSend g b) p =
      λ i. DoSend (function.the_row.coded.inj f g (ap first_part p) i) (buffer.the_row.coded.inj a b (ap parts_behind p) i)
  stmt_inj (If e a) (If f b) p =
      λ i. If (expr_inj e f (ap first_part p) i) (block_inj a b (ap parts_behind p) i)
  stmt_inj (IfElse e a b) (IfElse f c d) p =
      λ i. IfElse (expr_inj e f (ap first_part p) i) (block_inj a c (ap (λ g. head (parts_behind g)) p) i)
      (block_inj b d (ap (λ g. tail (parts_behind g)) p) i)
  stmt_inj (For x e f n a) (For y g h m b) p =
      λ i. For (target.the_row.coded.inj x y (ap first_part p) i) (expr_inj e g (ap (λ g. head (head (parts_behind g))) p) i)
      (expr_inj f h (ap (λ g. tail (head (parts_behind g))) p) i) (coded_ℤ.inj n m (ap (λ g. head (tail (parts_behind g))) p) i)
      (block_inj a b (ap (λ g. tail (tail (parts_behind g))) p) i)
  stmt_inj (While e a) (While f b) p =
      λ i. While (expr_inj e f (ap first_part p) i) (block_inj a b (ap parts_behind p) i)
  stmt_inj x y p = absurd (apart (stmt_code x) (stmt_code y) p refl)

  pub block_inj : (x y : Block) → block_code x ≡ block_code y → x ≡ y
  block_inj no_statements no_statements p = refl
  block_inj (statement x a) (statement y b) p =
      λ i. statement (stmt_inj x y (ap first_part p) i) (block_inj a b (ap parts_behind p) i)
  block_inj x y p = absurd (apart (block_code x) (block_code y) p refl)

abbrev coded_block : Coded Block
coded_block = record { code = block_code; inj = block_inj }

abbrev pub coded_script : Coded ScriptTree
coded_script = code_by (Shape × Block) (coded× shape.the_row.coded coded_block) (λ s. (s.shape, s.tree))
    (λ p. record { shape = p.0; tree = p.1 }) (λ _. refl)
