-- What is found of what was found before is read as that was, and leaves no more.
use Rattle.std.proofs.Common.{◌≡◌, ◌<◌, length, List, Result, Ok, Err, Bor, IfOk, refl, sym, ◌∙◌, ap, subst, lt_trans, le_of_lt, ◌≤◌, Option, arith}
use Rattle.std.specs.declared.alloc.Global.{Global}
use Rattle.std.specs.declared.boxed.Box.{Box}
use Rattle.ts_expressions.specs.Boxed.{boxed_tree}
use Rattle.ts_expressions.specs.Finding.{Found, Made, Joined, MadeCall}
use Rattle.ts_trees.specs.Parsing.{Ended, reads, noted_then, Reads, Starts, Lacks, LacksOperator, StartsOperator, Caller, called_open, called_with, called, of_operand}
use Rattle.ts_trees.specs.declared.halt.Halt.{Halt}
use Rattle.ts_trees.specs.declared.halt.Halt.TheVariants as halt
use Rattle.ts_trees.specs.Machine.{Operand, in_product, Product, first_product, in_sum, Sum, sum_due, Inverse, inverse_due, in_compare, in_and, Conjunction, first_and, in_or, in_paren, in_item, in_message, Whole, State, sized, size_opened, size_named, want, want_inverse, named, expr_due, give, have_product, have_sum, have_inverse, have_and, have, with_tree, product_sign, sum_sign}
use Rattle.ts_trees.proofs.Parts.{starts_shorter}
use Rattle.ts_trees.proofs.Turns.{inverse_is_next}
use Rattle.ts_checked.specs.declared.bin_op.BinOp.{BinOp}
use Rattle.ts_checked.specs.declared.bin_op.BinOp.TheVariants as op
use Rattle.ts_trees.specs.declared.expr.Expr.{Expr}
use Rattle.ts_trees.specs.declared.token.Token.{Token}
use Rattle.ts_trees.specs.declared.token.TokenKind.{TokenKind}
use Rattle.ts_trees.specs.declared.token.TokenKind.TheVariants as kind
use Rattle.ts_trees.specs.declared.word.Word.{Word}
use Rattle.ts_trees.specs.Seen.{trees_of}
use Rattle.ts_trees.specs.Spelling.{kinds}
use Rattle.ts_trees.specs.Tree.{Tree, two, call, paren, item, message_item}
use Rattle.ts_expressions.proofs.ExprLemmas.{part_halts, paren_closed, item_closed, message_closed, arguments_closed, call_read, call_halts, size_begins, size_closed}
use Rattle.ts_expressions.proofs.OperatorLemmas.{product_over, and_over, sum_over}
use Rattle.ts_expressions.proofs.StoppingLemmas.{paren_open, item_open, message_open, arguments_open, size_open}

-- ---- a sign behind what was found

ended_reads : {K L : Type 0} (m : TokenKind) (ts rest : List Token) (due : K → State) (got : Tree → K → State) (due' : L → State) (got' : Tree → L → State) (to : L → K)
    → ((k : L) → reads ts (due' k) ≡ reads rest (due (to k)))
    → ((e : Tree) (k : L) (us vs : List Token) → Starts m us vs → reads us (got e (to k)) ≡ reads vs (got' e k))
    → (Over : List Token → Type 0) → ((us : List Token) (e : Tree) (k : L) → Over us → Lacks m us → reads us (got e (to k)) ≡ Err (kinds us))
    → (r : Found) → Reads {X = Box Expr Global} {K = K} rest due (λ d k. got (boxed_tree d) k) r → IfOk r (λ x. Over x.1.now)
    → (s : Found) → Ended m r s → Reads {X = Box Expr Global} {K = L} ts due' (λ d k. got' (boxed_tree d) k) s
ended_reads m ts rest due got due' got' to begins closes Over stuck (Ok x) h o (Ok y) i =
    λ k. begins k ∙ h (to k) ∙ closes (boxed_tree x.0) k x.1.now y.1.now i.1 ∙ ap (λ (z : Box Expr Global). reads y.1.now (got' (boxed_tree z) k)) (sym i.0)
ended_reads m ts rest due got due' got' to begins closes Over stuck (Ok x) h o (Err halt.Memory) i = tt
ended_reads m ts rest due got due' got' to begins closes Over stuck (Ok x) h o (Err (halt.At us)) i =
    λ k. begins k ∙ h (to k) ∙ stuck x.1.now (boxed_tree x.0) k o i.1 ∙ ap (λ z. Err (kinds z)) (sym i.0)
ended_reads m ts rest due got due' got' to begins closes Over stuck (Err e) h o s i = part_halts ts rest due got due' got' to begins s e i h

pub ended_shorter : (m : TokenKind) (ts : List Token) (r : Found) → IfOk r (λ x. length x.1.now < length ts) → (s : Found) → Ended m r s → IfOk s (λ x. length x.1.now < length ts)
ended_shorter m ts (Ok x) h (Ok y) i = lt_trans (starts_shorter m i.1) h
ended_shorter m ts (Err e) h (Ok y) i = absurd i
ended_shorter m ts r h (Err e) i = tt

-- an expression in brackets
pub paren_ended : (ts : List Token) (r : Found) → Reads {X = Box Expr Global} {K = Whole} ts (λ k. expr_due k) (λ e k. have (boxed_tree e) k) r → IfOk r (λ x. Lacks kind.Or x.1.now)
    → (s : Found) → Ended kind.Close r s → Reads {X = Box Expr Global} {K = Operand} ts (λ k. expr_due (in_paren k)) (λ e k. give k (paren (boxed_tree e))) s
paren_ended ts =
    ended_reads kind.Close ts ts (λ k. expr_due k) (λ e k. have e k) (λ k. expr_due (in_paren k)) (λ e k. give k (paren e)) in_paren (λ k. refl) (λ e k us vs s. paren_closed e k s) (λ us. Lacks kind.Or us) (λ us e k o l. paren_open us e k o l)

pub item_ended : (w : Word) (ts : List Token) (r : Found) → Reads {X = Box Expr Global} {K = Whole} ts (λ k. expr_due k) (λ e k. have (boxed_tree e) k) r → IfOk r (λ x. Lacks kind.Or x.1.now)
    → (s : Found) → Ended kind.CloseBox r s → Reads {X = Box Expr Global} {K = Operand} ts (λ k. expr_due (in_item w k)) (λ e k. give k (item w (boxed_tree e))) s
item_ended w ts =
    ended_reads kind.CloseBox ts ts (λ k. expr_due k) (λ e k. have e k) (λ k. expr_due (in_item w k)) (λ e k. give k (item w e)) (in_item w) (λ k. refl) (λ e k us vs s. item_closed e w k s) (λ us. Lacks kind.Or us) (λ us e k o l. item_open us e w k o l)

pub message_ended : (ts : List Token) (r : Found) → Reads {X = Box Expr Global} {K = Whole} ts (λ k. expr_due k) (λ e k. have (boxed_tree e) k) r → IfOk r (λ x. Lacks kind.Or x.1.now)
    → (s : Found) → Ended kind.CloseBox r s → Reads {X = Box Expr Global} {K = Operand} ts (λ k. expr_due (in_message k)) (λ e k. give k (message_item (boxed_tree e))) s
message_ended ts =
    ended_reads kind.CloseBox ts ts (λ k. expr_due k) (λ e k. have e k) (λ k. expr_due (in_message k)) (λ e k. give k (message_item e)) in_message (λ k. refl) (λ e k us vs s. message_closed e k s) (λ us. Lacks kind.Or us) (λ us e k o l. message_open us e k o l)

-- what `size` is asked of, in parentheses
pub size_ended : {ts rest : List Token} → Starts kind.Open ts rest → (r : Found) → Reads {X = Box Expr Global} {K = Operand} rest (λ k. size_opened k) (λ e k. size_named (boxed_tree e) k) r → IfOk r (λ x. length x.1.now < length rest)
    → (s : Found) → Ended kind.Close r s → Reads {X = Box Expr Global} {K = Operand} ts (λ k. sized k) (λ e k. give k (boxed_tree e)) s
size_ended {ts} {rest} begins =
    ended_reads kind.Close ts rest size_opened size_named sized (λ e k. give k e) (λ k. k) (λ k. size_begins k begins) (λ e k us vs s. size_closed e k s) (λ us. length us < length rest) (λ us e k o l. size_open us e k l)

-- ---- a node that was made

pub made_reads : {K E : Type 0} (t : Tree) (ts rest : List Token) (due : K → State) (got : Tree → K → State) → ((k : K) → reads ts (due k) ≡ reads rest (got t k))
    → (n : Result (Box Expr Global) E) → IfOk n (λ e. boxed_tree e ≡ t) → (r : Found) → Made n rest r → Reads {X = Box Expr Global} {K = K} ts due (λ d k. got (boxed_tree d) k) r
made_reads t ts rest due got h (Ok e) is (Ok y) m =
    λ k. h k ∙ ap (λ z. reads z (got t k)) (sym m.1) ∙ ap (λ z. reads y.1.now (got z k)) (sym (ap (λ (z : Box Expr Global). boxed_tree z) m.0 ∙ is))
made_reads t ts rest due got h (Ok e) is (Err f) m = absurd m
made_reads t ts rest due got h (Err e) is (Ok y) m = absurd m
made_reads {K} t ts rest due got h (Err e) is (Err f) m =
    let R : Halt → Type 0 = λ z. Reads {X = Box Expr Global} {K = K} ts due (λ d k. got (boxed_tree d) k) (Err z) in subst R (sym m) tt

pub made_behind : {E : Type 0} (Left : List Token → Type 0) (rest : List Token) → Left rest → (n : Result (Box Expr Global) E) (r : Found) → Made n rest r → IfOk r (λ x. Left x.1.now)
made_behind Left rest h (Ok e) (Ok y) m = subst Left (sym m.1) h
made_behind Left rest h (Err e) (Ok y) m = absurd m
made_behind Left rest h n (Err f) m = tt

-- ---- two parts with an operator

pub sign_shorter : {f : TokenKind → Option BinOp} {o : BinOp} {ts rest : List Token} → StartsOperator f o ts rest → length rest < length ts
sign_shorter s = omega (arith, ap length s.are)

pub joined_made : {E : Type 0} (o : BinOp) (l : Tree) (x : Box Expr Global × Bor (List Token)) (n : Result (Box Expr Global) E) → IfOk n (λ e. boxed_tree e ≡ two o l (boxed_tree x.0)) → (r : Found) → Made n x.1.now r → Joined o l (Ok x) r
joined_made o l x (Ok e) is (Ok y) m = (ap (λ (z : Box Expr Global). boxed_tree z) m.0 ∙ is, m.1)
joined_made o l x (Ok e) is (Err f) m = absurd m
joined_made o l x (Err e) is (Ok y) m = absurd m
joined_made o l x (Err e) is (Err f) m = m

joined_reads : {K L : Type 0} (o : BinOp) (l : Tree) (ts rest : List Token) (due : K → State) (got : Tree → K → State) (due' : L → State) (got' : Tree → L → State) (to : L → K)
    → ((k : L) → reads ts (due' k) ≡ reads rest (due (to k)))
    → (Over : List Token → Type 0) → ((e : Tree) (k : L) (us : List Token) → Over us → reads us (got e (to k)) ≡ reads us (got' (two o l e) k))
    → (r : Found) → Reads {X = Box Expr Global} {K = K} rest due (λ d k. got (boxed_tree d) k) r → IfOk r (λ x. Over x.1.now)
    → (s : Found) → Joined o l r s → Reads {X = Box Expr Global} {K = L} ts due' (λ d k. got' (boxed_tree d) k) s
joined_reads o l ts rest due got due' got' to begins Over over (Ok x) h p (Ok y) j =
    λ k. begins k ∙ h (to k) ∙ over (boxed_tree x.0) k x.1.now p ∙ ap (λ z. reads z (got' (two o l (boxed_tree x.0)) k)) (sym j.1) ∙ ap (λ z. reads y.1.now (got' z k)) (sym j.0)
joined_reads {K} {L} o l ts rest due got due' got' to begins Over over (Ok x) h p (Err f) j =
    let R : Halt → Type 0 = λ z. Reads {X = Box Expr Global} {K = L} ts due' (λ d k. got' (boxed_tree d) k) (Err z) in subst R (sym j) tt
joined_reads o l ts rest due got due' got' to begins Over over (Err e) h p s j = part_halts ts rest due got due' got' to begins s e j h

pub joined_behind : (Left : List Token → Type 0) (o : BinOp) (l : Tree) (r : Found) → IfOk r (λ x. Left x.1.now) → (s : Found) → Joined o l r s → IfOk s (λ x. Left x.1.now)
joined_behind Left o l (Ok x) h (Ok y) j = subst Left (sym j.1) h
joined_behind Left o l (Err e) h (Ok y) j = absurd j
joined_behind Left o l r h (Err f) j = tt

pub or_joined : (l : Tree) (ts rest : List Token) → ((k : Whole) → reads ts (expr_due k) ≡ reads rest (want_inverse (first_and (in_or l k))))
    → (r : Found) → Reads {X = Box Expr Global} {K = Conjunction} rest (λ k. want_inverse (first_and k)) (λ e k. have_and (boxed_tree e) k) r → IfOk r (λ x. Lacks kind.And x.1.now)
    → (s : Found) → Joined op.Or l r s → Reads {X = Box Expr Global} {K = Whole} ts (λ k. expr_due k) (λ e k. have (boxed_tree e) k) s
or_joined l ts rest begins =
    joined_reads op.Or l ts rest (λ k. want_inverse (first_and k)) have_and (λ k. expr_due k) have (in_or l) begins (λ us. Lacks kind.And us) (λ e k us o. and_over e (in_or l k) us o)

pub and_joined : (l : Tree) (ts rest : List Token) → ((k : Conjunction) → reads ts (want_inverse (first_and k)) ≡ reads rest (want_inverse (in_and l k)))
    → (r : Found) → Reads {X = Box Expr Global} {K = Inverse} rest (λ k. want_inverse k) (λ e k. have_inverse (boxed_tree e) k) r → IfOk r (λ x. length x.1.now < length rest)
    → (s : Found) → Joined op.And l r s → Reads {X = Box Expr Global} {K = Conjunction} ts (λ k. want_inverse (first_and k)) (λ e k. have_and (boxed_tree e) k) s
and_joined l ts rest begins =
    joined_reads op.And l ts rest want_inverse have_inverse (λ k. want_inverse (first_and k)) have_and (in_and l) begins (λ us. length us < length rest) (λ e k us o. inverse_is_next l e k (kinds us) (noted_then us))

pub sum_joined : (o : BinOp) (l : Tree) (ts rest : List Token) → ((k : Sum) → reads ts (want (sum_due k)) ≡ reads rest (want (first_product (in_sum o l k))))
    → (r : Found) → Reads {X = Box Expr Global} {K = Product} rest (λ k. want (first_product k)) (λ e k. have_product (boxed_tree e) k) r → IfOk r (λ x. LacksOperator product_sign x.1.now)
    → (s : Found) → Joined o l r s → Reads {X = Box Expr Global} {K = Sum} ts (λ k. want (sum_due k)) (λ e k. have_sum (boxed_tree e) k) s
sum_joined o l ts rest begins =
    joined_reads o l ts rest (λ k. want (first_product k)) have_product (λ k. want (sum_due k)) have_sum (in_sum o l) begins (λ us. LacksOperator product_sign us) (λ e k us p. product_over e (in_sum o l k) us p)

pub product_joined : (o : BinOp) (l : Tree) (ts rest : List Token) → ((k : Product) → reads ts (want (first_product k)) ≡ reads rest (want (in_product o l k)))
    → (r : Found) → Reads {X = Box Expr Global} {K = Operand} rest (λ k. want k) (λ e k. give k (boxed_tree e)) r → IfOk r (λ x. length x.1.now < length rest)
    → (s : Found) → Joined o l r s → Reads {X = Box Expr Global} {K = Product} ts (λ k. want (first_product k)) (λ e k. have_product (boxed_tree e) k) s
product_joined o l ts rest begins =
    joined_reads o l ts rest want (λ e k. give k e) (λ k. want (first_product k)) have_product (in_product o l) begins (λ us. length us < length rest) (λ e k us p. refl)

pub comparison_joined : (o : BinOp) (l : Tree) (ts rest : List Token) → ((k : Inverse) → reads ts (want (inverse_due k)) ≡ reads rest (want (sum_due (in_compare o l k))))
    → (r : Found) → Reads {X = Box Expr Global} {K = Sum} rest (λ k. want (sum_due k)) (λ e k. have_sum (boxed_tree e) k) r → IfOk r (λ x. LacksOperator sum_sign x.1.now)
    → (s : Found) → Joined o l r s → Reads {X = Box Expr Global} {K = Inverse} ts (λ k. want (inverse_due k)) (λ e k. have_inverse (boxed_tree e) k) s
comparison_joined o l ts rest begins =
    joined_reads o l ts rest (λ k. want (sum_due k)) have_sum (λ k. want (inverse_due k)) have_inverse (in_compare o l) begins (λ us. LacksOperator sum_sign us) (λ e k us p. sum_over o l e k us p)

-- the arguments of a call, behind the last one
pub call_ended : (ts : List Token) (es : List Expr) (b : Box Expr Global) (x : List Expr × Bor (List Token)) → trees_of x.0 ≡ with_tree (trees_of es) (boxed_tree b)
    → ((k : Caller) → reads ts (called_open k) ≡ reads x.1.now (have (boxed_tree b) (called_with k (trees_of es)))) → Lacks kind.Or x.1.now → Lacks kind.Comma x.1.now
    → (s : Result (List Expr × Bor (List Token)) Halt) → Ended {X = List Expr} kind.Close (Ok x) s → Reads {X = List Expr} {K = Caller} ts (λ k. called_open k) (λ fs k. called k (trees_of fs)) s
call_ended ts es b x is begins over alone (Ok y) e =
    λ k. begins k ∙ arguments_closed k (trees_of es) (boxed_tree b) e.1 ∙ ap (λ z. reads y.1.now (called k z)) (sym is ∙ ap trees_of (sym e.0))
call_ended ts es b x is begins over alone (Err halt.Memory) e = tt
call_ended ts es b x is begins over alone (Err (halt.At rest)) e =
    λ k. begins k ∙ arguments_open x.1.now k (trees_of es) (boxed_tree b) over alone e.1 ∙ ap (λ z. Err (kinds z)) (sym e.0)

pub call_shorter : (ts : List Token) (x : List Expr × Bor (List Token)) → length x.1.now < length ts
    → (s : Result (List Expr × Bor (List Token)) Halt) → Ended {X = List Expr} kind.Close (Ok x) s → IfOk s (λ y. length y.1.now < length ts)
call_shorter ts x less (Ok y) e = lt_trans (starts_shorter kind.Close e.1) less
call_shorter ts x less (Err f) e = tt

-- a call of a function
pub called_made : {E : Type 0} (w : Word) (x : List Expr × Bor (List Token)) (n : Result (Box Expr Global) E) → IfOk n (λ e. boxed_tree e ≡ call w (trees_of x.0)) → (r : Found) → Made n x.1.now r → MadeCall w (Ok x) r
called_made w x (Ok e) is (Ok y) m = (ap (λ (z : Box Expr Global). boxed_tree z) m.0 ∙ is, m.1)
called_made w x (Ok e) is (Err f) m = absurd m
called_made w x (Err e) is (Ok y) m = absurd m
called_made w x (Err e) is (Err f) m = m

pub called_reads : (w : Word) {ts us : List Token} → Starts kind.Open ts us → (r : Result (List Expr × Bor (List Token)) Halt)
    → Reads {X = List Expr} {K = Caller} us (λ k. called_open k) (λ es k. called k (trees_of es)) r
    → (s : Found) → MadeCall w r s → Reads {X = Box Expr Global} {K = Operand} ts (λ k. named w k) (λ d k. give k (boxed_tree d)) s
called_reads w o (Ok x) h (Ok y) e =
    λ k. call_read w k o ∙ h (of_operand w k) ∙ ap (λ z. reads z (give k (call w (trees_of x.0)))) (sym e.1) ∙ ap (λ z. reads y.1.now (give k z)) (sym e.0)
called_reads w {ts} o (Ok x) h (Err f) e =
    let R : Halt → Type 0 = λ z. Reads {X = Box Expr Global} {K = Operand} ts (λ k. named w k) (λ d k. give k (boxed_tree d)) (Err z) in subst R (sym e) tt
called_reads w o (Err f) h s e = call_halts w o s f e h

pub called_shorter : (w : Word) {ts us : List Token} → Starts kind.Open ts us → (r : Result (List Expr × Bor (List Token)) Halt) → IfOk r (λ x. length x.1.now < length us)
    → (s : Found) → MadeCall w r s → IfOk s (λ x. length x.1.now ≤ length ts)
called_shorter w {ts} o (Ok x) h (Ok y) e = subst (λ z. length z ≤ length ts) (sym e.1) (le_of_lt (lt_trans h (starts_shorter kind.Open o)))
called_shorter w o (Err f) h (Ok y) e = absurd e
called_shorter w o r h (Err f) e = tt
