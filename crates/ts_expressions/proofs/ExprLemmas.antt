-- Reading expressions: the tokens that the states take, and when two states take the next token alike.
use Rattle.std.proofs.Common.{◌≡◌, ℕ, List, [], ◌∷◌, ◌++◌, Some, None, Result, Err, Bor, refl, sym, ◌∙◌, ap}
use Rattle.std.specs.declared.alloc.Global.{Global}
use Rattle.std.specs.declared.boxed.Box.{Box}
use Rattle.ts_expressions.specs.Boxed.{boxed_tree}
use Rattle.ts_trees.specs.declared.word.Word.{Word}
use Rattle.ts_trees.specs.declared.token.Token.{Token}
use Rattle.ts_trees.specs.declared.token.TokenKind.{TokenKind}
use Rattle.ts_trees.specs.declared.token.TokenKind.TheVariants as kind
use Rattle.ts_trees.specs.Tree.{Tree, variable, call, call_alone, run_procedure, negative, paren, item, size, message_size, message_item, Trees, no_trees, tree_then}
use Rattle.ts_trees.specs.declared.expr.Expr.{Expr}
use Rattle.ts_trees.specs.Seen.{tree_of, trees_of}
use Rattle.std.specs.Result.{IsErrAnd}
use Rattle.ts_trees.specs.declared.halt.Halt.{Halt}
use Rattle.ts_trees.specs.Code.{kind_code}
use Rattle.ts_trees.specs.Machine.{Operand, in_negative, first_product, in_product, Inverse, in_inverse, in_and, Conjunction, in_args, in_call, in_do, in_paren, in_item, in_message, State, want, want_inverse, named, opened, call_opened, do_opened, sized, size_opened, size_named, word, message, have_inverse, have_and, have, closed, with_tree, inverse_due, expr_due, give, step, finish, wants_size}
use Rattle.ts_trees.specs.Parsing.{reads, Reads, Starts, StartsName, Lacks, Caller, of_operand, of_stmt, of_do, called_open, called_with, called}
use Rattle.ts_trees.proofs.Turns.{given_step, given_size}
use Rattle.ts_trees.proofs.Parts.{halts, ends_as}
use Rattle.ts_trees.proofs.Reading.{sign_read, name_read, alike_at, alike_end}

-- `not`, or a comparison
pub not_read : (k : Inverse) {ts rest : List Token} → Starts kind.Not ts rest → reads ts (want_inverse k) ≡ reads rest (want_inverse (in_inverse k))
not_read k s = sign_read kind.Not s tt (want_inverse k) (want_inverse (in_inverse k)) (λ p. refl)

not_left : (k : Inverse) (m : TokenKind) → (kind_code m ≡ kind_code kind.Not → ⊥) → (p : ℕ) → step (want_inverse k) m p ≡ step (want (inverse_due k)) m p
not_left k kind.Not h p = absurd (h refl)
not_left k m h p = refl

comparison_due : (k : Inverse) (ts : List Token) → Lacks kind.Not ts → reads ts (want_inverse k) ≡ reads ts (want (inverse_due k))
comparison_due k [] h = refl
comparison_due k (t ∷ ts) h = alike_at t ts (want_inverse k) (want (inverse_due k)) (not_left k t.kind h) refl

pub comparison_read : (ts : List Token) → Lacks kind.Not ts → (r : Result (Box Expr Global × Bor (List Token)) Halt) → Reads {X = Box Expr Global} {K = Inverse} ts (λ k. want (inverse_due k)) (λ e k. have_inverse (boxed_tree e) k) r → Reads {X = Box Expr Global} {K = Inverse} ts (λ k. want_inverse k) (λ e k. have_inverse (boxed_tree e) k) r
comparison_read ts l =
    ends_as (Box Expr Global) Inverse Inverse ts ts (λ k. want (inverse_due k)) (λ e k. have_inverse (boxed_tree e) k) (λ k. want_inverse k) (λ e k. have_inverse (boxed_tree e) k) (λ k. k) (λ k. comparison_due k ts l) (λ x ms k. refl)

-- a part that stops where a part of it does
pub part_halts : {K L : Type 0} (ts rest : List Token) (due : K → State) (got : Tree → K → State) (due' : L → State) (got' : Tree → L → State) (to : L → K) → ((k : L) → reads ts (due' k) ≡ reads rest (due (to k)))
    → (r : Result (Box Expr Global × Bor (List Token)) Halt) (e : Halt) → IsErrAnd r (λ x. x ≡ e) → Reads {X = Box Expr Global} {K = K} rest due (λ d k. got (boxed_tree d) k) (Err e)
    → Reads {X = Box Expr Global} {K = L} ts due' (λ d k. got' (boxed_tree d) k) r
part_halts {K} {L} ts rest due got due' got' =
    halts (Box Expr Global) (Box Expr Global) K L ts rest due (λ d k. got (boxed_tree d) k) due' (λ d k. got' (boxed_tree d) k)

-- an operand, from its first token on
pub starts_at : {m : TokenKind} (x : Token) {ts rest : List Token} → ts ≡ x ∷ rest → x.kind ≡ m → Starts m ts rest
starts_at x e is = record { token = x; are = e; kind = ap kind_code is }

pub operand_read : (ts rest : List Token) (due : Operand → State) → ((k : Operand) → reads ts (want k) ≡ reads rest (due k))
    → (r : Result (Box Expr Global × Bor (List Token)) Halt) → Reads {X = Box Expr Global} {K = Operand} rest due (λ e k. give k (boxed_tree e)) r → Reads {X = Box Expr Global} {K = Operand} ts (λ k. want k) (λ e k. give k (boxed_tree e)) r
operand_read ts rest due begins =
    ends_as (Box Expr Global) Operand Operand ts rest due (λ e k. give k (boxed_tree e)) (λ k. want k) (λ e k. give k (boxed_tree e)) (λ k. k) begins (λ x ms k. refl)

-- `and`
pub and_read : (e : Tree) (k : Conjunction) {ts rest : List Token} → Starts kind.And ts rest → reads ts (have_and e k) ≡ reads rest (want_inverse (in_and e k))
and_read e k s = sign_read kind.And s tt (have_and e k) (want_inverse (in_and e k)) (λ p. refl)

-- a call
pub call_read : (w : Word) (k : Operand) {ts rest : List Token} → Starts kind.Open ts rest → reads ts (named w k) ≡ reads rest (opened w k)
call_read w k s = sign_read kind.Open s tt (named w k) (opened w k) (λ p. refl)

pub call_halts : (w : Word) {ts rest : List Token} → Starts kind.Open ts rest → (r : Result (Box Expr Global × Bor (List Token)) Halt) (e : Halt) → IsErrAnd r (λ x. x ≡ e) → Reads {X = List Expr} {K = Caller} rest (λ k. called_open k) (λ es k. called k (trees_of es)) (Err e) → Reads {X = Box Expr Global} {K = Operand} ts (λ k. named w k) (λ d k. give k (boxed_tree d)) r
call_halts w {ts} {rest} s =
    halts (List Expr) (Box Expr Global) Caller Operand ts rest (λ k. called_open k) (λ es k. called k (trees_of es)) (λ k. named w k) (λ d k. give k (boxed_tree d)) (λ k. of_operand w k) (λ k. call_read w k s)

-- an item, from its `[` on
pub item_begins : (w : Word) (k : Operand) {ts rest : List Token} → Starts kind.OpenBox ts rest → reads ts (named w k) ≡ reads rest (expr_due (in_item w k))
item_begins w k s = sign_read kind.OpenBox s tt (named w k) (expr_due (in_item w k)) (λ p. refl)

pub item_read : (w : Word) {ts rest : List Token} → Starts kind.OpenBox ts rest → (r : Result (Box Expr Global × Bor (List Token)) Halt) → Reads {X = Box Expr Global} {K = Operand} rest (λ k. expr_due (in_item w k)) (λ e k. give k (boxed_tree e)) r → Reads {X = Box Expr Global} {K = Operand} ts (λ k. named w k) (λ e k. give k (boxed_tree e)) r
item_read w {ts} {rest} s =
    ends_as (Box Expr Global) Operand Operand ts rest (λ k. expr_due (in_item w k)) (λ e k. give k (boxed_tree e)) (λ k. named w k) (λ e k. give k (boxed_tree e)) (λ k. k) (λ k. item_begins w k s) (λ x ms k. refl)

-- a size
pub size_begins : (k : Operand) {ts rest : List Token} → Starts kind.Open ts rest → reads ts (sized k) ≡ reads rest (size_opened k)
size_begins k s = sign_read kind.Open s tt (sized k) (size_opened k) (λ p. refl)

pub message_sized : (k : Operand) {ts rest : List Token} → Starts kind.Msg ts rest → reads ts (size_opened k) ≡ reads rest (size_named message_size k)
message_sized k s = sign_read kind.Msg s tt (size_opened k) (size_named message_size k) (λ p. refl)

pub buffer_sized : {v : Word} (k : Operand) {ts rest : List Token} → StartsName v ts rest → reads ts (size_opened k) ≡ reads rest (size_named (size v) k)
buffer_sized {v} k {ts} {rest} s =
    ap (λ xs. reads xs (size_opened k)) s.are
    ∙ name_read s.token rest v.name (size_opened k) (size_named (size v) k) s.name (ap (λ p. Some (size_named (size (word v.name p)) k)) (sym s.place))

pub size_closed : (e : Tree) (k : Operand) {ts rest : List Token} → Starts kind.Close ts rest → reads ts (size_named e k) ≡ reads rest (give k e)
size_closed e k s = sign_read kind.Close s tt (size_named e k) (give k e) (λ p. refl)

-- an item of the message
pub message_begins : (k : Operand) {ts rest : List Token} → Starts kind.OpenBox ts rest → reads ts (message k) ≡ reads rest (expr_due (in_message k))
message_begins k s = sign_read kind.OpenBox s tt (message k) (expr_due (in_message k)) (λ p. refl)

-- an expression between brackets, where they close
pub paren_closed : (e : Tree) (k : Operand) {ts rest : List Token} → Starts kind.Close ts rest → reads ts (have e (in_paren k)) ≡ reads rest (give k (paren e))
paren_closed e k s = sign_read kind.Close s tt (have e (in_paren k)) (give k (paren e)) (λ p. refl)

pub item_closed : (e : Tree) (w : Word) (k : Operand) {ts rest : List Token} → Starts kind.CloseBox ts rest → reads ts (have e (in_item w k)) ≡ reads rest (give k (item w e))
item_closed e w k s = sign_read kind.CloseBox s tt (have e (in_item w k)) (give k (item w e)) (λ p. refl)

pub message_closed : (e : Tree) (k : Operand) {ts rest : List Token} → Starts kind.CloseBox ts rest → reads ts (have e (in_message k)) ≡ reads rest (give k (message_item e))
message_closed e k s = sign_read kind.CloseBox s tt (have e (in_message k)) (give k (message_item e)) (λ p. refl)

-- a variable
variable_left : (w : Word) (k : Operand) (m : TokenKind) → (kind_code m ≡ kind_code kind.Open → ⊥) → (kind_code m ≡ kind_code kind.OpenBox → ⊥) → (p : ℕ) → step (named w k) m p ≡ step (give k (variable w)) m p
variable_left w k kind.Open h b p = absurd (h refl)
variable_left w k kind.OpenBox h b p = absurd (b refl)
variable_left w k m h b p = sym (given_step k (variable w) m p)

given_end : (k : Operand) (e : Tree) → None ≡ finish (give k e)
given_end (in_negative k) e = given_end k (negative e)
given_end (first_product k) e = refl
given_end (in_product o l k) e = refl

pub variable_read : (w : Word) (k : Operand) (ts : List Token) → Lacks kind.Open ts → Lacks kind.OpenBox ts → reads ts (named w k) ≡ reads ts (give k (variable w))
variable_read w k [] h b = alike_end (named w k) (give k (variable w)) (given_end k (variable w))
variable_read w k (t ∷ ts) h b = alike_at t ts (named w k) (give k (variable w)) (variable_left w k t.kind h b) (sym (given_size k (variable w)))

-- behind an argument
pub comma_read : (c : Caller) (es : Trees) (e : Tree) {ts rest : List Token} → Starts kind.Comma ts rest → reads ts (have e (called_with c es)) ≡ reads rest (expr_due (called_with c (with_tree es e)))
comma_read (of_operand w k) es e s = sign_read kind.Comma s tt (have e (in_args w es k)) (expr_due (in_args w (with_tree es e) k)) (λ p. refl)
comma_read (of_stmt w a f) es e s = sign_read kind.Comma s tt (have e (in_call w es a f)) (expr_due (in_call w (with_tree es e) a f)) (λ p. refl)
comma_read (of_do w a f) es e s = sign_read kind.Comma s tt (have e (in_do w es a f)) (expr_due (in_do w (with_tree es e) a f)) (λ p. refl)

pub no_arguments : (c : Caller) {ts rest : List Token} → Starts kind.Close ts rest → reads ts (called_open c) ≡ reads rest (called c no_trees)
no_arguments (of_operand w k) s = sign_read kind.Close s tt (opened w k) (give k (call w no_trees)) (λ p. refl)
no_arguments (of_stmt w a f) s = sign_read kind.Close s tt (call_opened w a f) (closed (call_alone w no_trees) a f) (λ p. refl)
no_arguments (of_do w a f) s = sign_read kind.Close s tt (do_opened w a f) (closed (run_procedure w no_trees) a f) (λ p. refl)

argument_left : (c : Caller) (m : TokenKind) → (kind_code m ≡ kind_code kind.Close → ⊥) → (p : ℕ) → step (called_open c) m p ≡ step (expr_due (called_with c no_trees)) m p
argument_left c kind.Close h p = absurd (h refl)
argument_left (of_operand w k) m h p = refl
argument_left (of_stmt w a f) m h p = refl
argument_left (of_do w a f) m h p = refl

argument_end : (c : Caller) → finish (called_open c) ≡ finish (expr_due (called_with c no_trees))
argument_end (of_operand w k) = refl
argument_end (of_stmt w a f) = refl
argument_end (of_do w a f) = refl

argument_size : (c : Caller) → wants_size (called_open c) ≡ wants_size (expr_due (called_with c no_trees))
argument_size (of_operand w k) = refl
argument_size (of_stmt w a f) = refl
argument_size (of_do w a f) = refl

pub argument_due : (c : Caller) (ts : List Token) → Lacks kind.Close ts → reads ts (called_open c) ≡ reads ts (expr_due (called_with c no_trees))
argument_due c [] l = alike_end (called_open c) (expr_due (called_with c no_trees)) (argument_end c)
argument_due c (t ∷ ts) l = alike_at t ts (called_open c) (expr_due (called_with c no_trees)) (argument_left c t.kind l) (argument_size c)

pub arguments_closed : (c : Caller) (es : Trees) (e : Tree) {ts rest : List Token} → Starts kind.Close ts rest → reads ts (have e (called_with c es)) ≡ reads rest (called c (with_tree es e))
arguments_closed (of_operand w k) es e s = sign_read kind.Close s tt (have e (in_args w es k)) (give k (call w (with_tree es e))) (λ p. refl)
arguments_closed (of_stmt w a f) es e s = sign_read kind.Close s tt (have e (in_call w es a f)) (closed (call_alone w (with_tree es e)) a f) (λ p. refl)
arguments_closed (of_do w a f) es e s = sign_read kind.Close s tt (have e (in_do w es a f)) (closed (run_procedure w (with_tree es e)) a f) (λ p. refl)

-- one more argument, where the program pushed it
trees_pushed : (es : List Expr) (e : Expr) → trees_of (es ++ e ∷ []) ≡ with_tree (trees_of es) (tree_of e)
trees_pushed [] e = refl
trees_pushed (d ∷ es) e = ap (λ x. tree_then (tree_of d) x) (trees_pushed es e)

pub trees_more : (es : List Expr) (b : Box Expr Global) {e : Expr} {fs : List Expr} → fs ≡ es ++ e ∷ [] → e ≡ b.value → trees_of fs ≡ with_tree (trees_of es) (boxed_tree b)
trees_more es b {e} h is = ap trees_of h ∙ trees_pushed es e ∙ ap (λ (x : Expr). with_tree (trees_of es) (tree_of x)) is
