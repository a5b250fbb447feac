-- What the checks give is right for the machine's shape.
use Rattle.std.proofs.Common.{◌≡◌, ℕ, zero, suc, ◌+◌, ◌<◌, ◌==◌, nat_lt, nat_le, Bool, true, false, ◌&&◌, List, [], ◌∷◌, length, map, Option, Some, None, slice_get, Result, Ok, Err, refl, ap, sym, ◌∙◌, subst, arith, bytes_eq}
use Rattle.std.specs.Prelude.{⊤, IfOk, IfSome, is_none, position, ok_or, pos, neg_ℤ, if◌then◌else◌}
use Rattle.std.specs.List.{list_all}
use Rattle.std.proofs.lemmas.Bool.{and_parts, lt-ltb}
use Rattle.std.proofs.lemmas.Bool.Decides.{nat_tests}
use Rattle.std.proofs.lemmas.List.Folds.{list_all-append}
use Rattle.std.proofs.lemmas.List.Quantifiers.{position-Some}
use Rattle.mate_num.specs.declared.id.FunId.{FunId}
use Rattle.mate_num.specs.declared.id.BufId.{BufId}
use Rattle.mate_num.specs.declared.shape.Shape.{Shape}
use Rattle.mate_num.specs.declared.shape.FunShape.{FunShape}
use Rattle.vm_shape.specs.Limits.{function_args}
use Rattle.vm_shape.specs.Shapes.{shape_of, fun_shape, sends_buffer}
use Rattle.vm_shape.proofs.DescriptionLemmas.{shape_of-limits}
use Rattle.vm_shape.specs.declared.description.Description.{Description}
use Rattle.vm_shape.specs.declared.function.Function.{Function}
use Rattle.vm_shape.specs.declared.function.FunKind.{FunKind}
use Rattle.ts_trees.specs.declared.word.Word.{Word}
use Rattle.ts_trees.specs.declared.stmt.Step.{Step}
use Rattle.ts_trees.specs.declared.script.Decl.{Decl}
use Rattle.ts_trees.specs.declared.script.DeclKind.{DeclKind}
use Rattle.ts_trees.specs.declared.script.DeclKind.TheVariants as of
use Rattle.ts_checked.specs.declared.checked_stmt.CVar.{CVar}
use Rattle.ts_checked.specs.declared.checked_stmt.CVar.TheVariants as var
use Rattle.ts_trees.specs.Tree as given
use Rattle.ts_trees.specs.Tree.{Tree, Trees, no_trees, tree_then, Act, Acts, no_acts, act_then, Source}
use Rattle.ts_checked.specs.Expression.{Expression, Arguments}
use Rattle.ts_checked.specs.Statement.{Statement, Block}
use Rattle.mate_num.specs.Shapes.{is_shape}
use Rattle.ts_checked.specs.Right.{is_variable, is_buffer, is_call, is_send_of as is_send_for, argument_count, is_right_expr, are_right, is_step, is_head, is_right_stmt, is_right_block, is_right}
use Rattle.ts_checker.specs.declared.scope.Symbol.{Symbol}
use Rattle.ts_checker.specs.declared.scope.Symbol.TheVariants.{Variable, Buffer}
use Rattle.ts_checker.specs.declared.scope.Entry.{Entry}
use Rattle.ts_checker.specs.declared.fault.CheckFault.{CheckFault}
use Rattle.ts_checker.specs.declared.fault.CheckFault.TheVariants.{Undeclared, NotInVm, Twice, Kind, Arity, TooManyPrivates}
use Rattle.mate_num.specs.Results.{◌>>=◌}
use Rattle.ts_checker.specs.Refusal.{unless_refused}
use Rattle.ts_checker.specs.Names.{ScriptNames, names_before, symbol_of, private_count, listed, made, with_name, declare, declare_all, found_symbol, as_variable, as_buffer, variable as variable_at, buffer as buffer_at, function_from, function, closes_for}
use Rattle.ts_checker.specs.Checks.{variable_expression, Called, sends, calls, as_expression, as_statement, sent, sent_name, name_alone, tree_count, called_function, checked_call, checked_expr, checked_args, checked_step, CheckedHead, checked_head, checked_stmt, checked_block, checked_source}
use Rattle.ts_checker.proofs.CheckLemmas.{bind_keeps, demand_holds}

-- what a name stands for is in the shape's range
abbrev pub is_right_symbol : Shape → Symbol → Bool
is_right_symbol s (Variable x) = is_variable s x
is_right_symbol s (Buffer p) = is_buffer s p

-- all declared names are
pub record AreRight (s : Shape) (n : ScriptNames) : Type 0 where
  pub shape : s ≡ shape_of n.machine
  pub each : list_all (λ (x : Entry). is_right_symbol s x.symbol) n.declared ≡ true

anything : {A : Type 0} (r : Result A CheckFault) → IfOk r (λ _. ⊤)
anything (Ok x) = tt
anything (Err e) = tt

-- a place in a list is below its length
listed-below : (names : List (List ℕ)) (name : List ℕ) → IfOk (listed names name) (λ i. i < length names)
listed-below names name = placed (position (bytes_eq name) names) refl where
  placed : (o : Option ℕ) → position (bytes_eq name) names ≡ o → IfOk (ok_or o (NotInVm name)) (λ i. i < length names)
  placed None e = tt
  placed (Some i) e = (position-Some (bytes_eq name) names i [] e).0

made-right : (s : Shape) (n : ScriptNames) (kind : DeclKind) (name : List ℕ) → AreRight s n → IfOk (made n kind name) (λ y. is_right_symbol s y ≡ true)
made-right s n of.Shared name right =
    bind_keeps (λ i. i < length n.machine.shared.items) (λ y. is_right_symbol s y ≡ true) (listed n.machine.shared.items name) _
    (listed-below n.machine.shared.items name) (λ i below. rw right.shape (lt-ltb i (length n.machine.shared.items) below))
made-right s n of.Private name right =
    bind_keeps (λ _. nat_lt (private_count n.declared) 8 ≡ true) (λ y. is_right_symbol s y ≡ true)
    (unless_refused (nat_lt (private_count n.declared) 8) TooManyPrivates) _ (demand_holds _ _) (λ _ few. few)
made-right s n of.Buffer name right =
    bind_keeps (λ i. i < length n.machine.buffers.items) (λ y. is_right_symbol s y ≡ true) (listed n.machine.buffers.items name) _
    (listed-below n.machine.buffers.items name) (λ i below. rw right.shape (lt-ltb i (length n.machine.buffers.items) below))

with_name-right : (s : Shape) (n : ScriptNames) (name : List ℕ) (y : Symbol) → AreRight s n → is_right_symbol s y ≡ true → AreRight s (with_name n name y)
with_name-right s n name y right fits = record {
  shape = right.shape;
  each = list_all-append (λ (x : Entry). is_right_symbol s x.symbol) n.declared _ ∙ rw (right.each, fits) refl;
}

declare-right : (s : Shape) (n : ScriptNames) (d : Decl) → AreRight s n → IfOk (declare n d) (AreRight s)
declare-right s n d right =
    bind_keeps (λ _. ⊤) (AreRight s) (unless_refused (is_none (symbol_of n.declared d.word.name)) (Twice d.word.name))
    (λ _. made n d.kind d.word.name >>= (λ y. Ok (with_name n d.word.name y))) (anything _) (λ _ _.
    bind_keeps (λ y. is_right_symbol s y ≡ true) (AreRight s) (made n d.kind d.word.name) (λ y. Ok (with_name n d.word.name y))
    (made-right s n d.kind d.word.name right) (λ y fits. with_name-right s n d.word.name y right fits))

declare_all-right : (s : Shape) (n : ScriptNames) (ds : List Decl) → AreRight s n → IfOk (declare_all n ds) (AreRight s)
declare_all-right s n [] right = right
declare_all-right s n (d ∷ ds) right =
    bind_keeps (AreRight s) (AreRight s) (declare n d) _ (declare-right s n d right) (λ m fits. declare_all-right s m ds fits)

-- the symbol of a declared name
symbol_of-right : (s : Shape) (xs : List Entry) (name : List ℕ) → list_all (λ (x : Entry). is_right_symbol s x.symbol) xs ≡ true
    → IfSome (symbol_of xs name) (λ y. is_right_symbol s y ≡ true)
symbol_of-right s [] name all = tt
symbol_of-right s (x ∷ xs) name all =
    let (here, more) = and_parts (is_right_symbol s x.symbol) (list_all (λ (x : Entry). is_right_symbol s x.symbol) xs) all in
    chosen (bytes_eq name x.name) here (symbol_of-right s xs name more) where
      chosen : (b : Bool) → is_right_symbol s x.symbol ≡ true → IfSome (symbol_of xs name) (λ y. is_right_symbol s y ≡ true)
          → IfSome (if b then Some x.symbol else symbol_of xs name) (λ y. is_right_symbol s y ≡ true)
      chosen true here there = here
      chosen false here there = there

found-right : (s : Shape) (n : ScriptNames) (w : Word) → AreRight s n → IfOk (found_symbol n w) (λ y. is_right_symbol s y ≡ true)
found-right s n w right = told (symbol_of n.declared w.name) (symbol_of-right s n.declared w.name right.each) where
  told : (o : Option Symbol) → IfSome o (λ y. is_right_symbol s y ≡ true) → IfOk (ok_or o (Undeclared w.name w.place)) (λ y. is_right_symbol s y ≡ true)
  told None h = tt
  told (Some y) h = h

variable-right : (s : Shape) (n : ScriptNames) (w : Word) → AreRight s n → IfOk (variable_at n w) (λ x. is_variable s x ≡ true)
variable-right s n w right =
    bind_keeps (λ y. is_right_symbol s y ≡ true) (λ x. is_variable s x ≡ true) (found_symbol n w) (as_variable w.place) (found-right s n w right) told where
      told : (y : Symbol) → is_right_symbol s y ≡ true → IfOk (as_variable w.place y) (λ x. is_variable s x ≡ true)
      told (Variable x) h = h
      told (Buffer p) h = tt

buffer-right : (s : Shape) (n : ScriptNames) (w : Word) → AreRight s n → IfOk (buffer_at n w) (λ p. is_buffer s p ≡ true)
buffer-right s n w right =
    bind_keeps (λ y. is_right_symbol s y ≡ true) (λ p. is_buffer s p ≡ true) (found_symbol n w) (as_buffer w.place) (found-right s n w right) told where
      told : (y : Symbol) → is_right_symbol s y ≡ true → IfOk (as_buffer w.place y) (λ p. is_buffer s p ≡ true)
      told (Variable x) h = tt
      told (Buffer p) h = h

-- a function of the list, where the first one's number is i, as a number and a kind tell it
record IsFound (i : ℕ) (fs : List FunShape) (f : FunId × FunKind) : Type 0 where
  pub place : ℕ
  pub shape : FunShape
  pub is : f.0.0 ≡ i + place
  pub at : slice_get fs place ≡ Some shape
  pub args : shape.args ≡ function_args f.1
  pub send : shape.send ≡ sends_buffer f.1

function_from-found : (i : ℕ) (fs : List Function) (name : List ℕ) → IfSome (function_from i fs name) (IsFound i (map fun_shape fs))
function_from-found i [] name = tt
function_from-found i (f ∷ fs) name = chosen (bytes_eq name f.name) (function_from-found (i + 1) fs name) where
  further : (r : FunId × FunKind) → IsFound (i + 1) (map fun_shape fs) r → IsFound i (map fun_shape (f ∷ fs)) r
  further r h = record { place = suc h.place; shape = h.shape; is = (let e : r.0.0 ≡ i + 1 + h.place = h.is in omega arith); at = h.at; args = h.args; send = h.send }

  told : (o : Option (FunId × FunKind)) → IfSome o (IsFound (i + 1) (map fun_shape fs)) → IfSome o (IsFound i (map fun_shape (f ∷ fs)))
  told None h = tt
  told (Some r) h = further r h

  chosen : (b : Bool) → IfSome (function_from (i + 1) fs name) (IsFound (i + 1) (map fun_shape fs))
      → IfSome (if b then Some (record { 0 = i }, f.kind) else function_from (i + 1) fs name) (IsFound i (map fun_shape (f ∷ fs)))
  chosen true h = record { place = zero; shape = fun_shape f; is = omega arith; at = refl; args = refl; send = refl }
  chosen false h = told (function_from (i + 1) fs name) h

-- the shape of a function that a script calls
record IsCalled (s : Shape) (f : FunId × FunKind) : Type 0 where
  pub shape : FunShape
  pub at : slice_get s.functions.items f.0.0 ≡ Some shape
  pub args : shape.args ≡ function_args f.1
  pub send : shape.send ≡ sends_buffer f.1

function-right : (s : Shape) (n : ScriptNames) (w : Word) → AreRight s n → IfOk (function n w) (IsCalled s)
function-right s n w right = told (function_from 0 n.machine.functions.items w.name) (function_from-found 0 n.machine.functions.items w.name) where
  told : (o : Option (FunId × FunKind)) → IfSome o (IsFound 0 (map fun_shape n.machine.functions.items)) → IfOk (ok_or o (NotInVm w.name)) (IsCalled s)
  told None h = tt
  told (Some f) h =
      let same : f.0.0 ≡ h.place = (let e : f.0.0 ≡ 0 + h.place = h.is in omega arith) in
      record { shape = h.shape; at = rw (right.shape, same) h.at; args = h.args; send = h.send }

both : (a b : Bool) → a ≡ true → b ≡ true → (a && b) ≡ true
both a b ha hb = rw (ha, hb) refl

sent_name-right : (s : Shape) (n : ScriptNames) (place : ℕ) (o : Option Word) → AreRight s n → IfOk (sent_name n place o) (λ p. is_buffer s p ≡ true)
sent_name-right s n place None right = tt
sent_name-right s n place (Some w) right = buffer-right s n w right

sent-right : (s : Shape) (n : ScriptNames) (place : ℕ) (es : Trees) → AreRight s n → IfOk (sent n place es) (λ p. is_buffer s p ≡ true)
sent-right s n place no_trees right = tt
sent-right s n place (tree_then e no_trees) right = sent_name-right s n place (name_alone e) right
sent-right s n place (tree_then e (tree_then d es)) right = tt

-- checked arguments are right, and as many as are written
record AreArguments (s : Shape) (allowed : Bool) (es : Trees) (args : Arguments) : Type 0 where
  pub count : argument_count args ≡ tree_count es
  pub right : are_right s allowed args ≡ true

-- a call stands where calls are allowed, and is right
abbrev IsRightCall : Shape → Bool → Called → Type 0
IsRightCall s allowed c = is_right_expr s allowed (as_expression c) ≡ true

is_call-right : (s : Shape) (f : FunId × FunKind) (count : ℕ) → IsCalled s f → sends_buffer f.1 ≡ false → count ≡ function_args f.1 → is_call s f.0 count ≡ true
is_call-right s f count h plain same =
    let args : (h.shape.args == count) ≡ true = (let e : h.shape.args ≡ count = h.args ∙ sym same in grind (arith, nat_tests)) in
    rw (h.at, h.send, plain, args) refl

is_send-right : (s : Shape) (f : FunId × FunKind) (p : BufId) → IsCalled s f → sends_buffer f.1 ≡ true → is_buffer s p ≡ true → is_send_for s f.0 p ≡ true
is_send-right s f p h sending buffer = rw (h.at, h.send, sending, buffer) refl

called-right : (s : Shape) (n : ScriptNames) (place : ℕ) (f : FunId × FunKind) (allowed : Bool) (es : Trees) (args : Result Arguments CheckFault)
    → AreRight s n → IsCalled s f → allowed ≡ true → IfOk args (AreArguments s allowed es) → IfOk (called_function n place f es args) (IsRightCall s allowed)
called-right s n place f allowed es args right its here checked = chosen (sends_buffer f.1) refl where
  sending : sends_buffer f.1 ≡ true → IfOk (sent n place es >>= (λ p. Ok (sends f.0 p))) (IsRightCall s allowed)
  sending so =
      bind_keeps (λ p. is_buffer s p ≡ true) (IsRightCall s allowed) (sent n place es) (λ p. Ok (sends f.0 p)) (sent-right s n place es right)
      (λ p buffer. both allowed (is_send_for s f.0 p) here (is_send-right s f p its so buffer))

  calling : sends_buffer f.1 ≡ false → IfOk (unless_refused (tree_count es == function_args f.1) (Arity place) >>= (λ _. args >>= (λ checked. Ok (calls f.0 checked)))) (IsRightCall s allowed)
  calling plain =
      bind_keeps (λ _. (tree_count es == function_args f.1) ≡ true) (IsRightCall s allowed) (unless_refused (tree_count es == function_args f.1) (Arity place))
      (λ _. args >>= (λ checked. Ok (calls f.0 checked))) (demand_holds (tree_count es == function_args f.1) (Arity place)) (λ _ counted.
      bind_keeps (AreArguments s allowed es) (IsRightCall s allowed) args (λ checked. Ok (calls f.0 checked)) checked (λ given h.
      let same : argument_count given ≡ function_args f.1 = (let e : argument_count given ≡ tree_count es = h.count in grind (arith, nat_tests)) in
      both (allowed && is_call s f.0 (argument_count given)) (are_right s allowed given)
      (both allowed (is_call s f.0 (argument_count given)) here (is_call-right s f (argument_count given) its plain same)) h.right))

  chosen : (b : Bool) → sends_buffer f.1 ≡ b → IfOk (if b then sent n place es >>= (λ p. Ok (sends f.0 p))
      else unless_refused (tree_count es == function_args f.1) (Arity place) >>= (λ _. args >>= (λ checked. Ok (calls f.0 checked)))) (IsRightCall s allowed)
  chosen true e = sending e
  chosen false e = calling e

call-right : (s : Shape) (n : ScriptNames) (allowed : Bool) (w : Word) (es : Trees) (args : Result Arguments CheckFault)
    → AreRight s n → IfOk args (AreArguments s allowed es) → IfOk (checked_call n allowed w es args) (IsRightCall s allowed)
call-right s n allowed w es args right checked =
    bind_keeps (IsCalled s) (IsRightCall s allowed) (function n w) _ (function-right s n w right) (λ f found_symbol.
    bind_keeps (λ _. allowed ≡ true) (IsRightCall s allowed) (unless_refused allowed (Kind w.place)) _ (demand_holds allowed _) (λ _ here.
    called-right s n w.place f allowed es args right found_symbol here checked))

abbrev IsRightExpr : Shape → Bool → Expression → Type 0
IsRightExpr s allowed e = is_right_expr s allowed e ≡ true

read-right : (s : Shape) (allowed : Bool) (x : CVar) → is_variable s x ≡ true → is_right_expr s allowed (variable_expression x) ≡ true
read-right s allowed (var.Shared v) h = h
read-right s allowed (var.Private i) h = h

mutual
  expr-right : (s : Shape) (n : ScriptNames) (allowed : Bool) (e : Tree) → AreRight s n → IfOk (checked_expr n allowed e) (IsRightExpr s allowed)
  expr-right s n allowed (given.number literal) right = refl
  expr-right s n allowed (given.variable w) right =
      bind_keeps (λ x. is_variable s x ≡ true) (IsRightExpr s allowed) (variable_at n w) _ (variable-right s n w right) (λ x h. read-right s allowed x h)
  expr-right s n allowed (given.item w e) right =
      bind_keeps (λ p. is_buffer s p ≡ true) (IsRightExpr s allowed) (buffer_at n w) _ (buffer-right s n w right) (λ p buffer.
      bind_keeps (IsRightExpr s allowed) (IsRightExpr s allowed) (checked_expr n allowed e) _ (expr-right s n allowed e right) (λ i h.
      both (is_buffer s p) (is_right_expr s allowed i) buffer h))
  expr-right s n allowed (given.size w) right =
      bind_keeps (λ p. is_buffer s p ≡ true) (IsRightExpr s allowed) (buffer_at n w) _ (buffer-right s n w right) (λ p h. h)
  expr-right s n allowed (given.message_item e) right =
      bind_keeps (IsRightExpr s allowed) (IsRightExpr s allowed) (checked_expr n allowed e) _ (expr-right s n allowed e right) (λ i h. h)
  expr-right s n allowed given.message_size right = refl
  expr-right s n allowed (given.call w es) right =
      bind_keeps (IsRightCall s allowed) (IsRightExpr s allowed) (checked_call n allowed w es (checked_args n allowed es)) _
      (call-right s n allowed w es (checked_args n allowed es) right (args-right s n allowed es right)) (λ c h. h)
  expr-right s n allowed (given.negative e) right =
      bind_keeps (IsRightExpr s allowed) (IsRightExpr s allowed) (checked_expr n allowed e) _ (expr-right s n allowed e right) (λ i h. h)
  expr-right s n allowed (given.inverse e) right =
      bind_keeps (IsRightExpr s allowed) (IsRightExpr s allowed) (checked_expr n allowed e) _ (expr-right s n allowed e right) (λ i h. h)
  expr-right s n allowed (given.two o l r) right =
      bind_keeps (IsRightExpr s allowed) (IsRightExpr s allowed) (checked_expr n allowed l) _ (expr-right s n allowed l right) (λ a ha.
      bind_keeps (IsRightExpr s allowed) (IsRightExpr s allowed) (checked_expr n allowed r) _ (expr-right s n allowed r right) (λ b hb.
      both (is_right_expr s allowed a) (is_right_expr s allowed b) ha hb))
  expr-right s n allowed (given.paren e) right = expr-right s n allowed e right

  args-right : (s : Shape) (n : ScriptNames) (allowed : Bool) (es : Trees) → AreRight s n → IfOk (checked_args n allowed es) (AreArguments s allowed es)
  args-right s n allowed no_trees right = record { count = refl; right = refl }
  args-right s n allowed (tree_then e es) right =
      bind_keeps (IsRightExpr s allowed) (AreArguments s allowed (tree_then e es)) (checked_expr n allowed e) _ (expr-right s n allowed e right) (λ a ha.
      bind_keeps (AreArguments s allowed es) (AreArguments s allowed (tree_then e es)) (checked_args n allowed es) _ (args-right s n allowed es right) (λ more h.
      record { count = ap suc h.count; right = both (is_right_expr s allowed a) (are_right s allowed more) ha h.right }))

-- a literal from 1 to 32767 is a step, with its sign
signed-right : (minus : Bool) (size : ℕ) → (nat_lt 0 size && nat_le size 32767) ≡ true → is_step (if minus then neg_ℤ (pos size) else pos size) ≡ true
signed-right minus zero h = cc
signed-right true (suc k) h = let (a, b) = and_parts (nat_lt 0 (suc k)) (nat_le (suc k) 32767) h in grind (arith, nat_tests)
signed-right false (suc k) h = let (a, b) = and_parts (nat_lt 0 (suc k)) (nat_le (suc k) 32767) h in grind (arith, nat_tests)

step-right : (step : Option Step) → IfOk (checked_step step) (λ z. is_step z ≡ true)
step-right None = refl
step-right (Some t) =
    bind_keeps (λ _. (nat_lt 0 t.size && nat_le t.size 32767) ≡ true) (λ z. is_step z ≡ true) (unless_refused (nat_lt 0 t.size && nat_le t.size 32767) (Kind t.place))
    (λ _. Ok (if t.minus then neg_ℤ (pos t.size) else pos t.size)) (demand_holds (nat_lt 0 t.size && nat_le t.size 32767) (Kind t.place)) (λ _ h. signed-right t.minus t.size h)

abbrev IsRightHead : Shape → CheckedHead → Type 0
IsRightHead s h = is_head s h.var h.from h.to h.step ≡ true

head-right : (s : Shape) (n : ScriptNames) (w : Word) (from to : Tree) (step : Option Step) → AreRight s n → IfOk (checked_head n w from to step) (IsRightHead s)
head-right s n w from to step right =
    bind_keeps (λ x. is_variable s x ≡ true) (IsRightHead s) (variable_at n w) _ (variable-right s n w right) (λ x hx.
    bind_keeps (IsRightExpr s true) (IsRightHead s) (checked_expr n true from) _ (expr-right s n true from right) (λ a ha.
    bind_keeps (IsRightExpr s false) (IsRightHead s) (checked_expr n false to) _ (expr-right s n false to right) (λ b hb.
    bind_keeps (λ z. is_step z ≡ true) (IsRightHead s) (checked_step step) _ (step-right step) (λ z hz.
    rw (hx, ha, hb, hz) refl))))

abbrev IsRightStmt : Shape → Statement → Type 0
IsRightStmt s x = is_right_stmt s x ≡ true

abbrev IsRightBlock : Shape → Block → Type 0
IsRightBlock s b = is_right_block s b ≡ true

-- a call alone is right as a call in an expression is
as_statement-right : (s : Shape) (c : Called) → IsRightCall s true c → is_right_stmt s (as_statement c) ≡ true
as_statement-right s (sends f p) h = h
as_statement-right s (calls f es) h = h

mutual
  stmt-right : (s : Shape) (n : ScriptNames) (x : Act) → AreRight s n → IfOk (checked_stmt n x) (IsRightStmt s)
  stmt-right s n (given.set w e) right =
      bind_keeps (λ x. is_variable s x ≡ true) (IsRightStmt s) (variable_at n w) _ (variable-right s n w right) (λ x hx.
      bind_keeps (IsRightExpr s true) (IsRightStmt s) (checked_expr n true e) _ (expr-right s n true e right) (λ a ha. rw (hx, ha) refl))
  stmt-right s n (given.set_item w i e) right =
      bind_keeps (λ p. is_buffer s p ≡ true) (IsRightStmt s) (buffer_at n w) _ (buffer-right s n w right) (λ p hp.
      bind_keeps (IsRightExpr s true) (IsRightStmt s) (checked_expr n true i) _ (expr-right s n true i right) (λ a ha.
      bind_keeps (IsRightExpr s true) (IsRightStmt s) (checked_expr n true e) _ (expr-right s n true e right) (λ b hb. rw (hp, ha, hb) refl)))
  stmt-right s n (given.append w e) right =
      bind_keeps (λ p. is_buffer s p ≡ true) (IsRightStmt s) (buffer_at n w) _ (buffer-right s n w right) (λ p hp.
      bind_keeps (IsRightExpr s true) (IsRightStmt s) (checked_expr n true e) _ (expr-right s n true e right) (λ a ha. rw (hp, ha) refl))
  stmt-right s n (given.take_last w b) right =
      bind_keeps (λ x. is_variable s x ≡ true) (IsRightStmt s) (variable_at n w) _ (variable-right s n w right) (λ x hx.
      bind_keeps (λ p. is_buffer s p ≡ true) (IsRightStmt s) (buffer_at n b) _ (buffer-right s n b right) (λ p hp. rw (hx, hp) refl))
  stmt-right s n (given.clear w) right =
      bind_keeps (λ p. is_buffer s p ≡ true) (IsRightStmt s) (buffer_at n w) _ (buffer-right s n w right) (λ p hp. hp)
  stmt-right s n (given.call_alone w es) right =
      bind_keeps (IsRightCall s true) (IsRightStmt s) (checked_call n true w es (checked_args n true es)) _
      (call-right s n true w es (checked_args n true es) right (args-right s n true es right)) (λ c h. as_statement-right s c h)
  stmt-right s n (given.if_then e a) right =
      bind_keeps (IsRightExpr s true) (IsRightStmt s) (checked_expr n true e) _ (expr-right s n true e right) (λ test ht.
      bind_keeps (IsRightBlock s) (IsRightStmt s) (checked_block n a) _ (block-right s n a right) (λ body hb. rw (ht, hb) refl))
  stmt-right s n (given.if_else e a b) right =
      bind_keeps (IsRightExpr s true) (IsRightStmt s) (checked_expr n true e) _ (expr-right s n true e right) (λ test ht.
      bind_keeps (IsRightBlock s) (IsRightStmt s) (checked_block n a) _ (block-right s n a right) (λ body hb.
      bind_keeps (IsRightBlock s) (IsRightStmt s) (checked_block n b) _ (block-right s n b right) (λ other ho. rw (ht, hb, ho) refl)))
  stmt-right s n (given.for_next w from to step a next) right =
      bind_keeps (IsRightHead s) (IsRightStmt s) (checked_head n w from to step) _ (head-right s n w from to step right) (λ h hh.
      bind_keeps (IsRightBlock s) (IsRightStmt s) (checked_block n a) _ (block-right s n a right) (λ body hb.
      bind_keeps (λ _. ⊤) (IsRightStmt s) (closes_for n w next) _ (anything (closes_for n w next)) (λ _ _.
      both (is_head s h.var h.from h.to h.step) (is_right_block s body) hh hb)))
  stmt-right s n (given.while_do e a) right =
      bind_keeps (IsRightExpr s true) (IsRightStmt s) (checked_expr n true e) _ (expr-right s n true e right) (λ test ht.
      bind_keeps (IsRightBlock s) (IsRightStmt s) (checked_block n a) _ (block-right s n a right) (λ body hb. rw (ht, hb) refl))
  stmt-right s n (given.run_procedure w es) right = tt

  block-right : (s : Shape) (n : ScriptNames) (xs : Acts) → AreRight s n → IfOk (checked_block n xs) (IsRightBlock s)
  block-right s n no_acts right = refl
  block-right s n (act_then x xs) right =
      bind_keeps (IsRightStmt s) (IsRightBlock s) (checked_stmt n x) _ (stmt-right s n x right) (λ y hy.
      bind_keeps (IsRightBlock s) (IsRightBlock s) (checked_block n xs) _ (block-right s n xs right) (λ more hm. rw (hy, hm) refl))

-- no names but the machine's are right for its shape
none-right : (machine : Description) → AreRight (shape_of machine) (names_before machine)
none-right machine = record { shape = refl; each = refl }

-- what the checks of a script give is right for its machine's shape
pub source-right : (machine : Description) (source : Source) → IfOk (checked_source machine source) (λ b. is_right (shape_of machine) b ≡ true)
source-right machine source =
    let s : Shape = shape_of machine in
    bind_keeps (AreRight s) (λ b. is_right s b ≡ true) (declare_all (names_before machine) source.decls) _
    (declare_all-right s (names_before machine) source.decls (none-right machine)) (λ n right.
    told (checked_block n source.body) (block-right s n source.body right)) where
      told : (r : Result Block CheckFault) → IfOk r (IsRightBlock (shape_of machine)) → IfOk r (λ b. is_right (shape_of machine) b ≡ true)
      told (Ok b) h = both (is_shape (shape_of machine)) (is_right_block (shape_of machine) b) (shape_of-limits machine (shape_of machine) refl) h
      told (Err e) h = tt

pub checked-right : (machine : Description) (source : Source) (s : Shape) (b : Block) → s ≡ shape_of machine → checked_source machine source ≡ Ok b → is_right s b ≡ true
checked-right machine source s b same checked =
    let P : Result Block CheckFault → Type 0 = λ r. IfOk r (λ b. is_right (shape_of machine) b ≡ true) in
    let Q : Shape → Type 0 = λ s. is_right s b ≡ true in
    subst Q (sym same) (subst P checked (source-right machine source))
