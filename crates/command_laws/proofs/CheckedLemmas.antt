-- The checks of a script don't depend on its places, except for those of a refusal.
use Rattle.std.proofs.Common.{◌≡◌, ℕ, suc, ◌==◌, nat_lt, nat_le, Bool, true, false, ◌&&◌, if◌then◌else◌, List, [], ◌∷◌, map, Option, Some, None, Result, Ok, Err, refl, sym, ◌∙◌, ap}
use Rattle.std.specs.Prelude.{bytes_eq, ok_or}
use Rattle.std.specs.Result.{result_ok}
use Rattle.mate_num.specs.declared.id.FunId.{FunId}
use Rattle.vm_shape.specs.Limits.{function_args}
use Rattle.vm_shape.specs.Shapes.{sends_buffer}
use Rattle.vm_shape.specs.declared.description.Description.{Description}
use Rattle.vm_shape.specs.declared.function.FunKind.{FunKind}
use Rattle.ts_trees.specs.declared.script.Decl.{Decl}
use Rattle.ts_trees.specs.declared.stmt.Step.{Step}
use Rattle.ts_trees.specs.declared.word.Word.{Word}
use Rattle.ts_checked.specs.Expression.{Arguments}
use Rattle.ts_checked.specs.Statement.{Block}
use Rattle.ts_trees.specs.Tree as given
use Rattle.ts_trees.specs.Tree.{Tree, Trees, no_trees, tree_then, Act, Acts, no_acts, act_then, Source}
use Rattle.ts_checker.specs.declared.fault.CheckFault.{CheckFault}
use Rattle.ts_checker.specs.declared.fault.CheckFault.TheVariants.{Undeclared, Kind, Arity}
use Rattle.ts_checker.specs.declared.scope.Symbol.{Symbol}
use Rattle.ts_checker.specs.declared.scope.Symbol.TheVariants.{Variable, Buffer}
use Rattle.mate_num.specs.Results.{◌>>=◌}
use Rattle.ts_checker.specs.Refusal.{unless_refused}
use Rattle.ts_checker.specs.Names.{ScriptNames, names_before, symbol_of, declare, declare_all, found_symbol, as_variable, as_buffer, variable, buffer, function, closes_for}
use Rattle.ts_checker.specs.Checks.{name_alone, sent_name, sent, tree_count, called_function, checked_call, checked_expr, checked_args, checked_step, checked_head, checked_stmt, checked_block, checked_source}
use Rattle.ts_lexer.specs.Bare.{bare_word, bare_tree, bare_trees, bare_step, bare_act, bare_acts, bare_decl, bare}

-- both checks pass with one value, or both refuse
abbrev Same : {A : Type 0} → Result A CheckFault → Result A CheckFault → Type 0
Same r q = result_ok r ≡ result_ok q

next : {A B : Type 0} (r q : Result A CheckFault) (f g : A → Result B CheckFault) → Same r q → ((x : A) → Same (f x) (g x)) → Same (r >>= f) (q >>= g)
next (Ok x) (Ok y) f g e more = let is : x ≡ y = cc in more x ∙ ap (λ z. result_ok (g z)) is
next (Ok x) (Err e') f g e more = cc
next (Err e') (Ok y) f g e more = cc
next (Err e') (Err e'') f g e more = refl

tested : (b : Bool) (e e' : CheckFault) → Same (unless_refused b e) (unless_refused b e')
tested true e e' = refl
tested false e e' = refl

one_of : {A : Type 0} (o : Option A) (e e' : CheckFault) → Same (ok_or o e) (ok_or o e')
one_of (Some a) e e' = refl
one_of None e e' = refl

either : {A : Type 0} (b : Bool) (x x' y y' : Result A CheckFault) → Same x x' → Same y y' → Same (if b then x else y) (if b then x' else y')
either true x x' y y' p q = p
either false x x' y y' p q = q

-- ---- names

found_bare : (n : ScriptNames) (w : Word) → Same (found_symbol n w) (found_symbol n (bare_word w))
found_bare n w = one_of (symbol_of n.declared w.name) (Undeclared w.name w.place) (Undeclared w.name 0)

variable_bare : (n : ScriptNames) (w : Word) → Same (variable n w) (variable n (bare_word w))
variable_bare n w = next (found_symbol n w) (found_symbol n (bare_word w)) (as_variable w.place) (as_variable 0) (found_bare n w) by where
  by : (s : Symbol) → Same (as_variable w.place s) (as_variable 0 s)
  by (Variable x) = refl
  by (Buffer p) = refl

buffer_bare : (n : ScriptNames) (w : Word) → Same (buffer n w) (buffer n (bare_word w))
buffer_bare n w = next (found_symbol n w) (found_symbol n (bare_word w)) (as_buffer w.place) (as_buffer 0) (found_bare n w) by where
  by : (s : Symbol) → Same (as_buffer w.place s) (as_buffer 0 s)
  by (Variable x) = refl
  by (Buffer p) = refl

declared_bare : (n : ScriptNames) (ds : List Decl) → Same (declare_all n ds) (declare_all n (map bare_decl ds))
declared_bare n [] = refl
declared_bare n (d ∷ ds) = next (declare n d) (declare n (bare_decl d)) _ _ refl (λ m. declared_bare m ds)

-- ---- expressions

count_bare : (es : Trees) → tree_count (bare_trees es) ≡ tree_count es
count_bare no_trees = refl
count_bare (tree_then e es) = ap (λ n. suc n) (count_bare es)

alone_bare : (n : ScriptNames) (place : ℕ) (e : Tree) → Same (sent_name n place (name_alone e)) (sent_name n 0 (name_alone (bare_tree e)))
alone_bare n place (given.variable w) = buffer_bare n w
alone_bare n place _ = refl

sent_bare : (n : ScriptNames) (place : ℕ) (es : Trees) → Same (sent n place es) (sent n 0 (bare_trees es))
sent_bare n place no_trees = refl
sent_bare n place (tree_then e no_trees) = alone_bare n place e
sent_bare n place (tree_then e (tree_then d es)) = refl

called_bare : (n : ScriptNames) (place : ℕ) (f : FunId × FunKind) (es : Trees) (args args' : Result Arguments CheckFault) → Same args args'
    → Same (called_function n place f es args) (called_function n 0 f (bare_trees es) args')
called_bare n place f es args args' same =
    either (sends_buffer f.1) _ _ _ _ (next (sent n place es) (sent n 0 (bare_trees es)) _ _ (sent_bare n place es) (λ p. refl))
    (next (unless_refused (tree_count es == function_args f.1) (Arity place)) (unless_refused (tree_count (bare_trees es) == function_args f.1) (Arity 0)) _ _
    (tested (tree_count es == function_args f.1) (Arity place) (Arity 0) ∙ ap (λ k. result_ok (unless_refused (k == function_args f.1) (Arity 0))) (sym (count_bare es)))
    (λ u. next args args' _ _ same (λ checked. refl)))

call_bare : (n : ScriptNames) (allowed : Bool) (w : Word) (es : Trees) (args args' : Result Arguments CheckFault) → Same args args'
    → Same (checked_call n allowed w es args) (checked_call n allowed (bare_word w) (bare_trees es) args')
call_bare n allowed w es args args' same =
    next (function n w) (function n (bare_word w)) _ _ refl
    (λ f. next (unless_refused allowed (Kind w.place)) (unless_refused allowed (Kind 0)) _ _ (tested allowed (Kind w.place) (Kind 0))
    (λ u. called_bare n w.place f es args args' same))

mutual
  expr_bare : (n : ScriptNames) (allowed : Bool) (e : Tree) → Same (checked_expr n allowed e) (checked_expr n allowed (bare_tree e))
  expr_bare n allowed (given.number literal) = refl
  expr_bare n allowed (given.variable w) = next (variable n w) (variable n (bare_word w)) _ _ (variable_bare n w) (λ x. refl)
  expr_bare n allowed (given.item w e) =
      next (buffer n w) (buffer n (bare_word w)) _ _ (buffer_bare n w)
      (λ p. next (checked_expr n allowed e) (checked_expr n allowed (bare_tree e)) _ _ (expr_bare n allowed e) (λ i. refl))
  expr_bare n allowed (given.size w) = next (buffer n w) (buffer n (bare_word w)) _ _ (buffer_bare n w) (λ p. refl)
  expr_bare n allowed (given.message_item e) = next (checked_expr n allowed e) (checked_expr n allowed (bare_tree e)) _ _ (expr_bare n allowed e) (λ i. refl)
  expr_bare n allowed given.message_size = refl
  expr_bare n allowed (given.call w es) =
      next (checked_call n allowed w es (checked_args n allowed es)) (checked_call n allowed (bare_word w) (bare_trees es) (checked_args n allowed (bare_trees es))) _ _
      (call_bare n allowed w es (checked_args n allowed es) (checked_args n allowed (bare_trees es)) (args_bare n allowed es)) (λ c. refl)
  expr_bare n allowed (given.negative e) = next (checked_expr n allowed e) (checked_expr n allowed (bare_tree e)) _ _ (expr_bare n allowed e) (λ a. refl)
  expr_bare n allowed (given.inverse e) = next (checked_expr n allowed e) (checked_expr n allowed (bare_tree e)) _ _ (expr_bare n allowed e) (λ a. refl)
  expr_bare n allowed (given.two o l r) =
      next (checked_expr n allowed l) (checked_expr n allowed (bare_tree l)) _ _ (expr_bare n allowed l)
      (λ a. next (checked_expr n allowed r) (checked_expr n allowed (bare_tree r)) _ _ (expr_bare n allowed r) (λ b. refl))
  expr_bare n allowed (given.paren e) = expr_bare n allowed e

  args_bare : (n : ScriptNames) (allowed : Bool) (es : Trees) → Same (checked_args n allowed es) (checked_args n allowed (bare_trees es))
  args_bare n allowed no_trees = refl
  args_bare n allowed (tree_then e es) =
      next (checked_expr n allowed e) (checked_expr n allowed (bare_tree e)) _ _ (expr_bare n allowed e)
      (λ a. next (checked_args n allowed es) (checked_args n allowed (bare_trees es)) _ _ (args_bare n allowed es) (λ more. refl))

-- ---- statements

step_bare : (o : Option Step) → Same (checked_step o) (checked_step (bare_step o))
step_bare None = refl
step_bare (Some s) =
    next (unless_refused (nat_lt 0 s.size && nat_le s.size 32767) (Kind s.place)) (unless_refused (nat_lt 0 s.size && nat_le s.size 32767) (Kind 0)) _ _
    (tested (nat_lt 0 s.size && nat_le s.size 32767) (Kind s.place) (Kind 0)) (λ u. refl)

head_bare : (n : ScriptNames) (w : Word) (from to : Tree) (step : Option Step)
    → Same (checked_head n w from to step) (checked_head n (bare_word w) (bare_tree from) (bare_tree to) (bare_step step))
head_bare n w from to step =
    next (variable n w) (variable n (bare_word w)) _ _ (variable_bare n w)
    (λ x. next (checked_expr n true from) (checked_expr n true (bare_tree from)) _ _ (expr_bare n true from)
    (λ first. next (checked_expr n false to) (checked_expr n false (bare_tree to)) _ _ (expr_bare n false to)
    (λ limit. next (checked_step step) (checked_step (bare_step step)) _ _ (step_bare step) (λ k. refl))))

closed_bare : (n : ScriptNames) (w last : Word) → Same (closes_for n w last) (closes_for n (bare_word w) (bare_word last))
closed_bare n w last =
    next (found_symbol n last) (found_symbol n (bare_word last)) _ _ (found_bare n last) (λ s. tested (bytes_eq last.name w.name) (Kind last.place) (Kind 0))

mutual
  stmt_bare : (n : ScriptNames) (a : Act) → Same (checked_stmt n a) (checked_stmt n (bare_act a))
  stmt_bare n (given.set w e) =
      next (variable n w) (variable n (bare_word w)) _ _ (variable_bare n w)
      (λ x. next (checked_expr n true e) (checked_expr n true (bare_tree e)) _ _ (expr_bare n true e) (λ a. refl))
  stmt_bare n (given.set_item w i e) =
      next (buffer n w) (buffer n (bare_word w)) _ _ (buffer_bare n w)
      (λ p. next (checked_expr n true i) (checked_expr n true (bare_tree i)) _ _ (expr_bare n true i)
      (λ a. next (checked_expr n true e) (checked_expr n true (bare_tree e)) _ _ (expr_bare n true e) (λ b. refl)))
  stmt_bare n (given.append w e) =
      next (buffer n w) (buffer n (bare_word w)) _ _ (buffer_bare n w)
      (λ p. next (checked_expr n true e) (checked_expr n true (bare_tree e)) _ _ (expr_bare n true e) (λ a. refl))
  stmt_bare n (given.take_last w b) =
      next (variable n w) (variable n (bare_word w)) _ _ (variable_bare n w)
      (λ x. next (buffer n b) (buffer n (bare_word b)) _ _ (buffer_bare n b) (λ p. refl))
  stmt_bare n (given.clear w) = next (buffer n w) (buffer n (bare_word w)) _ _ (buffer_bare n w) (λ p. refl)
  stmt_bare n (given.call_alone w es) =
      next (checked_call n true w es (checked_args n true es)) (checked_call n true (bare_word w) (bare_trees es) (checked_args n true (bare_trees es))) _ _
      (call_bare n true w es (checked_args n true es) (checked_args n true (bare_trees es)) (args_bare n true es)) (λ c. refl)
  stmt_bare n (given.if_then e a) =
      next (checked_expr n true e) (checked_expr n true (bare_tree e)) _ _ (expr_bare n true e)
      (λ test. next (checked_block n a) (checked_block n (bare_acts a)) _ _ (block_bare n a) (λ body. refl))
  stmt_bare n (given.if_else e a b) =
      next (checked_expr n true e) (checked_expr n true (bare_tree e)) _ _ (expr_bare n true e)
      (λ test. next (checked_block n a) (checked_block n (bare_acts a)) _ _ (block_bare n a)
      (λ body. next (checked_block n b) (checked_block n (bare_acts b)) _ _ (block_bare n b) (λ other. refl)))
  stmt_bare n (given.for_next w from to step a last) =
      next (checked_head n w from to step) (checked_head n (bare_word w) (bare_tree from) (bare_tree to) (bare_step step)) _ _ (head_bare n w from to step)
      (λ h. next (checked_block n a) (checked_block n (bare_acts a)) _ _ (block_bare n a)
      (λ body. next (closes_for n w last) (closes_for n (bare_word w) (bare_word last)) _ _ (closed_bare n w last) (λ u. refl)))
  stmt_bare n (given.while_do e a) =
      next (checked_expr n true e) (checked_expr n true (bare_tree e)) _ _ (expr_bare n true e)
      (λ test. next (checked_block n a) (checked_block n (bare_acts a)) _ _ (block_bare n a) (λ body. refl))
  stmt_bare n (given.run_procedure w es) = refl

  block_bare : (n : ScriptNames) (a : Acts) → Same (checked_block n a) (checked_block n (bare_acts a))
  block_bare n no_acts = refl
  block_bare n (act_then a more) =
      next (checked_stmt n a) (checked_stmt n (bare_act a)) _ _ (stmt_bare n a)
      (λ s. next (checked_block n more) (checked_block n (bare_acts more)) _ _ (block_bare n more) (λ ss. refl))

source_bare : (machine : Description) (s : Source) → Same (checked_source machine s) (checked_source machine (bare s))
source_bare machine s =
    next (declare_all (names_before machine) s.decls) (declare_all (names_before machine) (map bare_decl s.decls)) _ _ (declared_bare (names_before machine) s.decls)
    (λ n. block_bare n s.body)

passed : (r : Result Block CheckFault) (tree : Block) → result_ok r ≡ Some tree → r ≡ Ok tree
passed (Ok x) tree e = let is : x ≡ tree = cc in ap (λ z. Ok z) is
passed (Err f) tree e = cc

-- scripts that are the same but for places mean one tree
pub same_tree : (machine : Description) (a b : Source) (tree : Block) → bare a ≡ bare b → checked_source machine a ≡ Ok tree → checked_source machine b ≡ Ok tree
same_tree machine a b tree same is =
    passed (checked_source machine b) tree
    (source_bare machine b ∙ ap (λ s. result_ok (checked_source machine s)) (sym same) ∙ sym (source_bare machine a) ∙ ap result_ok is)
