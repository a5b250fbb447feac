-- The checks of a script never refuse because memory ran out.
use Rattle.std.proofs.Common.{◌≡◌, ℕ, Bool, true, false, if◌then◌else◌, List, [], ◌∷◌, Option, Some, None, Result, Ok, Err, ap}
use Rattle.std.specs.Prelude.{ok_or}
use Rattle.vm_shape.specs.declared.description.Description.{Description}
use Rattle.ts_trees.specs.declared.script.Decl.{Decl}
use Rattle.ts_trees.specs.declared.script.DeclKind.{DeclKind}
use Rattle.ts_trees.specs.declared.script.DeclKind.TheVariants as of
use Rattle.ts_trees.specs.declared.stmt.Step.{Step}
use Rattle.ts_trees.specs.declared.word.Word.{Word}
use Rattle.ts_trees.specs.Tree as given
use Rattle.ts_trees.specs.Tree.{Tree, Trees, no_trees, tree_then, Act, Acts, no_acts, act_then, Source}
use Rattle.ts_checker.specs.Checks.{checked_expr, checked_args, checked_call, called_function, sent, sent_name, name_alone, checked_step, checked_head, checked_stmt, checked_block, checked_source}
use Rattle.ts_checker.specs.Names.{ScriptNames, names_before, made, declare, declare_all, found_symbol, as_variable, as_buffer, variable, buffer, function, listed, closes_for}
use Rattle.mate_num.specs.Results.{◌>>=◌}
use Rattle.ts_checker.specs.Refusal.{unless_refused}
use Rattle.ts_checker.specs.declared.fault.CheckFault.{CheckFault}
use Rattle.ts_checker.specs.declared.fault.CheckFault.TheVariants.{Undeclared, NotInVm, Twice, Kind, Arity, TooManyPrivates, NoMemory}
use Rattle.ts_checker.specs.declared.scope.Symbol.{Symbol}
use Rattle.ts_checker.specs.declared.scope.Symbol.TheVariants.{Variable, Buffer}

-- the check doesn't refuse for want of memory
abbrev Told : {A : Type 0} → Result A CheckFault → Type 0
Told c = c ≡ Err NoMemory → ⊥

fine : {A : Type 0} (a : A) → Told {A = A} (Ok a)
fine a e = cc

refused : {A : Type 0} (f : CheckFault) → (f ≡ NoMemory → ⊥) → Told {A = A} (Err f)
refused f other e = let is : f ≡ NoMemory = cc in other is

next : {A B : Type 0} (c : Result A CheckFault) (f : A → Result B CheckFault) → Told c → ((a : A) → Told (f a)) → Told (c >>= f)
next (Ok a) f told more = more a
next (Err fault) f told more = refused fault (λ e. told (ap Err e))

demanded : (b : Bool) (f : CheckFault) → (f ≡ NoMemory → ⊥) → Told (unless_refused b f)
demanded true f other = fine tt
demanded false f other = refused f other

one_of : {A : Type 0} (o : Option A) (f : CheckFault) → (f ≡ NoMemory → ⊥) → Told (ok_or o f)
one_of (Some a) f other = fine a
one_of None f other = refused f other

either : {A : Type 0} (b : Bool) (x y : Result A CheckFault) → Told x → Told y → Told (if b then x else y)
either true x y p q = p
either false x y p q = q

-- ---- names

listed_told : (names : List (List ℕ)) (name : List ℕ) → Told (listed names name)
listed_told names name = one_of _ (NotInVm name) (λ e. cc)

made_told : (n : ScriptNames) (kind : DeclKind) (name : List ℕ) → Told (made n kind name)
made_told n of.Shared name = next (listed n.machine.shared.items name) _ (listed_told n.machine.shared.items name) (λ i. fine _)
made_told n of.Private name = next (unless_refused _ TooManyPrivates) _ (demanded _ TooManyPrivates (λ e. cc)) (λ i. fine _)
made_told n of.Buffer name = next (listed n.machine.buffers.items name) _ (listed_told n.machine.buffers.items name) (λ i. fine _)

declare_told : (n : ScriptNames) (d : Decl) → Told (declare n d)
declare_told n d =
    next (unless_refused _ (Twice d.word.name)) _ (demanded _ (Twice d.word.name) (λ e. cc))
    (λ fresh. next (made n d.kind d.word.name) _ (made_told n d.kind d.word.name) (λ symbol. fine _))

declare_all_told : (n : ScriptNames) (ds : List Decl) → Told (declare_all n ds)
declare_all_told n [] = fine n
declare_all_told n (d ∷ ds) = next (declare n d) _ (declare_told n d) (λ m. declare_all_told m ds)

found_told : (n : ScriptNames) (w : Word) → Told (found_symbol n w)
found_told n w = one_of _ (Undeclared w.name w.place) (λ e. cc)

variable_told : (n : ScriptNames) (w : Word) → Told (variable n w)
variable_told n w = next (found_symbol n w) (as_variable w.place) (found_told n w) by where
  by : (s : Symbol) → Told (as_variable w.place s)
  by (Variable x) = fine x
  by (Buffer p) = refused (Kind w.place) (λ e. cc)

buffer_told : (n : ScriptNames) (w : Word) → Told (buffer n w)
buffer_told n w = next (found_symbol n w) (as_buffer w.place) (found_told n w) by where
  by : (s : Symbol) → Told (as_buffer w.place s)
  by (Variable x) = refused (Kind w.place) (λ e. cc)
  by (Buffer p) = fine p

-- ---- expressions

sent_name_told : (n : ScriptNames) (place : ℕ) (o : Option Word) → Told (sent_name n place o)
sent_name_told n place None = refused (Kind place) (λ e. cc)
sent_name_told n place (Some w) = buffer_told n w

sent_told : (n : ScriptNames) (place : ℕ) (es : Trees) → Told (sent n place es)
sent_told n place no_trees = refused (Arity place) (λ e. cc)
sent_told n place (tree_then e no_trees) = sent_name_told n place (name_alone e)
sent_told n place (tree_then e (tree_then d es)) = refused (Arity place) (λ e. cc)

called_told : (n : ScriptNames) (place : ℕ) (f : _) (es : Trees) (args : _) → Told args → Told (called_function n place f es args)
called_told n place f es args told =
    either _ _ _ (next (sent n place es) _ (sent_told n place es) (λ p. fine _))
    (next (unless_refused _ (Arity place)) _ (demanded _ (Arity place) (λ e. cc)) (λ u. next args _ told (λ checked. fine _)))

call_told : (n : ScriptNames) (allowed : Bool) (w : Word) (es : Trees) (args : _) → Told args → Told (checked_call n allowed w es args)
call_told n allowed w es args told =
    next (function n w) _ (one_of _ (NotInVm w.name) (λ e. cc))
    (λ f. next (unless_refused allowed (Kind w.place)) _ (demanded allowed (Kind w.place) (λ e. cc)) (λ u. called_told n w.place f es args told))

mutual
  expr_told : (n : ScriptNames) (allowed : Bool) (e : Tree) → Told (checked_expr n allowed e)
  expr_told n allowed (given.number literal) = fine _
  expr_told n allowed (given.variable w) = next (variable n w) _ (variable_told n w) (λ x. fine _)
  expr_told n allowed (given.item w e) =
      next (buffer n w) _ (buffer_told n w) (λ p. next (checked_expr n allowed e) _ (expr_told n allowed e) (λ i. fine _))
  expr_told n allowed (given.size w) = next (buffer n w) _ (buffer_told n w) (λ p. fine _)
  expr_told n allowed (given.message_item e) = next (checked_expr n allowed e) _ (expr_told n allowed e) (λ i. fine _)
  expr_told n allowed given.message_size = fine _
  expr_told n allowed (given.call w es) =
      next (checked_call n allowed w es (checked_args n allowed es)) _ (call_told n allowed w es (checked_args n allowed es) (args_told n allowed es)) (λ c. fine _)
  expr_told n allowed (given.negative e) = next (checked_expr n allowed e) _ (expr_told n allowed e) (λ i. fine _)
  expr_told n allowed (given.inverse e) = next (checked_expr n allowed e) _ (expr_told n allowed e) (λ i. fine _)
  expr_told n allowed (given.two o l r) =
      next (checked_expr n allowed l) _ (expr_told n allowed l) (λ a. next (checked_expr n allowed r) _ (expr_told n allowed r) (λ b. fine _))
  expr_told n allowed (given.paren e) = expr_told n allowed e

  args_told : (n : ScriptNames) (allowed : Bool) (es : Trees) → Told (checked_args n allowed es)
  args_told n allowed no_trees = fine _
  args_told n allowed (tree_then e es) =
      next (checked_expr n allowed e) _ (expr_told n allowed e) (λ a. next (checked_args n allowed es) _ (args_told n allowed es) (λ more. fine _))

-- ---- statements

step_told : (o : Option Step) → Told (checked_step o)
step_told None = fine _
step_told (Some s) = next (unless_refused _ (Kind s.place)) _ (demanded _ (Kind s.place) (λ e. cc)) (λ u. fine _)

head_told : (n : ScriptNames) (w : Word) (from to : Tree) (step : Option Step) → Told (checked_head n w from to step)
head_told n w from to step =
    next (variable n w) _ (variable_told n w)
    (λ x. next (checked_expr n true from) _ (expr_told n true from)
    (λ first. next (checked_expr n false to) _ (expr_told n false to) (λ limit. next (checked_step step) _ (step_told step) (λ size. fine _))))

closed_told : (n : ScriptNames) (w last : Word) → Told (closes_for n w last)
closed_told n w last = next (found_symbol n last) _ (found_told n last) (λ s. demanded _ (Kind last.place) (λ e. cc))

mutual
  stmt_told : (n : ScriptNames) (x : Act) → Told (checked_stmt n x)
  stmt_told n (given.set w e) = next (variable n w) _ (variable_told n w) (λ x. next (checked_expr n true e) _ (expr_told n true e) (λ a. fine _))
  stmt_told n (given.set_item w i e) =
      next (buffer n w) _ (buffer_told n w)
      (λ p. next (checked_expr n true i) _ (expr_told n true i) (λ a. next (checked_expr n true e) _ (expr_told n true e) (λ b. fine _)))
  stmt_told n (given.append w e) = next (buffer n w) _ (buffer_told n w) (λ p. next (checked_expr n true e) _ (expr_told n true e) (λ a. fine _))
  stmt_told n (given.take_last w b) = next (variable n w) _ (variable_told n w) (λ x. next (buffer n b) _ (buffer_told n b) (λ p. fine _))
  stmt_told n (given.clear w) = next (buffer n w) _ (buffer_told n w) (λ p. fine _)
  stmt_told n (given.call_alone w es) =
      next (checked_call n true w es (checked_args n true es)) _ (call_told n true w es (checked_args n true es) (args_told n true es)) (λ c. fine _)
  stmt_told n (given.if_then e a) =
      next (checked_expr n true e) _ (expr_told n true e) (λ test. next (checked_block n a) _ (block_told n a) (λ body. fine _))
  stmt_told n (given.if_else e a b) =
      next (checked_expr n true e) _ (expr_told n true e)
      (λ test. next (checked_block n a) _ (block_told n a) (λ body. next (checked_block n b) _ (block_told n b) (λ other. fine _)))
  stmt_told n (given.for_next w from to step a last) =
      next (checked_head n w from to step) _ (head_told n w from to step)
      (λ h. next (checked_block n a) _ (block_told n a) (λ body. next (closes_for n w last) _ (closed_told n w last) (λ u. fine _)))
  stmt_told n (given.while_do e a) =
      next (checked_expr n true e) _ (expr_told n true e) (λ test. next (checked_block n a) _ (block_told n a) (λ body. fine _))
  stmt_told n (given.run_procedure w es) = refused (Undeclared w.name w.place) (λ e. cc)

  block_told : (n : ScriptNames) (xs : Acts) → Told (checked_block n xs)
  block_told n no_acts = fine _
  block_told n (act_then x xs) = next (checked_stmt n x) _ (stmt_told n x) (λ s. next (checked_block n xs) _ (block_told n xs) (λ ss. fine _))

pub checks_told : (d : Description) (s : Source) → Told (checked_source d s)
checks_told d s = next (declare_all (names_before d) s.decls) _ (declare_all_told (names_before d) s.decls) (λ n. block_told n s.body)
