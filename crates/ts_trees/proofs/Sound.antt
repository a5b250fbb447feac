-- What the machine reads is derived, and spells the tokens that it read.
use Rattle.std.proofs.Common.{◌≡◌, ◌⊎◌, inl, inr, ℕ, ◌≤◌, Bool, true, false, List, [], ◌∷◌, ◌++◌, Option, Some, None, refl, sym, ◌∙◌, ap, subst, append_assoc, append-nil, arith}
use Rattle.ts_checked.specs.declared.bin_op.BinOp.{BinOp}
use Rattle.ts_checked.specs.declared.bin_op.BinOp.TheVariants as op
use Rattle.ts_trees.specs.declared.word.Word.{Word}
use Rattle.ts_trees.specs.declared.dialect.Dialect.{Dialect}
use Rattle.ts_trees.specs.declared.dialect.Dialect.TheVariants as dialect
use Rattle.ts_trees.specs.declared.script.Decl.{Decl}
use Rattle.ts_trees.specs.declared.script.DeclKind.{DeclKind}
use Rattle.ts_trees.specs.declared.token.TokenKind.{TokenKind}
use Rattle.ts_trees.specs.declared.token.TokenKind.TheVariants as kind
use Rattle.ts_trees.specs.Tree.{Tree, number, variable, item, message_item, call, negative, inverse, two, paren, Trees, no_trees, tree_then, Act, set, set_item, append, take_last, call_alone, if_then, if_else, for_next, while_do, run_procedure, Acts, no_acts, act_then, Procedure}
use Rattle.ts_trees.specs.Spelling.{sign, name, spelled, args_spelled, more_spelled, minus_spelled, step_spelled, act_spelled, acts_spelled, decl_keyword, decl_start, decl_end, decls_gap, decls_spelled, params_spelled, other_params_spelled, procedure_spelled, procedures_spelled}
use Rattle.ts_trees.specs.Derived.{levels_of, level, Derived, ArgsDerived, ActDerived, ActsDerived, RunDerived, NamesFollow, DeclsDerived, ProceduresDerived}
use Rattle.ts_trees.proofs.Levels.{at_and, at_not, at_compare, at_sum, at_product, at_sign, IsPart}
use Rattle.ts_trees.specs.Machine.{Frame, top, main, proc_part, then_part, else_part, for_part, while_part, Operand, in_negative, first_product, in_product, Product, first_sum, in_sum, Sum, first_compare, in_compare, Inverse, in_inverse, first_and, in_and, Conjunction, first_or, in_or, Whole, in_paren, in_item, in_message, in_args, in_set, in_index, in_set_item, in_append, in_call, in_if, in_from, in_to, in_while, in_do, State, decls, decl_name, decl_more, procedures, proc_word, proc_named, proc_opened, param_read, param_due, proc_ended, want, want_inverse, named, opened, sized, size_opened, size_named, message, have_product, have_sum, have_inverse, have_and, have, block, stmt_named, set_to, set_named, set_boxed, set_taken, boxed, append_to, item_indexed, call_opened, cleared, clear_opened, clear_named, closed, for_word, for_named, stepped, step_signed, nexted, if_ended, while_ended, do_word, do_named, do_opened, with_tree, with_act, word, due, inverse_due, declared, give, dialect_of, step, step_frame, step_do, step_block, step_whole, step_have, give_and, step_and, give_inverse, step_compare, give_sum, step_sum, give_product, step_product, step_given, step_want, step_want_inverse, step_named, step_opened, step_size, step_eq, step_open, step_close, step_open_box, step_semi, step_if, step_while, step_proc, step_name, step_stmt, step_set, step_set_named, step_set_boxed, step_boxed, step_call, step_run, step_signed_by, step_stepped, step_procedures, step_declared, step_proc_opened, step_param_read, step_decls, step_decl_more}
use Rattle.ts_trees.proofs.Past.{past_procedures, past_frame, params_open, past_block, args_open, past_operand, past_product, past_sum, past_inverse, past_and, past_whole, names_open, decls_open, past_name, without_last, drops, past, fine_procedures, fine_frame, fine_block, fine_operand, fine_product, fine_sum, fine_inverse, fine_and, fine_whole, Last, fine_name, Lacks, Fine}

-- the state is one that the machine comes to, by these tokens
pub record Kept (lang : Dialect) (ms : List TokenKind) (q : State) : Type 0 where
  pub fine : Fine lang q
  pub past : past q ≡ ms

abbrev pub Keeps : Dialect → List TokenKind → Option State → Type 0
Keeps lang ms None = Unit {0}
Keeps lang ms (Some q) = Kept lang ms q

-- ---- one more argument, statement and name

more_snoc : (es : Trees) (e : Tree) → more_spelled (with_tree es e) ≡ kind.Comma ∷ args_open es ++ spelled e
more_snoc no_trees e = ap (λ z. kind.Comma ∷ z) (append-nil (spelled e))
more_snoc (tree_then d es) e = ap (λ z. (kind.Comma ∷ spelled d) ++ z) (more_snoc es e) ∙ ap (λ z. kind.Comma ∷ z) (sym (append_assoc (spelled d) (kind.Comma ∷ args_open es) (spelled e)))

args_snoc : (es : Trees) (e : Tree) → args_spelled (with_tree es e) ≡ args_open es ++ spelled e
args_snoc no_trees e = append-nil (spelled e)
args_snoc (tree_then d es) e = ap (λ z. spelled d ++ z) (more_snoc es e) ∙ sym (append_assoc (spelled d) (kind.Comma ∷ args_open es) (spelled e))

open_snoc : (es : Trees) (e : Tree) → args_open (with_tree es e) ≡ args_open es ++ (spelled e ++ kind.Comma ∷ [])
open_snoc no_trees e = refl
open_snoc (tree_then d es) e = ap (λ z. spelled d ++ kind.Comma ∷ z) (open_snoc es e) ∙ sym (append_assoc (spelled d) (kind.Comma ∷ args_open es) (spelled e ++ kind.Comma ∷ []))

args_derived_snoc : (es : Trees) (e : Tree) → ArgsDerived es → Derived e → ArgsDerived (with_tree es e)
args_derived_snoc no_trees e d c = (c, tt)
args_derived_snoc (tree_then b es) e d c = (d.0, args_derived_snoc es e d.1 c)

acts_snoc : (a : Acts) (s : Act) → acts_spelled (with_act a s) ≡ acts_spelled a ++ act_spelled s
acts_snoc no_acts s = append-nil (act_spelled s)
acts_snoc (act_then b a) s = ap (λ z. act_spelled b ++ z) (acts_snoc a s) ∙ sym (append_assoc (act_spelled b) (acts_spelled a) (act_spelled s))

module _ (lang : Dialect) where
  again : {ms ns : List TokenKind} (o : Option State) → Keeps lang ms o → ms ≡ ns → Keeps lang ns o
  again o k e = subst (λ z. Keeps lang z o) e k

  acts_derived_snoc : (a : Acts) (s : Act) → ActsDerived lang a → ActDerived lang s → ActsDerived lang (with_act a s)
  acts_derived_snoc no_acts s d c = (c, tt)
  acts_derived_snoc (act_then b a) s d c = (d.0, acts_derived_snoc a s d.1 c)

  -- a statement that the last token ends
  stated : (a : Acts) (f : Frame) (s : Act) (ms : List TokenKind) → fine_block lang a f → ActDerived lang s → past_block a f ++ act_spelled s ≡ ms → Kept lang ms (block (with_act a s) f)
  stated a f s ms h d e = record {
    fine = (acts_derived_snoc a s h.0 d, h.1);
    past = ap (λ z. past_frame f ++ z) (acts_snoc a s) ∙ sym (append_assoc (past_frame f) (acts_spelled a) (act_spelled s)) ∙ e;
  }

  -- ---- operators

  -- an operator of these levels, between operands that are tight enough
  between : (o : BinOp) (n m k : ℕ) (l e : Tree) → levels_of o ≡ (n, m, k) → IsPart m l → Derived l → IsPart k e → Derived e → IsPart n (two o l e) × Derived (two o l e)
  between o n m k l e are a b c d =
      subst (λ (by : ℕ × ℕ × ℕ). (n ≤ by.0) × ((by.1 ≤ level l) × Derived l × (by.2 ≤ level e) × Derived e)) (sym are) (omega arith, (a, b, c, d))

  -- an operand that was read
  given : (k : Operand) (e : Tree) (ms : List TokenKind) → fine_operand lang k → IsPart at_sign e → Derived e → past_operand k ++ spelled e ≡ ms → Kept lang ms (give k e)
  given (in_negative k) e ms f h d p = given k (negative e) ms f (omega arith) (h, d) (sym (append_assoc (past_operand k) (kind.Minus ∷ []) (spelled e)) ∙ p)
  given (first_product k) e ms f h d p = record { fine = (omega arith, d, f); past = p }
  given (in_product o l k) e ms f h d p =
      let m = between o at_product at_product at_sign l e f.0 f.1 f.2 h d in
      record { fine = (m.0, m.1, f.3); past = simp append_assoc at p }

  -- ---- each turn, from the loosest level to the tightest

  -- the tokens of an `if` with its `else`, regrouped
  else_past : (p e c a : List TokenKind) → p ++ (kind.If ∷ e ++ (kind.Then ∷ c ++ (kind.Else ∷ a ++ kind.End ∷ []))) ≡ ((p ++ (kind.If ∷ e ++ (kind.Then ∷ c ++ kind.Else ∷ []))) ++ a) ++ kind.End ∷ []
  else_past p e c a =
      let y : List TokenKind = a ++ kind.End ∷ [] in
      let x : List TokenKind = kind.If ∷ e ++ (kind.Then ∷ c ++ kind.Else ∷ []) in
      sym (append_assoc (p ++ x) a (kind.End ∷ []) ∙ append_assoc p x y
      ∙ ap (λ z. p ++ (kind.If ∷ z)) (append_assoc e (kind.Then ∷ (c ++ kind.Else ∷ [])) y ∙ ap (λ z. e ++ (kind.Then ∷ z)) (append_assoc c (kind.Else ∷ []) y)))

  -- the tokens of a `for`, regrouped
  for_past : (p : List TokenKind) (n : TokenKind) (s t c a : List TokenKind) → p ++ (kind.For ∷ n ∷ kind.Eq ∷ s ++ (kind.To ∷ t ++ (c ++ (a ++ kind.Next ∷ [])))) ≡ ((p ++ (kind.For ∷ n ∷ kind.Eq ∷ s ++ (kind.To ∷ t ++ c))) ++ a) ++ kind.Next ∷ []
  for_past p n s t c a =
      let y : List TokenKind = a ++ kind.Next ∷ [] in
      let x : List TokenKind = kind.For ∷ n ∷ kind.Eq ∷ s ++ (kind.To ∷ t ++ c) in
      sym (append_assoc (p ++ x) a (kind.Next ∷ []) ∙ append_assoc p x y
      ∙ ap (λ z. p ++ (kind.For ∷ n ∷ kind.Eq ∷ z)) (append_assoc s (kind.To ∷ (t ++ c)) y ∙ ap (λ z. s ++ (kind.To ∷ z)) (append_assoc t c y)))

  -- the tokens of a procedure, regrouped
  proc_past : (p x a : List TokenKind) (n : TokenKind) →
      p ++ (kind.Proc ∷ n ∷ kind.Open ∷ x ++ (kind.Close ∷ a ++ kind.End ∷ kind.Proc ∷ [])) ≡ (p ++ (kind.Proc ∷ n ∷ kind.Open ∷ x ++ (kind.Close ∷ a ++ kind.End ∷ []))) ++ kind.Proc ∷ []
  proc_past p x a n =
      sym (append_assoc p (kind.Proc ∷ n ∷ kind.Open ∷ x ++ (kind.Close ∷ a ++ kind.End ∷ [])) (kind.Proc ∷ [])
      ∙ ap (λ z. p ++ (kind.Proc ∷ n ∷ kind.Open ∷ z)) (append_assoc x (kind.Close ∷ (a ++ kind.End ∷ [])) (kind.Proc ∷ []) ∙ ap (λ z. x ++ (kind.Close ∷ z)) (append_assoc a (kind.End ∷ []) (kind.Proc ∷ []))))

  moves_frame : (a : Acts) (f : Frame) (m : TokenKind) → fine_block lang a f → Keeps lang (past_block a f ++ m ∷ []) (step_frame a f m)
  moves_frame a (then_part e b f) kind.Else h = record { fine = (tt, (h.1.0, h.0, h.1.1, h.1.2)); past = simp (append_assoc, append-nil) }
  moves_frame a (then_part e b f) kind.End h =
      let i : act_spelled (if_then e a) ≡ (kind.If ∷ spelled e ++ (kind.Then ∷ acts_spelled a ++ kind.End ∷ [])) ++ kind.If ∷ [] = simp append_assoc in
      let d = drops (kind.If ∷ spelled e ++ (kind.Then ∷ acts_spelled a ++ kind.End ∷ [])) kind.If i in
      record { fine = ((h.1.0, h.0), i ∙ ap (λ z. z ++ kind.If ∷ []) (sym d), (h.1.1, h.1.2)); past = ap (λ z. past_block b f ++ z) d ∙ simp append_assoc }
  moves_frame a (else_part e c b f) kind.End h =
      let i : act_spelled (if_else e c a) ≡ (kind.If ∷ spelled e ++ (kind.Then ∷ acts_spelled c ++ (kind.Else ∷ acts_spelled a ++ kind.End ∷ []))) ++ kind.If ∷ [] = simp append_assoc in
      let d = drops (kind.If ∷ spelled e ++ (kind.Then ∷ acts_spelled c ++ (kind.Else ∷ acts_spelled a ++ kind.End ∷ []))) kind.If i in
      record { fine = ((h.1.0, h.1.1, h.0), i ∙ ap (λ z. z ++ kind.If ∷ []) (sym d), (h.1.2, h.1.3)); past = ap (λ z. past_block b f ++ z) d ∙ else_past (past_block b f) (spelled e) (acts_spelled c) (acts_spelled a) }
  moves_frame a (for_part w s t p b f) kind.Next h = record { fine = (h.1.0, h.1.1, h.0, (h.1.2, h.1.3)); past = for_past (past_block b f) (name w) (spelled s) (spelled t) (step_spelled p) (acts_spelled a) }
  moves_frame a (while_part e b f) kind.End h = record { fine = (h.1.0, h.0, (h.1.1, h.1.2)); past = simp append_assoc }
  moves_frame a (proc_part w ws ds ps) kind.End h = record { fine = (subst (λ z. ActsDerived z a) h.1.0 h.0, h.1); past = simp append_assoc }
  moves_frame a f m h = tt

  -- the dialect of a frame is that of its script
  speaks : (f : Frame) → fine_frame lang f → dialect_of f ≡ lang
  speaks (top ds) h = sym h.0
  speaks (main ds ps) h = sym h.0
  speaks (proc_part w ws ds ps) h = sym h.0
  speaks (then_part e b f) h = speaks f h.2
  speaks (else_part e c b f) h = speaks f h.3
  speaks (for_part w s t p b f) h = speaks f h.3
  speaks (while_part e b f) h = speaks f h.2

  moves_do : (a : Acts) (f : Frame) (e : Dialect) → e ≡ lang → fine_block lang a f → Keeps lang (past_block a f ++ kind.Do ∷ []) (step_do e a f)
  moves_do a f dialect.Plain i h = tt
  moves_do a f dialect.Procedures i h = record { fine = (sym i, h); past = refl }

  moves_block : (a : Acts) (f : Frame) (m : TokenKind) (p : ℕ) → fine_block lang a f → Keeps lang (past_block a f ++ m ∷ []) (step_block a f m p)
  moves_block a f (kind.Name n) p h = record { fine = h; past = refl }
  moves_block a f kind.Clear p h = record { fine = h; past = refl }
  moves_block a f kind.If p h = record { fine = h; past = refl }
  moves_block a f kind.For p h = record { fine = h; past = refl }
  moves_block a f kind.While p h = record { fine = h; past = refl }
  moves_block a f kind.Do p h = moves_do a f (dialect_of f) (speaks f h.1) h
  moves_block a f m p h = moves_frame a f m h

  -- a limit and a condition, before a block without statements
  to_past : (p : List TokenKind) (n : TokenKind) (s e : List TokenKind) → (p ++ (kind.For ∷ n ∷ kind.Eq ∷ s ++ (kind.To ∷ e ++ []))) ++ [] ≡ (p ++ (kind.For ∷ n ∷ kind.Eq ∷ s ++ kind.To ∷ [])) ++ e
  to_past p n s e =
      append-nil _ ∙ ap (λ z. p ++ (kind.For ∷ n ∷ kind.Eq ∷ s ++ (kind.To ∷ z))) (append-nil e)
      ∙ sym (append_assoc p (kind.For ∷ n ∷ kind.Eq ∷ s ++ kind.To ∷ []) e ∙ ap (λ z. p ++ (kind.For ∷ n ∷ kind.Eq ∷ z)) (append_assoc s (kind.To ∷ []) e))

  while_past : (p e : List TokenKind) → (p ++ (kind.While ∷ e)) ++ [] ≡ (p ++ kind.While ∷ []) ++ e
  while_past p e = append-nil _ ∙ sym (append_assoc p (kind.While ∷ []) e)

  moves_whole : (e : Tree) (k : Whole) (m : TokenKind) (p : ℕ) → Derived e → fine_whole lang k → Keeps lang ((past_whole k ++ spelled e) ++ m ∷ []) (step_whole e k m p)
  moves_whole e (in_paren k) kind.Close p d h = given k (paren e) _ h (omega arith) d (simp append_assoc)
  moves_whole e (in_item w k) kind.CloseBox p d h = given k (item w e) _ h (omega arith) d (simp append_assoc)
  moves_whole e (in_message k) kind.CloseBox p d h = given k (message_item e) _ h (omega arith) d (simp append_assoc)
  moves_whole e (in_args w es k) kind.Comma p d h = record { fine = (args_derived_snoc es e h.0 d, h.1); past = simp (open_snoc, append_assoc) }
  moves_whole e (in_args w es k) kind.Close p d h = given k (call w (with_tree es e)) _ h.1 (omega arith) (args_derived_snoc es e h.0 d) (simp (args_snoc, append_assoc))
  moves_whole e (in_set w a f) kind.Semi p d h = stated a f (set w e) _ h d (simp append_assoc)
  moves_whole e (in_index w a f) kind.CloseBox p d h = record { fine = (d, h); past = simp append_assoc }
  moves_whole e (in_set_item w i a f) kind.Semi p d h = stated a f (set_item w i e) _ h.1 (h.0, d) (simp append_assoc)
  moves_whole e (in_append w a f) kind.Semi p d h = stated a f (append w e) _ h d (simp append_assoc)
  moves_whole e (in_call w es a f) kind.Comma p d h = record { fine = (args_derived_snoc es e h.0 d, h.1); past = simp (open_snoc, append_assoc) }
  moves_whole e (in_call w es a f) kind.Close p d h =
      let i : act_spelled (call_alone w (with_tree es e)) ≡ (name w ∷ kind.Open ∷ args_spelled (with_tree es e) ++ kind.Close ∷ []) ++ kind.Semi ∷ [] = simp append_assoc in
      let c = drops (name w ∷ kind.Open ∷ args_spelled (with_tree es e) ++ kind.Close ∷ []) kind.Semi i in
      record { fine = (args_derived_snoc es e h.0 d, i ∙ ap (λ z. z ++ kind.Semi ∷ []) (sym c), h.1); past = ap (λ z. past_block a f ++ z) c ∙ simp (args_snoc, append_assoc) }
  moves_whole e (in_do w es a f) kind.Comma p d h = record { fine = (h.0, args_derived_snoc es e h.1 d, h.2); past = simp (open_snoc, append_assoc) }
  moves_whole e (in_do w es a f) kind.Close p d h =
      let i : act_spelled (run_procedure w (with_tree es e)) ≡ (kind.Do ∷ name w ∷ kind.Open ∷ args_spelled (with_tree es e) ++ kind.Close ∷ []) ++ kind.Semi ∷ [] = simp append_assoc in
      let c = drops (kind.Do ∷ name w ∷ kind.Open ∷ args_spelled (with_tree es e) ++ kind.Close ∷ []) kind.Semi i in
      record {
        fine = (subst (λ z. RunDerived z (with_tree es e)) (sym h.0) (args_derived_snoc es e h.1 d), i ∙ ap (λ z. z ++ kind.Semi ∷ []) (sym c), h.2);
        past = ap (λ z. past_block a f ++ z) c ∙ simp (args_snoc, append_assoc);
      }
  moves_whole e (in_if a f) kind.Then p d h = record { fine = (tt, (d, h.0, h.1)); past = simp (append_assoc, append-nil) }
  moves_whole e (in_from w a f) kind.To p d h = record { fine = (d, h); past = simp append_assoc }
  moves_whole e (in_to w s a f) kind.Step p d h = record { fine = (h.0, d, h.1); past = simp append_assoc }
  moves_whole e (in_to w s a f) m p d h =
      again (step_block no_acts (for_part w s e None a f) m p) (moves_block no_acts (for_part w s e None a f) m p (tt, (h.0, d, h.1.0, h.1.1))) (ap (λ z. z ++ m ∷ []) (to_past (past_block a f) (name w) (spelled s) (spelled e)))
  moves_whole e (in_while a f) m p d h =
      again (step_block no_acts (while_part e a f) m p) (moves_block no_acts (while_part e a f) m p (tt, (d, h.0, h.1))) (ap (λ z. z ++ m ∷ []) (while_past (past_block a f) (spelled e)))
  moves_whole e k m p d h = tt

  -- an operand, and the operator behind it
  chained : (p l e : List TokenKind) (k : TokenKind) → p ++ (l ++ k ∷ e) ≡ (p ++ (l ++ k ∷ [])) ++ e
  chained p l e k = ap (λ z. p ++ z) (sym (append_assoc l (k ∷ []) e)) ∙ sym (append_assoc p (l ++ k ∷ []) e)

  -- the same, before a token
  chained_to : (p l e : List TokenKind) (k m : TokenKind) → (p ++ (l ++ k ∷ e)) ++ m ∷ [] ≡ ((p ++ (l ++ k ∷ [])) ++ e) ++ m ∷ []
  chained_to p l e k m = ap (λ z. z ++ m ∷ []) (chained p l e k)

  moves_have : (e : Tree) (k : Whole) (m : TokenKind) (p : ℕ) → Derived e → fine_whole lang k → Keeps lang ((past_whole k ++ spelled e) ++ m ∷ []) (step_have e k m p)
  moves_have e k kind.Or p d h = record { fine = (d, h); past = sym (append_assoc (past_whole k) (spelled e) (kind.Or ∷ [])) }
  moves_have e k m p d h = moves_whole e k m p d h

  moves_give_and : (e : Tree) (k : Conjunction) (m : TokenKind) (p : ℕ) → IsPart at_and e → Derived e → fine_and lang k → Keeps lang ((past_and k ++ spelled e) ++ m ∷ []) (give_and e k m p)
  moves_give_and e (first_or k) m p i d h = moves_have e k m p d h
  moves_give_and e (in_or l k) m p i d h =
      again (step_have (two op.Or l e) k m p) (moves_have (two op.Or l e) k m p (omega arith, h.0, i, d) h.1) (chained_to (past_whole k) (spelled l) (spelled e) kind.Or m)

  moves_and : (e : Tree) (k : Conjunction) (m : TokenKind) (p : ℕ) → IsPart at_and e → Derived e → fine_and lang k → Keeps lang ((past_and k ++ spelled e) ++ m ∷ []) (step_and e k m p)
  moves_and e k kind.And p i d h = record { fine = (i, d, h); past = sym (append_assoc (past_and k) (spelled e) (kind.And ∷ [])) }
  moves_and e k m p i d h = moves_give_and e k m p i d h

  moves_inverse : (e : Tree) (k : Inverse) (m : TokenKind) (p : ℕ) → IsPart at_not e → Derived e → fine_inverse lang k → Keeps lang ((past_inverse k ++ spelled e) ++ m ∷ []) (give_inverse e k m p)
  moves_inverse e (in_inverse k) m p i d h =
      again (give_inverse (inverse e) k m p) (moves_inverse (inverse e) k m p (omega arith) (i, d) h) (ap (λ z. z ++ m ∷ []) (sym (append_assoc (past_inverse k) (kind.Not ∷ []) (spelled e))))
  moves_inverse e (first_and k) m p i d h = moves_and e k m p (omega arith) d h
  moves_inverse e (in_and l k) m p i d h =
      again (step_and (two op.And l e) k m p) (moves_and (two op.And l e) k m p (omega arith) (h.0, h.1, i, d) h.2) (chained_to (past_and k) (spelled l) (spelled e) kind.And m)

  -- the first comparison of a sum
  compare_kept : (o : BinOp) (e : Tree) (k : Inverse) → levels_of o ≡ (at_compare, at_sum, at_sum) → IsPart at_sum e → Derived e → fine_inverse lang k → Kept lang ((past_inverse k ++ spelled e) ++ sign o ∷ []) (want (first_product (first_sum (in_compare o e k))))
  compare_kept o e k c i d h = record { fine = (c, i, d, h); past = sym (append_assoc (past_inverse k) (spelled e) (sign o ∷ [])) }

  moves_compare : (e : Tree) (k : Inverse) (m : TokenKind) (p : ℕ) → IsPart at_sum e → Derived e → fine_inverse lang k → Keeps lang ((past_inverse k ++ spelled e) ++ m ∷ []) (step_compare e k m p)
  moves_compare e k kind.Eq p i d h = compare_kept op.Eq e k refl i d h
  moves_compare e k kind.Ne p i d h = compare_kept op.Ne e k refl i d h
  moves_compare e k kind.Lt p i d h = compare_kept op.Lt e k refl i d h
  moves_compare e k kind.Gt p i d h = compare_kept op.Gt e k refl i d h
  moves_compare e k kind.Le p i d h = compare_kept op.Le e k refl i d h
  moves_compare e k kind.Ge p i d h = compare_kept op.Ge e k refl i d h
  moves_compare e k m p i d h = moves_inverse e k m p (omega arith) d h

  moves_give_sum : (e : Tree) (k : Sum) (m : TokenKind) (p : ℕ) → IsPart at_sum e → Derived e → fine_sum lang k → Keeps lang ((past_sum k ++ spelled e) ++ m ∷ []) (give_sum e k m p)
  moves_give_sum e (first_compare k) m p i d h = moves_compare e k m p i d h
  moves_give_sum e (in_compare o l k) m p i d h =
      let c = between o at_compare at_sum at_sum l e h.0 h.1 h.2 i d in
      again (give_inverse (two o l e) k m p) (moves_inverse (two o l e) k m p (omega (arith, c.0)) c.1 h.3) (chained_to (past_inverse k) (spelled l) (spelled e) (sign o) m)

  moves_sum : (e : Tree) (k : Sum) (m : TokenKind) (p : ℕ) → IsPart at_sum e → Derived e → fine_sum lang k → Keeps lang ((past_sum k ++ spelled e) ++ m ∷ []) (step_sum e k m p)
  moves_sum e k kind.Plus p i d h = record { fine = (refl, i, d, h); past = sym (append_assoc (past_sum k) (spelled e) (kind.Plus ∷ [])) }
  moves_sum e k kind.Minus p i d h = record { fine = (refl, i, d, h); past = sym (append_assoc (past_sum k) (spelled e) (kind.Minus ∷ [])) }
  moves_sum e k m p i d h = moves_give_sum e k m p i d h

  moves_give_product : (e : Tree) (k : Product) (m : TokenKind) (p : ℕ) → IsPart at_product e → Derived e → fine_product lang k → Keeps lang ((past_product k ++ spelled e) ++ m ∷ []) (give_product e k m p)
  moves_give_product e (first_sum k) m p i d h = moves_sum e k m p (omega arith) d h
  moves_give_product e (in_sum o l k) m p i d h =
      let c = between o at_sum at_sum at_product l e h.0 h.1 h.2 i d in
      again (step_sum (two o l e) k m p) (moves_sum (two o l e) k m p c.0 c.1 h.3) (chained_to (past_sum k) (spelled l) (spelled e) (sign o) m)

  moves_product : (e : Tree) (k : Product) (m : TokenKind) (p : ℕ) → IsPart at_product e → Derived e → fine_product lang k → Keeps lang ((past_product k ++ spelled e) ++ m ∷ []) (step_product e k m p)
  moves_product e k kind.Star p i d h = record { fine = (refl, i, d, h); past = sym (append_assoc (past_product k) (spelled e) (kind.Star ∷ [])) }
  moves_product e k kind.Slash p i d h = record { fine = (refl, i, d, h); past = sym (append_assoc (past_product k) (spelled e) (kind.Slash ∷ [])) }
  moves_product e k kind.Percent p i d h = record { fine = (refl, i, d, h); past = sym (append_assoc (past_product k) (spelled e) (kind.Percent ∷ [])) }
  moves_product e k m p i d h = moves_give_product e k m p i d h

  moves_given : (k : Operand) (e : Tree) (m : TokenKind) (p : ℕ) → IsPart at_sign e → Derived e → fine_operand lang k → Keeps lang ((past_operand k ++ spelled e) ++ m ∷ []) (step_given k e m p)
  moves_given (in_negative k) e m p i d h =
      again (step_given k (negative e) m p) (moves_given k (negative e) m p (omega arith) (i, d) h) (ap (λ z. z ++ m ∷ []) (sym (append_assoc (past_operand k) (kind.Minus ∷ []) (spelled e))))
  moves_given (first_product k) e m p i d h = moves_product e k m p (omega arith) d h
  moves_given (in_product o l k) e m p i d h =
      let c = between o at_product at_product at_sign l e h.0 h.1 h.2 i d in
      again (step_product (two o l e) k m p) (moves_product (two o l e) k m p c.0 c.1 h.3) (chained_to (past_product k) (spelled l) (spelled e) (sign o) m)

  moves_want : (k : Operand) (m : TokenKind) (p : ℕ) → fine_operand lang k → Keeps lang (past_operand k ++ m ∷ []) (step_want k m p)
  moves_want k kind.Minus p h = record { fine = h; past = refl }
  moves_want k (kind.Num n) p h = given k (number n) _ h (omega arith) tt refl
  moves_want k (kind.Name n) p h = record { fine = h; past = refl }
  moves_want k kind.Size p h = record { fine = h; past = refl }
  moves_want k kind.Msg p h = record { fine = h; past = refl }
  moves_want k kind.Open p h = record { fine = h; past = refl }
  moves_want k m p h = tt

  moves_want_inverse : (k : Inverse) (m : TokenKind) (p : ℕ) → fine_inverse lang k → Keeps lang (past_inverse k ++ m ∷ []) (step_want_inverse k m p)
  moves_want_inverse k kind.Not p h = record { fine = h; past = refl }
  moves_want_inverse k m p h = moves_want (inverse_due k) m p h

  moves_named : (w : Word) (k : Operand) (m : TokenKind) (p : ℕ) → fine_operand lang k → Keeps lang ((past_operand k ++ name w ∷ []) ++ m ∷ []) (step_named w k m p)
  moves_named w k kind.Open p h = record { fine = h; past = sym (append_assoc (past_operand k) (name w ∷ []) (kind.Open ∷ [])) }
  moves_named w k kind.OpenBox p h = record { fine = h; past = sym (append_assoc (past_operand k) (name w ∷ []) (kind.OpenBox ∷ [])) }
  moves_named w k m p h = moves_given k (variable w) m p (omega arith) tt h

  -- behind an opening, where something else than the closing sign follows
  reopened : (p xs : List TokenKind) (m : TokenKind) → (p ++ xs) ++ m ∷ [] ≡ p ++ (xs ++ m ∷ [])
  reopened p xs m = append_assoc p xs (m ∷ [])

  moves_opened : (w : Word) (k : Operand) (m : TokenKind) (p : ℕ) → fine_operand lang k → Keeps lang ((past_operand k ++ (name w ∷ kind.Open ∷ [])) ++ m ∷ []) (step_opened w k m p)
  moves_opened w k kind.Close p h = given k (call w no_trees) _ h (omega arith) tt (sym (append_assoc (past_operand k) (name w ∷ kind.Open ∷ []) (kind.Close ∷ [])))
  moves_opened w k m p h = moves_want_inverse (due (in_args w no_trees k)) m p (tt, h)

  moves_size : (k : Operand) (m : TokenKind) (p : ℕ) → fine_operand lang k → Keeps lang ((past_operand k ++ (kind.Size ∷ kind.Open ∷ [])) ++ m ∷ []) (step_size k m p)
  moves_size k (kind.Name n) p h = record { fine = (omega arith, tt, refl, h); past = sym (append_assoc (past_operand k) (kind.Size ∷ kind.Open ∷ []) (kind.Name n ∷ [])) }
  moves_size k kind.Msg p h = record { fine = (omega arith, tt, refl, h); past = sym (append_assoc (past_operand k) (kind.Size ∷ kind.Open ∷ []) (kind.Msg ∷ [])) }
  moves_size k m p h = tt

  -- ---- one token of a kind

  on_eq : (ms : List TokenKind) (m : TokenKind) (q : State) → (m ≡ kind.Eq → Kept lang (ms ++ kind.Eq ∷ []) q) → Keeps lang (ms ++ m ∷ []) (step_eq m q)
  on_eq ms kind.Eq q h = h refl
  on_eq ms m q h = tt

  on_open : (ms : List TokenKind) (m : TokenKind) (q : State) → (m ≡ kind.Open → Kept lang (ms ++ kind.Open ∷ []) q) → Keeps lang (ms ++ m ∷ []) (step_open m q)
  on_open ms kind.Open q h = h refl
  on_open ms m q h = tt

  on_close : (ms : List TokenKind) (m : TokenKind) (q : State) → (m ≡ kind.Close → Kept lang (ms ++ kind.Close ∷ []) q) → Keeps lang (ms ++ m ∷ []) (step_close m q)
  on_close ms kind.Close q h = h refl
  on_close ms m q h = tt

  on_open_box : (ms : List TokenKind) (m : TokenKind) (q : State) → (m ≡ kind.OpenBox → Kept lang (ms ++ kind.OpenBox ∷ []) q) → Keeps lang (ms ++ m ∷ []) (step_open_box m q)
  on_open_box ms kind.OpenBox q h = h refl
  on_open_box ms m q h = tt

  on_semi : (ms : List TokenKind) (m : TokenKind) (q : State) → (m ≡ kind.Semi → Kept lang (ms ++ kind.Semi ∷ []) q) → Keeps lang (ms ++ m ∷ []) (step_semi m q)
  on_semi ms kind.Semi q h = h refl
  on_semi ms m q h = tt

  on_if : (ms : List TokenKind) (m : TokenKind) (q : State) → (m ≡ kind.If → Kept lang (ms ++ kind.If ∷ []) q) → Keeps lang (ms ++ m ∷ []) (step_if m q)
  on_if ms kind.If q h = h refl
  on_if ms m q h = tt

  on_while : (ms : List TokenKind) (m : TokenKind) (q : State) → (m ≡ kind.While → Kept lang (ms ++ kind.While ∷ []) q) → Keeps lang (ms ++ m ∷ []) (step_while m q)
  on_while ms kind.While q h = h refl
  on_while ms m q h = tt

  on_proc : (ms : List TokenKind) (m : TokenKind) (q : State) → (m ≡ kind.Proc → Kept lang (ms ++ kind.Proc ∷ []) q) → Keeps lang (ms ++ m ∷ []) (step_proc m q)
  on_proc ms kind.Proc q h = h refl
  on_proc ms m q h = tt

  on_name : (ms : List TokenKind) (m : TokenKind) (p : ℕ) (q : Word → State) → ((w : Word) → Kept lang (ms ++ name w ∷ []) (q w)) → Keeps lang (ms ++ m ∷ []) (step_name m p q)
  on_name ms (kind.Name n) p q h = h (word n p)
  on_name ms m p q h = tt

  -- ---- declarations

  names_closed : (ds : List Decl) → decls_gap ds ++ decls_spelled ds ≡ names_open ds ++ kind.Semi ∷ []
  names_closed [] = refl
  names_closed (d ∷ ds) =
      ap (λ z. decl_end d.first ++ (decl_start d.first d.kind ∷ name d.word ∷ z)) (names_closed ds)
      ∙ sym (append_assoc (decl_end d.first) (decl_start d.first d.kind ∷ name d.word ∷ names_open ds) (kind.Semi ∷ []))

  names_snoc : (ds : List Decl) (d : Decl) → names_open (ds ++ d ∷ []) ≡ names_open ds ++ (decl_end d.first ++ (decl_start d.first d.kind ∷ name d.word ∷ []))
  names_snoc [] d = refl
  names_snoc (e ∷ ds) d =
      ap (λ z. decl_end e.first ++ (decl_start e.first e.kind ∷ name e.word ∷ z)) (names_snoc ds d)
      ∙ sym (append_assoc (decl_end e.first) (decl_start e.first e.kind ∷ name e.word ∷ names_open ds) (decl_end d.first ++ (decl_start d.first d.kind ∷ name d.word ∷ [])))

  last_kind : DeclKind → List Decl → DeclKind
  last_kind k [] = k
  last_kind k (d ∷ ds) = last_kind d.kind ds

  last_is : (k : DeclKind) (d : Decl) (ds : List Decl) → Last k (d ∷ ds) → last_kind d.kind ds ≡ k
  unfolding last_kind
  last_is k d [] h = h
  last_is k d (e ∷ ds) h = last_is k e ds h

  follow_snoc : (k : DeclKind) (ds : List Decl) (d : Decl) → NamesFollow k ds → (d.first ≡ true) ⊎ (d.kind ≡ last_kind k ds) → NamesFollow k (ds ++ d ∷ [])
  unfolding last_kind
  follow_snoc k [] d h c = (c, tt)
  follow_snoc k (e ∷ ds) d h c = (h.0, follow_snoc e.kind ds d h.1 c)

  last_snoc : (k : DeclKind) (ds : List Decl) (d : Decl) → d.kind ≡ k → Last k (ds ++ d ∷ [])
  last_snoc k [] d h = h
  last_snoc k (e ∷ []) d h = h
  last_snoc k (e ∷ f ∷ ds) d h = last_snoc k (f ∷ ds) d h

  -- a name that is the first of a declaration, and one behind a comma
  first_name : (e : Dialect) → lang ≡ e → (k : DeclKind) (ds : List Decl) (w : Word) → DeclsDerived ds → Kept lang (past_name k true ds ++ name w ∷ []) (decl_more e k (ds ++ declared k true w ∷ []))
  first_name l i k [] w h = record { fine = (i, (refl, tt), refl); past = refl }
  first_name l i k (e ∷ ds) w h = record {
    fine = (i, (h.0, follow_snoc e.kind ds (declared k true w) h.1 (inl refl)), last_snoc k (e ∷ ds) (declared k true w) refl);
    past = ap (λ z. decl_start e.first e.kind ∷ name e.word ∷ z)
        (names_snoc ds (declared k true w)
        ∙ sym (ap (λ z. (z ++ decl_keyword k ∷ []) ++ name w ∷ []) (names_closed ds)
        ∙ ap (λ z. z ++ name w ∷ []) (append_assoc (names_open ds) (kind.Semi ∷ []) (decl_keyword k ∷ []))
        ∙ append_assoc (names_open ds) (kind.Semi ∷ decl_keyword k ∷ []) (name w ∷ [])));
  }

  next_name : (e : Dialect) → lang ≡ e → (k : DeclKind) (ds : List Decl) (w : Word) → DeclsDerived ds → Last k ds → Kept lang (past_name k false ds ++ name w ∷ []) (decl_more e k (ds ++ declared k false w ∷ []))
  next_name q i k [] w h l = absurd l
  next_name q i k (e ∷ ds) w h l = record {
    fine = (i, (h.0, follow_snoc e.kind ds (declared k false w) h.1 (inr (sym (last_is k e ds l)))), last_snoc k (e ∷ ds) (declared k false w) refl);
    past = ap (λ z. decl_start e.first e.kind ∷ name e.word ∷ z)
        (names_snoc ds (declared k false w) ∙ sym (append_assoc (names_open ds) (kind.Comma ∷ []) (name w ∷ [])));
  }

  moves_name : (e : Dialect) → lang ≡ e → (k : DeclKind) (b : Bool) (ds : List Decl) (w : Word) → fine_name k b ds → Kept lang (past_name k b ds ++ name w ∷ []) (decl_more e k (ds ++ declared k b w ∷ []))
  moves_name e i k true ds w h = first_name e i k ds w h
  moves_name e i k false ds w h = next_name e i k ds w h.0 h.1

  all_named : (k : DeclKind) (ds : List Decl) → Last k ds → decls_spelled ds ≡ decls_open ds ++ kind.Semi ∷ []
  all_named k [] l = absurd l
  all_named k (d ∷ ds) l = ap (λ z. decl_start d.first d.kind ∷ name d.word ∷ z) (names_closed ds)

  moves_more : (e : Dialect) → lang ≡ e → (k : DeclKind) (ds : List Decl) (m : TokenKind) → DeclsDerived ds → Last k ds → Keeps lang (decls_open ds ++ m ∷ []) (step_decl_more e k ds m)
  moves_more e i k ds kind.Comma h l = record { fine = (i, (h, l)); past = refl }
  moves_more e i k ds kind.Semi h l = record { fine = (i, h); past = all_named k ds l }
  moves_more e i k ds m h l = tt

  -- ---- procedures

  params_open_snoc : (ws : List Word) (v : Word) → params_open (ws ++ v ∷ []) ≡ params_open ws ++ (name v ∷ kind.Comma ∷ [])
  params_open_snoc [] v = refl
  params_open_snoc (w ∷ ws) v = ap (λ z. name w ∷ kind.Comma ∷ z) (params_open_snoc ws v)

  other_params_snoc : (ws : List Word) (v : Word) → other_params_spelled (ws ++ v ∷ []) ≡ kind.Comma ∷ params_open ws ++ name v ∷ []
  other_params_snoc [] v = refl
  other_params_snoc (w ∷ ws) v = ap (λ z. kind.Comma ∷ name w ∷ z) (other_params_snoc ws v)

  params_snoc : (ws : List Word) (v : Word) → params_spelled (ws ++ v ∷ []) ≡ params_open ws ++ name v ∷ []
  params_snoc [] v = refl
  params_snoc (w ∷ ws) v = ap (λ z. name w ∷ z) (other_params_snoc ws v)

  procedures_snoc : (ps : List Procedure) (q : Procedure) → procedures_spelled (ps ++ q ∷ []) ≡ procedures_spelled ps ++ procedure_spelled q
  procedures_snoc [] q = append-nil (procedure_spelled q)
  procedures_snoc (p ∷ ps) q = ap (λ z. procedure_spelled p ++ z) (procedures_snoc ps q) ∙ sym (append_assoc (procedure_spelled p) (procedures_spelled ps) (procedure_spelled q))

  procedures_derived_snoc : (ps : List Procedure) (q : Procedure) → ProceduresDerived ps → ActsDerived dialect.Procedures q.body → ProceduresDerived (ps ++ q ∷ [])
  procedures_derived_snoc [] q h d = (d, tt)
  procedures_derived_snoc (p ∷ ps) q h d = (h.0, procedures_derived_snoc ps q h.1 d)

  -- a whole procedure
  proc_kept : (q : Procedure) (ds : List Decl) (ps : List Procedure) → ActsDerived dialect.Procedures q.body → fine_procedures lang ds ps →
      Kept lang ((past_procedures ds ps ++ (kind.Proc ∷ name q.name ∷ kind.Open ∷ params_spelled q.params ++ (kind.Close ∷ acts_spelled q.body ++ kind.End ∷ []))) ++ kind.Proc ∷ []) (procedures ds (ps ++ q ∷ []))
  proc_kept q ds ps d h = record {
    fine = (h.0, h.1, procedures_derived_snoc ps q h.2 d);
    past = ap (λ z. decls_spelled ds ++ z) (procedures_snoc ps q) ∙ sym (append_assoc (decls_spelled ds) (procedures_spelled ps) (procedure_spelled q))
        ∙ proc_past (past_procedures ds ps) (params_spelled q.params) (acts_spelled q.body) (name q.name);
  }

  moves_procedures : (ds : List Decl) (ps : List Procedure) (m : TokenKind) (p : ℕ) → fine_procedures lang ds ps → Keeps lang (past_procedures ds ps ++ m ∷ []) (step_procedures ds ps m p)
  moves_procedures ds ps kind.Proc p h = record { fine = h; past = refl }
  moves_procedures ds ps m p h = again (step_block no_acts (main ds ps) m p) (moves_block no_acts (main ds ps) m p (tt, h)) (ap (λ z. z ++ m ∷ []) (append-nil (past_procedures ds ps)))

  moves_proc_opened : (w : Word) (ds : List Decl) (ps : List Procedure) (m : TokenKind) (p : ℕ) → fine_procedures lang ds ps →
      Keeps lang ((past_procedures ds ps ++ (kind.Proc ∷ name w ∷ kind.Open ∷ [])) ++ m ∷ []) (step_proc_opened w ds ps m p)
  moves_proc_opened w ds ps (kind.Name n) p h = record { fine = h; past = sym (append_assoc (past_procedures ds ps) (kind.Proc ∷ name w ∷ kind.Open ∷ []) (kind.Name n ∷ [])) }
  moves_proc_opened w ds ps kind.Close p h = record { fine = (tt, h); past = append-nil _ ∙ sym (append_assoc (past_procedures ds ps) (kind.Proc ∷ name w ∷ kind.Open ∷ []) (kind.Close ∷ [])) }
  moves_proc_opened w ds ps m p h = tt

  moves_param_read : (w : Word) (ws : List Word) (v : Word) (ds : List Decl) (ps : List Procedure) (m : TokenKind) → fine_procedures lang ds ps →
      Keeps lang ((past_procedures ds ps ++ (kind.Proc ∷ name w ∷ kind.Open ∷ params_open ws ++ name v ∷ [])) ++ m ∷ []) (step_param_read w ws v ds ps m)
  moves_param_read w ws v ds ps kind.Comma h = record { fine = h; past = simp (params_open_snoc, append_assoc) }
  moves_param_read w ws v ds ps kind.Close h = record { fine = (tt, h); past = simp (params_snoc, append_assoc, append-nil) }
  moves_param_read w ws v ds ps m h = tt

  -- ---- declarations, before what a dialect has behind them

  moves_declared : (e : Dialect) (ds : List Decl) (m : TokenKind) (p : ℕ) → lang ≡ e → DeclsDerived ds → Keeps lang (decls_spelled ds ++ m ∷ []) (step_declared e ds m p)
  moves_declared dialect.Plain ds m p i h = again (step_block no_acts (top ds) m p) (moves_block no_acts (top ds) m p (tt, (i, h))) (ap (λ z. z ++ m ∷ []) (append-nil (decls_spelled ds)))
  moves_declared dialect.Procedures ds m p i h = again (step_procedures ds [] m p) (moves_procedures ds [] m p (i, h, tt)) (ap (λ z. z ++ m ∷ []) (append-nil (decls_spelled ds)))

  moves_decls : (e : Dialect) (ds : List Decl) (m : TokenKind) (p : ℕ) → lang ≡ e → DeclsDerived ds → Keeps lang (decls_spelled ds ++ m ∷ []) (step_decls e ds m p)
  moves_decls e ds kind.Shared p i h = record { fine = (i, h); past = refl }
  moves_decls e ds kind.Private p i h = record { fine = (i, h); past = refl }
  moves_decls e ds kind.Buffer p i h = record { fine = (i, h); past = refl }
  moves_decls e ds m p i h = moves_declared e ds m p i h

  -- ---- statements

  moves_stmt : (w : Word) (a : Acts) (f : Frame) (m : TokenKind) → fine_block lang a f → Keeps lang ((past_block a f ++ name w ∷ []) ++ m ∷ []) (step_stmt w a f m)
  moves_stmt w a f kind.Eq h = record { fine = h; past = sym (append_assoc (past_block a f) (name w ∷ []) (kind.Eq ∷ [])) }
  moves_stmt w a f kind.OpenBox h = record { fine = h; past = sym (append_assoc (past_block a f) (name w ∷ []) (kind.OpenBox ∷ [])) }
  moves_stmt w a f kind.Open h = record { fine = h; past = sym (append_assoc (past_block a f) (name w ∷ []) (kind.Open ∷ [])) }
  moves_stmt w a f m h = tt

  moves_set : (w : Word) (a : Acts) (f : Frame) (m : TokenKind) (p : ℕ) → fine_block lang a f → Keeps lang ((past_block a f ++ (name w ∷ kind.Eq ∷ [])) ++ m ∷ []) (step_set w a f m p)
  moves_set w a f (kind.Name n) p h = record { fine = h; past = sym (append_assoc (past_block a f) (name w ∷ kind.Eq ∷ []) (kind.Name n ∷ [])) }
  moves_set w a f m p h = moves_want_inverse (due (in_set w a f)) m p h

  moves_set_named : (w v : Word) (a : Acts) (f : Frame) (m : TokenKind) (p : ℕ) → fine_block lang a f → Keeps lang ((past_block a f ++ (name w ∷ kind.Eq ∷ name v ∷ [])) ++ m ∷ []) (step_set_named w v a f m p)
  moves_set_named w v a f kind.OpenBox p h = record { fine = h; past = sym (append_assoc (past_block a f) (name w ∷ kind.Eq ∷ name v ∷ []) (kind.OpenBox ∷ [])) }
  moves_set_named w v a f m p h =
      again (step_named v (inverse_due (due (in_set w a f))) m p) (moves_named v (inverse_due (due (in_set w a f))) m p h)
      (ap (λ z. z ++ m ∷ []) (append_assoc (past_block a f) (name w ∷ kind.Eq ∷ []) (name v ∷ [])))

  moves_set_boxed : (w v : Word) (a : Acts) (f : Frame) (m : TokenKind) (p : ℕ) → fine_block lang a f → Keeps lang ((past_block a f ++ (name w ∷ kind.Eq ∷ name v ∷ kind.OpenBox ∷ [])) ++ m ∷ []) (step_set_boxed w v a f m p)
  moves_set_boxed w v a f kind.CloseBox p h = record { fine = h; past = sym (append_assoc (past_block a f) (name w ∷ kind.Eq ∷ name v ∷ kind.OpenBox ∷ []) (kind.CloseBox ∷ [])) }
  moves_set_boxed w v a f m p h =
      again (step_want_inverse (due (in_item v (inverse_due (due (in_set w a f))))) m p) (moves_want_inverse (due (in_item v (inverse_due (due (in_set w a f))))) m p h)
      (ap (λ z. z ++ m ∷ []) (append_assoc (past_block a f) (name w ∷ kind.Eq ∷ []) (name v ∷ kind.OpenBox ∷ [])))

  moves_boxed : (w : Word) (a : Acts) (f : Frame) (m : TokenKind) (p : ℕ) → fine_block lang a f → Keeps lang ((past_block a f ++ (name w ∷ kind.OpenBox ∷ [])) ++ m ∷ []) (step_boxed w a f m p)
  moves_boxed w a f kind.CloseBox p h = record { fine = h; past = sym (append_assoc (past_block a f) (name w ∷ kind.OpenBox ∷ []) (kind.CloseBox ∷ [])) }
  moves_boxed w a f m p h = moves_want_inverse (due (in_index w a f)) m p h

  moves_call : (w : Word) (a : Acts) (f : Frame) (m : TokenKind) (p : ℕ) → fine_block lang a f → Keeps lang ((past_block a f ++ (name w ∷ kind.Open ∷ [])) ++ m ∷ []) (step_call w a f m p)
  moves_call w a f kind.Close p h = record { fine = (tt, refl, h); past = sym (append_assoc (past_block a f) (name w ∷ kind.Open ∷ []) (kind.Close ∷ [])) }
  moves_call w a f m p h = moves_want_inverse (due (in_call w no_trees a f)) m p (tt, h)

  moves_run : (w : Word) (a : Acts) (f : Frame) (m : TokenKind) (p : ℕ) → lang ≡ dialect.Procedures → fine_block lang a f →
      Keeps lang ((past_block a f ++ (kind.Do ∷ name w ∷ kind.Open ∷ [])) ++ m ∷ []) (step_run w a f m p)
  moves_run w a f kind.Close p i h = record {
    fine = (subst (λ z. RunDerived z no_trees) (sym i) tt, refl, h);
    past = sym (append_assoc (past_block a f) (kind.Do ∷ name w ∷ kind.Open ∷ []) (kind.Close ∷ []));
  }
  moves_run w a f m p i h = moves_want_inverse (due (in_do w no_trees a f)) m p (i, tt, h)

  -- the literal of a step, behind its sign
  size_past : (p : List TokenKind) (n : TokenKind) (s t g : List TokenKind) (c : TokenKind) →
      (p ++ (kind.For ∷ n ∷ kind.Eq ∷ s ++ (kind.To ∷ t ++ (kind.Step ∷ g ++ c ∷ [])))) ++ [] ≡ (p ++ (kind.For ∷ n ∷ kind.Eq ∷ s ++ (kind.To ∷ t ++ kind.Step ∷ g))) ++ c ∷ []
  size_past p n s t g c =
      append-nil _ ∙ sym (append_assoc p (kind.For ∷ n ∷ kind.Eq ∷ s ++ (kind.To ∷ t ++ kind.Step ∷ g)) (c ∷ [])
      ∙ ap (λ z. p ++ (kind.For ∷ n ∷ kind.Eq ∷ z)) (append_assoc s (kind.To ∷ (t ++ kind.Step ∷ g)) (c ∷ []) ∙ ap (λ z. s ++ (kind.To ∷ z)) (append_assoc t (kind.Step ∷ g) (c ∷ []))))

  moves_size_by : (b : Bool) (w : Word) (s t : Tree) (a : Acts) (f : Frame) (m : TokenKind) (p : ℕ) → Derived s → Derived t → fine_block lang a f →
      Keeps lang ((past_block a f ++ (kind.For ∷ name w ∷ kind.Eq ∷ spelled s ++ (kind.To ∷ spelled t ++ kind.Step ∷ minus_spelled b))) ++ m ∷ []) (step_signed_by b w s t a f m p)
  moves_size_by b w s t a f (kind.Num n) p d e h = record { fine = (tt, (d, e, h.0, h.1)); past = size_past (past_block a f) (name w) (spelled s) (spelled t) (minus_spelled b) (kind.Num n) }
  moves_size_by b w s t a f m p d e h = tt

  minus_past : (p : List TokenKind) (n : TokenKind) (s t : List TokenKind) →
      p ++ (kind.For ∷ n ∷ kind.Eq ∷ s ++ (kind.To ∷ t ++ kind.Step ∷ kind.Minus ∷ [])) ≡ (p ++ (kind.For ∷ n ∷ kind.Eq ∷ s ++ (kind.To ∷ t ++ kind.Step ∷ []))) ++ kind.Minus ∷ []
  minus_past p n s t = sym (append-nil _) ∙ size_past p n s t [] kind.Minus

  moves_stepped : (w : Word) (s t : Tree) (a : Acts) (f : Frame) (m : TokenKind) (p : ℕ) → Derived s → Derived t → fine_block lang a f →
      Keeps lang ((past_block a f ++ (kind.For ∷ name w ∷ kind.Eq ∷ spelled s ++ (kind.To ∷ spelled t ++ kind.Step ∷ []))) ++ m ∷ []) (step_stepped w s t a f m p)
  moves_stepped w s t a f kind.Minus p d e h = record { fine = (d, e, h); past = minus_past (past_block a f) (name w) (spelled s) (spelled t) }
  moves_stepped w s t a f m p d e h = moves_size_by false w s t a f m p d e h

  -- an ended loop and an ended `if`
  next_past : (p : List TokenKind) (n : TokenKind) (s t c b : List TokenKind) (v : TokenKind) →
      p ++ (kind.For ∷ n ∷ kind.Eq ∷ s ++ (kind.To ∷ t ++ (c ++ (b ++ kind.Next ∷ v ∷ [])))) ≡ (p ++ (kind.For ∷ n ∷ kind.Eq ∷ s ++ (kind.To ∷ t ++ (c ++ (b ++ kind.Next ∷ []))))) ++ v ∷ []
  next_past p n s t c b v =
      sym (append_assoc p (kind.For ∷ n ∷ kind.Eq ∷ s ++ (kind.To ∷ t ++ (c ++ (b ++ kind.Next ∷ [])))) (v ∷ [])
      ∙ ap (λ z. p ++ (kind.For ∷ n ∷ kind.Eq ∷ z)) (append_assoc s (kind.To ∷ (t ++ (c ++ (b ++ kind.Next ∷ [])))) (v ∷ [])
      ∙ ap (λ z. s ++ (kind.To ∷ z)) (append_assoc t (c ++ (b ++ kind.Next ∷ [])) (v ∷ [])
      ∙ ap (λ z. t ++ z) (append_assoc c (b ++ kind.Next ∷ []) (v ∷ []) ∙ ap (λ z. c ++ z) (append_assoc b (kind.Next ∷ []) (v ∷ []))))))

  end_past : (p e b : List TokenKind) → p ++ (kind.While ∷ e ++ (b ++ kind.End ∷ kind.While ∷ [])) ≡ (p ++ (kind.While ∷ e ++ (b ++ kind.End ∷ []))) ++ kind.While ∷ []
  end_past p e b =
      sym (append_assoc p (kind.While ∷ e ++ (b ++ kind.End ∷ [])) (kind.While ∷ [])
      ∙ ap (λ z. p ++ (kind.While ∷ z)) (append_assoc e (b ++ kind.End ∷ []) (kind.While ∷ []) ∙ ap (λ z. e ++ z) (append_assoc b (kind.End ∷ []) (kind.While ∷ []))))

  -- the last token of a statement
  lacked : (p : List TokenKind) {ks : List TokenKind} (k : TokenKind) → Lacks k ks → p ++ ks ≡ (p ++ without_last ks) ++ k ∷ []
  lacked p {ks} k h = ap (λ z. p ++ z) h ∙ sym (append_assoc p (without_last ks) (k ∷ []))

  -- each turn leads from a state that the machine comes to to another one, by one more token
  pub moves : (q : State) (m : TokenKind) (p : ℕ) → Fine lang q → Keeps lang (past q ++ m ∷ []) (step q m p)
  moves (decls e ds) m p h = moves_decls e ds m p h.0 h.1
  moves (decl_name e k b ds) m p h = on_name (past_name k b ds) m p (λ w. decl_more e k (ds ++ declared k b w ∷ [])) (λ w. moves_name e h.0 k b ds w h.1)
  moves (decl_more e k ds) m p h = moves_more e h.0 k ds m h.1 h.2
  moves (procedures ds ps) m p h = moves_procedures ds ps m p h
  moves (proc_word ds ps) m p h = on_name _ m p (λ w. proc_named w ds ps) (λ w. record { fine = h; past = sym (append_assoc (past_procedures ds ps) (kind.Proc ∷ []) (name w ∷ [])) })
  moves (proc_named w ds ps) m p h = on_open _ m _ (λ i. record { fine = h; past = sym (append_assoc (past_procedures ds ps) (kind.Proc ∷ name w ∷ []) (kind.Open ∷ [])) })
  moves (proc_opened w ds ps) m p h = moves_proc_opened w ds ps m p h
  moves (param_read w ws v ds ps) m p h = moves_param_read w ws v ds ps m h
  moves (param_due w ws ds ps) m p h = on_name _ m p (λ v. param_read w ws v ds ps)
      (λ v. record { fine = h; past = sym (append_assoc (past_procedures ds ps) (kind.Proc ∷ name w ∷ kind.Open ∷ params_open ws) (name v ∷ [])) })
  moves (proc_ended q ds ps) m p h = on_proc _ m _ (λ i. proc_kept q ds ps h.0 h.1)
  moves (want k) m p h = moves_want k m p h
  moves (want_inverse k) m p h = moves_want_inverse k m p h
  moves (named w k) m p h = moves_named w k m p h
  moves (opened w k) m p h = moves_opened w k m p h
  moves (sized k) m p h = on_open _ m _ (λ i. record { fine = h; past = sym (append_assoc (past_operand k) (kind.Size ∷ []) (kind.Open ∷ [])) })
  moves (size_opened k) m p h = moves_size k m p h
  moves (size_named e k) m p h = on_close _ m _ (λ i. given k e _ h.3 h.0 h.1 (lacked (past_operand k) kind.Close h.2))
  moves (message k) m p h = on_open_box _ m _ (λ i. record { fine = h; past = sym (append_assoc (past_operand k) (kind.Msg ∷ []) (kind.OpenBox ∷ [])) })
  moves (have_product e k) m p h = moves_product e k m p h.0 h.1 h.2
  moves (have_sum e k) m p h = moves_sum e k m p h.0 h.1 h.2
  moves (have_inverse e k) m p h = moves_inverse e k m p h.0 h.1 h.2
  moves (have_and e k) m p h = moves_and e k m p h.0 h.1 h.2
  moves (have e k) m p h = moves_have e k m p h.0 h.1
  moves (block a f) m p h = moves_block a f m p h
  moves (stmt_named w a f) m p h = moves_stmt w a f m h
  moves (set_to w a f) m p h = moves_set w a f m p h
  moves (set_named w v a f) m p h = moves_set_named w v a f m p h
  moves (set_boxed w v a f) m p h = moves_set_boxed w v a f m p h
  moves (set_taken w v a f) m p h = on_semi _ m _ (λ i. stated a f (take_last w v) _ h tt (sym (append_assoc (past_block a f) (name w ∷ kind.Eq ∷ name v ∷ kind.OpenBox ∷ kind.CloseBox ∷ []) (kind.Semi ∷ []))))
  moves (boxed w a f) m p h = moves_boxed w a f m p h
  moves (append_to w a f) m p h = on_eq _ m _ (λ i. record { fine = h; past = sym (append_assoc (past_block a f) (name w ∷ kind.OpenBox ∷ kind.CloseBox ∷ []) (kind.Eq ∷ [])) })
  moves (item_indexed w e a f) m p h = on_eq _ m _ (λ i. record {
    fine = (h.0, h.1);
    past = sym (append_assoc (past_block a f) (name w ∷ kind.OpenBox ∷ spelled e ++ kind.CloseBox ∷ []) (kind.Eq ∷ []) ∙ ap (λ z. past_block a f ++ (name w ∷ kind.OpenBox ∷ z)) (append_assoc (spelled e) (kind.CloseBox ∷ []) (kind.Eq ∷ [])));
  })
  moves (call_opened w a f) m p h = moves_call w a f m p h
  moves (cleared a f) m p h = on_open _ m _ (λ i. record { fine = h; past = sym (append_assoc (past_block a f) (kind.Clear ∷ []) (kind.Open ∷ [])) })
  moves (clear_opened a f) m p h = on_name _ m p (λ w. clear_named w a f) (λ w. record { fine = h; past = sym (append_assoc (past_block a f) (kind.Clear ∷ kind.Open ∷ []) (name w ∷ [])) })
  moves (clear_named w a f) m p h = on_close _ m _ (λ i. record { fine = (tt, refl, h); past = sym (append_assoc (past_block a f) (kind.Clear ∷ kind.Open ∷ name w ∷ []) (kind.Close ∷ [])) })
  moves (closed s a f) m p h = on_semi _ m _ (λ i. stated a f s _ h.2 h.0 (lacked (past_block a f) kind.Semi h.1))
  moves (for_word a f) m p h = on_name _ m p (λ w. for_named w a f) (λ w. record { fine = h; past = sym (append_assoc (past_block a f) (kind.For ∷ []) (name w ∷ [])) })
  moves (for_named w a f) m p h = on_eq _ m _ (λ i. record { fine = h; past = sym (append_assoc (past_block a f) (kind.For ∷ name w ∷ []) (kind.Eq ∷ [])) })
  moves (stepped w s t a f) m p h = moves_stepped w s t a f m p h.0 h.1 h.2
  moves (step_signed w s t a f) m p h = moves_size_by true w s t a f m p h.0 h.1 h.2
  moves (nexted w s t c b a f) m p h = on_name _ m p (λ v. block (with_act a (for_next w s t c b v)) f) (λ v. stated a f (for_next w s t c b v) _ h.3 (h.0, h.1, h.2) (next_past (past_block a f) (name w) (spelled s) (spelled t) (step_spelled c) (acts_spelled b) (name v)))
  moves (if_ended s a f) m p h = on_if _ m _ (λ i. stated a f s _ h.2 h.0 (lacked (past_block a f) kind.If h.1))
  moves (while_ended e b a f) m p h = on_while _ m _ (λ i. stated a f (while_do e b) _ h.2 (h.0, h.1) (end_past (past_block a f) (spelled e) (acts_spelled b)))
  moves (do_word a f) m p h = on_name _ m p (λ w. do_named w a f) (λ w. record { fine = h; past = sym (append_assoc (past_block a f) (kind.Do ∷ []) (name w ∷ [])) })
  moves (do_named w a f) m p h = on_open _ m _ (λ i. record { fine = h; past = sym (append_assoc (past_block a f) (kind.Do ∷ name w ∷ []) (kind.Open ∷ [])) })
  moves (do_opened w a f) m p h = moves_run w a f m p h.0 h.1
