-- The plain grammar derives the expansion of what the grammar with procedures derives.
use Rattle.std.proofs.Common.{◌≡◌, ℕ, zero, suc, ◌+◌, ◌≤◌, inl, inr, List, [], ◌∷◌, ◌++◌, Option, Some, None, refl, sym, subst}
use Rattle.std.specs.Prelude.{IfSome}
use Rattle.mate_num.specs.Lists.{Each}
use Rattle.mate_num.proofs.ListLemmas.{each-append, each-push}
use Rattle.ts_trees.specs.declared.dialect.Dialect.TheVariants.{Plain, Procedures}
use Rattle.ts_trees.specs.declared.script.Decl.{Decl}
use Rattle.ts_trees.specs.declared.script.DeclKind.{DeclKind}
use Rattle.ts_trees.specs.declared.script.DeclKind.TheVariants.{Private}
use Rattle.ts_trees.specs.declared.word.Word.{Word}
use Rattle.ts_trees.specs.Derived.{level, Derived, ArgsDerived, ActDerived, ActsDerived, NamesFollow, DeclsDerived, ProceduresDerived, IsDerived, IsDerivedWithProcedures}
use Rattle.ts_trees.specs.Seen.{acts}
use Rattle.ts_trees.specs.Tree.{Tree, number, variable, item, size, message_item, message_size, call, negative, inverse, two, paren, Trees, no_trees, tree_then, Act, set, set_item, append, take_last, clear, call_alone, if_then, if_else, for_next, while_do, run_procedure, Acts, no_acts, act_then, Procedure, ProcedureSource}
use Rattle.ts_proc_names.specs.Heads.{parameter_count}
use Rattle.ts_proc_names.specs.Places.{declared_as}
use Rattle.ts_proc_names.proofs.PlaceLemmas.{each-declared}
use Rattle.ts_proc_renaming.specs.Renaming.{Hiding, nothing_hidden, renamed_expr, renamed_args, assigned, parameter_decls}
use Rattle.ts_proc_expansion.specs.InOrder.{declared_in_order}
use Rattle.ts_proc_expansion.specs.Expansion.{first_trees, Callee, body_called, expanded_act, expanded_acts, callee, callees, expansion}

-- ---- expressions

level-renamed : (h : Hiding) (e : Tree) → level (renamed_expr h e) ≡ level e
level-renamed h (number n) = refl
level-renamed h _ = refl

part : (h : Hiding) (n : ℕ) (e : Tree) → n ≤ level e → n ≤ level (renamed_expr h e)
part h n e p = subst (λ (l : ℕ). n ≤ l) (sym (level-renamed h e)) p

mutual
  tree_derived : (h : Hiding) (e : Tree) → Derived e → Derived (renamed_expr h e)
  tree_derived h (number n) d = tt
  tree_derived h (variable w) d = tt
  tree_derived h (item w e) d = tree_derived h e d
  tree_derived h (size w) d = tt
  tree_derived h (message_item e) d = tree_derived h e d
  tree_derived h message_size d = tt
  tree_derived h (call w es) d = args_derived h es d
  tree_derived h (negative e) d = (part h 6 e d.0, tree_derived h e d.1)
  tree_derived h (inverse e) d = (part h 2 e d.0, tree_derived h e d.1)
  tree_derived h (two o l r) d = (part h _ l d.0, tree_derived h l d.1, part h _ r d.2, tree_derived h r d.3)
  tree_derived h (paren e) d = tree_derived h e d

  args_derived : (h : Hiding) (es : Trees) → ArgsDerived es → ArgsDerived (renamed_args h es)
  args_derived h no_trees d = tt
  args_derived h (tree_then e es) d = (tree_derived h e d.0, args_derived h es d.1)

-- ---- statements

-- each statement of a list is one of a plain script
abbrev AreDerived : List Act → Type 0
AreDerived = Each (ActDerived Plain)

block_derived : (xs : List Act) → AreDerived xs → ActsDerived Plain (acts xs)
block_derived [] d = tt
block_derived (a ∷ more) d = (d.0, block_derived more d.1)

-- what a `do` assigns
assigned_derived : (h : Hiding) (place k n : ℕ) (es : Trees) → ArgsDerived es → AreDerived (assigned h place k (first_trees n es))
assigned_derived h place k zero es d = tt
assigned_derived h place k (suc n) no_trees d = tt
assigned_derived h place k (suc n) (tree_then e es) d = (tree_derived h e d.0, assigned_derived h place (k + 1) n es d.1)

-- the bodies of the procedures that are known
abbrev BodiesDerived : List (List ℕ × Callee) → Type 0
BodiesDerived = Each (λ c. AreDerived c.1.body)

called_derived : (h : Hiding) (w : Word) (es : Trees) (p : Option Callee) → ArgsDerived es → IfSome p (λ c. AreDerived c.body) → AreDerived (body_called h w es p)
called_derived h w es None d b = tt
called_derived h w es (Some p) d b = each-append (ActDerived Plain) (assigned h w.place p.first (first_trees p.params es)) p.body (assigned_derived h w.place p.first p.params es d) b

mutual
  act_derived : (known : List (List ℕ × Callee)) → BodiesDerived known → (h : Hiding) (a : Act) → ActDerived Procedures a → AreDerived (expanded_act known h a)
  act_derived known b h (set w e) d = (tree_derived h e d, tt)
  act_derived known b h (set_item w i e) d = ((tree_derived h i d.0, tree_derived h e d.1), tt)
  act_derived known b h (append w e) d = (tree_derived h e d, tt)
  act_derived known b h (take_last w v) d = (tt, tt)
  act_derived known b h (clear w) d = (tt, tt)
  act_derived known b h (call_alone w es) d = (args_derived h es d, tt)
  act_derived known b h (if_then e a) d = ((tree_derived h e d.0, block_derived (expanded_acts known h a) (acts_derived known b h a d.1)), tt)
  act_derived known b h (if_else e a o) d =
      ((tree_derived h e d.0, block_derived (expanded_acts known h a) (acts_derived known b h a d.1), block_derived (expanded_acts known h o) (acts_derived known b h o d.2)), tt)
  act_derived known b h (for_next w f t s a v) d =
      ((tree_derived h f d.0, tree_derived h t d.1, block_derived (expanded_acts known h a) (acts_derived known b h a d.2)), tt)
  act_derived known b h (while_do e a) d = ((tree_derived h e d.0, block_derived (expanded_acts known h a) (acts_derived known b h a d.1)), tt)
  act_derived known b h (run_procedure w es) d = called_derived h w es (declared_as known w.name) d (each-declared (λ (c : Callee). AreDerived c.body) known w.name b)

  acts_derived : (known : List (List ℕ × Callee)) → BodiesDerived known → (h : Hiding) (a : Acts) → ActsDerived Procedures a → AreDerived (expanded_acts known h a)
  acts_derived known b h no_acts d = tt
  acts_derived known b h (act_then a more) d =
      each-append (ActDerived Plain) (expanded_act known h a) (expanded_acts known h more) (act_derived known b h a d.0) (acts_derived known b h more d.1)

-- ---- procedures

bodies_derived : (known : List (List ℕ × Callee)) (ps : List Procedure) → BodiesDerived known → ProceduresDerived ps → BodiesDerived (declared_in_order callee known ps)
bodies_derived known [] b d = b
bodies_derived known (p ∷ ps) b d =
    bodies_derived (known ++ (p.name.name, callee known p) ∷ []) ps (each-push _ known (p.name.name, callee known p) b (acts_derived known b _ p.body d.0)) d.1

-- ---- declarations

params_follow : (k n : ℕ) → NamesFollow Private (parameter_decls k n)
params_follow k zero = tt
params_follow k (suc n) = (inr refl, params_follow (k + 1) n)

params_behind : (j : DeclKind) (n : ℕ) → NamesFollow j (parameter_decls 0 n)
params_behind j zero = tt
params_behind j (suc n) = (inl refl, params_follow 1 n)

names_follow : (j : DeclKind) (ds : List Decl) (n : ℕ) → NamesFollow j ds → NamesFollow j (ds ++ parameter_decls 0 n)
names_follow j [] n d = params_behind j n
names_follow j (x ∷ ds) n d = (d.0, names_follow x.kind ds n d.1)

decls_derived : (ds : List Decl) (n : ℕ) → DeclsDerived ds → DeclsDerived (ds ++ parameter_decls 0 n)
decls_derived [] zero d = tt
decls_derived [] (suc n) d = (refl, params_follow 1 n)
decls_derived (x ∷ ds) n d = (d.0, names_follow x.kind ds n d.1)

pub expansion_is_derived : (s : ProcedureSource) → IsDerivedWithProcedures s → IsDerived (expansion s)
expansion_is_derived s d = record {
  decls = decls_derived s.decls (parameter_count s.procs) d.decls;
  body = block_derived (expanded_acts (callees s.procs) nothing_hidden s.body) (acts_derived (callees s.procs) (bodies_derived [] s.procs tt d.procs) nothing_hidden s.body d.body);
}
