-- What replaces the names of a procedure's body in a plain script: each parameter is a private variable.
use Rattle.std.specs.Prelude.{ℕ, zero, suc, ◌+◌, ◌==◌, List, [], ◌∷◌, Option, Some, None, bytes_eq, decimal}
use Rattle.std.specs.List.{position_from}
use Rattle.ts_trees.specs.declared.word.Word.{Word}
use Rattle.ts_trees.specs.declared.script.Decl.{Decl}
use Rattle.ts_trees.specs.declared.script.DeclKind.TheVariants.{Private}
use Rattle.ts_trees.specs.Tree.{Tree, number, variable, item, size, message_item, message_size, call, negative, inverse, two, paren, Trees, no_trees, tree_then, Act, set, set_item, append, take_last, clear, call_alone, if_then, if_else, for_next, while_do, run_procedure}

-- the private variable that parameter k is: `_k`
abbrev pub parameter_name : ℕ → List ℕ
parameter_name k = 95 ∷ decimal k

-- the declarations of n parameters from the k-th on
abbrev pub parameter_decls : ℕ → ℕ → List Decl
parameter_decls k zero = []
parameter_decls k (suc n) =
    record { kind = Private; word = record { name = parameter_name k; place = 0 }; first = k == 0 } ∷ parameter_decls (k + 1) n

-- the parameters that hide names within a body, of which the first has this number among all; in the script's statements none does
pub record Hiding : Type 0 where
  pub first : ℕ
  pub params : List Word

abbrev pub nothing_hidden : Hiding
nothing_hidden = record { first = 0; params = [] }

-- the number of the parameter that hides a name
abbrev pub number_hiding : Hiding → List ℕ → Option ℕ
number_hiding h name = position_from (λ w. bytes_eq name w.name) h.first h.params

abbrev pub renamed_as : Word → Option ℕ → Word
renamed_as w None = w
renamed_as w (Some k) = record { name = parameter_name k; place = w.place }

-- a name of a variable or a buffer
abbrev pub renamed : Hiding → Word → Word
renamed h w = renamed_as w (number_hiding h w.name)

-- an expression, and arguments; the names of functions stay
abbrev mutual
  pub renamed_expr : Hiding → Tree → Tree
  renamed_expr h (number n) = number n
  renamed_expr h (variable w) = variable (renamed h w)
  renamed_expr h (item w e) = item (renamed h w) (renamed_expr h e)
  renamed_expr h (size w) = size (renamed h w)
  renamed_expr h (message_item e) = message_item (renamed_expr h e)
  renamed_expr h message_size = message_size
  renamed_expr h (call w es) = call w (renamed_args h es)
  renamed_expr h (negative e) = negative (renamed_expr h e)
  renamed_expr h (inverse e) = inverse (renamed_expr h e)
  renamed_expr h (two o l r) = two o (renamed_expr h l) (renamed_expr h r)
  renamed_expr h (paren e) = paren (renamed_expr h e)

  pub renamed_args : Hiding → Trees → Trees
  renamed_args h no_trees = no_trees
  renamed_args h (tree_then e es) = tree_then (renamed_expr h e) (renamed_args h es)

-- arguments go into the variables of parameters, of which the first is variable k
abbrev pub assigned : Hiding → ℕ → ℕ → Trees → List Act
assigned h place k no_trees = []
assigned h place k (tree_then e es) =
    set (record { name = parameter_name k; place = place }) (renamed_expr h e) ∷ assigned h place (k + 1) es

-- a statement that has no block and runs no procedure, as a list; of any other it has nothing
abbrev pub renamed_simple : Hiding → Act → List Act
renamed_simple h (set w e) = set (renamed h w) (renamed_expr h e) ∷ []
renamed_simple h (set_item w i e) = set_item (renamed h w) (renamed_expr h i) (renamed_expr h e) ∷ []
renamed_simple h (append w e) = append (renamed h w) (renamed_expr h e) ∷ []
renamed_simple h (take_last w b) = take_last (renamed h w) (renamed h b) ∷ []
renamed_simple h (clear w) = clear (renamed h w) ∷ []
renamed_simple h (call_alone w es) = call_alone w (renamed_args h es) ∷ []
renamed_simple h (if_then e a) = []
renamed_simple h (if_else e a b) = []
renamed_simple h (for_next w from to step a next) = []
renamed_simple h (while_do e a) = []
renamed_simple h (run_procedure w es) = []
