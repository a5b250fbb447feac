-- A tree with other places: those of a list, in their order.
use Rattle.std.proofs.Common.{ℕ, List, [], ◌∷◌, Option, Some, None}
use Rattle.ts_trees.specs.declared.word.Word.{Word}
use Rattle.ts_trees.specs.declared.stmt.Step.{Step}
use Rattle.ts_trees.specs.declared.script.Decl.{Decl}
use Rattle.ts_trees.specs.Tree.{Tree, number, variable, item, size, message_item, message_size, call, negative, inverse, two, paren, Trees, no_trees, tree_then, Act, set, set_item, append, take_last, clear, call_alone, if_then, if_else, for_next, while_do, run_procedure, Acts, no_acts, act_then, Procedure, ProcedureSource}
use Rattle.ts_trees.specs.Machine.{word, first_place, other_places}

-- a word with the first place
abbrev pub word_at : Word → List ℕ → Word
word_at w ps = word w.name (first_place ps)

-- an expression with the first places, and the places that it leaves
abbrev mutual
  pub left : Tree → List ℕ → List ℕ
  left (number n) ps = ps
  left (variable w) ps = other_places ps
  left (item w e) ps = left e (other_places ps)
  left (size w) ps = other_places ps
  left (message_item e) ps = left e ps
  left message_size ps = ps
  left (call w es) ps = args_left es (other_places ps)
  left (negative e) ps = left e ps
  left (inverse e) ps = left e ps
  left (two o l r) ps = left r (left l ps)
  left (paren e) ps = left e ps

  pub args_left : Trees → List ℕ → List ℕ
  args_left no_trees ps = ps
  args_left (tree_then e es) ps = args_left es (left e ps)

abbrev mutual
  pub placed : Tree → List ℕ → Tree
  placed (number n) ps = number n
  placed (variable w) ps = variable (word_at w ps)
  placed (item w e) ps = item (word_at w ps) (placed e (other_places ps))
  placed (size w) ps = size (word_at w ps)
  placed (message_item e) ps = message_item (placed e ps)
  placed message_size ps = message_size
  placed (call w es) ps = call (word_at w ps) (args_placed es (other_places ps))
  placed (negative e) ps = negative (placed e ps)
  placed (inverse e) ps = inverse (placed e ps)
  placed (two o l r) ps = two o (placed l ps) (placed r (left l ps))
  placed (paren e) ps = paren (placed e ps)

  pub args_placed : Trees → List ℕ → Trees
  args_placed no_trees ps = no_trees
  args_placed (tree_then e es) ps = tree_then (placed e ps) (args_placed es (left e ps))

abbrev pub step_left : Option Step → List ℕ → List ℕ
step_left None ps = ps
step_left (Some s) ps = other_places ps

abbrev pub step_placed : Option Step → List ℕ → Option Step
step_placed None ps = None
step_placed (Some s) ps = Some (record { minus = s.minus; size = s.size; place = first_place ps })

-- a statement and a block with the first places
abbrev mutual
  pub act_left : Act → List ℕ → List ℕ
  act_left (set w e) ps = left e (other_places ps)
  act_left (set_item w i e) ps = left e (left i (other_places ps))
  act_left (append w e) ps = left e (other_places ps)
  act_left (take_last w b) ps = other_places (other_places ps)
  act_left (clear w) ps = other_places ps
  act_left (call_alone w es) ps = args_left es (other_places ps)
  act_left (if_then e a) ps = acts_left a (left e ps)
  act_left (if_else e a b) ps = acts_left b (acts_left a (left e ps))
  act_left (for_next w f t s a v) ps = other_places (acts_left a (step_left s (left t (left f (other_places ps)))))
  act_left (while_do e a) ps = acts_left a (left e ps)
  act_left (run_procedure w es) ps = args_left es (other_places ps)

  pub acts_left : Acts → List ℕ → List ℕ
  acts_left no_acts ps = ps
  acts_left (act_then a more) ps = acts_left more (act_left a ps)

abbrev mutual
  pub act_placed : Act → List ℕ → Act
  act_placed (set w e) ps = set (word_at w ps) (placed e (other_places ps))
  act_placed (set_item w i e) ps = set_item (word_at w ps) (placed i (other_places ps)) (placed e (left i (other_places ps)))
  act_placed (append w e) ps = append (word_at w ps) (placed e (other_places ps))
  act_placed (take_last w b) ps = take_last (word_at w ps) (word_at b (other_places ps))
  act_placed (clear w) ps = clear (word_at w ps)
  act_placed (call_alone w es) ps = call_alone (word_at w ps) (args_placed es (other_places ps))
  act_placed (if_then e a) ps = if_then (placed e ps) (acts_placed a (left e ps))
  act_placed (if_else e a b) ps = if_else (placed e ps) (acts_placed a (left e ps)) (acts_placed b (acts_left a (left e ps)))
  act_placed (for_next w f t s a v) ps =
      for_next (word_at w ps) (placed f (other_places ps)) (placed t (left f (other_places ps))) (step_placed s (left t (left f (other_places ps))))
      (acts_placed a (step_left s (left t (left f (other_places ps))))) (word_at v (acts_left a (step_left s (left t (left f (other_places ps))))))
  act_placed (while_do e a) ps = while_do (placed e ps) (acts_placed a (left e ps))
  act_placed (run_procedure w es) ps = run_procedure (word_at w ps) (args_placed es (other_places ps))

  pub acts_placed : Acts → List ℕ → Acts
  acts_placed no_acts ps = no_acts
  acts_placed (act_then a more) ps = act_then (act_placed a ps) (acts_placed more (act_left a ps))

abbrev pub decl_placed : Decl → List ℕ → Decl
decl_placed d ps = record { kind = d.kind; word = word_at d.word ps; first = d.first }

abbrev pub decls_left : List Decl → List ℕ → List ℕ
decls_left [] ps = ps
decls_left (d ∷ ds) ps = decls_left ds (other_places ps)

abbrev pub decls_placed : List Decl → List ℕ → List Decl
decls_placed [] ps = []
decls_placed (d ∷ ds) ps = decl_placed d ps ∷ decls_placed ds (other_places ps)

-- a procedure, and procedures
abbrev pub params_left : List Word → List ℕ → List ℕ
params_left [] ps = ps
params_left (w ∷ ws) ps = params_left ws (other_places ps)

abbrev pub params_placed : List Word → List ℕ → List Word
params_placed [] ps = []
params_placed (w ∷ ws) ps = word_at w ps ∷ params_placed ws (other_places ps)

abbrev pub procedure_left : Procedure → List ℕ → List ℕ
procedure_left q ps = acts_left q.body (params_left q.params (other_places ps))

abbrev pub procedure_placed : Procedure → List ℕ → Procedure
procedure_placed q ps = record { name = word_at q.name ps; params = params_placed q.params (other_places ps); body = acts_placed q.body (params_left q.params (other_places ps)) }

abbrev pub procedures_left : List Procedure → List ℕ → List ℕ
procedures_left [] ps = ps
procedures_left (q ∷ qs) ps = procedures_left qs (procedure_left q ps)

abbrev pub procedures_placed : List Procedure → List ℕ → List Procedure
procedures_placed [] ps = []
procedures_placed (q ∷ qs) ps = procedure_placed q ps ∷ procedures_placed qs (procedure_left q ps)

-- a script
abbrev pub source_left : ProcedureSource → List ℕ → List ℕ
source_left s ps = acts_left s.body (procedures_left s.procs (decls_left s.decls ps))

abbrev pub source_placed : ProcedureSource → List ℕ → ProcedureSource
source_placed s ps = record {
  decls = decls_placed s.decls ps;
  procs = procedures_placed s.procs (decls_left s.decls ps);
  body = acts_placed s.body (procedures_left s.procs (decls_left s.decls ps));
}
