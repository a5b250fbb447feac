-- The places of a tree that was read are those of the tokens.
use Rattle.std.proofs.Common.{◌≡◌, ℕ, List, [], ◌∷◌, ◌++◌, Option, Some, None, refl, ◌∙◌, ap, subst, append_assoc}
use Rattle.ts_trees.specs.declared.word.Word.{Word}
use Rattle.ts_trees.specs.declared.stmt.Step.{Step}
use Rattle.ts_trees.specs.declared.script.Decl.{Decl}
use Rattle.ts_trees.specs.Tree.{Tree, number, variable, item, size, message_item, message_size, call, negative, inverse, two, paren, Trees, no_trees, tree_then, Act, set, set_item, append, take_last, clear, call_alone, if_then, if_else, for_next, while_do, run_procedure, Acts, no_acts, act_then, Procedure, ProcedureSource}
use Rattle.ts_trees.specs.Spelling.{places, args_places, step_places, act_places, acts_places, decls_places, params_places, procedure_places, procedures_places, procedure_source_places}
use Rattle.ts_trees.specs.Machine.{first_place, other_places}
use Rattle.ts_trees.proofs.Placed.{left, args_left, step_left, act_left, acts_left, decls_left, params_left, procedure_left, procedures_left, source_left, placed, args_placed, step_placed, act_placed, acts_placed, decls_placed, params_placed, procedure_placed, procedures_placed, source_placed}

-- some are there
abbrev pub IsMore : List ℕ → Type 0
IsMore [] = ⊥
IsMore (p ∷ ps) = Unit {0}

-- places that a part takes, and those that it leaves
record Takes (xs rest ps : List ℕ) : Type 0 where
  are : xs ++ rest ≡ ps
  more : IsMore ps

more_of : (xs rest ps : List ℕ) → xs ++ rest ≡ ps → IsMore rest → Takes xs rest ps
more_of [] rest ps e h = record { are = e; more = subst IsMore e h }
more_of (x ∷ xs) rest ps e h = record { are = e; more = subst IsMore e tt }

none : (ps : List ℕ) → IsMore ps → Takes [] ps ps
none ps h = record { are = refl; more = h }

one : (ps : List ℕ) → IsMore (other_places ps) → Takes (first_place ps ∷ []) (other_places ps) ps
one [] h = absurd h
one (p ∷ ps) h = record { are = refl; more = tt }

-- one part and then another
both : {xs ys rest mid ps : List ℕ} → Takes xs mid ps → Takes ys rest mid → Takes (xs ++ ys) rest ps
both {xs} {ys} {rest} a b = record { are = append_assoc xs ys rest ∙ ap (λ z. xs ++ z) b.are ∙ a.are; more = a.more }

mutual
  takes : (e : Tree) (ps : List ℕ) → IsMore (left e ps) → Takes (places (placed e ps)) (left e ps) ps
  takes (number n) ps h = none ps h
  takes (variable w) ps h = one ps h
  takes (item w e) ps h = let b = takes e (other_places ps) h in both (one ps b.more) b
  takes (size w) ps h = one ps h
  takes (message_item e) ps h = takes e ps h
  takes message_size ps h = none ps h
  takes (call w es) ps h = let b = args_take es (other_places ps) h in both (one ps b.more) b
  takes (negative e) ps h = takes e ps h
  takes (inverse e) ps h = takes e ps h
  takes (two o l r) ps h = let b = takes r (left l ps) h in both (takes l ps b.more) b
  takes (paren e) ps h = takes e ps h

  args_take : (es : Trees) (ps : List ℕ) → IsMore (args_left es ps) → Takes (args_places (args_placed es ps)) (args_left es ps) ps
  args_take no_trees ps h = none ps h
  args_take (tree_then e es) ps h = let b = args_take es (left e ps) h in both (takes e ps b.more) b

step_takes : (s : Option Step) (ps : List ℕ) → IsMore (step_left s ps) → Takes (step_places (step_placed s ps)) (step_left s ps) ps
step_takes None ps h = none ps h
step_takes (Some s) ps h = one ps h

mutual
  act_takes : (a : Act) (ps : List ℕ) → IsMore (act_left a ps) → Takes (act_places (act_placed a ps)) (act_left a ps) ps
  act_takes (set w e) ps h = let b = takes e (other_places ps) h in both (one ps b.more) b
  act_takes (set_item w i e) ps h = let c = takes e (left i (other_places ps)) h in let b = takes i (other_places ps) c.more in both (one ps b.more) (both b c)
  act_takes (append w e) ps h = let b = takes e (other_places ps) h in both (one ps b.more) b
  act_takes (take_last w v) ps h = let b = one (other_places ps) h in both (one ps b.more) b
  act_takes (clear w) ps h = one ps h
  act_takes (call_alone w es) ps h = let b = args_take es (other_places ps) h in both (one ps b.more) b
  act_takes (if_then e a) ps h = let b = acts_take a (left e ps) h in both (takes e ps b.more) b
  act_takes (if_else e a c) ps h =
      let d = acts_take c (acts_left a (left e ps)) h in
      let b = acts_take a (left e ps) d.more in
      both (takes e ps b.more) (both b d)
  act_takes (for_next w s t c a v) ps h =
      let qs = left s (other_places ps) in
      let f = one (acts_left a (step_left c (left t qs))) h in
      let d = acts_take a (step_left c (left t qs)) f.more in
      let g = step_takes c (left t qs) d.more in
      let b = takes t qs g.more in
      let i = takes s (other_places ps) b.more in
      both (one ps i.more) (both i (both b (both g (both d f))))
  act_takes (while_do e a) ps h = let b = acts_take a (left e ps) h in both (takes e ps b.more) b
  act_takes (run_procedure w es) ps h = let b = args_take es (other_places ps) h in both (one ps b.more) b

  acts_take : (more : Acts) (ps : List ℕ) → IsMore (acts_left more ps) → Takes (acts_places (acts_placed more ps)) (acts_left more ps) ps
  acts_take no_acts ps h = none ps h
  acts_take (act_then a more) ps h = let b = acts_take more (act_left a ps) h in both (act_takes a ps b.more) b

decls_take : (ds : List Decl) (ps : List ℕ) → IsMore (decls_left ds ps) → Takes (decls_places (decls_placed ds ps)) (decls_left ds ps) ps
decls_take [] ps h = none ps h
decls_take (d ∷ ds) ps h = let b = decls_take ds (other_places ps) h in both (one ps b.more) b

params_take : (ws : List Word) (ps : List ℕ) → IsMore (params_left ws ps) → Takes (params_places (params_placed ws ps)) (params_left ws ps) ps
params_take [] ps h = none ps h
params_take (w ∷ ws) ps h = let b = params_take ws (other_places ps) h in both (one ps b.more) b

procedure_takes : (q : Procedure) (ps : List ℕ) → IsMore (procedure_left q ps) → Takes (procedure_places (procedure_placed q ps)) (procedure_left q ps) ps
procedure_takes q ps h =
    let b = acts_take q.body (params_left q.params (other_places ps)) h in
    let c = params_take q.params (other_places ps) b.more in
    both (one ps c.more) (both c b)

procedures_take : (qs : List Procedure) (ps : List ℕ) → IsMore (procedures_left qs ps) → Takes (procedures_places (procedures_placed qs ps)) (procedures_left qs ps) ps
procedures_take [] ps h = none ps h
procedures_take (q ∷ qs) ps h = let b = procedures_take qs (procedure_left q ps) h in both (procedure_takes q ps b.more) b

-- where places are left, those before them are the script's
pub source_takes : (s : ProcedureSource) (ps : List ℕ) → IsMore (source_left s ps) → procedure_source_places (source_placed s ps) ++ source_left s ps ≡ ps
source_takes s ps h =
    let b = acts_take s.body (procedures_left s.procs (decls_left s.decls ps)) h in
    let c = procedures_take s.procs (decls_left s.decls ps) b.more in
    (both (decls_take s.decls ps c.more) (both c b)).are
