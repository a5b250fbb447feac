-- A tree that is given its own places is the same tree, and so tokens spell one script at most.
use Rattle.std.proofs.Common.{◌≡◌, ℕ, List, [], ◌∷◌, ◌++◌, Option, Some, None, refl, sym, ◌∙◌, ap, append_assoc, append-nil}
use Rattle.ts_trees.specs.declared.word.Word.{Word}
use Rattle.ts_trees.specs.declared.stmt.Step.{Step}
use Rattle.ts_trees.specs.declared.dialect.Dialect.{Dialect}
use Rattle.ts_trees.specs.declared.dialect.Dialect.TheVariants as dialect
use Rattle.ts_trees.specs.declared.script.Decl.{Decl}
use Rattle.ts_trees.specs.declared.token.Token.{Token}
use Rattle.ts_trees.specs.Tree.{Tree, number, variable, item, size, message_item, message_size, call, negative, inverse, two, paren, Trees, no_trees, tree_then, Act, set, set_item, append, take_last, clear, call_alone, if_then, if_else, for_next, while_do, run_procedure, Acts, no_acts, act_then, Source, Procedure, ProcedureSource, without_procedures}
use Rattle.ts_trees.specs.Spelling.{places, args_places, step_places, act_places, acts_places, decls_places, params_places, procedure_places, procedures_places, procedure_source_places, acts_spelled, decls_spelled, procedures_spelled, noted}
use Rattle.ts_trees.specs.Faults.{Spells, SpellsIn}
use Rattle.ts_trees.specs.Machine.{other_places, procedure, read_script, run, start}
use Rattle.ts_trees.proofs.Placed.{word_at, left, args_left, step_left, act_left, acts_left, decls_left, params_left, procedure_left, procedures_left, source_left, placed, args_placed, step_placed, act_placed, acts_placed, decl_placed, decls_placed, params_placed, procedure_placed, procedures_placed, source_placed}
use Rattle.ts_trees.proofs.CompleteStmt.{source_read}
use Rattle.ts_trees.proofs.Exact.{whole, whole_same}

-- what a part makes of its own places, and of those behind them
record Own {T : Type 0} (made : List ℕ → T) (leaves : List ℕ → List ℕ) (its : List ℕ) (t : T) : Type 0 where
  same : (qs : List ℕ) → made (its ++ qs) ≡ t
  rest : (qs : List ℕ) → leaves (its ++ qs) ≡ qs

none : {T : Type 0} (t : T) → Own (λ ps. t) (λ ps. ps) [] t
none t = record { same = λ qs. refl; rest = λ qs. refl }

of : {T V : Type 0} {m : List ℕ → T} {l : List ℕ → List ℕ} {x : List ℕ} {t : T} (make : T → V) → Own m l x t → Own (λ ps. make (m ps)) l x (make t)
of make a = record { same = λ qs. ap make (a.same qs); rest = a.rest }

both : {T U V : Type 0} {m : List ℕ → T} {l : List ℕ → List ℕ} {x : List ℕ} {t : T} {n : List ℕ → U} {k : List ℕ → List ℕ} {y : List ℕ} {u : U} (make : T → U → V) →
    Own m l x t → Own n k y u → Own (λ ps. make (m ps) (n (l ps))) (λ ps. k (l ps)) (x ++ y) (make t u)
both {m} {l} {x} {t} {n} {k} {y} {u} make a b = record {
  same = λ qs. ap (λ z. make (m z) (n (l z))) (append_assoc x y qs) ∙ ap (λ z. make z (n (l (x ++ (y ++ qs))))) (a.same (y ++ qs)) ∙ ap (λ z. make t (n z)) (a.rest (y ++ qs)) ∙ ap (λ z. make t z) (b.same qs);
  rest = λ qs. ap (λ z. k (l z)) (append_assoc x y qs) ∙ ap k (a.rest (y ++ qs)) ∙ b.rest qs;
}

abbrev pair : {A B : Type 0} → A → B → A × B
pair a b = (a, b)

own_word : (w : Word) → Own (word_at w) other_places (w.place ∷ []) w
own_word w = record { same = λ qs. refl; rest = λ qs. refl }

mutual
  own : (e : Tree) → Own (placed e) (left e) (places e) e
  own (number n) = none (number n)
  own (variable w) = of variable (own_word w)
  own (item w e) = both item (own_word w) (own e)
  own (size w) = of size (own_word w)
  own (message_item e) = of message_item (own e)
  own message_size = none message_size
  own (call w es) = both call (own_word w) (own_args es)
  own (negative e) = of negative (own e)
  own (inverse e) = of inverse (own e)
  own (two o l r) = both (two o) (own l) (own r)
  own (paren e) = of paren (own e)

  own_args : (es : Trees) → Own (args_placed es) (args_left es) (args_places es) es
  own_args no_trees = none no_trees
  own_args (tree_then e es) = both tree_then (own e) (own_args es)

own_step : (s : Option Step) → Own (step_placed s) (step_left s) (step_places s) s
own_step None = none None
own_step (Some s) = record { same = λ qs. refl; rest = λ qs. refl }

mutual
  own_act : (a : Act) → Own (act_placed a) (act_left a) (act_places a) a
  own_act (set w e) = both set (own_word w) (own e)
  own_act (set_item w i e) = both (λ (x : Word × Tree) (t : Tree). set_item x.0 x.1 t) (both pair (own_word w) (own i)) (own e)
  own_act (append w e) = both append (own_word w) (own e)
  own_act (take_last w b) = both take_last (own_word w) (own_word b)
  own_act (clear w) = of clear (own_word w)
  own_act (call_alone w es) = both call_alone (own_word w) (own_args es)
  own_act (if_then e a) = both if_then (own e) (own_acts a)
  own_act (if_else e a b) = both (λ (t : Tree) (x : Acts × Acts). if_else t x.0 x.1) (own e) (both pair (own_acts a) (own_acts b))
  own_act (for_next w f t s a v) =
      both (λ (x : Word × Tree) (y : Tree × (Option Step × (Acts × Word))). for_next x.0 x.1 y.0 y.1.0 y.1.1.0 y.1.1.1)
      (both pair (own_word w) (own f)) (both pair (own t) (both pair (own_step s) (both pair (own_acts a) (own_word v))))
  own_act (while_do e a) = both while_do (own e) (own_acts a)
  own_act (run_procedure w es) = both run_procedure (own_word w) (own_args es)

  own_acts : (more : Acts) → Own (acts_placed more) (acts_left more) (acts_places more) more
  own_acts no_acts = none no_acts
  own_acts (act_then a more) = both act_then (own_act a) (own_acts more)

own_decl : (d : Decl) → Own (decl_placed d) other_places (d.word.place ∷ []) d
own_decl d = record { same = λ qs. refl; rest = λ qs. refl }

own_decls : (ds : List Decl) → Own (decls_placed ds) (decls_left ds) (decls_places ds) ds
own_decls [] = none []
own_decls (d ∷ ds) = both (λ (x : Decl) (xs : List Decl). x ∷ xs) (own_decl d) (own_decls ds)

own_params : (ws : List Word) → Own (params_placed ws) (params_left ws) (params_places ws) ws
own_params [] = none []
own_params (w ∷ ws) = both (λ (x : Word) (xs : List Word). x ∷ xs) (own_word w) (own_params ws)

own_procedure : (p : Procedure) → Own (procedure_placed p) (procedure_left p) (procedure_places p) p
own_procedure p = both (λ (x : Word × List Word) (a : Acts). procedure x.0 x.1 a) (both pair (own_word p.name) (own_params p.params)) (own_acts p.body)

own_procedures : (ps : List Procedure) → Own (procedures_placed ps) (procedures_left ps) (procedures_places ps) ps
own_procedures [] = none []
own_procedures (p ∷ ps) = both (λ (x : Procedure) (xs : List Procedure). x ∷ xs) (own_procedure p) (own_procedures ps)

own_source : (s : ProcedureSource) (qs : List ℕ) → source_placed s (procedure_source_places s ++ qs) ≡ s
own_source s qs = (both (λ (ds : List Decl) (x : List Procedure × Acts). read_script ds x.0 x.1) (own_decls s.decls) (both pair (own_procedures s.procs) (own_acts s.body))).same qs

-- the machine reads the script from its tokens and places
reads_own : (d : Dialect) (ts : List Token) (s : ProcedureSource) → SpellsIn d ts s → source_placed s (noted ts) ≡ s
reads_own d ts s h = ap (source_placed s) (sym h.places ∙ sym (append-nil (procedure_source_places s))) ∙ own_source s []

pub one_tree_in : (d : Dialect) (ts : List Token) (s t : ProcedureSource) → SpellsIn d ts s → SpellsIn d ts t → s ≡ t
one_tree_in d ts s t h g =
    let ps : List ℕ = noted ts in
    let w : whole (source_placed s ps) (source_left s ps) ≡ whole (source_placed t ps) (source_left t ps) =
    sym (source_read d s h.derived ps) ∙ ap (λ z. run z ps (start d)) (h.spells ∙ sym g.spells) ∙ source_read d t g.derived ps
    in
    sym (reads_own d ts s h) ∙ whole_same (source_placed s ps) (source_placed t ps) (source_left s ps) (source_left t ps) w ∙ reads_own d ts t g

-- a plain script is one without procedures
pub spells_without : (ts : List Token) (s : Source) → Spells ts s → SpellsIn dialect.Plain ts (without_procedures s)
spells_without ts s h = record { derived = record { decls = h.derived.decls; procs = refl; body = h.derived.body }; spells = h.spells; places = h.places; within = h.within }

abbrev pub plain_part : ProcedureSource → Source
plain_part s = record { decls = s.decls; body = s.body }

pub spells_plain : (ts : List Token) (s : ProcedureSource) → SpellsIn dialect.Plain ts s → Spells ts (plain_part s)
spells_plain ts s h = record {
  derived = record { decls = h.derived.decls; body = h.derived.body };
  spells = ap (λ z. decls_spelled s.decls ++ (procedures_spelled z ++ acts_spelled s.body)) (sym h.derived.procs) ∙ h.spells;
  places = ap (λ z. decls_places s.decls ++ (procedures_places z ++ acts_places s.body)) (sym h.derived.procs) ∙ h.places;
  within = h.within;
}

pub one_tree : (ts : List Token) (s t : Source) → Spells ts s → Spells ts t → s ≡ t
one_tree ts s t h g = ap plain_part (one_tree_in dialect.Plain ts (without_procedures s) (without_procedures t) (spells_without ts s h) (spells_without ts t g))
