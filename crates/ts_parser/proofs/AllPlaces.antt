-- A script takes as many places as its tokens note.
use Rattle.std.proofs.Common.{◌≡◌, ℕ, Bool, true, false, List, [], ◌∷◌, ◌++◌, Option, Some, None, refl, sym, ◌∙◌, ap, append_assoc, append-nil}
use Rattle.ts_checked.specs.declared.bin_op.BinOp.{BinOp}
use Rattle.ts_checked.specs.declared.bin_op.BinOp.TheVariants as op
use Rattle.ts_trees.specs.declared.word.Word.{Word}
use Rattle.ts_trees.specs.declared.stmt.Step.{Step}
use Rattle.ts_trees.specs.declared.script.Decl.{Decl}
use Rattle.ts_trees.specs.declared.script.DeclKind.{DeclKind}
use Rattle.ts_trees.specs.declared.script.DeclKind.TheVariants as decl
use Rattle.ts_trees.specs.declared.token.Token.{Token}
use Rattle.ts_trees.specs.declared.token.TokenKind.{TokenKind}
use Rattle.ts_trees.specs.declared.token.TokenKind.TheVariants as kind
use Rattle.ts_trees.specs.Parsing.{Holds, noted_then}
use Rattle.ts_trees.specs.Tree.{Tree, number, variable, item, size, message_item, message_size, call, negative, inverse, two, paren, Trees, no_trees, tree_then, Act, set, set_item, append, take_last, clear, call_alone, if_then, if_else, for_next, while_do, run_procedure, Acts, no_acts, act_then, Procedure, ProcedureSource}
use Rattle.ts_trees.specs.Spelling.{sign, name, spelled, args_spelled, more_spelled, minus_spelled, step_spelled, act_spelled, acts_spelled, decl_keyword, decl_start, decl_end, decls_gap, decls_spelled, params_spelled, other_params_spelled, procedure_spelled, procedures_spelled, procedure_source_spelled, kinds, note, literal_place, number_place}
use Rattle.ts_trees.specs.Machine.{other_places}
use Rattle.ts_trees.proofs.Placed.{left, args_left, step_left, act_left, acts_left, decls_left, params_left, procedure_left, procedures_left, source_left}
use Rattle.ts_parser.proofs.ParseLemmas.{Split, split}

-- what these tokens leave of the places from them on: those behind them
record Leaves (ks : List TokenKind) (leaves : List ℕ → List ℕ) : Type 0 where
  from : (front rest : List Token) → kinds front ≡ ks → leaves (noted_then (front ++ rest)) ≡ noted_then rest

none : Leaves [] (λ ps. ps)
none = record { from = λ front rest e. by front rest e }
  where
    by : (front rest : List Token) → kinds front ≡ [] → noted_then (front ++ rest) ≡ noted_then rest
    by [] rest e = refl
    by (t ∷ ts) rest e = cc

-- one part and then another
both : {xs ys : List TokenKind} {l k : List ℕ → List ℕ} → Leaves xs l → Leaves ys k → Leaves (xs ++ ys) (λ ps. k (l ps))
both {xs} {ys} {l} {k} a b = record { from = λ front rest e. by front rest (split front xs ys e) }
  where
    by : (front rest : List Token) → Split front xs ys → k (l (noted_then (front ++ rest))) ≡ noted_then rest
    by front rest s =
        ap (λ z. k (l (noted_then (z ++ rest)))) s.are
        ∙ ap (λ z. k (l (noted_then z))) (append_assoc s.front s.rest rest)
        ∙ ap k (a.from s.front (s.rest ++ rest) s.before)
        ∙ b.from s.rest rest s.behind

-- a token at which no place is noted
abbrev is_silent : TokenKind → Bool
is_silent (kind.Name n) = false
is_silent kind.Step = false
is_silent k = true

no_note : (t : Token) (k : TokenKind) (ts : List Token) → Holds (is_silent k) → note t k ts ≡ []
no_note t (kind.Name n) ts h = absurd h
no_note t kind.Step ts h = absurd h
no_note t k ts h = refl

one_kind : (t : Token) (k : TokenKind) → kinds (t ∷ []) ≡ k ∷ [] → t.kind ≡ k
one_kind t k e = cc

silent : (k : TokenKind) → Holds (is_silent k) → Leaves (k ∷ []) (λ ps. ps)
silent k h = record { from = λ front rest e. by front rest e }
  where
    by : (front rest : List Token) → kinds front ≡ k ∷ [] → noted_then (front ++ rest) ≡ noted_then rest
    by [] rest e = cc
    by (t ∷ []) rest e = ap (λ z. z ++ noted_then rest) (ap (λ j. note t j rest) (one_kind t k e) ∙ no_note t k rest h)
    by (t ∷ u ∷ ts) rest e = cc

named : (w : Word) → Leaves (name w ∷ []) other_places
named w = record { from = λ front rest e. by front rest e }
  where
    by : (front rest : List Token) → kinds front ≡ name w ∷ [] → other_places (noted_then (front ++ rest)) ≡ noted_then rest
    by [] rest e = cc
    by (t ∷ []) rest e = ap (λ j. other_places (note t j rest ++ noted_then rest)) (one_kind t (name w) e)
    by (t ∷ u ∷ ts) rest e = cc

sign_silent : (o : BinOp) → Holds (is_silent (sign o))
sign_silent op.Or = tt
sign_silent _ = tt

mutual
  tree : (e : Tree) → Leaves (spelled e) (left e)
  tree (number n) = silent (kind.Num n) tt
  tree (variable w) = named w
  tree (item w e) = both (both (named w) (both (silent kind.OpenBox tt) (tree e))) (silent kind.CloseBox tt)
  tree (size w) = both (silent kind.Size tt) (both (silent kind.Open tt) (both (named w) (silent kind.Close tt)))
  tree (message_item e) = both (both (silent kind.Msg tt) (both (silent kind.OpenBox tt) (tree e))) (silent kind.CloseBox tt)
  tree message_size = both (silent kind.Size tt) (both (silent kind.Open tt) (both (silent kind.Msg tt) (silent kind.Close tt)))
  tree (call w es) = both (both (named w) (both (silent kind.Open tt) (args es))) (silent kind.Close tt)
  tree (negative e) = both (silent kind.Minus tt) (tree e)
  tree (inverse e) = both (silent kind.Not tt) (tree e)
  tree (two o l r) = both (tree l) (both (silent (sign o) (sign_silent o)) (tree r))
  tree (paren e) = both (both (silent kind.Open tt) (tree e)) (silent kind.Close tt)

  args : (es : Trees) → Leaves (args_spelled es) (args_left es)
  args no_trees = none
  args (tree_then e es) = both (tree e) (others es)

  others : (es : Trees) → Leaves (more_spelled es) (args_left es)
  others no_trees = none
  others (tree_then e es) = both (both (silent kind.Comma tt) (tree e)) (others es)

-- a step: its place is noted at its keyword
step_minus : (t u v : Token) (rest : List Token) (n : ℕ) → t.kind ≡ kind.Step → u.kind ≡ kind.Minus → v.kind ≡ kind.Num n → other_places (noted_then (t ∷ u ∷ v ∷ rest)) ≡ noted_then rest
step_minus t u v rest n a b c =
    ap (λ j. other_places (note t j (u ∷ v ∷ rest) ++ (note u u.kind (v ∷ rest) ++ (note v v.kind rest ++ noted_then rest)))) a
    ∙ ap (λ j. other_places (literal_place u j (v ∷ rest) ++ (note u j (v ∷ rest) ++ (note v v.kind rest ++ noted_then rest)))) b
    ∙ ap (λ j. other_places (number_place v j ++ (note v j rest ++ noted_then rest))) c

step_plain : (t u : Token) (rest : List Token) (n : ℕ) → t.kind ≡ kind.Step → u.kind ≡ kind.Num n → other_places (noted_then (t ∷ u ∷ rest)) ≡ noted_then rest
step_plain t u rest n a b =
    ap (λ j. other_places (note t j (u ∷ rest) ++ (note u u.kind rest ++ noted_then rest))) a
    ∙ ap (λ j. other_places (literal_place u j rest ++ (note u j rest ++ noted_then rest))) b

by_minus : (n : ℕ) (front rest : List Token) → kinds front ≡ kind.Step ∷ kind.Minus ∷ kind.Num n ∷ [] → other_places (noted_then (front ++ rest)) ≡ noted_then rest
by_minus n [] rest e = cc
by_minus n (t ∷ []) rest e = cc
by_minus n (t ∷ u ∷ []) rest e = cc
by_minus n (t ∷ u ∷ v ∷ []) rest e =
    let a : t.kind ≡ kind.Step = cc in
    let b : u.kind ≡ kind.Minus = cc in
    let c : v.kind ≡ kind.Num n = cc in
    step_minus t u v rest n a b c
by_minus n (t ∷ u ∷ v ∷ w ∷ ts) rest e = cc

by_plain : (n : ℕ) (front rest : List Token) → kinds front ≡ kind.Step ∷ kind.Num n ∷ [] → other_places (noted_then (front ++ rest)) ≡ noted_then rest
by_plain n [] rest e = cc
by_plain n (t ∷ []) rest e = cc
by_plain n (t ∷ u ∷ []) rest e =
    let a : t.kind ≡ kind.Step = cc in
    let b : u.kind ≡ kind.Num n = cc in
    step_plain t u rest n a b
by_plain n (t ∷ u ∷ v ∷ ts) rest e = cc

step_by : (b : Bool) (n : ℕ) → Leaves (kind.Step ∷ minus_spelled b ++ kind.Num n ∷ []) other_places
step_by true n = record { from = λ front rest e. by_minus n front rest e }
step_by false n = record { from = λ front rest e. by_plain n front rest e }

step : (s : Option Step) → Leaves (step_spelled s) (step_left s)
step None = none
step (Some s) = step_by s.minus s.size

end_with : (k : TokenKind) → Holds (is_silent k) → Leaves (kind.End ∷ k ∷ []) (λ ps. ps)
end_with k h = both (silent kind.End tt) (silent k h)

mutual
  act : (a : Act) → Leaves (act_spelled a) (act_left a)
  act (set w e) = both (both (named w) (both (silent kind.Eq tt) (tree e))) (silent kind.Semi tt)
  act (set_item w i e) =
      both (both (named w) (both (silent kind.OpenBox tt) (tree i))) (both (silent kind.CloseBox tt) (both (both (silent kind.Eq tt) (tree e)) (silent kind.Semi tt)))
  act (append w e) = both (both (named w) (both (silent kind.OpenBox tt) (both (silent kind.CloseBox tt) (both (silent kind.Eq tt) (tree e))))) (silent kind.Semi tt)
  act (take_last w b) = both (named w) (both (silent kind.Eq tt) (both (named b) (both (silent kind.OpenBox tt) (both (silent kind.CloseBox tt) (silent kind.Semi tt)))))
  act (clear w) = both (silent kind.Clear tt) (both (silent kind.Open tt) (both (named w) (both (silent kind.Close tt) (silent kind.Semi tt))))
  act (call_alone w es) = both (both (named w) (both (silent kind.Open tt) (args es))) (both (silent kind.Close tt) (silent kind.Semi tt))
  act (if_then e a) = both (both (silent kind.If tt) (tree e)) (both (both (silent kind.Then tt) (block a)) (end_with kind.If tt))
  act (if_else e a b) =
      both (both (silent kind.If tt) (tree e)) (both (both (silent kind.Then tt) (block a)) (both (both (silent kind.Else tt) (block b)) (end_with kind.If tt)))
  act (for_next w f t s a v) =
      both (both (silent kind.For tt) (both (named w) (both (silent kind.Eq tt) (tree f))))
      (both (both (silent kind.To tt) (tree t)) (both (step s) (both (block a) (both (silent kind.Next tt) (named v)))))
  act (while_do e a) = both (both (silent kind.While tt) (tree e)) (both (block a) (end_with kind.While tt))
  act (run_procedure w es) = both (both (silent kind.Do tt) (both (named w) (both (silent kind.Open tt) (args es)))) (both (silent kind.Close tt) (silent kind.Semi tt))

  block : (more : Acts) → Leaves (acts_spelled more) (acts_left more)
  block no_acts = none
  block (act_then a more) = both (act a) (block more)

keyword_silent : (k : DeclKind) → Holds (is_silent (decl_keyword k))
keyword_silent decl.Shared = tt
keyword_silent _ = tt

start_silent : (b : Bool) (k : DeclKind) → Holds (is_silent (decl_start b k))
start_silent true k = keyword_silent k
start_silent false k = tt

end_silent : (b : Bool) → Leaves (decl_end b) (λ ps. ps)
end_silent true = silent kind.Semi tt
end_silent false = none

gap : (ds : List Decl) → Leaves (decls_gap ds) (λ ps. ps)
gap [] = silent kind.Semi tt
gap (d ∷ ds) = end_silent d.first

declarations : (ds : List Decl) → Leaves (decls_spelled ds) (decls_left ds)
declarations [] = none
declarations (d ∷ ds) = both (silent (decl_start d.first d.kind) (start_silent d.first d.kind)) (both (named d.word) (both (gap ds) (declarations ds)))

other_params : (ws : List Word) → Leaves (other_params_spelled ws) (params_left ws)
other_params [] = none
other_params (w ∷ ws) = both (both (silent kind.Comma tt) (named w)) (other_params ws)

params : (ws : List Word) → Leaves (params_spelled ws) (params_left ws)
params [] = none
params (w ∷ ws) = both (named w) (other_params ws)

procedure : (p : Procedure) → Leaves (procedure_spelled p) (procedure_left p)
procedure p =
    both (both (silent kind.Proc tt) (both (named p.name) (silent kind.Open tt))) (both (params p.params) (both (both (silent kind.Close tt) (block p.body)) (end_with kind.Proc tt)))

procedures : (ps : List Procedure) → Leaves (procedures_spelled ps) (procedures_left ps)
procedures [] = none
procedures (p ∷ ps) = both (procedure p) (procedures ps)

-- a script takes all the places of its tokens
pub all_taken : (s : ProcedureSource) (ts : List Token) → procedure_source_spelled s ≡ kinds ts → source_left s (noted_then ts) ≡ 0 ∷ []
all_taken s ts e =
    ap (λ z. source_left s (noted_then z)) (sym (append-nil ts)) ∙ (both (declarations s.decls) (both (procedures s.procs) (block s.body))).from ts [] (sym e)
