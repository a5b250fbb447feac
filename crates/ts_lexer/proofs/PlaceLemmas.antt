-- A script with other places.
use Rattle.std.proofs.Common.{◌≡◌, ℕ, suc, ◌+◌, ◌-◌, ◌≤◌, List, [], ◌∷◌, ◌++◌, length, take, drop, map, Option, Some, None, refl, sym, ◌∙◌, ap, subst, length-append, length-drop, arith}
use Rattle.std.proofs.lemmas.List.{take-append-drop, length-take-le}
use Rattle.ts_trees.specs.declared.word.Word.{Word}
use Rattle.ts_trees.specs.declared.stmt.Step.{Step}
use Rattle.ts_trees.specs.declared.dialect.Dialect.TheVariants as dialect
use Rattle.ts_trees.specs.declared.script.Decl.{Decl}
use Rattle.ts_trees.specs.declared.script.DeclKind.{DeclKind}
use Rattle.ts_trees.specs.declared.token.TokenKind.TheVariants as kind
use Rattle.ts_trees.specs.Tree.{Tree, number, variable, item, size, message_item, message_size, call, negative, inverse, two, paren, Trees, no_trees, tree_then, Act, set, set_item, append, take_last, clear, call_alone, if_then, if_else, for_next, while_do, run_procedure, Acts, no_acts, act_then, Source}
use Rattle.ts_trees.specs.Spelling.{name, sign, spelled, args_spelled, more_spelled, step_spelled, act_spelled, acts_spelled, decl_start, decls_gap, decls_spelled, source_spelled, places, args_places, step_places, act_places, acts_places, decls_places, source_places}
use Rattle.ts_trees.specs.Derived.{level, Derived, ArgsDerived, ActDerived, ActsDerived, NamesFollow, DeclsDerived, IsDerived}
use Rattle.ts_lexer.specs.Bare.{bare_word, bare_tree, bare_trees, bare_step, bare_act, bare_acts, bare_decl, bare}

-- the first place of a list, and those behind it

abbrev first_of : List ℕ → ℕ
first_of [] = 0
first_of (p ∷ ps) = p

abbrev rest_of : List ℕ → List ℕ
rest_of [] = []
rest_of (p ∷ ps) = ps

-- a tree with the places of a list, in their order

abbrev word_at : Word → List ℕ → Word
word_at w ps = record { name = w.name; place = first_of ps }

abbrev mutual
  tree_at : Tree → List ℕ → Tree
  tree_at (number n) ps = number n
  tree_at (variable w) ps = variable (word_at w ps)
  tree_at (item w e) ps = item (word_at w ps) (tree_at e (rest_of ps))
  tree_at (size w) ps = size (word_at w ps)
  tree_at (message_item e) ps = message_item (tree_at e ps)
  tree_at message_size ps = message_size
  tree_at (call w es) ps = call (word_at w ps) (trees_at es (rest_of ps))
  tree_at (negative e) ps = negative (tree_at e ps)
  tree_at (inverse e) ps = inverse (tree_at e ps)
  tree_at (two o l r) ps = two o (tree_at l (take (length (places l)) ps)) (tree_at r (drop (length (places l)) ps))
  tree_at (paren e) ps = paren (tree_at e ps)

  trees_at : Trees → List ℕ → Trees
  trees_at no_trees ps = no_trees
  trees_at (tree_then e es) ps = tree_then (tree_at e (take (length (places e)) ps)) (trees_at es (drop (length (places e)) ps))

abbrev step_at : Option Step → List ℕ → Option Step
step_at None ps = None
step_at (Some s) ps = Some (record { minus = s.minus; size = s.size; place = first_of ps })

abbrev mutual
  act_at : Act → List ℕ → Act
  act_at (set w e) ps = set (word_at w ps) (tree_at e (rest_of ps))
  act_at (set_item w i e) ps = set_item (word_at w ps) (tree_at i (take (length (places i)) (rest_of ps))) (tree_at e (drop (length (places i)) (rest_of ps)))
  act_at (append w e) ps = append (word_at w ps) (tree_at e (rest_of ps))
  act_at (take_last w b) ps = take_last (word_at w ps) (word_at b (rest_of ps))
  act_at (clear w) ps = clear (word_at w ps)
  act_at (call_alone w es) ps = call_alone (word_at w ps) (trees_at es (rest_of ps))
  act_at (if_then e a) ps = if_then (tree_at e (take (length (places e)) ps)) (acts_at a (drop (length (places e)) ps))
  act_at (if_else e a b) ps =
      let qs = drop (length (places e)) ps in
      if_else (tree_at e (take (length (places e)) ps)) (acts_at a (take (length (acts_places a)) qs)) (acts_at b (drop (length (acts_places a)) qs))
  act_at (for_next w f t s a v) ps =
      let qs = rest_of ps in
      let rs = drop (length (places f)) qs in
      let ss = drop (length (places t)) rs in
      let us = drop (length (step_places s)) ss in
      for_next (word_at w ps) (tree_at f (take (length (places f)) qs)) (tree_at t (take (length (places t)) rs)) (step_at s (take (length (step_places s)) ss))
      (acts_at a (take (length (acts_places a)) us)) (word_at v (drop (length (acts_places a)) us))
  act_at (while_do e a) ps = while_do (tree_at e (take (length (places e)) ps)) (acts_at a (drop (length (places e)) ps))
  act_at (run_procedure w es) ps = run_procedure (word_at w ps) (trees_at es (rest_of ps))

  acts_at : Acts → List ℕ → Acts
  acts_at no_acts ps = no_acts
  acts_at (act_then a more) ps = act_then (act_at a (take (length (act_places a)) ps)) (acts_at more (drop (length (act_places a)) ps))

abbrev decls_at : List Decl → List ℕ → List Decl
decls_at [] ps = []
decls_at (d ∷ ds) ps = record { kind = d.kind; word = word_at d.word ps; first = d.first } ∷ decls_at ds (rest_of ps)

abbrev pub source_at : Source → List ℕ → Source
source_at s ps = record { decls = decls_at s.decls (take (length (decls_places s.decls)) ps); body = acts_at s.body (drop (length (decls_places s.decls)) ps) }

-- it is the same without its places

ap2 : {A B C : Type 0} (f : A → B → C) {a a' : A} {b b' : B} → a ≡ a' → b ≡ b' → f a b ≡ f a' b'
ap2 f {a} {a'} {b} {b'} p q = ap (λ x. f x b) p ∙ ap (f a') q

mutual
  tree_at-bare : (e : Tree) (ps : List ℕ) → bare_tree (tree_at e ps) ≡ bare_tree e
  tree_at-bare (number n) ps = refl
  tree_at-bare (variable w) ps = refl
  tree_at-bare (item w e) ps = ap (item (bare_word w)) (tree_at-bare e (rest_of ps))
  tree_at-bare (size w) ps = refl
  tree_at-bare (message_item e) ps = ap (λ z. message_item z) (tree_at-bare e ps)
  tree_at-bare message_size ps = refl
  tree_at-bare (call w es) ps = ap (call (bare_word w)) (trees_at-bare es (rest_of ps))
  tree_at-bare (negative e) ps = ap (λ z. negative z) (tree_at-bare e ps)
  tree_at-bare (inverse e) ps = ap (λ z. inverse z) (tree_at-bare e ps)
  tree_at-bare (two o l r) ps = ap2 (λ x y. two o x y) (tree_at-bare l (take (length (places l)) ps)) (tree_at-bare r (drop (length (places l)) ps))
  tree_at-bare (paren e) ps = ap (λ z. paren z) (tree_at-bare e ps)

  trees_at-bare : (es : Trees) (ps : List ℕ) → bare_trees (trees_at es ps) ≡ bare_trees es
  trees_at-bare no_trees ps = refl
  trees_at-bare (tree_then e es) ps = ap2 (λ x y. tree_then x y) (tree_at-bare e (take (length (places e)) ps)) (trees_at-bare es (drop (length (places e)) ps))

step_at-bare : (s : Option Step) (ps : List ℕ) → bare_step (step_at s ps) ≡ bare_step s
step_at-bare None ps = refl
step_at-bare (Some s) ps = refl

mutual
  act_at-bare : (a : Act) (ps : List ℕ) → bare_act (act_at a ps) ≡ bare_act a
  act_at-bare (set w e) ps = ap (set (bare_word w)) (tree_at-bare e (rest_of ps))
  act_at-bare (set_item w i e) ps = ap2 (λ x y. set_item (bare_word w) x y) (tree_at-bare i (take (length (places i)) (rest_of ps))) (tree_at-bare e (drop (length (places i)) (rest_of ps)))
  act_at-bare (append w e) ps = ap (append (bare_word w)) (tree_at-bare e (rest_of ps))
  act_at-bare (take_last w b) ps = refl
  act_at-bare (clear w) ps = refl
  act_at-bare (call_alone w es) ps = ap (call_alone (bare_word w)) (trees_at-bare es (rest_of ps))
  act_at-bare (if_then e a) ps = ap2 (λ x y. if_then x y) (tree_at-bare e (take (length (places e)) ps)) (acts_at-bare a (drop (length (places e)) ps))
  act_at-bare (if_else e a b) ps =
      let qs = drop (length (places e)) ps in
      ap (λ x. if_else x (bare_acts (acts_at a (take (length (acts_places a)) qs))) (bare_acts (acts_at b (drop (length (acts_places a)) qs)))) (tree_at-bare e (take (length (places e)) ps))
      ∙ ap2 (λ x y. if_else (bare_tree e) x y) (acts_at-bare a (take (length (acts_places a)) qs)) (acts_at-bare b (drop (length (acts_places a)) qs))
  act_at-bare (for_next w f t s a v) ps =
      let qs = rest_of ps in
      let rs = drop (length (places f)) qs in
      let ss = drop (length (places t)) rs in
      let us = drop (length (step_places s)) ss in
      let f' = bare_tree (tree_at f (take (length (places f)) qs)) in
      let s' = bare_step (step_at s (take (length (step_places s)) ss)) in
      let a' = bare_acts (acts_at a (take (length (acts_places a)) us)) in
      ap2 (λ x y. for_next (bare_word w) x y s' a' (bare_word v)) (tree_at-bare f (take (length (places f)) qs)) (tree_at-bare t (take (length (places t)) rs))
      ∙ ap2 (λ x y. for_next (bare_word w) (bare_tree f) (bare_tree t) x y (bare_word v)) (step_at-bare s (take (length (step_places s)) ss)) (acts_at-bare a (take (length (acts_places a)) us))
  act_at-bare (while_do e a) ps = ap2 (λ x y. while_do x y) (tree_at-bare e (take (length (places e)) ps)) (acts_at-bare a (drop (length (places e)) ps))
  act_at-bare (run_procedure w es) ps = ap (run_procedure (bare_word w)) (trees_at-bare es (rest_of ps))

  acts_at-bare : (a : Acts) (ps : List ℕ) → bare_acts (acts_at a ps) ≡ bare_acts a
  acts_at-bare no_acts ps = refl
  acts_at-bare (act_then a more) ps = ap2 (λ x y. act_then x y) (act_at-bare a (take (length (act_places a)) ps)) (acts_at-bare more (drop (length (act_places a)) ps))

decls_at-bare : (ds : List Decl) (ps : List ℕ) → map bare_decl (decls_at ds ps) ≡ map bare_decl ds
decls_at-bare [] ps = refl
decls_at-bare (d ∷ ds) ps = ap (λ z. bare_decl d ∷ z) (decls_at-bare ds (rest_of ps))

source_of_parts : List Decl → Acts → Source
source_of_parts ds a = record { decls = ds; body = a }

pub source_at-bare : (s : Source) (ps : List ℕ) → bare (source_at s ps) ≡ bare s
unfolding source_of_parts
source_at-bare s ps = ap2 source_of_parts (decls_at-bare s.decls (take (length (decls_places s.decls)) ps)) (acts_at-bare s.body (drop (length (decls_places s.decls)) ps))

-- a tree spells what it spells without its places, and the grammar derives both or none

mutual
  bare-spelled : (e : Tree) → spelled (bare_tree e) ≡ spelled e
  bare-spelled (number n) = refl
  bare-spelled (variable w) = refl
  bare-spelled (item w e) = ap (λ z. name w ∷ kind.OpenBox ∷ z ++ kind.CloseBox ∷ []) (bare-spelled e)
  bare-spelled (size w) = refl
  bare-spelled (message_item e) = ap (λ z. kind.Msg ∷ kind.OpenBox ∷ z ++ kind.CloseBox ∷ []) (bare-spelled e)
  bare-spelled message_size = refl
  bare-spelled (call w es) = ap (λ z. name w ∷ kind.Open ∷ z ++ kind.Close ∷ []) (bare-args es)
  bare-spelled (negative e) = ap (λ z. kind.Minus ∷ z) (bare-spelled e)
  bare-spelled (inverse e) = ap (λ z. kind.Not ∷ z) (bare-spelled e)
  bare-spelled (two o l r) = ap2 (λ x y. x ++ sign o ∷ y) (bare-spelled l) (bare-spelled r)
  bare-spelled (paren e) = ap (λ z. kind.Open ∷ z ++ kind.Close ∷ []) (bare-spelled e)

  bare-args : (es : Trees) → args_spelled (bare_trees es) ≡ args_spelled es
  bare-args no_trees = refl
  bare-args (tree_then e es) = ap2 (λ x y. x ++ y) (bare-spelled e) (bare-more es)

  bare-more : (es : Trees) → more_spelled (bare_trees es) ≡ more_spelled es
  bare-more no_trees = refl
  bare-more (tree_then e es) = ap2 (λ x y. kind.Comma ∷ x ++ y) (bare-spelled e) (bare-more es)

bare-step : (s : Option Step) → step_spelled (bare_step s) ≡ step_spelled s
bare-step None = refl
bare-step (Some s) = refl

mutual
  bare-act : (a : Act) → act_spelled (bare_act a) ≡ act_spelled a
  bare-act (set w e) = ap (λ z. name w ∷ kind.Eq ∷ z ++ kind.Semi ∷ []) (bare-spelled e)
  bare-act (set_item w i e) = ap2 (λ x y. name w ∷ kind.OpenBox ∷ x ++ (kind.CloseBox ∷ kind.Eq ∷ y ++ kind.Semi ∷ [])) (bare-spelled i) (bare-spelled e)
  bare-act (append w e) = ap (λ z. name w ∷ kind.OpenBox ∷ kind.CloseBox ∷ kind.Eq ∷ z ++ kind.Semi ∷ []) (bare-spelled e)
  bare-act (take_last w b) = refl
  bare-act (clear w) = refl
  bare-act (call_alone w es) = ap (λ z. name w ∷ kind.Open ∷ z ++ kind.Close ∷ kind.Semi ∷ []) (bare-args es)
  bare-act (if_then e a) = ap2 (λ x y. kind.If ∷ x ++ (kind.Then ∷ y ++ kind.End ∷ kind.If ∷ [])) (bare-spelled e) (bare-acts a)
  bare-act (if_else e a b) =
      ap (λ x. kind.If ∷ x ++ (kind.Then ∷ acts_spelled (bare_acts a) ++ (kind.Else ∷ acts_spelled (bare_acts b) ++ kind.End ∷ kind.If ∷ []))) (bare-spelled e)
      ∙ ap2 (λ x y. kind.If ∷ spelled e ++ (kind.Then ∷ x ++ (kind.Else ∷ y ++ kind.End ∷ kind.If ∷ []))) (bare-acts a) (bare-acts b)
  bare-act (for_next w f t s a v) =
      ap2 (λ x y. kind.For ∷ name w ∷ kind.Eq ∷ x ++ (kind.To ∷ y ++ (step_spelled (bare_step s) ++ (acts_spelled (bare_acts a) ++ kind.Next ∷ name v ∷ [])))) (bare-spelled f) (bare-spelled t)
      ∙ ap2 (λ x y. kind.For ∷ name w ∷ kind.Eq ∷ spelled f ++ (kind.To ∷ spelled t ++ (x ++ (y ++ kind.Next ∷ name v ∷ [])))) (bare-step s) (bare-acts a)
  bare-act (while_do e a) = ap2 (λ x y. kind.While ∷ x ++ (y ++ kind.End ∷ kind.While ∷ [])) (bare-spelled e) (bare-acts a)
  bare-act (run_procedure w es) = ap (λ z. kind.Do ∷ name w ∷ kind.Open ∷ z ++ kind.Close ∷ kind.Semi ∷ []) (bare-args es)

  bare-acts : (a : Acts) → acts_spelled (bare_acts a) ≡ acts_spelled a
  bare-acts no_acts = refl
  bare-acts (act_then a more) = ap2 (λ x y. x ++ y) (bare-act a) (bare-acts more)

bare-gap : (ds : List Decl) → decls_gap (map bare_decl ds) ≡ decls_gap ds
bare-gap [] = refl
bare-gap (d ∷ ds) = refl

bare-decls : (ds : List Decl) → decls_spelled (map bare_decl ds) ≡ decls_spelled ds
bare-decls [] = refl
bare-decls (d ∷ ds) = ap2 (λ x y. decl_start d.first d.kind ∷ name d.word ∷ (x ++ y)) (bare-gap ds) (bare-decls ds)

bare-source : (s : Source) → source_spelled (bare s) ≡ source_spelled s
bare-source s = ap2 (λ x y. x ++ y) (bare-decls s.decls) (bare-acts s.body)

pub source_at-spelled : (s : Source) (ps : List ℕ) → source_spelled (source_at s ps) ≡ source_spelled s
source_at-spelled s ps = sym (bare-source (source_at s ps)) ∙ ap source_spelled (source_at-bare s ps) ∙ bare-source s

-- the grammar derives it

level_at : (e : Tree) (ps : List ℕ) → level (tree_at e ps) ≡ level e
level_at (number n) ps = refl
level_at (variable w) ps = refl
level_at (item w e) ps = refl
level_at (size w) ps = refl
level_at (message_item e) ps = refl
level_at message_size ps = refl
level_at (call w es) ps = refl
level_at (negative e) ps = refl
level_at (inverse e) ps = refl
level_at (two o l r) ps = refl
level_at (paren e) ps = refl

part_at : (n : ℕ) (e : Tree) (ps : List ℕ) → n ≤ level e → n ≤ level (tree_at e ps)
part_at n e ps h = subst (λ l. n ≤ l) (sym (level_at e ps)) h

mutual
  tree_at-Derived : (e : Tree) (ps : List ℕ) → Derived e → Derived (tree_at e ps)
  tree_at-Derived (number n) ps d = tt
  tree_at-Derived (variable w) ps d = tt
  tree_at-Derived (item w e) ps d = tree_at-Derived e (rest_of ps) d
  tree_at-Derived (size w) ps d = tt
  tree_at-Derived (message_item e) ps d = tree_at-Derived e ps d
  tree_at-Derived message_size ps d = tt
  tree_at-Derived (call w es) ps d = trees_at-Derived es (rest_of ps) d
  tree_at-Derived (negative e) ps d = (part_at 6 e ps d.0, tree_at-Derived e ps d.1)
  tree_at-Derived (inverse e) ps d = (part_at 2 e ps d.0, tree_at-Derived e ps d.1)
  tree_at-Derived (two o l r) ps d =
      let ls = take (length (places l)) ps in
      let rs = drop (length (places l)) ps in
      (part_at _ l ls d.0, tree_at-Derived l ls d.1, part_at _ r rs d.2, tree_at-Derived r rs d.3)
  tree_at-Derived (paren e) ps d = tree_at-Derived e ps d

  trees_at-Derived : (es : Trees) (ps : List ℕ) → ArgsDerived es → ArgsDerived (trees_at es ps)
  trees_at-Derived no_trees ps d = tt
  trees_at-Derived (tree_then e es) ps d = (tree_at-Derived e (take (length (places e)) ps) d.0, trees_at-Derived es (drop (length (places e)) ps) d.1)

mutual
  act_at-Derived : (a : Act) (ps : List ℕ) → ActDerived dialect.Plain a → ActDerived dialect.Plain (act_at a ps)
  act_at-Derived (set w e) ps d = tree_at-Derived e (rest_of ps) d
  act_at-Derived (set_item w i e) ps d = (tree_at-Derived i (take (length (places i)) (rest_of ps)) d.0, tree_at-Derived e (drop (length (places i)) (rest_of ps)) d.1)
  act_at-Derived (append w e) ps d = tree_at-Derived e (rest_of ps) d
  act_at-Derived (take_last w b) ps d = tt
  act_at-Derived (clear w) ps d = tt
  act_at-Derived (call_alone w es) ps d = trees_at-Derived es (rest_of ps) d
  act_at-Derived (if_then e a) ps d = (tree_at-Derived e (take (length (places e)) ps) d.0, acts_at-Derived a (drop (length (places e)) ps) d.1)
  act_at-Derived (if_else e a b) ps d =
      let qs = drop (length (places e)) ps in
      (tree_at-Derived e (take (length (places e)) ps) d.0, acts_at-Derived a (take (length (acts_places a)) qs) d.1, acts_at-Derived b (drop (length (acts_places a)) qs) d.2)
  act_at-Derived (for_next w f t s a v) ps d =
      let qs = rest_of ps in
      let rs = drop (length (places f)) qs in
      let ss = drop (length (places t)) rs in
      let us = drop (length (step_places s)) ss in
      (tree_at-Derived f (take (length (places f)) qs) d.0, tree_at-Derived t (take (length (places t)) rs) d.1, acts_at-Derived a (take (length (acts_places a)) us) d.2)
  act_at-Derived (while_do e a) ps d = (tree_at-Derived e (take (length (places e)) ps) d.0, acts_at-Derived a (drop (length (places e)) ps) d.1)
  act_at-Derived (run_procedure w es) ps d = absurd d

  acts_at-Derived : (a : Acts) (ps : List ℕ) → ActsDerived dialect.Plain a → ActsDerived dialect.Plain (acts_at a ps)
  acts_at-Derived no_acts ps d = tt
  acts_at-Derived (act_then a more) ps d = (act_at-Derived a (take (length (act_places a)) ps) d.0, acts_at-Derived more (drop (length (act_places a)) ps) d.1)

names_at : (k : DeclKind) (ds : List Decl) (ps : List ℕ) → NamesFollow k ds → NamesFollow k (decls_at ds ps)
names_at k [] ps h = tt
names_at k (d ∷ ds) ps h = (h.0, names_at d.kind ds (rest_of ps) h.1)

decls_at-Derived : (ds : List Decl) (ps : List ℕ) → DeclsDerived ds → DeclsDerived (decls_at ds ps)
decls_at-Derived [] ps h = tt
decls_at-Derived (d ∷ ds) ps h = (h.0, names_at d.kind ds (rest_of ps) h.1)

pub source_at-IsDerived : (s : Source) (ps : List ℕ) → IsDerived s → IsDerived (source_at s ps)
source_at-IsDerived s ps h = record {
  decls = decls_at-Derived s.decls (take (length (decls_places s.decls)) ps) h.decls;
  body = acts_at-Derived s.body (drop (length (decls_places s.decls)) ps) h.body;
}

-- it has the places

none_there : (ps : List ℕ) → length ps ≡ 0 → [] ≡ ps
none_there [] h = refl
none_there (p ∷ ps) h = absurd (omega arith)

then_there : (n : ℕ) (ps : List ℕ) (f : List ℕ → List ℕ) → ((qs : List ℕ) → length qs ≡ n → f qs ≡ qs) → length ps ≡ suc n → first_of ps ∷ f (rest_of ps) ≡ ps
then_there n [] f each h = absurd (omega arith)
then_there n (p ∷ ps) f each h = ap (λ z. p ∷ z) (each ps (omega arith))

both_there : (xs ys ps : List ℕ) (f g : List ℕ → List ℕ) → ((qs : List ℕ) → length qs ≡ length xs → f qs ≡ qs) → ((qs : List ℕ) → length qs ≡ length ys → g qs ≡ qs)
    → length ps ≡ length (xs ++ ys) → f (take (length xs) ps) ++ g (drop (length xs) ps) ≡ ps
both_there xs ys ps f g left right h =
    let n : length ps ≡ length xs + length ys = h ∙ length-append xs ys in
    let fits : length xs ≤ length ps = omega arith in
    let rest : length (drop (length xs) ps) ≡ length ys = length-drop (length xs) ps ∙ (let e : length ps - length xs ≡ length ys = omega arith in e) in
    ap2 (λ (x y : List ℕ). x ++ y) (left (take (length xs) ps) (length-take-le (length xs) ps fits)) (right (drop (length xs) ps) rest) ∙ take-append-drop (length xs) ps

mutual
  tree_at-places : (e : Tree) (ps : List ℕ) → length ps ≡ length (places e) → places (tree_at e ps) ≡ ps
  tree_at-places (number n) ps h = none_there ps h
  tree_at-places (variable w) ps h = then_there 0 ps (λ _. []) none_there h
  tree_at-places (item w e) ps h = then_there (length (places e)) ps (λ qs. places (tree_at e qs)) (λ qs g. tree_at-places e qs g) h
  tree_at-places (size w) ps h = then_there 0 ps (λ _. []) none_there h
  tree_at-places (message_item e) ps h = tree_at-places e ps h
  tree_at-places message_size ps h = none_there ps h
  tree_at-places (call w es) ps h = then_there (length (args_places es)) ps (λ qs. args_places (trees_at es qs)) (λ qs g. trees_at-places es qs g) h
  tree_at-places (negative e) ps h = tree_at-places e ps h
  tree_at-places (inverse e) ps h = tree_at-places e ps h
  tree_at-places (two o l r) ps h = both_there (places l) (places r) ps (λ qs. places (tree_at l qs)) (λ qs. places (tree_at r qs)) (λ qs g. tree_at-places l qs g) (λ qs g. tree_at-places r qs g) h
  tree_at-places (paren e) ps h = tree_at-places e ps h

  trees_at-places : (es : Trees) (ps : List ℕ) → length ps ≡ length (args_places es) → args_places (trees_at es ps) ≡ ps
  trees_at-places no_trees ps h = none_there ps h
  trees_at-places (tree_then e es) ps h =
      both_there (places e) (args_places es) ps (λ qs. places (tree_at e qs)) (λ qs. args_places (trees_at es qs)) (λ qs g. tree_at-places e qs g) (λ qs g. trees_at-places es qs g) h

step_at-places : (s : Option Step) (ps : List ℕ) → length ps ≡ length (step_places s) → step_places (step_at s ps) ≡ ps
step_at-places None ps h = none_there ps h
step_at-places (Some s) ps h = then_there 0 ps (λ _. []) none_there h

-- one more place behind a block
last_there : (xs : List ℕ) (w : Word) (ps : List ℕ) (f : List ℕ → List ℕ) → ((qs : List ℕ) → length qs ≡ length xs → f qs ≡ qs) → length ps ≡ length (xs ++ w.place ∷ [])
    → f (take (length xs) ps) ++ first_of (drop (length xs) ps) ∷ [] ≡ ps
last_there xs w ps f each h = both_there xs (w.place ∷ []) ps f (λ qs. first_of qs ∷ []) each (λ qs g. then_there 0 qs (λ _. []) none_there g) h

mutual
  act_at-places : (a : Act) (ps : List ℕ) → length ps ≡ length (act_places a) → act_places (act_at a ps) ≡ ps
  act_at-places (set w e) ps h = then_there (length (places e)) ps (λ qs. places (tree_at e qs)) (λ qs g. tree_at-places e qs g) h
  act_at-places (set_item w i e) ps h =
      then_there (length (places i ++ places e)) ps (λ qs. places (tree_at i (take (length (places i)) qs)) ++ places (tree_at e (drop (length (places i)) qs)))
      (λ qs g. both_there (places i) (places e) qs (λ rs. places (tree_at i rs)) (λ rs. places (tree_at e rs)) (λ rs k. tree_at-places i rs k) (λ rs k. tree_at-places e rs k) g) h
  act_at-places (append w e) ps h = then_there (length (places e)) ps (λ qs. places (tree_at e qs)) (λ qs g. tree_at-places e qs g) h
  act_at-places (take_last w b) ps h = then_there 1 ps (λ qs. first_of qs ∷ []) (λ qs g. then_there 0 qs (λ _. []) none_there g) h
  act_at-places (clear w) ps h = then_there 0 ps (λ _. []) none_there h
  act_at-places (call_alone w es) ps h = then_there (length (args_places es)) ps (λ qs. args_places (trees_at es qs)) (λ qs g. trees_at-places es qs g) h
  act_at-places (if_then e a) ps h =
      both_there (places e) (acts_places a) ps (λ qs. places (tree_at e qs)) (λ qs. acts_places (acts_at a qs)) (λ qs g. tree_at-places e qs g) (λ qs g. acts_at-places a qs g) h
  act_at-places (if_else e a b) ps h =
      both_there (places e) (acts_places a ++ acts_places b) ps (λ qs. places (tree_at e qs))
      (λ qs. acts_places (acts_at a (take (length (acts_places a)) qs)) ++ acts_places (acts_at b (drop (length (acts_places a)) qs)))
      (λ qs g. tree_at-places e qs g)
      (λ qs g. both_there (acts_places a) (acts_places b) qs (λ rs. acts_places (acts_at a rs)) (λ rs. acts_places (acts_at b rs)) (λ rs k. acts_at-places a rs k) (λ rs k. acts_at-places b rs k) g) h
  act_at-places (for_next w f t s a v) ps h =
      then_there (length (places f ++ (places t ++ (step_places s ++ (acts_places a ++ v.place ∷ []))))) ps
      (λ qs. places (tree_at f (take (length (places f)) qs)) ++ behind_from (drop (length (places f)) qs))
      (λ qs g. both_there (places f) (places t ++ (step_places s ++ (acts_places a ++ v.place ∷ []))) qs (λ rs. places (tree_at f rs)) behind_from (λ rs k. tree_at-places f rs k)
      (λ rs k. both_there (places t) (step_places s ++ (acts_places a ++ v.place ∷ [])) rs (λ ss. places (tree_at t ss)) behind_to (λ ss j. tree_at-places t ss j)
      (λ ss j. both_there (step_places s) (acts_places a ++ v.place ∷ []) ss (λ us. step_places (step_at s us)) behind_step (step_at-places s)
      (λ us i. last_there (acts_places a) v us (λ vs. acts_places (acts_at a vs)) (λ vs l. acts_at-places a vs l) i) j) k) g) h
    where
      behind_step : List ℕ → List ℕ
      behind_step us = acts_places (acts_at a (take (length (acts_places a)) us)) ++ first_of (drop (length (acts_places a)) us) ∷ []

      behind_to : List ℕ → List ℕ
      behind_to ss = step_places (step_at s (take (length (step_places s)) ss)) ++ behind_step (drop (length (step_places s)) ss)

      behind_from : List ℕ → List ℕ
      behind_from rs = places (tree_at t (take (length (places t)) rs)) ++ behind_to (drop (length (places t)) rs)
  act_at-places (while_do e a) ps h =
      both_there (places e) (acts_places a) ps (λ qs. places (tree_at e qs)) (λ qs. acts_places (acts_at a qs)) (λ qs g. tree_at-places e qs g) (λ qs g. acts_at-places a qs g) h
  act_at-places (run_procedure w es) ps h = then_there (length (args_places es)) ps (λ qs. args_places (trees_at es qs)) (λ qs g. trees_at-places es qs g) h

  acts_at-places : (a : Acts) (ps : List ℕ) → length ps ≡ length (acts_places a) → acts_places (acts_at a ps) ≡ ps
  acts_at-places no_acts ps h = none_there ps h
  acts_at-places (act_then a more) ps h =
      both_there (act_places a) (acts_places more) ps (λ qs. act_places (act_at a qs)) (λ qs. acts_places (acts_at more qs)) (λ qs g. act_at-places a qs g) (λ qs g. acts_at-places more qs g) h

decls_at-places : (ds : List Decl) (ps : List ℕ) → length ps ≡ length (decls_places ds) → decls_places (decls_at ds ps) ≡ ps
decls_at-places [] ps h = none_there ps h
decls_at-places (d ∷ ds) ps h = then_there (length (decls_places ds)) ps (λ qs. decls_places (decls_at ds qs)) (λ qs g. decls_at-places ds qs g) h

pub source_at-places : (s : Source) (ps : List ℕ) → length ps ≡ length (source_places s) → source_places (source_at s ps) ≡ ps
source_at-places s ps h =
    both_there (decls_places s.decls) (acts_places s.body) ps (λ qs. decls_places (decls_at s.decls qs)) (λ qs. acts_places (acts_at s.body qs)) (decls_at-places s.decls) (acts_at-places s.body) h
