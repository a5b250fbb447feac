-- Names that parameters hide, and lists of renamed arguments.
use Rattle.std.proofs.Common.{◌≡◌, ℕ, suc, ◌+◌, ◌<◌, ◌≤◌, List, [], ◌∷◌, ◌++◌, length, map, take, get_or, Option, Some, None, option_map, refl, ap, sym, ◌∙◌, subst, arith, append_assoc}
use Rattle.std.specs.Prelude.{bytes_eq, IfSome, ◌-◌, ◌==◌}
use Rattle.std.proofs.lemmas.List.{take_all, take_more, length-map, map-append}
use Rattle.ts_trees.specs.declared.expr.Expr.{Expr}
use Rattle.ts_trees.specs.declared.word.Word.{Word}
use Rattle.ts_trees.specs.declared.script.Decl.{Decl}
use Rattle.ts_trees.specs.declared.script.DeclKind.TheVariants.{Private}
use Rattle.ts_trees.specs.Seen.{tree_of, trees, trees_of}
use Rattle.ts_trees.specs.Tree.{Tree, tree_then}
use Rattle.ts_proc_names.specs.Places.{place_of_name}
use Rattle.ts_proc_names.proofs.PlaceLemmas.{position_from-add, position_from-within, position_from-map}
use Rattle.ts_proc_renaming.specs.Renaming.{Hiding, parameter_name, number_hiding, renamed_as, renamed, renamed_expr, renamed_args, parameter_decls}

hiding_place : (h : Hiding) (name : List ℕ) → number_hiding h name ≡ option_map (λ i. h.first + i) (place_of_name (map (λ w. w.name) h.params) name)
hiding_place h name =
    sym (position_from-map (bytes_eq name) h.first h.params) ∙ position_from-add (bytes_eq name) h.first (map (λ w. w.name) h.params)

-- the place of a name is that of a parameter
pub place_within : (params : List Word) (name : List ℕ) (i : ℕ) → Some i ≡ place_of_name (map (λ w. w.name) params) name → i < length params
place_within params name i is =
    let P : Option ℕ → Type 0 = λ o. IfSome o (λ i. i < 0 + length (map (λ (w : Word). w.name) params)) in
    let h : i < 0 + length (map (λ (w : Word). w.name) params) = subst P (sym is) (position_from-within (bytes_eq name) 0 (map (λ w. w.name) params)) in
    omega (arith, h, length-map params (λ (w : Word). w.name))

-- a word with another name
abbrev pub with_text : Word → List ℕ → Word
with_text w name = record { name = name; place = w.place }

-- a name that no parameter hides stays, and another one becomes its parameter's
pub word_stays : (h : Hiding) (w : Word) (name : List ℕ) → name ≡ w.name → None ≡ place_of_name (map (λ w. w.name) h.params) w.name → with_text w name ≡ renamed h w
word_stays h w name is none =
    let same : with_text w name ≡ w = ap (with_text w) is in
    same ∙ ap (renamed_as w) (ap (option_map (λ i. h.first + i)) none ∙ sym (hiding_place h w.name))

pub word_moves : (h : Hiding) (w : Word) (name : List ℕ) (i k : ℕ) → name ≡ parameter_name k → k ≡ h.first + i → Some i ≡ place_of_name (map (λ w. w.name) h.params) w.name
    → with_text w name ≡ renamed h w
word_moves h w name i k is number there =
    let same : with_text w name ≡ renamed_as w (Some (h.first + i)) = ap (with_text w) (is ∙ ap parameter_name number) in
    same ∙ ap (renamed_as w) (ap (option_map (λ i. h.first + i)) there ∙ sym (hiding_place h w.name))

-- an expression that is made of the renamed parts of another
pub renamed_node : (h : Hiding) (from to : Expr) (a : Tree) → tree_of from ≡ a → tree_of to ≡ renamed_expr h a → tree_of to ≡ renamed_expr h (tree_of from)
renamed_node h from to a seen made = made ∙ sym (ap (renamed_expr h) seen)

-- one more argument is renamed
pub renamed_next : (h : Hiding) (xs new more : List Expr) (i : ℕ) (x y : Expr) → i < length xs → x ≡ get_or xs i x → tree_of y ≡ renamed_expr h (tree_of x)
    → more ≡ new ++ y ∷ [] → map tree_of new ≡ map (λ e. renamed_expr h (tree_of e)) (take i xs) → map tree_of more ≡ map (λ e. renamed_expr h (tree_of e)) (take (i + 1) xs)
renamed_next h xs new more i x y within is good pushed are =
    let f : Expr → Tree = λ e. renamed_expr h (tree_of e) in
    ap (map tree_of) pushed ∙ map-append tree_of new (y ∷ []) ∙ ap (λ (ts : List Tree). ts ++ tree_of y ∷ []) are ∙ ap (λ (e : Tree). map f (take i xs) ++ e ∷ []) good
    ∙ sym (map-append f (take i xs) (x ∷ [])) ∙ ap (λ (e : Expr). map f (take i xs ++ e ∷ [])) is ∙ sym (ap (map f) (take_more xs i x within))

renamed_trees : (h : Hiding) (xs : List Expr) → trees (map (λ e. renamed_expr h (tree_of e)) xs) ≡ renamed_args h (trees_of xs)
renamed_trees h [] = refl
renamed_trees h (x ∷ xs) = ap (λ es. tree_then (renamed_expr h (tree_of x)) es) (renamed_trees h xs)

-- all arguments are renamed
pub renamed_all : (h : Hiding) (xs new : List Expr) (i : ℕ) → length xs ≤ i → map tree_of new ≡ map (λ e. renamed_expr h (tree_of e)) (take i xs) → trees_of new ≡ renamed_args h (trees_of xs)
renamed_all h xs new i past are =
    ap trees (are ∙ ap (map (λ e. renamed_expr h (tree_of e))) (take_all i xs past)) ∙ renamed_trees h xs

-- the declaration of parameter i
abbrev pub declared_alone : ℕ → List ℕ → Decl
declared_alone i name = record { kind = Private; word = record { name = name; place = 0 }; first = i == 0 }

-- one more parameter is declared
pub decls_next : (all more : List Decl) (d : Decl) (i n : ℕ) → i < n → d ≡ record { kind = Private; word = record { name = parameter_name i; place = 0 }; first = i == 0 }
    → more ≡ all ++ d ∷ [] → all ++ parameter_decls i (n - i) ≡ more ++ parameter_decls (i + 1) (n - (i + 1))
decls_next all more d i n less is pushed =
    let count : n - i ≡ suc (n - (i + 1)) = omega arith in
    ap (λ m. all ++ parameter_decls i m) count
    ∙ ap (λ (d : Decl). all ++ d ∷ parameter_decls (i + 1) (n - (i + 1))) (sym is)
    ∙ sym (append_assoc all (d ∷ []) (parameter_decls (i + 1) (n - (i + 1)))) ∙ ap (λ ds. ds ++ parameter_decls (i + 1) (n - (i + 1))) (sym pushed)

-- the declaration of a parameter, by its name
pub decl_named : (i : ℕ) (name : List ℕ) → name ≡ parameter_name i → declared_alone i name ≡ declared_alone i (parameter_name i)
decl_named i name is = ap (declared_alone i) is
