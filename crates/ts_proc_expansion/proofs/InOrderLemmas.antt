-- What is built in order of declaration: which names it has, and what is at each place.
use Rattle.std.proofs.Common.{◌≡◌, ℕ, suc, zero, ◌+◌, ◌<◌, List, [], ◌∷◌, ◌++◌, length, map, take, get_or, Some, None, option_map, slice_get, refl, ap, sym, ◌∙◌, subst, arith, append_assoc}
use Rattle.std.specs.Prelude.{bytes_eq}
use Rattle.std.specs.Option.{option_and_then}
use Rattle.std.proofs.lemmas.List.{length-map, length-append, take_more, map-append, take-map, append-nil}
use Rattle.std.proofs.Math.Seq.{take-append_seam}
use Rattle.std.proofs.lemmas.Option.{slice_get-map, slice_get-get_or}
use Rattle.ts_trees.specs.declared.procedure.Proc.{Proc}
use Rattle.ts_trees.specs.Seen.{procedure_of}
use Rattle.ts_trees.specs.Tree.{Procedure}
use Rattle.ts_proc_names.specs.Places.{place_of_name, declared_as}
use Rattle.ts_proc_names.proofs.PlaceLemmas.{lookup-place}
use Rattle.ts_proc_expansion.specs.InOrder.{declared_in_order}

-- the names are those known before, and those of the procedures
pub names-declared_in_order : {A : Type 0} (given : List (List ℕ × A) → Procedure → A) (known : List (List ℕ × A)) (ps : List Procedure)
    → map (λ e. e.0) (declared_in_order given known ps) ≡ map (λ e. e.0) known ++ map (λ p. p.name.name) ps
names-declared_in_order given known [] = sym (append-nil (map (λ e. e.0) known))
names-declared_in_order given known (p ∷ ps) =
    names-declared_in_order given (known ++ (p.name.name, given known p) ∷ []) ps
    ∙ ap (λ ns. ns ++ map (λ p. p.name.name) ps) (map-append (λ e. e.0) known ((p.name.name, given known p) ∷ []))
    ∙ append_assoc (map (λ e. e.0) known) (p.name.name ∷ []) (map (λ p. p.name.name) ps)

-- what is known before stands before
pub record Begins {A : Type 0} (front whole : List (List ℕ × A)) : Type 0 where
  pub rest : List (List ℕ × A)
  pub are : whole ≡ front ++ rest

pub begins-declared_in_order : {A : Type 0} (given : List (List ℕ × A) → Procedure → A) (known : List (List ℕ × A)) (ps : List Procedure) → Begins known (declared_in_order given known ps)
begins-declared_in_order given known [] = record { rest = []; are = sym (append-nil known) }
begins-declared_in_order given known (p ∷ ps) =
    let later : Begins (known ++ (p.name.name, given known p) ∷ []) (declared_in_order given (known ++ (p.name.name, given known p) ∷ []) ps) =
    begins-declared_in_order given (known ++ (p.name.name, given known p) ∷ []) ps in
    record { rest = (p.name.name, given known p) ∷ later.rest; are = later.are ∙ append_assoc known ((p.name.name, given known p) ∷ []) later.rest }

at_seam : {X : Type 0} (xs : List X) (y : X) (ys : List X) → slice_get (xs ++ y ∷ ys) (length xs) ≡ Some y
at_seam [] y ys = refl
at_seam (x ∷ xs) y ys = at_seam xs y ys

-- at its place stands a procedure's name, with what those before it give of it
pub at-declared_in_order : {A : Type 0} (given : List (List ℕ × A) → Procedure → A) (known : List (List ℕ × A)) (ps : List Procedure) (j : ℕ) (p : Procedure) → slice_get ps j ≡ Some p
    → slice_get (declared_in_order given known ps) (length known + j) ≡ Some (p.name.name, given (take (length known + j) (declared_in_order given known ps)) p)
at-declared_in_order given known [] j p is = cc
at-declared_in_order {A} given known (q ∷ ps) zero p is =
    let e : List ℕ × A = (q.name.name, given known q) in
    let later : Begins (known ++ e ∷ []) (declared_in_order given (known ++ e ∷ []) ps) = begins-declared_in_order given (known ++ e ∷ []) ps in
    let whole : declared_in_order given (known ++ e ∷ []) ps ≡ known ++ e ∷ later.rest = later.are ∙ append_assoc known (e ∷ []) later.rest in
    let here : length known + 0 ≡ length known = omega arith in
    let front : take (length known + 0) (declared_in_order given (known ++ e ∷ []) ps) ≡ known =
    ap (λ n. take n (declared_in_order given (known ++ e ∷ []) ps)) here ∙ ap (take (length known)) whole ∙ take-append_seam known (e ∷ later.rest) in
    let same : q ≡ p = cc in
    ap (slice_get (declared_in_order given (known ++ e ∷ []) ps)) here ∙ ap (λ xs. slice_get xs (length known)) whole ∙ at_seam known e later.rest
    ∙ ap (λ xs. Some (q.name.name, given xs q)) (sym front)
    ∙ ap (λ q. Some (q.name.name, given (take (length known + 0) (declared_in_order given (known ++ e ∷ []) ps)) q)) same
at-declared_in_order {A} given known (q ∷ ps) (suc j) p is =
    let e : List ℕ × A = (q.name.name, given known q) in
    let there : length (known ++ e ∷ []) + j ≡ length known + suc j = omega (arith, length-append known (e ∷ [])) in
    subst (λ n. slice_get (declared_in_order given (known ++ e ∷ []) ps) n ≡ Some (p.name.name, given (take n (declared_in_order given (known ++ e ∷ []) ps)) p)) there
    (at-declared_in_order given (known ++ e ∷ []) ps j p is)

pub slice_get-take : {X : Type 0} (n : ℕ) (xs : List X) (i : ℕ) → i < n → slice_get (take n xs) i ≡ slice_get xs i
slice_get-take zero xs i less = absurd (omega arith)
slice_get-take (suc n) [] i less = refl
slice_get-take (suc n) (x ∷ xs) zero less = refl
slice_get-take (suc n) (x ∷ xs) (suc i) less = slice_get-take n xs i (omega arith)

-- the same of the program's procedures, from the first on
pub at_place : {A : Type 0} (given : List (List ℕ × A) → Procedure → A) (procs : List Proc) (i : ℕ) (p : Proc) → i < length procs → p ≡ get_or procs i p
    → slice_get (declared_in_order given [] (map procedure_of procs)) i ≡ Some (p.name.name, given (take i (declared_in_order given [] (map procedure_of procs))) (procedure_of p))
at_place given procs i p within is =
    let here : slice_get (map procedure_of procs) i ≡ Some (procedure_of p) =
    slice_get-map procedure_of procs i ∙ ap (option_map procedure_of) (slice_get-get_or procs i p within ∙ ap Some (sym is)) in
    let zeroth : 0 + i ≡ i = omega arith in
    subst (λ n. slice_get (declared_in_order given [] (map procedure_of procs)) n ≡ Some (p.name.name, given (take n (declared_in_order given [] (map procedure_of procs))) (procedure_of p))) zeroth
    (at-declared_in_order given [] (map procedure_of procs) i (procedure_of p) here)

map-map : (procs : List Proc) → map (λ p. p.name.name) (map procedure_of procs) ≡ map (λ p. p.name.name) procs
map-map [] = refl
map-map (p ∷ ps) = ap (λ ns. p.name.name ∷ ns) (map-map ps)

pub names_of_procs : {A : Type 0} (given : List (List ℕ × A) → Procedure → A) (procs : List Proc) → map (λ e. e.0) (declared_in_order given [] (map procedure_of procs)) ≡ map (λ p. p.name.name) procs
names_of_procs given procs = names-declared_in_order given [] (map procedure_of procs) ∙ map-map procs

pub length-declared_in_order : {A : Type 0} (given : List (List ℕ × A) → Procedure → A) (procs : List Proc) → length (declared_in_order given [] (map procedure_of procs)) ≡ length procs
length-declared_in_order given procs =
    sym (length-map (declared_in_order given [] (map procedure_of procs)) (λ e. e.0)) ∙ ap length (names_of_procs given procs) ∙ length-map procs (λ p. p.name.name)

-- one more procedure
pub one_more : {A : Type 0} (given : List (List ℕ × A) → Procedure → A) (procs : List Proc) (i : ℕ) (p : Proc) → i < length procs → p ≡ get_or procs i p
    → take (i + 1) (declared_in_order given [] (map procedure_of procs))
    ≡ take i (declared_in_order given [] (map procedure_of procs)) ++ (p.name.name, given (take i (declared_in_order given [] (map procedure_of procs))) (procedure_of p)) ∷ []
one_more {A} given procs i p within is =
    let all : List (List ℕ × A) = declared_in_order given [] (map procedure_of procs) in
    let e : List ℕ × A = (p.name.name, given (take i all) (procedure_of p)) in
    let inside : i < length all = omega (arith, length-declared_in_order given procs) in
    let item : Some (get_or all i e) ≡ Some e = sym (slice_get-get_or all i e inside) ∙ at_place given procs i p within is in
    let same : get_or all i e ≡ e = cc in
    take_more all i e inside ∙ ap (λ y. take i all ++ y ∷ []) same

-- what the first n procedures give for a name that none of them has, and for that of one
pub none_named : {A : Type 0} (given : List (List ℕ × A) → Procedure → A) (procs : List Proc) (n : ℕ) (name : List ℕ)
    → None ≡ place_of_name (take n (map (λ p. p.name.name) procs)) name → declared_as (take n (declared_in_order given [] (map procedure_of procs))) name ≡ None
none_named {A} given procs n name none =
    let es : List (List ℕ × A) = take n (declared_in_order given [] (map procedure_of procs)) in
    let names : map (λ e. e.0) es ≡ take n (map (λ p. p.name.name) procs) =
    sym (take-map (λ e. e.0) n (declared_in_order given [] (map procedure_of procs))) ∙ ap (take n) (names_of_procs given procs) in
    lookup-place (bytes_eq name) es ∙ ap (option_and_then (λ i. option_map (λ d. d.1) (slice_get es i))) (ap (λ ks. place_of_name ks name) names ∙ sym none)

pub one_named : {A : Type 0} (given : List (List ℕ × A) → Procedure → A) (procs : List Proc) (n : ℕ) (name : List ℕ) (i : ℕ) (p : Proc)
    → Some i ≡ place_of_name (take n (map (λ p. p.name.name) procs)) name → i < n → i < length procs → p ≡ get_or procs i p
    → declared_as (take n (declared_in_order given [] (map procedure_of procs))) name ≡ Some (given (take i (declared_in_order given [] (map procedure_of procs))) (procedure_of p))
one_named {A} given procs n name i p found less within is =
    let es : List (List ℕ × A) = take n (declared_in_order given [] (map procedure_of procs)) in
    let names : map (λ e. e.0) es ≡ take n (map (λ p. p.name.name) procs) =
    sym (take-map (λ e. e.0) n (declared_in_order given [] (map procedure_of procs))) ∙ ap (take n) (names_of_procs given procs) in
    lookup-place (bytes_eq name) es ∙ ap (option_and_then (λ i. option_map (λ d. d.1) (slice_get es i))) (ap (λ ks. place_of_name ks name) names ∙ sym found)
    ∙ ap (option_map (λ d. d.1)) (slice_get-take n (declared_in_order given [] (map procedure_of procs)) i less ∙ at_place given procs i p within is)
