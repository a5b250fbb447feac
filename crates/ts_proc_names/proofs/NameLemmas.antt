-- A `do` and the parameters of a head: what is refused of them, step by step.
use Rattle.std.proofs.Common.{◌≡◌, ℕ, suc, ◌+◌, ◌<◌, ◌≤◌, List, [], ◌∷◌, ◌++◌, length, map, take, drop, get_or, true, false, Option, Some, None, refl, ap, sym, ◌∙◌, arith}
use Rattle.std.specs.Prelude.{is_some}
use Rattle.std.proofs.lemmas.List.{take_all, take_more, drop_all, length-map, map-append, take-map}
use Rattle.std.proofs.lemmas.Bool.Decides.{nat_tests}
use Rattle.ts_trees.specs.declared.expr.Expr.{Expr}
use Rattle.ts_trees.specs.declared.word.Word.{Word}
use Rattle.ts_trees.specs.declared.procedure.Proc.{Proc}
use Rattle.ts_trees.specs.Seen.{trees_of, procedure_of}
use Rattle.ts_trees.specs.Tree.{Acts}
use Rattle.ts_checked.proofs.ListLemmas.{drop_item}
use Rattle.ts_proc_names.specs.declared.fault.ProcFault.{ProcFault}
use Rattle.ts_proc_names.specs.declared.fault.ProcFault.TheVariants.{Params, Again}
use Rattle.ts_proc_names.specs.Heads.{heads_of}
use Rattle.ts_proc_names.specs.Places.{place_of_name, declared_as}
use Rattle.ts_proc_names.specs.NameFaults.{◌<|>◌, refused_if, word_fault, argument_total, args_fault, acts_fault, call_fault, call_name_fault, params_fault, procedure_fault, procedures_fault}

-- the arguments are counted as a list and as trees alike
pub argument_total-trees_of : (es : List Expr) → argument_total (trees_of es) ≡ length es
argument_total-trees_of [] = refl
argument_total-trees_of (e ∷ es) = ap (λ n. suc n) (argument_total-trees_of es)

fits_or : (w : Word) (n m : ℕ) → m ≡ n → call_fault w n (Some m) ≡ None
fits_or w n m e = grind (arith, nat_tests)

fails_or : (w : Word) (n m : ℕ) → (m ≡ n → ⊥) → call_fault w n (Some m) ≡ Some (Params w.place)
fails_or w n m e = grind (arith, nat_tests)

-- a `do` of a procedure with so many parameters
pub call_fits : (known : List (List ℕ × ℕ)) (w : Word) (es : List Expr) (m : ℕ) → word_fault w ≡ None → declared_as known w.name ≡ Some m → m ≡ length es
    → call_name_fault known w (trees_of es) ≡ args_fault (trees_of es)
call_fits known w es m free is same =
    ap (λ o. o <|> call_fault w (argument_total (trees_of es)) (declared_as known w.name) <|> args_fault (trees_of es)) free
    ∙ ap (λ o. call_fault w (argument_total (trees_of es)) o <|> args_fault (trees_of es)) is
    ∙ ap (λ o. o <|> args_fault (trees_of es)) (fits_or w (argument_total (trees_of es)) m (same ∙ sym (argument_total-trees_of es)))

-- and one with another number of arguments
pub call_fails : (known : List (List ℕ × ℕ)) (w : Word) (es : List Expr) (m : ℕ) → word_fault w ≡ None → declared_as known w.name ≡ Some m → (m ≡ length es → ⊥)
    → call_name_fault known w (trees_of es) ≡ Some (Params w.place)
call_fails known w es m free is other =
    ap (λ o. o <|> call_fault w (argument_total (trees_of es)) (declared_as known w.name) <|> args_fault (trees_of es)) free
    ∙ ap (λ o. call_fault w (argument_total (trees_of es)) o <|> args_fault (trees_of es)) is
    ∙ ap (λ o. o <|> args_fault (trees_of es)) (fails_or w (argument_total (trees_of es)) m (λ e. other (e ∙ argument_total-trees_of es)))

-- the rest of the parameters from one on
rest_from : (params : List Word) (i : ℕ) (w : Word) (seen : List (List ℕ)) → i < length params → w ≡ get_or params i w
    → params_fault seen (drop i params) ≡ params_fault seen (w ∷ drop (i + 1) params)
rest_from params i w seen within is = ap (params_fault seen) (drop_item params i w within is)

seen_more : (params : List Word) (i : ℕ) (w : Word) → i < length params → w ≡ get_or params i w
    → map (λ w. w.name) (take i params) ++ w.name ∷ [] ≡ map (λ w. w.name) (take (i + 1) params)
seen_more params i w within is =
    sym (ap (map (λ w. w.name)) (take_more params i w within ∙ ap (λ y. take i params ++ y ∷ []) (sym is)) ∙ map-append (λ w. w.name) (take i params) (w ∷ []))

-- a parameter whose name is new
pub param_new : (params : List Word) (i : ℕ) (w : Word) (o : Option ℕ) → i < length params → w ≡ get_or params i w → word_fault w ≡ None
    → o ≡ place_of_name (take i (map (λ w. w.name) params)) w.name → is_some o ≡ false
    → params_fault (map (λ w. w.name) (take i params)) (drop i params) ≡ params_fault (map (λ w. w.name) (take (i + 1) params)) (drop (i + 1) params)
param_new params i w o within is free at new =
    let seen : List (List ℕ) = map (λ w. w.name) (take i params) in
    let rest : Option ProcFault = params_fault (seen ++ w.name ∷ []) (drop (i + 1) params) in
    let test : is_some (place_of_name seen w.name) ≡ false = sym (ap is_some (at ∙ ap (λ ks. place_of_name ks w.name) (take-map (λ w. w.name) i params))) ∙ new in
    rest_from params i w seen within is
    ∙ ap (λ o. o <|> refused_if (is_some (place_of_name seen w.name)) (Again w.name w.place) <|> rest) free
    ∙ ap (λ b. refused_if b (Again w.name w.place) <|> rest) test
    ∙ ap (λ ks. params_fault ks (drop (i + 1) params)) (seen_more params i w within is)

-- and one whose name stands before it
pub param_again : (params : List Word) (i : ℕ) (w : Word) (o : Option ℕ) → i < length params → w ≡ get_or params i w → word_fault w ≡ None
    → o ≡ place_of_name (take i (map (λ w. w.name) params)) w.name → is_some o ≡ true
    → params_fault (map (λ w. w.name) (take i params)) (drop i params) ≡ Some (Again w.name w.place)
param_again params i w o within is free at old =
    let seen : List (List ℕ) = map (λ w. w.name) (take i params) in
    let rest : Option ProcFault = params_fault (seen ++ w.name ∷ []) (drop (i + 1) params) in
    let test : is_some (place_of_name seen w.name) ≡ true = sym (ap is_some (at ∙ ap (λ ks. place_of_name ks w.name) (take-map (λ w. w.name) i params))) ∙ old in
    rest_from params i w seen within is
    ∙ ap (λ o. o <|> refused_if (is_some (place_of_name seen w.name)) (Again w.name w.place) <|> rest) free
    ∙ ap (λ b. refused_if b (Again w.name w.place) <|> rest) test

heads_more : (procs : List Proc) (i : ℕ) (p : Proc) → i < length procs → p ≡ get_or procs i p
    → take i (heads_of procs) ++ (p.name.name, length p.params) ∷ [] ≡ take (i + 1) (heads_of procs)
heads_more procs i p within is =
    ap (λ hs. hs ++ (p.name.name, length p.params) ∷ []) (take-map (λ p. (p.name.name, length p.params)) i procs)
    ∙ sym (map-append (λ p. (p.name.name, length p.params)) (take i procs) (p ∷ []))
    ∙ sym (ap heads_of (take_more procs i p within ∙ ap (λ y. take i procs ++ y ∷ []) (sym is)))
    ∙ sym (take-map (λ p. (p.name.name, length p.params)) (i + 1) procs)

-- a procedure of which nothing is refused
pub procedure_passes : (procs : List Proc) (i : ℕ) (p : Proc) (body : Acts) → i < length procs → p ≡ get_or procs i p
    → procedure_fault (take i (heads_of procs)) (procedure_of p) ≡ None
    → procedures_fault (take i (heads_of procs)) (map procedure_of (drop i procs)) body
    ≡ procedures_fault (take (i + 1) (heads_of procs)) (map procedure_of (drop (i + 1) procs)) body
procedure_passes procs i p body within is free =
    ap (λ ps. procedures_fault (take i (heads_of procs)) (map procedure_of ps) body) (drop_item procs i p within is)
    ∙ ap (λ o. o <|> procedures_fault (take i (heads_of procs) ++ (p.name.name, length p.params) ∷ []) (map procedure_of (drop (i + 1) procs)) body) free
    ∙ ap (λ hs. procedures_fault hs (map procedure_of (drop (i + 1) procs)) body) (heads_more procs i p within is)

-- behind all procedures the statements are left
pub procedures_end : (procs : List Proc) (i : ℕ) (body : Acts) → length procs ≤ i
    → procedures_fault (take i (heads_of procs)) (map procedure_of (drop i procs)) body ≡ acts_fault (take (length procs) (heads_of procs)) body
procedures_end procs i body past =
    let many : length (heads_of procs) ≡ length procs = length-map procs (λ p. (p.name.name, length p.params)) in
    ap (λ ps. procedures_fault (take i (heads_of procs)) (map procedure_of ps) body) (drop_all i procs past)
    ∙ ap (λ hs. acts_fault hs body) (take_all i (heads_of procs) (omega (arith, many, past)) ∙ sym (take_all (length procs) (heads_of procs) (omega (arith, many))))
