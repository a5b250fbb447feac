-- The numbers of parameters: how many come before a procedure's, and that all fit.
use Rattle.std.proofs.Common.{◌≡◌, ℕ, suc, zero, ◌+◌, ◌<◌, ◌≤◌, List, [], ◌∷◌, ◌++◌, length, map, take, drop, get_or, Some, option_map, slice_get, ap, sym, ◌∙◌, arith}
use Rattle.std.specs.Prelude.{◌^◌, min, sum_by}
use Rattle.std.proofs.lemmas.List.{get_or_default, map-append, take_all, drop_all, length-map, length-take}
use Rattle.std.proofs.lemmas.Option.{slice_get-map, slice_get-get_or}
use Rattle.std.proofs.lemmas.List.Sums.{sum_by-append}
use Rattle.ts_trees.specs.declared.expr.Expr.{Expr}
use Rattle.ts_trees.specs.declared.procedure.Proc.{Proc}
use Rattle.ts_trees.specs.Seen.{procedure_of}
use Rattle.ts_checked.proofs.ListLemmas.{drop_item}
use Rattle.ts_proc_names.specs.Heads.{parameter_count}
use Rattle.ts_proc_expansion.specs.Expansion.{Callee, callee}
use Rattle.ts_proc_expansion.specs.Plan.{bodies_of, firsts_of}
use Rattle.ts_proc_expansion.proofs.InOrderLemmas.{one_more, at_place, length-declared_in_order}

-- how many parameters the first n procedures have
abbrev pub count_before : List Proc → ℕ → ℕ
count_before procs n = sum_by (λ c. c.1.params) (take n (bodies_of procs))

pub count_before-more : (procs : List Proc) (i : ℕ) (p : Proc) → i < length procs → p ≡ get_or procs i p → count_before procs (i + 1) ≡ count_before procs i + length p.params
count_before-more procs i p within is =
    let e : 0 + length p.params ≡ length p.params = omega arith in
    ap (sum_by (λ (c : List ℕ × Callee). c.1.params)) (one_more callee procs i p within is)
    ∙ sum_by-append (λ (c : List ℕ × Callee). c.1.params) (take i (bodies_of procs)) ((p.name.name, callee (take i (bodies_of procs)) (procedure_of p)) ∷ [])
    ∙ ap (λ n. count_before procs i + n) e

drop_procs : (procs : List Proc) (i : ℕ) (p : Proc) → i < length procs → p ≡ get_or procs i p
    → parameter_count (map procedure_of (drop i procs)) ≡ length p.params + parameter_count (map procedure_of (drop (i + 1) procs))
drop_procs procs i p within is = ap (λ ps. parameter_count (map procedure_of ps)) (drop_item procs i p within is)

-- those of the first procedures and of the others are all
pub count_before-rest : (procs : List Proc) (i : ℕ) → i ≤ length procs → count_before procs i + parameter_count (map procedure_of (drop i procs)) ≡ parameter_count (map procedure_of procs)
count_before-rest procs zero within = omega arith
count_before-rest [] (suc i) within = absurd (omega arith)
count_before-rest (q ∷ qs) (suc i) within =
    let procs : List Proc = q ∷ qs in
    let p : Proc = get_or procs i q in
    let inside : i < length procs = omega arith in
    let is : p ≡ get_or procs i p = get_or_default procs i q p inside in
    let next : i + 1 ≡ suc i = omega arith in
    let before : count_before procs i + parameter_count (map procedure_of (drop i procs)) ≡ parameter_count (map procedure_of procs) = count_before-rest procs i (omega arith) in
    let more : count_before procs (suc i) ≡ count_before procs i + length p.params = ap (count_before procs) (sym next) ∙ count_before-more procs i p inside is in
    let rest : parameter_count (map procedure_of (drop i procs)) ≡ length p.params + parameter_count (map procedure_of (drop (suc i) procs)) =
    drop_procs procs i p inside is ∙ ap (λ n. length p.params + parameter_count (map procedure_of (drop n procs))) next in
    omega (arith, before, more, rest)

-- a procedure's parameters are among all
pub fits_all : (procs : List Proc) (i : ℕ) (p : Proc) → i < length procs → p ≡ get_or procs i p → count_before procs i + length p.params ≤ parameter_count (map procedure_of procs)
fits_all procs i p within is =
    let before : count_before procs i + parameter_count (map procedure_of (drop i procs)) ≡ parameter_count (map procedure_of procs) = count_before-rest procs i (omega arith) in
    let rest : parameter_count (map procedure_of (drop i procs)) ≡ length p.params + parameter_count (map procedure_of (drop (i + 1) procs)) = drop_procs procs i p within is in
    omega (arith, before, rest)

-- the number of one more procedure's first parameter
pub firsts-more : (procs : List Proc) (i : ℕ) (p : Proc) (ns new : List ℕ) (n : ℕ) → ns ≡ firsts_of (take i (bodies_of procs)) → i < length procs → p ≡ get_or procs i p
    → n ≡ count_before procs i → new ≡ ns ++ n ∷ [] → new ≡ firsts_of (take (i + 1) (bodies_of procs))
firsts-more procs i p ns new n are within is next pushed =
    pushed ∙ ap (λ xs. xs ++ n ∷ []) are ∙ ap (λ m. firsts_of (take i (bodies_of procs)) ++ m ∷ []) next
    ∙ sym (map-append (λ (c : List ℕ × Callee). c.1.first) (take i (bodies_of procs)) ((p.name.name, callee (take i (bodies_of procs)) (procedure_of p)) ∷ []))
    ∙ sym (ap firsts_of (one_more callee procs i p within is))

-- behind all procedures the count is that of all
pub count_all : (procs : List Proc) (i : ℕ) → length procs ≤ i → count_before procs i ≡ parameter_count (map procedure_of procs)
count_all procs i past =
    let whole : take i (bodies_of procs) ≡ take (length procs) (bodies_of procs) =
    take_all i (bodies_of procs) (omega (arith, length-declared_in_order callee procs)) ∙ sym (take_all (length procs) (bodies_of procs) (omega (arith, length-declared_in_order callee procs))) in
    let all : count_before procs (length procs) + parameter_count (map procedure_of (drop (length procs) procs)) ≡ parameter_count (map procedure_of procs) = count_before-rest procs (length procs) (omega arith) in
    let none : parameter_count (map procedure_of (drop (length procs) procs)) ≡ 0 = ap (λ ps. parameter_count (map procedure_of ps)) (drop_all (length procs) procs (omega arith)) in
    ap (sum_by (λ (c : List ℕ × Callee). c.1.params)) whole ∙ omega (arith, all, none)

-- the number of a procedure's first parameter
pub first_at : (procs : List Proc) (i : ℕ) (p : Proc) (ns : List ℕ) (n : ℕ) → ns ≡ firsts_of (bodies_of procs) → i < length procs → p ≡ get_or procs i p → n ≡ get_or ns i n → n ≡ count_before procs i
first_at procs i p ns n are within is item =
    let inside : i < length ns = omega (arith, ap length are, length-map (bodies_of procs) (λ (c : List ℕ × Callee). c.1.first), length-declared_in_order callee procs) in
    let there : Some (get_or ns i n) ≡ Some (count_before procs i) =
    sym (slice_get-get_or ns i n inside) ∙ ap (λ xs. slice_get xs i) are ∙ slice_get-map (λ (c : List ℕ × Callee). c.1.first) (bodies_of procs) i
    ∙ ap (option_map (λ (c : List ℕ × Callee). c.1.first)) (at_place callee procs i p within is) in
    let same : get_or ns i n ≡ count_before procs i = cc in
    item ∙ same

pub firsts-within : (procs : List Proc) (ns : List ℕ) (i : ℕ) → ns ≡ firsts_of (bodies_of procs) → i < length procs → i < length ns
firsts-within procs ns i are within = omega (arith, ap length are, length-map (bodies_of procs) (λ (c : List ℕ × Callee). c.1.first), length-declared_in_order callee procs)

-- all parameters of a procedure have numbers, and so have those of them that get an argument
pub params_fit : (first before n params all : ℕ) → first ≡ before → n ≡ params → before + params ≤ all → all < 2 ^ 32 → first + n ≤ 2 ^ 32
params_fit first before n params all number same fits few = omega arith

pub args_fit : (first before m k n params all : ℕ) (xs : List Expr) → first ≡ before → n ≡ params → before + params ≤ all → all < 2 ^ 32 → m ≡ min k n
    → first + length (take m xs) ≤ 2 ^ 32
args_fit first before m k n params all xs number same fits few least = let taken : length (take m xs) ≡ min m (length xs) = length-take m xs in omega arith
