-- The extents of statements, one after another and inside others.
use Rattle.std.proofs.Common.{◌≡◌, ℕ, suc, zero, ◌+◌, ◌<◌, ◌≤◌, List, [], ◌∷◌, ◌++◌, length, take, drop, get_or, Some, option_map, slice_get, refl, ap, sym, ◌∙◌, arith}
use Rattle.std.specs.Prelude.{min, max}
use Rattle.std.proofs.lemmas.List.{length-take, length-map, map-append, take_all, drop_all, get_or_default}
use Rattle.std.proofs.lemmas.Option.{slice_get-map, slice_get-get_or}
use Rattle.ts_trees.specs.declared.procedure.Proc.{Proc}
use Rattle.ts_trees.specs.declared.stmt.Stmt.{Stmt}
use Rattle.ts_checked.proofs.ListLemmas.{drop_item}
use Rattle.ts_trees.specs.Tree.{Tree, Trees, no_trees, tree_then, Act, set, set_item, append, take_last, clear, call_alone, if_then, if_else, for_next, while_do, run_procedure, Acts, no_acts, act_then}
use Rattle.ts_trees.specs.Seen.{acts, act_of, acts_of, procedure_of}
use Rattle.ts_trees.specs.declared.word.Word.{Word}
use Rattle.ts_proc_names.specs.NameFaults.{argument_total}
use Rattle.ts_proc_expansion.specs.declared.extent.Extent.{Extent}
use Rattle.ts_proc_renaming.specs.Renaming.{Hiding, assigned}
use Rattle.ts_proc_expansion.specs.Expansion.{first_trees, Callee, callee, body_called, expanded_act, expanded_acts}
use Rattle.ts_proc_expansion.specs.Extent.{act_count, acts_count, act_depth, acts_depth}
use Rattle.ts_proc_expansion.specs.Extents.{extent_of, body_extents}
use Rattle.ts_proc_expansion.specs.Plan.{bodies_of}
use Rattle.ts_proc_expansion.proofs.InOrderLemmas.{at_place, slice_get-take, length-declared_in_order, one_more}

pub acts_count-append : (xs ys : List Act) → acts_count (acts (xs ++ ys)) ≡ acts_count (acts xs) + acts_count (acts ys)
acts_count-append [] ys = omega arith
acts_count-append (x ∷ xs) ys = let more : acts_count (acts (xs ++ ys)) ≡ acts_count (acts xs) + acts_count (acts ys) = acts_count-append xs ys in omega (arith, more)

pub acts_depth-append : (xs ys : List Act) → acts_depth (acts (xs ++ ys)) ≡ max (acts_depth (acts xs)) (acts_depth (acts ys))
acts_depth-append [] ys = omega arith
acts_depth-append (x ∷ xs) ys = let more : acts_depth (acts (xs ++ ys)) ≡ max (acts_depth (acts xs)) (acts_depth (acts ys)) = acts_depth-append xs ys in omega (arith, more)

abbrev sized : ℕ → ℕ → Extent
sized n m = record { count = n; depth = m }

pub same_extent : (a b : Extent) → a.count ≡ b.count → a.depth ≡ b.depth → a ≡ b
same_extent a b counts depths = ap (λ n. sized n a.depth) counts ∙ ap (sized b.count) depths

-- two extents, one after the other
abbrev pub joined : Extent → Extent → Extent
joined a b = record { count = min 1000000 (a.count + b.count); depth = max a.depth b.depth }

pub extent_of-append : (xs ys : List Act) → extent_of (xs ++ ys) ≡ joined (extent_of xs) (extent_of ys)
extent_of-append xs ys =
    let counts : min 1000000 (acts_count (acts (xs ++ ys))) ≡ min 1000000 (min 1000000 (acts_count (acts xs)) + min 1000000 (acts_count (acts ys))) =
    omega (arith, acts_count-append xs ys) in
    let depths : min 4294967295 (acts_depth (acts (xs ++ ys))) ≡ max (min 4294967295 (acts_depth (acts xs))) (min 4294967295 (acts_depth (acts ys))) =
    omega (arith, acts_depth-append xs ys) in
    same_extent (extent_of (xs ++ ys)) (joined (extent_of xs) (extent_of ys)) counts depths

-- nothing comes first
pub joined_first : (ys : List Act) → extent_of ys ≡ joined (record { count = 0; depth = 0 }) (extent_of ys)
joined_first ys =
    let counts : min 1000000 (acts_count (acts ys)) ≡ min 1000000 (0 + min 1000000 (acts_count (acts ys))) = omega arith in
    let depths : min 4294967295 (acts_depth (acts ys)) ≡ max 0 (min 4294967295 (acts_depth (acts ys))) = omega arith in
    same_extent (extent_of ys) (joined (record { count = 0; depth = 0 }) (extent_of ys)) counts depths

-- one more part
pub joined_next : (done s new : Extent) (xs ys : List Act) → s ≡ extent_of xs → new.count ≡ min 1000000 (done.count + s.count) → new.depth ≡ max done.depth s.depth
    → joined done (extent_of (xs ++ ys)) ≡ joined new (extent_of ys)
joined_next done s new xs ys is counted deep =
    let counts : min 1000000 (done.count + min 1000000 (acts_count (acts (xs ++ ys)))) ≡ min 1000000 (new.count + min 1000000 (acts_count (acts ys))) =
    omega (arith, acts_count-append xs ys, counted, ap (λ (e : Extent). e.count) is) in
    let depths : max done.depth (min 4294967295 (acts_depth (acts (xs ++ ys)))) ≡ max new.depth (min 4294967295 (acts_depth (acts ys))) =
    omega (arith, acts_depth-append xs ys, deep, ap (λ (e : Extent). e.depth) is) in
    same_extent (joined done (extent_of (xs ++ ys))) (joined new (extent_of ys)) counts depths

-- nothing comes last
pub joined_last : (done : Extent) → done.count ≤ 1000000 → joined done (extent_of []) ≡ done
joined_last done within =
    let counts : min 1000000 (done.count + min 1000000 0) ≡ done.count = omega arith in
    let depths : max done.depth (min 4294967295 0) ≡ done.depth = omega arith in
    same_extent (joined done (extent_of [])) done counts depths

-- a statement with one block in it
pub inside_measured : (x : Act) (xs : List Act) (a all : Extent) → act_count x ≡ 1 + acts_count (acts xs) → act_depth x ≡ 1 + acts_depth (acts xs) → a ≡ extent_of xs
    → all.count ≡ min 1000000 (1 + a.count) → all.depth ≡ min 4294967295 (1 + a.depth) → all ≡ extent_of (x ∷ [])
inside_measured x xs a all count_is depth_is is_a counted deep =
    let counts : all.count ≡ min 1000000 (act_count x + 0) = omega (arith, count_is, counted, ap (λ (e : Extent). e.count) is_a) in
    let depths : all.depth ≡ min 4294967295 (max (act_depth x) 0) = omega (arith, depth_is, deep, ap (λ (e : Extent). e.depth) is_a) in
    same_extent all (extent_of (x ∷ [])) counts depths

-- an `if` with its `else`
pub if_else_measured : (e : Tree) (xs ys : List Act) (a b both all : Extent) → a ≡ extent_of xs → b ≡ extent_of ys → both.count ≡ min 1000000 (a.count + b.count)
    → both.depth ≡ max a.depth b.depth → all.count ≡ min 1000000 (1 + both.count) → all.depth ≡ min 4294967295 (1 + both.depth)
    → all ≡ extent_of (if_else e (acts xs) (acts ys) ∷ [])
if_else_measured e xs ys a b both all is_a is_b counted deep counted_all deep_all =
    let counts : all.count ≡ min 1000000 ((1 + (acts_count (acts xs) + acts_count (acts ys))) + 0) =
    omega (arith, counted, counted_all, ap (λ (e : Extent). e.count) is_a, ap (λ (e : Extent). e.count) is_b) in
    let depths : all.depth ≡ min 4294967295 (max (1 + max (acts_depth (acts xs)) (acts_depth (acts ys))) 0) =
    omega (arith, deep, deep_all, ap (λ (e : Extent). e.depth) is_a, ap (λ (e : Extent). e.depth) is_b) in
    same_extent all (extent_of (if_else e (acts xs) (acts ys) ∷ [])) counts depths

assigned_count : (h : Hiding) (place k : ℕ) (es : Trees) → acts_count (acts (assigned h place k es)) ≡ argument_total es
assigned_count h place k no_trees = refl
assigned_count h place k (tree_then e es) = let more : acts_count (acts (assigned h place (k + 1) es)) ≡ argument_total es = assigned_count h place (k + 1) es in omega (arith, more)

assigned_depth : (h : Hiding) (place k : ℕ) (es : Trees) → acts_depth (acts (assigned h place k es)) ≡ 0
assigned_depth h place k no_trees = refl
assigned_depth h place k (tree_then e es) = let more : acts_depth (acts (assigned h place (k + 1) es)) ≡ 0 = assigned_depth h place (k + 1) es in omega (arith, more)

first_trees_total : (n : ℕ) (es : Trees) → argument_total (first_trees n es) ≡ min (argument_total es) n
first_trees_total zero es = omega arith
first_trees_total (suc n) no_trees = omega arith
first_trees_total (suc n) (tree_then e es) = let more : argument_total (first_trees n es) ≡ min (argument_total es) n = first_trees_total n es in omega (arith, more)

-- a `do`: the assignments and the body
pub call_measured : (h : Hiding) (w : Word) (es : Trees) (callee : Callee) (o body all : Extent) → o.count ≡ min (min (argument_total es) callee.params) 1000000
    → o.depth ≡ 0 → body ≡ extent_of callee.body → all.count ≡ min 1000000 (o.count + body.count) → all.depth ≡ max o.depth body.depth
    → all ≡ extent_of (body_called h w es (Some callee))
call_measured h w es callee o body all o_count o_depth is_body count_all depth_all =
    let front : List Act = assigned h w.place callee.first (first_trees callee.params es) in
    let counts : all.count ≡ min 1000000 (acts_count (acts (front ++ callee.body))) =
    omega (
      arith,
      acts_count-append front callee.body,
      assigned_count h w.place callee.first (first_trees callee.params es),
      first_trees_total callee.params es,
      o_count,
      count_all,
      ap (λ (e : Extent). e.count) is_body,
    ) in
    let depths : all.depth ≡ min 4294967295 (acts_depth (acts (front ++ callee.body))) =
    omega (
      arith,
      acts_depth-append front callee.body,
      assigned_depth h w.place callee.first (first_trees callee.params es),
      depth_all,
      o_depth,
      ap (λ (e : Extent). e.depth) is_body,
    ) in
    same_extent all (extent_of (body_called h w es (Some callee))) counts depths

counted_act : (a : Act) → 0 < act_count a
counted_act (set w e) = omega arith
counted_act (set_item w i e) = omega arith
counted_act (append w e) = omega arith
counted_act (take_last w b) = omega arith
counted_act (clear w) = omega arith
counted_act (call_alone w es) = omega arith
counted_act (if_then e a) = omega arith
counted_act (if_else e a b) = omega arith
counted_act (for_next w from to step a next) = omega arith
counted_act (while_do e a) = omega arith
counted_act (run_procedure w es) = omega arith

-- statements whose count is 0 are none
pub none_counted : (xs : List Act) → (extent_of xs).count ≡ 0 → xs ≡ []
none_counted [] e = refl
none_counted (x ∷ xs) e = let some : 0 < act_count x = counted_act x in absurd (omega (arith, some, e))

-- blocks nest at most as deep as there are statements
mutual
  act_depth-le : (a : Act) → act_depth a ≤ act_count a
  act_depth-le (set w e) = omega arith
  act_depth-le (set_item w i e) = omega arith
  act_depth-le (append w e) = omega arith
  act_depth-le (take_last w b) = omega arith
  act_depth-le (clear w) = omega arith
  act_depth-le (call_alone w es) = omega arith
  act_depth-le (if_then e a) = let h : acts_depth a ≤ acts_count a = acts_depth-le a in omega (arith, h)
  act_depth-le (if_else e a b) = let h : acts_depth a ≤ acts_count a = acts_depth-le a in let k : acts_depth b ≤ acts_count b = acts_depth-le b in omega (arith, h, k)
  act_depth-le (for_next w from to step a next) = let h : acts_depth a ≤ acts_count a = acts_depth-le a in omega (arith, h)
  act_depth-le (while_do e a) = let h : acts_depth a ≤ acts_count a = acts_depth-le a in omega (arith, h)
  act_depth-le (run_procedure w es) = omega arith

  pub acts_depth-le : (a : Acts) → acts_depth a ≤ acts_count a
  acts_depth-le no_acts = omega arith
  acts_depth-le (act_then a more) = let h : act_depth a ≤ act_count a = act_depth-le a in let k : acts_depth more ≤ acts_count more = acts_depth-le more in omega (arith, h, k)

-- the extents of the bodies of the first n procedures: how many there are, and that of one
pub body_extents-within : (procs : List Proc) (n : ℕ) (es : List Extent) (i : ℕ) → es ≡ body_extents (take n (bodies_of procs)) → i < n → i < length procs → i < length es
body_extents-within procs n es i are less within =
    omega (arith, ap length are, length-map (take n (bodies_of procs)) (λ (c : List ℕ × Callee). extent_of c.1.body), length-take n (bodies_of procs), length-declared_in_order callee procs)

pub body_extents-at : (procs : List Proc) (n : ℕ) (es : List Extent) (i : ℕ) (p : Proc) (e : Extent) → es ≡ body_extents (take n (bodies_of procs)) → i < n → i < length procs
    → p ≡ get_or procs i p → e ≡ get_or es i e → e ≡ extent_of (callee (take i (bodies_of procs)) (procedure_of p)).body
body_extents-at procs n es i p e are less within is item =
    let inside : i < length es = body_extents-within procs n es i are less within in
    let there : Some (get_or es i e) ≡ Some (extent_of (callee (take i (bodies_of procs)) (procedure_of p)).body) =
    sym (slice_get-get_or es i e inside) ∙ ap (λ xs. slice_get xs i) are
    ∙ slice_get-map (λ (c : List ℕ × Callee). extent_of c.1.body) (take n (bodies_of procs)) i
    ∙ ap (option_map (λ (c : List ℕ × Callee). extent_of c.1.body)) (slice_get-take n (bodies_of procs) i less ∙ at_place callee procs i p within is) in
    let same : get_or es i e ≡ extent_of (callee (take i (bodies_of procs)) (procedure_of p)).body = cc in
    item ∙ same

pub body_extents-at-any : (procs : List Proc) (n : ℕ) (es : List Extent) (i : ℕ) (p : Proc) (d : Extent) → es ≡ body_extents (take n (bodies_of procs)) → i < n → i < length procs
    → p ≡ get_or procs i p → get_or es i d ≡ extent_of (callee (take i (bodies_of procs)) (procedure_of p)).body
body_extents-at-any procs n es i p d are less within is =
    let inside : i < length es = body_extents-within procs n es i are less within in
    body_extents-at procs n es i p (get_or es i d) are less within is (get_or_default es i d (get_or es i d) inside)

-- the body of one more procedure
pub body_extents-more : (procs : List Proc) (i : ℕ) (p : Proc) (es new : List Extent) (e : Extent) → es ≡ body_extents (take i (bodies_of procs)) → i < length procs → p ≡ get_or procs i p
    → e ≡ extent_of (callee (take i (bodies_of procs)) (procedure_of p)).body → new ≡ es ++ e ∷ [] → new ≡ body_extents (take (i + 1) (bodies_of procs))
body_extents-more procs i p es new e are within is item pushed =
    pushed ∙ ap (λ xs. xs ++ e ∷ []) are ∙ ap (λ x. body_extents (take i (bodies_of procs)) ++ x ∷ []) item
    ∙ sym (map-append (λ (c : List ℕ × Callee). extent_of c.1.body) (take i (bodies_of procs)) ((p.name.name, callee (take i (bodies_of procs)) (procedure_of p)) ∷ []))
    ∙ sym (ap body_extents (one_more callee procs i p within is))

-- those of all
pub bodies_all : (procs : List Proc) (n : ℕ) → length procs ≤ n → take n (bodies_of procs) ≡ bodies_of procs
bodies_all procs n past = take_all n (bodies_of procs) (omega (arith, length-declared_in_order callee procs))

-- the rest of a block from a statement on
pub joined_from : (known : List (List ℕ × Callee)) (h : Hiding) (stmts : List Stmt) (i : ℕ) (s : Stmt) (done e new : Extent) → i < length stmts → s ≡ get_or stmts i s
    → e ≡ extent_of (expanded_act known h (act_of s)) → new.count ≡ min 1000000 (done.count + e.count) → new.depth ≡ max done.depth e.depth
    → joined done (extent_of (expanded_acts known h (acts_of (drop i stmts)))) ≡ joined new (extent_of (expanded_acts known h (acts_of (drop (i + 1) stmts))))
joined_from known h stmts i s done e new within is measured counted deep =
    ap (λ (ss : List Stmt). joined done (extent_of (expanded_acts known h (acts_of ss)))) (drop_item stmts i s within is)
    ∙ joined_next done e new (expanded_act known h (act_of s)) (expanded_acts known h (acts_of (drop (i + 1) stmts))) measured counted deep

pub joined_end : (known : List (List ℕ × Callee)) (h : Hiding) (stmts : List Stmt) (i : ℕ) (done : Extent) → length stmts ≤ i → done.count ≤ 1000000
    → joined done (extent_of (expanded_acts known h (acts_of (drop i stmts)))) ≡ done
joined_end known h stmts i done past within =
    ap (λ (ss : List Stmt). joined done (extent_of (expanded_acts known h (acts_of ss)))) (drop_all i stmts past) ∙ joined_last done within

-- the extents of all bodies: how many there are, and that of one
pub extents-within : (procs : List Proc) (es : List Extent) (i : ℕ) → es ≡ body_extents (bodies_of procs) → i < length procs → i < length es
extents-within procs es i are within =
    body_extents-within procs (length procs) es i (are ∙ sym (ap body_extents (bodies_all procs (length procs) (omega arith)))) within within

pub extents-at : (procs : List Proc) (es : List Extent) (i : ℕ) (p : Proc) (e : Extent) → es ≡ body_extents (bodies_of procs) → i < length procs
    → p ≡ get_or procs i p → e ≡ get_or es i e → e ≡ extent_of (callee (take i (bodies_of procs)) (procedure_of p)).body
extents-at procs es i p e are within is item =
    body_extents-at procs (length procs) es i p e (are ∙ sym (ap body_extents (bodies_all procs (length procs) (omega arith)))) within within is item
