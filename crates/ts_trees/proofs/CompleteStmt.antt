-- The machine reads each derived statement, block and script to its end.
use Rattle.std.proofs.Common.{◌≡◌, ℕ, Bool, true, false, List, [], ◌∷◌, ◌++◌, Option, Some, None, refl, sym, ◌∙◌, ap, subst, append_assoc, append-nil}
use Rattle.std.proofs.Common.{◌⊎◌, inl, inr, Ok}
use Rattle.ts_checked.specs.declared.bin_op.BinOp.{BinOp}
use Rattle.ts_checked.specs.declared.bin_op.BinOp.TheVariants as op
use Rattle.ts_trees.specs.declared.word.Word.{Word}
use Rattle.ts_trees.specs.declared.stmt.Step.{Step}
use Rattle.ts_trees.specs.declared.dialect.Dialect.{Dialect}
use Rattle.ts_trees.specs.declared.dialect.Dialect.TheVariants as dialect
use Rattle.ts_trees.specs.declared.script.Decl.{Decl}
use Rattle.ts_trees.specs.declared.script.DeclKind.{DeclKind}
use Rattle.ts_trees.specs.declared.script.DeclKind.TheVariants as decl
use Rattle.ts_trees.specs.declared.token.TokenKind.{TokenKind}
use Rattle.ts_trees.specs.declared.token.TokenKind.TheVariants as kind
use Rattle.ts_trees.specs.Tree.{Tree, number, variable, item, size, message_item, message_size, call, negative, inverse, two, paren, Trees, no_trees, tree_then, Act, set, set_item, append, take_last, clear, call_alone, if_then, if_else, for_next, while_do, run_procedure, Acts, no_acts, act_then, Procedure, ProcedureSource}
use Rattle.ts_trees.specs.Spelling.{sign, name, spelled, args_spelled, more_spelled, minus_spelled, step_spelled, act_spelled, acts_spelled, decl_keyword, decl_start, decl_end, decls_gap, decls_spelled, params_spelled, other_params_spelled, procedure_spelled, procedures_spelled, procedure_source_spelled}
use Rattle.ts_trees.specs.Derived.{Derived, ActDerived, ActsDerived, RunDerived, NamesFollow, DeclsDerived, ProceduresDerived, IsDerivedIn}
use Rattle.ts_trees.specs.Parsing.{Holds}
use Rattle.ts_trees.specs.Machine.{Frame, top, main, proc_part, then_part, else_part, for_part, while_part, Whole, in_item, in_set, in_index, in_set_item, in_append, in_call, in_if, in_from, in_to, in_while, in_do, decls, decl_name, decl_more, procedures, proc_opened, param_read, named, have, block, set_to, set_named, set_boxed, boxed, call_opened, do_opened, closed, stepped, with_act, due, expr_due, inverse_due, dialect_of, step, step_do, going, first_place, other_places, run, start}
use Rattle.ts_trees.proofs.Placed.{word_at, left, args_left, step_left, act_left, acts_left, decls_left, params_left, procedure_left, procedures_left, source_left, placed, args_placed, step_placed, act_placed, acts_placed, decls_placed, params_placed, procedure_placed, procedures_placed, source_placed}
use Rattle.ts_trees.proofs.Turns.{after_operand, after_and, turn_alike, begins_expr, call_is_due, do_is_due, boxed_is_due}
use Rattle.ts_trees.proofs.CompleteExpr.{Starts, starts_more, starts_expr, AllAt, own_all, expr_read, first_read, with_trees_one}

-- ---- `x =` before an expression that is no taking

abbrev as_third : List TokenKind → Bool
as_third (kind.CloseBox ∷ ks) = false
as_third ks = true

abbrev as_second : List TokenKind → Bool
as_second (kind.OpenBox ∷ ks) = as_third ks
as_second ks = true

-- tokens that don't go on as `y [ ]`
abbrev pub as_first : List TokenKind → Bool
as_first (kind.Name n ∷ ks) = as_second ks
as_first ks = true

set_boxed_is : (w v : Word) (a : Acts) (f : Frame) (ms : List TokenKind) (ps : List ℕ) → Holds (as_third ms) → run ms ps (set_boxed w v a f) ≡ run ms ps (expr_due (in_item v (inverse_due (due (in_set w a f)))))
set_boxed_is w v a f [] ps h = refl
set_boxed_is w v a f (kind.CloseBox ∷ ms) ps h = absurd h
set_boxed_is w v a f (m ∷ ms) ps h = turn_alike (set_boxed w v a f) (expr_due (in_item v (inverse_due (due (in_set w a f))))) m (λ p. refl) refl ms ps

set_named_is : (w v : Word) (a : Acts) (f : Frame) (ms : List TokenKind) (ps : List ℕ) → Holds (as_second ms) → run ms ps (set_named w v a f) ≡ run ms ps (named v (inverse_due (due (in_set w a f))))
set_named_is w v a f [] ps h = refl
set_named_is w v a f (kind.OpenBox ∷ ms) ps h = set_boxed_is w v a f ms ps h
set_named_is w v a f (m ∷ ms) ps h = turn_alike (set_named w v a f) (named v (inverse_due (due (in_set w a f)))) m (λ p. refl) refl ms ps

pub set_is_due : (w : Word) (a : Acts) (f : Frame) (ms : List TokenKind) (ps : List ℕ) → Holds (as_first ms) → run ms ps (set_to w a f) ≡ run ms ps (expr_due (in_set w a f))
set_is_due w a f [] ps h = refl
set_is_due w a f (kind.Name n ∷ ms) ps h = set_named_is w _ a f ms (other_places ps) h
set_is_due w a f (m ∷ ms) ps h = turn_alike (set_to w a f) (expr_due (in_set w a f)) m (λ p. refl) refl ms ps

second_follows : (m : TokenKind) → Holds (after_operand m) → (ms : List TokenKind) → Holds (as_second (m ∷ ms))
second_follows kind.OpenBox h ms = absurd h
second_follows m h ms = tt

third_begins : (m : TokenKind) → Holds (begins_expr m) → (ms : List TokenKind) → Holds (as_third (m ∷ ms))
third_begins kind.CloseBox h ms = absurd h
third_begins m h ms = tt

third_starts : {ks : List TokenKind} → Starts begins_expr ks → Holds (as_third ks)
third_starts s = subst (λ z. Holds (as_third z)) (sym s.are) (third_begins s.first s.begins s.others)

sign_follows : (o : BinOp) → Holds (after_operand (sign o))
sign_follows op.Or = tt
sign_follows _ = tt

-- an expression doesn't go on as `y [ ]`
first_follows : (e : Tree) (m : TokenKind) → Holds (after_operand m) → (ms : List TokenKind) → Holds (as_first (spelled e ++ m ∷ ms))
first_follows (number n) m h ms = tt
first_follows (variable w) m h ms = second_follows m h ms
first_follows (item w e) m h ms = third_starts (starts_more (m ∷ ms) (starts_more (kind.CloseBox ∷ []) (starts_expr e)))
first_follows (size w) m h ms = tt
first_follows (message_item e) m h ms = tt
first_follows message_size m h ms = tt
first_follows (call w es) m h ms = tt
first_follows (negative e) m h ms = tt
first_follows (inverse e) m h ms = tt
first_follows (two o l r) m h ms = subst (λ z. Holds (as_first z)) (sym (append_assoc (spelled l) (sign o ∷ spelled r) (m ∷ ms))) (first_follows l (sign o) (sign_follows o) (spelled r ++ m ∷ ms))
first_follows (paren e) m h ms = tt

-- ---- expressions before what ends them

-- tokens that end an expression before a block
abbrev after_expr : TokenKind → Bool
after_expr kind.Or = false
after_expr kind.Step = false
after_expr m = after_and m

and_follows_expr : (m : TokenKind) → Holds (after_expr m) → Holds (after_and m)
and_follows_expr kind.Or h = tt
and_follows_expr kind.Step h = tt
and_follows_expr m h = h

ended : (e : Tree) → Derived e → (k : Whole) (c : TokenKind) → Holds (after_and c) → (xs ms : List TokenKind) (ps : List ℕ) →
    run ((spelled e ++ c ∷ xs) ++ ms) ps (expr_due k) ≡ run (c ∷ (xs ++ ms)) (left e ps) (have (placed e ps) k)
ended e d k c h xs ms ps = ap (λ z. run z ps (expr_due k)) (append_assoc (spelled e) (c ∷ xs) ms) ∙ expr_read e d k c h (xs ++ ms) ps

before : (e : Tree) → Derived e → (k : Whole) {ks : List TokenKind} → Starts after_expr ks → (ps : List ℕ) → run (spelled e ++ ks) ps (expr_due k) ≡ run ks (left e ps) (have (placed e ps) k)
before e d k {ks} s ps =
    ap (λ z. run (spelled e ++ z) ps (expr_due k)) s.are ∙ expr_read e d k s.first (and_follows_expr s.first s.begins) s.others ps
    ∙ sym (ap (λ z. run z (left e ps) (have (placed e ps) k)) s.are)

while_step : (e : Tree) (a : Acts) (f : Frame) (m : TokenKind) → Holds (after_expr m) → (p : ℕ) → step (have e (in_while a f)) m p ≡ step (block no_acts (while_part e a f)) m p
while_step e a f kind.Or h p = absurd h
while_step e a f m h p = refl

-- the body of a `while` follows its condition
while_begins : (e : Tree) (a : Acts) (f : Frame) {ks : List TokenKind} → Starts after_expr ks → (ps : List ℕ) → run ks ps (have e (in_while a f)) ≡ run ks ps (block no_acts (while_part e a f))
while_begins e a f s ps =
    ap (λ z. run z ps (have e (in_while a f))) s.are ∙ turn_alike (have e (in_while a f)) (block no_acts (while_part e a f)) s.first (while_step e a f s.first s.begins) refl s.others ps
    ∙ sym (ap (λ z. run z ps (block no_acts (while_part e a f))) s.are)

to_step : (w : Word) (s e : Tree) (a : Acts) (f : Frame) (m : TokenKind) → Holds (after_expr m) → (p : ℕ) → step (have e (in_to w s a f)) m p ≡ step (block no_acts (for_part w s e None a f)) m p
to_step w s e a f kind.Or h p = absurd h
to_step w s e a f kind.Step h p = absurd h
to_step w s e a f m h p = refl

-- the body of a `for` follows its limit
to_begins : (w : Word) (b e : Tree) (a : Acts) (f : Frame) {ks : List TokenKind} → Starts after_expr ks → (ps : List ℕ) → run ks ps (have e (in_to w b a f)) ≡ run ks ps (block no_acts (for_part w b e None a f))
to_begins w b e a f s ps =
    ap (λ z. run z ps (have e (in_to w b a f))) s.are ∙ turn_alike (have e (in_to w b a f)) (block no_acts (for_part w b e None a f)) s.first (to_step w b e a f s.first s.begins) refl s.others ps
    ∙ sym (ap (λ z. run z ps (block no_acts (for_part w b e None a f))) s.are)

starts : {P : TokenKind → Bool} (k : TokenKind) (ks : List TokenKind) → Holds (P k) → Starts P (k ∷ ks)
starts k ks h = record { first = k; others = ks; are = refl; begins = h }

act_starts : (a : Act) → Starts after_expr (act_spelled a)
act_starts (set w e) = starts _ _ tt
act_starts (set_item w i e) = starts _ _ tt
act_starts (append w e) = starts _ _ tt
act_starts (take_last w b) = starts _ _ tt
act_starts (clear w) = starts _ _ tt
act_starts (call_alone w es) = starts _ _ tt
act_starts (if_then e a) = starts _ _ tt
act_starts (if_else e a b) = starts _ _ tt
act_starts (for_next w f t s a v) = starts _ _ tt
act_starts (while_do e a) = starts _ _ tt
act_starts (run_procedure w es) = starts _ _ tt

acts_start : (a : Acts) (k : TokenKind) (ks : List TokenKind) → Holds (after_expr k) → Starts after_expr (acts_spelled a ++ k ∷ ks)
acts_start no_acts k ks h = starts k ks h
acts_start (act_then a more) k ks h = starts_more (k ∷ ks) (starts_more (acts_spelled more) (act_starts a))

-- ---- statements

abbrev pub with_acts : Acts → Acts → Acts
with_acts acc no_acts = acc
with_acts acc (act_then a more) = with_acts (with_act acc a) more

with_acts_cons : (b : Act) (acc more : Acts) → with_acts (act_then b acc) more ≡ act_then b (with_acts acc more)
with_acts_cons b acc no_acts = refl
with_acts_cons b acc (act_then a more) = with_acts_cons b (with_act acc a) more

pub with_acts_none : (more : Acts) → with_acts no_acts more ≡ more
with_acts_none no_acts = refl
with_acts_none (act_then a more) = with_acts_cons a no_acts more ∙ ap (λ z. act_then a z) (with_acts_none more)

begun_call : (w : Word) (a : Acts) (f : Frame) (e : Tree) (es : Trees) (ms : List TokenKind) (ps : List ℕ) →
    run (args_spelled (tree_then e es) ++ ms) ps (call_opened w a f) ≡ run (args_spelled (tree_then e es) ++ ms) ps (expr_due (in_call w no_trees a f))
begun_call w a f e es ms ps =
    let s : Starts begins_expr (args_spelled (tree_then e es)) = starts_more (more_spelled es) (starts_expr e) in
    let i = ap (λ z. z ++ ms) s.are in
    ap (λ z. run z ps (call_opened w a f)) i ∙ call_is_due w a f s.first s.begins (s.others ++ ms) ps ∙ sym (ap (λ z. run z ps (expr_due (in_call w no_trees a f))) i)

call_read : (w : Word) (es : Trees) → AllAt es → (a : Acts) (f : Frame) (ms : List TokenKind) (ps : List ℕ) →
    run ((args_spelled es ++ kind.Close ∷ kind.Semi ∷ []) ++ ms) ps (call_opened w a f) ≡ run ms (args_left es ps) (block (with_act a (call_alone w (args_placed es ps))) f)
call_read w no_trees r a f ms ps = refl
call_read w (tree_then e es) r a f ms ps =
    ap (λ z. run z ps (call_opened w a f)) (append_assoc (args_spelled (tree_then e es)) (kind.Close ∷ kind.Semi ∷ []) ms)
    ∙ begun_call w a f e es (kind.Close ∷ kind.Semi ∷ ms) ps
    ∙ first_read (λ acc. in_call w acc a f) (λ acc. closed (call_alone w acc) a f) (λ d acc ns qs. refl) (λ d acc ns qs. refl) e es r.0 r.1 (kind.Semi ∷ ms) ps
    ∙ ap (λ z. run ms (args_left es (left e ps)) (block (with_act a (call_alone w z)) f)) (with_trees_one (placed e ps) (args_placed es (left e ps)))

begun_do : (w : Word) (a : Acts) (f : Frame) (e : Tree) (es : Trees) (ms : List TokenKind) (ps : List ℕ) →
    run (args_spelled (tree_then e es) ++ ms) ps (do_opened w a f) ≡ run (args_spelled (tree_then e es) ++ ms) ps (expr_due (in_do w no_trees a f))
begun_do w a f e es ms ps =
    let s : Starts begins_expr (args_spelled (tree_then e es)) = starts_more (more_spelled es) (starts_expr e) in
    let i = ap (λ z. z ++ ms) s.are in
    ap (λ z. run z ps (do_opened w a f)) i ∙ do_is_due w a f s.first s.begins (s.others ++ ms) ps ∙ sym (ap (λ z. run z ps (expr_due (in_do w no_trees a f))) i)

do_args_read : (w : Word) (es : Trees) → AllAt es → (a : Acts) (f : Frame) (ms : List TokenKind) (ps : List ℕ) →
    run ((args_spelled es ++ kind.Close ∷ kind.Semi ∷ []) ++ ms) ps (do_opened w a f) ≡ run ms (args_left es ps) (block (with_act a (run_procedure w (args_placed es ps))) f)
do_args_read w no_trees r a f ms ps = refl
do_args_read w (tree_then e es) r a f ms ps =
    ap (λ z. run z ps (do_opened w a f)) (append_assoc (args_spelled (tree_then e es)) (kind.Close ∷ kind.Semi ∷ []) ms)
    ∙ begun_do w a f e es (kind.Close ∷ kind.Semi ∷ ms) ps
    ∙ first_read (λ acc. in_do w acc a f) (λ acc. closed (run_procedure w acc) a f) (λ d acc ns qs. refl) (λ d acc ns qs. refl) e es r.0 r.1 (kind.Semi ∷ ms) ps
    ∙ ap (λ z. run ms (args_left es (left e ps)) (block (with_act a (run_procedure w z)) f)) (with_trees_one (placed e ps) (args_placed es (left e ps)))

begun_index : (w : Word) (a : Acts) (f : Frame) (e : Tree) (ms : List TokenKind) (ps : List ℕ) → run (spelled e ++ ms) ps (boxed w a f) ≡ run (spelled e ++ ms) ps (expr_due (in_index w a f))
begun_index w a f e ms ps =
    let s : Starts begins_expr (spelled e) = starts_expr e in
    let i = ap (λ z. z ++ ms) s.are in
    ap (λ z. run z ps (boxed w a f)) i ∙ boxed_is_due w a f s.first s.begins (s.others ++ ms) ps ∙ sym (ap (λ z. run z ps (expr_due (in_index w a f))) i)

-- the step of a `for`, and then its block
step_read : (w : Word) (b e : Tree) (s : Option Step) (d : Derived e) (a : Acts) (f : Frame) {ks : List TokenKind} → Starts after_expr ks → (ps : List ℕ) →
    run (spelled e ++ (step_spelled s ++ ks)) ps (expr_due (in_to w b a f)) ≡ run ks (step_left s (left e ps)) (block no_acts (for_part w b (placed e ps) (step_placed s (left e ps)) a f))
step_read w b e None d a f h ps = before e d (in_to w b a f) h ps ∙ to_begins w b (placed e ps) a f h (left e ps)
step_read w b e (Some s) d a f {ks} h ps = expr_read e d (in_to w b a f) kind.Step tt ((minus_spelled s.minus ++ kind.Num s.size ∷ []) ++ ks) ps ∙ signed s.minus
  where
    signed : (g : Bool) → run ((minus_spelled g ++ kind.Num s.size ∷ []) ++ ks) (left e ps) (stepped w b (placed e ps) a f)
        ≡ run ks (other_places (left e ps)) (block no_acts (for_part w b (placed e ps) (Some (record { minus = g; size = s.size; place = first_place (left e ps) })) a f))
    signed true = refl
    signed false = refl

abbrev ActReads : Dialect → Act → Type 0
ActReads d a = (b : Acts) (f : Frame) → dialect_of f ≡ d → (ms : List TokenKind) (ps : List ℕ) → run (act_spelled a ++ ms) ps (block b f) ≡ run ms (act_left a ps) (block (with_act b (act_placed a ps)) f)

abbrev ActsRead : Dialect → Acts → Type 0
ActsRead d more = (b : Acts) (f : Frame) → dialect_of f ≡ d → (ms : List TokenKind) (ps : List ℕ) → run (acts_spelled more ++ ms) ps (block b f) ≡ run ms (acts_left more ps) (block (with_acts b (acts_placed more ps)) f)

-- a block from its beginning
inner : (l : Dialect) (a : Acts) → ActsRead l a → (f : Frame) → dialect_of f ≡ l → (xs ms : List TokenKind) (ps : List ℕ) → run ((acts_spelled a ++ xs) ++ ms) ps (block no_acts f) ≡ run (xs ++ ms) (acts_left a ps) (block (acts_placed a ps) f)
inner l a r f g xs ms ps =
    ap (λ z. run z ps (block no_acts f)) (append_assoc (acts_spelled a) xs ms) ∙ r no_acts f g (xs ++ ms) ps ∙ ap (λ z. run (xs ++ ms) (acts_left a ps) (block z f)) (with_acts_none (acts_placed a ps))

set_read : (l : Dialect) (w : Word) (e : Tree) → Derived e → ActReads l (set w e)
set_read l w e d b f j ms ps =
    ap (λ z. run z (other_places ps) (set_to (word_at w ps) b f)) (append_assoc (spelled e) (kind.Semi ∷ []) ms)
    ∙ set_is_due (word_at w ps) b f (spelled e ++ kind.Semi ∷ ms) (other_places ps) (first_follows e kind.Semi tt ms)
    ∙ expr_read e d (in_set (word_at w ps) b f) kind.Semi tt ms (other_places ps)

set_item_read : (l : Dialect) (w : Word) (i e : Tree) → Derived i → Derived e → ActReads l (set_item w i e)
set_item_read l w i e c d b f j ms ps =
    ap (λ z. run z (other_places ps) (boxed (word_at w ps) b f)) (append_assoc (spelled i) (kind.CloseBox ∷ kind.Eq ∷ (spelled e ++ kind.Semi ∷ [])) ms)
    ∙ begun_index (word_at w ps) b f i (kind.CloseBox ∷ kind.Eq ∷ ((spelled e ++ kind.Semi ∷ []) ++ ms)) (other_places ps)
    ∙ expr_read i c (in_index (word_at w ps) b f) kind.CloseBox tt (kind.Eq ∷ ((spelled e ++ kind.Semi ∷ []) ++ ms)) (other_places ps)
    ∙ ended e d (in_set_item (word_at w ps) (placed i (other_places ps)) b f) kind.Semi tt [] ms (left i (other_places ps))

if_then_read : (l : Dialect) (e : Tree) (a : Acts) → Derived e → ActsRead l a → ActReads l (if_then e a)
if_then_read l e a d r b f j ms ps =
    ended e d (in_if b f) kind.Then tt (acts_spelled a ++ kind.End ∷ kind.If ∷ []) ms ps
    ∙ inner l a r (then_part (placed e ps) b f) j (kind.End ∷ kind.If ∷ []) ms (left e ps)

if_else_read : (l : Dialect) (e : Tree) (a c : Acts) → Derived e → ActsRead l a → ActsRead l c → ActReads l (if_else e a c)
if_else_read l e a c d r s b f j ms ps =
    ended e d (in_if b f) kind.Then tt (acts_spelled a ++ (kind.Else ∷ acts_spelled c ++ kind.End ∷ kind.If ∷ [])) ms ps
    ∙ inner l a r (then_part (placed e ps) b f) j (kind.Else ∷ acts_spelled c ++ kind.End ∷ kind.If ∷ []) ms (left e ps)
    ∙ inner l c s (else_part (placed e ps) (acts_placed a (left e ps)) b f) j (kind.End ∷ kind.If ∷ []) ms (acts_left a (left e ps))

while_read : (l : Dialect) (e : Tree) (a : Acts) → Derived e → ActsRead l a → ActReads l (while_do e a)
while_read l e a d r b f j ms ps =
    let h : Starts after_expr ((acts_spelled a ++ kind.End ∷ kind.While ∷ []) ++ ms) = starts_more ms (acts_start a kind.End (kind.While ∷ []) tt) in
    ap (λ z. run z ps (expr_due (in_while b f))) (append_assoc (spelled e) (acts_spelled a ++ kind.End ∷ kind.While ∷ []) ms)
    ∙ before e d (in_while b f) h ps
    ∙ while_begins (placed e ps) b f h (left e ps)
    ∙ inner l a r (while_part (placed e ps) b f) j (kind.End ∷ kind.While ∷ []) ms (left e ps)

for_read : (l : Dialect) (w : Word) (s t : Tree) (c : Option Step) (a : Acts) (v : Word) → Derived s → Derived t → ActsRead l a → ActReads l (for_next w s t c a v)
for_read l w s t c a v d g r b f j ms ps =
    let ks : List TokenKind = acts_spelled a ++ kind.Next ∷ name v ∷ [] in
    let h : Starts after_expr (ks ++ ms) = starts_more ms (acts_start a kind.Next (name v ∷ []) tt) in
    let qs : List ℕ = left s (other_places ps) in
    ended s d (in_from (word_at w ps) b f) kind.To tt (spelled t ++ (step_spelled c ++ ks)) ms (other_places ps)
    ∙ ap (λ z. run z qs (expr_due (in_to (word_at w ps) (placed s (other_places ps)) b f)))
    (append_assoc (spelled t) (step_spelled c ++ ks) ms ∙ ap (λ z. spelled t ++ z) (append_assoc (step_spelled c) ks ms))
    ∙ step_read (word_at w ps) (placed s (other_places ps)) t c g b f h qs
    ∙ inner l a r (for_part (word_at w ps) (placed s (other_places ps)) (placed t qs) (step_placed c (left t qs)) b f) j (kind.Next ∷ name v ∷ []) ms (step_left c (left t qs))

run_read : (l : Dialect) (w : Word) (es : Trees) → RunDerived l es → ActReads l (run_procedure w es)
run_read dialect.Plain w es d b f j ms ps = absurd d
run_read dialect.Procedures w es d b f j ms ps =
    ap (λ z. going (step_do z b f) (run (name w ∷ kind.Open ∷ ((args_spelled es ++ kind.Close ∷ kind.Semi ∷ []) ++ ms)) ps) (kind.Do ∷ name w ∷ kind.Open ∷ ((args_spelled es ++ kind.Close ∷ kind.Semi ∷ []) ++ ms))) j
    ∙ do_args_read (word_at w ps) es (own_all es d) b f ms (other_places ps)

mutual
  act_read : (l : Dialect) (a : Act) → ActDerived l a → ActReads l a
  act_read l (set w e) d = set_read l w e d
  act_read l (set_item w i e) d = set_item_read l w i e d.0 d.1
  act_read l (append w e) d = λ b f j ms ps. ended e d (in_append (word_at w ps) b f) kind.Semi tt [] ms (other_places ps)
  act_read l (take_last w v) d = λ b f j ms ps. refl
  act_read l (clear w) d = λ b f j ms ps. refl
  act_read l (call_alone w es) d = λ b f j ms ps. call_read (word_at w ps) es (own_all es d) b f ms (other_places ps)
  act_read l (if_then e a) d = if_then_read l e a d.0 (acts_read l a d.1)
  act_read l (if_else e a c) d = if_else_read l e a c d.0 (acts_read l a d.1) (acts_read l c d.2)
  act_read l (for_next w s t c a v) d = for_read l w s t c a v d.0 d.1 (acts_read l a d.2)
  act_read l (while_do e a) d = while_read l e a d.0 (acts_read l a d.1)
  act_read l (run_procedure w es) d = run_read l w es d

  acts_read : (l : Dialect) (more : Acts) → ActsDerived l more → ActsRead l more
  acts_read l no_acts d = λ b f j ms ps. refl
  acts_read l (act_then a more) d = λ b f j ms ps.
      ap (λ z. run z ps (block b f)) (append_assoc (act_spelled a) (acts_spelled more) ms)
      ∙ act_read l a d.0 b f j (acts_spelled more ++ ms) ps
      ∙ acts_read l more d.1 (with_act b (act_placed a ps)) f j ms (act_left a ps)

-- ---- declarations

keyword_read : (l : Dialect) (k : DeclKind) (ds : List Decl) (ms : List TokenKind) (ps : List ℕ) → run (decl_keyword k ∷ ms) ps (decls l ds) ≡ run ms ps (decl_name l k true ds)
keyword_read l decl.Shared ds ms ps = refl
keyword_read l _ ds ms ps = refl

-- names from behind one of a declaration of kind k on
abbrev NamesRead : Dialect → DeclKind → List Decl → Type 0
NamesRead l k ds = (acc : List Decl) (ms : List TokenKind) (ps : List ℕ) →
    run ((decls_gap ds ++ decls_spelled ds) ++ ms) ps (decl_more l k acc) ≡ run ms (decls_left ds ps) (decls l (acc ++ decls_placed ds ps))

-- a name, and those behind it
name_read : (l : Dialect) (k : DeclKind) (b : Bool) (w : Word) (ds : List Decl) → NamesRead l k ds → (acc : List Decl) (ms : List TokenKind) (ps : List ℕ) →
    run (name w ∷ ((decls_gap ds ++ decls_spelled ds) ++ ms)) ps (decl_name l k b acc) ≡ run ms (decls_left ds (other_places ps)) (decls l (acc ++ (record { kind = k; word = word_at w ps; first = b } ∷ decls_placed ds (other_places ps))))
name_read l k b w ds r acc ms ps =
    r (acc ++ record { kind = k; word = word_at w ps; first = b } ∷ []) ms (other_places ps)
    ∙ ap (λ z. run ms (decls_left ds (other_places ps)) (decls l z)) (append_assoc acc (record { kind = k; word = word_at w ps; first = b } ∷ []) (decls_placed ds (other_places ps)))

next_name : (l : Dialect) (k : DeclKind) (b : Bool) (j : DeclKind) (w : Word) (ds : List Decl) → (b ≡ true) ⊎ (j ≡ k) → NamesRead l j ds → (acc : List Decl) (ms : List TokenKind) (ps : List ℕ) →
    run ((decl_end b ++ (decl_start b j ∷ name w ∷ (decls_gap ds ++ decls_spelled ds))) ++ ms) ps (decl_more l k acc)
    ≡ run ms (decls_left ds (other_places ps)) (decls l (acc ++ (record { kind = j; word = word_at w ps; first = b } ∷ decls_placed ds (other_places ps))))
next_name l k true j w ds h r acc ms ps = keyword_read l j acc (name w ∷ ((decls_gap ds ++ decls_spelled ds) ++ ms)) ps ∙ name_read l j true w ds r acc ms ps
next_name l k false j w ds (inl e) r acc ms ps = absurd (cc)
next_name l k false j w ds (inr e) r acc ms ps =
    ap (λ z. run (name w ∷ ((decls_gap ds ++ decls_spelled ds) ++ ms)) ps (decl_name l z false acc)) (sym e) ∙ name_read l j false w ds r acc ms ps

names_read : (l : Dialect) (k : DeclKind) (ds : List Decl) → NamesFollow k ds → NamesRead l k ds
names_read l k [] h = λ acc ms ps. ap (λ z. run ms ps (decls l z)) (sym (append-nil acc))
names_read l k (d ∷ ds) h = λ acc ms ps. next_name l k d.first d.kind d.word ds h.0 (names_read l d.kind ds h.1) acc ms ps

decls_read : (l : Dialect) (ds : List Decl) → DeclsDerived ds → (ms : List TokenKind) (ps : List ℕ) → run (decls_spelled ds ++ ms) ps (start l) ≡ run ms (decls_left ds ps) (decls l (decls_placed ds ps))
decls_read l [] h ms ps = refl
decls_read l (d ∷ ds) h ms ps =
    ap (λ b. run ((decl_start b d.kind ∷ name d.word ∷ (decls_gap ds ++ decls_spelled ds)) ++ ms) ps (start l)) h.0
    ∙ keyword_read l d.kind [] (name d.word ∷ ((decls_gap ds ++ decls_spelled ds) ++ ms)) ps
    ∙ name_read l d.kind true d.word ds (names_read l d.kind ds h.1) [] ms ps
    ∙ ap (λ b. run ms (decls_left ds (other_places ps)) (decls l (record { kind = d.kind; word = word_at d.word ps; first = b } ∷ decls_placed ds (other_places ps)))) (sym h.0)

-- tokens that begin a statement
abbrev begins_act : TokenKind → Bool
begins_act (kind.Name n) = true
begins_act kind.Clear = true
begins_act kind.If = true
begins_act kind.For = true
begins_act kind.While = true
begins_act kind.Do = true
begins_act m = false

act_begins : (a : Act) → Starts begins_act (act_spelled a)
act_begins (set w e) = starts _ _ tt
act_begins (set_item w i e) = starts _ _ tt
act_begins (append w e) = starts _ _ tt
act_begins (take_last w b) = starts _ _ tt
act_begins (clear w) = starts _ _ tt
act_begins (call_alone w es) = starts _ _ tt
act_begins (if_then e a) = starts _ _ tt
act_begins (if_else e a b) = starts _ _ tt
act_begins (for_next w f t s a v) = starts _ _ tt
act_begins (while_do e a) = starts _ _ tt
act_begins (run_procedure w es) = starts _ _ tt

decls_step : (ds : List Decl) (m : TokenKind) → Holds (begins_act m) → (p : ℕ) → step (decls dialect.Plain ds) m p ≡ step (block no_acts (top ds)) m p
decls_step ds kind.Shared h p = absurd h
decls_step ds kind.Private h p = absurd h
decls_step ds kind.Buffer h p = absurd h
decls_step ds m h p = refl

procedures_step : (ds : List Decl) (qs : List Procedure) (m : TokenKind) → Holds (begins_act m) → (p : ℕ) → step (procedures ds qs) m p ≡ step (block no_acts (main ds qs)) m p
procedures_step ds qs kind.Proc h p = absurd h
procedures_step ds qs m h p = refl

-- the statements of a script follow its declarations and procedures
body_begins : (ds : List Decl) (a : Acts) (ps : List ℕ) → run (acts_spelled a) ps (decls dialect.Plain ds) ≡ run (acts_spelled a) ps (block no_acts (top ds))
body_begins ds no_acts ps = refl
body_begins ds (act_then a more) ps =
    let s : Starts begins_act (act_spelled a ++ acts_spelled more) = starts_more (acts_spelled more) (act_begins a) in
    ap (λ z. run z ps (decls dialect.Plain ds)) s.are ∙ turn_alike (decls dialect.Plain ds) (block no_acts (top ds)) s.first (decls_step ds s.first s.begins) refl s.others ps
    ∙ sym (ap (λ z. run z ps (block no_acts (top ds))) s.are)

body_behind : (ds : List Decl) (qs : List Procedure) (a : Acts) (ps : List ℕ) → run (acts_spelled a) ps (procedures ds qs) ≡ run (acts_spelled a) ps (block no_acts (main ds qs))
body_behind ds qs no_acts ps = refl
body_behind ds qs (act_then a more) ps =
    let s : Starts begins_act (act_spelled a ++ acts_spelled more) = starts_more (acts_spelled more) (act_begins a) in
    ap (λ z. run z ps (procedures ds qs)) s.are ∙ turn_alike (procedures ds qs) (block no_acts (main ds qs)) s.first (procedures_step ds qs s.first s.begins) refl s.others ps
    ∙ sym (ap (λ z. run z ps (block no_acts (main ds qs))) s.are)

-- ---- procedures

-- the parameters behind one
other_params_read : (w : Word) (acc : List Word) (v : Word) (ws : List Word) (ds : List Decl) (qs : List Procedure) (ms : List TokenKind) (ps : List ℕ) →
    run (other_params_spelled ws ++ kind.Close ∷ ms) ps (param_read w acc v ds qs) ≡ run ms (params_left ws ps) (block no_acts (proc_part w (acc ++ (v ∷ params_placed ws ps)) ds qs))
other_params_read w acc v [] ds qs ms ps = refl
other_params_read w acc v (u ∷ ws) ds qs ms ps =
    other_params_read w (acc ++ v ∷ []) (word_at u ps) ws ds qs ms (other_places ps)
    ∙ ap (λ z. run ms (params_left ws (other_places ps)) (block no_acts (proc_part w z ds qs))) (append_assoc acc (v ∷ []) (word_at u ps ∷ params_placed ws (other_places ps)))

params_read : (w : Word) (ws : List Word) (ds : List Decl) (qs : List Procedure) (ms : List TokenKind) (ps : List ℕ) →
    run (params_spelled ws ++ kind.Close ∷ ms) ps (proc_opened w ds qs) ≡ run ms (params_left ws ps) (block no_acts (proc_part w (params_placed ws ps) ds qs))
params_read w [] ds qs ms ps = refl
params_read w (v ∷ ws) ds qs ms ps = other_params_read w [] (word_at v ps) ws ds qs ms (other_places ps)

procedure_read : (q : Procedure) → ActsDerived dialect.Procedures q.body → (ds : List Decl) (qs : List Procedure) (ms : List TokenKind) (ps : List ℕ) →
    run (procedure_spelled q ++ ms) ps (procedures ds qs) ≡ run ms (procedure_left q ps) (procedures ds (qs ++ procedure_placed q ps ∷ []))
procedure_read q d ds qs ms ps =
    let end : List TokenKind = kind.End ∷ kind.Proc ∷ [] in
    let behind : List ℕ = params_left q.params (other_places ps) in
    let words : List Word = params_placed q.params (other_places ps) in
    ap (λ z. run z (other_places ps) (proc_opened (word_at q.name ps) ds qs)) (append_assoc (params_spelled q.params) (kind.Close ∷ (acts_spelled q.body ++ end)) ms)
    ∙ params_read (word_at q.name ps) q.params ds qs ((acts_spelled q.body ++ end) ++ ms) (other_places ps)
    ∙ inner dialect.Procedures q.body (acts_read dialect.Procedures q.body d) (proc_part (word_at q.name ps) words ds qs) refl end ms behind

procedures_read : (rest : List Procedure) → ProceduresDerived rest → (ds : List Decl) (qs : List Procedure) (ms : List TokenKind) (ps : List ℕ) →
    run (procedures_spelled rest ++ ms) ps (procedures ds qs) ≡ run ms (procedures_left rest ps) (procedures ds (qs ++ procedures_placed rest ps))
procedures_read [] d ds qs ms ps = ap (λ z. run ms ps (procedures ds z)) (sym (append-nil qs))
procedures_read (q ∷ rest) d ds qs ms ps =
    ap (λ z. run z ps (procedures ds qs)) (append_assoc (procedure_spelled q) (procedures_spelled rest) ms)
    ∙ procedure_read q d.0 ds qs (procedures_spelled rest ++ ms) ps
    ∙ procedures_read rest d.1 ds (qs ++ procedure_placed q ps ∷ []) ms (procedure_left q ps)
    ∙ ap (λ z. run ms (procedures_left rest (procedure_left q ps)) (procedures ds z)) (append_assoc qs (procedure_placed q ps ∷ []) (procedures_placed rest (procedure_left q ps)))

-- tokens that begin with no declaration
abbrev NoDecl : List TokenKind → Type 0
NoDecl [] = Unit {0}
NoDecl (kind.Shared ∷ ks) = ⊥
NoDecl (kind.Private ∷ ks) = ⊥
NoDecl (kind.Buffer ∷ ks) = ⊥
NoDecl (k ∷ ks) = Unit {0}

act_first : (k : TokenKind) → Holds (begins_act k) → (ks : List TokenKind) → NoDecl (k ∷ ks)
act_first kind.Shared h ks = absurd h
act_first kind.Private h ks = absurd h
act_first kind.Buffer h ks = absurd h
act_first k h ks = tt

-- behind the declarations of a script with procedures they may begin at once
declared_is_procedures : (ds : List Decl) (ms : List TokenKind) (ps : List ℕ) → NoDecl ms → run ms ps (decls dialect.Procedures ds) ≡ run ms ps (procedures ds [])
declared_is_procedures ds ms ps h = by ms h
  where
    by : (ks : List TokenKind) → NoDecl ks → run ks ps (decls dialect.Procedures ds) ≡ run ks ps (procedures ds [])
    by [] h = refl
    by (kind.Shared ∷ ks) h = absurd h
    by (kind.Private ∷ ks) h = absurd h
    by (kind.Buffer ∷ ks) h = absurd h
    by (k ∷ ks) h = turn_alike (decls dialect.Procedures ds) (procedures ds []) k (λ p. refl) refl ks ps

-- ---- scripts

-- the statements of a script to its end
body_read : (l : Dialect) (f : Frame) → dialect_of f ≡ l → (a : Acts) → ActsDerived l a → (ps : List ℕ) → run (acts_spelled a) ps (block no_acts f) ≡ run [] (acts_left a ps) (block (acts_placed a ps) f)
body_read l f j a d ps =
    ap (λ z. run z ps (block no_acts f)) (sym (append-nil (acts_spelled a))) ∙ acts_read l a d no_acts f j [] ps
    ∙ ap (λ z. run [] (acts_left a ps) (block z f)) (with_acts_none (acts_placed a ps))

plain_read : (s : ProcedureSource) → IsDerivedIn dialect.Plain s → (ps : List ℕ) → run (decls_spelled s.decls ++ acts_spelled s.body) ps (start dialect.Plain)
    ≡ run [] (acts_left s.body (decls_left s.decls ps)) (block (acts_placed s.body (decls_left s.decls ps)) (top (decls_placed s.decls ps)))
plain_read s d ps =
    decls_read dialect.Plain s.decls d.decls (acts_spelled s.body) ps
    ∙ body_begins (decls_placed s.decls ps) s.body (decls_left s.decls ps)
    ∙ body_read dialect.Plain (top (decls_placed s.decls ps)) refl s.body d.body (decls_left s.decls ps)

-- no declaration stands behind the others
procedures_first : (qs : List Procedure) (a : Acts) → NoDecl (procedures_spelled qs ++ acts_spelled a)
procedures_first [] no_acts = tt
procedures_first [] (act_then a more) =
    let s : Starts begins_act (act_spelled a ++ acts_spelled more) = starts_more (acts_spelled more) (act_begins a) in
    subst NoDecl (sym s.are) (act_first s.first s.begins s.others)
procedures_first (q ∷ qs) a = tt

-- the machine reads each derived script of a dialect, with whatever places
pub source_read : (l : Dialect) (s : ProcedureSource) → IsDerivedIn l s → (ps : List ℕ) → run (procedure_source_spelled s) ps (start l) ≡ Ok (source_placed s ps, source_left s ps)
source_read dialect.Plain s d ps =
    let none : List Procedure → Type 0 = λ z.
    run (decls_spelled s.decls ++ (procedures_spelled z ++ acts_spelled s.body)) ps (start dialect.Plain) ≡
    Ok (record { decls = decls_placed s.decls ps; procs = procedures_placed z (decls_left s.decls ps); body = acts_placed s.body (procedures_left z (decls_left s.decls ps)) }, acts_left s.body (procedures_left z (decls_left s.decls ps))) in
    subst none (sym d.procs) (plain_read s d ps)
source_read dialect.Procedures s d ps =
    let qs : List ℕ = decls_left s.decls ps in
    let ds : List Decl = decls_placed s.decls ps in
    let ts : List Procedure = procedures_placed s.procs qs in
    decls_read dialect.Procedures s.decls d.decls (procedures_spelled s.procs ++ acts_spelled s.body) ps
    ∙ declared_is_procedures ds (procedures_spelled s.procs ++ acts_spelled s.body) qs (procedures_first s.procs s.body)
    ∙ procedures_read s.procs d.procs ds [] (acts_spelled s.body) qs
    ∙ body_behind ds ts s.body (procedures_left s.procs qs)
    ∙ body_read dialect.Procedures (main ds ts) refl s.body d.body (procedures_left s.procs qs)
