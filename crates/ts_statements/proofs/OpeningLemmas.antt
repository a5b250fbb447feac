-- How a statement begins in a block, and when none does.
use Rattle.std.proofs.Common.{◌≡◌, ◌<◌, ℕ, length, List, [], ◌∷◌, ◌++◌, map, Some, None, Err, refl, sym, ◌∙◌, ap, subst, arith, Option}
use Rattle.std.proofs.lemmas.Option.{same_Some}
use Rattle.ts_trees.specs.declared.word.Word.{Word}
use Rattle.ts_trees.specs.declared.stmt.Step.{Step}
use Rattle.ts_trees.specs.declared.dialect.Dialect.{Dialect}
use Rattle.ts_trees.specs.declared.dialect.Dialect.TheVariants as dialect
use Rattle.ts_trees.specs.declared.stmt.Stmt.{Stmt}
use Rattle.ts_trees.specs.declared.token.Token.{Token}
use Rattle.ts_trees.specs.declared.token.TokenKind.{TokenKind}
use Rattle.ts_trees.specs.declared.token.TokenKind.TheVariants as kind
use Rattle.ts_trees.specs.Seen.{act_of, acts, acts_of}
use Rattle.ts_trees.specs.Spelling.{kinds, note}
use Rattle.ts_trees.specs.Tree.{Tree, Act, Acts, no_acts, act_then}
use Rattle.ts_statements.specs.declared.opening.Opening.{Opening}
use Rattle.ts_trees.specs.Machine.{Frame, top, then_part, while_part, in_if, in_while, have, block, with_act, step, step_frame, finish, going, run, main, proc_part, else_part, for_part, dialect_of, step_do}
use Rattle.ts_trees.specs.Parsing.{noted_then, reads, Starts, Lacks}
use Rattle.ts_statements.specs.Blocks.{opening_of, opened_by, StartsStmt, LacksStmt, do_opening, FrameIn}
use Rattle.ts_trees.proofs.Reading.{sign_read, stops, agree}
use Rattle.ts_trees.proofs.Missing.{IsOther, lacks_first}

-- ---- how a statement begins

opens_do : (d : Dialect) (ts : List Token) (o : Opening) (a : Acts) (f : Frame) → dialect_of f ≡ d → do_opening d ≡ Some o → run (kind.Do ∷ kinds ts) (noted_then ts) (block a f) ≡ reads ts (opened_by o a f)
opens_do dialect.Plain ts o a f j e = cc
opens_do dialect.Procedures ts o a f j e =
    ap (λ z. going (step_do z a f) (run (kinds ts) (noted_then ts)) (kind.Do ∷ kinds ts)) j ∙ ap (λ z. reads ts (opened_by z a f)) (same_Some _ _ e)

opens : (d : Dialect) (t : Token) (ts : List Token) (m : TokenKind) (o : Opening) (a : Acts) (f : Frame) → dialect_of f ≡ d → opening_of d t m ≡ Some o → run (m ∷ kinds ts) (note t m ts ++ noted_then ts) (block a f) ≡ reads ts (opened_by o a f)
opens d t ts (kind.Name n) o a f j e = ap (λ z. reads ts (opened_by z a f)) (same_Some _ _ e)
opens d t ts kind.Clear o a f j e = ap (λ z. reads ts (opened_by z a f)) (same_Some _ _ e)
opens d t ts kind.If o a f j e = ap (λ z. reads ts (opened_by z a f)) (same_Some _ _ e)
opens d t ts kind.For o a f j e = ap (λ z. reads ts (opened_by z a f)) (same_Some _ _ e)
opens d t ts kind.While o a f j e = ap (λ z. reads ts (opened_by z a f)) (same_Some _ _ e)
opens d t ts kind.Do o a f j e = opens_do d ts o a f j e
opens d t ts m o a f j e = cc

pub stmt_opens : {d : Dialect} {o : Opening} {ts rest : List Token} → StartsStmt d o ts rest → (a : Acts) (f : FrameIn d) → reads ts (block a f.frame) ≡ reads rest (opened_by o a f.frame)
stmt_opens {d} {o} {ts} {rest} s a f = ap (λ xs. reads xs (block a f.frame)) s.are ∙ opens d s.token rest s.token.kind o a f.frame f.speaks s.opens

pub opens_shorter : {d : Dialect} {o : Opening} {ts rest : List Token} → StartsStmt d o ts rest → length rest < length ts
opens_shorter s = omega (arith, ap length s.are)

-- one more statement of a block
acts_push : (xs : List Act) (a : Act) → with_act (acts xs) a ≡ acts (xs ++ a ∷ [])
acts_push [] a = refl
acts_push (x ∷ xs) a = ap (λ z. act_then x z) (acts_push xs a)

map_push : (xs : List Stmt) (s : Stmt) → map act_of (xs ++ s ∷ []) ≡ map act_of xs ++ act_of s ∷ []
map_push [] s = refl
map_push (x ∷ xs) s = ap (λ z. act_of x ∷ z) (map_push xs s)

pub acts_of_push : (xs : List Stmt) (s : Stmt) → with_act (acts_of xs) (act_of s) ≡ acts_of (xs ++ s ∷ [])
acts_of_push xs s = acts_push (map act_of xs) (act_of s) ∙ ap acts (sym (map_push xs s))

-- ---- where a block ends

-- no block ends with a `do`
none_ends : (a : Acts) (f : Frame) → step_frame a f kind.Do ≡ None
none_ends a (top ds) = refl
none_ends a (main ds ps) = refl
none_ends a (proc_part w ws ds ps) = refl
none_ends a (then_part e b f) = refl
none_ends a (else_part e c b f) = refl
none_ends a (for_part w s t p b f) = refl
none_ends a (while_part e b f) = refl

ends_do : (d : Dialect) → do_opening d ≡ None → (a : Acts) (f : Frame) → dialect_of f ≡ d → step_do (dialect_of f) a f ≡ step_frame a f kind.Do
ends_do dialect.Plain h a f j = ap (λ z. step_do z a f) j ∙ sym (none_ends a f)
ends_do dialect.Procedures h a f j = cc

pub ends_block : (d : Dialect) (t : Token) (m : TokenKind) → opening_of d t m ≡ None → (a : Acts) (f : Frame) → dialect_of f ≡ d → (p : ℕ) → step (block a f) m p ≡ step_frame a f m
ends_block d t (kind.Name n) h a f j p = cc
ends_block d t kind.Clear h a f j p = cc
ends_block d t kind.If h a f j p = cc
ends_block d t kind.For h a f j p = cc
ends_block d t kind.While h a f j p = cc
ends_block d t kind.Do h a f j p = ends_do d h a f j
ends_block d t m h a f j p = refl

lacks_opening : (d : Dialect) (ts : List Token) → LacksStmt d ts → (t : Token) (rest : List Token) → ts ≡ t ∷ rest → opening_of d t t.kind ≡ None
lacks_opening d ts l t rest e = let h : LacksStmt d (t ∷ rest) = subst (LacksStmt d) e l in h

-- a token that ends the block is missing
pub block_stops : {d : Dialect} (k : TokenKind) {ts rest : List Token} → LacksStmt d ts → (rest ≡ ts) × Lacks k ts → (a : Acts) (f : Frame) → dialect_of f ≡ d → finish (block a f) ≡ None →
    ((m : TokenKind) → IsOther k m → step_frame a f m ≡ None) → reads ts (block a f) ≡ Err (kinds rest)
block_stops {d} k {ts} {rest} o l a f j n s =
    stops ts (block a f) n (λ t more e p. ends_block d t t.kind (lacks_opening d ts o t more e) a f j p ∙ s t.kind (lacks_first k ts l.1 t more e)) ∙ ap (λ z. Err (kinds z)) (sym l.0)

-- the same, where one of two may end it
pub branch_stops : {d : Dialect} {ts rest : List Token} → LacksStmt d ts → Lacks kind.Else ts → (rest ≡ ts) × Lacks kind.End ts → (a : Acts) (e : Tree) (b : Acts) (f : Frame) → dialect_of f ≡ d → reads ts (block a (then_part e b f)) ≡ Err (kinds rest)
branch_stops {d} {ts} {rest} o u l a e b f j =
    stops ts (block a (then_part e b f)) refl
    (λ t more i p. ends_block d t t.kind (lacks_opening d ts o t more i) a (then_part e b f) j p ∙ only t.kind (lacks_first kind.Else ts u t more i) (lacks_first kind.End ts l.1 t more i)) ∙ ap (λ z. Err (kinds z)) (sym l.0)
  where
    only : (m : TokenKind) → IsOther kind.Else m → IsOther kind.End m → step_frame a (then_part e b f) m ≡ None
    only kind.Else h g = absurd (h refl)
    only kind.End h g = absurd (g refl)
    only m h g = refl

pub while_ends : (a : Acts) (e : Tree) (b : Acts) (f : Frame) (m : TokenKind) → IsOther kind.End m → step_frame a (while_part e b f) m ≡ None
while_ends a e b f kind.End h = absurd (h refl)
while_ends a e b f m h = refl

pub else_ends : (a : Acts) (e : Tree) (c b : Acts) (f : Frame) (m : TokenKind) → IsOther kind.End m → step_frame a (else_part e c b f) m ≡ None
else_ends a e c b f kind.End h = absurd (h refl)
else_ends a e c b f m h = refl

pub for_ends : (a : Acts) (w : Word) (s t : Tree) (q : Option Step) (b : Acts) (f : Frame) (m : TokenKind) → IsOther kind.Next m → step_frame a (for_part w s t q b f) m ≡ None
for_ends a w s t q b f kind.Next h = absurd (h refl)
for_ends a w s t q b f m h = refl

-- ---- behind a test

pub then_read : {ts rest : List Token} → Starts kind.Then ts rest → (e : Tree) (a : Acts) (f : Frame) → reads ts (have e (in_if a f)) ≡ reads rest (block no_acts (then_part e a f))
then_read s e a f = sign_read kind.Then s tt _ _ (λ p. refl)

pub then_left : {ts rest : List Token} → Lacks kind.Or ts → (rest ≡ ts) × Lacks kind.Then ts → (e : Tree) (a : Acts) (f : Frame) → reads ts (have e (in_if a f)) ≡ Err (kinds rest)
then_left {ts} {rest} o l e a f =
    stops ts (have e (in_if a f)) refl (λ t more i p. only t.kind p (lacks_first kind.Or ts o t more i) (lacks_first kind.Then ts l.1 t more i)) ∙ ap (λ z. Err (kinds z)) (sym l.0)
  where
    only : (m : TokenKind) (p : ℕ) → IsOther kind.Or m → IsOther kind.Then m → step (have e (in_if a f)) m p ≡ None
    only kind.Or p h g = absurd (h refl)
    only kind.Then p h g = absurd (g refl)
    only m p h g = refl

body_step : (e : Tree) (a : Acts) (f : Frame) (m : TokenKind) (p : ℕ) → IsOther kind.Or m → step (have e (in_while a f)) m p ≡ step (block no_acts (while_part e a f)) m p
body_step e a f kind.Or p h = absurd (h refl)
body_step e a f m p h = refl

pub body_due : (ts : List Token) → Lacks kind.Or ts → (e : Tree) (a : Acts) (f : Frame) → reads ts (have e (in_while a f)) ≡ reads ts (block no_acts (while_part e a f))
body_due ts o e a f = agree ts _ _ refl refl (λ t rest i p. body_step e a f t.kind p (lacks_first kind.Or ts o t rest i))
