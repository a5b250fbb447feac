-- A whole part of the grammar is what a derived tree spells.
use Rattle.std.proofs.Common.{◌≡◌, ◌⊎◌, inl, inr, ℕ, Bool, true, false, ◌≤◌, List, [], ◌∷◌, ◌++◌, Option, Some, None, refl, sym, ◌∙◌, ap, subst, append_assoc, append-nil, arith}
use Rattle.ts_checked.specs.declared.bin_op.BinOp.{BinOp}
use Rattle.ts_checked.specs.declared.bin_op.BinOp.TheVariants as op
use Rattle.ts_trees.specs.declared.word.Word.{Word}
use Rattle.ts_trees.specs.declared.stmt.Step.{Step}
use Rattle.ts_trees.specs.declared.dialect.Dialect.{Dialect}
use Rattle.ts_trees.specs.declared.dialect.Dialect.TheVariants as dialect
use Rattle.ts_trees.specs.declared.script.Decl.{Decl}
use Rattle.ts_trees.specs.declared.script.DeclKind.{DeclKind}
use Rattle.ts_trees.specs.declared.script.DeclKind.TheVariants as decls
use Rattle.ts_trees.specs.declared.token.TokenKind.{TokenKind}
use Rattle.ts_trees.specs.declared.token.TokenKind.TheVariants as kind
use Rattle.ts_trees.specs.Tree.{Tree, number, variable, item, size, message_item, message_size, call, negative, inverse, two, paren, Trees, no_trees, tree_then, Act, set, set_item, append, take_last, clear, call_alone, if_then, if_else, for_next, while_do, run_procedure, Acts, no_acts, act_then, Procedure}
use Rattle.ts_trees.specs.Spelling.{sign, spelled, args_spelled, more_spelled, step_spelled, act_spelled, acts_spelled, name, decl_keyword, decls_gap, decls_spelled, params_spelled, other_params_spelled, procedure_spelled, procedures_spelled}
use Rattle.ts_trees.specs.Derived.{Derived, ArgsDerived, ActDerived, ActsDerived, NamesFollow, DeclsDerived, ProceduresDerived}
use Rattle.ts_trees.proofs.Levels.{at_or, at_and, at_not, at_compare, at_sum, at_product, at_sign, at_atom, level_of, left_of, right_of, IsPart}
use Rattle.ts_trees.specs.Grammar.{Rule, script, decl, stmt, pscript, proc, pstmt, expr, andx, notx, cmp, sum, prod, neg, atom, Part, nothing, NAME, NUM, key, rule, ◌▸◌, ◌∣◌, many, maybe, arguments, step, parameters, forms, do_form, rules, Whole, w_nothing, w_name, w_number, w_key, w_rule, w_then, w_left, w_right, w_end, w_more}
use Rattle.ts_trees.specs.Script.{IsScript, IsProcedureScript}

-- an expression that spells the tokens, at a level or at a tighter one
record ExprOf (n : ℕ) (ms : List TokenKind) : Type 0 where
  tree : Tree
  part : IsPart n tree
  derived : Derived tree
  spells : spelled tree ≡ ms

-- arguments that spell the tokens, from the first on or behind it
record ArgsOf (ms : List TokenKind) : Type 0 where
  trees : Trees
  derived : ArgsDerived trees
  spells : args_spelled trees ≡ ms

record MoreOf (ms : List TokenKind) : Type 0 where
  trees : Trees
  derived : ArgsDerived trees
  spells : more_spelled trees ≡ ms

-- a step, a statement and statements that spell the tokens
record StepOf (ms : List TokenKind) : Type 0 where
  step : Option Step
  spells : step_spelled step ≡ ms

record ActOf (d : Dialect) (ms : List TokenKind) : Type 0 where
  act : Act
  derived : ActDerived d act
  spells : act_spelled act ≡ ms

record ActsOf (d : Dialect) (ms : List TokenKind) : Type 0 where
  acts : Acts
  derived : ActsDerived d acts
  spells : acts_spelled acts ≡ ms

-- names behind the first of a declaration
abbrev commas : List (List ℕ) → List TokenKind
commas [] = []
commas (n ∷ ns) = kind.Comma ∷ kind.Name n ∷ commas ns

-- a declaration that spells the tokens
record DeclOf (ms : List TokenKind) : Type 0 where
  of_kind : DeclKind
  first : List ℕ
  others : List (List ℕ)
  spells : decl_keyword of_kind ∷ kind.Name first ∷ commas others ++ kind.Semi ∷ [] ≡ ms

-- a procedure that spells the tokens
record ProcedureOf (ms : List TokenKind) : Type 0 where
  procedure : Procedure
  derived : ActsDerived dialect.Procedures procedure.body
  spells : procedure_spelled procedure ≡ ms

-- what a rule's tokens mean
abbrev Value : Rule → List TokenKind → Type 0
Value script ms = IsScript ms
Value decl ms = DeclOf ms
Value stmt ms = ActOf dialect.Plain ms
Value pscript ms = IsProcedureScript ms
Value proc ms = ProcedureOf ms
Value pstmt ms = ActOf dialect.Procedures ms
Value expr ms = ExprOf at_or ms
Value andx ms = ExprOf at_and ms
Value notx ms = ExprOf at_not ms
Value cmp ms = ExprOf at_compare ms
Value sum ms = ExprOf at_sum ms
Value prod ms = ExprOf at_product ms
Value neg ms = ExprOf at_sign ms
Value atom ms = ExprOf at_atom ms

-- a name, a sign or anything before what follows
record Named (Q : List TokenKind → Type 0) (ms : List TokenKind) : Type 0 where
  id : List ℕ
  back : List TokenKind
  second : Q back
  are : ms ≡ kind.Name id ∷ back

record Keyed (k : TokenKind) (Q : List TokenKind → Type 0) (ms : List TokenKind) : Type 0 where
  back : List TokenKind
  second : Q back
  are : ms ≡ k ∷ back

record Joined (P Q : List TokenKind → Type 0) (ms : List TokenKind) : Type 0 where
  front : List TokenKind
  back : List TokenKind
  first : P front
  second : Q back
  are : ms ≡ front ++ back

-- a part any number of times
data Chain (P : List TokenKind → Type 0) : List TokenKind → Type 0 where
  c_end : Chain P []
  c_more : {ms xs ys : List TokenKind} → P xs → Chain P ys → ms ≡ xs ++ ys → Chain P ms

-- what a part's tokens mean
abbrev Sense : Part → List TokenKind → Type 0
Sense nothing ms = ms ≡ []
Sense NAME ms = (n : List ℕ) × (ms ≡ kind.Name n ∷ [])
Sense NUM ms = (n : ℕ) × (ms ≡ kind.Num n ∷ [])
Sense (key k) ms = ms ≡ k ∷ []
Sense (rule r) ms = Value r ms
Sense (NAME ▸ q) ms = Named (Sense q) ms
Sense (key k ▸ q) ms = Keyed k (Sense q) ms
Sense (p ▸ q) ms = Joined (Sense p) (Sense q) ms
Sense (p ∣ q) ms = Sense p ms ⊎ Sense q ms
Sense (many p) ms = Chain (Sense p) ms

append_eq : {a b c d : List TokenKind} → a ≡ c → b ≡ d → a ++ b ≡ c ++ d
append_eq {b} {c} p q = ap (λ z. z ++ b) p ∙ ap (λ z. c ++ z) q

-- one token before the rest
one_before : {k : TokenKind} {front back ms : List TokenKind} → front ≡ k ∷ [] → ms ≡ front ++ back → ms ≡ k ∷ back
one_before {back} p q = q ∙ ap (λ z. z ++ back) p

none_before : {front back ms : List TokenKind} → front ≡ [] → ms ≡ front ++ back → ms ≡ back
none_before {back} p q = q ∙ ap (λ z. z ++ back) p

joined : (p q : Part) (xs ys : List TokenKind) {ms : List TokenKind} → Sense p xs → Sense q ys → ms ≡ xs ++ ys → Sense (p ▸ q) ms
joined NAME q xs ys a b e = record { id = a.0; back = ys; second = b; are = one_before a.1 e }
joined (key k) q xs ys a b e = record { back = ys; second = b; are = one_before a e }
joined p q xs ys a b e = record { front = xs; back = ys; first = a; second = b; are = e }

-- a word of a tree that was made from tokens without places
abbrev word : List ℕ → Word
word n = record { name = n; place = 0 }

-- a tighter level's trees are a looser level's
loosen : {n m : ℕ} {ms : List TokenKind} → n ≤ m → ExprOf m ms → ExprOf n ms
loosen h e = record { tree = e.tree; part = omega arith; derived = e.derived; spells = e.spells }

-- an operator and its right operand, behind an expression of a level
record Link (n : ℕ) (ms : List TokenKind) : Type 0 where
  operator : BinOp
  back : List TokenKind
  right : ExprOf (right_of operator) back
  are : ms ≡ sign operator ∷ back
  fits : n ≤ level_of operator

-- the expression with one more link
grow : {n m : ℕ} {xs zs : List TokenKind} (e : ExprOf m xs) (l : Link n zs) → IsPart (left_of l.operator) e.tree → ExprOf n (xs ++ zs)
grow e l h = record {
  tree = two l.operator e.tree l.right.tree;
  part = l.fits;
  derived = (h, e.derived, l.right.part, l.right.derived);
  spells = append_eq e.spells (cc);
}

-- a link of a chain: its left operand is of the chain's own level
record ChainLink (n : ℕ) (ms : List TokenKind) : Type 0 where
  link : Link n ms
  same : n ≡ left_of link.operator

-- a chain groups to the left
chain : {P : List TokenKind → Type 0} {n : ℕ} {xs ys ms : List TokenKind} → ((zs : List TokenKind) → P zs → ChainLink n zs) → ExprOf n xs → Chain P ys → ms ≡ xs ++ ys → ExprOf n ms
chain {xs} f e c_end d = record { tree = e.tree; part = e.part; derived = e.derived; spells = e.spells ∙ sym (d ∙ append-nil xs) }
chain {xs} f e (c_more {xs = zs} {ys = rest} h c g) d =
    let l : ChainLink _ zs = f zs h in
    chain f (grow e l.link (subst (λ k. IsPart k e.tree) l.same e.part)) c (d ∙ ap (λ z. xs ++ z) g ∙ sym (append_assoc xs zs rest))

or_link : (zs : List TokenKind) → Keyed kind.Or (ExprOf at_and) zs → ChainLink at_or zs
or_link zs h = record { link = record { operator = op.Or; back = h.back; right = h.second; are = h.are; fits = omega arith }; same = refl }

and_link : (zs : List TokenKind) → Keyed kind.And (ExprOf at_not) zs → ChainLink at_and zs
and_link zs h = record { link = record { operator = op.And; back = h.back; right = h.second; are = h.are; fits = omega arith }; same = refl }

sum_link : (zs : List TokenKind) → Joined (Sense (key kind.Plus ∣ key kind.Minus)) (ExprOf at_product) zs → ChainLink at_sum zs
sum_link zs h = of h.first
  where
    of : Sense (key kind.Plus ∣ key kind.Minus) h.front → ChainLink at_sum zs
    of (inl k) = record { link = record { operator = op.Add; back = h.back; right = h.second; are = one_before k h.are; fits = omega arith }; same = refl }
    of (inr k) = record { link = record { operator = op.Sub; back = h.back; right = h.second; are = one_before k h.are; fits = omega arith }; same = refl }

product_link : (zs : List TokenKind) → Joined (Sense (key kind.Star ∣ key kind.Slash ∣ key kind.Percent)) (ExprOf at_sign) zs → ChainLink at_product zs
product_link zs h = of h.first
  where
    of : Sense (key kind.Star ∣ key kind.Slash ∣ key kind.Percent) h.front → ChainLink at_product zs
    of (inl k) = record { link = record { operator = op.Mul; back = h.back; right = h.second; are = one_before k h.are; fits = omega arith }; same = refl }
    of (inr (inl k)) = record { link = record { operator = op.Div; back = h.back; right = h.second; are = one_before k h.are; fits = omega arith }; same = refl }
    of (inr (inr k)) = record { link = record { operator = op.Rem; back = h.back; right = h.second; are = one_before k h.are; fits = omega arith }; same = refl }

abbrev comparisons : Part
comparisons = key kind.Eq ∣ key kind.Ne ∣ key kind.Lt ∣ key kind.Gt ∣ key kind.Le ∣ key kind.Ge

-- a comparison takes a sum on either side
record CompareLink (ms : List TokenKind) : Type 0 where
  link : Link at_compare ms
  left : left_of link.operator ≡ at_sum

compare_link : (zs : List TokenKind) → Joined (Sense comparisons) (ExprOf at_sum) zs → CompareLink zs
compare_link zs h = of h.first
  where
    of : Sense comparisons h.front → CompareLink zs
    of (inl k) = record { link = record { operator = op.Eq; back = h.back; right = h.second; are = one_before k h.are; fits = omega arith }; left = refl }
    of (inr (inl k)) = record { link = record { operator = op.Ne; back = h.back; right = h.second; are = one_before k h.are; fits = omega arith }; left = refl }
    of (inr (inr (inl k))) = record { link = record { operator = op.Lt; back = h.back; right = h.second; are = one_before k h.are; fits = omega arith }; left = refl }
    of (inr (inr (inr (inl k)))) = record { link = record { operator = op.Gt; back = h.back; right = h.second; are = one_before k h.are; fits = omega arith }; left = refl }
    of (inr (inr (inr (inr (inl k))))) = record { link = record { operator = op.Le; back = h.back; right = h.second; are = one_before k h.are; fits = omega arith }; left = refl }
    of (inr (inr (inr (inr (inr k))))) = record { link = record { operator = op.Ge; back = h.back; right = h.second; are = one_before k h.are; fits = omega arith }; left = refl }

at_end : {n : ℕ} {xs ys ms : List TokenKind} → ExprOf n xs → ys ≡ [] → ms ≡ xs ++ ys → ExprOf n ms
at_end {xs} e h d = record { tree = e.tree; part = e.part; derived = e.derived; spells = e.spells ∙ sym (d ∙ ap (λ z. xs ++ z) h ∙ append-nil xs) }

respelled : {n : ℕ} {xs ms : List TokenKind} → ExprOf n xs → ms ≡ xs → ExprOf n ms
respelled e d = record { tree = e.tree; part = e.part; derived = e.derived; spells = e.spells ∙ sym d }

compared : {xs ys ms : List TokenKind} → ExprOf at_sum xs → Joined (Sense comparisons) (ExprOf at_sum) ys → ms ≡ xs ++ ys → ExprOf at_compare ms
compared {ys} e h d =
    let l : CompareLink ys = compare_link ys h in
    respelled (grow e l.link (subst (λ k. IsPart k e.tree) (sym l.left) e.part)) d

more_of : {ms : List TokenKind} → Chain (Keyed kind.Comma (ExprOf at_or)) ms → MoreOf ms
more_of c_end = record { trees = no_trees; derived = tt; spells = refl }
more_of (c_more h c e) =
    let m : MoreOf _ = more_of c in
    record { trees = tree_then h.second.tree m.trees; derived = (h.second.derived, m.derived); spells = append_eq (ap (λ z. kind.Comma ∷ z) h.second.spells ∙ sym h.are) m.spells ∙ sym e }

args_of : {ms : List TokenKind} → Sense arguments ms → ArgsOf ms
args_of (inl h) =
    let m : MoreOf h.back = more_of h.second in
    record { trees = tree_then h.first.tree m.trees; derived = (h.first.derived, m.derived); spells = append_eq h.first.spells m.spells ∙ sym h.are }
args_of (inr e) = record { trees = no_trees; derived = tt; spells = sym e }

-- an expression in brackets behind some tokens
closed : {k : TokenKind} {xs front back ms : List TokenKind} → xs ≡ front → back ≡ k ∷ [] → ms ≡ front ++ back → xs ++ k ∷ [] ≡ ms
closed p q d = append_eq p (sym q) ∙ sym d

atom_of : {ms : List TokenKind} → Sense (rules atom) ms → ExprOf at_atom ms
atom_of (inl h) = record { tree = number h.0; part = omega arith; derived = tt; spells = sym h.1 }
atom_of (inr (inl h)) = record { tree = variable (word h.0); part = omega arith; derived = tt; spells = sym h.1 }
atom_of (inr (inr (inl h))) =
    let j : Joined (Sense arguments) (Sense (key kind.Close)) h.second.back = h.second.second in
    let a : ArgsOf j.front = args_of j.first in
    let e : args_spelled a.trees ++ kind.Close ∷ [] ≡ h.second.back = closed a.spells j.second j.are in
    record { tree = call (word h.id) a.trees; part = omega arith; derived = a.derived; spells = cc }
atom_of (inr (inr (inr (inl h)))) =
    let j : Joined (ExprOf at_or) (Sense (key kind.CloseBox)) h.second.back = h.second.second in
    let e : spelled j.first.tree ++ kind.CloseBox ∷ [] ≡ h.second.back = closed j.first.spells j.second j.are in
    record { tree = item (word h.id) j.first.tree; part = omega arith; derived = j.first.derived; spells = cc }
atom_of (inr (inr (inr (inr (inl h))))) = record { tree = size (word h.second.second.id); part = omega arith; derived = tt; spells = cc }
atom_of (inr (inr (inr (inr (inr (inl h)))))) = record { tree = message_size; part = omega arith; derived = tt; spells = cc }
atom_of (inr (inr (inr (inr (inr (inr (inl h))))))) =
    let j : Joined (ExprOf at_or) (Sense (key kind.CloseBox)) h.second.back = h.second.second in
    let e : spelled j.first.tree ++ kind.CloseBox ∷ [] ≡ h.second.back = closed j.first.spells j.second j.are in
    record { tree = message_item j.first.tree; part = omega arith; derived = j.first.derived; spells = cc }
atom_of (inr (inr (inr (inr (inr (inr (inr h))))))) =
    let j : Joined (ExprOf at_or) (Sense (key kind.Close)) h.back = h.second in
    let e : spelled j.first.tree ++ kind.Close ∷ [] ≡ h.back = closed j.first.spells j.second j.are in
    record { tree = paren j.first.tree; part = omega arith; derived = j.first.derived; spells = cc }

neg_of : {ms : List TokenKind} → Sense (rules neg) ms → ExprOf at_sign ms
neg_of (inl h) = record { tree = negative h.second.tree; part = omega arith; derived = (h.second.part, h.second.derived); spells = cc }
neg_of (inr e) = loosen (omega arith) e

notx_of : {ms : List TokenKind} → Sense (rules notx) ms → ExprOf at_not ms
notx_of (inl h) = record { tree = inverse h.second.tree; part = omega arith; derived = (h.second.part, h.second.derived); spells = cc }
notx_of (inr e) = loosen (omega arith) e

cmp_of : {ms : List TokenKind} → Sense (rules cmp) ms → ExprOf at_compare ms
cmp_of {ms} h = of h.second
  where
    of : Joined (Sense comparisons) (ExprOf at_sum) h.back ⊎ (h.back ≡ []) → ExprOf at_compare ms
    of (inl j) = compared h.first j h.are
    of (inr e) = at_end (loosen (omega arith) h.first) e h.are

step_of : {ms : List TokenKind} → Sense step ms → StepOf ms
step_of {ms} (inl h) = of h.second.first
  where
    size_of : ℕ
    size_of = h.second.second.0

    of : (h.second.front ≡ kind.Minus ∷ []) ⊎ (h.second.front ≡ []) → StepOf ms
    of (inl k) =
        let e : h.second.back ≡ kind.Num size_of ∷ [] = h.second.second.1 in
        let d : h.back ≡ kind.Minus ∷ h.second.back = one_before k h.second.are in
        record { step = Some (record { minus = true; size = size_of; place = 0 }); spells = cc }
    of (inr k) =
        let e : h.second.back ≡ kind.Num size_of ∷ [] = h.second.second.1 in
        let d : h.back ≡ h.second.back = none_before k h.second.are in
        record { step = Some (record { minus = false; size = size_of; place = 0 }); spells = cc }
step_of (inr e) = record { step = None; spells = sym e }

-- the statement that ends with an expression and a semicolon
ended : {n : ℕ} {ms : List TokenKind} (j : Joined (ExprOf n) (Sense (key kind.Semi)) ms) → spelled j.first.tree ++ kind.Semi ∷ [] ≡ ms
ended j = closed j.first.spells j.second j.are

set_of : {d : Dialect} {ms : List TokenKind} → Sense (NAME ▸ key kind.Eq ▸ rule expr ▸ key kind.Semi) ms → ActOf d ms
set_of h =
    let j : Joined (ExprOf at_or) (Sense (key kind.Semi)) h.second.back = h.second.second in
    let e : spelled j.first.tree ++ kind.Semi ∷ [] ≡ h.second.back = ended j in
    record { act = set (word h.id) j.first.tree; derived = j.first.derived; spells = cc }

take_of : {d : Dialect} {ms : List TokenKind} → Sense (NAME ▸ key kind.Eq ▸ NAME ▸ key kind.OpenBox ▸ key kind.CloseBox ▸ key kind.Semi) ms → ActOf d ms
take_of h = record { act = take_last (word h.id) (word h.second.second.id); derived = tt; spells = cc }

set_item_of : {d : Dialect} {ms : List TokenKind} → Sense (NAME ▸ key kind.OpenBox ▸ rule expr ▸ key kind.CloseBox ▸ key kind.Eq ▸ rule expr ▸ key kind.Semi) ms → ActOf d ms
set_item_of h =
    let i : Joined (ExprOf at_or) (Sense (key kind.CloseBox ▸ key kind.Eq ▸ rule expr ▸ key kind.Semi)) h.second.back = h.second.second in
    let j : Joined (ExprOf at_or) (Sense (key kind.Semi)) i.second.second.back = i.second.second.second in
    let e : spelled j.first.tree ++ kind.Semi ∷ [] ≡ i.second.second.back = ended j in
    let d : kind.CloseBox ∷ kind.Eq ∷ (spelled j.first.tree ++ kind.Semi ∷ []) ≡ i.back = cc in
    let g : spelled i.first.tree ++ (kind.CloseBox ∷ kind.Eq ∷ (spelled j.first.tree ++ kind.Semi ∷ [])) ≡ h.second.back = append_eq i.first.spells d ∙ sym i.are in
    record { act = set_item (word h.id) i.first.tree j.first.tree; derived = (i.first.derived, j.first.derived); spells = cc }

append_of : {d : Dialect} {ms : List TokenKind} → Sense (NAME ▸ key kind.OpenBox ▸ key kind.CloseBox ▸ key kind.Eq ▸ rule expr ▸ key kind.Semi) ms → ActOf d ms
append_of h =
    let b : List TokenKind = h.second.second.second.back in
    let j : Joined (ExprOf at_or) (Sense (key kind.Semi)) b = h.second.second.second.second in
    let e : spelled j.first.tree ++ kind.Semi ∷ [] ≡ h.second.second.second.back = ended j in
    record { act = append (word h.id) j.first.tree; derived = j.first.derived; spells = cc }

clear_of : {d : Dialect} {ms : List TokenKind} → Sense (key kind.Clear ▸ key kind.Open ▸ NAME ▸ key kind.Close ▸ key kind.Semi) ms → ActOf d ms
clear_of h = record { act = clear (word h.second.second.id); derived = tt; spells = cc }

call_alone_of : {d : Dialect} {ms : List TokenKind} → Sense (NAME ▸ key kind.Open ▸ arguments ▸ key kind.Close ▸ key kind.Semi) ms → ActOf d ms
call_alone_of h =
    let j : Joined (Sense arguments) (Sense (key kind.Close ▸ key kind.Semi)) h.second.back = h.second.second in
    let a : ArgsOf j.front = args_of j.first in
    let e : args_spelled a.trees ++ (kind.Close ∷ kind.Semi ∷ []) ≡ h.second.back = append_eq a.spells (cc) ∙ sym j.are in
    record { act = call_alone (word h.id) a.trees; derived = a.derived; spells = cc }

abbrev else_part : Rule → Part
else_part block = key kind.Else ▸ many (rule block)

abbrev ending : TokenKind → Part
ending k = key kind.End ▸ key k

-- statements with blocks, of the statements of a rule
module _ (d : Dialect) (block : Rule) (value : (xs : List TokenKind) → Value block xs → ActOf d xs) where
  acts_of : {ms : List TokenKind} → Chain (Sense (rule block)) ms → ActsOf d ms
  acts_of c_end = record { acts = no_acts; derived = tt; spells = refl }
  acts_of (c_more {xs} h c e) =
      let v : ActOf d xs = value xs h in
      let m : ActsOf d _ = acts_of c in
      record { acts = act_then v.act m.acts; derived = (v.derived, m.derived); spells = append_eq v.spells m.spells ∙ sym e }

  -- the statements of an `else` and the end
  else_of : (e : Tree) (a : Acts) → Derived e → ActsDerived d a → {xs : List TokenKind} (j : Joined (Sense (maybe (else_part block))) (Sense (ending kind.If)) xs) → {ms : List TokenKind} →
      ((tail : List TokenKind) → tail ≡ xs → kind.If ∷ spelled e ++ (kind.Then ∷ acts_spelled a ++ tail) ≡ ms) → ActOf d ms
  else_of e a x c {xs} j {ms} spells = of j.first
    where
      of : Keyed kind.Else (Chain (Sense (rule block))) j.front ⊎ (j.front ≡ []) → ActOf d ms
      of (inl k) =
          let b : ActsOf d k.back = acts_of k.second in
          let g : kind.Else ∷ acts_spelled b.acts ++ (kind.End ∷ kind.If ∷ []) ≡ xs = append_eq (ap (λ z. kind.Else ∷ z) b.spells ∙ sym k.are) (cc) ∙ sym j.are in
          record { act = if_else e a b.acts; derived = (x, c, b.derived); spells = spells _ g }
      of (inr k) =
          let f : xs ≡ j.back = none_before k j.are in
          let g : kind.End ∷ kind.If ∷ [] ≡ xs = cc in
          record { act = if_then e a; derived = (x, c); spells = spells _ g }

  if_of : {ms : List TokenKind} → Sense (key kind.If ▸ rule expr ▸ key kind.Then ▸ many (rule block) ▸ maybe (else_part block) ▸ ending kind.If) ms → ActOf d ms
  if_of {ms} h =
      let j : Joined (ExprOf at_or) (Sense (key kind.Then ▸ many (rule block) ▸ maybe (else_part block) ▸ ending kind.If)) h.back = h.second in
      let b : Joined (Chain (Sense (rule block))) (Sense (maybe (else_part block) ▸ ending kind.If)) j.second.back = j.second.second in
      let a : ActsOf d b.front = acts_of b.first in
      else_of j.first.tree a.acts j.first.derived a.derived b.second
      (λ tail e.
      let f : acts_spelled a.acts ++ tail ≡ j.second.back = append_eq a.spells e ∙ sym b.are in
      let g : spelled j.first.tree ++ (kind.Then ∷ acts_spelled a.acts ++ tail) ≡ h.back = append_eq j.first.spells (ap (λ z. kind.Then ∷ z) f ∙ sym j.second.are) ∙ sym j.are in
      ap (λ z. kind.If ∷ z) g ∙ sym h.are)

  for_of : {ms : List TokenKind} → Sense (key kind.For ▸ NAME ▸ key kind.Eq ▸ rule expr ▸ key kind.To ▸ rule expr ▸ step ▸ many (rule block) ▸ key kind.Next ▸ NAME) ms → ActOf d ms
  for_of {ms} h =
      let x : List TokenKind = h.second.second.back in
      let j : Joined (ExprOf at_or) (Sense (key kind.To ▸ rule expr ▸ step ▸ many (rule block) ▸ key kind.Next ▸ NAME)) x = h.second.second.second in
      let t : Joined (ExprOf at_or) (Sense (step ▸ many (rule block) ▸ key kind.Next ▸ NAME)) j.second.back = j.second.second in
      let s : Joined (Sense step) (Sense (many (rule block) ▸ key kind.Next ▸ NAME)) t.back = t.second in
      let b : Joined (Chain (Sense (rule block))) (Sense (key kind.Next ▸ NAME)) s.back = s.second in
      let c : StepOf s.front = step_of s.first in
      let a : ActsOf d b.front = acts_of b.first in
      let v : Word = word b.second.second.0 in
      let e1 : acts_spelled a.acts ++ (kind.Next ∷ name v ∷ []) ≡ s.back = append_eq a.spells (ap (λ z. kind.Next ∷ z) (sym b.second.second.1) ∙ sym b.second.are) ∙ sym b.are in
      let e2 : step_spelled c.step ++ (acts_spelled a.acts ++ (kind.Next ∷ name v ∷ [])) ≡ t.back = append_eq c.spells e1 ∙ sym s.are in
      let e3 : spelled t.first.tree ++ (step_spelled c.step ++ (acts_spelled a.acts ++ (kind.Next ∷ name v ∷ []))) ≡ j.second.back = append_eq t.first.spells e2 ∙ sym t.are in
      let e4 : spelled j.first.tree ++ (kind.To ∷ spelled t.first.tree ++ (step_spelled c.step ++ (acts_spelled a.acts ++ (kind.Next ∷ name v ∷ [])))) ≡ h.second.second.back =
      append_eq j.first.spells (ap (λ z. kind.To ∷ z) e3 ∙ sym j.second.are) ∙ sym j.are in
      record {
        act = for_next (word h.second.id) j.first.tree t.first.tree c.step a.acts v;
        derived = (j.first.derived, t.first.derived, a.derived);
        spells = ap (λ z. kind.For ∷ kind.Name h.second.id ∷ kind.Eq ∷ z) e4 ∙ ap (λ z. kind.For ∷ kind.Name h.second.id ∷ z) (sym h.second.second.are) ∙ ap (λ z. kind.For ∷ z) (sym h.second.are) ∙ sym h.are;
      }

  while_of : {ms : List TokenKind} → Sense (key kind.While ▸ rule expr ▸ many (rule block) ▸ ending kind.While) ms → ActOf d ms
  while_of h =
      let j : Joined (ExprOf at_or) (Sense (many (rule block) ▸ ending kind.While)) h.back = h.second in
      let b : Joined (Chain (Sense (rule block))) (Sense (ending kind.While)) j.back = j.second in
      let a : ActsOf d b.front = acts_of b.first in
      let e : acts_spelled a.acts ++ (kind.End ∷ kind.While ∷ []) ≡ j.back = append_eq a.spells (cc) ∙ sym b.are in
      let g : spelled j.first.tree ++ (acts_spelled a.acts ++ (kind.End ∷ kind.While ∷ [])) ≡ h.back = append_eq j.first.spells e ∙ sym j.are in
      record { act = while_do j.first.tree a.acts; derived = (j.first.derived, a.derived); spells = ap (λ z. kind.While ∷ z) g ∙ sym h.are }

  form_of : {ms : List TokenKind} → Sense (forms block) ms → ActOf d ms
  form_of (inl h) = set_of h
  form_of (inr (inl h)) = take_of h
  form_of (inr (inr (inl h))) = set_item_of h
  form_of (inr (inr (inr (inl h)))) = append_of h
  form_of (inr (inr (inr (inr (inl h))))) = clear_of h
  form_of (inr (inr (inr (inr (inr (inl h)))))) = call_alone_of h
  form_of (inr (inr (inr (inr (inr (inr (inl h))))))) = if_of h
  form_of (inr (inr (inr (inr (inr (inr (inr (inl h)))))))) = for_of h
  form_of (inr (inr (inr (inr (inr (inr (inr (inr h)))))))) = while_of h

plain_value : (xs : List TokenKind) → Value stmt xs → ActOf dialect.Plain xs
plain_value xs v = v

do_value : (xs : List TokenKind) → Value pstmt xs → ActOf dialect.Procedures xs
do_value xs v = v

stmt_of : {ms : List TokenKind} → Sense (rules stmt) ms → ActOf dialect.Plain ms
stmt_of h = form_of dialect.Plain stmt plain_value h

run_of : {ms : List TokenKind} → Sense do_form ms → ActOf dialect.Procedures ms
run_of h =
    let j : Joined (Sense arguments) (Sense (key kind.Close ▸ key kind.Semi)) h.second.second.back = h.second.second.second in
    let a : ArgsOf j.front = args_of j.first in
    let e : args_spelled a.trees ++ (kind.Close ∷ kind.Semi ∷ []) ≡ h.second.second.back = append_eq a.spells (cc) ∙ sym j.are in
    record { act = run_procedure (word h.second.id) a.trees; derived = a.derived; spells = cc }

pstmt_of : {ms : List TokenKind} → Sense (rules pstmt) ms → ActOf dialect.Procedures ms
pstmt_of (inl h) = form_of dialect.Procedures pstmt do_value h
pstmt_of (inr h) = run_of h

-- the names behind commas of a declaration
names_of : {ms : List TokenKind} → Chain (Keyed kind.Comma (Sense NAME)) ms → (ns : List (List ℕ)) × (commas ns ≡ ms)
names_of c_end = ([], refl)
names_of (c_more h c e) =
    let m : (ns : List (List ℕ)) × (commas ns ≡ _) = names_of c in
    (h.second.0 ∷ m.0, append_eq (ap (λ z. kind.Comma ∷ z) (sym h.second.1) ∙ sym h.are) m.1 ∙ sym e)

keyword_of : {xs : List TokenKind} → Sense (key kind.Shared ∣ key kind.Private ∣ key kind.Buffer) xs → (k : DeclKind) × (decl_keyword k ∷ [] ≡ xs)
keyword_of (inl e) = (decls.Shared, sym e)
keyword_of (inr (inl e)) = (decls.Private, sym e)
keyword_of (inr (inr e)) = (decls.Buffer, sym e)

decl_of : {ms : List TokenKind} → Sense (rules decl) ms → DeclOf ms
decl_of h =
    let k : (k : DeclKind) × (decl_keyword k ∷ [] ≡ h.front) = keyword_of h.first in
    let j : Joined (Chain (Keyed kind.Comma (Sense NAME))) (Sense (key kind.Semi)) h.second.back = h.second.second in
    let n : (ns : List (List ℕ)) × (commas ns ≡ j.front) = names_of j.first in
    let e : commas n.0 ++ kind.Semi ∷ [] ≡ h.second.back = closed n.1 j.second j.are in
    record { of_kind = k.0; first = h.second.id; others = n.0; spells = append_eq k.1 (ap (λ z. kind.Name h.second.id ∷ z) e ∙ sym h.second.are) ∙ sym h.are }

-- the names of one declaration, before others
named : DeclKind → Bool → List ℕ → Decl
named k b n = record { kind = k; word = word n; first = b }

with_names : DeclKind → List (List ℕ) → List Decl → List Decl
with_names k [] ds = ds
with_names k (n ∷ ns) ds = named k false n ∷ with_names k ns ds

gap_before : (ds : List Decl) → DeclsDerived ds → decls_gap ds ++ decls_spelled ds ≡ kind.Semi ∷ decls_spelled ds
gap_before [] h = refl
gap_before (d ∷ ds) h = rw h.0 refl

names_spelled : (k : DeclKind) (ns : List (List ℕ)) (ds : List Decl) → DeclsDerived ds →
    decls_gap (with_names k ns ds) ++ decls_spelled (with_names k ns ds) ≡ commas ns ++ (kind.Semi ∷ decls_spelled ds)
unfolding with_names named
names_spelled k [] ds h = gap_before ds h
names_spelled k (n ∷ ns) ds h = ap (λ z. kind.Comma ∷ kind.Name n ∷ z) (names_spelled k ns ds h)

follows : (k : DeclKind) (ds : List Decl) → DeclsDerived ds → NamesFollow k ds
follows k [] h = tt
follows k (d ∷ ds) h = (inl h.0, h.1)

names_follow : (k : DeclKind) (ns : List (List ℕ)) (ds : List Decl) → DeclsDerived ds → NamesFollow k (with_names k ns ds)
unfolding with_names named
names_follow k [] ds h = follows k ds h
names_follow k (n ∷ ns) ds h = (inr refl, names_follow k ns ds h)

-- declarations that spell the tokens
record DeclsOf (ms : List TokenKind) : Type 0 where
  decls : List Decl
  derived : DeclsDerived decls
  spells : decls_spelled decls ≡ ms

decls_more : {ms xs ys : List TokenKind} → DeclOf xs → DeclsOf ys → ms ≡ xs ++ ys → DeclsOf ms
unfolding named
decls_more {xs} {ys} d m e = record {
  decls = named d.of_kind true d.first ∷ with_names d.of_kind d.others m.decls;
  derived = (refl, names_follow d.of_kind d.others m.decls m.derived);
  spells = ap (λ z. decl_keyword d.of_kind ∷ kind.Name d.first ∷ z) (names_spelled d.of_kind d.others m.decls m.derived ∙ sym (append_assoc (commas d.others) (kind.Semi ∷ []) (decls_spelled m.decls))) ∙ append_eq d.spells m.spells ∙ sym e;
}

decls_of : {ms : List TokenKind} → Chain DeclOf ms → DeclsOf ms
decls_of c_end = record { decls = []; derived = tt; spells = refl }
decls_of (c_more h c e) = decls_more h (decls_of c) e

script_of : {ms : List TokenKind} → Sense (rules script) ms → IsScript ms
script_of h =
    let d : DeclsOf h.front = decls_of h.first in
    let a : ActsOf dialect.Plain h.back = acts_of dialect.Plain stmt plain_value h.second in
    record { source = record { decls = d.decls; body = a.acts }; derived = record { decls = d.derived; body = a.derived }; spells = append_eq d.spells a.spells ∙ sym h.are }

-- the parameters of a procedure
words : List (List ℕ) → List Word
words [] = []
words (n ∷ ns) = word n ∷ words ns

words_spelled : (ns : List (List ℕ)) → other_params_spelled (words ns) ≡ commas ns
unfolding words
words_spelled [] = refl
words_spelled (n ∷ ns) = ap (λ z. kind.Comma ∷ kind.Name n ∷ z) (words_spelled ns)

params_of : {ms : List TokenKind} → Sense parameters ms → (ws : List Word) × (params_spelled ws ≡ ms)
params_of (inl h) =
    let n : (ns : List (List ℕ)) × (commas ns ≡ h.back) = names_of h.second in
    (word h.id ∷ words n.0, ap (λ z. kind.Name h.id ∷ z) (words_spelled n.0 ∙ n.1) ∙ sym h.are)
params_of (inr e) = ([], sym e)

procedure_read : {ms : List TokenKind} → Sense (rules proc) ms → ProcedureOf ms
procedure_read h =
    let j : Joined (Sense parameters) (Sense (key kind.Close ▸ many (rule pstmt) ▸ ending kind.Proc)) h.second.second.back = h.second.second.second in
    let b : Joined (Chain (Sense (rule pstmt))) (Sense (ending kind.Proc)) j.second.back = j.second.second in
    let w : (ws : List Word) × (params_spelled ws ≡ j.front) = params_of j.first in
    let a : ActsOf dialect.Procedures b.front = acts_of dialect.Procedures pstmt do_value b.first in
    let e : acts_spelled a.acts ++ (kind.End ∷ kind.Proc ∷ []) ≡ j.second.back = append_eq a.spells (cc) ∙ sym b.are in
    let f : params_spelled w.0 ++ (kind.Close ∷ acts_spelled a.acts ++ (kind.End ∷ kind.Proc ∷ [])) ≡ h.second.second.back =
    append_eq w.1 (ap (λ z. kind.Close ∷ z) e ∙ sym j.second.are) ∙ sym j.are in
    record {
      procedure = record { name = word h.second.id; params = w.0; body = a.acts };
      derived = a.derived;
      spells = ap (λ z. kind.Proc ∷ kind.Name h.second.id ∷ kind.Open ∷ z) f ∙ ap (λ z. kind.Proc ∷ kind.Name h.second.id ∷ z) (sym h.second.second.are) ∙ ap (λ z. kind.Proc ∷ z) (sym h.second.are) ∙ sym h.are;
    }

-- procedures that spell the tokens
record ProceduresOf (ms : List TokenKind) : Type 0 where
  procs : List Procedure
  derived : ProceduresDerived procs
  spells : procedures_spelled procs ≡ ms

procedures_of : {ms : List TokenKind} → Chain ProcedureOf ms → ProceduresOf ms
procedures_of c_end = record { procs = []; derived = tt; spells = refl }
procedures_of (c_more h c e) =
    let m : ProceduresOf _ = procedures_of c in
    record { procs = h.procedure ∷ m.procs; derived = (h.derived, m.derived); spells = append_eq h.spells m.spells ∙ sym e }

pscript_of : {ms : List TokenKind} → Sense (rules pscript) ms → IsProcedureScript ms
pscript_of h =
    let d : DeclsOf h.front = decls_of h.first in
    let j : Joined (Chain ProcedureOf) (Chain (Sense (rule pstmt))) h.back = h.second in
    let p : ProceduresOf j.front = procedures_of j.first in
    let a : ActsOf dialect.Procedures j.back = acts_of dialect.Procedures pstmt do_value j.second in
    record {
      source = record { decls = d.decls; procs = p.procs; body = a.acts };
      derived = record { decls = d.derived; procs = p.derived; body = a.derived };
      spells = append_eq d.spells (append_eq p.spells a.spells ∙ sym j.are) ∙ sym h.are;
    }

rule_sense : (r : Rule) (ms : List TokenKind) → Sense (rules r) ms → Value r ms
rule_sense script ms h = script_of h
rule_sense decl ms h = decl_of h
rule_sense stmt ms h = stmt_of h
rule_sense pscript ms h = pscript_of h
rule_sense proc ms h = procedure_read h
rule_sense pstmt ms h = pstmt_of h
rule_sense expr ms h = chain or_link (loosen (omega arith) h.first) h.second h.are
rule_sense andx ms h = chain and_link (loosen (omega arith) h.first) h.second h.are
rule_sense notx ms h = notx_of h
rule_sense cmp ms h = cmp_of h
rule_sense sum ms h = chain sum_link (loosen (omega arith) h.first) h.second h.are
rule_sense prod ms h = chain product_link (loosen (omega arith) h.first) h.second h.are
rule_sense neg ms h = neg_of h
rule_sense atom ms h = atom_of h

-- whole tokens mean what their part means
sense : {p : Part} {ms : List TokenKind} → Whole p ms → Sense p ms
sense w_nothing = refl
sense (w_name {n}) = (n, refl)
sense (w_number {n}) = (n, refl)
sense w_key = refl
sense (w_rule {r} {ms} w) = rule_sense r ms (sense w)
sense (w_then {p} {q} {xs} {ys} v w e) = joined p q xs ys (sense v) (sense w) e
sense (w_left w) = inl (sense w)
sense (w_right w) = inr (sense w)
sense w_end = c_end
sense (w_more v w e) = c_more (sense v) (sense w) e

-- a whole script is what a derived tree spells
pub script_spelled : {ms : List TokenKind} → Whole (rule script) ms → IsScript ms
script_spelled w = sense w

-- the same, with procedures
pub procedure_script_spelled : {ms : List TokenKind} → Whole (rule pscript) ms → IsProcedureScript ms
procedure_script_spelled w = sense w
