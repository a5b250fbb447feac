-- Tokens that a printer prints in a row.
use Rattle.std.proofs.Common.{◌≡◌, ℕ, Bool, true, false, ◌&&◌, List, [], ◌∷◌, ◌++◌, Option, None, Some, Result, refl, sym, ◌∙◌, ap, subst, append_assoc, append-nil}
use Rattle.mate_files.specs.Pen.{Prints}
use Rattle.mate_files.proofs.PenLemmas.{Prints-nil, Prints-by, ◌⟫◌}
use Rattle.mate_files.specs.declared.sink.SinkFault.{SinkFault}
use Rattle.ts_syntax.specs.declared.printer.Printer.{Printer}
use Rattle.ts_trees.specs.declared.token.TokenKind.{TokenKind}
use Rattle.ts_trees.specs.Text.{token_text, space, written, begun}
use Rattle.ts_trees.specs.declared.expr.Expr.{Expr}
use Rattle.ts_trees.specs.Tree.{Trees}
use Rattle.ts_trees.specs.declared.stmt.Stmt.{Stmt}
use Rattle.ts_trees.specs.declared.stmt.ForHead.{ForHead}
use Rattle.ts_trees.specs.declared.stmt.Stmt.TheVariants as does
use Rattle.ts_trees.specs.declared.token.TokenKind.TheVariants as kind
use Rattle.ts_trees.specs.declared.word.Word.{Word}
use Rattle.ts_trees.proofs.SeenLemmas.{act_for_next, act_if_then, act_if_else}
use Rattle.ts_trees.specs.declared.script.Decl.{Decl}
use Rattle.ts_trees.specs.Spelling.{spelled, step_spelled, args_spelled, more_spelled, act_spelled, acts_spelled, name, decl_start, decls_gap, decls_spelled}
use Rattle.ts_trees.specs.Seen.{tree_of, trees_of, act_of, acts_of}
use Rattle.ts_syntax.specs.Naming.{named_expr, named_args, named_act, named_acts}
use Rattle.ts_syntax.specs.Print.{PrintsTokens, comma_before, closing, head_spelled}

-- the tokens of the arguments from the first on, or behind it
abbrev pub rest_spelled : Bool → Trees → List TokenKind
rest_spelled true es = args_spelled es
rest_spelled false es = more_spelled es

written-append : (b : Bool) (xs ys : List TokenKind) → written b (xs ++ ys) ≡ written b xs ++ written (begun b xs) ys
unfolding written
written-append b [] ys = refl
written-append b (x ∷ xs) ys = ap (λ z. space b ++ token_text x ++ z) (written-append true xs ys ∙ ap (λ c. written true xs ++ written c ys) (begun_true xs)) ∙ sym (append_assoc (space b ++ token_text x) (written true xs) (written true ys))
  where
    begun_true : (zs : List TokenKind) → begun true zs ≡ true
    begun_true [] = refl
    begun_true (z ∷ zs) = refl

begun-append : (b : Bool) (xs ys : List TokenKind) → begun b (xs ++ ys) ≡ begun (begun b xs) ys
begun-append b [] ys = refl
begun-append b (x ∷ xs) [] = refl
begun-append b (x ∷ xs) (y ∷ ys) = refl

written_one : (b : Bool) (k : TokenKind) → space b ++ token_text k ≡ written b (k ∷ [])
unfolding written
written_one b k = sym (append-nil _)

-- one token, behind the space that belongs before it
pub one_token : {w0 w1 w2 : Option (List ℕ)} {f0 f1 f2 : ℕ} {r1 : Result (Unit {0}) SinkFault} {old new : Printer} {gap text : List ℕ} (k : TokenKind)
    → gap ≡ space old.begun → text ≡ token_text k → new.begun ≡ true → Prints w0 f0 old.pen.result w1 f1 r1 gap → Prints w1 f1 r1 w2 f2 new.pen.result text → PrintsTokens w0 f0 old w2 f2 new (k ∷ [])
one_token {old} k g e b p q = record { prints = Prints-by (written_one old.begun k) (Prints-by g p ⟫ Prints-by e q); begun = b }

-- the same of one piece
pub one_piece : {w0 w1 : Option (List ℕ)} {f0 f1 : ℕ} {old new : Printer} {piece : List ℕ} (k : TokenKind)
    → piece ≡ space old.begun ++ token_text k → new.begun ≡ true → Prints w0 f0 old.pen.result w1 f1 new.pen.result piece → PrintsTokens w0 f0 old w1 f1 new (k ∷ [])
one_piece {old} k is b p = record { prints = Prints-by (written_one old.begun k) (Prints-by is p); begun = b }

-- tokens and then others
infixl 20 ◌⋙◌
pub ◌⋙◌ : {w0 w1 w2 : Option (List ℕ)} {f0 f1 f2 : ℕ} {a b c : Printer} {ks ls : List TokenKind}
    → PrintsTokens w0 f0 a w1 f1 b ks → PrintsTokens w1 f1 b w2 f2 c ls → PrintsTokens w0 f0 a w2 f2 c (ks ++ ls)
◌⋙◌ {w1} {w2} {f1} {f2} {a} {b} {c} {ks} {ls} p q =
    let q' : Prints w1 f1 b.pen.result w2 f2 c.pen.result (written (begun a.begun ks) ls) = Prints-by (ap (λ z. written z ls) p.begun) q.prints in
    record {
      prints = Prints-by (sym (written-append a.begun ks ls)) (p.prints ⟫ q');
      begun = q.begun ∙ ap (λ z. begun z ls) p.begun ∙ sym (begun-append a.begun ks ls);
    }

-- no token
pub no_token : {w : Option (List ℕ)} {f : ℕ} {a : Printer} → PrintsTokens w f a w f a []
unfolding written
no_token = record { prints = Prints-nil; begun = refl }

-- the same of equal tokens
pub tokens_by : {w0 w1 : Option (List ℕ)} {f0 f1 : ℕ} {a b : Printer} {ks ls : List TokenKind} → ls ≡ ks → PrintsTokens w0 f0 a w1 f1 b ks → PrintsTokens w0 f0 a w1 f1 b ls
tokens_by {w0} {w1} {f0} {f1} {a} {b} e p = subst (λ z. PrintsTokens w0 f0 a w1 f1 b z) (sym e) p

-- an expression that a pointer leads to
pub behind_box : (n : Word → Word) {w0 w1 : Option (List ℕ)} {f0 f1 : ℕ} {a b : Printer} {d e : Expr} → d ≡ e → PrintsTokens w0 f0 a w1 f1 b (spelled (named_expr n (tree_of d)))
    → PrintsTokens w0 f0 a w1 f1 b (spelled (named_expr n (tree_of e)))
behind_box n p q = tokens_by (ap (λ x. spelled (named_expr n (tree_of x))) (sym p)) q

-- arguments that are printed up to a place
pub record ArgsUpTo (n : Word → Word) (w0 : Option (List ℕ)) (f0 : ℕ) (a : Printer) (w1 : Option (List ℕ)) (f1 : ℕ) (b : Printer) (first : Bool) (rest all : List Expr) : Type 0 where
  pub front : List TokenKind
  pub whole : args_spelled (named_args n (trees_of all)) ≡ front ++ rest_spelled first (named_args n (trees_of rest))
  pub printed : PrintsTokens w0 f0 a w1 f1 b front

pub args_start : (n : Word → Word) (w : Option (List ℕ)) (f : ℕ) (a : Printer) (all : List Expr) → ArgsUpTo n w f a w f a true all all
args_start n w f a all = record { front = []; whole = refl; printed = no_token }

pub args_end : (n : Word → Word) {w0 w1 : Option (List ℕ)} {f0 f1 : ℕ} {a b : Printer} (first : Bool) {rest all : List Expr} → rest ≡ [] → ArgsUpTo n w0 f0 a w1 f1 b first rest all
    → PrintsTokens w0 f0 a w1 f1 b (args_spelled (named_args n (trees_of all)))
args_end n first {rest} e u = tokens_by (u.whole ∙ ap (λ z. u.front ++ z) (ap (λ z. rest_spelled first (named_args n (trees_of z))) e ∙ none first) ∙ append-nil u.front) u.printed
  where
    none : (first : Bool) → rest_spelled first (named_args n (trees_of [])) ≡ []
    none true = refl
    none false = refl

rest_then : (n : Word → Word) (first : Bool) (e : Expr) (es : List Expr)
    → rest_spelled first (named_args n (trees_of (e ∷ es))) ≡ comma_before first ++ (spelled (named_expr n (tree_of e)) ++ rest_spelled false (named_args n (trees_of es)))
rest_then n true e es = refl
rest_then n false e es = refl

pub args_next : (n : Word → Word) {w0 w1 w2 w3 : Option (List ℕ)} {f0 f1 f2 f3 : ℕ} {a b c d : Printer} (first : Bool) {e : Expr} {rest es all : List Expr} → rest ≡ e ∷ es
    → ArgsUpTo n w0 f0 a w1 f1 b first rest all → PrintsTokens w1 f1 b w2 f2 c (comma_before first) → PrintsTokens w2 f2 c w3 f3 d (spelled (named_expr n (tree_of e)))
    → ArgsUpTo n w0 f0 a w3 f3 d false es all
args_next n first {e} {rest} {es} h u p q = let this : List TokenKind = spelled (named_expr n (tree_of e)) in record {
  front = u.front ++ comma_before first ++ this;
  whole = u.whole ∙ ap (λ z. u.front ++ z) (ap (λ z. rest_spelled first (named_args n (trees_of z))) h ∙ rest_then n first e es)
      ∙ sym (append_assoc u.front (comma_before first) (this ++ rest_spelled false (named_args n (trees_of es))))
      ∙ sym (append_assoc (u.front ++ comma_before first) this (rest_spelled false (named_args n (trees_of es))));
  printed = u.printed ⋙ p ⋙ q;
}

-- statements that are printed up to a place
pub record ActsUpTo (n : Word → Word) (w0 : Option (List ℕ)) (f0 : ℕ) (a : Printer) (w1 : Option (List ℕ)) (f1 : ℕ) (b : Printer) (rest all : List Stmt) : Type 0 where
  pub front : List TokenKind
  pub whole : acts_spelled (named_acts n (acts_of all)) ≡ front ++ acts_spelled (named_acts n (acts_of rest))
  pub printed : PrintsTokens w0 f0 a w1 f1 b front

pub acts_start : (n : Word → Word) (w : Option (List ℕ)) (f : ℕ) (a : Printer) (all : List Stmt) → ActsUpTo n w f a w f a all all
acts_start n w f a all = record { front = []; whole = refl; printed = no_token }

pub acts_end : (n : Word → Word) {w0 w1 : Option (List ℕ)} {f0 f1 : ℕ} {a b : Printer} {rest all : List Stmt} → rest ≡ [] → ActsUpTo n w0 f0 a w1 f1 b rest all
    → PrintsTokens w0 f0 a w1 f1 b (acts_spelled (named_acts n (acts_of all)))
acts_end n e u = tokens_by (u.whole ∙ ap (λ z. u.front ++ acts_spelled (named_acts n (acts_of z))) e ∙ append-nil u.front) u.printed

pub acts_next : (n : Word → Word) {w0 w1 w2 : Option (List ℕ)} {f0 f1 f2 : ℕ} {a b c : Printer} {s : Stmt} {rest more all : List Stmt} → rest ≡ s ∷ more
    → ActsUpTo n w0 f0 a w1 f1 b rest all → PrintsTokens w1 f1 b w2 f2 c (act_spelled (named_act n (act_of s))) → ActsUpTo n w0 f0 a w2 f2 c more all
acts_next n {s} {more} h u p = let this : List TokenKind = act_spelled (named_act n (act_of s)) in record {
  front = u.front ++ this;
  whole = u.whole ∙ ap (λ z. u.front ++ acts_spelled (named_acts n (acts_of z))) h ∙ sym (append_assoc u.front this (acts_spelled (named_acts n (acts_of more))));
  printed = u.printed ⋙ p;
}

-- the tokens of declared names, behind another one or at the start
abbrev pub names_spelled : Bool → List Decl → List TokenKind
names_spelled true ds = decls_gap ds ++ decls_spelled ds
names_spelled false ds = decls_spelled ds

-- declared names that are printed up to a place
pub record DeclsUpTo (w0 : Option (List ℕ)) (f0 : ℕ) (a : Printer) (w1 : Option (List ℕ)) (f1 : ℕ) (b : Printer) (opened : Bool) (rest all : List Decl) : Type 0 where
  pub front : List TokenKind
  pub whole : decls_spelled all ≡ front ++ names_spelled opened rest
  pub printed : PrintsTokens w0 f0 a w1 f1 b front

pub decls_begin : (w : Option (List ℕ)) (f : ℕ) (a : Printer) (all : List Decl) → DeclsUpTo w f a w f a false all all
decls_begin w f a all = record { front = []; whole = refl; printed = no_token }

names_then : (opened : Bool) (d : Decl) (ds : List Decl) → names_spelled opened (d ∷ ds) ≡ (closing (opened && d.first) ++ (decl_start d.first d.kind ∷ name d.word ∷ [])) ++ names_spelled true ds
names_then true d ds = by d.first
  where
    by : (b : Bool) → names_spelled true (record d { first = b } ∷ ds) ≡ (closing b ++ (decl_start b d.kind ∷ name d.word ∷ [])) ++ names_spelled true ds
    by true = refl
    by false = refl
names_then false d ds = refl

pub decls_next : {w0 w1 w2 : Option (List ℕ)} {f0 f1 f2 : ℕ} {a b c : Printer} (opened : Bool) {d : Decl} {rest ds all : List Decl} → rest ≡ d ∷ ds
    → DeclsUpTo w0 f0 a w1 f1 b opened rest all → PrintsTokens w1 f1 b w2 f2 c (closing (opened && d.first) ++ (decl_start d.first d.kind ∷ name d.word ∷ []))
    → DeclsUpTo w0 f0 a w2 f2 c true ds all
decls_next opened {d} {ds} h u p = record {
  front = u.front ++ (closing (opened && d.first) ++ (decl_start d.first d.kind ∷ name d.word ∷ []));
  whole = u.whole ∙ ap (λ z. u.front ++ names_spelled opened z) h ∙ ap (λ z. u.front ++ z) (names_then opened d ds)
      ∙ sym (append_assoc u.front (closing (opened && d.first) ++ (decl_start d.first d.kind ∷ name d.word ∷ [])) (names_spelled true ds));
  printed = u.printed ⋙ p;
}

names_end : (opened : Bool) → names_spelled opened [] ≡ closing opened
names_end true = refl
names_end false = refl

pub decls_finish : {w0 w1 w2 : Option (List ℕ)} {f0 f1 f2 : ℕ} {a b c : Printer} (opened : Bool) {rest all : List Decl} → rest ≡ [] → DeclsUpTo w0 f0 a w1 f1 b opened rest all
    → PrintsTokens w1 f1 b w2 f2 c (closing opened) → PrintsTokens w0 f0 a w2 f2 c (decls_spelled all)
decls_finish opened e u p = tokens_by (u.whole ∙ ap (λ z. u.front ++ names_spelled opened z) e ∙ ap (λ z. u.front ++ z) (names_end opened)) (u.printed ⋙ p)

-- a `for`, with its head
pub for_spelled : (n : Word → Word) (h : ForHead) (a : List Stmt) (v : Word)
    → act_spelled (named_act n (act_of (does.For h a v))) ≡ head_spelled n h ++ (acts_spelled (named_acts n (acts_of a)) ++ kind.Next ∷ name (n v) ∷ [])
for_spelled n h a v =
    let rest : List TokenKind = acts_spelled (named_acts n (acts_of a)) ++ kind.Next ∷ name (n v) ∷ [] in
    let to : List TokenKind = spelled (named_expr n (tree_of h.to)) in
    let from : List TokenKind = spelled (named_expr n (tree_of h.from)) in
    ap (λ s. act_spelled (named_act n s)) (act_for_next h a v)
    ∙ sym (ap (λ z. kind.For ∷ name (n h.var) ∷ kind.Eq ∷ z)
    (append_assoc from (kind.To ∷ (to ++ step_spelled h.step)) rest ∙ ap (λ z. from ++ (kind.To ∷ z)) (append_assoc to (step_spelled h.step) rest)))

-- an `if` without `else`, and with one: its head is printed as one
pub if_then_spelled : (n : Word → Word) (e : Expr) (a : List Stmt)
    → act_spelled (named_act n (act_of (does.If e a None)))
    ≡ (kind.If ∷ spelled (named_expr n (tree_of e)) ++ (kind.Then ∷ [])) ++ (acts_spelled (named_acts n (acts_of a)) ++ (kind.End ∷ kind.If ∷ []))
if_then_spelled n e a =
    ap (λ s. act_spelled (named_act n s)) (act_if_then e a)
    ∙ sym (ap (λ z. kind.If ∷ z) (append_assoc (spelled (named_expr n (tree_of e))) (kind.Then ∷ []) (acts_spelled (named_acts n (acts_of a)) ++ (kind.End ∷ kind.If ∷ []))))

pub if_else_spelled : (n : Word → Word) (e : Expr) (a b : List Stmt)
    → act_spelled (named_act n (act_of (does.If e a (Some b))))
    ≡ (kind.If ∷ spelled (named_expr n (tree_of e)) ++ (kind.Then ∷ [])) ++ (acts_spelled (named_acts n (acts_of a))
    ++ (kind.Else ∷ acts_spelled (named_acts n (acts_of b)) ++ (kind.End ∷ kind.If ∷ [])))
if_else_spelled n e a b =
    ap (λ s. act_spelled (named_act n s)) (act_if_else e a b)
    ∙ sym (ap (λ z. kind.If ∷ z) (append_assoc (spelled (named_expr n (tree_of e))) (kind.Then ∷ [])
    (acts_spelled (named_acts n (acts_of a)) ++ (kind.Else ∷ acts_spelled (named_acts n (acts_of b)) ++ (kind.End ∷ kind.If ∷ [])))))
