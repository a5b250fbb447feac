-- What a derived tree spells is a whole part of the grammar.
use Rattle.std.proofs.Common.{◌≡◌, ℕ, zero, suc, ◌+◌, ◌-◌, ◌≤◌, Bool, true, false, List, [], ◌∷◌, ◌++◌, get_or, Option, Some, None, refl, sym, ◌∙◌, ap, subst, append_assoc, append-nil, arith}
use Rattle.ts_checked.specs.declared.bin_op.BinOp.{BinOp}
use Rattle.ts_checked.specs.declared.bin_op.BinOp.TheVariants as op
use Rattle.ts_trees.specs.declared.word.Word.{Word}
use Rattle.ts_trees.specs.declared.stmt.Step.{Step}
use Rattle.ts_trees.specs.declared.dialect.Dialect.{Dialect}
use Rattle.ts_trees.specs.declared.dialect.Dialect.TheVariants as dialect
use Rattle.ts_trees.specs.declared.script.Decl.{Decl}
use Rattle.ts_trees.specs.declared.script.DeclKind.{DeclKind}
use Rattle.ts_trees.specs.declared.script.DeclKind.TheVariants as decls
use Rattle.ts_trees.specs.declared.token.TokenKind.{TokenKind}
use Rattle.ts_trees.specs.declared.token.TokenKind.TheVariants as kind
use Rattle.ts_trees.specs.Tree.{Tree, number, variable, item, size, message_item, message_size, call, negative, inverse, two, paren, Trees, no_trees, tree_then, Act, set, set_item, append, take_last, clear, call_alone, if_then, if_else, for_next, while_do, run_procedure, Acts, no_acts, act_then, Source, Procedure, ProcedureSource}
use Rattle.ts_trees.specs.Spelling.{sign, spelled, args_spelled, more_spelled, minus_spelled, step_spelled, act_spelled, acts_spelled, name, decl_keyword, decl_start, decl_end, decls_gap, decls_spelled, source_spelled, params_spelled, other_params_spelled, procedure_spelled, procedures_spelled, procedure_source_spelled}
use Rattle.ts_trees.specs.Derived.{level, Derived, ArgsDerived, ActDerived, ActsDerived, RunDerived, DeclsDerived, ProceduresDerived, IsDerived, IsDerivedWithProcedures}
use Rattle.ts_trees.proofs.Levels.{at_or, at_not, at_sign, level_of, left_of, right_of}
use Rattle.ts_trees.specs.Grammar.{Rule, script, decl, stmt, pscript, proc, pstmt, expr, andx, notx, cmp, sum, prod, neg, atom, Part, NAME, NUM, key, rule, ◌▸◌, ◌∣◌, many, maybe, arguments, step, parameters, forms, rules, Whole, w_nothing, w_name, w_number, w_key, w_rule, w_then, w_left, w_right, w_end, w_more}

-- the rule of a level
abbrev rule_of : ℕ → Rule
rule_of n = get_or (expr ∷ andx ∷ notx ∷ cmp ∷ sum ∷ prod ∷ neg ∷ []) n atom

-- tokens that an expression's rule derives
abbrev IsWhole : ℕ → List TokenKind → Type 0
IsWhole n ms = Whole (rule (rule_of n)) ms

-- the tokens of a level are those of the next looser one, and so of each looser one
looser : {ms : List TokenKind} (n : ℕ) → IsWhole (suc n) ms → IsWhole n ms
looser zero w = w_rule (w_then w w_end (sym (append-nil _)))
looser (suc zero) w = w_rule (w_then w w_end (sym (append-nil _)))
looser (suc (suc zero)) w = w_rule (w_right w)
looser (suc (suc (suc zero))) w = w_rule (w_then w (w_right w_nothing) (sym (append-nil _)))
looser (suc (suc (suc (suc zero)))) w = w_rule (w_then w w_end (sym (append-nil _)))
looser (suc (suc (suc (suc (suc zero))))) w = w_rule (w_then w w_end (sym (append-nil _)))
looser (suc (suc (suc (suc (suc (suc zero)))))) w = w_rule (w_right w)
looser (suc (suc (suc (suc (suc (suc (suc n))))))) w = w

lower : {ms : List TokenKind} (k n m : ℕ) → m ≡ n + k → IsWhole m ms → IsWhole n ms
lower {ms} zero n m e w = subst (λ l. IsWhole l ms) (omega arith) w
lower (suc k) n m e w = looser n (lower k (suc n) m (omega arith) w)

below : {ms : List TokenKind} (m n : ℕ) → n ≤ m → IsWhole m ms → IsWhole n ms
below m n h w = lower (m - n) n m (omega arith) w

at_loosest : {ms : List TokenKind} (m : ℕ) → IsWhole m ms → IsWhole at_or ms
at_loosest m w = below m at_or (omega arith) w

unrule : {r : Rule} {ms : List TokenKind} → Whole (rule r) ms → Whole (rules r) ms
unrule (w_rule w) = w

-- one more part behind many
snoc : {p : Part} {xs ys : List TokenKind} → Whole (many p) xs → Whole p ys → Whole (many p) (xs ++ ys)
snoc {ys} w_end v = w_more v w_end (sym (append-nil ys))
snoc {ys} (w_more {xs = a} {ys = b} v w e) u = w_more v (snoc w u) (ap (λ z. z ++ ys) e ∙ append_assoc a b ys)

-- one more link of a chain
extend : {p l : Part} {xs ys : List TokenKind} → Whole (p ▸ many l) xs → Whole l ys → Whole (p ▸ many l) (xs ++ ys)
extend {ys} (w_then {xs = a} {ys = b} v w e) u = w_then v (snoc w u) (ap (λ z. z ++ ys) e ∙ append_assoc a b ys)

-- an operator between its operands
two_whole : (o : BinOp) {xs ys : List TokenKind} → IsWhole (left_of o) xs → IsWhole (right_of o) ys → IsWhole (level_of o) (xs ++ sign o ∷ ys)
two_whole op.Or v w = w_rule (extend (unrule v) (w_then w_key w refl))
two_whole op.And v w = w_rule (extend (unrule v) (w_then w_key w refl))
two_whole op.Eq v w = w_rule (w_then v (w_left (w_then (w_left w_key) w refl)) refl)
two_whole op.Ne v w = w_rule (w_then v (w_left (w_then (w_right (w_left w_key)) w refl)) refl)
two_whole op.Lt v w = w_rule (w_then v (w_left (w_then (w_right (w_right (w_left w_key))) w refl)) refl)
two_whole op.Gt v w = w_rule (w_then v (w_left (w_then (w_right (w_right (w_right (w_left w_key)))) w refl)) refl)
two_whole op.Le v w = w_rule (w_then v (w_left (w_then (w_right (w_right (w_right (w_right (w_left w_key))))) w refl)) refl)
two_whole op.Ge v w = w_rule (w_then v (w_left (w_then (w_right (w_right (w_right (w_right (w_right w_key))))) w refl)) refl)
two_whole op.Add v w = w_rule (extend (unrule v) (w_then (w_left w_key) w refl))
two_whole op.Sub v w = w_rule (extend (unrule v) (w_then (w_right w_key) w refl))
two_whole op.Mul v w = w_rule (extend (unrule v) (w_then (w_left w_key) w refl))
two_whole op.Div v w = w_rule (extend (unrule v) (w_then (w_right (w_left w_key)) w refl))
two_whole op.Rem v w = w_rule (extend (unrule v) (w_then (w_right (w_right w_key)) w refl))

-- an expression at its level, and a call's arguments
mutual
  whole : (e : Tree) → Derived e → IsWhole (level e) (spelled e)
  whole (number n) d = w_rule (w_left w_number)
  whole (variable w) d = w_rule (w_right (w_left w_name))
  whole (item w e) d = w_rule (w_right (w_right (w_right (w_left
      (w_then w_name (w_then w_key (w_then (at_loosest (level e) (whole e d)) w_key refl) refl) refl)))))
  whole (size w) d = w_rule (w_right (w_right (w_right (w_right (w_left
      (w_then w_key (w_then w_key (w_then w_name w_key refl) refl) refl))))))
  whole (message_item e) d = w_rule (w_right (w_right (w_right (w_right (w_right (w_right (w_left
      (w_then w_key (w_then w_key (w_then (at_loosest (level e) (whole e d)) w_key refl) refl) refl))))))))
  whole message_size d = w_rule (w_right (w_right (w_right (w_right (w_right (w_left
      (w_then w_key (w_then w_key (w_then w_key w_key refl) refl) refl)))))))
  whole (call w es) d = w_rule (w_right (w_right (w_left
      (w_then w_name (w_then w_key (w_then (args_whole es d) w_key refl) refl) refl))))
  whole (negative e) d = w_rule (w_left (w_then w_key (below (level e) at_sign d.0 (whole e d.1)) refl))
  whole (inverse e) d = w_rule (w_left (w_then w_key (below (level e) at_not d.0 (whole e d.1)) refl))
  whole (two o l r) d = two_whole o (below (level l) (left_of o) d.0 (whole l d.1)) (below (level r) (right_of o) d.2 (whole r d.3))
  whole (paren e) d = w_rule (w_right (w_right (w_right (w_right (w_right (w_right (w_right
      (w_then w_key (w_then (at_loosest (level e) (whole e d)) w_key refl) refl))))))))

  args_whole : (es : Trees) → ArgsDerived es → Whole arguments (args_spelled es)
  args_whole no_trees d = w_right w_nothing
  args_whole (tree_then e es) d = w_left (w_then (at_loosest (level e) (whole e d.0)) (more_whole es d.1) refl)

  more_whole : (es : Trees) → ArgsDerived es → Whole (many (key kind.Comma ▸ rule expr)) (more_spelled es)
  more_whole no_trees d = w_end
  more_whole (tree_then e es) d = w_more (w_then w_key (at_loosest (level e) (whole e d.0)) refl) (more_whole es d.1) refl

-- an expression
pub expr_whole : (e : Tree) → Derived e → Whole (rule expr) (spelled e)
expr_whole e d = at_loosest (level e) (whole e d)

step_whole : (s : Option Step) → Whole step (step_spelled s)
step_whole None = w_right w_nothing
step_whole (Some s) = w_left (w_then w_key (signed s.minus) refl)
  where
    signed : (b : Bool) → Whole (maybe (key kind.Minus) ▸ NUM) (minus_spelled b ++ kind.Num s.size ∷ [])
    signed true = w_then (w_left w_key) w_number refl
    signed false = w_then (w_right w_nothing) w_number refl

-- the rule of a dialect's statements
abbrev stmt_in : Dialect → Rule
stmt_in dialect.Plain = stmt
stmt_in dialect.Procedures = pstmt

-- each dialect has the forms of plain statements, and one of them a `do`
of_form : (d : Dialect) {ms : List TokenKind} → Whole (forms (stmt_in d)) ms → Whole (rule (stmt_in d)) ms
of_form dialect.Plain w = w_rule w
of_form dialect.Procedures w = w_rule (w_left w)

run_whole : (d : Dialect) (w : Word) (es : Trees) → RunDerived d es → Whole (rule (stmt_in d)) (act_spelled (run_procedure w es))
run_whole dialect.Plain w es h = absurd h
run_whole dialect.Procedures w es h = w_rule (w_right
    (w_then w_key (w_then w_name (w_then w_key (w_then (args_whole es h) (w_then w_key w_key refl) refl) refl) refl) refl))

-- a statement, and a block's
mutual
  act_whole : (d : Dialect) (a : Act) → ActDerived d a → Whole (rule (stmt_in d)) (act_spelled a)
  act_whole l (set w e) d = of_form l (w_left (w_then w_name (w_then w_key (w_then (expr_whole e d) w_key refl) refl) refl))
  act_whole l (take_last w b) d = of_form l (w_right (w_left
      (w_then w_name (w_then w_key (w_then w_name (w_then w_key (w_then w_key w_key refl) refl) refl) refl) refl)))
  act_whole l (set_item w i e) d = of_form l (w_right (w_right (w_left
      (w_then w_name (w_then w_key (w_then (expr_whole i d.0) (w_then w_key (w_then w_key (w_then (expr_whole e d.1) w_key refl) refl) refl) refl) refl) refl))))
  act_whole l (append w e) d = of_form l (w_right (w_right (w_right (w_left
      (w_then w_name (w_then w_key (w_then w_key (w_then w_key (w_then (expr_whole e d) w_key refl) refl) refl) refl) refl)))))
  act_whole l (clear w) d = of_form l (w_right (w_right (w_right (w_right (w_left
      (w_then w_key (w_then w_key (w_then w_name (w_then w_key w_key refl) refl) refl) refl))))))
  act_whole l (call_alone w es) d = of_form l (w_right (w_right (w_right (w_right (w_right (w_left
      (w_then w_name (w_then w_key (w_then (args_whole es d) (w_then w_key w_key refl) refl) refl) refl)))))))
  act_whole l (if_then e a) d = of_form l (w_right (w_right (w_right (w_right (w_right (w_right (w_left
      (w_then w_key (w_then (expr_whole e d.0) (w_then w_key (w_then (acts_whole l a d.1)
      (w_then (w_right w_nothing) (w_then w_key w_key refl) refl) refl) refl) refl) refl))))))))
  act_whole l (if_else e a b) d = of_form l (w_right (w_right (w_right (w_right (w_right (w_right (w_left
      (w_then w_key (w_then (expr_whole e d.0) (w_then w_key (w_then (acts_whole l a d.1)
      (w_then (w_left (w_then w_key (acts_whole l b d.2) refl)) (w_then w_key w_key refl) refl) refl) refl) refl) refl))))))))
  act_whole l (for_next w f t s a v) d = of_form l (w_right (w_right (w_right (w_right (w_right (w_right (w_right (w_left
      (w_then w_key (w_then w_name (w_then w_key (w_then (expr_whole f d.0) (w_then w_key (w_then (expr_whole t d.1)
      (w_then (step_whole s) (w_then (acts_whole l a d.2) (w_then w_key w_name refl) refl) refl) refl) refl) refl) refl) refl) refl)))))))))
  act_whole l (while_do e a) d = of_form l (w_right (w_right (w_right (w_right (w_right (w_right (w_right (w_right
      (w_then w_key (w_then (expr_whole e d.0) (w_then (acts_whole l a d.1) (w_then w_key w_key refl) refl) refl) refl)))))))))
  act_whole l (run_procedure w es) d = run_whole l w es d

  acts_whole : (d : Dialect) (more : Acts) → ActsDerived d more → Whole (many (rule (stmt_in d))) (acts_spelled more)
  acts_whole l no_acts d = w_end
  acts_whole l (act_then a more) d = w_more (act_whole l a d.0) (acts_whole l more d.1) refl

-- what follows a declared name: further names, the sign, and further declarations
record Follows (ms : List TokenKind) : Type 0 where
  names : List TokenKind
  others : List TokenKind
  whole_names : Whole (many (key kind.Comma ▸ NAME)) names
  whole_others : Whole (many (rule decl)) others
  are : ms ≡ names ++ kind.Semi ∷ others

keyword_whole : (k : DeclKind) → Whole (key kind.Shared ∣ key kind.Private ∣ key kind.Buffer) (decl_keyword k ∷ [])
keyword_whole decls.Shared = w_left w_key
keyword_whole decls.Private = w_right (w_left w_key)
keyword_whole decls.Buffer = w_right (w_right w_key)

-- a declaration and those behind it
declared : (k : DeclKind) (w : Word) {ms : List TokenKind} → Follows ms → Whole (many (rule decl)) (decl_keyword k ∷ name w ∷ ms)
declared k w f = w_more
    (w_rule (w_then (keyword_whole k) (w_then w_name (w_then f.whole_names w_key refl) refl) refl))
    f.whole_others
    (ap (λ z. decl_keyword k ∷ name w ∷ z) (f.are ∙ sym (append_assoc f.names (kind.Semi ∷ []) f.others)))

follow_next : (b : Bool) (k : DeclKind) (w : Word) {ms : List TokenKind} → Follows ms → Follows (decl_end b ++ (decl_start b k ∷ name w ∷ ms))
follow_next true k w f = record { names = []; others = _; whole_names = w_end; whole_others = declared k w f; are = refl }
follow_next false k w f = record {
  names = kind.Comma ∷ name w ∷ f.names;
  others = f.others;
  whole_names = w_more (w_then w_key w_name refl) f.whole_names refl;
  whole_others = f.whole_others;
  are = ap (λ z. kind.Comma ∷ name w ∷ z) f.are;
}

follow : (ds : List Decl) → Follows (decls_gap ds ++ decls_spelled ds)
follow [] = record { names = []; others = []; whole_names = w_end; whole_others = w_end; are = refl }
follow (d ∷ ds) = follow_next d.first d.kind d.word (follow ds)

decls_whole : (ds : List Decl) → DeclsDerived ds → Whole (many (rule decl)) (decls_spelled ds)
decls_whole [] h = w_end
decls_whole (d ∷ ds) h = rw h.0 (declared d.kind d.word (follow ds))

-- a script
pub source_whole : (s : Source) → IsDerived s → Whole (rule script) (source_spelled s)
source_whole s d = w_rule (w_then (decls_whole s.decls d.decls) (acts_whole dialect.Plain s.body d.body) refl)

other_params_whole : (ws : List Word) → Whole (many (key kind.Comma ▸ NAME)) (other_params_spelled ws)
other_params_whole [] = w_end
other_params_whole (w ∷ ws) = w_more (w_then w_key w_name refl) (other_params_whole ws) refl

params_whole : (ws : List Word) → Whole parameters (params_spelled ws)
params_whole [] = w_right w_nothing
params_whole (w ∷ ws) = w_left (w_then w_name (other_params_whole ws) refl)

-- a procedure, and procedures
procedure_whole : (p : Procedure) → ActsDerived dialect.Procedures p.body → Whole (rule proc) (procedure_spelled p)
procedure_whole p d = w_rule
    (w_then w_key (w_then w_name (w_then w_key (w_then (params_whole p.params) (w_then w_key
    (w_then (acts_whole dialect.Procedures p.body d) (w_then w_key w_key refl) refl) refl) refl) refl) refl) refl)

procedures_whole : (ps : List Procedure) → ProceduresDerived ps → Whole (many (rule proc)) (procedures_spelled ps)
procedures_whole [] d = w_end
procedures_whole (p ∷ ps) d = w_more (procedure_whole p d.0) (procedures_whole ps d.1) refl

-- a script with procedures
pub procedure_source_whole : (s : ProcedureSource) → IsDerivedWithProcedures s → Whole (rule pscript) (procedure_source_spelled s)
procedure_source_whole s d = w_rule
    (w_then (decls_whole s.decls d.decls) (w_then (procedures_whole s.procs d.procs) (acts_whole dialect.Procedures s.body d.body) refl) refl)
