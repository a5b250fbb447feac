-- The tokens of an expansion are of kinds that some text is cut into, if a text spells the source with procedures.
use Rattle.std.proofs.Common.{◌≡◌, ℕ, zero, suc, ◌+◌, ◌%◌, ◌<◌, ◌≤◌, nat_le, ◌==◌, Bool, true, false, if◌then◌else◌, List, [], ◌∷◌, ◌++◌, length, map, decimal, Option, Some, None, Result, Ok, Err, refl, sym, subst, arith}
use Rattle.std.specs.Prelude.{bytes_eq, sum_by, IfSome}
use Rattle.std.proofs.lemmas.Bool.{and_from, le-leb, or_right}
use Rattle.std.proofs.lemmas.Fmt.{decimal_by_steps, length-decimal-le}
use Rattle.std.proofs.lemmas.List.Sums.{sum_by_push}
use Rattle.mate_num.specs.Lists.{Each}
use Rattle.mate_num.proofs.ListLemmas.{each-append, each-parts, each-push}
use Rattle.ts_checked.specs.declared.bin_op.BinOp.{BinOp}
use Rattle.ts_checked.specs.declared.bin_op.BinOp.TheVariants as op
use Rattle.ts_trees.specs.declared.dialect.Dialect.TheVariants.{Procedures}
use Rattle.ts_trees.specs.declared.script.Decl.{Decl}
use Rattle.ts_trees.specs.declared.script.DeclKind.{DeclKind}
use Rattle.ts_trees.specs.declared.script.DeclKind.TheVariants as decl
use Rattle.ts_trees.specs.declared.stmt.Step.{Step}
use Rattle.ts_trees.specs.declared.token.Token.{Token}
use Rattle.ts_trees.specs.declared.token.TokenKind.{TokenKind}
use Rattle.ts_trees.specs.declared.token.TokenKind.TheVariants as kind
use Rattle.ts_trees.specs.declared.word.Word.{Word}
use Rattle.ts_trees.specs.Cut.{is_digit, begins_name, in_name, word_kind, cut, cut_in, CutFault, all_in, token_in, procedure_kind}
use Rattle.ts_trees.specs.Seen.{acts}
use Rattle.ts_trees.specs.Spelling.{sign, spelled, args_spelled, more_spelled, minus_spelled, step_spelled, act_spelled, acts_spelled, params_spelled, procedure_spelled, procedures_spelled, decl_start, decl_end, decls_gap, decls_spelled, source_spelled, procedure_source_spelled, kinds}
use Rattle.ts_trees.specs.Text.{token_text}
use Rattle.ts_trees.specs.Tree.{Tree, number, variable, item, size, message_item, message_size, call, negative, inverse, two, paren, Trees, no_trees, tree_then, Act, set, set_item, append, take_last, clear, call_alone, if_then, if_else, for_next, while_do, run_procedure, Acts, no_acts, act_then, Procedure, ProcedureSource}
use Rattle.ts_lexer.specs.Spans.{Passes}
use Rattle.ts_lexer.specs.Printed.{IsNameText, IsKind, AreKinds, IsCutInto}
use Rattle.ts_proc_names.specs.Heads.{parameter_count}
use Rattle.ts_proc_names.specs.Places.{declared_as}
use Rattle.ts_proc_names.proofs.PlaceLemmas.{position_from-within, each-declared}
use Rattle.ts_proc_renaming.specs.Renaming.{Hiding, nothing_hidden, parameter_name, parameter_decls, number_hiding, renamed_as, renamed, renamed_expr, renamed_args, assigned}
use Rattle.ts_proc_expansion.specs.InOrder.{declared_in_order}
use Rattle.ts_proc_expansion.specs.Expansion.{first_trees, Callee, body_called, expanded_act, expanded_acts, callee, callees, expansion}
use Rattle.ts_proc_texts.specs.Reading.{IsProcedureText}

-- ---- the kinds of a source with procedures

abbrev IsSourceKind : TokenKind → Type 0
IsSourceKind (kind.Name w) = IsNameText w
IsSourceKind (kind.Num n) = n ≤ 65535
IsSourceKind _ = Unit {0}

abbrev AreSourceKinds : List TokenKind → Type 0
AreSourceKinds = Each IsSourceKind

source_kind : (k : TokenKind) → IsKind k → IsSourceKind (procedure_kind k)
source_kind (kind.Name w) h = by (bytes_eq w (token_text kind.Proc)) (bytes_eq w (token_text kind.Do)) where
  by : (a b : Bool) → IsSourceKind (if a then kind.Proc else (if b then kind.Do else kind.Name w))
  by true b = tt
  by false true = tt
  by false false = h
source_kind (kind.Num n) h = h
source_kind _ h = tt

source_kinds : (ts : List Token) → AreKinds (kinds ts) → AreSourceKinds (kinds (map (token_in Procedures) ts))
source_kinds [] h = tt
source_kinds (t ∷ ts) h = (source_kind t.kind h.0, source_kinds ts h.1)

text_kinds : ((bytes : List ℕ) (ks : List TokenKind) → IsCutInto bytes ks → AreKinds ks) → (bytes : List ℕ) (ts : List Token) → cut_in Procedures bytes ≡ Ok ts
    → AreSourceKinds (kinds ts)
text_kinds law bytes ts e = by (cut bytes) refl e where
  by : (r : Result (List Token) CutFault) → cut bytes ≡ r → all_in Procedures r ≡ Ok ts → AreSourceKinds (kinds ts)
  by (Ok us) q p =
      let are : map (token_in Procedures) us ≡ ts = cc in
      subst (λ (zs : List Token). AreSourceKinds (kinds zs)) are (source_kinds us (law bytes (kinds us) record { tokens = us; cuts = q; are = refl }))
  by (Err fault) q p = cc

fronts : (xs ys : List TokenKind) → AreSourceKinds (xs ++ ys) → AreSourceKinds xs
fronts xs ys h = (each-parts IsSourceKind xs ys h).0

backs : (xs ys : List TokenKind) → AreSourceKinds (xs ++ ys) → AreSourceKinds ys
backs xs ys h = (each-parts IsSourceKind xs ys h).1

-- ---- names of parameters

digit : (d : ℕ) → d < 10 → in_name (48 + d) ≡ true
digit d h =
    or_right (begins_name (48 + d)) (is_digit (48 + d))
    (and_from (nat_le 48 (48 + d)) (nat_le (48 + d) 57) (le-leb 48 (48 + d) (omega arith)) (le-leb (48 + d) 57 (omega arith)))

digits : (n : ℕ) → n < 4294967296 → Passes in_name (decimal n)
digits n h =
    decimal_by_steps (λ m ds. Passes in_name ds) (λ m small. (digit m small, tt)) (λ m ds large p. each-push _ ds (48 + m % 10) p (digit (m % 10) (omega arith))) n (omega arith)

parameter_text : (k : ℕ) → k < 4294967296 → IsNameText (parameter_name k)
unfolding word_kind
parameter_text k h =
    let few : length (decimal k) ≤ 10 = length-decimal-le 10 k (omega arith) (omega arith) (omega arith) in
    record { fits = record { begins = refl; passes = (refl, digits k h); short = omega (arith, few) }; named = refl }

-- the numbers of the parameters that hide names have few digits
abbrev AreFew : Hiding → Type 0
AreFew h = h.first + length h.params ≤ 4294967296

renamed_text : (h : Hiding) → AreFew h → (w : Word) → IsNameText w.name → IsNameText (renamed h w).name
renamed_text h few w g = by (number_hiding h w.name) (position_from-within (λ (p : Word). bytes_eq w.name p.name) h.first h.params) where
  by : (o : Option ℕ) → IfSome o (λ k. k < h.first + length h.params) → IsNameText (renamed_as w o).name
  by None less = g
  by (Some k) less = parameter_text k (omega (arith, few, less))

-- ---- expressions

sign_kind : (o : BinOp) → IsKind (sign o)
sign_kind op.Or = tt
sign_kind _ = tt

-- the tokens of each argument
abbrev EachKinds : Trees → Type 0
EachKinds no_trees = Unit {0}
EachKinds (tree_then e es) = AreSourceKinds (spelled e) × EachKinds es

each_more : (es : Trees) → AreSourceKinds (more_spelled es) → EachKinds es
each_more no_trees p = tt
each_more (tree_then e es) p = (fronts (spelled e) (more_spelled es) p.1, each_more es (backs (spelled e) (more_spelled es) p.1))

each : (es : Trees) → AreSourceKinds (args_spelled es) → EachKinds es
each no_trees p = tt
each (tree_then e es) p = (fronts (spelled e) (more_spelled es) p, each_more es (backs (spelled e) (more_spelled es) p))

module _ (h : Hiding) (few : AreFew h) where
  mutual
    tree_kinds : (e : Tree) → AreSourceKinds (spelled e) → AreKinds (spelled (renamed_expr h e))
    tree_kinds (number n) p = (p.0, tt)
    tree_kinds (variable w) p = (renamed_text h few w p.0, tt)
    tree_kinds (item w e) p =
        (renamed_text h few w p.0, (tt, each-append IsKind (spelled (renamed_expr h e)) (kind.CloseBox ∷ []) (tree_kinds e (fronts (spelled e) (kind.CloseBox ∷ []) p.1.1)) (tt, tt)))
    tree_kinds (size w) p = (tt, (tt, (renamed_text h few w p.1.1.0, (tt, tt))))
    tree_kinds (message_item e) p = (tt, (tt, each-append IsKind (spelled (renamed_expr h e)) (kind.CloseBox ∷ []) (tree_kinds e (fronts (spelled e) (kind.CloseBox ∷ []) p.1.1)) (tt, tt)))
    tree_kinds message_size p = (tt, (tt, (tt, (tt, tt))))
    tree_kinds (call w es) p =
        (p.0, (tt, each-append IsKind (args_spelled (renamed_args h es)) (kind.Close ∷ []) (args_kinds es (each es (fronts (args_spelled es) (kind.Close ∷ []) p.1.1))) (tt, tt)))
    tree_kinds (negative e) p = (tt, tree_kinds e p.1)
    tree_kinds (inverse e) p = (tt, tree_kinds e p.1)
    tree_kinds (two o l r) p =
        each-append IsKind (spelled (renamed_expr h l)) (sign o ∷ spelled (renamed_expr h r)) (tree_kinds l (fronts (spelled l) (sign o ∷ spelled r) p))
        (sign_kind o, tree_kinds r (backs (spelled l) (sign o ∷ spelled r) p).1)
    tree_kinds (paren e) p = (tt, each-append IsKind (spelled (renamed_expr h e)) (kind.Close ∷ []) (tree_kinds e (fronts (spelled e) (kind.Close ∷ []) p.1)) (tt, tt))

    args_kinds : (es : Trees) → EachKinds es → AreKinds (args_spelled (renamed_args h es))
    args_kinds no_trees p = tt
    args_kinds (tree_then e es) p = each-append IsKind (spelled (renamed_expr h e)) (more_spelled (renamed_args h es)) (tree_kinds e p.0) (more_kinds es p.1)

    more_kinds : (es : Trees) → EachKinds es → AreKinds (more_spelled (renamed_args h es))
    more_kinds no_trees p = tt
    more_kinds (tree_then e es) p = (tt, each-append IsKind (spelled (renamed_expr h e)) (more_spelled (renamed_args h es)) (tree_kinds e p.0) (more_kinds es p.1))

step_kinds : (s : Option Step) → AreSourceKinds (step_spelled s) → AreKinds (step_spelled s)
step_kinds None p = tt
step_kinds (Some s) p = (tt, by s.minus p.1) where
  by : (b : Bool) → AreSourceKinds (minus_spelled b ++ kind.Num s.size ∷ []) → AreKinds (minus_spelled b ++ kind.Num s.size ∷ [])
  by true q = (tt, (q.1.0, tt))
  by false q = (q.0, tt)

-- ---- statements

-- the tokens of each statement of a list
abbrev AreActs : List Act → Type 0
AreActs = Each (λ a. AreKinds (act_spelled a))

block_kinds : (xs : List Act) → AreActs xs → AreKinds (acts_spelled (acts xs))
block_kinds [] h = tt
block_kinds (a ∷ more) h = each-append IsKind (act_spelled a) (acts_spelled (acts more)) h.0 (block_kinds more h.1)

-- what a `do` assigns
assigned_kinds : (h : Hiding) → AreFew h → (place k n : ℕ) (es : Trees) → k + n ≤ 4294967296 → EachKinds es → AreActs (assigned h place k (first_trees n es))
assigned_kinds h few place k zero es less p = tt
assigned_kinds h few place k (suc n) no_trees less p = tt
assigned_kinds h few place k (suc n) (tree_then e es) less p = (
  (parameter_text k (omega arith), (tt, each-append IsKind (spelled (renamed_expr h e)) (kind.Semi ∷ []) (tree_kinds h few e p.0) (tt, tt))),
  assigned_kinds h few place (k + 1) n es (omega arith) p.1,
)

-- the procedures that are known
record IsFine (c : Callee) : Type 0 where
  few : c.first + c.params ≤ 4294967296
  body : AreActs c.body

abbrev AreFine : List (List ℕ × Callee) → Type 0
AreFine = Each (λ c. IsFine c.1)

called_kinds : (h : Hiding) → AreFew h → (w : Word) (es : Trees) (c : Option Callee) → EachKinds es → IfSome c IsFine → AreActs (body_called h w es c)
called_kinds h few w es None p g = tt
called_kinds h few w es (Some c) p g =
    each-append _ (assigned h w.place c.first (first_trees c.params es)) c.body (assigned_kinds h few w.place c.first c.params es g.few p) g.body

module _ (known : List (List ℕ × Callee)) (fine : AreFine known) (h : Hiding) (few : AreFew h) where
  -- a statement that ends in `;` behind an expression
  ended : (e : Tree) → AreSourceKinds (spelled e ++ kind.Semi ∷ []) → AreKinds (spelled (renamed_expr h e) ++ kind.Semi ∷ [])
  ended e p = each-append IsKind (spelled (renamed_expr h e)) (kind.Semi ∷ []) (tree_kinds h few e (fronts (spelled e) (kind.Semi ∷ []) p)) (tt, tt)

  mutual
    act_kinds : (a : Act) → AreSourceKinds (act_spelled a) → AreActs (expanded_act known h a)
    act_kinds (set w e) p = ((renamed_text h few w p.0, (tt, ended e p.1.1)), tt)
    act_kinds (set_item w i e) p =
        let rest = backs (spelled i) (kind.CloseBox ∷ kind.Eq ∷ spelled e ++ kind.Semi ∷ []) p.1.1 in (
          (
            renamed_text h few w p.0,
            (
              tt,
              each-append IsKind (spelled (renamed_expr h i)) (kind.CloseBox ∷ kind.Eq ∷ spelled (renamed_expr h e) ++ kind.Semi ∷ [])
                  (tree_kinds h few i (fronts (spelled i) (kind.CloseBox ∷ kind.Eq ∷ spelled e ++ kind.Semi ∷ []) p.1.1)) (tt, (tt, ended e rest.1.1)),
            ),
          ),
          tt,
        )
    act_kinds (append w e) p = ((renamed_text h few w p.0, (tt, (tt, (tt, ended e p.1.1.1.1)))), tt)
    act_kinds (take_last w b) p = ((renamed_text h few w p.0, (tt, (renamed_text h few b p.1.1.0, (tt, (tt, (tt, tt)))))), tt)
    act_kinds (clear w) p = ((tt, (tt, (renamed_text h few w p.1.1.0, (tt, (tt, tt))))), tt)
    act_kinds (call_alone w es) p = (
      (
        p.0,
        (
          tt,
          each-append IsKind (args_spelled (renamed_args h es)) (kind.Close ∷ kind.Semi ∷ [])
              (args_kinds h few es (each es (fronts (args_spelled es) (kind.Close ∷ kind.Semi ∷ []) p.1.1))) (tt, (tt, tt)),
        ),
      ),
      tt,
    )
    act_kinds (if_then e a) p =
        let close : List TokenKind = kind.End ∷ kind.If ∷ [] in
        let rest = backs (spelled e) (kind.Then ∷ acts_spelled a ++ close) p.1 in (
          (
            tt,
            each-append IsKind (spelled (renamed_expr h e)) (kind.Then ∷ acts_spelled (acts (expanded_acts known h a)) ++ close) (tree_kinds h few e (fronts (spelled e) (kind.Then ∷ acts_spelled a ++ close) p.1))
                (tt, each-append IsKind (acts_spelled (acts (expanded_acts known h a))) close (block_kinds (expanded_acts known h a) (acts_kinds a (fronts (acts_spelled a) close rest.1))) (tt, (tt, tt))),
          ),
          tt,
        )
    act_kinds (if_else e a b) p =
        let close : List TokenKind = kind.End ∷ kind.If ∷ [] in
        let other : List TokenKind = kind.Else ∷ acts_spelled b ++ close in
        let rest = backs (spelled e) (kind.Then ∷ acts_spelled a ++ other) p.1 in
        let last = backs (acts_spelled a) other rest.1 in
        let other' : List TokenKind = kind.Else ∷ acts_spelled (acts (expanded_acts known h b)) ++ close in (
          (
            tt,
            each-append IsKind (spelled (renamed_expr h e)) (kind.Then ∷ acts_spelled (acts (expanded_acts known h a)) ++ other') (tree_kinds h few e (fronts (spelled e) (kind.Then ∷ acts_spelled a ++ other) p.1)) (
              tt,
              each-append IsKind (acts_spelled (acts (expanded_acts known h a))) other' (block_kinds (expanded_acts known h a) (acts_kinds a (fronts (acts_spelled a) other rest.1)))
                  (tt, each-append IsKind (acts_spelled (acts (expanded_acts known h b))) close (block_kinds (expanded_acts known h b) (acts_kinds b (fronts (acts_spelled b) close last.1))) (tt, (tt, tt))),
            ),
          ),
          tt,
        )
    act_kinds (for_next w f t s a v) p =
        let last : List TokenKind = acts_spelled a ++ kind.Next ∷ kind.Name v.name ∷ [] in
        let until : List TokenKind = kind.To ∷ spelled t ++ (step_spelled s ++ last) in
        let rest = backs (spelled f) until p.1.1.1 in
        let steps = backs (spelled t) (step_spelled s ++ last) rest.1 in
        let body = backs (step_spelled s) last steps in
        let next = backs (acts_spelled a) (kind.Next ∷ kind.Name v.name ∷ []) body in
        let last' : List TokenKind = acts_spelled (acts (expanded_acts known h a)) ++ kind.Next ∷ kind.Name (renamed h v).name ∷ [] in (
          (
            tt,
            (
              renamed_text h few w p.1.0,
              (
                tt,
                each-append IsKind (spelled (renamed_expr h f)) (kind.To ∷ spelled (renamed_expr h t) ++ (step_spelled s ++ last'))
                    (tree_kinds h few f (fronts (spelled f) until p.1.1.1)) (
                      tt,
                      each-append IsKind (spelled (renamed_expr h t)) (step_spelled s ++ last') (tree_kinds h few t (fronts (spelled t) (step_spelled s ++ last) rest.1))
                          (each-append IsKind (step_spelled s) last' (step_kinds s (fronts (step_spelled s) last steps))
                          (each-append IsKind (acts_spelled (acts (expanded_acts known h a))) (kind.Next ∷ kind.Name (renamed h v).name ∷ [])
                          (block_kinds (expanded_acts known h a) (acts_kinds a (fronts (acts_spelled a) (kind.Next ∷ kind.Name v.name ∷ []) body))) (tt, (renamed_text h few v next.1.0, tt)))),
                    ),
              ),
            ),
          ),
          tt,
        )
    act_kinds (while_do e a) p =
        let close : List TokenKind = kind.End ∷ kind.While ∷ [] in
        let rest = backs (spelled e) (acts_spelled a ++ close) p.1 in (
          (
            tt,
            each-append IsKind (spelled (renamed_expr h e)) (acts_spelled (acts (expanded_acts known h a)) ++ close) (tree_kinds h few e (fronts (spelled e) (acts_spelled a ++ close) p.1))
                (each-append IsKind (acts_spelled (acts (expanded_acts known h a))) close (block_kinds (expanded_acts known h a) (acts_kinds a (fronts (acts_spelled a) close rest))) (tt, (tt, tt))),
          ),
          tt,
        )
    act_kinds (run_procedure w es) p =
        called_kinds h few w es (declared_as known w.name) (each es (fronts (args_spelled es) (kind.Close ∷ kind.Semi ∷ []) p.1.1.1)) (each-declared IsFine known w.name fine)

    acts_kinds : (a : Acts) → AreSourceKinds (acts_spelled a) → AreActs (expanded_acts known h a)
    acts_kinds no_acts p = tt
    acts_kinds (act_then a more) p =
        each-append _ (expanded_act known h a) (expanded_acts known h more) (act_kinds a (fronts (act_spelled a) (acts_spelled more) p)) (acts_kinds more (backs (act_spelled a) (acts_spelled more) p))

  body_kinds : (a : Acts) → AreSourceKinds (acts_spelled a) → AreKinds (acts_spelled (acts (expanded_acts known h a)))
  body_kinds a p = block_kinds (expanded_acts known h a) (acts_kinds a p)

-- ---- procedures

-- how many parameters these have
abbrev params_of : List (List ℕ × Callee) → ℕ
params_of known = sum_by (λ (c : List ℕ × Callee). c.1.params) known

procedure_body : (p : Procedure) → AreSourceKinds (procedure_spelled p) → AreSourceKinds (acts_spelled p.body)
procedure_body p g =
    let close : List TokenKind = kind.End ∷ kind.Proc ∷ [] in
    fronts (acts_spelled p.body) close (backs (params_spelled p.params) (kind.Close ∷ acts_spelled p.body ++ close) g.1.1.1).1

fine_callees : (known : List (List ℕ × Callee)) (ps : List Procedure) → AreFine known → params_of known + parameter_count ps ≤ 4294967296 → AreSourceKinds (procedures_spelled ps)
    → AreFine (declared_in_order callee known ps)
fine_callees known [] g few p = g
fine_callees known (q ∷ ps) g few p =
    let c : List ℕ × Callee = (q.name.name, callee known q) in
    let all : params_of known + (length q.params + parameter_count ps) ≤ 4294967296 = few in
    let here : params_of known + length q.params ≤ 4294967296 = omega (arith, all) in
    let more : params_of (known ++ c ∷ []) ≡ params_of known + length q.params = sum_by_push (λ (c : List ℕ × Callee). c.1.params) known c in
    let later : params_of (known ++ c ∷ []) + parameter_count ps ≤ 4294967296 = omega (arith, all, more) in
    let fine : IsFine (callee known q) = record {
      few = here;
      body = acts_kinds known g (record { first = params_of known; params = q.params }) here q.body (procedure_body q (fronts (procedure_spelled q) (procedures_spelled ps) p));
    } in
    fine_callees (known ++ c ∷ []) ps (each-push _ known c g fine) later (backs (procedure_spelled q) (procedures_spelled ps) p)

-- ---- declarations

start_kind : (first : Bool) (k : DeclKind) → IsKind (decl_start first k)
start_kind true decl.Shared = tt
start_kind true decl.Private = tt
start_kind true decl.Buffer = tt
start_kind false k = tt

gap_kinds : (ds : List Decl) → AreKinds (decls_gap ds)
gap_kinds [] = (tt, tt)
gap_kinds (d ∷ ds) = by d.first where
  by : (b : Bool) → AreKinds (decl_end b)
  by true = (tt, tt)
  by false = tt

decls_kinds : (ds more : List Decl) → AreSourceKinds (decls_spelled ds) → AreKinds (decls_spelled more) → AreKinds (decls_spelled (ds ++ more))
decls_kinds [] more p q = q
decls_kinds (d ∷ ds) more p q = (
  start_kind d.first d.kind,
  (
    p.1.0,
    each-append IsKind (decls_gap (ds ++ more)) (decls_spelled (ds ++ more)) (gap_kinds (ds ++ more))
        (decls_kinds ds more (backs (decls_gap ds) (decls_spelled ds) p.1.1) q),
  ),
)

parameter_kinds : (k n : ℕ) → k + n ≤ 4294967296 → AreKinds (decls_spelled (parameter_decls k n))
parameter_kinds k zero less = tt
parameter_kinds k (suc n) less = (
  start_kind (k == 0) decl.Private,
  (
    parameter_text k (omega arith),
    each-append IsKind (decls_gap (parameter_decls (k + 1) n)) (decls_spelled (parameter_decls (k + 1) n))
        (gap_kinds (parameter_decls (k + 1) n)) (parameter_kinds (k + 1) n (omega arith)),
  ),
)

-- ---- scripts

pub expansion_kinds : ((bytes : List ℕ) (ks : List TokenKind) → IsCutInto bytes ks → AreKinds ks) → (bytes : List ℕ) (s : ProcedureSource) → IsProcedureText bytes s
    → parameter_count s.procs < 4294967296 → AreKinds (source_spelled (expansion s))
expansion_kinds law bytes s text few =
    let all : AreSourceKinds (procedure_source_spelled s) = subst AreSourceKinds (sym text.spells.spells) (text_kinds law bytes text.tokens text.cuts) in
    let behind : AreSourceKinds (procedures_spelled s.procs ++ acts_spelled s.body) = backs (decls_spelled s.decls) (procedures_spelled s.procs ++ acts_spelled s.body) all in
    let known : List (List ℕ × Callee) = callees s.procs in
    let start : params_of [] + parameter_count s.procs ≤ 4294967296 = omega (arith, few) in
    let fine : AreFine known = fine_callees [] s.procs tt start (fronts (procedures_spelled s.procs) (acts_spelled s.body) behind) in
    let decls : List Decl = s.decls ++ parameter_decls 0 (parameter_count s.procs) in
    each-append IsKind (decls_spelled decls) (acts_spelled (acts (expanded_acts known nothing_hidden s.body)))
    (decls_kinds s.decls (parameter_decls 0 (parameter_count s.procs)) (fronts (decls_spelled s.decls) (procedures_spelled s.procs ++ acts_spelled s.body) all)
    (parameter_kinds 0 (parameter_count s.procs) (omega (arith, few))))
    (body_kinds known fine nothing_hidden (omega arith) s.body (backs (procedures_spelled s.procs) (acts_spelled s.body) behind))
