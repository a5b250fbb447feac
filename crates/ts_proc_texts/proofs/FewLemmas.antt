-- A text has at most as many tokens as bytes, and a script at most as many parameters as tokens.
use Rattle.std.proofs.Common.{◌≡◌, ℕ, suc, ◌+◌, ◌≤◌, List, [], ◌∷◌, ◌++◌, length, map, Bool, true, false, Option, Some, None, Result, Ok, Err, ap, sym, subst, arith}
use Rattle.std.specs.Prelude.{⊤, if◌then◌else◌, ◌==◌, ◌-◌, nat_lt}
use Rattle.std.proofs.lemmas.List.{length-append, length-map}
use Rattle.ts_trees.specs.declared.dialect.Dialect.TheVariants.{Procedures}
use Rattle.ts_trees.specs.declared.token.Token.{Token}
use Rattle.ts_trees.specs.declared.token.TokenKind.{TokenKind}
use Rattle.ts_trees.specs.declared.token.TokenKind.TheVariants as kind
use Rattle.ts_trees.specs.declared.word.Word.{Word}
use Rattle.ts_trees.specs.Cut.{token, CutFault, big_literal, Mode, between, comment, word, literal, less, greater, CutStep, stop, go, behind, sign_turn, sign_of, fresh, turn, with_front, turned, cut_from, cut, cut_in, all_in, token_in, is_blank, begins_name, is_digit, in_name}
use Rattle.ts_trees.specs.Spelling.{decls_spelled, acts_spelled, params_spelled, other_params_spelled, procedure_spelled, procedures_spelled, procedure_source_spelled, kinds}
use Rattle.ts_trees.specs.Tree.{Procedure, ProcedureSource}
use Rattle.ts_lexer.proofs.CutLemmas.{cut_from-nil, cut_from-cons}
use Rattle.ts_proc_names.specs.Heads.{parameter_count}

-- the tokens that a mode may still give for the bytes before
abbrev pub owed : Mode → ℕ
owed between = 0
owed comment = 0
owed (word from w) = 1
owed (literal from n) = 1
owed (less from) = 1
owed (greater from) = 1

abbrev pub TurnWithin : ℕ → CutStep → Type 0
TurnWithin n (stop f) = ⊤
TurnWithin n (go ts m) = length ts + owed m ≤ n

abbrev pub Few : ℕ → Result (List Token) CutFault → Type 0
Few n (Ok ts) = length ts ≤ n
Few n (Err f) = ⊤

either : (n : ℕ) (b : Bool) (x y : CutStep) → TurnWithin n x → TurnWithin n y → TurnWithin n (if b then x else y)
either n true x y p q = p
either n false x y p q = q

signed_within : (i : ℕ) (k : Option TokenKind) → TurnWithin 1 (sign_turn i k)
signed_within i None = tt
signed_within i (Some k) = omega arith

fresh_within : (i b : ℕ) → TurnWithin 1 (fresh i b)
fresh_within i b =
    either 1 (is_blank b) (go [] between) _ (omega arith)
    (either 1 (b == 33) (go [] comment) _ (omega arith)
    (either 1 (begins_name b) (go [] (word i (b ∷ []))) _ (omega arith)
    (either 1 (is_digit b) (go [] (literal i (b - 48))) _ (omega arith)
    (either 1 (b == 60) (go [] (less i)) _ (omega arith)
    (either 1 (b == 62) (go [] (greater i)) (sign_turn i (sign_of b)) (omega arith) (signed_within i (sign_of b)))))))

behind_within : (t : Token) (u : CutStep) → TurnWithin 1 u → TurnWithin 2 (behind t u)
behind_within t (stop f) h = tt
behind_within t (go ts m) h = omega (arith, h)

turn_within : (i : ℕ) (m : Mode) (b : ℕ) → TurnWithin (owed m + 1) (turn i m b)
turn_within i between b = fresh_within i b
turn_within i comment b = either 1 (b == 10) (go [] between) (go [] comment) (omega arith) (omega arith)
turn_within i (word from w) b =
    either 2 (in_name b) _ _ (either 2 (nat_lt (length w) 16) _ _ (omega arith) tt) (behind_within _ (fresh i b) (fresh_within i b))
turn_within i (literal from n) b =
    either 2 (is_digit b) _ _ (omega arith)
    (either 2 (nat_lt 65535 n) _ _ tt (either 2 (begins_name b) _ _ tt (behind_within _ (fresh i b) (fresh_within i b))))
turn_within i (less from) b =
    either 2 (b == 61) _ _ (omega arith) (either 2 (b == 62) _ _ (omega arith) (behind_within _ (fresh i b) (fresh_within i b)))
turn_within i (greater from) b = either 2 (b == 61) _ _ (omega arith) (behind_within _ (fresh i b) (fresh_within i b))

itself : (n : ℕ) → n ≤ n
itself n = omega arith

ends_few : (i : ℕ) (m : Mode) → Few (owed m) (turned (λ _. Ok []) (turn i m 10))
ends_few i between = itself 0
ends_few i comment = itself 0
ends_few i (word from w) = itself 1
ends_few i (literal from n) = by (nat_lt 65535 n) where
  by : (b : Bool) → Few 1 (turned (λ _. Ok []) (if b then stop (big_literal from) else go (token (kind.Num n) from i ∷ []) between))
  by true = tt
  by false = itself 1
ends_few i (less from) = itself 1
ends_few i (greater from) = itself 1

front_few : (n k : ℕ) (ts : List Token) (r : Result (List Token) CutFault) (o : ℕ) → length ts + o ≤ n → Few (o + k) r → Few (n + k) (with_front ts r)
front_few n k ts (Err f) o h more = tt
front_few n k ts (Ok us) o h more = omega (arith, h, more, length-append ts us)

turned_few : (n k : ℕ) (rest : Mode → Result (List Token) CutFault) (u : CutStep) → TurnWithin n u → ((m : Mode) → Few (owed m + k) (rest m)) → Few (n + k) (turned rest u)
turned_few n k rest (stop f) h more = tt
turned_few n k rest (go ts m) h more = front_few n k ts (rest m) (owed m) h (more m)

cut_few : (bs : List ℕ) (i : ℕ) (m : Mode) → Few (owed m + length bs) (cut_from i m bs)
cut_few [] i m =
    let none : owed m ≡ owed m + 0 = omega arith in
    subst (λ n. Few n (cut_from i m [])) none (subst (Few (owed m)) (sym (cut_from-nil i m)) (ends_few i m))
cut_few (b ∷ bs) i m =
    let next : (owed m + 1) + length bs ≡ owed m + suc (length bs) = omega arith in
    subst (λ n. Few n (cut_from i m (b ∷ bs))) next
    (subst (Few ((owed m + 1) + length bs)) (sym (cut_from-cons i m b bs))
    (turned_few (owed m + 1) (length bs) (λ n. cut_from (i + 1) n bs) (turn i m b) (turn_within i m b) (λ n. cut_few bs (i + 1) n)))

-- where a text is cut into tokens, they are few
few_in : (n : ℕ) (r : Result (List Token) CutFault) (ts : List Token) → Few n r → all_in Procedures r ≡ Ok ts → length ts ≤ n
few_in n (Err f) ts h e = cc
few_in n (Ok us) ts h e =
    let same : map (token_in Procedures) us ≡ ts = cc in
    omega (arith, h, ap length same, length-map us (token_in Procedures))

pub tokens_few : (bytes : List ℕ) (ts : List Token) → cut_in Procedures bytes ≡ Ok ts → length ts ≤ length bytes
tokens_few bytes ts e = let h : length ts ≤ 0 + length bytes = few_in (0 + length bytes) (cut bytes) ts (cut_few bytes 0 between) e in omega (arith, h)

others_length : (ws : List Word) → length ws ≤ length (other_params_spelled ws)
others_length [] = omega arith
others_length (w ∷ ws) = let h : length ws ≤ length (other_params_spelled ws) = others_length ws in omega (arith, h)

params_length : (ws : List Word) → length ws ≤ length (params_spelled ws)
params_length [] = omega arith
params_length (w ∷ ws) = let h : length ws ≤ length (other_params_spelled ws) = others_length ws in omega (arith, h)

procedure_length : (p : Procedure) → length p.params ≤ length (procedure_spelled p)
procedure_length p =
    let h : length p.params ≤ length (params_spelled p.params) = params_length p.params in
    omega (arith, h, length-append (params_spelled p.params) (kind.Close ∷ acts_spelled p.body ++ kind.End ∷ kind.Proc ∷ []))

procedures_length : (ps : List Procedure) → parameter_count ps ≤ length (procedures_spelled ps)
procedures_length [] = omega arith
procedures_length (p ∷ ps) =
    let h : length p.params ≤ length (procedure_spelled p) = procedure_length p in
    let k : parameter_count ps ≤ length (procedures_spelled ps) = procedures_length ps in
    omega (arith, h, k, length-append (procedure_spelled p) (procedures_spelled ps))

-- a script has no more parameters than tokens
pub params_few : (s : ProcedureSource) (ts : List Token) → procedure_source_spelled s ≡ kinds ts → parameter_count s.procs ≤ length ts
params_few s ts e =
    let k : parameter_count s.procs ≤ length (procedures_spelled s.procs) = procedures_length s.procs in
    omega (
      arith,
      k,
      ap length e,
      length-append (decls_spelled s.decls) (procedures_spelled s.procs ++ acts_spelled s.body),
      length-append (procedures_spelled s.procs) (acts_spelled s.body),
      length-map ts (λ (t : Token). t.kind),
    )
