-- The kinds of tokens that texts are cut into.
use Rattle.std.proofs.Common.{◌≡◌, ℕ, ◌+◌, ◌<◌, ◌≤◌, Bool, true, false, ◌==◌, nat_lt, if◌then◌else◌, ◌⊎◌, inl, inr, List, [], ◌∷◌, ◌++◌, length, Option, Some, Result, Ok, Err, refl, sym, ◌∙◌, subst, length-append, arith, rules}
use Rattle.std.specs.Str.{bytes_eq}
use Rattle.std.proofs.lemmas.List.{map-append}
use Rattle.std.proofs.lemmas.Bool.{false≢true, cond_both, or_left, ltb-true, ltb-false}
use Rattle.mate_num.specs.Lists.{Each}
use Rattle.mate_num.proofs.ListLemmas.{each-append}
use Rattle.ts_trees.specs.declared.token.Token.{Token}
use Rattle.ts_trees.specs.declared.token.TokenKind.{TokenKind}
use Rattle.ts_trees.specs.declared.token.TokenKind.TheVariants as kind
use Rattle.ts_trees.specs.Text.{token_text}
use Rattle.ts_trees.specs.Spelling.{kinds}
use Rattle.ts_trees.specs.Cut.{is_blank, is_digit, begins_name, in_name, sign_of, keywords, keyword_among, word_kind, token, CutFault, Mode, between, comment, word, literal, less, greater, CutStep, stop, go, behind, sign_turn, fresh, turn, with_front, turned, cut_from, cut}
use Rattle.ts_lexer.specs.Spans.{BeginsWith, Passes}
use Rattle.ts_lexer.specs.Printed.{IsWord, IsKind, AreKinds}
use Rattle.ts_lexer.proofs.WordLemmas.{sign-is}
use Rattle.ts_lexer.proofs.CutLemmas.{cut_from-nil, cut_from-cons}

-- what a mode, a turn and a result keep

abbrev IsMode : Mode → Type 0
IsMode between = Unit {0}
IsMode comment = Unit {0}
IsMode (word from w) = IsWord w
IsMode (literal from n) = Unit {0}
IsMode (less from) = Unit {0}
IsMode (greater from) = Unit {0}

abbrev IsTurn : CutStep → Type 0
IsTurn (stop f) = Unit {0}
IsTurn (go ts m) = AreKinds (kinds ts) × IsMode m

abbrev IsResult : Result (List Token) CutFault → Type 0
IsResult (Ok ts) = AreKinds (kinds ts)
IsResult (Err f) = Unit {0}

-- words

-- a sign or a keyword
abbrev IsFixed : TokenKind → Type 0
IsFixed (kind.Name w) = ⊥
IsFixed (kind.Num n) = ⊥
IsFixed kind.Proc = ⊥
IsFixed kind.Do = ⊥
IsFixed _ = Unit {0}

fixed-IsKind : (k : TokenKind) → IsFixed k → IsKind k
fixed-IsKind (kind.Name w) p = absurd p
fixed-IsKind (kind.Num n) p = absurd p
fixed-IsKind kind.Proc p = absurd p
fixed-IsKind kind.Do p = absurd p
fixed-IsKind _ p = tt

among_cases : (ks : List TokenKind) → Each IsFixed ks → (w : List ℕ) → IsFixed (keyword_among ks w) ⊎ (keyword_among ks w ≡ kind.Name w)
among_cases [] p w = inr refl
among_cases (k ∷ ks) p w = picked (bytes_eq w (token_text k)) (among_cases ks p.1 w)
  where
    picked : (b : Bool) → IsFixed (keyword_among ks w) ⊎ (keyword_among ks w ≡ kind.Name w)
        → IsFixed (if b then k else keyword_among ks w) ⊎ ((if b then k else keyword_among ks w) ≡ kind.Name w)
    picked true rest = inl p.0
    picked false rest = rest

keywords_fixed : Each IsFixed keywords
keywords_fixed = search rules

word_kind-IsKind : (w : List ℕ) → IsWord w → IsKind (word_kind w)
unfolding word_kind
word_kind-IsKind w h = by (keyword_among keywords w) refl (among_cases keywords keywords_fixed w)
  where
    by : (k : TokenKind) → keyword_among keywords w ≡ k → IsFixed k ⊎ (k ≡ kind.Name w) → IsKind k
    by k e (inl p) = fixed-IsKind k p
    by k e (inr q) = subst IsKind (sym q) (record { fits = h; named = e ∙ q })

-- one byte

grown : (w : List ℕ) (b : ℕ) → IsWord w → in_name b ≡ true → length w < 16 → IsWord (w ++ b ∷ [])
grown w b h c short = record { begins = first w h.begins; passes = all w h.passes; short = omega (arith, length-append w (b ∷ [])) }
  where
    first : (v : List ℕ) → BeginsWith begins_name v → BeginsWith begins_name (v ++ b ∷ [])
    first [] f = absurd (false≢true f)
    first (x ∷ xs) f = f

    all : (v : List ℕ) → Passes in_name v → Passes in_name (v ++ b ∷ [])
    all [] p = (c, tt)
    all (x ∷ xs) p = (p.0, all xs p.1)

sign_turn-IsTurn : (i b : ℕ) → IsTurn (sign_turn i (sign_of b))
sign_turn-IsTurn i b =
    let P : Option TokenKind → Type 0 = λ o. IsTurn (sign_turn i o) in
    sign-is P b (search rules) tt

fresh-IsTurn : (i b : ℕ) → IsTurn (fresh i b)
fresh-IsTurn i b =
    cond_both (is_blank b) _ _ IsTurn (λ _. (tt, tt)) (λ _. cond_both (b == 33) _ _ IsTurn (λ _. (tt, tt)) (λ _.
    cond_both (begins_name b) _ _ IsTurn (λ h. (tt, record { begins = h; passes = (or_left (begins_name b) (is_digit b) h, tt); short = lit })) (λ _.
    cond_both (is_digit b) _ _ IsTurn (λ _. (tt, tt)) (λ _. cond_both (b == 60) _ _ IsTurn (λ _. (tt, tt)) (λ _. cond_both (b == 62) _ _ IsTurn (λ _. (tt, tt)) (λ _. sign_turn-IsTurn i b))))))
  where
    lit : 1 ≤ 16
    lit = omega arith

behind-IsTurn : (t : Token) (u : CutStep) → IsKind t.kind → IsTurn u → IsTurn (behind t u)
behind-IsTurn t (stop f) k h = tt
behind-IsTurn t (go ts m) k h = ((k, h.0), h.1)

turn-IsTurn : (i : ℕ) (m : Mode) (b : ℕ) → IsMode m → IsTurn (turn i m b)
turn-IsTurn i between b h = fresh-IsTurn i b
turn-IsTurn i comment b h = cond_both (b == 10) _ _ IsTurn (λ _. (tt, tt)) (λ _. (tt, tt))
turn-IsTurn i (word from w) b h =
    cond_both (in_name b) _ _ IsTurn
    (λ c. cond_both (nat_lt (length w) 16) _ _ IsTurn (λ short. (tt, grown w b h c (ltb-true (length w) 16 short))) (λ _. tt))
    (λ _. behind-IsTurn (token (word_kind w) from i) (fresh i b) (word_kind-IsKind w h) (fresh-IsTurn i b))
turn-IsTurn i (literal from n) b h =
    cond_both (is_digit b) _ _ IsTurn (λ _. (tt, tt)) (λ _. cond_both (nat_lt 65535 n) _ _ IsTurn (λ _. tt)
    (λ small. cond_both (begins_name b) _ _ IsTurn (λ _. tt) (λ _. behind-IsTurn (token (kind.Num n) from i) (fresh i b) (ltb-false 65535 n small) (fresh-IsTurn i b))))
turn-IsTurn i (less from) b h =
    cond_both (b == 61) _ _ IsTurn (λ _. ((tt, tt), tt)) (λ _. cond_both (b == 62) _ _ IsTurn (λ _. ((tt, tt), tt))
    (λ _. behind-IsTurn (token kind.Lt from i) (fresh i b) tt (fresh-IsTurn i b)))
turn-IsTurn i (greater from) b h =
    cond_both (b == 61) _ _ IsTurn (λ _. ((tt, tt), tt)) (λ _. behind-IsTurn (token kind.Gt from i) (fresh i b) tt (fresh-IsTurn i b))

-- texts

AreKinds-append : (ts us : List Token) → AreKinds (kinds ts) → AreKinds (kinds us) → AreKinds (kinds (ts ++ us))
AreKinds-append ts us p q = subst AreKinds (sym (map-append (λ t. t.kind) ts us)) (each-append IsKind (kinds ts) (kinds us) p q)

turned-IsResult : (rest : Mode → Result (List Token) CutFault) → ((m : Mode) → IsMode m → IsResult (rest m)) → (u : CutStep) → IsTurn u → IsResult (turned rest u)
turned-IsResult rest each (stop f) h = tt
turned-IsResult rest each (go ts m) h = front (rest m) (each m h.1)
  where
    front : (r : Result (List Token) CutFault) → IsResult r → IsResult (with_front ts r)
    front (Ok us) g = AreKinds-append ts us h.0 g
    front (Err f) g = tt

cut_from-IsResult : (i : ℕ) (m : Mode) (bs : List ℕ) → IsMode m → IsResult (cut_from i m bs)
cut_from-IsResult i m [] h = subst IsResult (sym (cut_from-nil i m)) (turned-IsResult (λ _. Ok []) (λ n g. tt) (turn i m 10) (turn-IsTurn i m 10 h))
cut_from-IsResult i m (b ∷ bs) h =
    subst IsResult (sym (cut_from-cons i m b bs)) (turned-IsResult (λ n. cut_from (i + 1) n bs) (λ n g. cut_from-IsResult (i + 1) n bs g) (turn i m b) (turn-IsTurn i m b h))

-- the kinds of a text's tokens
pub cut-AreKinds : (bytes : List ℕ) (ts : List Token) → cut bytes ≡ Ok ts → AreKinds (kinds ts)
cut-AreKinds bytes ts e = subst IsResult e (cut_from-IsResult 0 between bytes tt)
