-- What a sign is at the front of bytes.
use Rattle.std.proofs.Common.{◌≡◌, ℕ, ◌+◌, ◌<◌, ◌≤◌, Bool, true, false, ◌||◌, ◌==◌, if◌then◌else◌, List, [], ◌∷◌, length, drop, Option, Some, None, Result, Err, MatchResult, refl, sym, ◌∙◌, ap, subst, arith, rules}
use Rattle.std.specs.Option.{option_map}
use Rattle.std.proofs.lemmas.Bool.{false≢true, cond-true, cond-false, cond_both, or_from, or_parts, eqb-true, ne_eqb, not-true, not_from_false}
use Rattle.ts_trees.specs.declared.token.TokenKind.{TokenKind}
use Rattle.ts_trees.specs.declared.token.TokenKind.TheVariants as kind
use Rattle.ts_trees.specs.declared.dialect.Dialect.{Dialect}
use Rattle.ts_trees.specs.declared.dialect.Dialect.TheVariants as dialect
use Rattle.ts_trees.specs.Cut.{is_blank, is_digit, begins_name, sign_of, procedure_kind, kind_in, token, bad_byte, between, less, greater, stop, go, sign_turn, fresh, with_front, cut_from}
use Rattle.ts_lexer.specs.declared.fault.TokenFault.{TokenFault}
use Rattle.ts_lexer.specs.declared.fault.TokenFault.TheVariants.{NoMemory}
use Rattle.ts_lexer.specs.declared.scanner.Scanner.{Scanner}
use Rattle.ts_lexer.specs.Spans.{BeginsWith, begins_sign, less_sign, greater_sign, sign_at}
use Rattle.ts_lexer.specs.Scanner.{due, TakesBytes, Appends, Steps}
use Rattle.ts_lexer.proofs.WordLemmas.{sign-is}
use Rattle.ts_lexer.proofs.CutLemmas.{cut_from-go, cut_from-turn, ends_before}
use Rattle.ts_lexer.proofs.StepLemmas.{fault_due, token_steps}

-- what is cut at a place where the bytes begin with the sign, or with none
abbrev IsSignCut : ℕ → List ℕ → Option (TokenKind × ℕ) → Type 0
IsSignCut i bs None = cut_from i between bs ≡ Err (bad_byte i)
IsSignCut i bs (Some s) = cut_from i between bs ≡ with_front (token s.0 i (i + s.1) ∷ []) (cut_from (i + s.1) between (drop s.1 bs))

abbrev Fits : List ℕ → Option (TokenKind × ℕ) → Type 0
Fits bs None = Unit {0}
Fits bs (Some s) = (0 < s.1) × (s.1 ≤ length bs)

two_on : (i : ℕ) → i + 1 + 1 ≡ i + 2
two_on i = omega arith

-- the byte after `<` or `>`

less_cut : (i : ℕ) (bs : List ℕ) → IsSignCut i (60 ∷ bs) (Some (less_sign bs))
unfolding cut_from
less_cut i [] = refl
less_cut i (b ∷ bs) = cut_from-go i between (less i) 60 (b ∷ bs) refl ∙ by (b == 61) refl (b == 62) refl
  where
    result : Bool → Bool → TokenKind × ℕ
    result v w = if v then (kind.Le, 2) else (if w then (kind.Ne, 2) else (kind.Lt, 1))

    by : (v : Bool) → (b == 61) ≡ v → (w : Bool) → (b == 62) ≡ w
        → cut_from (i + 1) (less i) (b ∷ bs) ≡ with_front (token (result v w).0 i (i + (result v w).1) ∷ []) (cut_from (i + (result v w).1) between (drop (result v w).1 (60 ∷ b ∷ bs)))
    by true e w f = cut_from-turn (i + 1) (less i) b bs (go (token kind.Le i (i + 1 + 1) ∷ []) between) (cond-true (b == 61) _ _ e)
        ∙ ap (λ j. with_front (token kind.Le i j ∷ []) (cut_from j between bs)) (two_on i)
    by false e true f = cut_from-turn (i + 1) (less i) b bs (go (token kind.Ne i (i + 1 + 1) ∷ []) between) (cond-false (b == 61) _ _ e ∙ cond-true (b == 62) _ _ f)
        ∙ ap (λ j. with_front (token kind.Ne i j ∷ []) (cut_from j between bs)) (two_on i)
    by false e false f = ends_before (i + 1) (less i) (token kind.Lt i (i + 1)) b bs (cond-false (b == 61) _ _ e ∙ cond-false (b == 62) _ _ f)

greater_cut : (i : ℕ) (bs : List ℕ) → IsSignCut i (62 ∷ bs) (Some (greater_sign bs))
unfolding cut_from
greater_cut i [] = refl
greater_cut i (b ∷ bs) = cut_from-go i between (greater i) 62 (b ∷ bs) refl ∙ by (b == 61) refl
  where
    result : Bool → TokenKind × ℕ
    result v = if v then (kind.Ge, 2) else (kind.Gt, 1)

    by : (v : Bool) → (b == 61) ≡ v
        → cut_from (i + 1) (greater i) (b ∷ bs) ≡ with_front (token (result v).0 i (i + (result v).1) ∷ []) (cut_from (i + (result v).1) between (drop (result v).1 (62 ∷ b ∷ bs)))
    by true e = cut_from-turn (i + 1) (greater i) b bs (go (token kind.Ge i (i + 1 + 1) ∷ []) between) (cond-true (b == 61) _ _ e)
        ∙ ap (λ j. with_front (token kind.Ge i j ∷ []) (cut_from j between bs)) (two_on i)
    by false e = ends_before (i + 1) (greater i) (token kind.Gt i (i + 1)) b bs (cond-false (b == 61) _ _ e)

-- a byte that begins a sign of one byte, or none

short_cut : (i b : ℕ) (bs : List ℕ) (o : Option TokenKind) → fresh i b ≡ sign_turn i o → IsSignCut i (b ∷ bs) (option_map (λ k. (k, 1)) o)
short_cut i b bs None e = cut_from-turn i between b bs (stop (bad_byte i)) e
short_cut i b bs (Some k) e = cut_from-turn i between b bs (go (token k i (i + 1) ∷ []) between) e

sign_fresh : (i b : ℕ) → begins_sign b ≡ true → (b == 60) ≡ false → (b == 62) ≡ false → fresh i b ≡ sign_turn i (sign_of b)
sign_fresh i b h no_less no_greater =
    let all = not-true (is_blank b || b == 33 || begins_name b || is_digit b) h in
    let digit = or_parts (is_blank b || b == 33 || begins_name b) (is_digit b) all in
    let letter = or_parts (is_blank b || b == 33) (begins_name b) digit.0 in
    let mark = or_parts (is_blank b) (b == 33) letter.0 in
    cond-false (is_blank b) _ _ mark.0 ∙ cond-false (b == 33) _ _ mark.1 ∙ cond-false (begins_name b) _ _ letter.1 ∙ cond-false (is_digit b) _ _ digit.1
    ∙ cond-false (b == 60) _ _ no_less ∙ cond-false (b == 62) _ _ no_greater

sign_cut : (i : ℕ) (bs : List ℕ) → BeginsWith begins_sign bs → IsSignCut i bs (sign_at bs)
sign_cut i [] h = absurd (false≢true h)
sign_cut i (b ∷ bs) h = by (b == 60) refl (b == 62) refl
  where
    by : (v : Bool) → (b == 60) ≡ v → (w : Bool) → (b == 62) ≡ w
        → IsSignCut i (b ∷ bs) (if v then Some (less_sign bs) else (if w then Some (greater_sign bs) else option_map (λ k. (k, 1)) (sign_of b)))
    by true e w f = subst (λ c. IsSignCut i (c ∷ bs) (Some (less_sign bs))) (sym (eqb-true b 60 e)) (less_cut i bs)
    by false e true f = subst (λ c. IsSignCut i (c ∷ bs) (Some (greater_sign bs))) (sym (eqb-true b 62 f)) (greater_cut i bs)
    by false e false f = short_cut i b bs (sign_of b) (sign_fresh i b h e f)

-- how long a sign is

less_fits : (bs : List ℕ) → Fits (60 ∷ bs) (Some (less_sign bs))
less_fits [] = (omega arith, omega arith)
less_fits (b ∷ bs) = cond_both (b == 61) _ _ P (λ _. (omega arith, omega arith)) (λ _. cond_both (b == 62) _ _ P (λ _. (omega arith, omega arith)) (λ _. (omega arith, omega arith)))
  where
    P : TokenKind × ℕ → Type 0
    P s = (0 < s.1) × (s.1 ≤ length (60 ∷ b ∷ bs))

greater_fits : (bs : List ℕ) → Fits (62 ∷ bs) (Some (greater_sign bs))
greater_fits [] = (omega arith, omega arith)
greater_fits (b ∷ bs) = cond_both (b == 61) _ _ P (λ _. (omega arith, omega arith)) (λ _. (omega arith, omega arith))
  where
    P : TokenKind × ℕ → Type 0
    P s = (0 < s.1) × (s.1 ≤ length (62 ∷ b ∷ bs))

short_fits : (b : ℕ) (bs : List ℕ) (o : Option TokenKind) → Fits (b ∷ bs) (option_map (λ k. (k, 1)) o)
short_fits b bs None = tt
short_fits b bs (Some k) = (omega arith, omega arith)

sign_at-Fits : (bs : List ℕ) → Fits bs (sign_at bs)
sign_at-Fits [] = tt
sign_at-Fits (b ∷ bs) = by (b == 60) (b == 62)
  where
    by : (v w : Bool) → Fits (b ∷ bs) (if v then Some (less_sign bs) else (if w then Some (greater_sign bs) else option_map (λ k. (k, 1)) (sign_of b)))
    by true w = less_fits bs
    by false true = greater_fits bs
    by false false = short_fits b bs (sign_of b)

-- a sign is the same in each dialect

abbrev Stays : Option TokenKind → Type 0
Stays None = Unit {0}
Stays (Some k) = procedure_kind k ≡ k

abbrev SignStays : Option (TokenKind × ℕ) → Type 0
SignStays None = Unit {0}
SignStays (Some s) = procedure_kind s.0 ≡ s.0

sign_of-Stays : (b : ℕ) → Stays (sign_of b)
sign_of-Stays b = sign-is Stays b (search rules) tt

short_stays : (o : Option TokenKind) → Stays o → SignStays (option_map (λ k. (k, 1)) o)
short_stays None h = tt
short_stays (Some k) h = h

less_stays : (bs : List ℕ) → SignStays (Some (less_sign bs))
less_stays [] = refl
less_stays (b ∷ bs) = cond_both (b == 61) _ _ (λ s. SignStays (Some s)) (λ _. refl) (λ _. cond_both (b == 62) _ _ (λ s. SignStays (Some s)) (λ _. refl) (λ _. refl))

greater_stays : (bs : List ℕ) → SignStays (Some (greater_sign bs))
greater_stays [] = refl
greater_stays (b ∷ bs) = cond_both (b == 61) _ _ (λ s. SignStays (Some s)) (λ _. refl) (λ _. refl)

sign_at-SignStays : (bs : List ℕ) → SignStays (sign_at bs)
sign_at-SignStays [] = tt
sign_at-SignStays (b ∷ bs) = by (b == 60) (b == 62)
  where
    by : (v w : Bool) → SignStays (if v then Some (less_sign bs) else (if w then Some (greater_sign bs) else option_map (λ k. (k, 1)) (sign_of b)))
    by true w = less_stays bs
    by false true = greater_stays bs
    by false false = short_stays (sign_of b) (sign_of-Stays b)

pub sign_stays : (d : Dialect) (bs : List ℕ) (k : TokenKind) (n : ℕ) → Some (k, n) ≡ sign_at bs → k ≡ kind_in d k
sign_stays dialect.Plain bs k n e = refl
sign_stays dialect.Procedures bs k n e = sym (subst SignStays (sym e) (sign_at-SignStays bs))

-- steps of a scanner

pub sign_fits : (bs : List ℕ) (k : TokenKind) (n : ℕ) → Some (k, n) ≡ sign_at bs → n ≤ length bs
sign_fits bs k n e = (subst (Fits bs) (sym e) (sign_at-Fits bs)).1

pub no_sign_due : (s : Scanner) → BeginsWith begins_sign s.rest.now → None ≡ sign_at s.rest.now → due s ≡ Err (bad_byte s.place)
no_sign_due s h e = fault_due s (bad_byte s.place) (subst (IsSignCut s.place s.rest.now) (sym e) (sign_cut s.place s.rest.now h))

pub sign_steps : (old mid new : Scanner) (k : TokenKind) (n : ℕ) (r : Result (Unit {0}) TokenFault) → BeginsWith begins_sign old.rest.now → Some (k, n) ≡ sign_at old.rest.now → TakesBytes old mid n
    → MatchResult r (λ _. Appends mid new (token k old.place mid.place)) (λ e. e ≡ NoMemory) → Steps old new r
sign_steps old mid new k n r h e t a =
    let fits = subst (Fits old.rest.now) (sym e) (sign_at-Fits old.rest.now) in
    token_steps old mid new n k t fits.0 fits.1 (subst (IsSignCut old.place old.rest.now) (sym e) (sign_cut old.place old.rest.now h)) r a

pub others_begin_signs : (b : ℕ) → is_blank b ≡ false → (b ≡ 33 → ⊥) → begins_name b ≡ false → is_digit b ≡ false → begins_sign b ≡ true
others_begin_signs b blank mark letter digit =
    not_from_false (is_blank b || b == 33 || begins_name b || is_digit b)
    (or_from (is_blank b || b == 33 || begins_name b) (is_digit b) (or_from (is_blank b || b == 33) (begins_name b) (or_from (is_blank b) (b == 33) blank (ne_eqb b 33 mark)) letter) digit)
