-- How the machine reads tokens with their places: one token taken, or none if two states take the next alike.
use Rattle.std.proofs.Common.{◌≡◌, ℕ, Bool, false, List, [], ◌∷◌, ◌++◌, Option, Some, None, Err, refl, ◌∙◌, ap}
use Rattle.ts_trees.specs.declared.token.Token.{Token}
use Rattle.ts_trees.specs.declared.token.TokenKind.{TokenKind}
use Rattle.ts_trees.specs.declared.token.TokenKind.TheVariants as kind
use Rattle.ts_trees.specs.Spelling.{kinds, note}
use Rattle.ts_trees.specs.Parsing.{Holds, noted_then, reads, Starts}
use Rattle.ts_trees.specs.Code.{is_sign}
use Rattle.ts_trees.specs.Machine.{State, step, wants_size, takes, places_after, first_place, finish, Outcome, ending, going, run}
use Rattle.ts_trees.proofs.CodeLemmas.{same_code}
use Rattle.ts_trees.proofs.Turns.{turn_alike}

-- a sign or a keyword at which no place is noted
abbrev pub is_plain : TokenKind → Bool
is_plain kind.Step = false
is_plain m = is_sign m

plain_sign : (m : TokenKind) → Holds (is_plain m) → Holds (is_sign m)
plain_sign kind.Step h = absurd h
plain_sign m h = h

plain_note : (t : Token) (m : TokenKind) → Holds (is_plain m) → (ts : List Token) → note t m ts ≡ []
plain_note t kind.Step h ts = absurd h
plain_note t (kind.Name n) h ts = absurd h
plain_note t (kind.Num n) h ts = absurd h
plain_note t m h ts = refl

plain_takes : (q : State) (m : TokenKind) → Holds (is_plain m) → takes q m ≡ false
plain_takes q (kind.Name n) h = absurd h
plain_takes q (kind.Num n) h = absurd h
plain_takes q m h = refl

-- a step that is known, at a token that takes no place
going_on : (o : Option State) (q : State) (f : State → Outcome) (ks : List TokenKind) → o ≡ Some q → going o f ks ≡ f q
going_on o q f ks e = ap (λ x. going x f ks) e

stuck : (o : Option State) (f : State → Outcome) (ks : List TokenKind) → o ≡ None → going o f ks ≡ Err ks
stuck o f ks e = ap (λ x. going x f ks) e

plain_read : (t : Token) (ts : List Token) (m : TokenKind) (q r : State) → t.kind ≡ m → Holds (is_plain m) → ((p : ℕ) → step q m p ≡ Some r) → reads (t ∷ ts) q ≡ reads ts r
plain_read t ts m q r e h s =
    ap (λ n. run (n ∷ kinds ts) (note t n ts ++ noted_then ts) q) e
    ∙ ap (λ ps. run (m ∷ kinds ts) (ps ++ noted_then ts) q) (plain_note t m h ts)
    ∙ going_on (step q m (first_place (noted_then ts))) r (run (kinds ts) (places_after (takes q m) (noted_then ts))) (m ∷ kinds ts) (s (first_place (noted_then ts)))
    ∙ ap (λ b. run (kinds ts) (places_after b (noted_then ts)) r) (plain_takes q m h)

-- a sign or a keyword is taken
pub sign_read : (m : TokenKind) {ts rest : List Token} → Starts m ts rest → Holds (is_plain m) → (q r : State) → ((p : ℕ) → step q m p ≡ Some r) → reads ts q ≡ reads rest r
sign_read m {ts} {rest} s h q r e =
    ap (λ xs. reads xs q) s.are ∙ plain_read s.token rest m q r (same_code s.token.kind m (plain_sign m h) s.kind) h e

-- the first token is not taken
stuck_at : (t : Token) (ts : List Token) (q : State) → ((p : ℕ) → step q t.kind p ≡ None) → reads (t ∷ ts) q ≡ Err (kinds (t ∷ ts))
stuck_at t ts q s =
    let ps : List ℕ = note t t.kind ts ++ noted_then ts in
    stuck (step q t.kind (first_place ps)) (run (kinds ts) (places_after (takes q t.kind) ps)) (t.kind ∷ kinds ts) (s (first_place ps))

-- two states that take the first token alike read all alike
pub alike_at : (t : Token) (ts : List Token) (q r : State) → ((p : ℕ) → step q t.kind p ≡ step r t.kind p) → wants_size q ≡ wants_size r → reads (t ∷ ts) q ≡ reads (t ∷ ts) r
alike_at t ts q r s w = turn_alike q r t.kind s w (kinds ts) (note t t.kind ts ++ noted_then ts)

pub alike_end : (q r : State) → finish q ≡ finish r → reads [] q ≡ reads [] r
alike_end q r f = ap (λ x. ending x (0 ∷ [])) f

-- the same, at tokens of which the condition tells the first
pub stops : (ts : List Token) (q : State) → finish q ≡ None → ((t : Token) (rest : List Token) → ts ≡ t ∷ rest → (p : ℕ) → step q t.kind p ≡ None) → reads ts q ≡ Err (kinds ts)
stops [] q f s = ap (λ x. ending x (0 ∷ [])) f
stops (t ∷ ts) q f s = stuck_at t ts q (s t ts refl)

pub agree : (ts : List Token) (q r : State) → finish q ≡ finish r → wants_size q ≡ wants_size r → ((t : Token) (rest : List Token) → ts ≡ t ∷ rest → (p : ℕ) → step q t.kind p ≡ step r t.kind p) → reads ts q ≡ reads ts r
agree [] q r f w s = alike_end q r f
agree (t ∷ ts) q r f w s = alike_at t ts q r (s t ts refl) w

-- a name is taken, with its place
pub name_read : (t : Token) (ts : List Token) (n : List ℕ) (q r : State) → t.kind ≡ kind.Name n → step q (kind.Name n) t.from ≡ Some r → reads (t ∷ ts) q ≡ reads ts r
name_read t ts n q r e s =
    ap (λ m. run (m ∷ kinds ts) (note t m ts ++ noted_then ts) q) e
    ∙ going_on (step q (kind.Name n) t.from) r (run (kinds ts) (noted_then ts)) (kind.Name n ∷ kinds ts) s
