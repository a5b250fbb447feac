-- A line feed after a text changes no token.
use Rattle.std.proofs.Common.{◌≡◌, ℕ, ◌+◌, Bool, true, false, nat_lt, if◌then◌else◌, List, [], ◌∷◌, ◌++◌, Result, Ok, Err, refl, sym, ◌∙◌, ap}
use Rattle.ts_trees.specs.declared.token.Token.{Token}
use Rattle.ts_trees.specs.declared.token.TokenKind.TheVariants as kind
use Rattle.ts_trees.specs.Cut.{token, CutFault, big_literal, Mode, between, comment, word, literal, less, greater, CutStep, stop, go, turn, with_front, turned, cut_from, cut}
use Rattle.ts_lexer.proofs.CutLemmas.{cut_from-nil, cut_from-cons}

turned_same : (f g : Mode → Result (List Token) CutFault) → ((m : Mode) → f m ≡ g m) → (u : CutStep) → turned f u ≡ turned g u
turned_same f g each (stop fault) = refl
turned_same f g each (go ts m) = ap (with_front ts) (each m)

-- the end of the text
abbrev ended : ℕ → Mode → Result (List Token) CutFault
ended i m = turned (λ _. Ok []) (turn i m 10)

-- a line feed is read as the end of the text
feed : (i : ℕ) (m : Mode) → turned (λ n. ended (i + 1) n) (turn i m 10) ≡ ended i m
feed i between = refl
feed i comment = refl
feed i (word from w) = refl
feed i (literal from n) = large (nat_lt 65535 n) where
  large : (b : Bool)
      → turned (λ n. ended (i + 1) n) (if b then stop (big_literal from) else go (token (kind.Num n) from i ∷ []) between)
      ≡ turned (λ _. Ok []) (if b then stop (big_literal from) else go (token (kind.Num n) from i ∷ []) between)
  large true = refl
  large false = refl
feed i (less from) = refl
feed i (greater from) = refl

line_from : (bs : List ℕ) (i : ℕ) (m : Mode) → cut_from i m (bs ++ 10 ∷ []) ≡ cut_from i m bs
line_from [] i m =
    cut_from-cons i m 10 [] ∙ turned_same (λ n. cut_from (i + 1) n []) (λ n. ended (i + 1) n) (λ n. cut_from-nil (i + 1) n) (turn i m 10)
    ∙ feed i m ∙ sym (cut_from-nil i m)
line_from (b ∷ bs) i m =
    cut_from-cons i m b (bs ++ 10 ∷ [])
    ∙ turned_same (λ n. cut_from (i + 1) n (bs ++ 10 ∷ [])) (λ n. cut_from (i + 1) n bs) (λ n. line_from bs (i + 1) n) (turn i m b)
    ∙ sym (cut_from-cons i m b bs)

pub line_cut : (bytes : List ℕ) → cut (bytes ++ 10 ∷ []) ≡ cut bytes
line_cut bytes = line_from bytes 0 between
