-- What the first bytes of a text are.
use Rattle.std.specs.Prelude.{◌≡◌, ℕ, ◌+◌, ◌-◌, ◌*◌, ◌==◌, Bool, true, false, not, ◌||◌, if◌then◌else◌, List, [], ◌∷◌, Option, Some, None}
use Rattle.std.specs.Option.{option_map}
use Rattle.mate_num.specs.Lists.{Each}
use Rattle.ts_trees.specs.declared.token.TokenKind.{TokenKind}
use Rattle.ts_trees.specs.declared.token.TokenKind.TheVariants as kind
use Rattle.ts_trees.specs.Cut.{is_blank, begins_name, is_digit, sign_of}

-- whether there is a first byte that passes the test
abbrev pub begins : (ℕ → Bool) → List ℕ → Bool
begins p [] = false
begins p (b ∷ bs) = p b

abbrev pub BeginsWith : (ℕ → Bool) → List ℕ → Type 0
BeginsWith p bs = begins p bs ≡ true

-- each byte passes the test
abbrev pub Passes : (ℕ → Bool) → List ℕ → Type 0
Passes p = Each (λ b. p b ≡ true)

-- the byte begins no blank, comment, name or literal
abbrev pub begins_sign : ℕ → Bool
begins_sign b = not (is_blank b || b == 33 || begins_name b || is_digit b)

-- the value of digits, after others of the value n
abbrev pub digits_value : ℕ → List ℕ → ℕ
digits_value n [] = n
digits_value n (b ∷ bs) = digits_value (n * 10 + (b - 48)) bs

-- the sign that begins with `<`, by the bytes after it, and its length
abbrev pub less_sign : List ℕ → TokenKind × ℕ
less_sign [] = (kind.Lt, 1)
less_sign (b ∷ bs) = if b == 61 then (kind.Le, 2) else (if b == 62 then (kind.Ne, 2) else (kind.Lt, 1))

-- the sign that begins with `>`
abbrev pub greater_sign : List ℕ → TokenKind × ℕ
greater_sign [] = (kind.Gt, 1)
greater_sign (b ∷ bs) = if b == 61 then (kind.Ge, 2) else (kind.Gt, 1)

-- the longest sign that bytes begin with, and its length
abbrev pub sign_at : List ℕ → Option (TokenKind × ℕ)
sign_at [] = None
sign_at (b ∷ bs) =
    if b == 60 then Some (less_sign bs) else
    if b == 62 then Some (greater_sign bs) else option_map (λ k. (k, 1)) (sign_of b)
