-- Small sources: their tokens, and what they spell.
use Rattle.std.specs.Prelude.{ℕ, Bool, List, [], ◌∷◌, ◌++◌, codes, Some}
use Rattle.ts_trees.specs.Cut.{token}
use Rattle.ts_trees.specs.Tree.{number, two, set, for_next, Acts, no_acts, act_then, Source}
use Rattle.ts_checked.specs.declared.bin_op.BinOp.TheVariants.{Sub}
use Rattle.ts_trees.specs.declared.token.Token.{Token}
use Rattle.ts_trees.specs.declared.token.TokenKind.TheVariants as kind
use Rattle.ts_trees.specs.declared.word.Word.{Word}

-- the name `x` at a place
abbrev pub x_at : ℕ → Word
x_at place = record { name = codes "x"; place = place }

abbrev pub x_token : ℕ → ℕ → Token
x_token from to = token (kind.Name (codes "x")) from to

-- a script without declarations
abbrev pub without_declarations : Acts → Source
without_declarations body = record { decls = []; body = body }

-- `x = 3 - 1;`
abbrev pub subtracting : Source
subtracting = without_declarations (act_then (set (x_at 0) (two Sub (number 3) (number 1))) no_acts)

-- what is after the name in `y = x[];`
abbrev pub taking : List Token
taking = token kind.Eq 2 3 ∷ x_token 4 5 ∷ token kind.OpenBox 5 6 ∷ token kind.CloseBox 6 7 ∷ token kind.Semi 7 8 ∷ []

-- `for x = 1 to 2 step -3 next x`, with what is before the literal 3
abbrev pub stepping : List Token → List Token
stepping sign =
    token kind.For 0 3 ∷ x_token 4 5 ∷ token kind.Eq 6 7 ∷ token (kind.Num 1) 8 9 ∷ token kind.To 10 12 ∷ token (kind.Num 2) 13 14
    ∷ token kind.Step 15 19 ∷ sign ++ (token (kind.Num 3) 21 22 ∷ token kind.Next 23 27 ∷ x_token 28 29 ∷ [])

-- the script that these spell, whose step has a minus or none
abbrev pub loop_by_three : Bool → Source
loop_by_three minus = without_declarations
    (act_then (for_next (x_at 4) (number 1) (number 2) (Some (record { minus = minus; size = 3; place = 21 })) no_acts (x_at 28)) no_acts)
