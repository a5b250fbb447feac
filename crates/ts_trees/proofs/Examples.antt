-- The examples of docs/TINYSCRIPT.md, each by a derivation or by computation.
use Rattle.std.proofs.Common.{◌≡◌, ℕ, [], ◌∷◌, ◌++◌, Ok, Err, Some, None, refl, codes, replicate, arith}
use Rattle.std.specs.Prelude.{flat_map}
use Rattle.std.specs.Fmt.{digits}
use Rattle.ts_checked.specs.declared.bin_op.BinOp.TheVariants as op
use Rattle.ts_trees.specs.declared.token.TokenKind.{TokenKind}
use Rattle.ts_trees.specs.declared.token.TokenKind.TheVariants as kind
use Rattle.ts_trees.specs.Tree.{number, two}
use Rattle.ts_trees.specs.Spelling.{spelled}
use Rattle.ts_trees.specs.Derived.{Derived}
use Rattle.ts_trees.specs.Grammar.{script, stmt, rule, Whole, w_name, w_key, w_rule, w_then, w_left, w_right, w_end, BeginsPart, b_key, b_name, b_rule, b_first, b_second, b_left, b_right, b_here}
use Rattle.ts_trees.specs.Depth.{first_deep}
use Rattle.ts_trees.specs.Text.{written, text_of}
use Rattle.ts_trees.specs.Cut.{bad_byte, big_literal, token, word_kind, cut_from, cut}

abbrev a : TokenKind
a = kind.Name (codes "a")

-- `shared` begins a script: it begins the first declaration
shared_begins : BeginsPart (rule script) (kind.Shared ∷ [])
shared_begins = b_rule (b_first (b_here (b_rule (b_first (b_left b_key)))))

-- `shared a` begins a script: the keyword is whole, and the name begins what follows
shared_name_begins : BeginsPart (rule script) (kind.Shared ∷ a ∷ [])
shared_name_begins = b_rule (b_first (b_here (b_rule (b_second (w_left w_key) (b_first b_name) refl))))

-- `clear (` begins a script: there is no declaration, and it begins a statement
clear_begins : BeginsPart (rule script) (kind.Clear ∷ kind.Open ∷ [])
clear_begins = b_rule (b_second w_end (b_here (b_rule (b_right (b_right (b_right (b_right (b_left (b_second w_key (b_first b_key) refl)))))))) refl)

-- `if` begins a script
if_begins : BeginsPart (rule script) (kind.If ∷ [])
if_begins = b_rule (b_second w_end (b_here (b_rule (b_right (b_right (b_right (b_right (b_right (b_right (b_left (b_first b_key)))))))))) refl)

-- `a = p [` begins a script by two statements: a taking, and an assignment of an item
taking_begins : BeginsPart (rule script) (a ∷ kind.Eq ∷ a ∷ kind.OpenBox ∷ [])
taking_begins = b_rule (b_second w_end (b_here (b_rule (b_right (b_left
    (b_second w_name (b_second w_key (b_second w_name (b_first b_key) refl) refl) refl))))) refl)

-- `clear ( a ) ;` is a whole statement
clear_whole : Whole (rule stmt) (kind.Clear ∷ kind.Open ∷ a ∷ kind.Close ∷ kind.Semi ∷ [])
clear_whole = w_rule (w_right (w_right (w_right (w_right (w_left (w_then w_key (w_then w_key (w_then w_name (w_then w_key w_key refl) refl) refl) refl))))))

-- `1 - 2 - 3` groups to the left
left_chain : Derived (two op.Sub (two op.Sub (number 1) (number 2)) (number 3))
left_chain = (omega arith, (omega arith, tt, omega arith, tt), omega arith, tt)

right_chain : Derived (two op.Sub (number 1) (two op.Sub (number 2) (number 3))) → ⊥
right_chain d = let h = d.2 in omega (arith, h)

chains_spell_alike : spelled (two op.Sub (number 1) (two op.Sub (number 2) (number 3))) ≡ spelled (two op.Sub (two op.Sub (number 1) (number 2)) (number 3))
chains_spell_alike = refl

-- comparisons make no chain: `1 < 2 < 3` is no expression
no_chain : Derived (two op.Lt (two op.Lt (number 1) (number 2)) (number 3)) → ⊥
no_chain d = let h = d.0 in omega (arith, h)

-- the 33rd `while` lies too deep, and the 32nd doesn't
deep_block : first_deep (flat_map {X = ℕ} (λ _. kind.While ∷ a ∷ []) (replicate 33 0)) ≡ Some 64
deep_block = refl

blocks_fit : first_deep (flat_map {X = ℕ} (λ _. kind.While ∷ a ∷ []) (replicate 32 0)) ≡ None
blocks_fit = refl

-- the `while` behind `end` opens nothing
ends_fit : first_deep (flat_map {X = ℕ} (λ _. kind.While ∷ a ∷ []) (replicate 32 0) ++ kind.End ∷ kind.While ∷ kind.While ∷ a ∷ []) ≡ None
ends_fit = refl

-- the `=` and 63 parentheses are 64 counted tokens; one more lies too deep
counted_fit : first_deep (a ∷ kind.Eq ∷ replicate 63 kind.Open) ≡ None
counted_fit = refl

deep_counted : first_deep (a ∷ kind.Eq ∷ replicate 64 kind.Open) ≡ Some 65
deep_counted = refl

-- a semicolon begins the count anew
count_anew : first_deep (a ∷ kind.Eq ∷ replicate 63 kind.Open ++ kind.Semi ∷ replicate 64 kind.Open) ≡ None
count_anew = refl

-- the longest sign is taken
longest_sign : cut (codes "a<=<>") ≡ Ok (token a 0 1 ∷ token kind.Le 1 3 ∷ token kind.Ne 3 5 ∷ [])
unfolding cut_from word_kind
longest_sign = refl

-- a comment ends before the next LF, and not at a CR
comment_cut : cut (codes "if!x" ++ 13 ∷ 255 ∷ 10 ∷ codes "a") ≡ Ok (token kind.If 0 2 ∷ token a 7 8 ∷ [])
unfolding cut_from word_kind
comment_cut = refl

greatest_literal : cut (codes "65535") ≡ Ok (token (kind.Num 65535) 0 5 ∷ [])
unfolding cut_from
greatest_literal = refl

literal_too_big : cut (codes "a=70000x") ≡ Err (big_literal 2)
unfolding cut_from word_kind
literal_too_big = refl

literal_then_letter : cut (codes "12_") ≡ Err (bad_byte 2)
unfolding cut_from
literal_then_letter = refl

long_name : cut (replicate 17 97) ≡ Err (bad_byte 16)
unfolding cut_from
long_name = refl

no_token : cut (codes "a & b") ≡ Err (bad_byte 2)
unfolding cut_from word_kind
no_token = refl

-- a literal is written by its value
literal_written : text_of (a ∷ kind.Eq ∷ kind.Num 7 ∷ kind.Semi ∷ []) ≡ codes "a = 7 ;"
unfolding written digits
literal_written = refl
