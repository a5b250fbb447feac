-- What a printer does that writes tokens with one space between them.
use Rattle.std.specs.Prelude.{◌≡◌, ℕ, Bool, true, false, List, [], ◌∷◌, ◌++◌, Option}
use Rattle.mate_files.specs.Pen.{Prints}
use Rattle.ts_syntax.specs.declared.printer.Printer.{Printer}
use Rattle.ts_syntax.specs.Naming.{named_expr}
use Rattle.ts_trees.specs.declared.word.Word.{Word}
use Rattle.ts_trees.specs.declared.token.TokenKind.{TokenKind}
use Rattle.ts_trees.specs.declared.token.TokenKind.TheVariants as kind
use Rattle.ts_trees.specs.declared.stmt.ForHead.{ForHead}
use Rattle.ts_trees.specs.Seen.{tree_of}
use Rattle.ts_trees.specs.Spelling.{name, spelled, step_spelled}
use Rattle.ts_trees.specs.Text.{written, begun}

-- the tokens are printed after those that were printed before
pub record PrintsTokens (bytes : Option (List ℕ)) (faults : ℕ) (old : Printer) (bytes' : Option (List ℕ)) (faults' : ℕ) (new : Printer)
    (ks : List TokenKind) : Type 0 where
  pub prints : Prints bytes faults old.pen.result bytes' faults' new.pen.result (written old.begun ks)
  pub begun : new.begun ≡ begun old.begun ks

-- what is before an argument
abbrev pub comma_before : Bool → List TokenKind
comma_before true = []
comma_before false = kind.Comma ∷ []

-- the head of a `for`, with the names that are printed
abbrev pub head_spelled : (Word → Word) → ForHead → List TokenKind
head_spelled f h =
    kind.For ∷ name (f h.var) ∷ kind.Eq ∷ spelled (named_expr f (tree_of h.from))
    ++ (kind.To ∷ spelled (named_expr f (tree_of h.to)) ++ step_spelled h.step)

-- the sign that ends a declaration, if one ends
abbrev pub closing : Bool → List TokenKind
closing true = kind.Semi ∷ []
closing false = []
