-- The tokens that are left to be printed, and those that are printed so far.
use Rattle.std.specs.Prelude.{◌≡◌, ℕ, Bool, true, false, List, [], ◌∷◌, ◌++◌, take, Option, Some, None, Result, Ok, Err, ⊤}
use Rattle.mate_files.specs.declared.sink.SinkFault.{SinkFault}
use Rattle.mate_files.specs.declared.sink.SinkFault.TheVariants.{NoMemory}
use Rattle.ts_trees.specs.declared.procedure.Proc.{Proc}
use Rattle.ts_trees.specs.declared.stmt.Stmt.{Stmt}
use Rattle.ts_trees.specs.declared.token.TokenKind.{TokenKind}
use Rattle.ts_trees.specs.declared.token.TokenKind.TheVariants as kind
use Rattle.ts_trees.specs.Seen.{acts, acts_of}
use Rattle.ts_trees.specs.Spelling.{name, acts_spelled}
use Rattle.ts_trees.specs.Tree.{Act, set, set_item, append, take_last, clear, call_alone, if_then, if_else, for_next, while_do, run_procedure}
use Rattle.ts_syntax.specs.Print.{PrintsTokens}
use Rattle.ts_syntax.specs.declared.printer.Printer.{Printer}
use Rattle.ts_proc_renaming.specs.Renaming.{renamed}
use Rattle.ts_proc_expansion.specs.Expansion.{expanded_acts}
use Rattle.ts_proc_expansion.specs.Plan.{bodies_of}
use Rattle.ts_proc_texts.specs.Hidings.{hiding_at}
use Rattle.ts_proc_texts.specs.declared.rest.Rest.{Rest}
use Rattle.ts_proc_texts.specs.declared.rest.Close.{Close}
use Rattle.ts_proc_texts.specs.declared.rest.Close.TheVariants.{Nothing, EndIf, Else, EndWhile, Next}

-- the statement has no block and runs no procedure
abbrev pub IsSimple : Act → Type 0
IsSimple (set w e) = ⊤
IsSimple (set_item w i e) = ⊤
IsSimple (append w e) = ⊤
IsSimple (take_last w b) = ⊤
IsSimple (clear w) = ⊤
IsSimple (call_alone w es) = ⊤
IsSimple (if_then e a) = ⊥
IsSimple (if_else e a b) = ⊥
IsSimple (for_next w from to step a next) = ⊥
IsSimple (while_do e a) = ⊥
IsSimple (run_procedure w es) = ⊥

-- the tokens of what statements become in the body at a place
abbrev pub block_tokens : List Proc → ℕ → List Stmt → List TokenKind
block_tokens procs place stmts = acts_spelled (acts (expanded_acts (take place (bodies_of procs)) (hiding_at procs place) (acts_of stmts)))

-- of what comes after a block
abbrev pub close_tokens : List Proc → ℕ → Close → List TokenKind
close_tokens procs place Nothing = []
close_tokens procs place EndIf = kind.End ∷ kind.If ∷ []
close_tokens procs place (Else stmts) = kind.Else ∷ block_tokens procs place stmts.now ++ (kind.End ∷ kind.If ∷ [])
close_tokens procs place EndWhile = kind.End ∷ kind.While ∷ []
close_tokens procs place (Next word) = kind.Next ∷ name (renamed (hiding_at procs place) word.now) ∷ []

-- of what is left of a block
abbrev pub rest_tokens : List Proc → Rest → List TokenKind
rest_tokens procs r = block_tokens procs r.place r.stmts.now ++ close_tokens procs r.place r.close

-- the same if something is left
abbrev pub tokens_if : List Proc → Option Rest → List TokenKind
tokens_if procs None = []
tokens_if procs (Some r) = rest_tokens procs r

-- and of all on a stack, whose last ones come first
abbrev pub tokens_on : List Proc → List Rest → List TokenKind
tokens_on procs [] = []
tokens_on procs (r ∷ rs) = tokens_on procs rs ++ rest_tokens procs r

-- tokens are printed but for those that are left
pub record PrintsUpTo (bytes : Option (List ℕ)) (faults : ℕ) (old : Printer) (bytes' : Option (List ℕ)) (faults' : ℕ) (new : Printer)
    (left all : List TokenKind) : Type 0 where
  pub front : List TokenKind
  pub whole : all ≡ front ++ left
  pub printed : PrintsTokens bytes faults old bytes' faults' new front

-- all tokens are printed, or the first ones of them
abbrev pub PrintsAllOrSome : Option (List ℕ) → ℕ → Printer → Option (List ℕ) → ℕ → Printer → Bool → List TokenKind → Type 0
PrintsAllOrSome bytes faults old bytes' faults' new true all = PrintsTokens bytes faults old bytes' faults' new all
PrintsAllOrSome bytes faults old bytes' faults' new false all =
    (left : List TokenKind) × PrintsUpTo bytes faults old bytes' faults' new left all

-- why a text is not written to its end: the first fault, or else want of memory
abbrev pub why_stopped : Result (Unit {0}) SinkFault → Result (Unit {0}) SinkFault
why_stopped (Ok _) = Err NoMemory
why_stopped (Err fault) = Err fault
