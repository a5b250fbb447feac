-- The pace of a node: whose turn it is, and how many instructions each invocation executed.
use Rattle.std.specs.Prelude.{◌==◌, ℕ, not, List, [], ◌∷◌, ◌++◌, filter}
use Rattle.std.specs.List.{fold}
use Rattle.mate_journal.specs.Journal.{JournalEntry, Started, Asked, Answered, Ended, Installed, Reset, changed}

-- the ready invocations, the one that is longest without a turn first; and how many instructions each executed since
-- its start
pub record Pace : Type 0 where
  pub line : List ℕ
  pub counts : ℕ → ℕ

-- the pace before any entry
abbrev pub no_pace : Pace
no_pace = record { line = []; counts = λ _. 0 }

-- the others, in the same order
abbrev pub others : List ℕ → ℕ → List ℕ
others line n = filter (λ k. not (n == k)) line

-- an invocation that starts or is answered goes last; one that asks or ends leaves; an era's end empties the line
abbrev pub paced : Pace → JournalEntry → Pace
paced p (Started n) = record { line = p.line ++ n ∷ []; counts = changed p.counts n 0 }
paced p (Asked n f args) = record p { line = others p.line n }
paced p (Answered n value) = record p { line = p.line ++ n ∷ [] }
paced p (Ended n how) = record p { line = others p.line n }
paced p (Installed x) = record p { line = [] }
paced p Reset = record p { line = [] }
paced p _ = p

abbrev pub paced_all : Pace → List JournalEntry → Pace
paced_all = fold paced

-- of a run the one whose turn it is goes last
abbrev pub gives_way : Pace → ℕ → Pace
gives_way p n = record p { line = others p.line n ++ n ∷ [] }
