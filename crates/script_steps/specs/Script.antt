-- A script as its lines say it, one after another, and what a reader answers.
use Rattle.std.specs.Prelude.{◌≡◌, ℕ, ◌+◌, List, [], ◌∷◌, Result, Ok, Err, ⊤}
use Rattle.script_steps.specs.declared.fault.Cause.{Cause}
use Rattle.script_steps.specs.declared.fault.ScriptFault.{ScriptFault}
use Rattle.script_steps.specs.declared.fault.ScriptFault.TheVariants.{BadLine, NoMemory}
use Rattle.script_steps.specs.Lines.{split_words}

-- what comes after a line with a number, or the line with its cause
abbrev pub numbered : {P A : Type 0} → ℕ → (P → Result A ScriptFault) → Result P Cause → Result A ScriptFault
numbered number next (Ok p) = next p
numbered number next (Err cause) = Err (BadLine number cause)

-- what the lines from a number on say, after p: each line leads from one state to the next, and `ends` gives the answer
-- at the end, one line further
abbrev pub script_from : {P A : Type 0} → (P → List (List ℕ) → Result P Cause) → (ℕ → P → Result A ScriptFault) → ℕ → P → List (List ℕ)
    → Result A ScriptFault
script_from after ends number p [] = ends number p
script_from after ends number p (line ∷ lines) = numbered number (λ p. script_from after ends (number + 1) p lines)
    (after p (split_words line))

-- a reader's answer is the script, or the first line that is refused; only lack of memory may come in place of either
abbrev pub AnswersScript : {A : Type 0} → Result A ScriptFault → Result A ScriptFault → Type 0
AnswersScript (Ok script) answer = answer ≡ Ok script
AnswersScript (Err (BadLine line cause)) answer = answer ≡ Err (BadLine line cause)
AnswersScript (Err NoMemory) answer = ⊤

-- the same of one line, which has a number: the state after it, or its cause
abbrev pub FollowsLine : {P : Type 0} → Result P Cause → ℕ → Result (Unit {0}) ScriptFault → P → Type 0
FollowsLine answer number (Ok u) after = answer ≡ Ok after
FollowsLine answer number (Err (BadLine line cause)) after = (line ≡ number) × (answer ≡ Err cause)
FollowsLine answer number (Err NoMemory) after = ⊤
