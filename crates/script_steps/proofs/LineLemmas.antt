-- Where the reader of a script is among its lines.
use Rattle.std.proofs.Common.{◌≡◌, ℕ, ◌+◌, ◌<◌, ◌≤◌, not, ◌==◌, List, [], ◌∷◌, length, None, Some, Result, Ok, Err, sym, ◌∙◌, ap, arith}
use Rattle.std.specs.List.{prefix_len}
use Rattle.std.proofs.lemmas.Bool.{false_from_ne_true}
use Rattle.std.proofs.lemmas.List.Sums.{prefix_len_is}
use Rattle.memchr.specs.Find.{is_byte, IsFirstByte}
use Rattle.script_steps.specs.declared.fault.Cause.{Cause}
use Rattle.script_steps.specs.declared.fault.ScriptFault.{ScriptFault}
use Rattle.script_steps.specs.declared.fault.ScriptFault.TheVariants.{BadLine, NoMemory}
use Rattle.script_steps.specs.Lines.{lines, split_words}
use Rattle.script_steps.specs.Script.{numbered, script_from, AnswersScript, FollowsLine}

-- the whole is what the rest tells behind p
pub record IsAt {P A : Type 0} (after : P → List (List ℕ) → Result P Cause) (ends : ℕ → P → Result A ScriptFault) (whole : Result A ScriptFault) (number : ℕ) (p : P) (rest : List ℕ) : Type 0 where
  pub whole_is : script_from after ends number p (lines rest) ≡ whole
  pub count : number + length rest ≤ 1048577

one_line : {P A : Type 0} (after : P → List (List ℕ) → Result P Cause) (ends : ℕ → P → Result A ScriptFault) (n : ℕ) (p : P) (line rest new : List ℕ) (r : Result P Cause)
    → lines rest ≡ line ∷ lines new → after p (split_words line) ≡ r → script_from after ends n p (lines rest) ≡ numbered n (λ p. script_from after ends (n + 1) p (lines new)) r
one_line after ends n p line rest new r next e = ap (script_from after ends n p) next ∙ ap (numbered n (λ p. script_from after ends (n + 1) p (lines new))) e

pub goes_on : {P A : Type 0} (after : P → List (List ℕ) → Result P Cause) (ends : ℕ → P → Result A ScriptFault) (whole : Result A ScriptFault) (n : ℕ) (p q : P) (line rest new : List ℕ)
    → IsAt after ends whole n p rest → lines rest ≡ line ∷ lines new → length new < length rest → FollowsLine (after p (split_words line)) n (Ok tt) q → IsAt after ends whole (n + 1) q new
goes_on after ends whole n p q line rest new at next shorter led = record {
  whole_is = sym (one_line after ends n p line rest new (Ok q) next led) ∙ at.whole_is;
  count = let room : n + length rest ≤ 1048577 = at.count in omega arith;
}

pub is_refused : {P A : Type 0} (after : P → List (List ℕ) → Result P Cause) (ends : ℕ → P → Result A ScriptFault) (whole : Result A ScriptFault) (n : ℕ) (p q : P) (line rest new : List ℕ) (fault : ScriptFault)
    → IsAt after ends whole n p rest → lines rest ≡ line ∷ lines new → FollowsLine (after p (split_words line)) n (Err fault) q → AnswersScript (Err fault) whole
is_refused after ends whole n p q line rest new (BadLine number cause) at next led =
    sym at.whole_is ∙ one_line after ends n p line rest new (Err cause) next led.1 ∙ ap (λ m. Err (BadLine m cause)) (sym led.0)
is_refused after ends whole n p q line rest new NoMemory at next led = tt

pub is_over : {P A : Type 0} (after : P → List (List ℕ) → Result P Cause) (ends : ℕ → P → Result A ScriptFault) (whole : Result A ScriptFault) (n : ℕ) (p : P) (rest : List ℕ)
    → IsAt after ends whole n p rest → lines rest ≡ [] → whole ≡ ends n p
is_over after ends whole n p rest at none = sym at.whole_is ∙ ap (script_from after ends n p) none

-- the first line feed, or the end if there is none
pub found-end : (bs : List ℕ) (n : ℕ) → IsFirstByte (is_byte 10) bs (Some n) → n ≡ prefix_len (λ b. not (b == 10)) bs
found-end bs n found =
    let below : n < length bs = found.0.high in
    sym (prefix_len_is (λ b. not (b == 10)) bs n 0 (omega (arith, below)) (λ k lt. ap not (false_from_ne_true _ (found.0.before k (omega arith) lt))) (λ _. ap not found.1))

pub no-end : (bs : List ℕ) → IsFirstByte (is_byte 10) bs None → length bs ≡ prefix_len (λ b. not (b == 10)) bs
no-end bs none = sym (prefix_len_is (λ b. not (b == 10)) bs (length bs) 0 (omega arith) (λ k lt. ap not (false_from_ne_true _ (none k (omega arith) lt))) (λ lt. absurd (omega (arith, lt))))
