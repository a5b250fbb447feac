-- A line of a node script, and its end.
use Rattle.std.proofs.Common.{◌≡◌, ℕ, ◌+◌, ◌<◌, ◌≤◌, Bool, true, false, ◌==◌, ◌&&◌, List, [], ◌∷◌, length, replicate, None, Result, Ok, Err, OnOk, IfOk, IfErr, lit<, refl, sym, ◌∙◌, ap, subst, arith}
use Rattle.std.specs.List.{list_all}
use Rattle.std.specs.Str.{bytes_eq}
use Rattle.std.specs.Prelude.{codes}
use Rattle.std.proofs.lemmas.Bool.{and_parts, eqb-true}
use Rattle.mate_num.specs.Results.{result_map}
use Rattle.vm_shape.specs.declared.description.Description.{Description}
use Rattle.script_steps.specs.declared.fault.Cause.{Cause}
use Rattle.script_steps.specs.declared.fault.ScriptFault.{ScriptFault}
use Rattle.script_steps.specs.declared.fault.ScriptFault.TheVariants.{BadLine, NoMemory}
use Rattle.script_steps.specs.Lines.{lines, split_words, is_skipped}
use Rattle.script_steps.specs.Script.{FollowsLine}
use Rattle.script_steps.specs.declared.steps.Step.{Step}
use Rattle.script_steps.specs.Steps.{IsRightStep, IsRightSteps}
use Rattle.script_steps.specs.declared.fault.Cause.TheVariants.{Word}
use Rattle.script_steps.specs.Words.{TakenWords, ReadsWords, and_then, ◌>>=◌, give, a_word, nothing_more, is_printable}
use Rattle.script_steps.specs.NodeScript.{Said, Progress, behind, behind_others, a_line, with_said, after_line, nothing_yet, node_script_in}
use Rattle.script_steps.specs.NodeReader.{files_after, IsNewer, IsRightSaid, KeepsProgress}
use Rattle.script_steps.proofs.LineLemmas.{IsAt, goes_on}
use Rattle.script_steps.proofs.StepLemmas.{keeps_more, keeps_nothing, length-with_file, few_files}

-- what a line's end leaves
pub record IsLineEnd (d : Description) (n : ℕ) (old new : Progress) (words : List (List ℕ)) (r : Result (Unit {0}) ScriptFault) : Type 0 where
  pub value : FollowsLine (after_line d old words) n r new
  pub files : OnOk r (length new.script.files ≤ n)
  pub keeps : OnOk r (KeepsProgress d new)

pub line_added : (d : Description) (n : ℕ) (old new : Progress) (words rest : List (List ℕ)) (said : Said) (r : Result (Unit {0}) ScriptFault) → length old.script.files < n → KeepsProgress d old
    → is_skipped words ≡ false → a_line d old.newest (length old.script.files) words ≡ Ok (record { value = said; rest = rest }) → IsRightSaid d old.newest (length old.script.files) said
    → OnOk r (new ≡ with_said old said) → IfErr r (λ fault. fault ≡ NoMemory) → IsLineEnd d n old new words r
unfolding after_line
line_added d n old new words rest said (Ok u) few k skip read right adds refused =
    let P : Progress → Type 0 = λ p. KeepsProgress d p in
    let len : length new.script.files ≡ files_after (length old.script.files) said.file = ap (λ (p : Progress). length p.script.files) adds ∙ length-with_file old.script.files said.file in
    record {
      value = rw skip (ap (result_map (λ (t : TakenWords Said). with_said old t.value)) read ∙ ap (λ p. Ok p) (sym adds));
      files = omega (arith, len, few_files (length old.script.files) said.file);
      keeps = subst P (sym adds) (keeps_more d old said k right);
    }
line_added d n old new words rest said (Err (BadLine line cause)) few k skip read right adds refused = absurd (let e : BadLine line cause ≡ NoMemory = refused in cc)
line_added d n old new words rest said (Err NoMemory) few k skip read right adds refused = record { value = tt; files = tt; keeps = tt }

-- the state before the first line
same_start : (p : Progress) → p.script.steps ≡ [] → p.script.files ≡ [] → p.newest ≡ replicate 8 0 → p ≡ nothing_yet
same_start p steps files newest =
    ap (λ s. record { script = record { steps = s; files = p.script.files }; newest = p.newest }) steps
    ∙ ap (λ f. record { script = record { steps = []; files = f }; newest = p.newest }) files
    ∙ ap (λ n. record { script = record { steps = []; files = [] }; newest = n }) newest

-- where the reader of a node script is
pub record IsAtLine (d : Description) (bytes : List ℕ) (number : ℕ) (p : Progress) (rest : List ℕ) : Type 0 where
  pub at : IsAt (after_line d) (λ number p. Ok p.script) (node_script_in d bytes) number p rest
  pub files : length p.script.files < number
  pub keeps : KeepsProgress d p

pub at_start : (d : Description) (bytes : List ℕ) (p : Progress) → p.script.steps ≡ [] → p.script.files ≡ [] → p.newest ≡ replicate 8 0 → length bytes ≤ 1048576 → IsAtLine d bytes 1 p bytes
unfolding node_script_in
at_start d bytes p steps files newest small =
    let P : Progress → Type 0 = λ p. IsAtLine d bytes 1 p bytes in
    let begun : IsAtLine d bytes 1 nothing_yet bytes = record { at = record { whole_is = refl; count = omega arith }; files = lit< tt; keeps = keeps_nothing d } in
    subst P (sym (same_start p steps files newest)) begun

pub at_next : (d : Description) (bytes : List ℕ) (n : ℕ) (p after : Progress) (line rest new : List ℕ) → IsAtLine d bytes n p rest → lines rest ≡ line ∷ lines new → length new < length rest
    → FollowsLine (after_line d p (split_words line)) n (Ok tt) after → length after.script.files ≤ n → KeepsProgress d after → IsAtLine d bytes (n + 1) after new
at_next d bytes n p after line rest new at next shorter ended few keeps = record {
  at = goes_on (after_line d) (λ number p. Ok p.script) (node_script_in d bytes) n p after line rest new at.at next shorter ended;
  files = omega arith;
  keeps = keeps;
}

pub right_at : (d : Description) (p : Progress) → KeepsProgress d p → IsRightSteps d p.script
right_at d p keeps = record { each = keeps.each; rising = keeps.rising }

-- ---- what a line says, where the newest versions and the number of files play no part

pub right_with : (d : Description) (said : Said) (r : Result (Unit {0}) Cause) (newest : List ℕ) (files : ℕ) → IfOk r (λ _. (newest : List ℕ) (files : ℕ) → IsRightSaid d newest files said)
    → IfOk r (λ _. IsRightSaid d newest files said)
right_with d said (Ok u) newest files h = h newest files
right_with d said (Err cause) newest files h = tt

pub right_load : (d : Description) (said : Said) (r : Result (Unit {0}) Cause) (newest : List ℕ) (files : ℕ) → IfOk r (λ _. (d : Description) (newest : List ℕ) → IsRightSaid d newest files said)
    → IfOk r (λ _. IsRightSaid d newest files said)
right_load d said (Ok u) newest files h = h d newest
right_load d said (Err cause) newest files h = tt

-- a step that names no file and is no install
pub right_alone : (d : Description) (step : Step) (said : Said) → said ≡ record { step = step; file = None } → ((files : ℕ) → IsRightStep d files step) → ((newest : List ℕ) → IsNewer newest step)
    → (newest : List ℕ) (files : ℕ) → IsRightSaid d newest files said
right_alone d step said is right newer newest files =
    let P : Said → Type 0 = λ s. IsRightSaid d newest files s in subst P (sym is) record { right = right files; newer = newer newest }

-- ---- a word that isn't printable begins no line

other-text : (w text : List ℕ) → list_all is_printable w ≡ false → list_all is_printable text ≡ true → bytes_eq w text ≡ false
other-text [] text odd plain = absurd (let f : true ≡ false = odd in cc)
other-text (b ∷ w) [] odd plain = refl
other-text (b ∷ w) (t ∷ text) odd plain = by (b == t) refl (λ rest. other-text w text rest parts.1)
  where
    parts : (is_printable t ≡ true) × (list_all is_printable text ≡ true)
    parts = and_parts (is_printable t) (list_all is_printable text) plain

    by : (e : Bool) → (b == t) ≡ e → (list_all is_printable w ≡ false → bytes_eq w text ≡ false) → ((b == t) && bytes_eq w text) ≡ false
    by false e later = rw e refl
    by true e later =
        let same : b ≡ t = eqb-true b t e in
        let rest : list_all is_printable w ≡ false = rw (same, parts.0) at odd in
        rw e (later rest)

no-line : (d : Description) (newest : List ℕ) (files : ℕ) (w : List ℕ) (words : List (List ℕ)) → list_all is_printable w ≡ false → behind d newest files w words ≡ Err Word
unfolding behind behind_others
no-line d newest files w words odd =
    rw (
      other-text w (codes "install") odd refl,
      other-text w (codes "load") odd refl,
      other-text w (codes "post") odd refl,
      other-text w (codes "step") odd refl,
      other-text w (codes "run") odd refl,
      other-text w (codes "answer") odd refl,
      other-text w (codes "show") odd refl,
      other-text w (codes "reset") odd refl,
    ) refl

-- a line by what is behind its first word
line-behind : (d : Description) (newest : List ℕ) (files : ℕ) (w : List ℕ) (words : List (List ℕ))
    → a_line d newest files (w ∷ words) ≡ and_then (λ said. nothing_more >>= (λ ends. give said)) (behind d newest files w words)
unfolding a_line
line-behind d newest files w words = by (list_all is_printable w) refl
  where
    by : (b : Bool) → list_all is_printable w ≡ b → (a_word >>= (λ verb. behind d newest files verb >>= (λ said. nothing_more >>= (λ ends. give said)))) (w ∷ words)
        ≡ and_then (λ said. nothing_more >>= (λ ends. give said)) (behind d newest files w words)
    by true e = rw e refl
    by false e = rw (e, no-line d newest files w words e) refl

pub line-refused : (d : Description) (newest : List ℕ) (files : ℕ) (w : List ℕ) (words : List (List ℕ)) (cause : Cause) → behind d newest files w words ≡ Err cause
    → a_line d newest files (w ∷ words) ≡ Err cause
line-refused d newest files w words cause is = line-behind d newest files w words ∙ ap (and_then (λ said. nothing_more >>= (λ ends. give said))) is

pub line-read : (d : Description) (newest : List ℕ) (files : ℕ) (w : List ℕ) (words mid after : List (List ℕ)) (said : Said) (r : Result (Unit {0}) Cause)
    → behind d newest files w words ≡ Ok (record { value = said; rest = mid }) → ReadsWords (λ u. u) nothing_more mid r after
    → ReadsWords (λ _. said) (a_line d newest files) (w ∷ words) r after
line-read d newest files w words mid after said (Ok u) is ends =
    line-behind d newest files w words ∙ ap (and_then (λ said. nothing_more >>= (λ ends. give said))) is ∙ ap (and_then (λ (u : Unit {0}). give said)) ends
line-read d newest files w words mid after said (Err cause) is ends =
    line-behind d newest files w words ∙ ap (and_then (λ said. nothing_more >>= (λ ends. give said))) is ∙ ap (and_then (λ (u : Unit {0}). give said)) ends
