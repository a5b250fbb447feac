-- A line of a world's script, and its end.
use Rattle.std.proofs.Common.{◌≡◌, ℕ, ◌+◌, ◌<◌, ◌≤◌, false, List, [], ◌∷◌, length, Result, Ok, Err, OnOk, IfErr, lit<, refl, sym, ◌∙◌, ap, subst, arith, length-append}
use Rattle.vm_shape.specs.declared.description.Description.{Description}
use Rattle.script_steps.specs.declared.fault.ScriptFault.{ScriptFault}
use Rattle.script_steps.specs.declared.fault.ScriptFault.TheVariants.{BadLine, NoMemory}
use Rattle.script_steps.specs.Lines.{lines, split_words, is_skipped}
use Rattle.script_steps.specs.Script.{FollowsLine}
use Rattle.script_steps.proofs.LineLemmas.{IsAt, goes_on}
use Rattle.script_steps.proofs.StepLemmas.{length-with_file, few_files}
use Rattle.script_reader.specs.WorldLines.{WorldSaid, SaysNodes, SaysRandom, SaysUntil, SaysSuppress, SaysLink, SaysSeries, SaysPlanned, WorldProgress, a_world_line}
use Rattle.script_reader.specs.WorldScript.{with_told, when_told, after_world_line, no_world, world_at_end, world_script_in}
use Rattle.script_reader.specs.Draft.{KeepsWorld, IsRightWorldSaid}
use Rattle.script_reader.proofs.KeepsLemmas.{keeps_told, keeps_no_world}

-- what was planned and named before a line with a number
pub record IsBefore (n : ℕ) (p : WorldProgress) : Type 0 where
  pub events : length p.world.events < n
  pub files : length p.world.files < n

-- one line adds one event and one file at most
pub grown : (n : ℕ) (p : WorldProgress) (said : WorldSaid) → IsBefore n p → (length (with_told p said).world.events ≤ n) × (length (with_told p said).world.files ≤ n)
grown n p (SaysPlanned e file) b =
    (omega (arith, b.events, length-append p.world.events (e ∷ [])), omega (arith, b.files, length-with_file p.world.files file, few_files (length p.world.files) file))
grown n p _ b = (omega (arith, b.events), omega (arith, b.files))

-- what a line's end leaves
pub record IsWorldLineEnd (d : Description) (n : ℕ) (old new : WorldProgress) (words : List (List ℕ)) (r : Result (Unit {0}) ScriptFault) : Type 0 where
  pub value : FollowsLine (after_world_line d old words) n r new
  pub count : OnOk r (length new.world.events ≤ n)
  pub files : OnOk r (length new.world.files ≤ n)
  pub keeps : OnOk r (KeepsWorld d new)

pub line_told : (d : Description) (n : ℕ) (old new : WorldProgress) (words rest : List (List ℕ)) (said : WorldSaid) (r : Result (Unit {0}) ScriptFault) → IsBefore n old → KeepsWorld d old
    → is_skipped words ≡ false → a_world_line d old words ≡ Ok (record { value = said; rest = rest }) → IsRightWorldSaid d old said → OnOk r (new ≡ with_told old said) → IfErr r (λ fault. fault ≡ NoMemory)
    → IsWorldLineEnd d n old new words r
unfolding after_world_line
line_told d n old new words rest said (Ok u) before k skip read right adds refused =
    let P : WorldProgress → Type 0 = λ p. KeepsWorld d p in
    let more = grown n old said before in
    let events : length new.world.events ≡ length (with_told old said).world.events = ap (λ (p : WorldProgress). length p.world.events) adds in
    let files : length new.world.files ≡ length (with_told old said).world.files = ap (λ (p : WorldProgress). length p.world.files) adds in
    record {
      value = rw skip (ap (when_told old) read ∙ ap (λ p. Ok p) (sym adds));
      count = omega (arith, more.0, events);
      files = omega (arith, more.1, files);
      keeps = subst P (sym adds) (keeps_told d old said k right);
    }
line_told d n old new words rest said (Err (BadLine line cause)) before k skip read right adds refused = absurd (let e : BadLine line cause ≡ NoMemory = refused in cc)
line_told d n old new words rest said (Err NoMemory) before k skip read right adds refused = record { value = tt; count = tt; files = tt; keeps = tt }

-- where the reader of a world's script is
pub record IsAtWorldLine (d : Description) (bytes : List ℕ) (number : ℕ) (p : WorldProgress) (rest : List ℕ) : Type 0 where
  pub at : IsAt (after_world_line d) (λ number (p : WorldProgress). world_at_end p.stage number p) (world_script_in d bytes) number p rest
  pub before : IsBefore number p
  pub keeps : KeepsWorld d p

pub world_at_start : (d : Description) (bytes : List ℕ) (p : WorldProgress) → p ≡ no_world → length bytes ≤ 1048576 → IsAtWorldLine d bytes 1 p bytes
unfolding world_script_in
world_at_start d bytes p e small =
    let P : WorldProgress → Type 0 = λ p. IsAtWorldLine d bytes 1 p bytes in
    let begun : IsAtWorldLine d bytes 1 no_world bytes = record { at = record { whole_is = refl; count = omega arith }; before = record { events = lit< tt; files = lit< tt }; keeps = keeps_no_world d } in
    subst P (sym e) begun

pub world_at_next : (d : Description) (bytes : List ℕ) (n : ℕ) (p after : WorldProgress) (line rest new : List ℕ) → IsAtWorldLine d bytes n p rest → lines rest ≡ line ∷ lines new → length new < length rest
    → FollowsLine (after_world_line d p (split_words line)) n (Ok tt) after → length after.world.events ≤ n → length after.world.files ≤ n → KeepsWorld d after → IsAtWorldLine d bytes (n + 1) after new
world_at_next d bytes n p after line rest new at next shorter ended events files keeps = record {
  at = goes_on (after_world_line d) (λ number (p : WorldProgress). world_at_end p.stage number p) (world_script_in d bytes) n p after line rest new at.at next shorter ended;
  before = record { events = omega arith; files = omega arith };
  keeps = keeps;
}
