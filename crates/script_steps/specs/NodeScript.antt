-- The node script in bytes, line by line; if a line is refused, the first such line and its first cause.
use Rattle.std.specs.Prelude.{ℕ, if◌then◌else◌, List, [], ◌∷◌, ◌++◌, length, codes, slice_index, slice_set, replicate, Option, Some, None}
use Rattle.mate_num.specs.Results.{result_map}
use Rattle.std.specs.Prelude.{Result, Ok, Err}
use Rattle.mate_num.specs.declared.bounds.TheConstants.{HANDLERS_MAX}
use Rattle.mate_num.specs.Lists.{lookup_or}
use Rattle.vm_shape.specs.declared.description.Description.{Description}
use Rattle.script_steps.specs.declared.fault.Cause.{Cause}
use Rattle.script_steps.specs.declared.fault.Cause.TheVariants.{Word, Range}
use Rattle.script_steps.specs.declared.fault.ScriptFault.{ScriptFault}
use Rattle.script_steps.specs.declared.steps.Step.{Step}
use Rattle.script_steps.specs.declared.steps.Step.TheVariants as step
use Rattle.script_steps.specs.Lines.{lines, is_skipped}
use Rattle.script_steps.specs.Script.{script_from}
use Rattle.script_steps.specs.Words.{WordReading, ◌>>=◌, give, found, a_word, nothing_more, a_number, a_value, a_payload, a_handler}
use Rattle.script_steps.specs.Words.{a_version, a_context}
use Rattle.script_steps.specs.Steps.{NodeScript}

-- what a line says: a step, and the name of its file
pub record Said : Type 0 where
  pub step : Step
  pub file : Option (List ℕ)

-- `install HANDLER VERSION FILE`, with the newest version of each handler and the number of files before the line
unfoldable pub an_install : Description → List ℕ → ℕ → WordReading Said
an_install d newest files = do
  handler ← a_handler d
  version ← a_version (slice_index newest handler.0)
  file ← a_word
  give (record { step = step.Install handler version files; file = Some file })

-- `load FILE`
unfoldable pub a_load : ℕ → WordReading Said
a_load files = do
  file ← a_word
  give (record { step = step.Load files; file = Some file })

-- `post HANDLER V ..`
unfoldable pub a_post : Description → WordReading Said
a_post d = do
  handler ← a_handler d
  payload ← a_payload
  give (record { step = step.Post handler payload; file = None })

-- `step CTX N`
unfoldable pub a_step : Description → WordReading Said
a_step d = do
  ctx ← a_context d
  n ← a_number 1 1000000 Range
  give (record { step = step.Step ctx n; file = None })

-- `answer CTX V`
unfoldable pub an_answer : Description → WordReading Said
an_answer d = do
  ctx ← a_context d
  value ← a_value
  give (record { step = step.Answer ctx value; file = None })

-- `run`, `show` and `reset`
abbrev pub alone : Step → WordReading Said
alone s = give (record { step = s; file = None })

-- what is after the first words of the lines that name no file, no handler and no number of instructions
unfoldable pub behind_others : Description → List ℕ → WordReading Said
behind_others d verb = lookup_or (found (Err Word)) verb
    ((codes "run", alone step.Run) ∷ (codes "answer", an_answer d)
    ∷ (codes "show", alone step.Show) ∷ (codes "reset", alone step.Reset) ∷ [])

-- what is after a line's first word
unfoldable pub behind : Description → List ℕ → ℕ → List ℕ → WordReading Said
behind d newest files verb = lookup_or (behind_others d verb) verb
    ((codes "install", an_install d newest files) ∷ (codes "load", a_load files)
    ∷ (codes "post", a_post d) ∷ (codes "step", a_step d) ∷ [])

-- a whole line
unfoldable pub a_line : Description → List ℕ → ℕ → WordReading Said
a_line d newest files = do
  verb ← a_word
  said ← behind d newest files verb
  ends ← nothing_more
  give said

-- the script so far, and the newest version of each handler, 0 for none
pub record Progress : Type 0 where
  pub script : NodeScript
  pub newest : List ℕ

abbrev pub with_file : List (List ℕ) → Option (List ℕ) → List (List ℕ)
with_file files None = files
with_file files (Some file) = files ++ file ∷ []

abbrev pub newest_after : List ℕ → Step → List ℕ
newest_after newest (step.Install handler version program) = slice_set newest handler.0 version
newest_after newest _ = newest

abbrev pub with_said : Progress → Said → Progress
with_said p said = record {
  script = record { steps = p.script.steps ++ said.step ∷ []; files = with_file p.script.files said.file };
  newest = newest_after p.newest said.step;
}

-- the progress after a line
unfoldable pub after_line : Description → Progress → List (List ℕ) → Result Progress Cause
after_line d p words =
    if is_skipped words then Ok p
    else result_map (λ t. with_said p t.value) (a_line d p.newest (length p.script.files) words)

abbrev pub nothing_yet : Progress
nothing_yet = record { script = record { steps = []; files = [] }; newest = replicate HANDLERS_MAX 0 }

-- the script in the bytes
unfoldable pub node_script_in : Description → List ℕ → Result NodeScript ScriptFault
node_script_in d bytes = script_from (after_line d) (λ number p. Ok p.script) 1 nothing_yet (lines bytes)
