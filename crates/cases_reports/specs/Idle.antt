-- Scripts that turn a context in which no invocation is.
use Rattle.std.specs.Prelude.{◌≡◌, [], All}
use Rattle.script_steps.specs.declared.steps.Step.{Step}
use Rattle.script_steps.specs.declared.steps.Step.TheVariants as step
use Rattle.script_steps.specs.Steps.{NodeScript}

-- a turn of one instruction in context 0, or a show
abbrev pub IsIdleStep : Step → Type 0
IsIdleStep (step.Step ctx n) = (ctx.0 ≡ 0) × (n ≡ 1)
IsIdleStep step.Show = Unit {0}
IsIdleStep _ = ⊥

pub record IsIdleScript (script : NodeScript) : Type 0 where
  pub files : script.files ≡ []
  pub each : All IsIdleStep script.steps
