-- What a command owes: a text all of whose parts are at hand, or a run, whose report is written as its events end.
use Rattle.std.specs.Prelude.{◌≡◌, ℕ, Bool, true, List, Result}
use Rattle.command_documents.specs.declared.output.Run.{Run}
use Rattle.command_refusals.specs.declared.refusal.Refusal.{Refusal}
use Rattle.command_steps.specs.Steps.{obtained}

pub data Owed : Type 0 where
  -- a text; it isn't whole if it is the summary of a run that a full log ended
  a_text : (whole : Bool) → List ℕ → Owed
  a_run : Run → Owed

-- exactly this is owed
abbrev pub exactly : Owed → Result Owed Refusal → Type 0
exactly it = obtained (λ o. o ≡ it)

-- a document with this text is owed
abbrev pub writes : List ℕ → Result Owed Refusal → Type 0
writes bytes = exactly (a_text true bytes)
