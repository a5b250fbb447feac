-- What the words of a line say.
use Rattle.std.specs.Prelude.{ℕ, List, Option}
use Rattle.std.specs.Option.{option_map}
use Rattle.vm_shape.specs.declared.description.Description.{Description}
use Rattle.report_line_reader.specs.Words.{words_of, reads}
use Rattle.report_line_reader.specs.Numbers.{unsigned_of}
use Rattle.report_line_reader.specs.Fields.{number_of, node_of}
use Rattle.report_line_reader.specs.declared.line.Told.{Told}
use Rattle.report_line_reader.specs.declared.line.Line.{Line}
use Rattle.report_line_reader.specs.declared.verb.Verb.{Verb}
use Rattle.report_line_reader.specs.Forms.{read_by}
use Rattle.report_line_reader.specs.Verbs.{verb_of, form_of}

-- by the verb, and the words after it
abbrev pub told_by : Description → Verb → List (List ℕ) → Option Told
told_by d v = read_by d (form_of v)

unfoldable pub told_of : Description → List (List ℕ) → Option Told
told_of d = reads verb_of (told_by d)

-- a line of these parts
abbrev pub line_with : ℕ → ℕ → ℕ → Told → Line
line_with event time node what = record { stamp = record { event = event; time = time }; node = node; told = what }

-- the line that bytes spell: the event, its time, the node and what happened
abbrev pub line_of_words : Description → List (List ℕ) → Option Line
line_of_words d =
    reads unsigned_of (λ event. reads number_of (λ time. reads node_of
    (λ node words. option_map (line_with event time node) (told_of d words))))

abbrev pub line_in : Description → List ℕ → Option Line
line_in d bytes = line_of_words d (words_of bytes)
