-- The last line of a report: its text, and which one words spell.
use Rattle.std.specs.Prelude.{ℕ, ◌<◌, ◌^◌, Bool, true, false, if◌then◌else◌, List, ◌++◌, codes, Option, Some, None}
use Rattle.std.specs.Str.{bytes_eq}
use Rattle.report_writer.specs.Words.{number}
use Rattle.report_writer.specs.Text.{end_word}
use Rattle.report_line_reader.specs.Words.{words_of, reads, only_at_end}
use Rattle.report_line_reader.specs.Numbers.{unsigned_of}
use Rattle.report_text.specs.declared.last_line.LastLine.{LastLine}

-- the words of a last line, as they are written, without the LF at its end
abbrev pub last_words : LastLine → List ℕ
last_words e = end_word e.whole ++ number e.records ++ number e.events ++ number e.nodes

-- the line's text
abbrev pub last_text : LastLine → List ℕ
last_text e = last_words e ++ codes "\n"

-- its numbers are in the ranges of their types
pub record HasLastRanges (e : LastLine) : Type 0 where
  pub records : e.records < 2 ^ 64
  pub events : e.events < 2 ^ 64
  pub nodes : e.nodes < 2 ^ 64

abbrev pub is_whole_word : List ℕ → Option Bool
is_whole_word word = if bytes_eq (codes "end") word then Some true else if bytes_eq (codes "full") word then Some false else None

-- a last line of these parts
abbrev pub last_with : Bool → ℕ → ℕ → ℕ → LastLine
last_with whole records events nodes = record { whole = whole; records = records; events = events; nodes = nodes }

-- the last line that words spell
abbrev pub last_of_words : List (List ℕ) → Option LastLine
last_of_words =
    reads is_whole_word (λ whole. reads unsigned_of (λ records. reads unsigned_of (λ events. reads unsigned_of (λ nodes.
    only_at_end (last_with whole records events nodes)))))

-- the last line that bytes spell
abbrev pub last_in : List ℕ → Option LastLine
last_in bytes = last_of_words (words_of bytes)
