-- Why a source's text is refused, as the program reports it, apart from lack of memory.
use Rattle.std.specs.Prelude.{◌≡◌, ℕ, List, Err, codes}
use Rattle.vm_shape.specs.declared.description.Description.{Description}
use Rattle.ts_trees.specs.Cut.{cut, bad_byte, big_literal}
use Rattle.ts_checker.specs.Accepted.{IsMisspelled, IsSpelledTooDeep, IsChecked}
use Rattle.ts_checker.specs.declared.fault.CheckFault.TheVariants as check
use Rattle.ts_compiler.specs.declared.fault.CompileFault.{CompileFault}
use Rattle.ts_compiler.specs.declared.fault.CompileFault.TheVariants.{StackDepth, TooLong}
use Rattle.command_refusals.specs.LineEnds.{number_line, name_line, numbered_name_line}
use Rattle.command_refusals.specs.SpellingCauses.{spelling_words}
use Rattle.command_refusals.specs.declared.spelling_cause.SpellingCause.{SpellingCause}
use Rattle.command_refusals.specs.declared.spelling_cause.SpellingCause.TheVariants as spelling
use Rattle.command_refusals.specs.declared.source_cause.SourceCause.{SourceCause}
use Rattle.command_refusals.specs.declared.source_cause.SourceCause.TheVariants as cause

-- this is the first fault of the bytes' spelling
abbrev pub IsBadSpelling : List ℕ → SpellingCause → Type 0
IsBadSpelling bytes (spelling.BadByte place) = cut bytes ≡ Err (bad_byte place)
IsBadSpelling bytes (spelling.BigLiteral place) = cut bytes ≡ Err (big_literal place)
IsBadSpelling bytes (spelling.Unexpected place) = IsMisspelled bytes place
IsBadSpelling bytes (spelling.TooDeep place) = IsSpelledTooDeep bytes place

-- this is the first refusal of the bytes as a source for the machine
abbrev pub IsBadSource : Description → List ℕ → SourceCause → Type 0
IsBadSource d bytes (cause.Spelling why) = IsBadSpelling bytes why
IsBadSource d bytes (cause.Undeclared name place) = IsChecked d bytes (Err (check.Undeclared name place))
IsBadSource d bytes (cause.NotInVm name) = IsChecked d bytes (Err (check.NotInVm name))
IsBadSource d bytes (cause.Twice name) = IsChecked d bytes (Err (check.Twice name))
IsBadSource d bytes (cause.Kind place) = IsChecked d bytes (Err (check.Kind place))
IsBadSource d bytes (cause.Arity place) = IsChecked d bytes (Err (check.Arity place))
IsBadSource d bytes cause.TooManyPrivates = IsChecked d bytes (Err check.TooManyPrivates)

abbrev pub source_words : SourceCause → List ℕ
source_words (cause.Spelling why) = spelling_words why
source_words (cause.Undeclared name place) = numbered_name_line (codes "undeclared ") name place
source_words (cause.NotInVm name) = name_line (codes "notinvm ") name
source_words (cause.Twice name) = name_line (codes "twice ") name
source_words (cause.Kind place) = number_line (codes "kind ") place
source_words (cause.Arity place) = number_line (codes "arity ") place
source_words cause.TooManyPrivates = codes "privates\n"

-- a script that has no code
abbrev pub code_words : CompileFault → List ℕ
code_words (StackDepth need) = number_line (codes "depth ") need
code_words (TooLong size) = number_line (codes "size ") size
