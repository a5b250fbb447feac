-- Why a text spells no script, as the program reports it.
use Rattle.std.specs.Prelude.{ℕ, List, codes}
use Rattle.command_refusals.specs.LineEnds.{number_line}
use Rattle.command_refusals.specs.declared.spelling_cause.SpellingCause.{SpellingCause}
use Rattle.command_refusals.specs.declared.spelling_cause.SpellingCause.TheVariants.{BadByte, BigLiteral, Unexpected, TooDeep}

abbrev pub spelling_words : SpellingCause → List ℕ
spelling_words (BadByte place) = number_line (codes "byte ") place
spelling_words (BigLiteral place) = number_line (codes "literal ") place
spelling_words (Unexpected place) = number_line (codes "unexpected ") place
spelling_words (TooDeep place) = number_line (codes "deep ") place
