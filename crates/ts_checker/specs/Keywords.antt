-- The keywords of the language and those that descriptions refuse as names.
use Rattle.std.specs.Prelude.{◌≡◌, map}
use Rattle.vm_shape.specs.Names as machine
use Rattle.ts_trees.specs.Text.{token_text}
use Rattle.ts_trees.specs.Cut as script

abbrev pub KeywordsAreTheSame : Type 0
KeywordsAreTheSame = map token_text script.keywords ≡ machine.reserved_words
