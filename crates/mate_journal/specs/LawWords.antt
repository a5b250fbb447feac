-- The words of laws.
use Rattle.std.specs.Prelude.{ℕ, List, codes}
use Rattle.mate_journal.specs.declared.law.Law.{Law}
use Rattle.mate_journal.specs.declared.law.Law.TheVariants as law

-- the word for a law in a refusal
abbrev pub law_word : Law → List ℕ
law_word law.D7 = codes "d7"
law_word law.Image = codes "image"
law_word law.D8 = codes "d8"
law_word law.D9 = codes "d9"
law_word law.D10 = codes "d10"
law_word law.D11 = codes "d11"
