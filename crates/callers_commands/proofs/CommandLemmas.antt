-- What is read of words that say a line.
use Rattle.std.proofs.Common.{◌≡◌, List, Ok, Err, codes, refl, sym, ap, subst, ◌∙◌}
use Rattle.std.specs.Prelude.{Result, MatchResult}
use Rattle.clap.specs.Words.{Text}
use Rattle.command_line.specs.Words.{Line, IsLine, ReadsLine, is_given, rows_in}
use Rattle.command_line.specs.declared.words.CommandLine.{CommandLine}
use Rattle.command_line.specs.declared.words.WordsFault.{WordsFault}
use Rattle.command_line.specs.declared.words.WordsFault.TheVariants.{NotTaken, NoMemory}

-- the line is read, or memory was refused
pub brief_is : (words wanted : List Text) (line : Line) (result : Result CommandLine WordsFault) → words ≡ wanted → IsLine wanted line → ReadsLine words result
    → MatchResult result (λ read. read.brief ≡ line.brief) (λ fault. fault ≡ NoMemory)
brief_is words wanted line (Ok read) is told reads = reads.brief ∙ ap (λ (ws : List Text). is_given (codes "brief") (rows_in ws)) is ∙ sym told.brief
brief_is words wanted line (Err NotTaken) is told reads = absurd (reads line (subst (λ (ws : List Text). IsLine ws line) (sym is) told))
brief_is words wanted line (Err NoMemory) is told reads = refl
