use Rattle.std.proofs.Common.{◌≡◌, Some, None, ap, sym, ◌∙◌, rules}
use Rattle.clap.specs.Words.{found_of}
use Rattle.clap.specs.declared.parser.matches.ValueSource.TheVariants.{CommandLine as FromWords, DefaultValue}
use Rattle.command_line.specs.Words.{is_from_words}
use Rattle.command_line.proofs.RowLemmas.{source-row}
use Rattle.command_line.proofs.words.is_given.Goals as goal

pub returns-in-Some-CommandLine : goal.returns-in-Some-CommandLine
returns-in-Some-CommandLine c =
    let source : c.value_source.result ≡ Some FromWords = search rules in
    ap is_from_words (sym source ∙ c.value_source.ensures ∙ source-row (found_of c.args.matches.now) c.args.flag.now)

pub returns-in-Some-DefaultValue : goal.returns-in-Some-DefaultValue
returns-in-Some-DefaultValue c =
    let source : c.value_source.result ≡ Some DefaultValue = search rules in
    ap is_from_words (sym source ∙ c.value_source.ensures ∙ source-row (found_of c.args.matches.now) c.args.flag.now)

pub returns-in-None : goal.returns-in-None
returns-in-None c =
    let source : c.value_source.result ≡ None = search rules in
    ap is_from_words (sym source ∙ c.value_source.ensures ∙ source-row (found_of c.args.matches.now) c.args.flag.now)
