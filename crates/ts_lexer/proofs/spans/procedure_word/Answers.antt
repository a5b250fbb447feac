use Rattle.std.proofs.Common.{List, [], ◌∷◌, sym, ◌∙◌, ap}
use Rattle.ts_trees.specs.declared.token.TokenKind.{TokenKind}
use Rattle.ts_trees.specs.declared.token.TokenKind.TheVariants as kind
use Rattle.ts_trees.specs.Cut.{keyword_among}
use Rattle.ts_lexer.proofs.WordLemmas.{among_none, unlike}
use Rattle.ts_lexer.proofs.spans.procedure_word.Goals as goal

abbrev more : List TokenKind
more = kind.Proc ∷ kind.Do ∷ []

pub returns-in-proc : goal.returns-in-proc
returns-in-proc c = sym (ap (keyword_among more) c.in-proc.is)

pub returns-in-do : goal.returns-in-do
returns-in-do c = sym (ap (keyword_among more) c.in-do.is)

pub returns-in_default : goal.returns-in_default
returns-in_default c =
    c.name.ensures ∙ sym (among_none more c.args.text.now (unlike c.args.text.now _ c.in_default.not-proc, (unlike c.args.text.now _ c.in_default.not-do, tt)))
