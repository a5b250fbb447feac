use Rattle.std.proofs.Common.{ℕ, refl, sym, ◌∙◌, ap}
use Rattle.ts_trees.specs.declared.token.TokenKind.TheVariants as kind
use Rattle.ts_trees.specs.Cut.{word_kind, keywords, keyword_among, kind_in}
use Rattle.ts_lexer.proofs.WordLemmas.{of_length, among_its_length, among_none, unlike, same_in}
use Rattle.ts_lexer.proofs.spans.word_of_2.Goals as goal

pub returns-in-if : goal.returns-in-if
unfolding word_kind
returns-in-if c = same_in c.args.dialect kind.If refl ∙ sym (ap (λ w. kind_in c.args.dialect (word_kind w)) c.in-if.is)

pub returns-in-to : goal.returns-in-to
unfolding word_kind
returns-in-to c = same_in c.args.dialect kind.To refl ∙ sym (ap (λ w. kind_in c.args.dialect (word_kind w)) c.in-to.is)

pub returns-in-or : goal.returns-in-or
unfolding word_kind
returns-in-or c = same_in c.args.dialect kind.Or refl ∙ sym (ap (λ w. kind_in c.args.dialect (word_kind w)) c.in-or.is)

pub returns-in_default : goal.returns-in_default
unfolding word_kind
returns-in_default c =
    c.own_word.ensures ∙ sym (ap (kind_in c.args.dialect) (among_its_length keywords c.args.text.now
    ∙ ap (λ (n : ℕ). keyword_among (of_length n keywords) c.args.text.now) c.requires
    ∙ among_none (of_length 2 keywords) c.args.text.now (unlike c.args.text.now _ c.in_default.not-if, (unlike c.args.text.now _ c.in_default.not-to, (unlike c.args.text.now _ c.in_default.not-or, tt)))))
