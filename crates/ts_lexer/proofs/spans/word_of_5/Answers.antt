use Rattle.std.proofs.Common.{ℕ, refl, sym, ◌∙◌, ap}
use Rattle.ts_trees.specs.declared.token.TokenKind.TheVariants as kind
use Rattle.ts_trees.specs.Cut.{word_kind, keywords, keyword_among, kind_in}
use Rattle.ts_lexer.proofs.WordLemmas.{of_length, among_its_length, among_none, unlike, same_in}
use Rattle.ts_lexer.proofs.spans.word_of_5.Goals as goal

pub returns-in-while : goal.returns-in-while
unfolding word_kind
returns-in-while c = same_in c.args.dialect kind.While refl ∙ sym (ap (λ w. kind_in c.args.dialect (word_kind w)) c.in-while.is)

pub returns-in-clear : goal.returns-in-clear
unfolding word_kind
returns-in-clear c = same_in c.args.dialect kind.Clear refl ∙ sym (ap (λ w. kind_in c.args.dialect (word_kind w)) c.in-clear.is)

pub returns-in_default : goal.returns-in_default
unfolding word_kind
returns-in_default c =
    c.own_word.ensures ∙ sym (ap (kind_in c.args.dialect) (among_its_length keywords c.args.text.now
    ∙ ap (λ (n : ℕ). keyword_among (of_length n keywords) c.args.text.now) c.requires
    ∙ among_none (of_length 5 keywords) c.args.text.now (unlike c.args.text.now _ c.in_default.not-while, (unlike c.args.text.now _ c.in_default.not-clear, tt))))
