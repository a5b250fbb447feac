use Rattle.std.proofs.Common.{ℕ, refl, sym, ◌∙◌, ap}
use Rattle.ts_trees.specs.declared.token.TokenKind.TheVariants as kind
use Rattle.ts_trees.specs.Cut.{word_kind, keywords, keyword_among, kind_in}
use Rattle.ts_lexer.proofs.WordLemmas.{of_length, among_its_length, among_none, unlike, same_in}
use Rattle.ts_lexer.proofs.spans.word_of_3.Goals as goal

pub returns-in-end : goal.returns-in-end
unfolding word_kind
returns-in-end c = same_in c.args.dialect kind.End refl ∙ sym (ap (λ w. kind_in c.args.dialect (word_kind w)) c.in-end.is)

pub returns-in-for : goal.returns-in-for
unfolding word_kind
returns-in-for c = same_in c.args.dialect kind.For refl ∙ sym (ap (λ w. kind_in c.args.dialect (word_kind w)) c.in-for.is)

pub returns-in-and : goal.returns-in-and
unfolding word_kind
returns-in-and c = same_in c.args.dialect kind.And refl ∙ sym (ap (λ w. kind_in c.args.dialect (word_kind w)) c.in-and.is)

pub returns-in-not : goal.returns-in-not
unfolding word_kind
returns-in-not c = same_in c.args.dialect kind.Not refl ∙ sym (ap (λ w. kind_in c.args.dialect (word_kind w)) c.in-not.is)

pub returns-in-msg : goal.returns-in-msg
unfolding word_kind
returns-in-msg c = same_in c.args.dialect kind.Msg refl ∙ sym (ap (λ w. kind_in c.args.dialect (word_kind w)) c.in-msg.is)

pub returns-in_default : goal.returns-in_default
unfolding word_kind
returns-in_default c =
    c.own_word.ensures ∙ sym (ap (kind_in c.args.dialect) (among_its_length keywords c.args.text.now
    ∙ ap (λ (n : ℕ). keyword_among (of_length n keywords) c.args.text.now) c.requires
    ∙ among_none (of_length 3 keywords) c.args.text.now (unlike c.args.text.now _ c.in_default.not-end, (unlike c.args.text.now _ c.in_default.not-for, (unlike c.args.text.now _ c.in_default.not-and, (unlike c.args.text.now _ c.in_default.not-not, (unlike c.args.text.now _ c.in_default.not-msg, tt)))))))
