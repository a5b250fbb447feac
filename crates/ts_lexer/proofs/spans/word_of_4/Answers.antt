use Rattle.std.proofs.Common.{ℕ, refl, sym, ◌∙◌, ap}
use Rattle.ts_trees.specs.declared.token.TokenKind.TheVariants as kind
use Rattle.ts_trees.specs.Cut.{word_kind, keywords, keyword_among, kind_in}
use Rattle.ts_lexer.proofs.WordLemmas.{of_length, among_its_length, among_none, unlike, same_in}
use Rattle.ts_lexer.proofs.spans.word_of_4.Goals as goal

pub returns-in-then : goal.returns-in-then
unfolding word_kind
returns-in-then c = same_in c.args.dialect kind.Then refl ∙ sym (ap (λ w. kind_in c.args.dialect (word_kind w)) c.in-then.is)

pub returns-in-else : goal.returns-in-else
unfolding word_kind
returns-in-else c = same_in c.args.dialect kind.Else refl ∙ sym (ap (λ w. kind_in c.args.dialect (word_kind w)) c.in-else.is)

pub returns-in-step : goal.returns-in-step
unfolding word_kind
returns-in-step c = same_in c.args.dialect kind.Step refl ∙ sym (ap (λ w. kind_in c.args.dialect (word_kind w)) c.in-step.is)

pub returns-in-next : goal.returns-in-next
unfolding word_kind
returns-in-next c = same_in c.args.dialect kind.Next refl ∙ sym (ap (λ w. kind_in c.args.dialect (word_kind w)) c.in-next.is)

pub returns-in-size : goal.returns-in-size
unfolding word_kind
returns-in-size c = same_in c.args.dialect kind.Size refl ∙ sym (ap (λ w. kind_in c.args.dialect (word_kind w)) c.in-size.is)

pub returns-in_default : goal.returns-in_default
unfolding word_kind
returns-in_default c =
    c.own_word.ensures ∙ sym (ap (kind_in c.args.dialect) (among_its_length keywords c.args.text.now
    ∙ ap (λ (n : ℕ). keyword_among (of_length n keywords) c.args.text.now) c.requires
    ∙ among_none (of_length 4 keywords) c.args.text.now (unlike c.args.text.now _ c.in_default.not-then, (unlike c.args.text.now _ c.in_default.not-else, (unlike c.args.text.now _ c.in_default.not-step, (unlike c.args.text.now _ c.in_default.not-next, (unlike c.args.text.now _ c.in_default.not-size, tt)))))))
