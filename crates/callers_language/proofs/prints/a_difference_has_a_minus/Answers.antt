use Rattle.std.proofs.Common.{◌≡◌, ℕ, List, codes, refl, subst, ap, ◌∙◌}
use Rattle.std.specs.Fmt.{digits}
use Rattle.mate_files.specs.Sink.{Puts}
use Rattle.ts_trees.specs.Spelling.{source_spelled}
use Rattle.ts_trees.specs.Text.{written, text_of}
use Rattle.ts_trees.specs.Tree.{Source}
use Rattle.callers_language.specs.GrammarSources.{subtracting}
use Rattle.callers_language.proofs.prints.a_difference_has_a_minus.Goals as goal

text_is : text_of (source_spelled subtracting) ≡ codes "x = 3 - 1 ;"
unfolding written digits
text_is = refl

pub returns : goal.returns
returns g c =
    subst (λ (text : List ℕ). Puts {T = Unit {0}} (g.S.Sink.written c.args.out.now) (g.S.Sink.faults c.args.out.now) (g.S.Sink.written c.print.new.out) (g.S.Sink.faults c.print.new.out) c.print.result text)
    (ap (λ (s : Source). text_of (source_spelled s)) c.requires ∙ text_is) c.print.ensures
