use Rattle.std.proofs.Common.{Ok, refl, sym, ap, ◌∙◌}
use Rattle.script_steps.specs.Lines.{split_words}
use Rattle.script_steps.specs.NodeScript.{Said, behind_others}
use Rattle.script_steps.specs.NodeReader.{said_of}
use Rattle.script_steps.specs.declared.steps.Step.TheVariants as step
use Rattle.script_steps.proofs.NodeLemmas.{right_alone}
use Rattle.script_steps.proofs.node.behind_others.Goals as goal

pub returns-then-spells-clause-value : goal.returns-then-spells-clause-value
unfolding behind_others
returns-then-spells-clause-value c =
    let run = sym c.spells.ensures ∙ c.if-spells.true in
    rw run (ap (λ (said : Said). Ok (record { value = said; rest = split_words c.args.words.now })) (sym c.alone.ensures))

pub returns-then-spells-2-clause-value : goal.returns-then-spells-2-clause-value
unfolding behind_others
returns-then-spells-2-clause-value c =
    let run = sym c.spells.ensures ∙ c.if-spells.false in
    let answer = sym c.spells-else-spells.ensures ∙ c.if-spells-2.true in
    rw (run, answer) c.answer_in.ensures.value

pub returns-then-spells-3-clause-value : goal.returns-then-spells-3-clause-value
unfolding behind_others
returns-then-spells-3-clause-value c =
    let run = sym c.spells.ensures ∙ c.if-spells.false in
    let answer = sym c.spells-else-spells.ensures ∙ c.if-spells-2.false in
    let show = sym c.spells-else-spells-2.ensures ∙ c.if-spells-3.true in
    rw (run, answer, show) (ap (λ (said : Said). Ok (record { value = said; rest = split_words c.args.words.now })) (sym c.alone-then-spells-3.ensures))

pub returns-then-spells-4-clause-value : goal.returns-then-spells-4-clause-value
unfolding behind_others
returns-then-spells-4-clause-value c =
    let run = sym c.spells.ensures ∙ c.if-spells.false in
    let answer = sym c.spells-else-spells.ensures ∙ c.if-spells-2.false in
    let show = sym c.spells-else-spells-2.ensures ∙ c.if-spells-3.false in
    let reset = sym c.spells-else-spells-3.ensures ∙ c.if-spells-4.true in
    rw (run, answer, show, reset) (ap (λ (said : Said). Ok (record { value = said; rest = split_words c.args.words.now })) (sym c.alone-then-spells-4.ensures))

pub returns-else-spells-4-clause-value : goal.returns-else-spells-4-clause-value
unfolding behind_others
returns-else-spells-4-clause-value c =
    let run = sym c.spells.ensures ∙ c.if-spells.false in
    let answer = sym c.spells-else-spells.ensures ∙ c.if-spells-2.false in
    let show = sym c.spells-else-spells-2.ensures ∙ c.if-spells-3.false in
    let reset = sym c.spells-else-spells-3.ensures ∙ c.if-spells-4.false in
    rw (run, answer, show, reset) refl

pub returns-then-spells-2-clause-right : goal.returns-then-spells-2-clause-right
returns-then-spells-2-clause-right c = c.answer_in.ensures.right

pub returns-then-spells-clause-right : goal.returns-then-spells-clause-right
returns-then-spells-clause-right c = right_alone c.args.desc.now step.Run (said_of c.alone.result) c.alone.ensures (λ files. tt) (λ newest. tt)

pub returns-then-spells-3-clause-right : goal.returns-then-spells-3-clause-right
returns-then-spells-3-clause-right c = right_alone c.args.desc.now step.Show (said_of c.alone-then-spells-3.result) c.alone-then-spells-3.ensures (λ files. tt) (λ newest. tt)

pub returns-then-spells-4-clause-right : goal.returns-then-spells-4-clause-right
returns-then-spells-4-clause-right c = right_alone c.args.desc.now step.Reset (said_of c.alone-then-spells-4.result) c.alone-then-spells-4.ensures (λ files. tt) (λ newest. tt)
