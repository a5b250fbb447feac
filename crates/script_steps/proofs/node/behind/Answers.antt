use Rattle.std.proofs.Common.{sym, ◌∙◌}
use Rattle.script_steps.specs.NodeScript.{behind}
use Rattle.script_steps.specs.NodeReader.{said_of}
use Rattle.script_steps.proofs.NodeLemmas.{right_with, right_load}
use Rattle.script_steps.proofs.node.behind.Goals as goal

pub returns-then-spells-2-clause-right : goal.returns-then-spells-2-clause-right
returns-then-spells-2-clause-right c = right_load c.args.desc.now (said_of c.load_in.new.said) c.load_in.result c.args.newest.now c.args.files c.load_in.ensures.right

pub returns-then-spells-3-clause-right : goal.returns-then-spells-3-clause-right
returns-then-spells-3-clause-right c = right_with c.args.desc.now (said_of c.post_in.new.said) c.post_in.result c.args.newest.now c.args.files c.post_in.ensures.right

pub returns-then-spells-4-clause-right : goal.returns-then-spells-4-clause-right
returns-then-spells-4-clause-right c = right_with c.args.desc.now (said_of c.step_in.new.said) c.step_in.result c.args.newest.now c.args.files c.step_in.ensures.right

pub returns-else-spells-4-clause-right : goal.returns-else-spells-4-clause-right
returns-else-spells-4-clause-right c = right_with c.args.desc.now (said_of c.behind_others.new.said) c.behind_others.result c.args.newest.now c.args.files c.behind_others.ensures.right

pub returns-then-spells-clause-value : goal.returns-then-spells-clause-value
unfolding behind
returns-then-spells-clause-value c =
    let install = sym c.spells.ensures ∙ c.if-spells.true in
    rw install c.install_in.ensures.value

pub returns-then-spells-clause-right : goal.returns-then-spells-clause-right
returns-then-spells-clause-right c = c.install_in.ensures.right

pub returns-then-spells-2-clause-value : goal.returns-then-spells-2-clause-value
unfolding behind
returns-then-spells-2-clause-value c =
    let install = sym c.spells.ensures ∙ c.if-spells.false in
    let load = sym c.spells-else-spells.ensures ∙ c.if-spells-2.true in
    rw (install, load) c.load_in.ensures.value

pub returns-then-spells-3-clause-value : goal.returns-then-spells-3-clause-value
unfolding behind
returns-then-spells-3-clause-value c =
    let install = sym c.spells.ensures ∙ c.if-spells.false in
    let load = sym c.spells-else-spells.ensures ∙ c.if-spells-2.false in
    let post = sym c.spells-else-spells-2.ensures ∙ c.if-spells-3.true in
    rw (install, load, post) c.post_in.ensures.value

pub returns-then-spells-4-clause-value : goal.returns-then-spells-4-clause-value
unfolding behind
returns-then-spells-4-clause-value c =
    let install = sym c.spells.ensures ∙ c.if-spells.false in
    let load = sym c.spells-else-spells.ensures ∙ c.if-spells-2.false in
    let post = sym c.spells-else-spells-2.ensures ∙ c.if-spells-3.false in
    let step = sym c.spells-else-spells-3.ensures ∙ c.if-spells-4.true in
    rw (install, load, post, step) c.step_in.ensures.value

pub returns-else-spells-4-clause-value : goal.returns-else-spells-4-clause-value
unfolding behind
returns-else-spells-4-clause-value c =
    let install = sym c.spells.ensures ∙ c.if-spells.false in
    let load = sym c.spells-else-spells.ensures ∙ c.if-spells-2.false in
    let post = sym c.spells-else-spells-2.ensures ∙ c.if-spells-3.false in
    let step = sym c.spells-else-spells-3.ensures ∙ c.if-spells-4.false in
    rw (install, load, post, step) c.behind_others.ensures.value
