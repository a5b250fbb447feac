use Rattle.std.proofs.Common.{◌∙◌, ap, refl}
use Rattle.ts_trees.specs.declared.stmt.Stmt.TheVariants.{Set, SetItem, Append, Take, Clear, Do}
use Rattle.ts_trees.specs.Seen.{act_of}
use Rattle.ts_trees.proofs.SeenLemmas.{act_set, act_set_item, act_append, act_take_last, act_clear, act_call_alone}
use Rattle.ts_proc_renaming.specs.Hidden.{hiding_of}
use Rattle.ts_proc_renaming.proofs.WrittenLemmas.{pushed_simple}
use Rattle.ts_proc_renaming.proofs.statements.simple.Goals as goal

pub returns-in_ok-value-in-Set : goal.returns-in_ok-value-in-Set
returns-in_ok-value-in-Set c =
    pushed_simple (hiding_of c.args.hidden.now) c.push.result c.args.written.now c.push.new.self c.args.stmt.now (Set c.word.result c.in_ok-value-in-Set.value) _ _ c.push.ensures
    (ap act_of c.in-Set.is ∙ act_set c.in-Set.name c.in-Set.value) refl
    (act_set c.word.result c.in_ok-value-in-Set.value ∙ rw (c.word.ensures, c.in_ok-value-in-Set.ensures) refl)

pub returns-in_ok-value-in-SetItem : goal.returns-in_ok-value-in-SetItem
returns-in_ok-value-in-SetItem c =
    pushed_simple (hiding_of c.args.hidden.now) c.push-in-SetItem.result c.args.written.now c.push-in-SetItem.new.self c.args.stmt.now (SetItem c.word-in-SetItem.result c.in_ok-index-in-SetItem.index c.in_ok-value-in-SetItem.value) _ _ c.push-in-SetItem.ensures
    (ap act_of c.in-SetItem.is ∙ act_set_item c.in-SetItem.name c.in-SetItem.index c.in-SetItem.value) refl
    (act_set_item c.word-in-SetItem.result c.in_ok-index-in-SetItem.index c.in_ok-value-in-SetItem.value ∙ rw (c.word-in-SetItem.ensures, c.in_ok-index-in-SetItem.ensures, c.in_ok-value-in-SetItem.ensures) refl)

pub returns-in_ok-value-in-Append : goal.returns-in_ok-value-in-Append
returns-in_ok-value-in-Append c =
    pushed_simple (hiding_of c.args.hidden.now) c.push-in-Append.result c.args.written.now c.push-in-Append.new.self c.args.stmt.now (Append c.word-in-Append.result c.in_ok-value-in-Append.value) _ _ c.push-in-Append.ensures
    (ap act_of c.in-Append.is ∙ act_append c.in-Append.name c.in-Append.value) refl
    (act_append c.word-in-Append.result c.in_ok-value-in-Append.value ∙ rw (c.word-in-Append.ensures, c.in_ok-value-in-Append.ensures) refl)

pub returns-in-Take : goal.returns-in-Take
returns-in-Take c =
    pushed_simple (hiding_of c.args.hidden.now) c.push-in-Take.result c.args.written.now c.push-in-Take.new.self c.args.stmt.now (Take c.word-in-Take.result c.word-in-Take-2.result) _ _ c.push-in-Take.ensures
    (ap act_of c.in-Take.is ∙ act_take_last c.in-Take.name c.in-Take.from) refl
    (act_take_last c.word-in-Take.result c.word-in-Take-2.result ∙ rw (c.word-in-Take.ensures, c.word-in-Take-2.ensures) refl)

pub returns-in-Clear : goal.returns-in-Clear
returns-in-Clear c =
    pushed_simple (hiding_of c.args.hidden.now) c.push-in-Clear.result c.args.written.now c.push-in-Clear.new.self c.args.stmt.now (Clear c.word-in-Clear.result) _ _ c.push-in-Clear.ensures
    (ap act_of c.in-Clear.is ∙ act_clear c.in-Clear.name) refl
    (act_clear c.word-in-Clear.result ∙ rw c.word-in-Clear.ensures refl)

pub returns-in_ok-args-in-Do : goal.returns-in_ok-args-in-Do
returns-in_ok-args-in-Do c =
    pushed_simple (hiding_of c.args.hidden.now) c.push-in-Do.result c.args.written.now c.push-in-Do.new.self c.args.stmt.now (Do c.same.result c.in_ok-args-in-Do.args) _ _ c.push-in-Do.ensures
    (ap act_of c.in-Do.is ∙ act_call_alone c.in-Do.name c.in-Do.args) refl
    (act_call_alone c.same.result c.in_ok-args-in-Do.args ∙ rw (c.same.ensures, c.in_ok-args-in-Do.ensures, c.as_slice.ensures) refl)
