use Rattle.std.proofs.Common.{◌∙◌, List, ap, map}
use Rattle.std.proofs.lemmas.List.{take_all}
use Rattle.ts_trees.specs.declared.procedure.Proc.{Proc}
use Rattle.ts_proc_names.specs.Places.{place_of_name}
use Rattle.ts_proc_names.proofs.PlaceLemmas.{added}
use Rattle.ts_proc_names.proofs.name_table.NameTable.of_procs.Goals as goal

pub loop-place-preserved : goal.loop-place-preserved
loop-place-preserved c = λ name.
    c.in_ok-add.ensures name ∙ added (λ p. p.name.name) c.args.procs.now c.loop-place.place c.index-procs-place.result name
    c.loop-place-test.true c.index-procs-place.is (c.loop-place.invariant name)

pub returns : goal.returns
returns c = λ name.
    c.loop-place.invariant name
    ∙ ap (λ (ps : List Proc). place_of_name (map (λ p. p.name.name) ps) name) (take_all c.loop-place.place c.args.procs.now c.loop-place-test.false)
