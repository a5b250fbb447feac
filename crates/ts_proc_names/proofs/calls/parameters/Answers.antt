use Rattle.std.proofs.Common.{◌∙◌, ◌+◌, ℕ, List, [], Option, ap, sym, subst, refl, map, take, drop}
use Rattle.ts_trees.specs.declared.word.Word.{Word}
use Rattle.ts_proc_names.specs.Places.{place_of_name}
use Rattle.ts_proc_names.specs.declared.fault.ProcFault.{ProcFault}
use Rattle.ts_proc_names.specs.NameFaults.{◌<|>◌, word_fault, params_fault}
use Rattle.ts_proc_names.specs.Passing.{IsRefusal}
use Rattle.ts_proc_names.proofs.NameLemmas.{param_new, param_again}
use Rattle.ts_proc_names.proofs.PartLemmas.{refused_first, passed_as, passes, params_rest, params_from, params_end}
use Rattle.ts_proc_names.proofs.calls.parameters.Goals as goal

pub loop-place-preserved : goal.loop-place-preserved
loop-place-preserved c =
    c.loop-place.invariant ∙ param_new c.args.params.now c.loop-place.place c.index-params-place.result c.among_first.result
    c.loop-place-test.true c.index-params-place.is (sym c.in_ok-word.ensures)
    (c.among_first.ensures ∙ ap (λ (ws : List Word). place_of_name (take c.loop-place.place (map (λ w. w.name) ws)) c.index-params-place.result.name) c.in_ok-parameters.ensures) (sym c.is_some.ensures ∙ c.if-is_some.false)

pub returns-then-is_some : goal.returns-then-is_some
returns-then-is_some c =
    let P : ProcFault → Type 0 = λ fault. IsRefusal fault (params_fault [] c.args.params.now) in
    subst P (sym c.again.ensures)
    (c.loop-place.invariant ∙ param_again c.args.params.now c.loop-place.place c.index-params-place.result c.among_first.result
    c.loop-place-test.true c.index-params-place.is (sym c.in_ok-word.ensures)
    (c.among_first.ensures ∙ ap (λ (ws : List Word). place_of_name (take c.loop-place.place (map (λ w. w.name) ws)) c.index-params-place.result.name) c.in_ok-parameters.ensures) (sym c.is_some.ensures ∙ c.if-is_some.true))

pub loop-place-init : goal.loop-place-init
loop-place-init c = refl

pub returns-in_err-word : goal.returns-in_err-word
returns-in_err-word c =
    let names : List (List ℕ) = map (λ w. w.name) (take c.loop-place.place c.args.params.now) in
    let w : Word = c.index-params-place.result in
    let rest : Option ProcFault = params_rest names w (drop (c.loop-place.place + 1) c.args.params.now) in
    passes c.from_residual-in_err-word.result (params_fault [] c.args.params.now)
    (passed_as c.from_residual-in_err-word.result (params_fault [] c.args.params.now) (word_fault w <|> rest)
    (c.loop-place.invariant ∙ params_from names c.args.params.now c.loop-place.place w c.loop-place-test.true c.index-params-place.is)
    (refused_first c.in_err-word.field-0.0 c.from_residual-in_err-word.result (word_fault w) rest c.from_residual-in_err-word.ensures.1 c.in_err-word.ensures))

pub returns : goal.returns
returns c = c.loop-place.invariant ∙ params_end (map (λ w. w.name) (take c.loop-place.place c.args.params.now)) c.args.params.now c.loop-place.place c.loop-place-test.false
