use Rattle.std.proofs.Common.{◌≡◌, length, take, map, ap, ◌∙◌, lit<, le_of_lt, arith}
use Rattle.std.proofs.lemmas.List.{take_all, length-map, length-take-le}
use Rattle.vm_shape.proofs.ListLemmas.{map_pushed}
use Rattle.vm_shape.specs.declared.function.Function.{Function}
use Rattle.opcode_gen.proofs.generate.function_names.Goals as goal

pub push-requires : goal.push-requires
push-requires c =
    let functions = c.as_slice-function-items.result.now in
    let n = c.loop-function.function-index in
    let count : length c.loop-function.names.items ≡ n =
    ap length c.loop-function.invariant ∙ length-map (take n functions) (λ (f : Function). f.name) ∙ length-take-le n functions (le_of_lt c.loop-function-test.true) in
    (lit< tt, omega (arith, count, c.loop-function-test.true, c.as_slice-function-items.ensures.fits))

pub loop-function-preserved : goal.loop-function-preserved
loop-function-preserved c =
    map_pushed (λ (f : Function). f.name) c.as_slice-function-items.result.now c.loop-function.function-index c.function-item.result c.copy.result c.loop-function.names.items c.push.new.self.items
    c.loop-function-test.true c.function-item.is c.copy.ensures c.loop-function.invariant c.push.ensures.items

pub returns : goal.returns
returns c =
    let functions = c.as_slice-function-items.result.now in
    c.loop-function.invariant
    ∙ ap (map (λ (f : Function). f.name)) (take_all c.loop-function.function-index functions c.loop-function-test.false ∙ c.as_slice-function-items.ensures.value)
