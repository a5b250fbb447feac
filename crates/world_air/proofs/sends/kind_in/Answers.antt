use Rattle.std.proofs.Common.{◌≡◌, List, length, Option, Some, refl, sym, ◌∙◌, ap, arith}
use Rattle.std.specs.Prelude.{slice_get}
use Rattle.std.specs.Option.{option_map_or}
use Rattle.std.proofs.lemmas.Option.{slice_get_read, slice_get_past}
use Rattle.vm_shape.specs.declared.function.Function.{Function as CalledFunction}
use Rattle.vm_shape.specs.declared.function.FunKind.{FunKind}
use Rattle.vm_shape.specs.declared.function.FunKind.TheVariants.{Id}
use Rattle.world_air.proofs.sends.kind_in.Goals as goal

abbrev kind_of : Option CalledFunction → FunKind
kind_of o = option_map_or (λ (f : CalledFunction). f.kind) o Id

pub returns-in-Some : goal.returns-in-Some
returns-in-Some c =
    let functions = c.args.desc.now.functions.items in
    let f : CalledFunction = c.in-Some.function.now in
    let found = c.in-Some.ensures.lookup in
    let there : slice_get functions c.args.fun.0 ≡ Some f =
    ap (slice_get functions) (sym c.from.ensures) ∙ ap (λ (fs : List CalledFunction). slice_get fs c.from.result) (sym c.as_slice.ensures.value) ∙ slice_get_read c.as_slice.result.now _ c.from.result f refl found.3.0 found.1 in
    ap kind_of (sym there)

pub returns-in-None : goal.returns-in-None
returns-in-None c =
    let past = c.in-None.ensures.lookup.3 in
    let long = ap length c.as_slice.ensures.value in
    let from = c.from.ensures in
    ap kind_of (sym (slice_get_past c.args.desc.now.functions.items c.args.fun.0 (omega (arith, past, long, from))))
