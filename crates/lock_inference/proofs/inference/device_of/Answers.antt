use Rattle.std.proofs.Common.{length, sym}
use Rattle.std.proofs.lemmas.Bool.{ltb-true, ltb-false}
use Rattle.lock_inference.proofs.GainLemmas.{device-some, device-none}
use Rattle.lock_inference.proofs.inference.device_of.Goals as goal

pub returns-in-Some : goal.returns-in-Some
returns-in-Some c =
    let found = c.in-Some.ensures.lookup in
    let functions = c.deref.result.now in
    let told = device-some c.args.desc.now functions c.args.fun c.in-Some.function.now c.deref.ensures.0 (ltb-true c.args.fun.0 (length functions) (sym found.0)) found.1 in
    record { value = told.0; below = told.1 }

pub returns-in-None : goal.returns-in-None
returns-in-None c =
    let functions = c.deref.result.now in
    record { value = device-none c.args.desc.now functions c.args.fun c.deref.ensures.0 (ltb-false c.args.fun.0 (length functions) (sym c.in-None.ensures.lookup.0)); below = tt }
