use Rattle.std.proofs.Common.{rules}
use Rattle.capsule_exchange.specs.Steps.{hears_status}
use Rattle.capsule_exchange.proofs.SoundLemmas.{changed_one, hears_status_sound}
use Rattle.capsule_exchange.proofs.SummaryLemmas.{kept_owing, status_held}
use Rattle.capsule_exchange.proofs.progress.Progress.hear_status.Goals as goal

pub invariant_of-self : goal.invariant_of-self
invariant_of-self c =
    let version = c.args.version in
    let missing = c.args.missing in
    let sound =
    changed_one c.self.inside.handlers.items c.as_mut_slice.result.now c.from.result c.index-as_mut_slice-from.result c.hear_status.new.self (hears_status version missing)
    c.as_mut_slice.ensures.value (search rules) c.hear_status.ensures (hears_status_sound version missing) c.self.invariant.sound in
    kept_owing c.self.inside.handlers.items c.as_mut_slice.result.now c.from.result c.index-as_mut_slice-from.result c.hear_status.new.self (hears_status version missing) c.self.inside.summary c.as_slice.result.now c.any_marked-self-inside.result
    c.as_mut_slice.ensures.value (search rules) c.hear_status.ensures (status_held version missing) sound c.self.invariant c.as_slice.ensures.value c.any_marked-self-inside.ensures
