use Rattle.std.proofs.Common.{length, set, ap, ◌∙◌, rules}
use Rattle.std.proofs.lemmas.List.{length-set}
use Rattle.capsule_exchange.specs.Sound.{AreSound}
use Rattle.capsule_exchange.specs.Steps.{hears_fragment}
use Rattle.capsule_exchange.proofs.SoundLemmas.{put_back, changed_one, hears_fragment_sound}
use Rattle.capsule_exchange.proofs.SummaryLemmas.{fragment_marks, kept_one}
use Rattle.capsule_exchange.proofs.progress.Progress.hear_fragment.Goals as goal

pub invariant_of-self : goal.invariant_of-self
invariant_of-self c =
    let step = hears_fragment c.args.version c.args.index c.args.form c.args.bytes.now in
    let sound =
    changed_one c.self.inside.handlers.items c.as_mut_slice.result.now c.from.result c.index-as_mut_slice-from.result c.hear_fragment.new.self step
    c.as_mut_slice.ensures.value (search rules) c.hear_fragment.ensures (λ s sound. hears_fragment_sound c.args.version c.args.index c.args.form c.args.bytes.now s c.requires.count sound) c.self.invariant.sound in
    kept_one c.self.inside.handlers.items c.as_mut_slice.result.now c.from.result c.index-as_mut_slice-from.result c.hear_fragment.new.self step c.self.inside.summary
    c.as_mut_slice.ensures.value (search rules) c.hear_fragment.ensures (fragment_marks c.args.version c.args.index c.args.form c.args.bytes.now) sound c.self.invariant

pub returns-clause-sound : goal.returns-clause-sound
returns-clause-sound c =
    put_back AreSound c.self.inside.handlers.items (set c.as_mut_slice.result.now c.from.result c.hear_fragment.new.self)
    (length-set c.as_mut_slice.result.now c.from.result c.hear_fragment.new.self ∙ ap length c.as_mut_slice.ensures.value)
    (changed_one c.self.inside.handlers.items c.as_mut_slice.result.now c.from.result c.index-as_mut_slice-from.result c.hear_fragment.new.self (hears_fragment c.args.version c.args.index c.args.form c.args.bytes.now)
    c.as_mut_slice.ensures.value (search rules) c.hear_fragment.ensures (λ s sound. hears_fragment_sound c.args.version c.args.index c.args.form c.args.bytes.now s c.requires.count sound) c.self.invariant.sound)
