use Rattle.std.proofs.Common.{◌≡◌, ℕ, length, set, get_or, ◌∙◌, ap, rules, arith}
use Rattle.std.proofs.lemmas.List.{length-set}
use Rattle.arrayvec.specs.ArrayVec.{ArrayVec}
use Rattle.capsule_exchange.specs.Sound.{AreSound}
use Rattle.capsule_exchange.specs.Steps.{installs}
use Rattle.capsule_exchange.proofs.KnowledgeLemmas.{wrote_one, install_learned}
use Rattle.capsule_exchange.proofs.SoundLemmas.{put_back, changed_one, installs_sound}
use Rattle.capsule_exchange.proofs.SummaryLemmas.{kept_now}
use Rattle.capsule_exchange.proofs.progress.Progress.installed.Goals as goal

pub invariant_of-self : goal.invariant_of-self
invariant_of-self c =
    let state = get_or c.as_mut_slice.result.now c.from.result c.index-as_mut_slice-from.result in
    let install : c.install.new.self ≡ installs c.args.version c.args.image.now state = c.install.ensures ∙ ap (λ (image : ArrayVec ℕ). installs c.args.version image state) c.of.ensures in
    let newer = c.requires.newer in
    let now = set c.as_mut_slice.result.now c.from.result c.install.new.self in
    let long : length now ≡ length c.self.inside.handlers.items = length-set c.as_mut_slice.result.now c.from.result c.install.new.self ∙ ap length c.as_mut_slice.ensures.value in
    kept_now _ c.as_slice.result.now c.of-self-inside.result c.as_slice.ensures.value c.as_slice.ensures.fits
    (put_back AreSound c.self.inside.handlers.items now long
    (changed_one c.self.inside.handlers.items c.as_mut_slice.result.now c.from.result c.index-as_mut_slice-from.result c.install.new.self (installs c.args.version c.args.image.now)
    c.as_mut_slice.ensures.value (search rules) install (λ s _. installs_sound c.args.version c.args.image.now s (omega arith)) c.self.invariant.sound)) c.of-self-inside.ensures

pub returns-clause-state : goal.returns-clause-state
returns-clause-state c =
    let state = get_or c.as_mut_slice.result.now c.from.result c.index-as_mut_slice-from.result in
    let install : c.install.new.self ≡ installs c.args.version c.args.image.now state = c.install.ensures ∙ ap (λ (image : ArrayVec ℕ). installs c.args.version image state) c.of.ensures in
    wrote_one c.args.self.now c.self.inside.handlers.items c.as_mut_slice.result.now c.self.inside.last c.from.result c.args.handler.0 c.index-as_mut_slice-from.result c.install.new.self (installs c.args.version c.args.image.now)
    c.self.view_is c.as_mut_slice.ensures.value c.from.ensures (search rules) install

pub returns-clause-learned : goal.returns-clause-learned
returns-clause-learned c =
    let state = get_or c.as_mut_slice.result.now c.from.result c.index-as_mut_slice-from.result in
    let install : c.install.new.self ≡ installs c.args.version c.args.image.now state = c.install.ensures ∙ ap (λ (image : ArrayVec ℕ). installs c.args.version image state) c.of.ensures in
    install_learned c.args.self.now _ c.args.handler.0 c.args.version c.args.image.now c.requires.handler
    (wrote_one c.args.self.now c.self.inside.handlers.items c.as_mut_slice.result.now c.self.inside.last c.from.result c.args.handler.0 c.index-as_mut_slice-from.result c.install.new.self (installs c.args.version c.args.image.now)
    c.self.view_is c.as_mut_slice.ensures.value c.from.ensures (search rules) install)
