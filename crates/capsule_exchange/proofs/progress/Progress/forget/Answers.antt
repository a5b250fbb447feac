use Rattle.std.proofs.Common.{◌≤◌, length, map, ap, ◌∙◌}
use Rattle.std.proofs.lemmas.List.{length-map}
use Rattle.capsule_exchange.specs.Sound.{AreSound}
use Rattle.capsule_exchange.specs.Steps.{forgets}
use Rattle.capsule_exchange.proofs.KnowledgeLemmas.{wrote_all, forget_learned}
use Rattle.capsule_exchange.proofs.SoundLemmas.{put_back, changed_all, forgets_sound}
use Rattle.capsule_exchange.proofs.SummaryLemmas.{kept_now, hold_forgotten}
use Rattle.capsule_exchange.proofs.progress.Progress.forget.Goals as goal

pub invariant_of-self : goal.invariant_of-self
invariant_of-self c =
    let value = c.forget_each.ensures ∙ ap (map forgets) c.as_mut_slice.ensures.value in
    kept_now _ c.as_slice.result.now c.of-self-inside.result c.as_slice.ensures.value c.as_slice.ensures.fits
    (put_back AreSound c.self.inside.handlers.items c.forget_each.new.states (ap length value ∙ length-map c.self.inside.handlers.items forgets)
    (changed_all c.self.inside.handlers.items c.forget_each.new.states forgets value forgets_sound c.self.invariant.sound)) c.of-self-inside.ensures

pub returns-clause-learned : goal.returns-clause-learned
returns-clause-learned c =
    forget_learned c.args.self.now _
    (wrote_all c.args.self.now c.self.inside.handlers.items c.as_mut_slice.result.now c.forget_each.new.states c.self.inside.last forgets c.self.view_is c.as_mut_slice.ensures.value c.forget_each.ensures)

pub returns-clause-images : goal.returns-clause-images
returns-clause-images c =
    hold_forgotten c.args.self.now _
    (wrote_all c.args.self.now c.self.inside.handlers.items c.as_mut_slice.result.now c.forget_each.new.states c.self.inside.last forgets c.self.view_is c.as_mut_slice.ensures.value c.forget_each.ensures)
