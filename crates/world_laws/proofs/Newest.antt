-- Nothing newer is installed than was injected.
use Rattle.std.proofs.Common.{◌≡◌, ◌≤◌, List, [], ◌∷◌, sym, ◌∙◌, ap, arith}
use Rattle.mate_journal.specs.Machine.{HeldProgram}
use Rattle.world_rules.specs.World.{World}
use Rattle.world_rules.specs.State.{Moment}
use Rattle.world_laws.specs.Versions.{WasInjected, IsOneImage, InstallsAtMost}
use Rattle.world_laws.proofs.Versions.{installs_injected}

pub installs_at_most : (w : World) → IsOneImage w → InstallsAtMost w
installs_at_most w one v [] come most = tt
installs_at_most w one v (m ∷ before) come most = (
  installs_at_most w one v before come.0 (λ newer older x i p is cause injects own. most (m ∷ newer) older x i p (ap (λ (ms : List Moment). m ∷ ms) is) cause injects own),
  λ p deed own. of p own (installs_injected w one m before p come deed),
) where
  of : (p : HeldProgram) → p.handler.0 ≡ v.handler → WasInjected w (m ∷ before) p.handler.0 p.version p.image.items → (p.version ≤ v.version) × (p.version ≡ v.version → p.image.items ≡ v.image)
  of p own was =
      let bound = most was.newer was.older was.moment was.place was.program was.split was.cause was.injects (was.handler ∙ own) in
      (omega (arith, bound.0, was.version_is), λ same. sym was.image_is ∙ bound.1 (was.version_is ∙ same))
