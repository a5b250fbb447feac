-- Nothing that is complete waits to be installed.
use Rattle.std.proofs.Common.{◌≡◌, ◌≢◌, ◌≤◌, ℕ, List, [], ◌∷◌, ◌++◌, refl, sym, subst, arith, inl, inr}
use Rattle.std.specs.Prelude.{Option, Some, None, if◌then◌else◌, is_some}
use Rattle.std.proofs.lemmas.Bool.Decides.{eqb_tells}
use Rattle.arrayvec.specs.ArrayVec.{ArrayVec}
use Rattle.capsule_exchange.specs.Happenings.{Happening, Hears, Installs, target_version, collected_image, complete_version}
use Rattle.world_rules.specs.Cause.{Cause}
use Rattle.world_rules.specs.World.{World}
use Rattle.world_rules.specs.Effect.{Node, NodeEffect, event_node}
use Rattle.world_rules.specs.State.{Moment, node_at, effect_at, state}
use Rattle.world_laws.proofs.Points.{nodes-here, nodes-other}
use Rattle.world_laws.proofs.Happens.{Happens, nothing, injected, heard, completed, forgot, sent, happens}
use Rattle.world_laws.specs.Versions.{WasInjected, IsOneImage, AreVersionsPositive}
use Rattle.world_laws.proofs.Collect.{complete-stays, complete-other}
use Rattle.world_laws.proofs.Injected.{collected-injected}
use Rattle.world_laws.proofs.Versions.{IsInjectedNode}

-- ---- no version is complete

-- after an install nothing of the handler is collected
installed-none : (h g version : ℕ) (image : List ℕ) (hs : List Happening) → (g ≢ h → complete_version h hs ≡ 0) → complete_version h (Installs g version image ∷ hs) ≡ 0
installed-none h g version image hs old = elim (eqb_tells g h) [ inl same ↦ rw same.0 refl | inr other ↦ rw other.0 (old other.1) ]

none-step : (w : World) (h : ℕ) (hs : List Happening) (c : Cause) (e : NodeEffect) → Happens w hs c e → complete_version h hs ≡ 0 → complete_version h (e.happened ++ hs) ≡ 0
none-step w h hs c e how old = by how where
  Goal : List Happening → Type 0
  Goal new = complete_version h (new ++ hs) ≡ 0

  by : Happens w hs c e → complete_version h (e.happened ++ hs) ≡ 0
  by (nothing is) = subst Goal (sym is) old
  by (injected x p from is deed) = subst Goal (sym is) (installed-none h p.handler.0 p.version p.image.items hs (λ other. old))
  by (heard j number packet cause is none) = subst Goal (sym is) (complete-stays h packet hs none old)
  by (completed j number packet p cause is deed complete same) =
      subst Goal (sym is) (installed-none h p.handler.0 p.version p.image.items (Hears packet ∷ hs) (λ other. complete-other h packet hs p.handler complete other old))
  by (forgot is deed) = subst Goal (sym is) refl
  by (sent k slot cause is next) = subst Goal (sym is) old

pub run-none : (w : World) (k h : ℕ) (ms : List Moment) → complete_version h ((state w ms).nodes k).exchange ≡ 0
run-none w k h [] = refl
run-none w k h (m ∷ before) = elim (eqb_tells k (event_node w m.cause)) [
  | inr other ↦ subst (λ (n : Node). complete_version h n.exchange ≡ 0) (sym (nodes-other w (state w before) m k other.1)) (run-none w k h before)
  | inl same ↦ subst (λ (i : ℕ). complete_version h ((state w (m ∷ before)).nodes i).exchange ≡ 0) (sym same.1)
      (subst (λ (n : Node). complete_version h n.exchange ≡ 0) (sym (nodes-here w (state w before) m))
      (none-step w h (node_at w (state w before) m).exchange m.cause (effect_at w (state w before) m) (happens w (node_at w (state w before) m) m.cause) (run-none w (event_node w m.cause) h before)))
]

-- ---- no image is complete

-- what is collected is of an injected version, which is none of 0
pub open-node : (w : World) (ms : List Moment) (h : ℕ) (hs : List Happening) → IsOneImage w → AreVersionsPositive w → IsInjectedNode w ms hs → complete_version h hs ≡ 0 → collected_image h hs ≡ None
open-node w ms h hs one positive node none = by (collected_image h hs) refl where
  clash : (made : ArrayVec ℕ) → collected_image h hs ≡ Some made → WasInjected w ms h (target_version h hs) made.items → ⊥
  clash made is was =
      let low : 1 ≤ was.program.version = positive was.place was.program was.injects in
      let target : (if is_some (Some made) then target_version h hs else 0) ≡ 0 = subst (λ (o : Option (ArrayVec ℕ)). (if is_some o then target_version h hs else 0) ≡ 0) is none in
      omega (arith, low, was.version_is, target)

  by : (o : Option (ArrayVec ℕ)) → collected_image h hs ≡ o → collected_image h hs ≡ None
  by None is = is
  by (Some made) is = absurd (clash made is (collected-injected w ms h hs made one (node.heard_of h) is))
