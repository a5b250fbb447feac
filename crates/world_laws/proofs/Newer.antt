-- No install is refused.
use Rattle.std.proofs.Common.{◌≡◌, ◌<◌, ◌≤◌, ℕ, Bool, true, false, List, ◌∷◌, ◌++◌, refl, sym, ◌∙◌, ap, subst, arith, inl, inr, append_assoc}
use Rattle.std.specs.Prelude.{Some, None, nat_lt, is_some, if◌then◌else◌}
use Rattle.std.proofs.lemmas.Bool.{cases_lt, ltb-true}
use Rattle.mate_num.specs.declared.id.HandlerId.{HandlerId}
use Rattle.mate_journal.specs.Machine.{HeldProgram}
use Rattle.packet_codec.specs.declared.packet.Packet.{Packet}
use Rattle.packet_codec.specs.declared.packet.Packet.TheVariants.{Vector, Status, Fragment, App}
use Rattle.capsule_exchange.specs.Happenings.{Happening, Hears, held_version, target_version, complete_version, collected_image, completed_by}
use Rattle.capsule_exchange.proofs.CollectLemmas.{target_over}
use Rattle.world_rules.specs.Cause.{Cause}
use Rattle.world_rules.specs.Cause as event
use Rattle.world_rules.specs.World.{World}
use Rattle.world_rules.specs.Effect.{event_node}
use Rattle.world_rules.specs.State.{Moment, node_at, state}
use Rattle.world_rules.specs.Run.{HaveCome}
use Rattle.world_laws.specs.Packets.{InstallsBy, ByLine, ByRadio}
use Rattle.mate_num.specs.Lists.{Among}
use Rattle.world_laws.proofs.Packets.{installs_have_reasons}
use Rattle.world_laws.proofs.Points.{among-next, earlier-come}
use Rattle.world_laws.specs.Lines.{IsPlanTimely}
use Rattle.world_laws.specs.Versions.{InjectsAt, WasInjected, IsOneImage, AreVersionsRising, AreVersionsPositive}
use Rattle.world_laws.specs.Installs.{WasInstalled, InstallsAreNewer, InstallsAreTold}
use Rattle.world_laws.proofs.Agree.{held_agrees}
use Rattle.world_laws.proofs.Installs.{entry-of, installs_its_own, held_was_installed}
use Rattle.world_laws.proofs.Lines.{later-lines}
use Rattle.world_laws.proofs.Versions.{installs_injected}

-- ---- by radio

-- what is complete is the target, which is newer than what is held
complete-newer : (h : ℕ) (hs : List Happening) → 0 < complete_version h hs → held_version h hs < target_version h hs
complete-newer h hs some = by (is_some (collected_image h hs)) some where
  by : (b : Bool) → 0 < (if b then target_version h hs else 0) → held_version h hs < target_version h hs
  by true high = elim (target_over h hs) [ inl none ↦ absurd (omega (arith, none, high)) | inr over ↦ over ]
  by false high = absurd (omega (arith, high))

completes : (packet : Packet) (hs : List Happening) (h : HandlerId) → completed_by packet hs ≡ Some h → held_version h.0 hs < target_version h.0 (Hears packet ∷ hs)
completes (Fragment g version index count large bytes) hs h is = by (nat_lt old new) refl is where
  old : ℕ
  old = complete_version g.0 hs

  new : ℕ
  new = complete_version g.0 (Hears (Fragment g version index count large bytes) ∷ hs)

  by : (b : Bool) → nat_lt (complete_version g.0 hs) (complete_version g.0 (Hears (Fragment g version index count large bytes) ∷ hs)) ≡ b → (if b then Some g else None) ≡ Some h
      → held_version h.0 hs < target_version h.0 (Hears (Fragment g version index count large bytes) ∷ hs)
  by true more given =
      let same : g ≡ h = cc in
      let less : complete_version g.0 hs < complete_version g.0 (Hears (Fragment g version index count large bytes) ∷ hs) = ltb-true _ _ more in
      subst (λ (k : HandlerId). held_version k.0 hs < target_version k.0 (Hears (Fragment g version index count large bytes) ∷ hs)) same
      (complete-newer g.0 (Hears (Fragment g version index count large bytes) ∷ hs) (omega (arith, less)))
  by false more given = cc
completes _ hs h is = cc

-- ---- by a line

-- what the node holds was injected by an earlier line
pub line-newer : (w : World) (before : List Moment) (k h i t : ℕ) (p : HeldProgram) → IsOneImage w → IsPlanTimely w → AreVersionsRising w → HaveCome w before → Among (event.Planned i) ((state w before).due t) → InjectsAt w i p → p.handler.0 ≡ h
    → 1 ≤ held_version h ((state w before).nodes k).exchange → held_version h ((state w before).nodes k).exchange < p.version
line-newer w before k h i t p one timely rising come waits injects handler some = by (held_was_installed w k h before come some) where
  by : WasInstalled w before k h (held_version h ((state w before).nodes k).exchange) → held_version h ((state w before).nodes k).exchange < p.version
  by was = injected (installs_injected w one was.moment was.older was.program come_then (installs_its_own w was.older was.moment was.program come_then was.entry)) where
    come_then : HaveCome w (was.moment ∷ was.older)
    come_then = earlier-come w (was.moment ∷ was.older) was.newer (subst (λ (ms : List Moment). HaveCome w ms) was.split come)

    injected : WasInjected w (was.moment ∷ was.older) was.program.handler.0 was.program.version was.program.image.items → held_version h ((state w before).nodes k).exchange < p.version
    injected line =
        let split : before ≡ (was.newer ++ line.newer) ++ (line.moment ∷ line.older) = was.split ∙ ap (λ (ms : List Moment). was.newer ++ ms) line.split ∙ sym (append_assoc was.newer line.newer (line.moment ∷ line.older)) in
        let earlier : line.place < i = later-lines w line.older (was.newer ++ line.newer) line.moment line.place i t timely (subst (λ (ms : List Moment). HaveCome w ms) split come) line.cause
        (subst (λ (ms : List Moment). Among (event.Planned i) ((state w ms).due t)) split waits) in
        let less : line.program.version < p.version = rising line.place i line.program p line.injects injects (line.handler ∙ was.handler ∙ sym handler) earlier in
        omega (arith, less, line.version_is, was.version_is)

pub installs_are_newer : (w : World) → IsOneImage w → IsPlanTimely w → AreVersionsRising w → AreVersionsPositive w → InstallsAreNewer w
installs_are_newer w one timely rising positive before m p come next deed =
    subst (λ (v : ℕ). v < p.version) (sym (held_agrees w (event_node w m.cause) p.handler.0 before come)) (by (installs_have_reasons w (state w before) m p deed)) where
      by : InstallsBy w (node_at w (state w before) m) m p → held_version p.handler.0 (node_at w (state w before) m).exchange < p.version
      by (ByRadio link number packet cause complete is) =
          subst (λ (v : ℕ). held_version p.handler.0 (node_at w (state w before) m).exchange < v) (sym (ap (λ (q : HeldProgram). q.version) is)) (completes packet (node_at w (state w before) m).exchange p.handler complete)
      by (ByLine i l cause stands what) = elim (cases_lt 0 (held_version p.handler.0 (node_at w (state w before) m).exchange)) [
        | inl some ↦ line-newer w before (event_node w m.cause) p.handler.0 i m.time p one timely rising come (subst (λ (c : Cause). Among c ((state w before).due m.time)) cause (among-next (state w before) m.time m.cause next)) (l, stands, what) refl some
        | inr none ↦ (let low : 1 ≤ p.version = positive i p (l, stands, what) in omega (arith, none, low))
      ]

pub installs_are_told : (w : World) → InstallsAreTold w
installs_are_told w before m p come deed = entry-of w before m p come deed
