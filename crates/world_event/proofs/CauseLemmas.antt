-- Events of the radio as what they come from, and what each leaves of the node.
use Rattle.std.proofs.Common.{◌≡◌, ℕ, Bool, true, false, List, [], ◌∷◌, ◌++◌, length, Option, Some, None, refl, sym, ◌∙◌, ap, subst}
use Rattle.std.specs.Prelude.{◌⊎◌, ℤ, slice_get}
use Rattle.std.specs.Option.{option_map, option_map_or}
use Rattle.std.proofs.lemmas.Bool.{false≢true}
use Rattle.std.proofs.lemmas.Option.{slice_get-map}
use Rattle.arrayvec.specs.ArrayVec.{ArrayVec}
use Rattle.mate_num.specs.declared.call.Stamp.{Stamp}
use Rattle.mate_num.specs.declared.id.ContextId.{ContextId}
use Rattle.mate_num.specs.declared.id.HandlerId.{HandlerId}
use Rattle.mate_journal.specs.declared.air.Air.TheVariants as air
use Rattle.mate_journal.specs.declared.program.Program.{Program}
use Rattle.mate_journal.specs.Journal.{NodeState}
use Rattle.mate_journal.specs.NodeScript.{AnswersCall}
use Rattle.node_calls.specs.Calls.{NobodyWaits}
use Rattle.node_open.specs.Calls.{Pacing}
use Rattle.node_open.specs.View.{heard_of, Tells}
use Rattle.node_state.specs.Keeps.{IsTimely}
use Rattle.node_programs.specs.ScriptSteps.{program_at}
use Rattle.packet_codec.specs.Bytes.{packet_bytes}
use Rattle.packet_codec.specs.Packet.{IsRightPacket, HasPacketRanges}
use Rattle.packet_codec.specs.declared.packet.Packet.{Packet}
use Rattle.packet_codec.specs.declared.packet.Packet.TheVariants.{Vector, App}
use Rattle.radio_sim.specs.declared.shared_event.SharedEvent.{SharedEvent}
use Rattle.radio_sim.specs.declared.shared_event.SharedEvent.TheVariants as radio
use Rattle.trickle_timer.specs.Intervals.{at_point, Expired}
use Rattle.trickle_timer.specs.declared.timer.Fire.{Fire}
use Rattle.trickle_timer.specs.declared.timer.Fire.TheVariants as fire
use Rattle.capsule_exchange.specs.Happenings.{Happening, held_versions, next_slot}
use Rattle.capsule_exchange.specs.Knowledge.{knowledge, with_sent}
use Rattle.vm_shape.specs.declared.description.Description.{Description}
use Rattle.script_steps.specs.declared.world.World.{World as Script}
use Rattle.script_steps.specs.declared.world.Link.{Link}
use Rattle.script_steps.specs.declared.world.Planned.{Planned}
use Rattle.world_rules.specs.Cause.{Cause}
use Rattle.world_rules.specs.Cause as event
use Rattle.world_rules.specs.World.{World, PlannedLine, Post, handlers, want_of, line_planned}
use Rattle.world_rules.specs.Effect.{Node, NodeEffect, Deed, Nothing, no_effect, node_effect, of_line, of_packet, of_point, of_slot, sender}
use Rattle.world_rules.specs.Run.{DeedMakes}
use Rattle.world_rules.specs.State.{timer_after, is_pump}
use Rattle.world_air.specs.Air.{radio_event}
use Rattle.world_air.specs.Calls.{AreCallsOf}
use Rattle.world_run_laws.specs.Coming.{code_world, MayComeTo, AwaitsAlone}
use Rattle.world_state.specs.declared.effect.Effect.{Effect}
use Rattle.world_state.specs.declared.mote.Mote.{Mote}
use Rattle.world_state.specs.Motes.{TellsAlone, PumpsMote, plain_effect, at_fire, of_owed, timed}
use Rattle.world_state.specs.Standing.{IsMoteOf, IsEffectBy}
use Rattle.world_event.specs.Handling.{TakesProgram, DoesEffect, DoesBy, Handled}
use Rattle.world_event.proofs.EffectLemmas.{seen_as, does-here, does-by, handled, quietly, does-quietly, tells-nothing}
use Rattle.world_event.proofs.LineLemmas.{never, answering, does-answer}

-- ---- the cause of an event of the radio

-- with the packet of a delivery in place of its bytes
cause_by : SharedEvent → Packet → Cause
cause_by (radio.Planned line) p = event.Planned line
cause_by (radio.Period node h) p = event.Period node h
cause_by (radio.Fire node) p = event.Fire node
cause_by (radio.Expire node) p = event.Expire node
cause_by (radio.Pump node) p = event.Pump node
cause_by (radio.Due node c inv value) p = event.Due node c inv value
cause_by (radio.Deliver link number bytes) p = event.Deliver link number p

packet_of : Cause → Packet
packet_of (event.Deliver link number packet) = packet
packet_of _ = App (record { items = [] })

its-cause : (w : World) (c : Cause) → cause_by (radio_event w c) (packet_of c) ≡ c
unfolding cause_by packet_of
its-cause w (event.Planned line) = refl
its-cause w _ = refl

abbrev is_delivery : SharedEvent → Bool
is_delivery (radio.Deliver link number bytes) = true
is_delivery _ = false

no-delivery : (e : SharedEvent) (link number : ℕ) (bytes : ArrayVec ℕ) → is_delivery e ≡ false → e ≡ radio.Deliver link number bytes → ⊥
no-delivery e link number bytes other is = false≢true (sym other ∙ ap is_delivery is)

abbrev HandledIf : World → ℕ → Node → Stamp → Mote → Mote → Effect → Cause → Type 0
HandledIf w k n at old new r c = MayComeTo w n at.time c → Handled w k n c at old new r

abbrev pub HandlesEvent : Description → Script → List Program → SharedEvent → Stamp → Mote → Mote → Effect → Type 0
HandlesEvent d script ps e at old new r =
    (k : ℕ) (n : Node) (c : Cause) → IsMoteOf (code_world d script ps) k n old → radio_event (code_world d script ps) c ≡ e → MayComeTo (code_world d script ps) n at.time c
    → Handled (code_world d script ps) k n c at old new r

-- the program that a cause installs is taken
takes-it : (w : World) (n : Node) (time : ℕ) (c : Cause) (e : NodeEffect) → MayComeTo w n time c → node_effect w n c ≡ e → TakesProgram w n e
takes-it w n time c e may same p is = may.installs p (ap (λ (x : NodeEffect). x.deed) same ∙ is)

-- what the mote does by the effect of the cause
by-effect : (d : Description) (script : Script) (ps : List Program) (k : ℕ) (n : Node) (c : Cause) (effect : World → Node → NodeEffect) (at : Stamp) (old new : Mote) (r : Effect)
    → node_effect (code_world d script ps) n c ≡ effect (code_world d script ps) n → is_pump c ≡ false → IsMoteOf (code_world d script ps) k n old → DoesBy at effect old new r
    → HandledIf (code_world d script ps) k n at old new r c
by-effect d script ps k n c effect at old new r same no_pump is does may =
    handled (code_world d script ps) k n c (effect (code_world d script ps) n) at old new r is same no_pump
    (does d script ps k n is (takes-it (code_world d script ps) n at.time c (effect (code_world d script ps) n) may same))

-- ---- a point, an end and a pump

does-point : (w : World) (n : Node) (f : Fire) (at : Stamp) (old new : Mote) (r : Effect) → IsTimely at old.node.log → new ≡ old → old.exchange ≡ knowledge (handlers w) n.exchange
    → r ≡ at_fire (held_versions (handlers w) n.exchange) f → DoesEffect w (seen_as old n) (of_point w (seen_as old n) f) at old new r
does-point w n fire.Send at old new r timely same known is =
    let sent : List Packet = Vector (record { items = held_versions (handlers w) n.exchange }) ∷ [] in
    does-quietly w n [] [] None sent at old new r timely (ap (λ (m : Mote). m.node) same) (ap (λ (m : Mote). m.timer) same) (ap (λ (m : Mote). m.exchange) same ∙ known) (ap (λ (m : Mote). m.pumps) same)
    (ap (λ (m : Mote). m.calls) same) (subst (IsEffectBy (seen_as old n) (quietly [] [] None sent)) (sym is) (record { first = refl; begins = refl; cuts = refl; resets = refl; sends = refl }))
does-point w n fire.Keep at old new r timely same known is =
    does-quietly w n (air.Keep ∷ []) [] None [] at old new r timely (ap (λ (m : Mote). m.node) same) (ap (λ (m : Mote). m.timer) same) (ap (λ (m : Mote). m.exchange) same ∙ known) (ap (λ (m : Mote). m.pumps) same)
    (ap (λ (m : Mote). m.calls) same) (subst (IsEffectBy (seen_as old n) (quietly (air.Keep ∷ []) [] None [])) (sym is) (record { first = refl; begins = refl; cuts = refl; resets = refl; sends = refl }))

does-expire : (at : Stamp) (old new : Mote) (r : Effect) → IsTimely at old.node.log → new ≡ record old { timer = timed old.timer at.time Expired } → r ≡ record plain_effect { begins = true }
    → DoesBy at (λ _ _. quietly [] [] (Some Expired) []) old new r
does-expire at old new r timely same begins =
    does-by at (λ _ _. quietly [] [] (Some Expired) []) old new r (λ script ps n known takes.
    does-quietly (code_world old.node.description script ps) n [] [] (Some Expired) [] at old new r timely (ap (λ (m : Mote). m.node) same) (ap (λ (m : Mote). m.timer) same)
    (ap (λ (m : Mote). m.exchange) same ∙ known) (ap (λ (m : Mote). m.pumps) same) (ap (λ (m : Mote). m.calls) same)
    (subst (IsEffectBy (seen_as old n) (quietly [] [] (Some Expired) [])) (sym begins) (record { first = refl; begins = refl; cuts = refl; resets = refl; sends = refl })))

slot-deed : (hs : List Happening) (slot : Option ℕ) → (of_slot hs slot).deed ≡ Nothing
slot-deed hs None = refl
slot-deed hs (Some slot) = refl

slot-timer : (n : Node) (slot : Option ℕ) (time : ℕ) → timer_after n (of_slot n.exchange slot) time ≡ n.timer
slot-timer n None time = refl
slot-timer n (Some slot) time = refl

slot-happened : (hs : List Happening) (slot : Option ℕ) → with_sent slot hs ≡ (of_slot hs slot).happened ++ hs
slot-happened hs None = refl
slot-happened hs (Some slot) = refl

slot-effect : (n : Node) (slot : Option ℕ) → IsEffectBy n (of_slot n.exchange slot) (of_owed n.exchange slot)
slot-effect n None = record { first = refl; begins = refl; cuts = refl; resets = refl; sends = refl }
slot-effect n (Some slot) = record { first = refl; begins = refl; cuts = refl; resets = refl; sends = refl }

-- ---- each event of the radio

module _ (d : Description) (script : Script) (ps : List Program) (at : Stamp) (old new : Mote) (r : Effect) where
  abbrev w : World
  w = code_world d script ps

  -- a cause whose event is that of this one, but for the packet
  as-cause : (k : ℕ) (n : Node) (e : SharedEvent) (c : Cause) → radio_event w c ≡ e → HandledIf w k n at old new r (cause_by e (packet_of c)) → HandledIf w k n at old new r c
  as-cause k n e c is done = subst (HandledIf w k n at old new r) (ap (λ (x : SharedEvent). cause_by x (packet_of c)) (sym is) ∙ its-cause w c) done

  pub handles-planned : (line : ℕ) (planned : Planned) → slice_get script.events line ≡ Some planned → DoesBy at (λ _ _. of_line (want_of (program_at ps) planned.what)) old new r
      → HandlesEvent d script ps (radio.Planned line) at old new r
  unfolding cause_by
  handles-planned line planned there does k n c is e =
      let same : node_effect w n (event.Planned line) ≡ of_line (want_of (program_at ps) planned.what) =
      ap (λ (o : Option PlannedLine). option_map_or (λ (l : PlannedLine). of_line l.what) o no_effect) (slice_get-map (line_planned (program_at ps)) script.events line ∙ ap (option_map (line_planned (program_at ps))) there) in
      as-cause k n (radio.Planned line) c e (by-effect d script ps k n (event.Planned line) (λ _ _. of_line (want_of (program_at ps) planned.what)) at old new r same refl is does)

  pub handles-period : (node : ℕ) (h : HandlerId) → DoesBy at (λ _ _. of_line (Post h (record { items = [] }))) old new r → HandlesEvent d script ps (radio.Period node h) at old new r
  unfolding cause_by
  handles-period node h does k n c is e =
      as-cause k n (radio.Period node h) c e (by-effect d script ps k n (event.Period node h) (λ _ _. of_line (Post h (record { items = [] }))) at old new r refl refl is does)

  pub handles-due : (node : ℕ) (ctx : ContextId) (inv : ℕ) (value : ℤ) → NobodyWaits (heard_of old.node) ctx ⊎ TellsAlone at (Pacing (λ _. AnswersCall (heard_of old.node) ctx value)) old new → r ≡ plain_effect
      → HandlesEvent d script ps (radio.Due node ctx inv value) at old new r
  unfolding cause_by
  handles-due node ctx inv value told plain k n c is e = as-cause k n (radio.Due node ctx inv value) c e (λ may. (
      let awaits : AwaitsAlone (heard_of old.node) ctx inv = subst (λ (s : NodeState). AwaitsAlone s ctx inv) (sym is.reading) may.expected in
      by-effect d script ps k n (event.Due node ctx inv value) (λ _ _. answering inv value) at old new r refl refl is (does-answer at old new r ctx inv value awaits told plain) may))

  pub handles-fire : (node : ℕ) → IsTimely at old.node.log → new ≡ old
      → ((n : ℕ) (hs : List Happening) → old.exchange ≡ knowledge n hs → r ≡ at_fire (held_versions n hs) (at_point old.timer.set old.timer.running script.suppress)) → HandlesEvent d script ps (radio.Fire node) at old new r
  unfolding cause_by
  handles-fire node timely same fires k n c is e = as-cause k n (radio.Fire node) c e (λ may. (
      let E : World → Node → NodeEffect = λ v x. of_point v x (at_point x.timer.set x.timer.running v.suppress) in
      let given : DoesEffect w n (E w n) at old new r =
      does-here at E old new r d script ps k n is (λ known takes.
      does-point (code_world old.node.description script ps) n (at_point old.timer.set old.timer.running script.suppress) at old new r timely same known (fires _ n.exchange known))
      (takes-it w n at.time (event.Fire node) (E w n) may refl) in
      handled w k n (event.Fire node) (E w n) at old new r is refl refl given))

  pub handles-expire : (node : ℕ) → IsTimely at old.node.log → new ≡ record old { timer = timed old.timer at.time Expired } → r ≡ record plain_effect { begins = true } → HandlesEvent d script ps (radio.Expire node) at old new r
  unfolding cause_by
  handles-expire node timely same begins k n c is e =
      as-cause k n (radio.Expire node) c e (by-effect d script ps k n (event.Expire node) (λ _ _. quietly [] [] (Some Expired) []) at old new r refl refl is (does-expire at old new r timely same begins))

  pub handles-pump : (node : ℕ) → IsTimely at old.node.log → ((n : ℕ) (hs : List Happening) → old.exchange ≡ knowledge n hs → PumpsMote n hs old new r) → HandlesEvent d script ps (radio.Pump node) at old new r
  unfolding cause_by
  handles-pump node timely pumps k n c is e = as-cause k n (radio.Pump node) c e (λ _. (
      let x = pumps (handlers w) n.exchange is.exchange in
      let slot : Option ℕ = next_slot (handlers w) n.exchange in
      let T : Deed → Type 0 = λ deed. Tells old.node new.node at (Pacing (DeedMakes w.machine deed n.reading)) in
      record {
        tells = subst T (sym (slot-deed n.exchange slot)) (tells-nothing old.node new.node at timely (ap (λ (m : Mote). m.node) x.same));
        timer = ap (λ (m : Mote). m.timer) x.same ∙ is.timer ∙ sym (slot-timer n slot at.time);
        exchange = x.exchange ∙ ap (knowledge (handlers w)) (slot-happened n.exchange slot);
        pumps = ap (λ (m : Mote). m.pumps) x.same ∙ sym (never n.pumps);
        calls = subst (AreCallsOf w k n.called) (sym (ap (λ (m : Mote). m.calls) x.same)) is.calls;
        effect = subst (IsEffectBy n (of_slot n.exchange slot)) (sym x.effect) (slot-effect n slot);
      }))

  pub handles-deliver : (place number : ℕ) (bytes : ArrayVec ℕ) (link : Link) → slice_get script.links place ≡ Some link
      → ((p : Packet) → IsRightPacket (length d.handlers.items) p → HasPacketRanges p → bytes.items ≡ packet_bytes d.vm_id p → DoesBy at (λ v n. record (of_packet v n.exchange p) { first = air.Got number link.from ∷ [] }) old new r)
      → HandlesEvent d script ps (radio.Deliver place number bytes) at old new r
  unfolding cause_by packet_of
  handles-deliver place number bytes link there does k n c is e = delivered c e where
    at-packet : (p : Packet) → bytes.items ≡ packet_bytes d.vm_id p → HandledIf w k n at old new r (event.Deliver place number p)
    at-packet p same may =
        let from : sender w place ≡ link.from = ap (λ (o : Option Link). option_map_or (λ (l : Link). l.from) o 0) there in
        let effect_is : node_effect w n (event.Deliver place number p) ≡ record (of_packet w n.exchange p) { first = air.Got number link.from ∷ [] } =
        ap (λ (f : ℕ). record (of_packet w n.exchange p) { first = air.Got number f ∷ [] }) from in
        by-effect d script ps k n (event.Deliver place number p) (λ v x. record (of_packet v x.exchange p) { first = air.Got number link.from ∷ [] }) at old new r effect_is refl is
        (does p may.expected.1.right may.expected.1.ranges same) may

    bytes_in : SharedEvent → ArrayVec ℕ
    bytes_in (radio.Planned line) = bytes
    bytes_in (radio.Period node h) = bytes
    bytes_in (radio.Fire node) = bytes
    bytes_in (radio.Expire node) = bytes
    bytes_in (radio.Pump node) = bytes
    bytes_in (radio.Due node c inv value) = bytes
    bytes_in (radio.Deliver link number b) = b

    delivered : (c : Cause) → radio_event w c ≡ radio.Deliver place number bytes → HandledIf w k n at old new r c
    delivered (event.Deliver j m p) e = as-cause k n (radio.Deliver place number bytes) (event.Deliver j m p) e (at-packet p (ap (λ (x : SharedEvent). (bytes_in x).items) (sym e)))
    delivered (event.Planned line) e = absurd (no-delivery (radio.Planned line) place number bytes refl e)
    delivered (event.Period node h) e = absurd (no-delivery (radio.Period node h) place number bytes refl e)
    delivered (event.Fire node) e = absurd (no-delivery (radio.Fire node) place number bytes refl e)
    delivered (event.Expire node) e = absurd (no-delivery (radio.Expire node) place number bytes refl e)
    delivered (event.Pump node) e = absurd (no-delivery (radio.Pump node) place number bytes refl e)
    delivered (event.Due node c inv value) e = absurd (no-delivery (radio.Due node c inv value) place number bytes refl e)
