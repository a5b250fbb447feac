-- What a mote does that hears a packet, or installs an image of a packet or of a line.
use Rattle.std.proofs.Common.{◌≡◌, ℕ, ◌<◌, List, [], ◌∷◌, length, Option, Some, None, refl, sym, ◌∙◌, ap, subst}
use Rattle.std.specs.Prelude.{◌⊎◌, false, ℤ, Result, Ok, bytes_eq}
use Rattle.arrayvec.specs.ArrayVec.{ArrayVec}
use Rattle.mate_num.specs.declared.call.Stamp.{Stamp}
use Rattle.mate_num.specs.declared.id.HandlerId.{HandlerId}
use Rattle.mate_journal.specs.declared.air.Air.{Air}
use Rattle.mate_journal.specs.Machine.{HeldProgram}
use Rattle.node_state.specs.Keeps.{IsTimely}
use Rattle.node_state.specs.Meaning.{machine_in}
use Rattle.node_open.specs.Calls.{Pacing}
use Rattle.node_open.specs.View.{heard_of, Tells}
use Rattle.packet_codec.specs.Packet.{IsRightPacket}
use Rattle.packet_codec.specs.declared.packet.Packet.{Packet}
use Rattle.packet_codec.specs.declared.packet.Packet.TheVariants.{Vector, Status, Fragment, App}
use Rattle.trickle_timer.specs.Intervals as trickle
use Rattle.trickle_timer.specs.Timer.{packet_event as heard_as}
use Rattle.capsule_exchange.specs.Happenings.{Happening, Hears, held_versions, asks_after, collected_image, completed_by}
use Rattle.capsule_exchange.specs.Knowledge.{Knowledge, knowledge, Whatever, Learns}
use Rattle.capsule_exchange.proofs.KnowledgeLemmas.{handler_count}
use Rattle.vm_shape.specs.declared.description.Description.{Description}
use Rattle.world_rules.specs.World.{World, Inject, receivers}
use Rattle.world_rules.specs.Effect.{NodeEffect, Posting, no_effect, of_line, of_packet}
use Rattle.world_rules.specs.Run.{Occasions}
use Rattle.world_run_laws.specs.Coming.{code_world, IsTaken}
use Rattle.world_state.specs.declared.effect.Effect.{Effect}
use Rattle.world_state.specs.declared.mote.Mote.{Mote}
use Rattle.world_state.specs.Motes.{TellsAlone, InstallsImage, LeavesImage, HearsVector, plain_effect}
use Rattle.world_event.specs.Handling.{IsFragmentOf, DoesEffect, DoesBy, receivers_below}
use Rattle.world_state.specs.Standing.{IsEffectBy}
use Rattle.world_event.proofs.EffectLemmas.{seen_as, does-by, quietly, does-quietly, plain-quietly, stays-on, does-install}
use Rattle.world_event.proofs.PostLemmas.{receivers-are}
use Rattle.world_event.proofs.ImageLemmas.{fragment-stays, fragment-installs, completed-handler, program_in}

-- ---- what a packet that is no Vector asks for

abbrev pub AsksNothing : Packet → Type 0
AsksNothing (Vector versions) = ⊥
AsksNothing _ = Unit {0}

pub fragment-silent : (version : ℕ) (p : Packet) → IsFragmentOf version p → AsksNothing p
fragment-silent version (Fragment g told index count large bytes) is = tt
fragment-silent version _ is = absurd is

silent-by : (n : ℕ) (p : Packet) (hs : List Happening) → AsksNothing p → asks_after n p hs ≡ []
silent-by n (Vector versions) hs none = absurd none
silent-by n _ hs none = refl

pub heard-silent : (n : ℕ) (p : Packet) (hs : List Happening) (asks : ArrayVec Packet) → AsksNothing p → asks.items ≡ asks_after n p hs → asks.items ≡ []
heard-silent n p hs asks none is = is ∙ silent-by n p hs none

pub still-plain : (r : Effect) (asks : ArrayVec Packet) → r ≡ plain_effect → asks.items ≡ [] → record r { sends = asks } ≡ plain_effect
still-plain r asks plain none =
    let E : List Packet → Effect = λ ps. record plain_effect { sends = record { items = ps } } in
    ap (λ (x : Effect). record x { sends = asks }) plain ∙ ap E none

-- ---- an image

-- of a fragment with which it is complete
pub does-image : (at : Stamp) (old new : Mote) (r : Effect) (p : Packet) (version : ℕ) (h : HandlerId) (image : ArrayVec ℕ) (heard : Knowledge) → IsFragmentOf version p → IsRightPacket (length old.exchange.handlers) p
    → Whatever old.exchange (λ n hs. Some h ≡ completed_by p hs) → Learns old.exchange (Hears p) heard → Whatever heard (λ n hs. Some image ≡ collected_image h.0 hs)
    → InstallsImage at h version image.items (record old { exchange = heard }) new r ⊎ LeavesImage h version image.items (record old { exchange = heard }) new r
    → DoesBy at (λ w n. of_packet w n.exchange p) old new r
does-image at old new r p version h image heard is right complete learns whole_is installs =
    does-by at (λ w n. of_packet w n.exchange p) old new r (λ script ps n known takes. (
    let count = length old.node.description.handlers.items in
    let w : World = code_world old.node.description script ps in
    let by_h : completed_by p n.exchange ≡ Some h = sym (complete count n.exchange known) in
    let learned : heard ≡ knowledge count (Hears p ∷ n.exchange) = learns count n.exchange known in
    let made : collected_image h.0 (Hears p ∷ n.exchange) ≡ Some image = sym (whole_is count (Hears p ∷ n.exchange) learned) in
    let effect_is = fragment-installs w n.exchange p version h image is by_h made in
    let below : h.0 < count = subst (λ (k : ℕ). h.0 < k) (handler_count old.exchange count n.exchange known) (completed-handler (length old.exchange.handlers) p n.exchange h right by_h) in
    let taken : IsTaken w (seen_as old n) (program_in h version image) = takes (program_in h version image) (ap (λ (e : NodeEffect). e.deed) effect_is) in
    subst (λ (e : NodeEffect). DoesEffect w (seen_as old n) e at old new r) (sym effect_is)
    (does-install script ps n (Hears p ∷ []) (program_in h version image) at old new heard r learned refl below taken installs)
    ))

-- of a line
pub does-inject : (at : Stamp) (old new : Mote) (r : Effect) (p : HeldProgram) → p.handler.0 < length old.node.description.handlers.items
    → InstallsImage at p.handler p.version p.image.items old new r ⊎ LeavesImage p.handler p.version p.image.items old new r → DoesBy at (λ _ _. of_line (Inject p)) old new r
does-inject at old new r p below installs =
    does-by at (λ _ _. of_line (Inject p)) old new r (λ script ps n known takes. does-install script ps n [] p at old new old.exchange r known refl below (takes p refl) installs)

-- ---- a packet that is only heard

does-heard : (at : Stamp) (old : Mote) (r : Effect) (p : Packet) (heard : Knowledge) → IsTimely at old.node.log
    → ((w : World) (n : ℕ) (hs : List Happening) → old.exchange ≡ knowledge n hs → of_packet w hs p ≡ record no_effect { happened = Hears p ∷ [] }) → Learns old.exchange (Hears p) heard → r ≡ plain_effect
    → DoesBy at (λ w n. of_packet w n.exchange p) old (record old { exchange = heard }) r
does-heard at old r p heard timely only learns plain =
    does-by at (λ w n. of_packet w n.exchange p) old (record old { exchange = heard }) r (λ script ps n known takes. (
    let count = length old.node.description.handlers.items in
    let w : World = code_world old.node.description script ps in
    subst (λ (e : NodeEffect). DoesEffect w (seen_as old n) e at old (record old { exchange = heard }) r) (sym (only w count n.exchange known))
    (does-quietly w n [] (Hears p ∷ []) None [] at old (record old { exchange = heard }) r timely refl refl (learns count n.exchange known) refl refl (plain-quietly (seen_as old n) (Hears p ∷ []) r plain))
    ))

-- a fragment with which no image becomes complete
pub does-fragment : (at : Stamp) (old : Mote) (r : Effect) (p : Packet) (version : ℕ) (heard : Knowledge) (complete : Option HandlerId) → IsTimely at old.node.log → IsFragmentOf version p
    → Whatever old.exchange (λ n hs. complete ≡ completed_by p hs) → complete ≡ None → Learns old.exchange (Hears p) heard → r ≡ plain_effect
    → DoesBy at (λ w n. of_packet w n.exchange p) old (record old { exchange = heard }) r
does-fragment at old r p version heard complete timely is completes none learns plain =
    does-heard at old r p heard timely (λ w n hs known. fragment-stays w hs p version is (sym (completes n hs known) ∙ none)) learns plain

pub does-status : (at : Stamp) (old : Mote) (r : Effect) (p : Packet) (g : HandlerId) (version missing : ℕ) (heard : Knowledge) → IsTimely at old.node.log → p ≡ Status g version missing
    → Learns old.exchange (Hears p) heard → r ≡ plain_effect → DoesBy at (λ w n. of_packet w n.exchange p) old (record old { exchange = heard }) r
does-status at old r p g version missing heard timely is learns plain =
    does-heard at old r p heard timely (λ w n hs known. subst (λ (q : Packet). of_packet w hs q ≡ record no_effect { happened = Hears q ∷ [] }) (sym is) refl) learns plain

-- ---- a Vector

pub does-vector : (at : Stamp) (old new : Mote) (r : Effect) (p : Packet) (versions : ArrayVec ℕ) → IsTimely at old.node.log → p ≡ Vector versions
    → ((n : ℕ) (hs : List Happening) (vs : ArrayVec ℕ) → old.exchange ≡ knowledge n hs → p ≡ Vector vs → HearsVector at vs.items n hs old new r) → DoesBy at (λ w n. of_packet w n.exchange p) old new r
does-vector at old new r p versions timely is hears =
    does-by at (λ w n. of_packet w n.exchange p) old new r (λ script ps n known takes. (
    let count = length old.node.description.handlers.items in
    let w : World = code_world old.node.description script ps in
    let h = hears count n.exchange versions known is in
    let event : trickle.TimerEvent = heard_as (bytes_eq versions.items (held_versions count n.exchange)) in
    let asks : List Packet = asks_after count (Vector versions) n.exchange in
    let E : NodeEffect = quietly [] (Hears (Vector versions) ∷ []) (Some event) asks in
    subst (λ (q : Packet). DoesEffect w (seen_as old n) (of_packet w n.exchange q) at old new r) (sym is)
    (does-quietly w n [] (Hears (Vector versions) ∷ []) (Some event) asks at old new r timely (ap (λ (m : Mote). m.node) h.same) h.timer h.exchange (ap (λ (m : Mote). m.pumps) h.same)
    (ap (λ (m : Mote). m.calls) h.same) (subst (IsEffectBy (seen_as old n) E) (sym h.effect) (record { first = refl; begins = refl; cuts = refl; resets = refl; sends = refl })))
    ))

-- ---- a message

pub does-message : (d : Description) (at : Stamp) (old new : Mote) (r : Effect) (p : Packet) (payload : ArrayVec ℤ) (heard : Knowledge) → old.node.description ≡ d → p ≡ App payload → Learns old.exchange (Hears p) heard
    → TellsAlone at (Pacing (Occasions (machine_in d) payload (receivers_below d (length d.handlers.items)) (heard_of old.node))) (record old { exchange = heard }) new → r ≡ plain_effect
    → DoesBy at (λ w n. of_packet w n.exchange p) old new r
does-message d at old new r p payload heard shown is learns told plain =
    does-by at (λ w n. of_packet w n.exchange p) old new r (λ script ps n known takes. (
    let count = length old.node.description.handlers.items in
    let w : World = code_world old.node.description script ps in
    let D : Description → Type 0 = λ x. TellsAlone at (Pacing (Occasions (machine_in x) payload (receivers_below x (length x.handlers.items)) (heard_of old.node))) (record old { exchange = heard }) new in
    let t = subst D (sym shown) told in
    let T : List HandlerId → Type 0 = λ hs. Tells old.node new.node at (Pacing (Occasions (machine_in old.node.description) payload hs (heard_of old.node))) in
    let E : NodeEffect = record no_effect { deed = Posting (receivers w) payload; happened = Hears (App payload) ∷ [] } in
    let learned : heard ≡ knowledge count (Hears (App payload) ∷ n.exchange) = learns count n.exchange known ∙ ap (λ (q : Packet). knowledge count (Hears q ∷ n.exchange)) is in
    subst (λ (q : Packet). DoesEffect w (seen_as old n) (of_packet w n.exchange q) at old new r) (sym is) (record {
      tells = subst T (sym (receivers-are w)) t.tells;
      timer = ap (λ (m : Mote). m.timer) t.same;
      exchange = ap (λ (m : Mote). m.exchange) t.same ∙ learned;
      pumps = ap (λ (m : Mote). m.pumps) t.same ∙ stays-on old.pumps false refl;
      calls = ap (λ (m : Mote). m.calls) t.same;
      effect = subst (IsEffectBy (seen_as old n) E) (sym plain) (record { first = refl; begins = refl; cuts = refl; resets = refl; sends = refl });
    })
    ))

-- ---- what is recorded of it

pub does-got : (at : Stamp) (old new : Mote) (r : Effect) (p : Packet) (a : Air) → DoesBy at (λ w n. of_packet w n.exchange p) old new r
    → DoesBy at (λ w n. record (of_packet w n.exchange p) { first = a ∷ [] }) old new (record r { first = Some a })
does-got at old new r p a does d script ps k n is takes =
    let x = does d script ps k n is takes in
    record {
      tells = x.tells;
      timer = x.timer;
      exchange = x.exchange;
      pumps = x.pumps;
      calls = x.calls;
      effect = record { first = refl; begins = x.effect.begins; cuts = x.effect.cuts; resets = x.effect.resets; sends = x.effect.sends };
    }

pub one-packet : {E : Type 0} (read : Result Packet E) (p q : Packet) → read ≡ Ok p → read ≡ Ok q → p ≡ q
one-packet read p q first second = cc
