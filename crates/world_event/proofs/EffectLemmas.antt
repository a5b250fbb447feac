-- What a mote does by the rules' effect, whatever the node is that it stands for.
use Rattle.std.proofs.Common.{◌≡◌, ℕ, ◌<◌, ◌≤◌, Bool, true, false, ◌&&◌, ◌||◌, List, [], ◌∷◌, ◌++◌, length, Option, Some, None, refl, sym, ◌∙◌, ap, subst, arith, inl, inr}
use Rattle.std.specs.Prelude.{not, ◌⊎◌, Ok, Err}
use Rattle.mate_num.specs.declared.call.Stamp.{Stamp}
use Rattle.mate_journal.specs.declared.air.Air.{Air}
use Rattle.mate_journal.specs.declared.program.Program.{Program}
use Rattle.mate_journal.specs.Machine.{HeldProgram}
use Rattle.mate_journal.specs.Journal.{JournalEntry, NodeState, held}
use Rattle.mate_journal.specs.NodeScript.{Installs as InstallsTold}
use Rattle.mate_journal.specs.Pace.{Pace}
use Rattle.capsule_codec.specs.Image.{CapsuleParts}
use Rattle.capsule_codec.specs.Reading.{capsule_in}
use Rattle.mate_code.specs.BytesVerification.{bytes_verification}
use Rattle.node_state.specs.Meaning.{machine_in}
use Rattle.node_state.specs.Keeps.{IsTimely}
use Rattle.node_state.proofs.KeepLemmas.{Grows-none}
use Rattle.node_calls.specs.Installing.{InstallsBytes, Refuses, IsRightCapsule, program_by, capsule_handler}
use Rattle.node_calls.specs.declared.installing.InstallFault.{InstallFault}
use Rattle.node_calls.specs.declared.installing.InstallFault.TheVariants.{Capsule, Code, NotNewer}
use Rattle.node_open.specs.View.{NodeView, heard_of, Tells}
use Rattle.node_open.specs.Calls.{Pacing}
use Rattle.packet_codec.specs.declared.packet.Packet.{Packet}
use Rattle.trickle_timer.specs.Intervals as trickle
use Rattle.trickle_timer.specs.Timer.{Timer}
use Rattle.capsule_exchange.specs.Happenings.{Happening, Installs, held_version}
use Rattle.capsule_exchange.specs.Knowledge.{Knowledge, knowledge, held_of}
use Rattle.capsule_exchange.proofs.KnowledgeLemmas.{held_of-knowledge}
use Rattle.vm_shape.specs.declared.description.Description.{Description}
use Rattle.vm_shape.specs.Shapes.{shape_of}
use Rattle.script_steps.specs.declared.world.World.{World as Script}
use Rattle.world_rules.specs.Cause.{Cause}
use Rattle.world_rules.specs.World.{World, handlers}
use Rattle.world_rules.specs.Effect.{Node, NodeEffect, Deed, Nothing, Installing, no_effect, node_effect, cuts, resets}
use Rattle.world_rules.specs.Run.{DeedMakes}
use Rattle.world_rules.specs.State.{timer_after, is_pump}
use Rattle.world_air.specs.Calls.{AreCallsOf}
use Rattle.world_run_laws.specs.Coming.{code_world, IsTaken}
use Rattle.world_state.specs.declared.effect.Effect.{Effect}
use Rattle.world_state.specs.declared.mote.Mote.{Mote}
use Rattle.world_state.specs.Motes.{TellsAlone, InstallsImage, LeavesImage, IsNotInstalled, plain_effect}
use Rattle.world_state.specs.Standing.{IsMoteOf, IsEffectBy}
use Rattle.world_event.specs.Handling.{TakesProgram, DoesEffect, DoesBy, Handled}
use Rattle.node_open.proofs.CallLemmas.{Tells-by}

-- ---- the node as the mote shows it

abbrev pub seen_as : Mote → Node → Node
seen_as m n = record { reading = heard_of m.node; pace = n.pace; timer = m.timer; exchange = n.exchange; pumps = m.pumps; called = n.called }

seen-is : (w : World) (k : ℕ) (n : Node) (m : Mote) → IsMoteOf w k n m → seen_as m n ≡ n
seen-is w k n m is =
    let N : NodeState → Timer → Bool → Node = λ r t b. record { reading = r; pace = n.pace; timer = t; exchange = n.exchange; pumps = b; called = n.called } in
    ap (λ (r : NodeState). N r m.timer m.pumps) is.reading ∙ ap (λ (t : Timer). N n.reading t m.pumps) is.timer ∙ ap (λ (b : Bool). N n.reading n.timer b) is.pumps

abbrev pub DoesSeen : Stamp → (World → Node → NodeEffect) → Mote → Mote → Effect → Description → Script → List Program → Node → Type 0
DoesSeen at effect old new r d script ps n =
    old.exchange ≡ knowledge (length d.handlers.items) n.exchange → TakesProgram (code_world d script ps) n (effect (code_world d script ps) n)
    → DoesEffect (code_world d script ps) n (effect (code_world d script ps) n) at old new r

-- it is enough to look at the machine and the node that the mote shows
pub does-here : (at : Stamp) (effect : World → Node → NodeEffect) (old new : Mote) (r : Effect) (d : Description) (script : Script) (ps : List Program) (k : ℕ) (n : Node) → IsMoteOf (code_world d script ps) k n old
    → DoesSeen at effect old new r old.node.description script ps (seen_as old n) → TakesProgram (code_world d script ps) n (effect (code_world d script ps) n)
    → DoesEffect (code_world d script ps) n (effect (code_world d script ps) n) at old new r
does-here at effect old new r d script ps k n is here takes =
    let D : Description → Type 0 = λ x. DoesSeen at effect old new r x script ps (seen_as old n) in
    let N : Node → Type 0 = λ x. DoesSeen at effect old new r d script ps x in
    subst N (seen-is (code_world d script ps) k n old is) (subst D is.description here) is.exchange takes

pub does-by : (at : Stamp) (effect : World → Node → NodeEffect) (old new : Mote) (r : Effect)
    → ((script : Script) (ps : List Program) (n : Node) → DoesSeen at effect old new r old.node.description script ps (seen_as old n)) → DoesBy at effect old new r
does-by at effect old new r here d script ps k n is takes = does-here at effect old new r d script ps k n is (here script ps n) takes

-- ---- an event that has the effect

pub handled : (w : World) (k : ℕ) (n : Node) (c : Cause) (e : NodeEffect) (at : Stamp) (old new : Mote) (r : Effect)
    → IsMoteOf w k n old → node_effect w n c ≡ e → is_pump c ≡ false → DoesEffect w n e at old new r → Handled w k n c at old new r
handled w k n c e at old new r is same no_pump given =
    let does : DoesEffect w n (node_effect w n c) at old new r = subst (λ (x : NodeEffect). DoesEffect w n x at old new r) (sym same) given in
    record {
      tells = does.tells;
      timer = does.timer;
      exchange = does.exchange;
      pumps = does.pumps ∙ ap (λ (b : Bool). n.pumps && not (b || resets (node_effect w n c).deed)) (sym no_pump);
      calls = subst (AreCallsOf w k n.called) (sym does.calls) is.calls;
      effect = does.effect;
    }

-- ---- what is told

pub tells-nothing : (old new : NodeView) (at : Stamp) → IsTimely at old.log → new ≡ old → Tells old new at (Pacing (λ _ told. told ≡ []))
tells-nothing old new at timely same = subst (λ (v : NodeView). Tells old v at (Pacing (λ _ told. told ≡ []))) (sym same) (record {
  told = [];
  description = refl;
  grows = Grows-none old.log at timely;
  gone = refl;
  places = omega arith;
  paces = λ p has. (p, (refl, refl), has);
})

pub stays-on : (b c : Bool) → c ≡ false → b ≡ (b && not c)
stays-on true c is = ap not (sym is)
stays-on false c is = refl

-- a deed that changes the journal alone
pub does-alone : (w : World) (n : Node) (deed : Deed) (at : Stamp) (old new : Mote) (r : Effect) (Rule : Pace → List JournalEntry → Type 0)
    → cuts deed ≡ false → resets deed ≡ false → old.exchange ≡ knowledge (handlers w) n.exchange → TellsAlone at (Pacing Rule) old new
    → ((p : Pace) (told : List JournalEntry) → Rule p told → DeedMakes w.machine deed (heard_of old.node) p told) → r ≡ plain_effect
    → DoesEffect w (seen_as old n) (record no_effect { deed = deed }) at old new r
does-alone w n deed at old new r Rule no_cut no_reset known t goes plain = record {
  tells = Tells-by old.node new.node at (Pacing Rule) (Pacing (DeedMakes w.machine deed (heard_of old.node))) (λ p told q h. (goes p told h.0, h.1)) t.tells;
  timer = ap (λ (m : Mote). m.timer) t.same;
  exchange = ap (λ (m : Mote). m.exchange) t.same ∙ known;
  pumps = ap (λ (m : Mote). m.pumps) t.same ∙ stays-on old.pumps (resets deed) no_reset;
  calls = ap (λ (m : Mote). m.calls) t.same;
  effect = subst (λ (x : Effect). IsEffectBy (seen_as old n) (record no_effect { deed = deed }) x) (sym plain) (record { first = refl; begins = refl; cuts = sym no_cut; resets = sym no_reset; sends = refl });
}

abbrev pub quietly : List Air → List Happening → Option trickle.TimerEvent → List Packet → NodeEffect
quietly first happened timer sends = record { first = first; deed = Nothing; happened = happened; timer = timer; sends = sends }

pub plain-quietly : (n : Node) (happened : List Happening) (r : Effect) → r ≡ plain_effect → IsEffectBy n (quietly [] happened None []) r
plain-quietly n happened r plain = subst (IsEffectBy n (quietly [] happened None [])) (sym plain) (record { first = refl; begins = refl; cuts = refl; resets = refl; sends = refl })

-- no deed
pub does-quietly : (w : World) (n : Node) (first : List Air) (happened : List Happening) (timer : Option trickle.TimerEvent) (sends : List Packet) (at : Stamp) (old new : Mote) (r : Effect)
    → IsTimely at old.node.log → new.node ≡ old.node → new.timer ≡ timer_after (seen_as old n) (quietly first happened timer sends) at.time
    → new.exchange ≡ knowledge (handlers w) (happened ++ n.exchange) → new.pumps ≡ old.pumps → new.calls ≡ old.calls → IsEffectBy (seen_as old n) (quietly first happened timer sends) r
    → DoesEffect w (seen_as old n) (quietly first happened timer sends) at old new r
does-quietly w n first happened timer sends at old new r timely same times learned pumps calls effect = record {
  tells = tells-nothing old.node new.node at timely same;
  timer = times;
  exchange = learned;
  pumps = pumps ∙ stays-on old.pumps false refl;
  calls = calls;
  effect = effect;
}

-- ---- installs

one-capsule : (d : Description) (bytes : List ℕ) (a b : CapsuleParts) → capsule_in d bytes ≡ Ok a → capsule_in d bytes ≡ Ok b → a ≡ b
one-capsule d bytes a b first second = cc

not-refused : (d : Description) (r : NodeState) (bytes : List ℕ) (c : CapsuleParts) (fault : InstallFault) → IsRightCapsule d bytes c → held r (capsule_handler c) < c.version → Refuses d r bytes fault → ⊥
not-refused d r bytes c (Capsule fault) right newer refused = let a = right.decoded in cc
not-refused d r bytes c (Code fault) right newer refused =
    let same : refused.capsule ≡ c = one-capsule d bytes refused.capsule c refused.decoded right.decoded in
    let failed : bytes_verification (shape_of d) c.code ≡ Err fault = subst (λ (x : CapsuleParts). bytes_verification (shape_of d) x.code ≡ Err fault) same refused.refused in
    let passed = right.verified in cc
not-refused d r bytes c (NotNewer version) right newer refused =
    let same : refused.capsule ≡ c = one-capsule d bytes refused.capsule c refused.right.decoded right.decoded in
    let older : c.version ≤ held r (capsule_handler c) = subst (λ (x : CapsuleParts). x.version ≤ held r (capsule_handler x)) same refused.older in
    omega (arith, older, newer)

-- a program that is taken is installed
taken-newer : (w : World) (n : Node) (p : HeldProgram) (t : IsTaken w n p) → held n.reading (capsule_handler t.capsule) < t.capsule.version
taken-newer w n p t = subst (λ (x : HeldProgram). held n.reading x.handler < x.version) (sym t.is) t.newer

not-left : (script : Script) (ps : List Program) (n : Node) (p : HeldProgram) (old : Mote) (known : Knowledge) (hs : List Happening)
    → known ≡ knowledge (length old.node.description.handlers.items) hs → held_version p.handler.0 hs ≡ held_version p.handler.0 n.exchange → p.handler.0 < length old.node.description.handlers.items
    → IsTaken (code_world old.node.description script ps) (seen_as old n) p → IsNotInstalled p.handler p.version p.image.items (record old { exchange = known }) → ⊥
not-left script ps n p old known hs is same below t (inl older) =
    let count = length old.node.description.handlers.items in
    let holds : held_of known p.handler ≡ held_version p.handler.0 n.exchange = ap (λ (k : Knowledge). held_of k p.handler) is ∙ held_of-knowledge count hs p.handler below ∙ same in
    let newer = t.newer_known in omega (arith, older, holds, newer)
not-left script ps n p old known hs is same below t (inr (inl empty)) = t.filled empty
not-left script ps n p old known hs is same below t (inr (inr refused)) =
    not-refused old.node.description (heard_of old.node) p.image.items t.capsule refused.0 t.right (taken-newer (code_world old.node.description script ps) (seen_as old n) p t) refused.1

module _ (script : Script) (ps : List Program) (n : Node) (earlier : List Happening) (p : HeldProgram) (at : Stamp) (old new : Mote) (known : Knowledge) (r : Effect)
    (is : known ≡ knowledge (length old.node.description.handlers.items) (earlier ++ n.exchange)) (same : held_version p.handler.0 (earlier ++ n.exchange) ≡ held_version p.handler.0 n.exchange)
    (below : p.handler.0 < length old.node.description.handlers.items) (t : IsTaken (code_world old.node.description script ps) (seen_as old n) p) where
  abbrev d : Description
  d = old.node.description

  abbrev pub installing : NodeEffect
  installing = record no_effect { deed = Installing p; happened = Installs p.handler.0 p.version p.image.items ∷ earlier; timer = Some trickle.Reset }

  its-program : (q : Pace) (told : List JournalEntry) → InstallsBytes d (heard_of old.node) p.image.items q told → InstallsTold (machine_in d) (heard_of old.node) q p told
  its-program q told x =
      let one : x.capsule ≡ t.capsule = one-capsule d p.image.items x.capsule t.capsule x.right.decoded t.right.decoded in
      subst (λ (y : HeldProgram). InstallsTold (machine_in d) (heard_of old.node) q y told) (ap (λ (y : CapsuleParts). program_by y p.image.items) one ∙ t.is) x.installs

  pub does-install : InstallsImage at p.handler p.version p.image.items (record old { exchange = known }) new r ⊎ LeavesImage p.handler p.version p.image.items (record old { exchange = known }) new r
      → DoesEffect (code_world d script ps) (seen_as old n) installing at old new r
  does-install (inl i) = record {
    tells =
        Tells-by old.node new.node at (Pacing (InstallsBytes d (heard_of old.node) p.image.items)) (Pacing (λ (q : Pace) (told : List JournalEntry). InstallsTold (machine_in d) (heard_of old.node) q p told))
        (λ q told after h. (its-program q told h.0, h.1)) i.tells;
    timer = i.timer;
    exchange = i.exchange (length d.handlers.items) (earlier ++ n.exchange) is;
    pumps = i.pumps ∙ stays-on old.pumps false refl;
    calls = i.calls;
    effect = subst (λ (x : Effect). IsEffectBy (seen_as old n) installing x) (sym i.effect) (record { first = refl; begins = refl; cuts = refl; resets = refl; sends = refl });
  }
  does-install (inr l) = absurd (not-left script ps n p old known (earlier ++ n.exchange) is same below t l.why)
