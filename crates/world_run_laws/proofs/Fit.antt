-- Whatever is on the air is fit, where the messages of calls are.
use Rattle.std.proofs.Common.{◌≡◌, ◌<◌, ℕ, ◌^◌, true, List, [], ◌∷◌, ◌++◌, refl, sym, ◌∙◌, ap, subst, arith, inl, inr}
use Rattle.std.specs.Prelude.{Option, Some, None}
use Rattle.std.specs.List.{cons_option, range_with_len}
use Rattle.std.proofs.lemmas.Bool.{cases_lt}
use Rattle.std.proofs.lemmas.Bool.Decides.{eqb_tells}
use Rattle.arrayvec.specs.ArrayVec.{ArrayVec}
use Rattle.mate_num.specs.declared.id.FunId.{FunId}
use Rattle.mate_journal.specs.Journal.{JournalEntry, Asked}
use Rattle.mate_journal.specs.Pace.{no_pace}
use Rattle.packet_codec.specs.declared.packet.Packet.{Packet}
use Rattle.packet_codec.specs.declared.packet.Packet.TheVariants.{Vector, App}
use Rattle.capsule_exchange.specs.Happenings.{Happening, held_version, asks_after}
use Rattle.world_rules.specs.Cause.{Cause}
use Rattle.world_rules.specs.Cause as event
use Rattle.world_rules.specs.World.{World, handlers, called_kind}
use Rattle.world_rules.specs.Effect.{Node, NodeEffect, event_node}
use Rattle.world_rules.specs.State.{Moment, WorldState, Scheduled, of_interval, is_send_kind, message_in, messages, packets_of, node_at, effect_at, node_after, start_node, lines_from, first_of, world_start, state}
use Rattle.world_rules.specs.Run.{IsNext, HaveCome}
use Rattle.world_laws.specs.Packets.{SendsFor, TellsVersions, AsksFor, OwesFragment, IsMessage}
use Rattle.mate_num.specs.Lists.{Among}
use Rattle.mate_num.proofs.ListLemmas.{each-among, among-append, among-right, among-flat_map}
use Rattle.world_laws.proofs.OfTime.{among-un_of_time, apart}
use Rattle.world_laws.proofs.Due.{at, due-from, kind, Source, period, interval, delivery, pump, answer, source}
use Rattle.world_laws.proofs.Happens.{Happens, nothing, injected, heard, completed, forgot, sent, happens}
use Rattle.world_laws.proofs.Origins.{among-get, place-of}
use Rattle.world_laws.proofs.Packets.{packets_have_reasons}
use Rattle.world_laws.proofs.Points.{nodes-here, nodes-other, among-next, line-kind, period-kind, earlier-come}
use Rattle.world_laws.specs.Versions.{IsOneImage}
use Rattle.world_laws.specs.Installs.{WasInstalled}
use Rattle.world_laws.proofs.Tame.{of_interval-none, delivered-packet, numbered-among}
use Rattle.world_laws.proofs.Installs.{installs_its_own, held_was_installed}
use Rattle.world_laws.proofs.Injected.{IsOfInjected}
use Rattle.world_laws.proofs.Versions.{node-hears, IsInjectedWorld, run-injected, installs_injected}
use Rattle.world_air.specs.Air.{IsFitPacket, AreFitPackets}
use Rattle.world_run_laws.proofs.Open.{run-none}
use Rattle.world_run_laws.proofs.Heard.{AreProgramsFit, AreFitHeard, IsFitNode, EachFit, vector-fit, asks-fit, owed-fit}
use Rattle.world_run_laws.specs.Sound.{HaveFitMessages}

-- ---- what is held is of an injected version

pub held-fits : (w : World) (k h : ℕ) (ms : List Moment) → IsOneImage w → AreProgramsFit w → HaveCome w ms → held_version h ((state w ms).nodes k).exchange < 2 ^ 32
held-fits w k h ms one programs come = elim (cases_lt 0 (held_version h ((state w ms).nodes k).exchange)) [
  | inr none ↦ omega (arith, none)
  | inl some ↦ by (held_was_installed w k h ms come (omega (arith, some)))
] where
  by : WasInstalled w ms k h (held_version h ((state w ms).nodes k).exchange) → held_version h ((state w ms).nodes k).exchange < 2 ^ 32
  by was =
      let come_then : HaveCome w (was.moment ∷ was.older) = earlier-come w (was.moment ∷ was.older) was.newer (subst (λ (xs : List Moment). HaveCome w xs) was.split come) in
      let from = installs_injected w one was.moment was.older was.program come_then (installs_its_own w was.older was.moment was.program come_then was.entry) in
      let high : from.program.version < 2 ^ 32 = (programs from.place from.program from.injects).high in
      omega (arith, high, from.version_is, was.version_is)

-- ---- the packets of an event

-- a call's message is among the messages
message-among : (w : World) (told : List JournalEntry) (t : JournalEntry) (p : Packet) → Among t told → message_in w t ≡ Some p → Among p (messages w told)
message-among w [] t p a is = absurd a
message-among w (u ∷ told) t p a is = by (message_in w u) refl (λ b. message-among w told t p b is) a where
  by : (o : Option Packet) → message_in w u ≡ o → (Among t told → Among p (messages w told)) → Among t (u ∷ told) → Among p (cons_option o (messages w told))
  by None none rest (inl e) = let clash : None ≡ Some p = sym none ∙ ap (message_in w) e ∙ is in cc
  by None none rest (inr b) = rest b
  by (Some q) some rest (inl e) = let same : Some q ≡ Some p = sym some ∙ ap (message_in w) e ∙ is in let own : q ≡ p = cc in inl own
  by (Some q) some rest (inr b) = inr (rest b)

message-is : (w : World) (n : ℕ) (f : FunId) (args : ArrayVec _) → is_send_kind (called_kind w f) ≡ true → message_in w (Asked n f args) ≡ Some (App args)
message-is w n f args sends = rw sends refl

asked-fit : (w : World) (ms : List Moment) (hs : List Happening) (heard_it : Packet) → IsFitNode w ms hs → IsOfInjected w ms heard_it → IsFitPacket w heard_it → EachFit w (asks_after (handlers w) heard_it hs)
asked-fit w ms hs (Vector versions) node of fit p a = asks-fit w ms versions hs node (node-hears w ms hs (Vector versions) node.injected of) fit p a
asked-fit w ms hs _ node of fit p a = absurd a

sent-fit : (w : World) (ms : List Moment) (s : WorldState) (m : Moment) → IsFitNode w ms (node_at w s m).exchange → AreFitPackets w (messages w m.told)
    → ((j number : ℕ) (p : Packet) → m.cause ≡ event.Deliver j number p → IsOfInjected w ms p × IsFitPacket w p) → EachFit w (packets_of w s m)
sent-fit w ms s m node told got p a = by (packets_have_reasons w s m (place-of (packets_of w s m) p a).0 p (place-of (packets_of w s m) p a).1) where
  by : SendsFor w s m p → IsFitPacket w p
  by (TellsVersions k cause decides is) = subst (λ (x : Packet). IsFitPacket w x) (sym is) (vector-fit w ms (node_at w s m).exchange node)
  by (AsksFor link number i heard_it cause stands) =
      let came = got link number heard_it cause in
      asked-fit w ms (node_at w s m).exchange heard_it node came.0 came.1 p (among-get (asks_after (handlers w) heard_it (node_at w s m).exchange) i p stands)
  by (OwesFragment k slot cause next is) = subst (λ (x : Packet). IsFitPacket w x) (sym is) (owed-fit w ms (node_at w s m).exchange slot node next)
  by (IsMessage front rest n f args split sends is) =
      subst (λ (x : Packet). IsFitPacket w x) (sym is) (each-among (IsFitPacket w) (messages w m.told) (App args) told
      (message-among w m.told (Asked n f args) (App args) (subst (λ (ts : List JournalEntry). Among (Asked n f args) ts) (sym split) (among-right (Asked n f args) front (Asked n f args ∷ rest) (inl refl))) (message-is w n f args sends)))

-- ---- the world

pub record IsFitWorld (w : World) (s : WorldState) : Type 0 where
  pub nodes : (k : ℕ) → AreFitHeard w (s.nodes k).exchange
  pub air : (t j number : ℕ) (p : Packet) → Among (event.Deliver j number p) (s.due t) → IsFitPacket w p

heard-step : (w : World) (hs : List Happening) (c : Cause) (e : NodeEffect) → Happens w hs c e → ((j number : ℕ) (p : Packet) → c ≡ event.Deliver j number p → IsFitPacket w p) → AreFitHeard w hs → AreFitHeard w (e.happened ++ hs)
heard-step w hs c e how got old = by how where
  Goal : List Happening → Type 0
  Goal new = AreFitHeard w (new ++ hs)

  by : Happens w hs c e → AreFitHeard w (e.happened ++ hs)
  by (nothing is) = subst Goal (sym is) old
  by (injected x p from is deed) = subst Goal (sym is) (tt, old)
  by (heard j number packet cause is none) = subst Goal (sym is) (got j number packet cause, old)
  by (completed j number packet p cause is deed complete same) = subst Goal (sym is) (tt, (got j number packet cause, old))
  by (forgot is deed) = subst Goal (sym is) (tt, old)
  by (sent k slot cause is next) = subst Goal (sym is) (tt, old)

new-fit : (w : World) (s : WorldState) (m : Moment) (t j number : ℕ) (p : Packet) → EachFit w (packets_of w s m) → Source w s m (at t (event.Deliver j number p)) → IsFitPacket w p
new-fit w s m t j number p each (period is later) = absurd (apart 6 1 refl is)
new-fit w s m t j number p each (interval l is a) = absurd (of_interval-none w s m t j number p (event_node w m.cause) (node_after w (node_at w s m) m).timer a)
new-fit w s m t j number p each (delivery sending link among leaves kept is) =
    let same : sending.packet ≡ p = sym (ap (λ (x : Scheduled). delivered-packet x.cause) is) in
    subst (λ (x : Packet). IsFitPacket w x) same (each sending.packet (numbered-among sending _ _ (packets_of w s m) among))
new-fit w s m t j number p each (pump is) = absurd (apart 6 4 refl (ap (λ (x : Scheduled). kind x.cause) is))
new-fit w s m t j number p each (answer is later call) = absurd (apart 6 5 refl is)

start-fit : (w : World) (t j number : ℕ) (p : Packet) → Among (event.Deliver j number p) ((world_start w).due t) → IsFitPacket w p
start-fit w t j number p a = elim (among-append (at t (event.Deliver j number p)) (lines_from 0 w.plan) _ (among-un_of_time t (event.Deliver j number p) _ a)) [
  | inl line ↦ absurd (apart 6 0 refl (line-kind (at t (event.Deliver j number p)) 0 w.plan line))
  | inr b ↦ let node = among-flat_map (first_of w) (at t (event.Deliver j number p)) (range_with_len 0 w.nodes) b in
      elim (among-append (at t (event.Deliver j number p)) (of_interval node.0 (start_node w node.0).timer) _ node.2) [
        | inl c ↦ absurd (of_interval-none w (world_start w) (record { time = 0; cause = event.Pump 0; told = []; pace = no_pace }) t j number p node.0 (start_node w node.0).timer c)
        | inr d ↦ absurd (apart 6 1 refl (period-kind w (at t (event.Deliver j number p)) node.0 d))
      ]
]

fit-step : (w : World) (m : Moment) (before : List Moment) → IsOneImage w → AreProgramsFit w → HaveCome w before → IsNext (state w before) m.time m.cause → AreFitPackets w (messages w m.told) → IsFitWorld w (state w before)
    → IsFitWorld w (state w (m ∷ before))
fit-step w m before one programs come next told old = record {
  nodes = λ k. elim (eqb_tells k (event_node w m.cause)) [
    | inl same ↦ subst (λ (i : ℕ). AreFitHeard w ((state w (m ∷ before)).nodes i).exchange) (sym same.1) (subst (λ (n : Node). AreFitHeard w n.exchange) (sym (nodes-here w (state w before) m)) here)
    | inr other ↦ subst (λ (n : Node). AreFitHeard w n.exchange) (sym (nodes-other w (state w before) m k other.1)) (old.nodes k)
  ];
  air = λ t j number p a. elim (due-from w (state w before) m t (event.Deliver j number p) a) [
    | inl was ↦ old.air t j number p was.0
    | inr new ↦ new-fit w (state w before) m t j number p (sent-fit w before (state w before) m node told got) (source w (state w before) m (at t (event.Deliver j number p)) new)
  ];
} where
  images : IsInjectedWorld w before (state w before)
  images = run-injected w before one come

  due : (j number : ℕ) (p : Packet) → m.cause ≡ event.Deliver j number p → Among (event.Deliver j number p) ((state w before).due m.time)
  due j number p is = subst (λ (c : Cause). Among c ((state w before).due m.time)) is (among-next (state w before) m.time m.cause next)

  got : (j number : ℕ) (p : Packet) → m.cause ≡ event.Deliver j number p → IsOfInjected w before p × IsFitPacket w p
  got j number p is = (images.air m.time j number p (due j number p is), old.air m.time j number p (due j number p is))

  node : IsFitNode w before (node_at w (state w before) m).exchange
  node = record {
    one = one;
    programs = programs;
    injected = images.nodes (event_node w m.cause);
    none = λ h. run-none w (event_node w m.cause) h before;
    heard = old.nodes (event_node w m.cause);
    held = λ h. held-fits w (event_node w m.cause) h before one programs come;
  }

  here : AreFitHeard w ((effect_at w (state w before) m).happened ++ (node_at w (state w before) m).exchange)
  here = heard-step w (node_at w (state w before) m).exchange m.cause (effect_at w (state w before) m) (happens w (node_at w (state w before) m) m.cause)
      (λ j number p is. (got j number p is).1) (old.nodes (event_node w m.cause))

pub run-fit : (w : World) (ms : List Moment) → IsOneImage w → AreProgramsFit w → HaveCome w ms → HaveFitMessages w ms → IsFitWorld w (state w ms)
run-fit w [] one programs come told = record { nodes = λ k. tt; air = λ t j number p a. start-fit w t j number p a }
run-fit w (m ∷ before) one programs come told = fit-step w m before one programs come.0 come.1.next told.1 (run-fit w before one programs come.0 told.0)
