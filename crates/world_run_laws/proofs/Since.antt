-- What a node heard since its last reset.
use Rattle.std.proofs.Common.{◌≡◌, ◌≤◌, ℕ, Bool, true, false, cond, List, [], ◌∷◌, ◌++◌, map, refl, sym, ◌∙◌, ap, subst, arith, inl, inr, ◌⊎◌}
use Rattle.std.specs.Prelude.{Option, nat_lt, ◌==◌, if◌then◌else◌}
use Rattle.std.specs.List.{filter}
use Rattle.std.specs.Option.{option_map_or}
use Rattle.std.proofs.lemmas.Bool.Decides.{eqb_tells}
use Rattle.mate_num.specs.Lists.{Among}
use Rattle.mate_num.proofs.ListLemmas.{among-append}
use Rattle.packet_codec.specs.declared.packet.Packet.{Packet}
use Rattle.capsule_exchange.specs.Happenings.{Happening, Hears, Installs, Forgets, heard_since, version_in, greatest}
use Rattle.world_rules.specs.Cause.{Cause}
use Rattle.world_rules.specs.Cause as event
use Rattle.world_rules.specs.World.{World, PlannedLine, Want, receiver}
use Rattle.world_rules.specs.Effect.{Node, NodeEffect, Resetting, event_node, no_effect, node_effect, of_line, resets}
use Rattle.world_rules.specs.State.{Moment, effect_at, node_at, state}
use Rattle.world_laws.proofs.Happens.{Happens, nothing, injected, heard, completed, forgot, sent, happens}
use Rattle.world_laws.proofs.HopBound.{head-is, tail-is}
use Rattle.world_laws.proofs.Points.{nodes-here, nodes-other}
use Rattle.world_run_laws.proofs.Lines.{resets-by}

-- one of these events brought the packet to the node, and none after it resets the node
pub record WasHeard (w : World) (ms : List Moment) (k : ℕ) (p : Packet) : Type 0 where
  pub newer : List Moment
  pub moment : Moment
  pub older : List Moment
  pub split : ms ≡ newer ++ moment ∷ older
  pub link : ℕ
  pub number : ℕ
  pub cause : moment.cause ≡ event.Deliver link number p
  pub to : receiver w link ≡ k
  pub kept : (x : Moment) (front rest : List Moment) → newer ≡ front ++ x ∷ rest → event_node w x.cause ≡ k → (effect_at w (state w (rest ++ moment ∷ older)) x).deed ≡ Resetting → ⊥

none-in : (front rest : List Moment) (x : Moment) → [] ≡ front ++ x ∷ rest → ⊥
none-in [] rest x is = cc
none-in (y ∷ front) rest x is = cc

heard-before : (w : World) (m : Moment) (before : List Moment) (k : ℕ) (p : Packet) → (event_node w m.cause ≡ k → (effect_at w (state w before) m).deed ≡ Resetting → ⊥) → WasHeard w before k p → WasHeard w (m ∷ before) k p
heard-before w m before k p calm was = record {
  newer = m ∷ was.newer;
  moment = was.moment;
  older = was.older;
  split = ap (λ (ms : List Moment). m ∷ ms) was.split;
  link = was.link;
  number = was.number;
  cause = was.cause;
  to = was.to;
  kept = kept;
} where
  kept : (x : Moment) (front rest : List Moment) → m ∷ was.newer ≡ front ++ x ∷ rest → event_node w x.cause ≡ k → (effect_at w (state w (rest ++ was.moment ∷ was.older)) x).deed ≡ Resetting → ⊥
  kept x [] rest is node deed =
      let same : m ≡ x = head-is m x was.newer rest is in
      let whole : before ≡ rest ++ was.moment ∷ was.older = was.split ∙ ap (λ (ms : List Moment). ms ++ was.moment ∷ was.older) (tail-is m x was.newer rest is) in
      calm (ap (λ (y : Moment). event_node w y.cause) same ∙ node)
      (ap (λ (y : Moment). (effect_at w (state w before) y).deed) same ∙ ap (λ (ms : List Moment). (effect_at w (state w ms) x).deed) whole ∙ deed)
  kept x (y ∷ front) rest is node deed = was.kept x front rest (tail-is m y was.newer (front ++ x ∷ rest) is) node deed

-- a reset forgets
forgets : (w : World) (n : Node) (c : Cause) → (node_effect w n c).deed ≡ Resetting → (node_effect w n c).happened ≡ Forgets ∷ []
forgets w n c is = elim (resets-by w n c) [
  | inl calm ↦ (let clash : true ≡ false = sym (ap resets is) ∙ calm in cc)
  | inr found ↦ ap (λ (x : Cause). (node_effect w n x).happened) found.cause
      ∙ ap (λ (o : Option PlannedLine). (option_map_or (λ (l : PlannedLine). of_line l.what) o no_effect).happened) found.stands
      ∙ ap (λ (x : Want). (of_line x).happened) found.says
]

installs-since : (h g version : ℕ) (image : List ℕ) (hs : List Happening) (p : Packet) → Among p (heard_since h (Installs g version image ∷ hs)) → Among p (heard_since h hs)
installs-since h g version image hs p a = by (g == h) a where
  by : (b : Bool) → Among p (if b then [] else heard_since h hs) → Among p (heard_since h hs)
  by true none = absurd none
  by false had = had

-- a packet of the list was there before, or the event brought it
heard-now : (w : World) (h : ℕ) (hs : List Happening) (c : Cause) (e : NodeEffect) (p : Packet) → Happens w hs c e → Among p (heard_since h (e.happened ++ hs))
    → Among p (heard_since h hs) ⊎ ((link : ℕ) × (number : ℕ) × (c ≡ event.Deliver link number p))
heard-now w h hs c e p how a = by how where
  Had : List Happening → Type 0
  Had new = Among p (heard_since h (new ++ hs))

  last : (j number : ℕ) (packet : Packet) → c ≡ event.Deliver j number packet → Among p (heard_since h hs ++ packet ∷ []) → Among p (heard_since h hs) ⊎ ((link : ℕ) × (number : ℕ) × (c ≡ event.Deliver link number p))
  last j number packet cause b = elim (among-append p (heard_since h hs) (packet ∷ []) b) [
    | inl old ↦ inl old
    | inr (inl e) ↦ inr (j, number, cause ∙ ap (λ (q : Packet). event.Deliver j number q) e)
    | inr (inr none) ↦ absurd none
  ]

  by : Happens w hs c e → Among p (heard_since h hs) ⊎ ((link : ℕ) × (number : ℕ) × (c ≡ event.Deliver link number p))
  by (nothing is) = inl (subst Had is a)
  by (injected x q cause is deed) = inl (installs-since h q.handler.0 q.version q.image.items hs p (subst Had is a))
  by (heard j number packet cause is none) = last j number packet cause (subst Had is a)
  by (completed j number packet q cause is deed complete same) = last j number packet cause (installs-since h q.handler.0 q.version q.image.items (Hears packet ∷ hs) p (subst Had is a))
  by (forgot is deed) = absurd (subst Had is a)
  by (sent k slot cause is next) = inl (subst Had is a)

pub was-heard : (w : World) (k h : ℕ) (ms : List Moment) (p : Packet) → Among p (heard_since h ((state w ms).nodes k).exchange) → WasHeard w ms k p
was-heard w k h [] p a = absurd a
was-heard w k h (m ∷ before) p a = elim (eqb_tells k (event_node w m.cause)) [
  | inr other ↦ heard-before w m before k p (λ node deed. absurd (other.1 (sym node)))
      (was-heard w k h before p (subst (λ (n : Node). Among p (heard_since h n.exchange)) (nodes-other w (state w before) m k other.1) a))
  | inl same ↦ here same.1 (λ b. was-heard w k h before p b)
] where
  here : k ≡ event_node w m.cause → (Among p (heard_since h ((state w before).nodes k).exchange) → WasHeard w before k p) → WasHeard w (m ∷ before) k p
  here same earlier = elim (heard-now w h (node_at w (state w before) m).exchange m.cause (effect_at w (state w before) m) p (happens w (node_at w (state w before) m) m.cause) now) [
    | inl old ↦ heard-before w m before k p calm (earlier (subst (λ (j : ℕ). Among p (heard_since h ((state w before).nodes j).exchange)) (sym same) old))
    | inr new ↦ record {
      newer = [];
      moment = m;
      older = before;
      split = refl;
      link = new.0;
      number = new.1;
      cause = new.2;
      to = sym (same ∙ ap (event_node w) new.2);
      kept = λ x front rest is node deed. none-in front rest x is;
    }
  ] where
    now : Among p (heard_since h ((effect_at w (state w before) m).happened ++ (node_at w (state w before) m).exchange))
    now = subst (λ (n : Node). Among p (heard_since h n.exchange)) (nodes-here w (state w before) m) (subst (λ (j : ℕ). Among p (heard_since h ((state w (m ∷ before)).nodes j).exchange)) same a)

    calm : event_node w m.cause ≡ k → (effect_at w (state w before) m).deed ≡ Resetting → ⊥
    calm node deed = subst (λ (new : List Happening). Among p (heard_since h (new ++ (node_at w (state w before) m).exchange))) (forgets w (node_at w (state w before) m) m.cause deed) now

-- if nothing newer was heard, the node aims at nothing newer
pub aims-low : (h limit most : ℕ) (ps : List Packet) → ((p : Packet) → Among p ps → version_in h p ≤ most) → greatest (filter (nat_lt limit) (map (version_in h) ps)) ≤ most
aims-low h limit most [] low = omega arith
aims-low h limit most (p ∷ ps) low = by (nat_lt limit (version_in h p)) (low p (inl refl)) (aims-low h limit most ps (λ q a. low q (inr a))) where
  by : (b : Bool) → version_in h p ≤ most → greatest (filter (nat_lt limit) (map (version_in h) ps)) ≤ most
      → greatest (cond b (version_in h p ∷ filter (nat_lt limit) (map (version_in h) ps)) (filter (nat_lt limit) (map (version_in h) ps))) ≤ most
  by true one rest = omega (arith, one, rest)
  by false one rest = rest
