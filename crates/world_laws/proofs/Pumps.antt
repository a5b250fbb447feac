-- When a pump sends a slot that is marked.
use Rattle.std.proofs.Common.{◌≡◌, ◌≢◌, ◌<◌, ◌≤◌, ℕ, zero, suc, ◌+◌, ◌-◌, ◌*◌, ◌/◌, ◌%◌, Bool, true, false, cond, not, ◌&&◌, ◌||◌, List, [], ◌∷◌, ◌++◌, refl, sym, ◌∙◌, ap, subst, arith, inl, inr, ◌⊎◌}
use Rattle.std.specs.Prelude.{Option, Some, None, ◌==◌, if◌then◌else◌, nat_le}
use Rattle.std.specs.List.{find, list_any, range_with_len}
use Rattle.std.specs.Option.{option_or}
use Rattle.std.proofs.lemmas.Bool.Decides.{eqb_tells}
use Rattle.std.proofs.lemmas.Bool.{cases_lt, and_parts, or_right}
use Rattle.mate_journal.specs.Machine.{HeldProgram}
use Rattle.capsule_exchange.specs.Happenings.{Happening, Hears, Sends, Installs, asks_of, is_marked_slot, last_sent, next_place, slots_from, next_slot}
use Rattle.world_rules.specs.Cause.{Cause}
use Rattle.world_rules.specs.Cause as event
use Rattle.world_rules.specs.World.{World, handlers}
use Rattle.world_rules.specs.Effect.{Node, NodeEffect, Installing, node_effect, of_slot, begun_length, resets, is_owing, event_node}
use Rattle.world_rules.specs.State.{Moment, WorldState, Scheduled, node_at, effect_at, node_after, schedules, is_pump, still_pumps, new_pump, next_period, new_interval, after_moment, state}
use Rattle.world_rules.specs.Run.{MayCome, HaveCome}
use Rattle.world_laws.specs.Times.{IsRightSet, last_time}
use Rattle.world_laws.specs.Slots.{IsSparing, AreSparing, SendsSlot, SendsInTime}
use Rattle.mate_num.specs.Lists.{Among}
use Rattle.mate_num.proofs.ListLemmas.{among-left, among-right, none-among}
use Rattle.world_laws.proofs.Due.{at, Outlasts, due-keeps, due-new}
use Rattle.world_laws.proofs.Points.{among-range, next-before, last-before, nodes-here, nodes-other, run-timed, earlier-come}
use Rattle.world_laws.proofs.Happens.{Happens, nothing, injected, heard, completed, forgot, sent, happens}

-- ---- the first of a range that passes

pub find-none : (p : ℕ → Bool) (first n k : ℕ) → find p (range_with_len first n) ≡ None → first ≤ k → k < first + n → p k ≡ false
find-none p first zero k is low high = absurd (omega arith)
find-none p first (suc n) k is low high = by (λ none. find-none p (first + 1) n k none) (p first) refl is where
  by : (find p (range_with_len (first + 1) n) ≡ None → first + 1 ≤ k → k < first + 1 + n → p k ≡ false) → (b : Bool) → p first ≡ b → cond b (Some first) (find p (range_with_len (first + 1) n)) ≡ None → p k ≡ false
  by rest true passes none = cc
  by rest false fails none = elim (eqb_tells first k) [ inl same ↦ ap p (sym same.1) ∙ fails | inr other ↦ rest none (omega (arith, other.1)) (omega (arith, high)) ]

pub find-least : (p : ℕ → Bool) (first n z k : ℕ) → find p (range_with_len first n) ≡ Some z → first ≤ k → k < z → p k ≡ false
find-least p first zero z k is low high = cc
find-least p first (suc n) z k is low high = by (λ found. find-least p (first + 1) n z k found) (p first) refl is where
  by : (find p (range_with_len (first + 1) n) ≡ Some z → first + 1 ≤ k → k < z → p k ≡ false) → (b : Bool) → p first ≡ b → cond b (Some first) (find p (range_with_len (first + 1) n)) ≡ Some z → p k ≡ false
  by rest true passes found = let same : first ≡ z = cc in absurd (omega (arith, same, low, high))
  by rest false fails found = elim (eqb_tells first k) [ inl same ↦ ap p (sym same.1) ∙ fails | inr other ↦ rest found (omega (arith, other.1, low)) high ]

pub find-within : (p : ℕ → Bool) (first n z : ℕ) → find p (range_with_len first n) ≡ Some z → (first ≤ z) × (z < first + n)
find-within p first zero z is = cc
find-within p first (suc n) z is = by (λ found. find-within p (first + 1) n z found) (p first) refl is where
  by : (find p (range_with_len (first + 1) n) ≡ Some z → (first + 1 ≤ z) × (z < first + 1 + n)) → (b : Bool) → p first ≡ b → cond b (Some first) (find p (range_with_len (first + 1) n)) ≡ Some z → (first ≤ z) × (z < first + suc n)
  by rest true passes found = let same : first ≡ z = cc in (omega (arith, same), omega (arith, same))
  by rest false fails found = (omega (arith, (rest found).0), omega (arith, (rest found).1))

pub any-at : (p : ℕ → Bool) (z : ℕ) (xs : List ℕ) → p z ≡ true → Among z xs → list_any p xs ≡ true
any-at p z [] holds h = absurd h
any-at p z (x ∷ xs) holds (inl e) = let here : p x ≡ true = ap p e ∙ holds in rw here refl
any-at p z (x ∷ xs) holds (inr h) = by (p x) (any-at p z xs holds h) where
  by : (b : Bool) → list_any p xs ≡ true → (b || list_any p xs) ≡ true
  by true rest = refl
  by false rest = rest

-- ---- how far a slot is behind a place, in cyclic order of n slots

abbrev pub behind : ℕ → ℕ → ℕ → ℕ
behind n first z = if nat_le first z then z - first else n - first + z

behind-after : (n first z : ℕ) → first ≤ z → behind n first z ≡ z - first
behind-after n first z h = grind arith

behind-before : (n first z : ℕ) → z < first → behind n first z ≡ n - first + z
behind-before n first z h = grind arith

pub behind-least : (n first z : ℕ) → z < n → behind n first z + 1 ≤ n
behind-least n first z below = elim (cases_lt z first) [
  | inl before ↦ omega (arith, behind-before n first z before)
  | inr after ↦ omega (arith, behind-after n first z after)
]

-- the next slot that passes is this one, or brings this one nearer
pub nearer : (p : ℕ → Bool) (n first z next : ℕ) → z < n → p z ≡ true
    → option_or (find p (range_with_len first (n - first))) (find p (range_with_len 0 (n - 0))) ≡ Some next
    → (next ≡ z) ⊎ (behind n (next + 1) z + 1 ≤ behind n first z)
nearer p n first z next below marked is = by (find p (range_with_len first (n - first))) refl is where
  Goal : Type 0
  Goal = (next ≡ z) ⊎ (behind n (next + 1) z + 1 ≤ behind n first z)

  clash : p z ≡ false → ⊥
  clash fails = let no : true ≡ false = sym marked ∙ fails in cc

  by : (o : Option ℕ) → find p (range_with_len first (n - first)) ≡ o → option_or o (find p (range_with_len 0 (n - 0))) ≡ Some next → Goal
  by (Some k) found same =
      let here : find p (range_with_len first (n - first)) ≡ Some next = found ∙ same in
      let within = find-within p first (n - first) next here in
      elim (cases_lt z first) [
        | inl before ↦ inr (omega (arith, within.0, within.1, behind-before n first z before, behind-before n (next + 1) z (omega (arith, within.0))))
        | inr after ↦ elim (cases_lt z next) [
          | inl early ↦ absurd (clash (find-least p first (n - first) next z here after early))
          | inr late ↦ elim (eqb_tells next z) [
            | inl one ↦ inl one.1
            | inr other ↦ let more : next + 1 ≤ z = omega (arith, other.1) in inr (omega (arith, within.0, behind-after n first z after, behind-after n (next + 1) z more))
          ]
        ]
      ]
  by None none same =
      elim (cases_lt z first) [
        | inl before ↦ elim (cases_lt z next) [
          | inl early ↦ absurd (clash (find-least p 0 (n - 0) next z same (omega arith) early))
          | inr late ↦ elim (eqb_tells next z) [
            | inl one ↦ inl one.1
            | inr other ↦ let more : next + 1 ≤ z = omega (arith, other.1) in inr (omega (arith, behind-before n first z before, behind-after n (next + 1) z more))
          ]
        ]
        | inr after ↦ absurd (clash (find-none p first (n - first) z none after (omega arith)))
      ]

-- where a slot is marked there is a next one
pub next-some : (p : ℕ → Bool) (n first z : ℕ) → z < n → p z ≡ true → option_or (find p (range_with_len first (n - first))) (find p (range_with_len 0 (n - 0))) ≡ None → ⊥
next-some p n first z below marked is = by (find p (range_with_len first (n - first))) is where
  by : (o : Option ℕ) → option_or o (find p (range_with_len 0 (n - 0))) ≡ None → ⊥
  by (Some k) none = cc
  by None none = let no : true ≡ false = sym marked ∙ find-none p 0 (n - 0) z none (omega arith) (omega arith) in cc

-- ---- what an event does to the marks

-- the slot's handler and index give the slot
slot_parts : (z : ℕ) → 22 * (z / 22) + z % 22 ≡ z
slot_parts z = omega arith

-- a mark stays, and so does the last slot sent, unless the pump comes
pub mark-stays : (w : World) (hs : List Happening) (c : Cause) (e : NodeEffect) (z : ℕ) → Happens w hs c e → is_pump c ≡ false → resets e.deed ≡ false
    → ((p : HeldProgram) → e.deed ≡ Installing p → p.handler.0 ≡ z / 22 → ⊥) → is_marked_slot hs z ≡ true
    → (is_marked_slot (e.happened ++ hs) z ≡ true) × (last_sent (e.happened ++ hs) ≡ last_sent hs)
mark-stays w hs c e z how no_pump no_reset no_install marked = by how where
  Kept : List Happening → Type 0
  Kept new = (is_marked_slot (new ++ hs) z ≡ true) × (last_sent (new ++ hs) ≡ last_sent hs)

  or_true : (b : Bool) → (b || is_marked_slot hs z) ≡ true
  or_true true = refl
  or_true false = marked

  installs_other : (g version : ℕ) (image : List ℕ) (before : List Happening) → g ≢ z / 22 → is_marked_slot before z ≡ true → is_marked_slot (Installs g version image ∷ before) z ≡ true
  installs_other g version image before other h = elim (eqb_tells g (z / 22)) [ inl same ↦ absurd (other same.1) | inr not_same ↦ rw not_same.0 h ]

  by : Happens w hs c e → Kept e.happened
  by (nothing is) = subst Kept (sym is) (marked, refl)
  by (injected x p from is deed) = subst Kept (sym is) (installs_other p.handler.0 p.version p.image.items hs (no_install p deed) marked, refl)
  by (heard j number packet from is none) = subst Kept (sym is) (or_true (asks_of (z / 22) (z % 22) packet hs), refl)
  by (completed j number packet p from is deed complete same) =
      subst Kept (sym is) (installs_other p.handler.0 p.version p.image.items (Hears packet ∷ hs) (no_install p deed) (or_true (asks_of (z / 22) (z % 22) packet hs)), refl)
  by (forgot is deed) = let clash : true ≡ false = sym (ap resets deed) ∙ no_reset in cc
  by (sent k slot cause is next) = let clash : true ≡ false = sym (ap is_pump cause) ∙ no_pump in cc

-- ---- a node's pump, at each place of a run

pub record Pumping (w : World) (s : WorldState) (last i : ℕ) : Type 0 where
  pub time : ℕ
  pub waits : Among (event.Pump i) (s.due time)
  pub soon : time ≤ last + w.description.radio.gap

pub record IsPumped (w : World) (s : WorldState) (last i : ℕ) : Type 0 where
  pub owing : is_owing w (s.nodes i).exchange ≡ true → (s.nodes i).pumps ≡ true
  pub due : (s.nodes i).pumps ≡ true → Pumping w s last i

nor_both : (a b : Bool) → not (a || b) ≡ true → (a ≡ false) × (b ≡ false)
nor_both true b h = cc
nor_both false true h = cc
nor_both false false h = (refl, refl)

-- a pump outlasts what doesn't reset its node
pump-outlasts : (w : World) (s : WorldState) (m : Moment) (i : ℕ) → (event_node w m.cause ≡ i → resets (effect_at w s m).deed ≡ false) → Outlasts w s m (event.Pump i)
pump-outlasts w s m i no_reset = elim (eqb_tells i (event_node w m.cause)) [
  | inl same ↦ rw (no_reset (sym same.1)) refl
  | inr other ↦ by (resets (effect_at w s m).deed) refl other.0
] where
  by : (b : Bool) → resets (effect_at w s m).deed ≡ b → (i == event_node w m.cause) ≡ false → Outlasts w s m (event.Pump i)
  by true is apart = rw (is, apart) refl
  by false is apart = rw is refl

-- what is pumping goes on, unless its pump comes
pumping-stays : (w : World) (s : WorldState) (m : Moment) (last i : ℕ) → MayCome w s m → last ≤ m.time → (m.cause ≡ event.Pump i → ⊥) → (event_node w m.cause ≡ i → resets (effect_at w s m).deed ≡ false)
    → Pumping w s last i → Pumping w (after_moment w s m) m.time i
pumping-stays w s m last i may later no_pump no_reset pumping =
    elim (due-keeps w s m pumping.time (event.Pump i) may.next (pump-outlasts w s m i no_reset) pumping.waits) [
      | inl now ↦ absurd (no_pump now.1)
      | inr still ↦ record { time = pumping.time; waits = still; soon = omega (arith, later, pumping.soon) }
    ]

-- a pump that is scheduled is due
pump-scheduled : (w : World) (s : WorldState) (m : Moment) → not (still_pumps m.cause (effect_at w s m) (node_at w s m)) && is_owing w (node_after w (node_at w s m) m).exchange ≡ true
    → Among (at (m.time + w.description.radio.gap) (event.Pump (event_node w m.cause))) (schedules w s m)
pump-scheduled w s m is =
    among-right x (next_period w m.cause m.time) _ (among-right x (new_interval (event_node w m.cause) (begun_length (node_at w s m) (effect_at w s m)) (node_after w (node_at w s m) m).timer) _
    (among-right x _ _ (among-left x (new_pump w (event_node w m.cause) m.time (not (still_pumps m.cause (effect_at w s m) (node_at w s m)) && is_owing w (node_after w (node_at w s m) m).exchange)) _ (rw is (inl refl))))) where
      x : Scheduled
      x = at (m.time + w.description.radio.gap) (event.Pump (event_node w m.cause))

pub pumped-step : (w : World) (s : WorldState) (m : Moment) (last i : ℕ) → MayCome w s m → last ≤ m.time → IsPumped w s last i → IsPumped w (after_moment w s m) m.time i
pumped-step w s m last i may later pumped = elim (eqb_tells i (event_node w m.cause)) [
  | inl same ↦ subst (λ (k : ℕ). IsPumped w (after_moment w s m) m.time k) (sym same.1) (here (subst (λ (k : ℕ). IsPumped w s last k) same.1 pumped))
  | inr other ↦ elsewhere other.1
] where
  elsewhere : i ≢ event_node w m.cause → IsPumped w (after_moment w s m) m.time i
  elsewhere other = record {
    owing = subst (λ (n : Node). is_owing w n.exchange ≡ true → n.pumps ≡ true) (sym (nodes-other w s m i other)) pumped.owing;
    due = λ is. pumping-stays w s m last i may later (λ cause. other (sym (ap (event_node w) cause))) (λ same. absurd (other (sym same)))
        (pumped.due (subst (λ (n : Node). n.pumps ≡ true) (nodes-other w s m i other) is));
  }

  N : ℕ
  N = event_node w m.cause

  here : IsPumped w s last (event_node w m.cause) → IsPumped w (after_moment w s m) m.time (event_node w m.cause)
  here its = record {
    owing = subst (λ (n : Node). is_owing w n.exchange ≡ true → n.pumps ≡ true) (sym (nodes-here w s m)) (λ owes. or_right (still_pumps m.cause (effect_at w s m) (node_at w s m)) _ owes);
    due = λ is. by (still_pumps m.cause (effect_at w s m) (node_at w s m)) refl (subst (λ (n : Node). n.pumps ≡ true) (nodes-here w s m) is);
  } where
    by : (b : Bool) → still_pumps m.cause (effect_at w s m) (node_at w s m) ≡ b → (b || is_owing w (node_after w (node_at w s m) m).exchange) ≡ true → Pumping w (after_moment w s m) m.time (event_node w m.cause)
    by true still is =
        let both = and_parts (node_at w s m).pumps _ still in
        let rest = nor_both (is_pump m.cause) (resets (effect_at w s m).deed) both.1 in
        pumping-stays w s m last (event_node w m.cause) may later (λ cause. let clash : true ≡ false = sym (ap is_pump cause) ∙ rest.0 in cc) (λ same. rest.1) (its.due both.0)
    by false still owes = record {
      time = m.time + w.description.radio.gap;
      waits = due-new w s m _ (event.Pump (event_node w m.cause)) (pump-scheduled w s m (rw (still, owes) refl));
      soon = omega arith;
    }

pub run-pumped : (w : World) (i : ℕ) (ms : List Moment) → IsRightSet w.description.trickle → i < w.nodes → HaveCome w ms → IsPumped w (state w ms) (last_time ms) i
run-pumped w i [] right below come = record { owing = λ is. absurd (none is); due = λ is. cc } where
  none_any : (xs : List ℕ) → list_any (is_marked_slot []) xs ≡ false
  none_any [] = refl
  none_any (x ∷ xs) = none_any xs

  none : is_owing w [] ≡ true → ⊥
  none is = let clash : true ≡ false = sym is ∙ none_any (slots_from (handlers w) 0) in cc
run-pumped w i (m ∷ before) right below come =
    let later : last_time before ≤ m.time = last-before (state w before) (last_time before) m.time m.cause (run-timed w i before right below come.0).1 come.1.next in
    pumped-step w (state w before) m (last_time before) i come.1 later (run-pumped w i before right below come.0)

-- ---- a slot is sent in time

-- the slot is marked, and its turn comes in time
pub record IsPending (w : World) (s : WorldState) (i z by : ℕ) : Type 0 where
  pub marked : is_marked_slot (s.nodes i).exchange z ≡ true
  pub pump : ℕ
  pub waits : Among (event.Pump i) (s.due pump)
  pub turns : ℕ
  pub nearest : behind (22 * handlers w) (next_place (last_sent (s.nodes i).exchange)) z ≤ turns
  pub in_time : pump + turns * w.description.radio.gap ≤ by

marked-owing : (w : World) (hs : List Happening) (z : ℕ) → z < 22 * handlers w → is_marked_slot hs z ≡ true → is_owing w hs ≡ true
marked-owing w hs z below marked = any-at (is_marked_slot hs) z (slots_from (handlers w) 0) marked (among-range 0 (22 * handlers w - 0) z (omega arith) (omega arith))

turns_fit : (n gap time last pump : ℕ) → 1 ≤ n → last ≤ time → pump ≤ last + gap → pump + (n - 1) * gap ≤ time + n * gap
turns_fit n gap time last pump some later soon =
    let one : (n - 1 + 1) * gap ≡ (n - 1) * gap + gap = grind arith in
    let same : n - 1 + 1 ≡ n = omega arith in
    let whole : n * gap ≡ (n - 1) * gap + gap = ap (λ (k : ℕ). k * gap) (sym same) ∙ one in
    omega (arith, whole)

pending-start : (w : World) (s : WorldState) (last i z time : ℕ) → z < 22 * handlers w → is_marked_slot (s.nodes i).exchange z ≡ true → IsPumped w s last i → last ≤ time
    → IsPending w s i z (time + 22 * handlers w * w.description.radio.gap)
pending-start w s last i z time below marked pumped later =
    let pumping = pumped.due (pumped.owing (marked-owing w (s.nodes i).exchange z below marked)) in
    record {
      marked = marked;
      pump = pumping.time;
      waits = pumping.waits;
      turns = 22 * handlers w - 1;
      nearest = omega (arith, behind-least (22 * handlers w) (next_place (last_sent (s.nodes i).exchange)) z below);
      in_time = turns_fit (22 * handlers w) w.description.radio.gap time last pumping.time (omega arith) later pumping.soon;
    }

-- the pump of the event's node sends the slot now
abbrev pub SendsNow : World → WorldState → Moment → ℕ → ℕ → ℕ → Type 0
SendsNow w s m i z by = (m.cause ≡ event.Pump i) × (next_slot (handlers w) (s.nodes i).exchange ≡ Some z) × (m.time ≤ by)

pending-other : (w : World) (s : WorldState) (m : Moment) (i z by : ℕ) → MayCome w s m → i ≢ event_node w m.cause → IsPending w s i z by → IsPending w (after_moment w s m) i z by
pending-other w s m i z by may other pending = record {
  marked = subst (λ (n : Node). is_marked_slot n.exchange z ≡ true) (sym (nodes-other w s m i other)) pending.marked;
  pump = pending.pump;
  waits = elim (due-keeps w s m pending.pump (event.Pump i) may.next (pump-outlasts w s m i (λ same. absurd (other (sym same)))) pending.waits) [
    | inl now ↦ absurd (other (sym (ap (event_node w) now.1)))
    | inr still ↦ still
  ];
  turns = pending.turns;
  nearest = subst (λ (n : Node). behind (22 * handlers w) (next_place (last_sent n.exchange)) z ≤ pending.turns) (sym (nodes-other w s m i other)) pending.nearest;
  in_time = pending.in_time;
}

pending-quiet : (w : World) (s : WorldState) (m : Moment) (i z by : ℕ) → MayCome w s m → i ≡ event_node w m.cause → is_pump m.cause ≡ false → IsSparing w s m i (z / 22) → IsPending w s i z by → IsPending w (after_moment w s m) i z by
pending-quiet w s m i z by may same no_pump spares pending = record {
  marked = subst (λ (n : Node). is_marked_slot n.exchange z ≡ true) (sym here) kept.0;
  pump = pending.pump;
  waits = elim (due-keeps w s m pending.pump (event.Pump i) may.next (pump-outlasts w s m i spares.no_reset) pending.waits) [
    | inl now ↦ let clash : true ≡ false = sym (ap is_pump now.1) ∙ no_pump in cc
    | inr still ↦ still
  ];
  turns = pending.turns;
  nearest = subst (λ (n : Node). behind (22 * handlers w) (next_place (last_sent n.exchange)) z ≤ pending.turns) (sym here) (subst (λ (o : Option ℕ). behind (22 * handlers w) (next_place o) z ≤ pending.turns) (sym kept.1) at_node);
  in_time = pending.in_time;
} where
  here : (after_moment w s m).nodes i ≡ node_after w (node_at w s m) m
  here = subst (λ (k : ℕ). (after_moment w s m).nodes k ≡ node_after w (node_at w s m) m) (sym same) (nodes-here w s m)

  at_node : behind (22 * handlers w) (next_place (last_sent (node_at w s m).exchange)) z ≤ pending.turns
  at_node = subst (λ (k : ℕ). behind (22 * handlers w) (next_place (last_sent (s.nodes k).exchange)) z ≤ pending.turns) same pending.nearest

  kept : (is_marked_slot ((effect_at w s m).happened ++ (node_at w s m).exchange) z ≡ true) × (last_sent ((effect_at w s m).happened ++ (node_at w s m).exchange) ≡ last_sent (node_at w s m).exchange)
  kept = mark-stays w (node_at w s m).exchange m.cause (effect_at w s m) z (happens w (node_at w s m) m.cause) no_pump (spares.no_reset (sym same)) (λ p deed. spares.no_install p (sym same) deed)
      (subst (λ (k : ℕ). is_marked_slot (s.nodes k).exchange z ≡ true) same pending.marked)

one_less : (turns less gap pump time by : ℕ) → less + 1 ≤ turns → time ≤ pump → pump + turns * gap ≤ by → time + gap + less * gap ≤ by
one_less turns less gap pump time by fewer early fits =
    let more : (less + 1) * gap ≤ turns * gap = grind arith in
    let one : (less + 1) * gap ≡ less * gap + gap = grind arith in
    omega (arith, more, one)

-- the pump that comes is no longer due
pump-comes : (c : Cause) (e : NodeEffect) (n : Node) (b : Bool) → is_pump c ≡ true → b ≡ true → not (still_pumps c e n) && b ≡ true
pump-comes c e n b pumps is = rw (pumps, is) (by n.pumps) where
  by : (p : Bool) → not (p && false) && true ≡ true
  by true = refl
  by false = refl

-- the pump comes: it sends the slot, or one before it
pending-pump : (w : World) (s : WorldState) (m : Moment) (i z by : ℕ) → MayCome w s m → m.cause ≡ event.Pump i → z < 22 * handlers w → IsPending w s i z by
    → SendsNow w s m i z by ⊎ IsPending w (after_moment w s m) i z by
pending-pump w s m i z by may cause below pending = next (next_slot (handlers w) hs) refl where
  hs : List Happening
  hs = (s.nodes i).exchange

  N : ℕ
  N = 22 * handlers w

  early : m.time ≤ pending.pump
  early = next-before s m.time pending.pump m.cause (event.Pump i) may.next pending.waits

  same : event_node w m.cause ≡ i
  same = ap (event_node w) cause

  -- the node after it
  sent_is : (k : ℕ) → next_slot (handlers w) (s.nodes i).exchange ≡ Some k → ((after_moment w s m).nodes i).exchange ≡ Sends k ∷ (s.nodes i).exchange
  sent_is k is =
      subst (λ (j : ℕ). ((after_moment w s m).nodes j).exchange ≡ Sends k ∷ (s.nodes j).exchange) same
      (ap (λ (n : Node). n.exchange) (nodes-here w s m) ∙ (let E : NodeEffect → Type 0 = λ e. e.happened ++ (node_at w s m).exchange ≡ Sends k ∷ (node_at w s m).exchange in
      subst E (sym effect_is) refl)) where
        effect_is : effect_at w s m ≡ of_slot (s.nodes (event_node w m.cause)).exchange (Some k)
        effect_is =
            ap (node_effect w (node_at w s m)) cause
            ∙ ap (of_slot (s.nodes (event_node w m.cause)).exchange) (subst (λ (j : ℕ). next_slot (handlers w) (s.nodes j).exchange ≡ Some k) (sym same) is)

  next : (o : Option ℕ) → next_slot (handlers w) (s.nodes i).exchange ≡ o → SendsNow w s m i z by ⊎ IsPending w (after_moment w s m) i z by
  next None is = absurd (next-some (is_marked_slot (s.nodes i).exchange) (22 * handlers w) (next_place (last_sent (s.nodes i).exchange)) z below pending.marked is)
  next (Some k) is = elim (eqb_tells k z) [
    | inl one ↦ inl (cause, is ∙ ap (λ (x : ℕ). Some x) one.1, omega (arith, early, pending.in_time))
    | inr other ↦ elim (nearer (is_marked_slot (s.nodes i).exchange) (22 * handlers w) (next_place (last_sent (s.nodes i).exchange)) z k below pending.marked is) [
      | inl one ↦ absurd (other.1 one)
      | inr near ↦ inr (record {
        marked = still_marked k is other.1;
        pump = m.time + w.description.radio.gap;
        waits = subst (λ (j : ℕ). Among (event.Pump j) ((after_moment w s m).due (m.time + w.description.radio.gap))) same
            (due-new w s m _ (event.Pump (event_node w m.cause)) (pump-scheduled w s m (pump-comes m.cause (effect_at w s m) (node_at w s m) _ (ap is_pump cause) (owes k is other.1))));
        turns = behind (22 * handlers w) (k + 1) z;
        nearest = subst (λ (hs : List Happening). behind (22 * handlers w) (next_place (last_sent hs)) z ≤ behind (22 * handlers w) (k + 1) z) (sym (sent_is k is)) (omega arith);
        in_time = one_less pending.turns (behind (22 * handlers w) (k + 1) z) w.description.radio.gap pending.pump m.time by (omega (arith, near, pending.nearest)) early pending.in_time;
      })
    ]
  ] where
    still_marked : (k : ℕ) → next_slot (handlers w) (s.nodes i).exchange ≡ Some k → k ≢ z → is_marked_slot ((after_moment w s m).nodes i).exchange z ≡ true
    still_marked k is other = subst (λ (hs : List Happening). is_marked_slot hs z ≡ true) (sym (sent_is k is)) (elim (eqb_tells k (22 * (z / 22) + z % 22)) [
      | inl one ↦ absurd (other (one.1 ∙ slot_parts z))
      | inr not_one ↦ rw not_one.0 pending.marked
    ])

    owes : (k : ℕ) → next_slot (handlers w) (s.nodes i).exchange ≡ Some k → k ≢ z → is_owing w (node_after w (node_at w s m) m).exchange ≡ true
    owes k is other = subst (λ (n : Node). is_owing w n.exchange ≡ true) (nodes-here w s m)
        (subst (λ (j : ℕ). is_owing w ((after_moment w s m).nodes j).exchange ≡ true) (sym same) (marked-owing w ((after_moment w s m).nodes i).exchange z below (still_marked k is other)))

pub pending-step : (w : World) (s : WorldState) (m : Moment) (i z by : ℕ) → MayCome w s m → IsSparing w s m i (z / 22) → z < 22 * handlers w → IsPending w s i z by
    → SendsNow w s m i z by ⊎ IsPending w (after_moment w s m) i z by
pending-step w s m i z by may spares below pending = elim (eqb_tells i (event_node w m.cause)) [
  | inl same ↦ here same.1 m.cause refl
  | inr other ↦ inr (pending-other w s m i z by may other.1 pending)
] where
  quiet : i ≡ event_node w m.cause → is_pump m.cause ≡ false → SendsNow w s m i z by ⊎ IsPending w (after_moment w s m) i z by
  quiet same no_pump = inr (pending-quiet w s m i z by may same no_pump spares pending)

  here : i ≡ event_node w m.cause → (c : Cause) → m.cause ≡ c → SendsNow w s m i z by ⊎ IsPending w (after_moment w s m) i z by
  here same (event.Planned line) is = quiet same (ap is_pump is)
  here same (event.Period node h) is = quiet same (ap is_pump is)
  here same (event.Fire node) is = quiet same (ap is_pump is)
  here same (event.Expire node) is = quiet same (ap is_pump is)
  here same (event.Pump node) is = pending-pump w s m i z by may (is ∙ ap event.Pump (sym (same ∙ ap (event_node w) is))) below pending
  here same (event.Due node x inv value) is = quiet same (ap is_pump is)
  here same (event.Deliver link number packet) is = quiet same (ap is_pump is)

-- along a run
pending-along : (w : World) (i z by : ℕ) (before later : List Moment) → z < 22 * handlers w → HaveCome w (later ++ before) → AreSparing w i (z / 22) before later
    → IsPending w (state w before) i z by → SendsSlot w i z by before later ⊎ IsPending w (state w (later ++ before)) i z by
pending-along w i z by before [] below come spares pending = inr pending
pending-along w i z by before (m ∷ later) below come spares pending = elim (pending-along w i z by before later below come.0 spares.0 pending) [
  | inl found ↦ inl (record {
    moment = found.moment;
    newer = m ∷ found.newer;
    older = found.older;
    split = ap (λ (ms : List Moment). m ∷ ms) found.split;
    cause = found.cause;
    sends = found.sends;
    in_time = found.in_time;
  })
  | inr still ↦ elim (pending-step w (state w (later ++ before)) m i z by come.1 spares.1 below still) [
    | inl now ↦ inl (record { moment = m; newer = []; older = later; split = refl; cause = now.0; sends = now.1; in_time = now.2 })
    | inr goes_on ↦ inr goes_on
  ]
]

pub sends_in_time : (w : World) → IsRightSet w.description.trickle → SendsInTime w
sends_in_time w right i z time before later below valid come last marked spares done =
    elim (pending-along w i z (time + 22 * handlers w * w.description.radio.gap) before later (omega arith) come spares
    (pending-start w (state w before) (last_time before) i z time (omega arith) marked (run-pumped w i before right below (earlier-come w before later come)) last)) [
      | inl found ↦ record { moment = found.moment; newer = found.newer; older = found.older; split = found.split; cause = found.cause; sends = found.sends; in_time = omega (arith, found.in_time, same_time) }
      | inr still ↦ absurd (over still)
    ] where
      same_time : time + 22 * handlers w * w.description.radio.gap ≡ time + handlers w * 22 * w.description.radio.gap
      same_time = ap (λ (k : ℕ). time + k * w.description.radio.gap) swapped where
        swapped : 22 * handlers w ≡ handlers w * 22
        swapped = omega arith

      over : IsPending w (state w (later ++ before)) i z (time + 22 * handlers w * w.description.radio.gap) → ⊥
      over pending =
          let due_by : pending.pump ≤ time + handlers w * 22 * w.description.radio.gap = omega (arith, pending.in_time, same_time) in
          none-among (event.Pump i) _ (done pending.pump due_by) pending.waits
