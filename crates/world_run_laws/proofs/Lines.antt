-- The lines of a script and their events.
use Rattle.std.proofs.Common.{◌≡◌, ◌<◌, ◌≤◌, ℕ, zero, suc, ◌+◌, true, false, List, [], ◌∷◌, ◌++◌, map, Option, Some, None, refl, sym, ◌∙◌, ap, subst, arith, inl, inr, ◌⊎◌}
use Rattle.std.specs.Prelude.{slice_get}
use Rattle.std.specs.Option.{option_map, option_map_or}
use Rattle.std.specs.List.{flat_map, range_with_len}
use Rattle.std.proofs.lemmas.List.{append-nil}
use Rattle.std.proofs.lemmas.Option.{slice_get-map}
use Rattle.mate_num.specs.declared.id.HandlerId.{HandlerId}
use Rattle.mate_journal.specs.Machine.{HeldProgram}
use Rattle.packet_codec.specs.declared.packet.Packet.{Packet}
use Rattle.packet_codec.specs.declared.packet.Packet.TheVariants.{Vector, Status, Fragment, App}
use Rattle.trickle_timer.specs.Intervals as trickle
use Rattle.trickle_timer.specs.declared.timer.Fire.{Fire}
use Rattle.trickle_timer.specs.declared.timer.Fire.TheVariants as fire
use Rattle.capsule_exchange.specs.Happenings.{Happening, completed_by, next_slot}
use Rattle.script_steps.specs.declared.world.Planned.{Planned}
use Rattle.script_steps.specs.declared.world.What.{What}
use Rattle.script_steps.specs.declared.world.What.TheVariants as what
use Rattle.world_rules.specs.Cause.{Cause}
use Rattle.world_rules.specs.Cause as event
use Rattle.world_rules.specs.World.{World, PlannedLine, Want, Inject, Post, Show, ResetNode, Noise, want_of, line_planned, handlers}
use Rattle.world_rules.specs.Effect.{Node, NodeEffect, no_effect, node_effect, of_line, of_packet, of_fragment, of_point, of_slot, resets}
use Rattle.world_rules.specs.State.{Moment, lines_from, first_of, world_start, state}
use Rattle.world_rules.specs.Run.{HaveCome, IsDone}
use Rattle.world_laws.specs.Causes.{HasEvent}
use Rattle.world_laws.specs.Times.{last_time}
use Rattle.mate_num.specs.Lists.{Among}
use Rattle.mate_num.proofs.ListLemmas.{among-left, none-among}
use Rattle.world_laws.proofs.OfTime.{among-of_time}
use Rattle.world_laws.proofs.Comes.{come-along}
use Rattle.world_laws.proofs.Due.{at}
use Rattle.world_laws.proofs.Points.{run-past, last-before}
use Rattle.world_laws.proofs.HopBound.{head-is, tail-is}
use Rattle.world_laws.specs.Lines.{IsPlanTimely}
use Rattle.world_laws.proofs.Lines.{later-lines, lines_in_order}

-- ---- a line is due at the start

line-in : (n : ℕ) (ls : List PlannedLine) (i k : ℕ) (l : PlannedLine) → slice_get ls i ≡ Some l → n + i ≡ k → Among (at l.time (event.Planned k)) (lines_from n ls)
line-in n [] i k l is e = let clash : None ≡ Some l = is in cc
line-in n (x ∷ ls) zero k l is e =
    let same : x ≡ l = cc in
    let number : n ≡ k = omega (arith, e) in
    inl (λ j. record { time = (same j).time; cause = event.Planned (number j) })
line-in n (x ∷ ls) (suc i) k l is e = inr (line-in (suc n) ls i k l is (omega (arith, e)))

line-due : (w : World) (i : ℕ) (l : PlannedLine) → slice_get w.plan i ≡ Some l → Among (event.Planned i) ((world_start w).due l.time)
line-due w i l is = among-of_time l.time (event.Planned i) (lines_from 0 w.plan ++ flat_map (first_of w) (range_with_len 0 w.nodes))
    (among-left (at l.time (event.Planned i)) (lines_from 0 w.plan) (flat_map (first_of w) (range_with_len 0 w.nodes)) (line-in 0 w.plan i i l is (omega arith)))

-- ---- and has its event, at its time

pub line-comes : (w : World) (ms : List Moment) (i : ℕ) (l : PlannedLine) (t : ℕ) → HaveCome w ms → slice_get w.plan i ≡ Some l → IsDone (state w ms) t → l.time ≤ t → HasEvent ms l.time (event.Planned i)
line-comes w ms i l t come is done low = elim (come-along w [] ms l.time (event.Planned i) (subst (λ (xs : List Moment). HaveCome w xs) (sym (append-nil ms)) come) (line-due w i l is)) [
  | inl (inl found) ↦ found
  | inl (inr cut) ↦ absurd (let clash : true ≡ false = cut.cancels in cc)
  | inr waits ↦ absurd (none-among (event.Planned i) ((state w ms).due l.time) (done l.time low) (subst (λ (xs : List Moment). Among (event.Planned i) ((state w xs).due l.time)) (append-nil ms) waits))
]

pub line-time : (w : World) (older : List Moment) (x : Moment) (j : ℕ) (l : PlannedLine) → IsPlanTimely w → HaveCome w (x ∷ older) → x.cause ≡ event.Planned j → slice_get w.plan j ≡ Some l → x.time ≡ l.time
line-time w older x j l timely come cause is = elim (come-along w [] (x ∷ older) l.time (event.Planned j) (subst (λ (xs : List Moment). HaveCome w xs) (sym (append-nil (x ∷ older))) come) (line-due w j l is)) [
  | inl (inl found) ↦ at_its found found.newer found.split
  | inl (inr cut) ↦ absurd (let clash : true ≡ false = cut.cancels in cc)
  | inr waits ↦ absurd (let less : j < j = later-lines w older [] x j j l.time timely come cause (subst (λ (xs : List Moment). Among (event.Planned j) ((state w xs).due l.time)) (append-nil (x ∷ older)) waits) in omega (arith, less))
] where
  at_its : (found : HasEvent (x ∷ older) l.time (event.Planned j)) → (front : List Moment) → x ∷ older ≡ front ++ found.moment ∷ found.older → x.time ≡ l.time
  at_its found [] split = ap (λ (y : Moment). y.time) (head-is x found.moment older found.older split) ∙ found.time
  at_its found (y ∷ front) split =
      let rest : older ≡ front ++ found.moment ∷ found.older = tail-is x y older (front ++ found.moment ∷ found.older) split in
      let less : j < j = lines_in_order w timely found.older front x found.moment j j (subst (λ (xs : List Moment). HaveCome w (x ∷ xs)) rest come) found.cause cause in
      absurd (omega (arith, less))

-- ---- a reset comes from a line

pub says-reset : (programs : ℕ → HeldProgram) (x : What) → want_of programs x ≡ ResetNode → x ≡ what.Reset
says-reset programs what.Reset is = refl
says-reset programs _ is = cc

pub record ResetsBy (w : World) (c : Cause) : Type 0 where
  pub place : ℕ
  pub cause : c ≡ event.Planned place
  pub line : PlannedLine
  pub stands : slice_get w.plan place ≡ Some line
  pub says : line.what ≡ ResetNode

abbrev Calm : NodeEffect → Type 0
Calm e = resets e.deed ≡ false

calm-fragment : (packet : Packet) (hs : List Happening) (o : Option HandlerId) → Calm (of_fragment packet hs o)
calm-fragment packet hs None = refl
calm-fragment packet hs (Some g) = refl

calm-packet : (w : World) (hs : List Happening) (packet : Packet) → Calm (of_packet w hs packet)
calm-packet w hs (Fragment g version index count large bytes) = calm-fragment (Fragment g version index count large bytes) hs (completed_by (Fragment g version index count large bytes) hs)
calm-packet w hs _ = refl

calm-point : (w : World) (n : Node) (o : Fire) → Calm (of_point w n o)
calm-point w n fire.Send = refl
calm-point w n fire.Keep = refl

calm-slot : (hs : List Happening) (o : Option ℕ) → Calm (of_slot hs o)
calm-slot hs None = refl
calm-slot hs (Some slot) = refl

calm-line : (x : Want) → Calm (of_line x) ⊎ (x ≡ ResetNode)
calm-line ResetNode = inr refl
calm-line _ = inl refl

pub resets-by : (w : World) (n : Node) (c : Cause) → Calm (node_effect w n c) ⊎ ResetsBy w c
resets-by w n (event.Planned j) = by (slice_get w.plan j) refl where
  by : (o : Option PlannedLine) → slice_get w.plan j ≡ o → Calm (option_map_or (λ (l : PlannedLine). of_line l.what) o no_effect) ⊎ ResetsBy w (event.Planned j)
  by None is = inl refl
  by (Some l) is = elim (calm-line l.what) [ inl calm ↦ inl calm | inr says ↦ inr (record { place = j; cause = refl; line = l; stands = is; says = says }) ]
resets-by w n (event.Fire k) = inl (calm-point w n (trickle.at_point n.timer.set n.timer.running w.suppress))
resets-by w n (event.Pump k) = inl (calm-slot n.exchange (next_slot (handlers w) n.exchange))
resets-by w n (event.Deliver link number packet) = inl (calm-packet w n.exchange packet)
resets-by w n _ = inl refl
