-- The event that comes next, as the radio takes it out.
use Rattle.std.proofs.Common.{◌≡◌, ℕ, ◌<◌, ◌≤◌, Bool, true, false, List, [], ◌∷◌, length, map, drop, refl, sym, ◌∙◌, ap, subst, arith, inl, inr}
use Rattle.std.specs.Prelude.{◌==◌, if◌then◌else◌}
use Rattle.std.proofs.lemmas.Bool.Decides.{eqb_tells}
use Rattle.event_queue.specs.Agenda.{due_at, Comes}
use Rattle.radio_sim.specs.declared.shared_event.SharedEvent.{SharedEvent}
use Rattle.radio_sim.specs.Radio.{Ether, wires_of}
use Rattle.world_rules.specs.Cause.{Cause}
use Rattle.world_rules.specs.Cause as event
use Rattle.world_rules.specs.World.{World}
use Rattle.world_rules.specs.Effect.{event_node}
use Rattle.world_rules.specs.State.{Moment, state}
use Rattle.world_rules.specs.Run.{HaveCome, IsNext, IsDone}
use Rattle.world_air.specs.Air.{radio_event}
use Rattle.world_air.specs.Changes.{AreNear, IsNear}
use Rattle.world_run_laws.specs.Sound.{AreOfNodes, DuesAreOfNodes}
use Rattle.world_state.specs.Standing.{IsTakenFrom}
use Rattle.world_state.specs.StandingAfter.{IsRadioAfter, coming}

-- ---- lists of causes

record Splits (w : World) (cs : List Cause) (e : SharedEvent) (es : List SharedEvent) : Type 0 where
  pub first : Cause
  pub others : List Cause
  pub split : cs ≡ first ∷ others
  pub is : radio_event w first ≡ e
  pub rest : map (radio_event w) others ≡ es

first-of : SharedEvent → List SharedEvent → SharedEvent
first-of e [] = e
first-of e (x ∷ xs) = x

splits : (w : World) (cs : List Cause) (e : SharedEvent) (es : List SharedEvent) → map (radio_event w) cs ≡ e ∷ es → Splits w cs e es
unfolding first-of
splits w [] e es is = absurd (let long = ap (λ (xs : List SharedEvent). length xs) is in omega (arith, long))
splits w (c ∷ cs) e es is = record { first = c; others = cs; split = refl; is = ap (first-of e) is; rest = ap (drop 1) is }

none-mapped : (w : World) (cs : List Cause) → map (radio_event w) cs ≡ [] → cs ≡ []
none-mapped w [] is = refl
none-mapped w (c ∷ cs) is = absurd (let long = ap (λ (xs : List SharedEvent). length xs) is in omega (arith, long))

near-one : (w : World) (c : Cause) → w.nodes ≤ 64 → event_node w c < w.nodes → IsNear (radio_event w c)
near-one w (event.Planned line) few low = tt
near-one w (event.Period node h) few low = tt
near-one w (event.Deliver link number packet) few low = tt
near-one w _ few low = omega (arith, few, low)

near-all : (w : World) (cs : List Cause) → w.nodes ≤ 64 → AreOfNodes w cs → AreNear (map (radio_event w) cs)
near-all w [] few are = tt
near-all w (c ∷ cs) few are = (near-one w c few are.0, near-all w cs few are.1)

of-rest : (w : World) (cs : List Cause) → AreOfNodes w cs → AreOfNodes w (drop 1 cs)
of-rest w [] are = tt
of-rest w (c ∷ cs) are = are.1

-- ---- the next event

pub record IsBehind (w : World) (ms : List Moment) (time : ℕ) (e : SharedEvent) (new : Ether) : Type 0 where
  pub cause : Cause
  pub next : IsNext (state w ms) time cause
  pub is : radio_event w cause ≡ e
  pub taken : IsTakenFrom w (state w ms) (coming time cause) new
  pub within : time ≤ w.until

module _ (w : World) (ms : List Moment) (old new : Ether) (time : ℕ) (e : SharedEvent) (few : w.nodes ≤ 64) (dues : DuesAreOfNodes w) (come : HaveCome w ms) (radio : IsRadioAfter w ms old)
    (comes : Comes old.agenda (record { time = time; item = e }) new.agenda) (same : new ≡ record old { agenda = new.agenda }) where
  in-time : time ≤ w.until
  in-time = subst (λ (n : ℕ). time ≤ n) radio.until comes.in_time

  found : Splits w ((state w ms).due time) e (due_at time new.agenda.items)
  found = splits w ((state w ms).due time) e (due_at time new.agenda.items) (sym (radio.due time in-time) ∙ comes.first_due)

  left-at : (t : ℕ) → t ≤ w.until → due_at t new.agenda.items ≡ map (radio_event w) (if t == time then drop 1 ((state w ms).due t) else (state w ms).due t)
  left-at t within = elim (eqb_tells t time) [
    | inl at ↦
        ap (λ (u : ℕ). due_at u new.agenda.items) at.1 ∙ sym found.rest ∙ ap (λ (cs : List Cause). map (radio_event w) (drop 1 cs)) (sym found.split)
        ∙ ap (λ (u : ℕ). map (radio_event w) (drop 1 ((state w ms).due u))) (sym at.1)
        ∙ ap (λ (b : Bool). map (radio_event w) (if b then drop 1 ((state w ms).due t) else (state w ms).due t)) (sym at.0)
    | inr at ↦ comes.others t at.1 ∙ radio.due t within ∙ ap (λ (b : Bool). map (radio_event w) (if b then drop 1 ((state w ms).due t) else (state w ms).due t)) (sym at.0)
  ]

  near-at : (t : ℕ) → t ≤ w.until → (b : Bool) → AreNear (map (radio_event w) (if b then drop 1 ((state w ms).due t) else (state w ms).due t))
  near-at t within true = near-all w (drop 1 ((state w ms).due t)) few (of-rest w ((state w ms).due t) (dues ms t come within))
  near-at t within false = near-all w ((state w ms).due t) few (dues ms t come within)

  pub behind : IsBehind w ms time e new
  behind = record {
    cause = found.first;
    next = record {
      others = found.others;
      due = found.split;
      none_before = λ t early. none-mapped w ((state w ms).due t) (sym (radio.due t (let high = in-time in omega (arith, early, high))) ∙ comes.none_before t early);
    };
    is = found.is;
    within = in-time;
    taken = record {
      due = left-at;
      near = λ t within. subst AreNear (sym (left-at t within)) (near-at t within (t == time));
      until = comes.until ∙ radio.until;
      now = comes.now;
      stands = record {
        stands = record { sent = ap (λ (x : Ether). x.sent) same ∙ radio.stands.stands.sent; wires = λ node low. ap (λ (x : Ether). wires_of x node) same ∙ radio.stands.stands.wires node low };
        delay = ap (λ (x : Ether). x.delay) same ∙ radio.stands.delay;
      };
    };
  }

-- nothing is due any more where nothing waits
pub is-done : (w : World) (ms : List Moment) (e : Ether) → IsRadioAfter w ms e → e.agenda.items ≡ [] → IsDone (state w ms) w.until
is-done w ms e radio none t within = none-mapped w ((state w ms).due t) (sym (radio.due t within) ∙ ap (due_at t) none)
