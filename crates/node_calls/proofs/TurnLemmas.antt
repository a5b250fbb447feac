-- A turn: where it stands short of the mark, asks, or is over.
use Rattle.std.proofs.Common.{◌≡◌, ◌≢◌, ◌⊎◌, ℕ, ◌+◌, ◌<◌, Bool, true, false, cond, List, [], ◌∷◌, Option, Some, None, refl, sym, ◌∙◌, ap, subst, arith, inl, inr}
use Rattle.std.specs.Prelude.{map, not, ◌==◌}
use Rattle.std.proofs.lemmas.Bool.{cases_eq, eq-eqb, ne_eqb}
use Rattle.mate_num.specs.declared.call.End.{End}
use Rattle.mate_num.specs.declared.id.ContextId.{ContextId}
use Rattle.mate_num.specs.declared.store.Store.{Store}
use Rattle.mate_code.specs.Run.{Own, Run, Over, end_of}
use Rattle.context_sched.specs.Ready.{is_same, without}
use Rattle.lock_manager.proofs.ClaimLemmas.{same_context}
use Rattle.exec_unit.specs.declared.step_end.StepEnd.{StepEnd}
use Rattle.exec_unit.specs.Step.{own_after}
use Rattle.vm_shape.specs.declared.description.Description.{Description}
use Rattle.mate_journal.specs.Journal.{is_started, Invocation, NodeState, whole_run, changed}
use Rattle.node_state.specs.declared.seat.Seat.{Seat}
use Rattle.node_state.specs.declared.contexts.Contexts.{Contexts}
use Rattle.node_state.specs.At.{At, at, Becomes}
use Rattle.node_state.specs.Programs.{held_at}
use Rattle.node_state.specs.Executing.{Executes}
use Rattle.node_state.specs.declared.parts.Parts.{Parts}
use Rattle.node_state.specs.Meaning.{machine_in}
use Rattle.node_state.specs.Agrees.{own_run}
use Rattle.node_state.specs.Keeps.{reading, Keeps}
use Rattle.node_state.proofs.FitLemmas.{IsAlone, changed-here, changed-other}
use Rattle.node_state.proofs.AgreeLemmas.{going_in}
use Rattle.node_state.proofs.EntryLemmas.{own-after}
use Rattle.node_state.proofs.SerialLemmas.{whole, whole-over}
use Rattle.node_state.specs.Queue.{number_at, invocation_in}
use Rattle.mate_journal.specs.Pace.{Pace, others}
use Rattle.node_state.specs.Pace.{IsPace}
use Rattle.node_state.proofs.StartingLemmas.{map-same}
use Rattle.node_calls.proofs.MarkLemmas.{mark-over}
use Rattle.node_calls.proofs.RunningLemmas.{one, one-verified}

-- ---- the line without one, by contexts and by numbers

pub line-without : (f g : ContextId → ℕ) (c : ContextId) (n : ℕ) (ring : List ContextId) → f c ≡ n → ((k : ContextId) → k.0 ≢ c.0 → (f k ≢ n)) → ((k : ContextId) → k.0 ≢ c.0 → g k ≡ f k)
    → others (map f ring) n ≡ map g (without ring c)
line-without f g c n [] here apart same = refl
line-without f g c n (k ∷ ring) here apart same = by (cases_eq k.0 c.0) (line-without f g c n ring here apart same) where
  by : (k.0 ≡ c.0) ⊎ (k.0 ≡ c.0 → ⊥) → others (map f ring) n ≡ map g (without ring c) → others (map f (k ∷ ring)) n ≡ map g (without (k ∷ ring) c)
  by (inl e) further =
      let is : f k ≡ n = ap f (same_context k c e) ∙ here in
      let a : (n == f k) ≡ true = eq-eqb n (f k) (sym is) in
      let b : is_same c k ≡ true = eq-eqb c.0 k.0 (sym e) in
      ap (λ (t : Bool). cond (not t) (f k ∷ others (map f ring) n) (others (map f ring) n)) a ∙ further
      ∙ ap (λ (t : Bool). map g (cond (not t) (k ∷ without ring c) (without ring c))) (sym b)
  by (inr other) further =
      let a : (n == f k) ≡ false = ne_eqb n (f k) (λ e. apart k other (sym e)) in
      let b : is_same c k ≡ false = ne_eqb c.0 k.0 (λ e. other (sym e)) in
      ap (λ (t : Bool). cond (not t) (f k ∷ others (map f ring) n) (others (map f ring) n)) a ∙ ap (λ (l : List ℕ). f k ∷ l) further
      ∙ ap (λ (x : ℕ). x ∷ map g (without ring c)) (sym (same k other))
      ∙ ap (λ (t : Bool). map g (cond (not t) (k ∷ without ring c) (without ring c))) (sym b)

-- ---- the pace where one leaves the line

module _ (r later : NodeState) (old after : Contexts) (c : ContextId) (a : At) (n count : ℕ) (alone : IsAlone old n c) (number : invocation_in old c ≡ n) (above : 0 < n)
    (becomes : Becomes old after c a) (kept : (j : ℕ) → j ≢ n → later.invocations j ≡ r.invocations j) (here : (t : Seat) → a.seat ≡ Some t → (t.inv ≡ n) × (t.count ≡ count)) where
  number-other : (k : ContextId) → k.0 ≢ c.0 → invocation_in after k ≡ invocation_in old k
  number-other k other = ap (λ (b : At). number_at b.seat) (becomes.others k other)

  apart : (k : ContextId) → k.0 ≢ c.0 → (invocation_in old k ≢ n)
  apart k other = by (at old k).seat refl where
    by : (o : Option Seat) → (at old k).seat ≡ o → (number_at o ≢ n)
    by None e same = absurd (omega arith)
    by (Some t) e same = alone.elsewhere k t other e same

  counts-now : (p : Pace) → IsPace r old p → (k : ContextId) (t : Seat) → (at after k).seat ≡ Some t → is_started (later.invocations t.inv).phase ≡ true → t.count ≡ changed p.counts n count t.inv
  counts-now p pace k t e started = by (cases_eq k.0 c.0) where
    by : (k.0 ≡ c.0) ⊎ (k.0 ≡ c.0 → ⊥) → t.count ≡ changed p.counts n count t.inv
    by (inl same) =
        let Q : ContextId → Type 0 = λ j. (at after j).seat ≡ Some t in
        let h = here t (ap (λ (b : At). b.seat) (sym becomes.here) ∙ subst Q (same_context k c same) e) in
        h.1 ∙ sym (changed-here p.counts n count t.inv h.0)
    by (inr other) =
        let was : (at old k).seat ≡ Some t = ap (λ (b : At). b.seat) (sym (becomes.others k other)) ∙ e in
        let differs = alone.elsewhere k t other was in
        let before : is_started (r.invocations t.inv).phase ≡ true = ap (λ (i : Invocation). is_started i.phase) (sym (kept t.inv differs)) ∙ started in
        pace.counts k t was before ∙ sym (changed-other p.counts n count t.inv differs)

  -- it asks or is over
  pub pace-leaves : after.ring ≡ without old.ring c → (p : Pace) → IsPace r old p → IsPace later after record { line = others p.line n; counts = changed p.counts n count }
  pace-leaves ring p pace = record {
    line = ap (λ (l : List ℕ). others l n) pace.line ∙ line-without (invocation_in old) (invocation_in after) c n old.ring number apart number-other ∙ ap (map (invocation_in after)) (sym ring);
    counts = counts-now p pace;
  }

  -- it goes on
  pub pace-stays : after.ring ≡ old.ring → number_at a.seat ≡ n → (p : Pace) → IsPace r old p → IsPace later after record { line = p.line; counts = changed p.counts n count }
  pace-stays ring still p pace = record {
    line = pace.line ∙ map-same (invocation_in old) (invocation_in after) old.ring (λ k. sym (numbers k)) ∙ ap (map (invocation_in after)) (sym ring);
    counts = counts-now p pace;
  } where
    numbers : (k : ContextId) → invocation_in after k ≡ invocation_in old k
    numbers k = by (cases_eq k.0 c.0) where
      by : (k.0 ≡ c.0) ⊎ (k.0 ≡ c.0 → ⊥) → invocation_in after k ≡ invocation_in old k
      by (inl e) =
          let Q : ContextId → Type 0 = λ j. invocation_in after j ≡ invocation_in old j in
          subst Q (sym (same_context k c e)) (ap (λ (b : At). number_at b.seat) becomes.here ∙ still ∙ sym number)
      by (inr other) = number-other k other

-- ---- where the run is over, there is the mark

module _ (d : Description) (old : Parts) (contexts : Contexts) (heap : Store) (c : ContextId) (how : StepEnd) (keeps : Keeps d old) (is_ready : (at old.contexts c).ready ≡ true)
    (ex : Executes (held_at old.handlers.programs) old.contexts old.heap c how contexts heap) (e : End) where
  abbrev s : Seat
  s = (one d old c keeps is_ready).seat

  abbrev r : NodeState
  r = reading d old.log.all

  abbrev i : Invocation
  i = r.invocations s.inv

  seat-is : ex.seat ≡ s
  seat-is = let f : Some ex.seat ≡ Some s = sym ex.is ∙ (one d old c keeps is_ready).is in cc

  pub now-inv : ex.now.inv ≡ s.inv
  now-inv = ex.same.inv ∙ ap (λ (t : Seat). t.inv) seat-is

  pub now-count : ex.now.count ≡ s.count + 1
  now-count = ex.counted ∙ ap (λ (t : Seat). t.count + 1) seat-is

  module _ (status : (own_after how ex.now.machine (going_in i s)).status ≡ Over e) (counts : (own_after how ex.now.machine (going_in i s)).count ≡ s.count + 1) where
    run-is : (own_run d i ex.now.count r.serial).own ≡ own_after how ex.now.machine (going_in i s)
    run-is = (own-after d old contexts heap c how keeps is_ready ex).own

    counted : (own_run d i ex.now.count r.serial).own.count ≡ ex.now.count
    counted = ap (λ (o : Own). o.count) run-is ∙ counts ∙ sym now-count

    over : (own_run d i ex.now.count r.serial).own.status ≡ Over e
    over = ap (λ (o : Own). o.status) run-is ∙ status

    pub mark-is : (whole d i r.serial).own.count ≡ s.count + 1
    mark-is = mark-over d i r.serial ex.now.count (one-verified d old c keeps is_ready) counted e over ∙ now-count

    pub end-is : (whole_run (machine_in d) r s.inv).end ≡ e
    end-is =
        ap (λ (x : Run). end_of x.own.status) (whole-over d i r.serial ex.now.count e (one-verified d old c keeps is_ready) counted over)
        ∙ ap end_of over
