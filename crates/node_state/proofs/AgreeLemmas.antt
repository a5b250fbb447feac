-- The heap goes on agreeing with the runs of the started invocations.
use Rattle.std.proofs.Common.{◌≡◌, ◌≢◌, ◌⊎◌, ℕ, suc, ◌+◌, ℤ, Bool, true, false, ◌||◌, List, [], Some, refl, sym, ◌∙◌, ap, subst, inl, inr, add-one}
use Rattle.std.proofs.lemmas.Bool.{cases_eq, cases_Bool}
use Rattle.mate_num.specs.Uses.{Uses, uses, IsCompatible}
use Rattle.mate_num.specs.declared.call.Call.{Call}
use Rattle.mate_num.specs.declared.id.ContextId.{ContextId}
use Rattle.mate_num.specs.declared.resource.Resource.{Resource}
use Rattle.mate_num.specs.declared.shape.Shape.{Shape}
use Rattle.mate_num.specs.declared.store.Store.{Store}
use Rattle.lock_manager.proofs.ClaimLemmas.{same_context}
use Rattle.mate_code.specs.Cells.{read, AreAsLong, Agree}
use Rattle.mate_code.specs.CodeUses.{uses_of}
use Rattle.mate_code.specs.Effect.{Private}
use Rattle.mate_code.specs.Run.{Code, Own, Run, after, begun_run, step}
use Rattle.mate_code.proofs.RunLemmas.{Matches, step-Matches, after-Matches, step-other, step-AreAsLong}
use Rattle.code_verifier.specs.Verified.{VerifiedCode}
use Rattle.exec_unit.specs.declared.step_end.StepEnd.{StepEnd}
use Rattle.exec_unit.specs.Step.{IsStep, going, own_after}
use Rattle.vm_shape.specs.declared.description.Description.{Description}
use Rattle.vm_shape.specs.Shapes.{shape_of}
use Rattle.mate_journal.specs.Journal.{Phase, Unposted, Queued, Ready, Waiting, Over as Gone, is_started, Invocation, NodeState, changed}
use Rattle.node_state.specs.declared.seat.Seat.{Seat}
use Rattle.node_state.specs.declared.contexts.Contexts.{Contexts}
use Rattle.node_state.specs.At.{At, at, Becomes}
use Rattle.node_state.specs.Meaning.{image_code}
use Rattle.mate_journal.specs.Journal.{answers_of}
use Rattle.node_state.specs.Agrees.{code_for, uses_for, own_run, status_in, own_in, IsOwnRun, RunsOwn, Agrees}
use Rattle.node_state.proofs.FitLemmas.{changed-here, changed-other, IsAlone}

-- ---- stores that agree

pub Agree-then : (test : Resource → Bool) (a b c : Store) → Agree test a b → Agree test b c → Agree test a c
Agree-then test a b c f g =
    record { as_long = record { shared = f.as_long.shared ∙ g.as_long.shared; buffers = f.as_long.buffers ∙ g.as_long.buffers }; same = λ r t. f.same r t ∙ g.same r t }

pub Agree-back : (test : Resource → Bool) (a b : Store) → Agree test a b → Agree test b a
Agree-back test a b f = record { as_long = record { shared = sym f.as_long.shared; buffers = sym f.as_long.buffers }; same = λ r t. sym (f.same r t) }

-- what is written is used
pub or-right : (a b : Bool) → b ≡ true → (a || b) ≡ true
or-right true b e = refl
or-right false b e = e

-- only what these uses write is changed
pub record Alters (u : Uses) (before after : Store) : Type 0 where
  pub as_long : AreAsLong after before
  pub others : (q : Resource) → u.writes q ≡ false → read after q ≡ read before q

-- whoever doesn't conflict with them sees no change
pub Agree-altered : (u w : Uses) (before after : Store) → IsCompatible u w → Alters w before after → Agree (uses u) before after
Agree-altered u w before after apart alters =
    record {
      as_long = record { shared = sym alters.as_long.shared; buffers = sym alters.as_long.buffers };
      same = λ q t. by q t (cases_Bool (w.writes q));
    } where
      by : (q : Resource) → uses u q ≡ true → (w.writes q ≡ true) ⊎ (w.writes q ≡ false) → read before q ≡ read after q
      by q t (inl writes) = absurd (apart.apart q (inr (writes, t)))
      by q t (inr not) = sym (alters.others q not)

-- ---- one instruction

abbrev run_in : Invocation → Seat → Store → Run
run_in i s heap = record { own = own_in i s; store = heap }

abbrev pub going_in : Invocation → Seat → Own
going_in i s = going s.machine [] i.calls s.count

ready-going : (i : Invocation) (s : Seat) → i.phase ≡ Ready → own_in i s ≡ going_in i s
ready-going i s e = ap (λ (p : Phase). record (going_in i s) { status = status_in p }) e

module _ (d : Description) (i : Invocation) (s : Seat) (serial heap later : Store) (v : VerifiedCode) (how : StepEnd) (p : Private)
    (shape_is : v.shape ≡ shape_of d) (code_is : v.code ≡ code_for d i) (one : IsStep v s.machine heap how p later) where
  stepped : (left : List ℤ) (calls : List Call) (count : ℕ) → step (shape_of d) (code_for d i) record { own = going s.machine left calls count; store = heap } ≡ record { own = own_after how p (going s.machine left calls count); store = later }
  stepped left calls count =
      let P : Shape → Code → Type 0 = λ shape code. step shape code record { own = going s.machine left calls count; store = heap } ≡ record { own = own_after how p (going s.machine left calls count); store = later } in
      let Q : Shape → Type 0 = λ shape. P shape v.code in
      subst (P (shape_of d)) code_is (subst Q shape_is (one.run left calls count))

  -- it changes only what the code writes
  pub step-Alters : Alters (uses_for d i) heap later
  step-Alters =
      let r : Run = record { own = going_in i s; store = heap } in
      let e = ap (λ (x : Run). x.store) (stepped [] i.calls s.count) in
      let A : Store → Type 0 = λ t. AreAsLong t heap in
      record {
        as_long = subst A e (step-AreAsLong (shape_of d) (code_for d i) r);
        others = λ q not. ap (λ (t : Store). read t q) (sym e) ∙ step-other (shape_of d) (code_for d i) r q not;
      }

  -- the run goes on as the seat does
  pub step-own : i.phase ≡ Ready → IsOwnRun d i s serial heap → Matches (uses (uses_for d i)) (own_run d i (s.count + 1) serial) record { own = own_after how p (going_in i s); store = later }
  unfolding after
  step-own phase is =
      let test : Resource → Bool = uses (uses_for d i) in
      let before : Matches test (own_run d i s.count serial) record { own = going_in i s; store = heap } = record { own = is.own ∙ ready-going i s phase; stores = is.stores } in
      let P : ℕ → Type 0 = λ n. Matches test (own_run d i n serial) record { own = own_after how p (going_in i s); store = later } in
      let Q : Run → Type 0 = λ x. Matches test (own_run d i (suc s.count) serial) x in
      subst P (sym (add-one s.count)) (subst Q (stepped [] i.calls s.count) (step-Matches (shape_of d) (code_for d i) (own_run d i s.count serial) record { own = going_in i s; store = heap } before))

-- ---- another heap, another serial store

IsOwnRun-heap : (d : Description) (i : Invocation) (s : Seat) (serial heap later : Store) → IsOwnRun d i s serial heap → Agree (uses (uses_for d i)) heap later → IsOwnRun d i s serial later
IsOwnRun-heap d i s serial heap later is agree = record { own = is.own; stores = Agree-then (uses (uses_for d i)) (own_run d i s.count serial).store heap later is.stores agree }

IsOwnRun-serial : (d : Description) (i : Invocation) (s : Seat) (serial next heap : Store) → IsOwnRun d i s serial heap → Agree (uses (uses_for d i)) next serial → IsOwnRun d i s next heap
IsOwnRun-serial d i s serial next heap is agree =
    let test : Resource → Bool = uses (uses_for d i) in
    let m = after-Matches s.count (shape_of d) (code_for d i) (begun_run next i.payload (answers_of i) d.turns) (begun_run serial i.payload (answers_of i) d.turns) record { own = refl; stores = agree } in
    record { own = m.own ∙ is.own; stores = Agree-then test (own_run d i s.count next).store (own_run d i s.count serial).store heap m.stores is.stores }

pub RunsOwn-heap : (p : Phase) (d : Description) (i : Invocation) (s : Seat) (serial heap later : Store) → RunsOwn d p i s serial heap → (is_started p ≡ true → Agree (uses (uses_for d i)) heap later) → RunsOwn d p i s serial later
RunsOwn-heap Unposted d i s serial heap later is agree = tt
RunsOwn-heap Queued d i s serial heap later is agree = is
RunsOwn-heap Ready d i s serial heap later is agree = IsOwnRun-heap d i s serial heap later is (agree refl)
RunsOwn-heap (Waiting f args) d i s serial heap later is agree = IsOwnRun-heap d i s serial heap later is (agree refl)
RunsOwn-heap Gone d i s serial heap later is agree = tt

pub RunsOwn-serial : (p : Phase) (d : Description) (i : Invocation) (s : Seat) (serial next heap : Store) → RunsOwn d p i s serial heap → (is_started p ≡ true → Agree (uses (uses_for d i)) next serial) → RunsOwn d p i s next heap
RunsOwn-serial Unposted d i s serial next heap is agree = tt
RunsOwn-serial Queued d i s serial next heap is agree = is
RunsOwn-serial Ready d i s serial next heap is agree = IsOwnRun-serial d i s serial next heap is (agree refl)
RunsOwn-serial (Waiting f args) d i s serial next heap is agree = IsOwnRun-serial d i s serial next heap is (agree refl)
RunsOwn-serial Gone d i s serial next heap is agree = tt

-- ---- one started invocation moves, and is still started

-- it has the context, and is there as this seat afterwards
pub record Sits (old new : Contexts) (n : ℕ) (c : ContextId) (a : At) (t : Seat) : Type 0 where
  pub becomes : Becomes old new c a
  pub seat : a.seat ≡ Some t
  pub number : t.inv ≡ n
  pub alone : IsAlone old n c

module _ (d : Description) (r : NodeState) (old new : Contexts) (heap later : Store) (n : ℕ) (i : Invocation) (c : ContextId) (a : At) (t : Seat)
    (agrees : Agrees d r old heap) (sits : Sits old new n c a t) where
  abbrev next : NodeState
  next = record r { invocations = changed r.invocations n i }

  -- each seat, where the others see no change of the heap
  pub each-moves : RunsOwn d i.phase i t r.serial later
      → ((m : ℕ) → m ≢ n → is_started (r.invocations m).phase ≡ true → Agree (uses (uses_for d (r.invocations m))) heap later)
      → (k : ContextId) (s : Seat) → (at new k).seat ≡ Some s → RunsOwn d (next.invocations s.inv).phase (next.invocations s.inv) s r.serial later
  each-moves here others k s e = by (cases_eq k.0 c.0) where
    by : (k.0 ≡ c.0) ⊎ (k.0 ≡ c.0 → ⊥) → RunsOwn d (next.invocations s.inv).phase (next.invocations s.inv) s r.serial later
    by (inl same) =
        let C : ContextId → Type 0 = λ j. (at new j).seat ≡ Some s in
        let at_c : (at new c).seat ≡ Some s = subst C (same_context k c same) e in
        let f : Some t ≡ Some s = sym sits.seat ∙ ap (λ (b : At). b.seat) (sym sits.becomes.here) ∙ at_c in
        let g : t ≡ s = cc in
        let P : Seat → Type 0 = λ u. RunsOwn d (next.invocations u.inv).phase (next.invocations u.inv) u r.serial later in
        let Q : Invocation → Type 0 = λ j. RunsOwn d j.phase j t r.serial later in
        subst P g (subst Q (sym (changed-here r.invocations n i t.inv sits.number)) here)
    by (inr other) =
        let was : (at old k).seat ≡ Some s = ap (λ (b : At). b.seat) (sym (sits.becomes.others k other)) ∙ e in
        let apart = sits.alone.elsewhere k s other was in
        let Q : Invocation → Type 0 = λ j. RunsOwn d j.phase j s r.serial later in
        subst Q (sym (changed-other r.invocations n i s.inv apart))
        (RunsOwn-heap (r.invocations s.inv).phase d (r.invocations s.inv) s r.serial heap later (agrees.each k s was) (others s.inv apart))

  -- started as before, with the same program
  pub record StaysStarted : Type 0 where
    pub was : is_started (r.invocations n).phase ≡ true
    pub is : is_started i.phase ≡ true
    pub program : i.program ≡ (r.invocations n).program

  same_uses : StaysStarted → (m : ℕ) → uses_for d (next.invocations m) ≡ uses_for d (r.invocations m)
  same_uses stays m =
      elim (cases_eq m n) [
        | inl e ↦ (ap (uses_for d) (changed-here r.invocations n i m e)
            ∙ ap (λ (p : _). uses_of (shape_of d) (image_code (shape_of d) p.image)) stays.program
            ∙ ap (λ (k : ℕ). uses_for d (r.invocations k)) (sym e))
        | inr other ↦ ap (uses_for d) (changed-other r.invocations n i m other)
      ]

  same_started : StaysStarted → (m : ℕ) → is_started (next.invocations m).phase ≡ is_started (r.invocations m).phase
  same_started stays m =
      elim (cases_eq m n) [
        | inl e ↦ (ap (λ (j : Invocation). is_started j.phase) (changed-here r.invocations n i m e) ∙ stays.is ∙ sym stays.was
            ∙ ap (λ (k : ℕ). is_started (r.invocations k).phase) (sym e))
        | inr other ↦ ap (λ (j : Invocation). is_started j.phase) (changed-other r.invocations n i m other)
      ]

  pub Agrees-moves : StaysStarted → Alters (uses_for d (r.invocations n)) heap later → RunsOwn d i.phase i t r.serial later → Agrees d next new later
  Agrees-moves stays alters here =
      record {
        as_long = record { shared = alters.as_long.shared ∙ agrees.as_long.shared; buffers = alters.as_long.buffers ∙ agrees.as_long.buffers };
        each = each-moves here (λ m other started. Agree-altered (uses_for d (r.invocations m)) (uses_for d (r.invocations n)) heap later (agrees.apart m n other started stays.was) alters);
        apart = λ j k other js ks.
            (let P : Uses → Type 0 = λ u. IsCompatible u (uses_for d (next.invocations k)) in
            let Q : Uses → Type 0 = λ u. IsCompatible (uses_for d (r.invocations j)) u in
            subst P (sym (same_uses stays j)) (subst Q (sym (same_uses stays k)) (agrees.apart j k other (sym (same_started stays j) ∙ js) (sym (same_started stays k) ∙ ks))));
        elsewhere = λ q unwritten.
            (let was : (m : ℕ) → is_started (r.invocations m).phase ≡ true → (uses_for d (r.invocations m)).writes q ≡ false =
            λ m started. ap (λ (u : Uses). u.writes q) (sym (same_uses stays m)) ∙ unwritten m (same_started stays m ∙ started) in
            alters.others q (was n stays.was) ∙ agrees.elsewhere q was);
      }
