-- Instructions of one invocation: each that goes on keeps what the node keeps, and the invocation's count is right.
use Rattle.std.proofs.Common.{◌≡◌, ℕ, zero, suc, ◌+◌, ◌^◌, ◌<◌, ◌≤◌, true, Option, Some, refl, sym, ◌∙◌, ap, subst, arith, inr}
use Rattle.mate_num.specs.declared.id.ContextId.{ContextId}
use Rattle.mate_num.specs.declared.store.Store.{Store}
use Rattle.mate_num.specs.declared.shape.Shape.{Shape}
use Rattle.lock_manager.specs.Claims.{Claims}
use Rattle.mate_code.specs.Effect.{Private}
use Rattle.mate_code.specs.Run.{Own, Going}
use Rattle.mate_num.specs.declared.id.HandlerId.{HandlerId}
use Rattle.code_verifier.specs.Verified.{IsAtVerified as FitsCode}
use Rattle.exec_unit.specs.declared.step_end.StepEnd.{StepEnd}
use Rattle.exec_unit.specs.declared.step_end.StepEnd.TheVariants.{Next, Ask, Halt, Fault}
use Rattle.exec_unit.specs.Step.{HasLengths, IsStep}
use Rattle.vm_shape.specs.declared.description.Description.{Description}
use Rattle.mate_journal.specs.Journal.{Phase, Ready, Invocation, NodeState}
use Rattle.node_state.specs.declared.handlers.Held.{Held}
use Rattle.exec_unit.specs.declared.running.Ran.{Ran}
use Rattle.node_state.specs.declared.seat.Seat.{Seat}
use Rattle.node_state.specs.declared.contexts.Contexts.{Contexts}
use Rattle.node_state.specs.At.{At, at, Becomes}
use Rattle.node_state.specs.Programs.{Programs, held_at}
use Rattle.exec_unit.specs.Running.{GoFor, StopsAfter, HasRunTo, HasExecuted}
use Rattle.node_state.specs.Executing.{IsSameSeat, with_seat, CanExecute, Executes, HasTurn}
use Rattle.node_state.proofs.ContextLemmas.{with_seat-becomes, with_seat-same, with_seat-twice}
use Rattle.node_state.specs.declared.parts.Parts.{Parts}
use Rattle.node_state.specs.Meaning.{machine_in}
use Rattle.node_state.specs.Fits.{IsHeld, FitsIn}
use Rattle.node_state.specs.Agrees.{status_in, IsOwnRun, RunsOwn, own_run}
use Rattle.node_state.specs.Keeps.{reading, Keeps}
use Rattle.node_state.proofs.FitLemmas.{HasSeat}
use Rattle.node_state.proofs.MoveLemmas.{running, was_ready}
use Rattle.node_state.proofs.EntryLemmas.{Keeps-executed}
use Rattle.node_state.proofs.SerialLemmas.{HasVerified, verified-seat, whole}
use Rattle.node_state.specs.Queue.{number_at}
use Rattle.node_state.specs.Starting.{KeepsOrder}
use Rattle.node_state.proofs.OrderLemmas.{IsQueue-becomes}
use Rattle.node_calls.specs.Pacing.{most, HasGoneOn, HasStopped, RunsTo, RunsFor}
use Rattle.node_calls.proofs.MarkLemmas.{mark-going, mark-few}

-- ---- the ready invocation of a context

module _ (d : Description) (s : Parts) (c : ContextId) (keeps : Keeps d s) (is_ready : (at s.contexts c).ready ≡ true) where
  abbrev r : NodeState
  r = reading d s.log.all

  abbrev held : Programs
  held = held_at s.handlers.programs

  abbrev pub one : HasSeat held r c (at s.contexts c)
  one = running (machine_in d) held r s.contexts c keeps.fits is_ready

  abbrev i : Invocation
  i = r.invocations one.seat.inv

  pub one-ready : i.phase ≡ Ready
  one-ready = was_ready (machine_in d) held r s.contexts c keeps.fits is_ready

  pub one-verified : HasVerified d i
  one-verified = verified-seat d r s.contexts held s.heap keeps.fits keeps.installed.each keeps.agrees c i one.seat (at s.contexts c) r.posts one.seated

  pub one-own : IsOwnRun d i one.seat r.serial s.heap
  one-own = let P : Phase → Type 0 = λ p. RunsOwn d p i one.seat r.serial s.heap in subst P one-ready (keeps.agrees.each c one.seat one.is)

  one-counted : (own_run d i one.seat.count r.serial).own.count ≡ one.seat.count
  one-counted = ap (λ (o : Own). o.count) one-own.own

  one-going : (own_run d i one.seat.count r.serial).own.status ≡ Going
  one-going = ap (λ (o : Own). o.status) one-own.own ∙ ap status_in one-ready

  -- it has not reached its mark
  pub one-below : one.seat.count < (whole d i r.serial).own.count
  one-below = mark-going d i r.serial one.seat.count one-verified one-counted one-going

  -- and no mark is beyond the bound
  pub one-within : (whole d i r.serial).own.count ≤ most d
  one-within = mark-few d i r.serial one.seat.count one-verified one-counted

  pub one-few : one.seat.count < most d
  one-few =
      let h = one-below in
      let k = mark-few d i r.serial one.seat.count one-verified one-counted in
      omega arith

  one-fits : FitsCode one.seated.x.code one.seat.machine
  one-fits = let P : Phase → Type 0 = λ p. FitsIn one.seated.x.code p one.seat.machine in subst P one-ready one.seated.fits

  pub CanExecute-ready : c.0 < 16 → most d < 2 ^ 63 → CanExecute held s.contexts s.heap c
  CanExecute-ready small low =
      let x : Held = one.seated.x in
      let h : IsHeld d x = keeps.installed.each one.seat.handler x one.seated.is_held in
      let P : Shape → Type 0 = λ shape. HasLengths shape s.heap in
      let few = one-few in
      record {
        small = small;
        seat = one.seat;
        is = one.is;
        x = x;
        is_held = one.seated.is_held;
        fits = one-fits;
        lengths = subst P (sym h.shape) keeps.lengths;
        count = omega arith;
      }

-- ---- instructions that go on

pub HasGoneOn-none : (d : Description) (s : Parts) (c : ContextId) → KeepsOrder d s → (at s.contexts c).ready ≡ true → HasGoneOn d s s c 0
HasGoneOn-none d s c order is_ready =
    let h = one d s c order.keeps is_ready in
    record {
      order = order;
      seat = h.seat;
      is = h.is;
      now = h.seat;
      same = record { inv = refl; handler = refl };
      counted = omega arith;
      becomes = record { here = ap (λ (o : Option Seat). record (at s.contexts c) { seat = o }) h.is; others = λ k other. refl; seats = refl };
      locks = refl;
      ring = refl;
      log = refl;
      handlers = refl;
      posts = refl;
    }

-- it is still ready
pub HasGoneOn-ready : (d : Description) (old next : Parts) (c : ContextId) (n : ℕ) → (at old.contexts c).ready ≡ true → HasGoneOn d old next c n → (at next.contexts c).ready ≡ true
HasGoneOn-ready d old next c n is_ready g = ap (λ (a : At). a.ready) g.becomes.here ∙ is_ready

-- one instruction that goes on keeps all
module _ (d : Description) (old : Parts) (contexts : Contexts) (heap : Store) (c : ContextId) (order : KeepsOrder d old) (is_ready : (at old.contexts c).ready ≡ true)
    (ex : Executes (held_at old.handlers.programs) old.contexts old.heap c Next contexts heap) where
  abbrev next : Parts
  next = record old { contexts = contexts; heap = heap }

  pub KeepsOrder-executed : KeepsOrder d next
  KeepsOrder-executed =
      record {
        keeps = Keeps-executed d old contexts heap c Next order.keeps is_ready ex refl;
        queue = IsQueue-becomes old.contexts contexts c (record (at old.contexts c) { seat = Some ex.now }) ex.becomes (ap (λ (l : Claims). l.waiting) ex.locks)
            (inr (ex.same.inv ∙ ap number_at (sym ex.is))) order.queue;
        grants = order.grants;
      }

pub HasGoneOn-then : (d : Description) (old mid : Parts) (contexts : Contexts) (heap : Store) (c : ContextId) (n : ℕ) → (at old.contexts c).ready ≡ true → HasGoneOn d old mid c n
    → Executes (held_at mid.handlers.programs) mid.contexts mid.heap c Next contexts heap → HasGoneOn d old (record mid { contexts = contexts; heap = heap }) c (n + 1)
HasGoneOn-then d old mid contexts heap c n is_ready g ex =
    let ready_mid = HasGoneOn-ready d old mid c n is_ready g in
    let seat_is : ex.seat ≡ g.now = (let f : Some ex.seat ≡ Some g.now = sym ex.is ∙ ap (λ (a : At). a.seat) g.becomes.here in cc) in
    let count = ex.counted in
    let before = g.counted in
    let same = ap (λ (t : Seat). t.count) seat_is in
    record {
      order = KeepsOrder-executed d mid contexts heap c g.order ready_mid ex;
      seat = g.seat;
      is = g.is;
      now = ex.now;
      same = record {
        inv = ex.same.inv ∙ ap (λ (t : Seat). t.inv) seat_is ∙ g.same.inv;
        handler = ex.same.handler ∙ ap (λ (t : Seat). t.handler) seat_is ∙ g.same.handler;
      };
      counted = omega arith;
      becomes = record {
        here = ex.becomes.here ∙ ap (λ (a : At). record a { seat = Some ex.now }) g.becomes.here;
        others = λ k other. ex.becomes.others k other ∙ g.becomes.others k other;
        seats = ex.becomes.seats ∙ g.becomes.seats;
      };
      locks = ex.locks ∙ g.locks;
      ring = ex.ring ∙ g.ring;
      log = g.log;
      handlers = g.handlers;
      posts = g.posts;
    }

-- ---- the instructions of a turn, which the seat in hand executes

module _ (held : Programs) (old : Contexts) (c : ContextId) (s : Seat) (x : Held) (is : (at old c).seat ≡ Some s) (is_held : held s.handler ≡ Some x) where
  -- one seat in the context after another
  Executes-with : (t now : Seat) (before after : Store) (how : StepEnd) → t.handler ≡ s.handler → IsSameSeat t now → now.count ≡ t.count + 1 → IsStep x.code t.machine before how now.machine after
      → Executes held (with_seat old c t) before c how (with_seat old c now) after
  Executes-with t now before after how own same counted step =
      let there : (at (with_seat old c t) c).seat ≡ Some t = ap (λ (a : At). a.seat) (with_seat-becomes old c s t is).here in
      let P : Contexts → Type 0 = λ l. Becomes (with_seat old c t) l c (record (at (with_seat old c t) c) { seat = Some now }) in
      record {
        seat = t;
        is = there;
        x = x;
        is_held = ap held own ∙ is_held;
        now = now;
        same = same;
        counted = counted;
        step = step;
        becomes = subst P (with_seat-twice old c t now) (with_seat-becomes (with_seat old c t) c t now there);
        locks = refl;
        ring = refl;
      }

module _ (d : Description) (old : Parts) (c : ContextId) (s : Seat) (x : Held) (order : KeepsOrder d old) (is_ready : (at old.contexts c).ready ≡ true) (is : (at old.contexts c).seat ≡ Some s)
    (is_held : held_at old.handlers.programs s.handler ≡ Some x) where
  -- the seat after so many instructions, and the parts with it
  abbrev pub seat_after : ℕ → Private → Seat
  seat_after k machine = record s { machine = machine; count = s.count + k }

  abbrev pub parts_after : ℕ → Private → Store → Parts
  parts_after k machine heap = record old { contexts = with_seat old.contexts c (seat_after k machine); heap = heap }

  pub HasGoneOn-for : (k : ℕ) (machine : Private) (heap : Store) → GoFor x.code k s.machine old.heap machine heap → HasGoneOn d old (parts_after k machine heap) c k
  HasGoneOn-for zero machine heap go =
      let P : Contexts → Type 0 = λ l. HasGoneOn d old (record old { contexts = l }) c 0 in
      let Q : Private → Type 0 = λ m. HasGoneOn d old (record old { contexts = with_seat old.contexts c (seat_after 0 m) }) c 0 in
      let R : Store → Type 0 = λ h. HasGoneOn d old (record old { contexts = with_seat old.contexts c (seat_after 0 machine); heap = h }) c 0 in
      let N : ℕ → Type 0 = λ n. HasGoneOn d old (record old { contexts = with_seat old.contexts c (record s { count = n }) }) c 0 in
      subst R (sym go.1) (subst Q (sym go.0) (subst N none (subst P (sym (with_seat-same old.contexts c s is)) (HasGoneOn-none d old c order is_ready)))) where
        none : s.count ≡ s.count + 0
        none = omega arith
  HasGoneOn-for (suc k) machine heap go =
      let before = HasGoneOn-for k go.0 go.1 go.2 in
      let P : ℕ → Type 0 = λ n. HasGoneOn d old (parts_after (suc k) machine heap) c n in
      subst P same (HasGoneOn-then d old (parts_after k go.0 go.1) (with_seat old.contexts c (seat_after (suc k) machine)) heap c k is_ready before
      (Executes-with (held_at old.handlers.programs) old.contexts c s x is is_held (seat_after k go.0) (seat_after (suc k) machine) go.1 heap Next refl record { inv = refl; handler = refl } one_more go.3)) where
        same : k + 1 ≡ suc k
        same = omega arith

        one_more : s.count + suc k ≡ s.count + k + 1
        one_more = omega arith

  seat-same : (now : Seat) (k : ℕ) → IsSameSeat s now → now.count ≡ s.count + k → seat_after k now.machine ≡ now
  seat-same now k same counted =
      ap (λ (n : ℕ). record s { machine = now.machine; count = n }) (sym counted)
      ∙ ap (λ (n : ℕ). record now { inv = n; handler = s.handler }) (sym same.inv)
      ∙ ap (λ (h : HandlerId). record now { handler = h }) (sym same.handler)

  -- the whole turn
  pub RunsFor-turn : (n : ℕ) (ran : Ran) (now : Seat) (heap : Store) → IsSameSeat s now → now.count ≡ s.count + ran.instructions → HasExecuted x.code s.machine old.heap n ran now.machine heap
      → RunsFor d old (record old { contexts = with_seat old.contexts c now; heap = heap }) c n ran
  RunsFor-turn n ran now heap same counted run = by ran.how refl run where
    new : Parts
    new = record old { contexts = with_seat old.contexts c now; heap = heap }

    stops : StopsAfter x.code s.machine old.heap n ran now.machine heap → HasStopped d old new c n ran.instructions ran.how
    stops h = record {
      before = h.gone;
      few = h.few;
      ran_is = h.instructions;
      mid = parts_after h.gone h.mid h.store;
      goes = HasGoneOn-for h.gone h.mid h.store h.goes;
      executes =
          Executes-with (held_at old.handlers.programs) old.contexts c s x is is_held (seat_after h.gone h.mid) now h.store heap ran.how refl record { inv = same.inv; handler = same.handler }
          (let n = counted in let k = h.instructions in omega arith) h.last;
      rest = refl;
    }

    by : (how : StepEnd) → ran.how ≡ how → HasRunTo how x.code s.machine old.heap n ran now.machine heap → RunsTo how d old new c n ran.instructions
    by Next e h =
        let P : Seat → Type 0 = λ t. HasGoneOn d old (record old { contexts = with_seat old.contexts c t; heap = heap }) c n in
        (h.0, subst P (seat-same now n same (counted ∙ ap (λ (k : ℕ). s.count + k) h.0)) (HasGoneOn-for n now.machine heap h.1))
    by (Ask f args) e h = let P : StepEnd → Type 0 = λ x. HasStopped d old new c n ran.instructions x in subst P e (stops h)
    by Halt e h = let P : StepEnd → Type 0 = λ x. HasStopped d old new c n ran.instructions x in subst P e (stops h)
    by (Fault kind) e h = let P : StepEnd → Type 0 = λ x. HasStopped d old new c n ran.instructions x in subst P e (stops h)

-- where it is known how the turn stopped
pub RunsTo-at : (d : Description) (old new : Parts) (c : ContextId) (n : ℕ) (ran : Ran) (how : StepEnd) → ran.how ≡ how → RunsFor d old new c n ran → RunsTo how d old new c n ran.instructions
RunsTo-at d old new c n ran how is run = let P : StepEnd → Type 0 = λ h. RunsTo h d old new c n ran.instructions in subst P is run

-- the same of what the call on contexts gives
pub RunsFor-from : (d : Description) (old : Parts) (contexts : Contexts) (heap : Store) (c : ContextId) (n : ℕ) (ran : Ran) → KeepsOrder d old → (at old.contexts c).ready ≡ true
    → HasTurn (held_at old.handlers.programs) old.contexts old.heap c n ran contexts heap → RunsFor d old (record old { contexts = contexts; heap = heap }) c n ran
RunsFor-from d old contexts heap c n ran order is_ready t =
    let P : Contexts → Type 0 = λ l. RunsFor d old (record old { contexts = l; heap = heap }) c n ran in
    subst P (sym t.sits) (RunsFor-turn d old c t.seat t.x order is_ready t.is t.is_held n ran t.now heap t.same t.counted t.run)
