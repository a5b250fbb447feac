-- Where the heap agrees with the runs of the started invocations, the journal is serial and shows stores as they are.
use Rattle.std.proofs.Common.{◌≡◌, ℕ, zero, suc, ◌+◌, ◌-◌, ◌*◌, ◌<◌, ◌≤◌, ℤ, pos, true, false, List, [], ◌∷◌, Option, Some, None, refl, sym, ◌∙◌, ap, subst, arith, inl, inr, length, get_or, take, drop, drop-cons}
use Rattle.std.proofs.lemmas.Bool.{cases_lt, cases_Bool}
use Rattle.std.proofs.Math.ListN.{length-replicate}
use Rattle.std.proofs.lemmas.List.{drop_all}
use Rattle.mate_num.specs.Store.{value_at}
use Rattle.mate_num.specs.declared.call.End.{End}
use Rattle.mate_num.specs.declared.call.End.TheVariants as end
use Rattle.mate_num.specs.declared.id.ContextId.{ContextId}
use Rattle.mate_num.specs.declared.resource.Resource.{Resource}
use Rattle.mate_num.specs.declared.resource.Resource.TheVariants.{Shared, Buffer, Device}
use Rattle.mate_num.specs.declared.shape.Shape.{Shape}
use Rattle.mate_num.specs.declared.store.Store.{Store}
use Rattle.mate_code.specs.Cells.{read, AreAsLong}
use Rattle.mate_code.specs.Effect.{Effect, Goes, Writes as WritesCell, Asks, Halts, Faults, Sticks}
use Rattle.mate_code.specs.Run.{Code, Status, Going, Over, Stuck, Own, Run, asked, own_after_effect, effect_in, executed_at, step_at, step, after, bound, fetch, size_of_code, end_of}
use Rattle.mate_code.specs.declared.instr.Instr.{Instr}
use Rattle.mate_code.specs.Laws.{EndsInTime}
use Rattle.mate_code.proofs.BoundLemmas.{verified-EndsInTime}
use Rattle.mate_code.proofs.RunLemmas.{after-add, after-over}
use Rattle.code_verifier.specs.Verified.{VerifiedCode, IsVerifiedCode, marks_of}
use Rattle.exec_unit.specs.Step.{HasLengths}
use Rattle.vm_shape.specs.declared.description.Description.{Description}
use Rattle.vm_shape.specs.Shapes.{shape_of}
use Rattle.mate_journal.specs.Journal.{Phase, Unposted, Queued, Ready, Waiting, Over as Gone, is_started, is_live, Invocation, NodeState}
use Rattle.mate_journal.specs.Serial.{RunsSoFar}
use Rattle.mate_journal.specs.Stores.{values_at, WritesResource, IsShown}
use Rattle.node_state.specs.declared.handlers.Held.{Held}
use Rattle.node_state.specs.declared.seat.Seat.{Seat}
use Rattle.node_state.specs.declared.contexts.Contexts.{Contexts}
use Rattle.node_state.specs.At.{At, at}
use Rattle.node_state.specs.Meaning.{machine_in, image_code}
use Rattle.node_state.specs.Programs.{Programs}
use Rattle.node_state.specs.Fits.{IsHeld, IsSeated, ContextsMatch}
use Rattle.mate_journal.specs.Journal.{answers_of}
use Rattle.node_state.specs.Agrees.{code_for, uses_for, own_run, own_in, IsOwnRun, RunsOwn, Agrees}
use Rattle.node_state.proofs.FitLemmas.{by_seat}
use Rattle.node_state.proofs.AgreeLemmas.{or-right}

-- ---- a run that has no answer left

-- it answers no further call
record IsSpent (before now : Own) : Type 0 where
  left : now.left ≡ []
  calls : now.calls ≡ before.calls

own_after-spent : (e : Effect) (o : Own) → o.left ≡ [] → IsSpent o (own_after_effect e o)
own_after-spent (Asks p f args) o none =
    let P : List ℤ → Type 0 = λ xs. IsSpent o (asked p f args xs o) in subst P (sym none) record { left = none; calls = refl }
own_after-spent _ o none = record { left = none; calls = refl }

step-spent : (shape : Shape) (code : Code) (r : Run) → r.own.left ≡ [] → IsSpent r.own (step shape code r).own
step-spent shape code r none = by r.own.status where
  found : (o : Option Instr) → IsSpent r.own (executed_at shape o r).own
  found None = record { left = none; calls = refl }
  found (Some i) = own_after-spent (effect_in shape i r.own.own r.store) r.own none

  by : (status : Status) → IsSpent r.own (step_at shape code status r).own
  by Going = found (fetch code r.own.own.pc)
  by (Over e) = record { left = none; calls = refl }
  by Stuck = record { left = none; calls = refl }

after-spent : (n : ℕ) (shape : Shape) (code : Code) (r : Run) → r.own.left ≡ [] → IsSpent r.own (after n shape code r).own
unfolding after
after-spent zero shape code r none = record { left = none; calls = refl }
after-spent (suc n) shape code r none =
    let before = after-spent n shape code r none in
    let last = step-spent shape code (after n shape code r) before.left in
    record { left = last.left; calls = last.calls ∙ before.calls }

-- ---- the whole run, from a place on the way

-- the code is verified
pub record HasVerified (d : Description) (i : Invocation) : Type 0 where
  pub code : VerifiedCode
  pub shape_is : code.shape ≡ shape_of d
  pub code_is : code.code ≡ code_for d i
  pub verified : IsVerifiedCode code

pub ends-in-time : (d : Description) (i : Invocation) (store : Store) → HasVerified d i → EndsInTime (shape_of d) (code_for d i) store i.payload (answers_of i) d.turns
ends-in-time d i store v =
    let P : Shape → Code → Type 0 = λ shape code. EndsInTime shape code store i.payload (answers_of i) d.turns in
    let Q : Shape → Type 0 = λ shape. P shape v.code.code in
    subst (P (shape_of d)) v.code_is (subst Q v.shape_is
    (verified-EndsInTime v.code.shape v.code.code (marks_of v.code) store i.payload (answers_of i) d.turns v.verified.are_verified.is_verified))

abbrev pub whole : Description → Invocation → Store → Run
whole d i store = own_run d i (bound (code_for d i) d.turns) store

-- the whole run goes on from this place
whole-from : (d : Description) (i : Invocation) (store : Store) (n : ℕ) → HasVerified d i → (own_run d i n store).own.count ≡ n
    → whole d i store ≡ after (bound (code_for d i) d.turns - n) (shape_of d) (code_for d i) (own_run d i n store)
whole-from d i store n v counted =
    let few = (ends-in-time d i store v).in_time n in
    let b : ℕ = bound (code_for d i) d.turns in
    let e : b ≡ n + (b - n) = omega arith in
    ap (λ (k : ℕ). own_run d i k store) e ∙ after-add (b - n) n (shape_of d) (code_for d i) _

-- it is this one where this one is over
pub whole-over : (d : Description) (i : Invocation) (store : Store) (n : ℕ) (e : End) → HasVerified d i → (own_run d i n store).own.count ≡ n → (own_run d i n store).own.status ≡ Over e
    → whole d i store ≡ own_run d i n store
whole-over d i store n e v counted over =
    whole-from d i store n v counted
    ∙ after-over (bound (code_for d i) d.turns - n) (shape_of d) (code_for d i) (own_run d i n store) (λ goes. let f : Over e ≡ Going = sym over ∙ goes in cc)

-- it answers the same calls where this one has no answer left
whole-calls : (d : Description) (i : Invocation) (store : Store) (n : ℕ) → HasVerified d i → (own_run d i n store).own.count ≡ n → (own_run d i n store).own.left ≡ []
    → (whole d i store).own.calls ≡ (own_run d i n store).own.calls
whole-calls d i store n v counted none =
    ap (λ (x : Run). x.own.calls) (whole-from d i store n v counted)
    ∙ (after-spent (bound (code_for d i) d.turns - n) (shape_of d) (code_for d i) (own_run d i n store) none).calls

-- ---- each started invocation

module _ (d : Description) (i : Invocation) (s : Seat) (serial heap : Store) (v : HasVerified d i) (is : IsOwnRun d i s serial heap) where
  counted : (own_run d i s.count serial).own.count ≡ s.count
  counted = ap (λ (o : Own). o.count) is.own

  pub own-calls : (whole d i serial).own.calls ≡ i.calls
  own-calls = whole-calls d i serial s.count v counted (ap (λ (o : Own). o.left) is.own) ∙ ap (λ (o : Own). o.calls) is.own

  pub own-over : (e : End) → (own_in i s).status ≡ Over e → whole d i serial ≡ own_run d i s.count serial
  own-over e over = whole-over d i serial s.count e v counted (ap (λ (o : Own). o.status) is.own ∙ over)

  pub own-few : s.count ≤ (d.turns + 1) * size_of_code (code_for d i)
  own-few = let few = (ends-in-time d i serial v).in_time s.count in let n = counted in omega arith

-- a started invocation, with its seat
pub record IsRunning (d : Description) (r : NodeState) (contexts : Contexts) (heap : Store) (n : ℕ) : Type 0 where
  pub seat : Seat
  pub number : seat.inv ≡ n
  pub verified : HasVerified d (r.invocations n)
  pub own : IsOwnRun d (r.invocations n) seat r.serial heap

started-own : (p : Phase) (d : Description) (i : Invocation) (s : Seat) (serial heap : Store) → is_started p ≡ true → RunsOwn d p i s serial heap → IsOwnRun d i s serial heap
started-own Ready d i s serial heap is own = own
started-own (Waiting f args) d i s serial heap is own = own
started-own _ d i s serial heap is own = cc

pub started-live : (p : Phase) → is_started p ≡ true → is_live p ≡ true
started-live Ready is = refl
started-live (Waiting f args) is = refl
started-live _ is = cc

module _ (d : Description) (r : NodeState) (contexts : Contexts) (held : Programs) (heap : Store) (fits : ContextsMatch held r contexts) (programs : (h : _) (x : Held) → held h ≡ Some x → IsHeld d x) (agrees : Agrees d r contexts heap) where
  pub verified-seat : (c : ContextId) (i : Invocation) (s : Seat) (a : At) (posts : ℕ) → IsSeated held posts i c s a → HasVerified d i
  verified-seat c i s a posts g =
      let x = programs s.handler g.x g.is_held in
      record {
        code = g.x.code;
        shape_is = x.shape;
        code_is = x.code ∙ ap (λ (p : _). image_code (shape_of d) p.image) (sym g.program);
        verified = x.verified;
      }

  pub running-seat : (n : ℕ) → is_started (r.invocations n).phase ≡ true → IsRunning d r contexts heap n
  running-seat n is =
      let i : Invocation = r.invocations n in
      let p = fits.placed n (started-live i.phase is) in
      let g = by_seat held r i.context (at contexts i.context) p.seat p.is (fits.each i.context) in
      let V : ℕ → Type 0 = λ k. HasVerified d (r.invocations k) in
      let O : ℕ → Type 0 = λ k. RunsOwn d (r.invocations k).phase (r.invocations k) p.seat r.serial heap in
      record {
        seat = p.seat;
        number = p.number;
        verified = subst V p.number (verified-seat i.context (r.invocations p.seat.inv) p.seat (at contexts i.context) r.posts g);
        own = started-own i.phase d i p.seat r.serial heap is (subst O p.number (agrees.each i.context p.seat p.is));
      }

  -- what is recorded of each is what its whole run on the serial store gives
  pub stands : RunsSoFar (machine_in d) r
  stands =
      record {
        calls = λ n is. (let g = running-seat n is in own-calls d (r.invocations n) g.seat r.serial heap g.verified g.own);
        wants = λ n f args waits.
            (let g = running-seat n (ap is_started waits) in
            let e : (own_in (r.invocations n) g.seat).status ≡ Over (end.Wants f args) = ap (λ (p : Phase). (own_in (record (r.invocations n) { phase = p }) g.seat).status) waits in
            ap (λ (x : Run). end_of x.own.status) (own-over d (r.invocations n) g.seat r.serial heap g.verified g.own (end.Wants f args) e)
            ∙ ap (λ (o : Own). end_of o.status) g.own.own ∙ ap end_of e);
      }

-- ---- stores that are shown

one_value : (xs ys : List ℤ) (v : ℕ) → length xs ≡ length ys → get_or xs v (pos 0) ≡ get_or ys v (pos 0) → take 1 (drop v xs) ≡ take 1 (drop v ys)
one_value xs ys v as_long same =
    elim (cases_lt v (length xs)) [
      | inl below ↦ (let there : v < length ys = omega arith in
          ap (take 1) (drop-cons xs v (pos 0) below) ∙ ap (λ (x : ℤ). x ∷ []) same ∙ sym (ap (take 1) (drop-cons ys v (pos 0) there)))
      | inr beyond ↦ ap (take 1) (drop_all v xs (omega arith) ∙ sym (drop_all v ys (omega arith)))
    ]

pub values-read : (s t : Store) (q : Resource) → AreAsLong s t → read s q ≡ read t q → values_at s q ≡ values_at t q
values-read s t (Shared v) as_long same = one_value s.shared.items t.shared.items v.0 as_long.shared (let e : value_at s v.0 ∷ [] ≡ value_at t v.0 ∷ [] = same in cc)
values-read s t (Buffer b) as_long same = same
values-read s t (Device d) as_long same = refl

module _ (d : Description) (r : NodeState) (contexts : Contexts) (held : Programs) (heap : Store) (fits : ContextsMatch held r contexts) (programs : (h : _) (x : Held) → held h ≡ Some x → IsHeld d x) (agrees : Agrees d r contexts heap)
    (lengths : HasLengths (shape_of d) heap) where
  not_written : (q : Resource) → ((n : ℕ) → WritesResource (machine_in d) r n q → ⊥) → (n : ℕ) → is_started (r.invocations n).phase ≡ true → (uses_for d (r.invocations n)).writes q ≡ false
  not_written q nobody n is =
      elim (cases_Bool ((uses_for d (r.invocations n)).writes q)) [
        | inl writes ↦ absurd (nobody n record { started = is; writes = writes })
        | inr not ↦ not
      ]

  pub shown : IsShown (machine_in d) r heap
  shown =
      record {
        variables = lengths.shared ∙ sym (length-replicate (length d.shared.items) (pos 0));
        buffers = lengths.buffers ∙ sym (length-replicate (length d.buffers.items) _);
        unwritten = λ q nobody. values-read heap r.serial q agrees.as_long (agrees.elsewhere q (not_written q nobody));
        waiting = λ q n writes waits.
            (let g = running-seat d r contexts held heap fits programs agrees n writes.started in
            let i : Invocation = r.invocations n in
            let e : (own_in i g.seat).status ≡ Over (end.Wants waits.fun waits.args) = ap (λ (p : Phase). (own_in (record i { phase = p }) g.seat).status) waits.waits in
            let same = own-over d i g.seat r.serial heap g.verified g.own (end.Wants waits.fun waits.args) e in
            let f = g.own.stores.same q (or-right ((uses_for d i).reads q) ((uses_for d i).writes q) writes.writes) in
            let stores : AreAsLong heap (own_run d i g.seat.count r.serial).store = record { shared = sym g.own.stores.as_long.shared; buffers = sym g.own.stores.as_long.buffers } in
            values-read heap (own_run d i g.seat.count r.serial).store q stores (sym f) ∙ ap (λ (x : Run). values_at x.store q) (sym same));
      }
