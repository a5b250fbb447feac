-- What the calls on contexts leave there.
use Rattle.std.proofs.lemmas.Bool.{cases_eq, cases_lt, eqb-true}
use Rattle.std.specs.Prelude.{◌==◌, ◌⊎◌, IfSome, slice_get, slice_index_or, Result, Ok, Err, MatchResult, OnOk, OnErr}
use Rattle.std.proofs.Common.{◌≡◌, ◌≢◌, ℕ, zero, suc, ◌+◌, ◌<◌, ◌≤◌, ℤ, Bool, true, false, inl, inr, List, [], ◌∷◌, ◌++◌, length, length-set, get_or, set, Option, Some, None, refl, sym, ◌∙◌, ap, subst, arith, get_or-set_same, get_or-set_other}
use Rattle.std.proofs.lemmas.List.{set-get_or}
use Rattle.std.specs.List.{Contains}
use Rattle.std.specs.Option.{is_some}
use Rattle.std.proofs.lemmas.List.Elements.{Contains-append_right}
use Rattle.mate_num.specs.declared.id.ContextId.{ContextId}
use Rattle.mate_num.specs.declared.lock_set.LockSet.{LockSet}
use Rattle.mate_num.specs.declared.store.Store.{Store}
use Rattle.lock_manager.specs.declared.claim.Claim.{Claim}
use Rattle.lock_manager.specs.Claims.{Claims, set_of, no_claims, AreOnce, Grants}
use Rattle.lock_manager.proofs.ClaimLemmas.{times, times-append, set_of-none, AreOnce-fewer, same_context}
use Rattle.lock_manager.proofs.GrantLemmas.{set_of-Contains}
use Rattle.context_sched.specs.Ready.{holds, without, AreContexts, Changes}
use Rattle.mate_num.specs.declared.id.FunId.{FunId}
use Rattle.split_phase.specs.declared.pending.NotWaiting.{NotWaiting}
use Rattle.split_phase.specs.Calls as calls
use Rattle.split_phase.specs.Calls.{Asked, call_at, AreNone, IsOf}
use Rattle.mate_code.specs.Effect.{push}
use Rattle.node_state.specs.declared.handlers.Held.{Held}
use Rattle.exec_unit.specs.declared.running.Ran.{Ran}
use Rattle.node_state.specs.declared.seat.Seat.{Seat}
use Rattle.node_state.specs.declared.contexts.Contexts.{Contexts}
use Rattle.node_state.specs.At.{At, at, Becomes, AreIdle, StartsContext, GivesWay}
use Rattle.node_state.specs.Programs.{Programs}
use Rattle.exec_unit.specs.Running.{HasExecuted}
use Rattle.node_state.specs.Executing.{IsSameSeat, with_seat, HasTurn, IsAnswered}

-- ---- idle contexts

-- no seat is taken, no locks are claimed, none is ready, and none waits with a call
pub AreIdle-from : (s : Contexts) → ((k : ℕ) → get_or s.seats k None ≡ None) → s.locks ≡ no_claims → s.ring ≡ [] → AreNone s.pending → AreIdle s
AreIdle-from s none locks ring calls = record {
  each = λ c.
      ap (λ (o : Option Seat). record (at s c) { seat = o }) (none c.0)
      ∙ ap (λ (l : Claims). record (at s c) { seat = None; waits = set_of l.waiting c; holds = set_of l.started c }) locks
      ∙ ap (λ (r : List ContextId). record { seat = None; waits = None; holds = None; ready = holds r c; call = call_at s.pending c }) ring
      ∙ ap (λ (o : Option Asked). record { seat = None; waits = None; holds = None; ready = false; call = o }) (calls.each c);
  locks = locks;
  ring = ring;
}

-- ---- starts

-- whoever was granted its locks waited for them
pub waited-set : (old new : Claims) (ctx : ContextId) (g : Grants old new ctx) → AreOnce (old.started ++ old.waiting) → set_of old.waiting ctx ≡ Some g.claim.set
waited-set old new ctx g once =
    let waiting : AreOnce old.waiting = AreOnce-fewer (old.started ++ old.waiting) old.waiting (λ k. (let e = times-append k old.started old.waiting in omega arith)) once in
    let P : List Claim → Type 0 = λ l. Contains l g.claim in
    let among : Contains old.waiting g.claim = subst P (sym g.was) (Contains-append_right g.earlier (g.claim ∷ g.later) g.claim (0, omega arith, refl)) in
    let Q : ContextId → Type 0 = λ k. set_of old.waiting k ≡ Some g.claim.set in
    subst Q g.own (set_of-Contains old.waiting g.claim waiting among)

-- a context of the locks is small
pub claim-small : (claims : List Claim) (ctx : ContextId) (set : LockSet) → AreOnce claims → set_of claims ctx ≡ Some set → ctx.0 < 16
claim-small claims ctx set once is =
    elim (cases_eq (times ctx claims) 0) [
      | inl none ↦ absurd (let e : None ≡ Some set = sym (set_of-none claims ctx none) ∙ is in cc)
      | inr some ↦ once.within ctx (omega arith)
    ]

pub waited-small : (old new : Claims) (ctx : ContextId) (g : Grants old new ctx) → AreOnce (old.started ++ old.waiting) → ctx.0 < 16
waited-small old new ctx g once =
    let waiting : AreOnce old.waiting = AreOnce-fewer (old.started ++ old.waiting) old.waiting (λ k. (let e = times-append k old.started old.waiting in omega arith)) once in
    claim-small old.waiting ctx g.claim.set waiting (waited-set old new ctx g once)

-- one that was taken out of the ring and put back last
pub GivesWay-from : (old : Contexts) (mid ring : List ContextId) (ctx : ContextId) → mid ≡ without old.ring ctx → Changes old.ring mid ctx false → ring ≡ mid ++ ctx ∷ [] → Changes mid ring ctx true
    → (at old ctx).ready ≡ true → GivesWay old (record old { ring = ring }) ctx
GivesWay-from old mid ring ctx out first last then is =
    let P : List ContextId → Type 0 = λ l. ring ≡ l ++ ctx ∷ [] in
    record {
      each = λ k. ap (λ (b : Bool). record (at old k) { ready = b }) (elim (cases_eq k.0 ctx.0) [
        | inl e ↦ (let Q : ContextId → Type 0 = λ j. holds ring j ≡ holds old.ring j in subst Q (sym (same_context k ctx e)) (then.here ∙ sym is))
        | inr other ↦ (then.others k other ∙ first.others k other)
      ]);
      seats = refl;
      locks = refl;
      ring = subst P out last;
    }

-- of one ready context, the only one is the last
only-last : (ring : List ContextId) (ctx : ContextId) → length ring ≤ 1 → holds ring ctx ≡ true → ring ≡ without ring ctx ++ ctx ∷ []
only-last [] ctx few is = absurd (let f : false ≡ true = is in cc)
only-last (x ∷ y ∷ rest) ctx few is = absurd (omega (arith, few))
only-last (x ∷ []) ctx few is = by (ctx.0 == x.0) refl
  where
    by : (b : Bool) → (ctx.0 == x.0) ≡ b → x ∷ [] ≡ without (x ∷ []) ctx ++ ctx ∷ []
    by true e = let same : x ≡ ctx = same_context x ctx (sym (eqb-true ctx.0 x.0 e)) in rw e (ap (λ (c : ContextId). c ∷ []) same)
    by false e = absurd (let f : false ≡ true = rw e at is in cc)

pub GivesWay-only : (old : Contexts) (ctx : ContextId) → length old.ring ≤ 1 → (at old ctx).ready ≡ true → GivesWay old old ctx
GivesWay-only old ctx few is = record { each = λ k. refl; seats = refl; locks = refl; ring = only-last old.ring ctx few is }

-- the same seat and call, with other locks
pub same_at : (a : At) (w h : Option LockSet) (b : Bool) (w' h' : Option LockSet) (b' : Bool) → w ≡ w' → h ≡ h' → b ≡ b'
    → ◌≡◌ {A = At} (record a { waits = w; holds = h; ready = b }) (record a { waits = w'; holds = h'; ready = b' })
same_at a w h b w' h' b' e f g =
    ap (λ (x : Option LockSet). record a { waits = x; holds = h; ready = b }) e
    ∙ ap (λ (x : Option LockSet). record a { waits = w'; holds = x; ready = b }) f
    ∙ ap (λ (x : Bool). record a { waits = w'; holds = h'; ready = x }) g

pub Starts-from : (old : Contexts) (locks : Claims) (ring : List ContextId) (ctx : ContextId) (g : Grants old.locks locks ctx) → AreOnce (old.locks.started ++ old.locks.waiting)
    → ring ≡ old.ring ++ ctx ∷ [] → Changes old.ring ring ctx true → StartsContext old (record old { locks = locks; ring = ring }) ctx
Starts-from old locks ring ctx g once last changes =
    record {
      set = g.claim.set;
      waited = waited-set old.locks locks ctx g once;
      becomes = record {
        here = same_at (at old ctx) (set_of locks.waiting ctx) (set_of locks.started ctx) (holds ring ctx) None (Some g.claim.set) true g.moves.waits g.moves.holds changes.here;
        others = λ k other. same_at (at old k) (set_of locks.waiting k) (set_of locks.started k) (holds ring k) (set_of old.locks.waiting k) (set_of old.locks.started k) (holds old.ring k)
            (g.moves.others_wait k other) (g.moves.others_hold k other) (changes.others k other);
        seats = refl;
      };
      grants = g;
      ring = last;
    }

-- ---- another seat of the same invocation

set-twice : {A : Type 0} (xs : List A) (k : ℕ) (a b : A) → set (set xs k a) k b ≡ set xs k b
set-twice [] k a b = refl
set-twice (x ∷ xs) zero a b = refl
set-twice (x ∷ xs) (suc k) a b = ap (λ l. x ∷ l) (set-twice xs k a b)

-- whoever has a place in the list stands within it
pub some-within : {A : Type 0} (xs : List (Option A)) (k : ℕ) (x : A) → slice_index_or xs k None ≡ Some x → k < length xs
some-within [] k x is = absurd (let f : None ≡ Some x = is in cc)
some-within (y ∷ xs) zero x is = omega arith
some-within (y ∷ xs) (suc k) x is = let h = some-within xs k x is in omega arith

-- another seat changes nothing else
pub with_seat-becomes : (old : Contexts) (c : ContextId) (s now : Seat) → (at old c).seat ≡ Some s → Becomes old (with_seat old c now) c (record (at old c) { seat = Some now })
with_seat-becomes old c s now is =
    let below = some-within old.seats c.0 s is in
    record {
      here = ap (λ (o : Option Seat). record (at old c) { seat = o }) (get_or-set_same old.seats c.0 (Some now) None below);
      others = λ k other. ap (λ (o : Option Seat). record (at old k) { seat = o }) (get_or-set_other old.seats c.0 k.0 (Some now) None other);
      seats = length-set old.seats c.0 (Some now);
    }

-- the seat that is there is no other
pub with_seat-same : (old : Contexts) (c : ContextId) (s : Seat) → (at old c).seat ≡ Some s → with_seat old c s ≡ old
with_seat-same old c s is =
    ap (λ (l : List (Option Seat)). record old { seats = l }) (ap (λ (o : Option Seat). set old.seats c.0 o) (sym is) ∙ set-get_or old.seats c.0 None)

-- the last one stays
pub with_seat-twice : (old : Contexts) (c : ContextId) (s now : Seat) → with_seat (with_seat old c s) c now ≡ with_seat old c now
with_seat-twice old c s now = ap (λ (l : List (Option Seat)). record old { seats = l }) (set-twice old.seats c.0 (Some s) (Some now))

pub HasTurn-from : (held : Programs) (old : Contexts) (before after : Store) (c : ContextId) (n : ℕ) (ran : Ran) (s now : Seat) (x : Held) (place : ℕ)
    → place ≡ c.0 → (at old c).seat ≡ Some s → held s.handler ≡ Some x → IsSameSeat s now → now.count ≡ s.count + ran.instructions → HasExecuted x.code s.machine before n ran now.machine after
    → HasTurn held old before c n ran (record old { seats = set old.seats place (Some now) }) after
HasTurn-from held old before after c n ran s now x place same_place is is_held same counted run =
    record {
      seat = s;
      is = is;
      x = x;
      is_held = is_held;
      now = now;
      same = same;
      counted = counted;
      run = run;
      sits = ap (λ (k : ℕ). record old { seats = set old.seats k (Some now) }) same_place;
    }

-- after the answer no call is left in the context, and the others are as they were
pub taken-call : (old new : List (Option Asked)) (c : ContextId) (r : Result FunId NotWaiting) → MatchResult r (λ fun. IsOf (call_at old c) fun) (λ _. call_at old c ≡ None)
    → OnOk r (calls.CallBecomes old new c None) → OnErr r (new ≡ old) → (call_at new c ≡ None) × ((k : ContextId) → k.0 ≢ c.0 → call_at new k ≡ call_at old k)
taken-call old new c (Ok fun) was ok err = (ok.here, ok.others)
taken-call old new c (Err e) was ok err = (ap (λ (l : List (Option Asked)). call_at l c) err ∙ was, λ k other. ap (λ (l : List (Option Asked)). call_at l k) err)

-- the call is taken out, the value is pushed, and the context goes last into the ring
pub IsAnswered-from : (old : Contexts) (pending : List (Option Asked)) (ring : List ContextId) (c : ContextId) (value : ℤ) (s now : Seat) (place : ℕ)
    → place ≡ c.0 → (at old c).seat ≡ Some s → IsSameSeat s now → now.count ≡ s.count → now.machine ≡ push value s.machine
    → call_at pending c ≡ None → ((k : ContextId) → k.0 ≢ c.0 → call_at pending k ≡ call_at old.pending k) → ring ≡ old.ring ++ c ∷ [] → Changes old.ring ring c true
    → IsAnswered old (record old { seats = set old.seats place (Some now); pending = pending; ring = ring }) c value
IsAnswered-from old pending ring c value s now place same_place is same counted pushed none others last changes =
    let b = with_seat-becomes old c s now is in
    let P : ℕ → Type 0 = λ k. IsAnswered old (record old { seats = set old.seats k (Some now); pending = pending; ring = ring }) c value in
    subst P (sym same_place) record {
      seat = s;
      is = is;
      now = now;
      same = same;
      counted = counted;
      pushed = pushed;
      becomes = record {
        here =
            ap (λ (a : At). record a { ready = holds ring c; call = call_at pending c }) b.here
            ∙ ap (λ (r : Bool). record (at old c) { seat = Some now; ready = r; call = call_at pending c }) changes.here
            ∙ ap (λ (o : Option Asked). record (at old c) { seat = Some now; ready = true; call = o }) none;
        others = λ k other.
            ap (λ (a : At). record a { ready = holds ring k; call = call_at pending k }) (b.others k other)
            ∙ ap (λ (r : Bool). record (at old k) { ready = r; call = call_at pending k }) (changes.others k other)
            ∙ ap (λ (o : Option Asked). record (at old k) { call = o }) (others k other);
        seats = b.seats;
      };
      locks = refl;
      ring = last;
    }

-- no context up to a place waits with a call, and none at that place does
pub none-more : (calls : List (Option Asked)) (place : ℕ) (r : Option Asked) → ((k : ContextId) → k.0 < place → call_at calls k ≡ None) → r ≡ call_at calls (record { 0 = place }) → false ≡ is_some r
    → (k : ContextId) → k.0 < place + 1 → call_at calls k ≡ None
none-more calls place r none is unasked k below = by (cases_lt k.0 place) where
  nothing : (o : Option Asked) → false ≡ is_some o → o ≡ None
  nothing None e = refl
  nothing (Some call) e = absurd cc

  by : (k.0 < place) ⊎ (place ≤ k.0) → call_at calls k ≡ None
  by (inl before) = none k before
  by (inr here) = let same : k.0 ≡ place = omega arith in ap (λ (n : ℕ). get_or calls n None) same ∙ sym is ∙ nothing r unasked

-- the first of the ring is a context of the node
pub first-small : (ring : List ContextId) (first : Option ContextId) → AreContexts ring → first ≡ slice_get ring 0 → IfSome first (λ ctx. ctx.0 < 16)
first-small [] first all is = let P : Option ContextId → Type 0 = λ o. IfSome o (λ ctx. ctx.0 < 16) in subst P (sym is) tt
first-small (c ∷ ring) first all is = let P : Option ContextId → Type 0 = λ o. IfSome o (λ ctx. ctx.0 < 16) in subst P (sym is) all.0
