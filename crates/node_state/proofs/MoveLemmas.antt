-- Posts, starts, instructions, calls, answers and ends: what each makes of the contexts agrees with what is heard of it.
use Rattle.std.proofs.lemmas.Bool.{cases_eq}
use Rattle.std.proofs.Common.{cond, ◌≡◌, ℕ, suc, ℤ, true, false, Option, Some, None, refl, sym, ◌∙◌, ap, subst, arith, inl, inr}
use Rattle.std.specs.Prelude.{unwrap_or, IsSome}
use Rattle.std.specs.Option.{option_map}
use Rattle.arrayvec.specs.ArrayVec.{ArrayVec}
use Rattle.mate_num.specs.declared.call.End.{End}
use Rattle.mate_num.specs.declared.id.ContextId.{ContextId}
use Rattle.mate_num.specs.declared.id.HandlerId.{HandlerId}
use Rattle.mate_num.specs.declared.id.FunId.{FunId}
use Rattle.mate_num.specs.declared.lock_set.LockSet.{LockSet}
use Rattle.split_phase.specs.Calls.{Asked}
use Rattle.code_verifier.specs.Verified.{IsAtVerified as FitsCode}
use Rattle.exec_unit.specs.Step.{Waits}
use Rattle.mate_journal.specs.Machine.{HeldProgram, Machine}
use Rattle.mate_journal.specs.WellFormed.{IsIdle, IsBusy}
use Rattle.mate_journal.specs.NodeScript.{IsReadyIn}
use Rattle.mate_journal.specs.Journal.{Posted, Started, Asked as AskedTold, Answered, Ended, Phase, Unposted, Queued, Ready, Waiting, Over, is_live, in_phase, cut_at_era, next_state, Invocation, NodeState, changed}
use Rattle.vm_shape.specs.declared.description.Description.{Description}
use Rattle.node_state.specs.declared.handlers.Held.{Held}
use Rattle.node_state.specs.declared.seat.Seat.{Seat}
use Rattle.node_state.specs.declared.contexts.Contexts.{Contexts}
use Rattle.node_state.specs.At.{At, idle, queued, ready, waiting, at, Becomes, AreIdle, StartsContext, IsPlaced}
use Rattle.node_state.specs.Programs.{Programs}
use Rattle.node_state.specs.Standing.{standing}
use Rattle.node_state.specs.Fits.{program_of, AreInstalled, FitsIn, IsRightContext, ContextsMatch}
use Rattle.node_state.proofs.FitLemmas.{changed-here, changed-other, HasSeat, by_seat, queued-by_waits, ready-by_ready, waiting-by_call, seat-by, seat-by_ready, IsNow, IsAlone, Fits-one}

-- the one that has the context has no other, and nobody else has it
pub alone-seat : (held : Programs) (r : NodeState) (old : Contexts) (c : ContextId) → ContextsMatch held r old → (h : HasSeat held r c (at old c)) → IsAlone old h.seat.inv c
alone-seat held r old c fits h =
    record {
      elsewhere = λ k s other e same.
          (let g = by_seat held r k (at old k) s e (fits.each k) in
          let C : ℕ → Type 0 = λ n. (r.invocations n).context ≡ k in
          let there : (r.invocations h.seat.inv).context ≡ k = subst C same g.context in
          other (ap (λ (j : ContextId). j.0) (sym there ∙ h.seated.context)));
      here = λ s e. (let g : Some s ≡ Some h.seat = sym e ∙ h.is in let f : s ≡ h.seat = cc in ap (λ (t : Seat). t.inv) f);
    }

-- the invocation of a context moves
pub Fits-moves : (held : Programs) (r : NodeState) (old new : Contexts) (c : ContextId) (i : Invocation) (a : At) → ContextsMatch held r old → (h : HasSeat held r c (at old c))
    → Becomes old new c a → i.context ≡ c → IsNow held r.posts h.seat.inv i c a → ContextsMatch held (record r { invocations = changed r.invocations h.seat.inv i }) new
Fits-moves held r old new c i a fits h becomes context now =
    Fits-one held r r.posts old new h.seat.inv i c a fits becomes (omega arith) context (alone-seat held r old c fits h) now

-- where nothing is heard
pub changed-same : {A : Type 0} (f : ℕ → A) (n : ℕ) → changed f n (f n) ≡ f
changed-same {A} f n = λ i k. same k i where
  same : (k : ℕ) → changed f n (f n) k ≡ f k
  same k = elim (cases_eq k n) [ inl e ↦ (changed-here f n (f n) k e ∙ ap f (sym e)) | inr other ↦ changed-other f n (f n) k other ]

pub some-map : (o : Option Held) (h : HandlerId) (x : Held) → o ≡ Some x → option_map (program_of h) o ≡ Some (program_of h x)
some-map o h x e = ap (λ (p : Option Held). option_map (program_of h) p) e

unwrap-some : (o : Option HeldProgram) (p d : HeldProgram) → o ≡ Some p → unwrap_or o d ≡ p
unwrap-some o p d e = ap (λ (q : Option HeldProgram). unwrap_or q d) e

-- ---- a post

module _ (m : Machine) (d : Description) (held : Programs) (r : NodeState) (old new : Contexts) (c : ContextId) (h : HandlerId) (x : Held) (s : Seat) (payload : ArrayVec ℤ) where
  pub Fits-posted : ContextsMatch held r old → AreInstalled d r.installed held → held h ≡ Some x → s.handler ≡ h → s.inv ≡ suc r.posts → FitsCode x.code s.machine
      → at old c ≡ idle → Becomes old new c (queued s x.locks) → ContextsMatch held (next_state m r (Posted (suc r.posts) h c payload)) new
  Fits-posted fits installed is_held own number fitting free becomes =
      let installed_is : r.installed h ≡ Some (program_of h x) = installed.same h ∙ some-map (held h) h x is_held in
      let P : HandlerId → Type 0 = λ k. held k ≡ Some x in
      let program : HeldProgram → Type 0 = λ p. p ≡ program_of s.handler x in
      Fits-one held r (suc r.posts) old new (suc r.posts) _ c (queued s x.locks) fits becomes (omega arith) refl
      (record {
        elsewhere = λ k t other e same. (let g = (by_seat held r k (at old k) t e (fits.each k)).number in absurd (omega arith));
        here = λ t e. absurd (let g : None ≡ Some t = ap (λ (a : At). a.seat) (sym free) ∙ e in cc);
      })
      (inr (
        s,
        refl,
        number,
        record {
          x = x;
          is_held = subst P (sym own) is_held;
          handler = sym own;
          program = unwrap-some (r.installed h) (program_of h x) _ installed_is ∙ ap (λ (k : HandlerId). program_of k x) (sym own);
          context = refl;
          number = omega arith;
          live = refl;
          stands = refl;
          fits = fitting;
        },
      ))

  pub idle-free : ContextsMatch held r old → at old c ≡ idle → IsIdle r c
  idle-free fits free n live context =
      let P : ContextId → Type 0 = λ k. IsPlaced (at old k) n in
      let p = subst P context (fits.placed n live) in
      absurd (let g : None ≡ Some p.seat = ap (λ (a : At). a.seat) (sym free) ∙ p.is in cc)

  pub busy-seat : ContextsMatch held r old → IsSome (at old c).seat → IsBusy r c
  busy-seat fits some = by (at old c).seat refl some where
    by : (o : Option Seat) → (at old c).seat ≡ o → IsSome o → IsBusy r c
    by None e h = cc
    by (Some t) e h = let g = by_seat held r c (at old c) t e (fits.each c) in record { invocation = t.inv; live = g.live; context = g.context }

-- ---- a start

module _ (m : Machine) (held : Programs) (r : NodeState) (old new : Contexts) (c : ContextId) (fits : ContextsMatch held r old) (starts : StartsContext old new c) where
  pub starting : HasSeat held r c (at old c)
  starting = seat-by (λ a. a.waits) starts.set held r c (at old c) refl starts.waited (fits.each c)

  was_queued : (r.invocations starting.seat.inv).phase ≡ Queued
  was_queued = queued-by_waits (r.invocations starting.seat.inv).phase starting.seat starting.seated.x.locks starts.set (ap (λ (a : At). a.waits) (sym starting.seated.stands) ∙ starts.waited)

  pub stood : at old c ≡ queued starting.seat starting.seated.x.locks
  stood = starting.seated.stands ∙ ap (λ (p : Phase). standing p starting.seat starting.seated.x.locks) was_queued

  started_as : record (at old c) { waits = None; holds = Some starts.set; ready = true } ≡ ready starting.seat starting.seated.x.locks
  started_as =
      let set : Some starting.seated.x.locks ≡ Some starts.set = ap (λ (a : At). a.waits) (sym stood) ∙ starts.waited in
      let now : At → Option LockSet → At = λ a o. record a { waits = None; holds = o; ready = true } in
      ap (λ (a : At). now a (Some starts.set)) stood ∙ ap (λ (o : Option LockSet). now (queued starting.seat starting.seated.x.locks) o) (sym set)

  pub start-seat : (s : Seat) → (at old c).seat ≡ Some s → starting.seat ≡ s
  start-seat s e = let g : Some starting.seat ≡ Some s = sym starting.is ∙ e in cc

  pub start-queued : (s : Seat) → (at old c).seat ≡ Some s → (r.invocations s.inv).phase ≡ Queued
  start-queued s e = let P : Seat → Type 0 = λ t. (r.invocations t.inv).phase ≡ Queued in subst P (start-seat s e) was_queued

  started-fits : ContextsMatch held (next_state m r (Started starting.seat.inv)) new
  started-fits =
      let i : Invocation = r.invocations starting.seat.inv in
      let g = starting.seated in
      let V : Phase → Type 0 = λ p. FitsIn g.x.code p starting.seat.machine in
      Fits-moves held r old new c (in_phase Ready i) (record (at old c) { waits = None; holds = Some starts.set; ready = true }) fits starting starts.becomes g.context
      (inr (
        starting.seat,
        ap (λ (a : At). a.seat) started_as,
        refl,
        record {
          x = g.x;
          is_held = g.is_held;
          handler = g.handler;
          program = g.program;
          context = g.context;
          number = g.number;
          live = refl;
          stands = started_as;
          fits = subst V was_queued g.fits;
        },
      ))

  pub Fits-started : (s : Seat) → (at old c).seat ≡ Some s → ContextsMatch held (next_state m r (Started s.inv)) new
  Fits-started s e = let P : Seat → Type 0 = λ t. ContextsMatch held (next_state m r (Started t.inv)) new in subst P (start-seat s e) started-fits

-- ---- a ready invocation

module _ (m : Machine) (held : Programs) (r : NodeState) (old : Contexts) (c : ContextId) (fits : ContextsMatch held r old) (is_ready : (at old c).ready ≡ true) where
  pub running : HasSeat held r c (at old c)
  running = seat-by_ready held r c (at old c) is_ready (fits.each c)

  pub was_ready : (r.invocations running.seat.inv).phase ≡ Ready
  was_ready = ready-by_ready (r.invocations running.seat.inv).phase running.seat running.seated.x.locks (ap (λ (a : At). a.ready) (sym running.seated.stands) ∙ is_ready)

  pub stood_ready : at old c ≡ ready running.seat running.seated.x.locks
  stood_ready = running.seated.stands ∙ ap (λ (p : Phase). standing p running.seat running.seated.x.locks) was_ready

  pub is_ready_in : IsReadyIn r c
  is_ready_in = record { invocation = running.seat.inv; ready = was_ready; context = running.seated.context }

  -- it has another machine, and is still ready
  pub Fits-executed : (new : Contexts) (t : Seat) → t.inv ≡ running.seat.inv → t.handler ≡ running.seat.handler → FitsCode running.seated.x.code t.machine
      → Becomes old new c (ready t running.seated.x.locks) → ContextsMatch held r new
  Fits-executed new t number handler fitting becomes =
      let g = running.seated in
      let i : Invocation = r.invocations running.seat.inv in
      let P : (ℕ → Invocation) → Type 0 = λ f. ContextsMatch held (record r { invocations = f }) new in
      let H : HandlerId → Type 0 = λ h. held h ≡ Some g.x in
      let V : Phase → Type 0 = λ p. FitsIn g.x.code p t.machine in
      subst P (changed-same r.invocations running.seat.inv)
      (Fits-moves held r old new c i (ready t g.x.locks) fits running becomes g.context
      (inr (
        t,
        refl,
        number,
        record {
          x = g.x;
          is_held = subst H (sym handler) g.is_held;
          handler = g.handler ∙ sym handler;
          program = g.program ∙ ap (λ (h : HandlerId). program_of h g.x) (sym handler);
          context = g.context;
          number = (let n = g.number in omega arith);
          live = g.live;
          stands = ap (λ (p : Phase). standing p t g.x.locks) (sym was_ready);
          fits = subst V (sym was_ready) fitting;
        },
      )))

  -- it waits for the answer to a call
  pub Fits-asked : (new : Contexts) (t : Seat) (f : FunId) (args : ArrayVec ℤ) → t.inv ≡ running.seat.inv → t.handler ≡ running.seat.handler → Waits running.seated.x.code t.machine
      → Becomes old new c (waiting t running.seated.x.locks (f, args)) → ContextsMatch held (next_state m r (AskedTold running.seat.inv f args)) new
  Fits-asked new t f args number handler waits becomes =
      let g = running.seated in
      let i : Invocation = r.invocations running.seat.inv in
      let H : HandlerId → Type 0 = λ h. held h ≡ Some g.x in
      Fits-moves held r old new c (in_phase (Waiting f args) i) (waiting t g.x.locks (f, args)) fits running becomes g.context
      (inr (
        t,
        refl,
        number,
        record {
          x = g.x;
          is_held = subst H (sym handler) g.is_held;
          handler = g.handler ∙ sym handler;
          program = g.program ∙ ap (λ (h : HandlerId). program_of h g.x) (sym handler);
          context = g.context;
          number = (let n = g.number in omega arith);
          live = refl;
          stands = refl;
          fits = waits;
        },
      ))

  -- it is over
  pub Fits-ended : (new : Contexts) (how : End) → Becomes old new c idle → ContextsMatch held (next_state m r (Ended running.seat.inv how)) new
  Fits-ended new how becomes =
      let i : Invocation = r.invocations running.seat.inv in
      let P : NodeState → Type 0 = λ q. ContextsMatch held q new in
      let f = Fits-moves held r old new c (in_phase Over i) idle fits running becomes running.seated.context (inl (refl, refl)) in
      record { each = f.each; placed = f.placed }

-- no ready invocation is in a context that isn't ready
pub none_ready : (held : Programs) (r : NodeState) (old : Contexts) (c : ContextId) → ContextsMatch held r old → (at old c).ready ≡ false → IsReadyIn r c → ⊥
none_ready held r old c fits not_ready is =
    let n = is.invocation in
    let live : is_live (r.invocations n).phase ≡ true = ap is_live is.ready in
    let P : ContextId → Type 0 = λ k. IsPlaced (at old k) n in
    let p = subst P is.context (fits.placed n live) in
    let g = by_seat held r c (at old c) p.seat p.is (fits.each c) in
    let Q : ℕ → Type 0 = λ k. (r.invocations k).phase ≡ Ready in
    let e : (standing (r.invocations p.seat.inv).phase p.seat g.x.locks).ready ≡ true = ap (λ (ph : Phase). (standing ph p.seat g.x.locks).ready) (subst Q (sym p.number) is.ready) in
    absurd (let z : false ≡ true = sym not_ready ∙ ap (λ (a : At). a.ready) g.stands ∙ e in cc)

-- ---- a waiting invocation

module _ (m : Machine) (held : Programs) (r : NodeState) (old : Contexts) (c : ContextId) (call : Asked) (fits : ContextsMatch held r old) (is_waiting : (at old c).call ≡ Some call) where
  pub answering : HasSeat held r c (at old c)
  answering = seat-by (λ a. a.call) call held r c (at old c) refl is_waiting (fits.each c)

  pub was_waiting : (r.invocations answering.seat.inv).phase ≡ Waiting call.0 call.1
  was_waiting = waiting-by_call (r.invocations answering.seat.inv).phase answering.seat answering.seated.x.locks call (ap (λ (a : At). a.call) (sym answering.seated.stands) ∙ is_waiting)

  pub stood_waiting : at old c ≡ waiting answering.seat answering.seated.x.locks (call.0, call.1)
  stood_waiting = answering.seated.stands ∙ ap (λ (p : Phase). standing p answering.seat answering.seated.x.locks) was_waiting

  pub waits-in : Waits answering.seated.x.code answering.seat.machine
  waits-in = let V : Phase → Type 0 = λ p. FitsIn answering.seated.x.code p answering.seat.machine in subst V was_waiting answering.seated.fits

  pub Fits-answered : (new : Contexts) (t : Seat) (value : ℤ) → t.inv ≡ answering.seat.inv → t.handler ≡ answering.seat.handler → FitsCode answering.seated.x.code t.machine
      → Becomes old new c (ready t answering.seated.x.locks) → ContextsMatch held (next_state m r (Answered answering.seat.inv value)) new
  Fits-answered new t value number handler fitting becomes =
      let g = answering.seated in
      let H : HandlerId → Type 0 = λ h. held h ≡ Some g.x in
      Fits-moves held r old new c _ (ready t g.x.locks) fits answering becomes g.context
      (inr (
        t,
        refl,
        number,
        record {
          x = g.x;
          is_held = subst H (sym handler) g.is_held;
          handler = g.handler ∙ sym handler;
          program = g.program ∙ ap (λ (h : HandlerId). program_of h g.x) (sym handler);
          context = g.context;
          number = (let n = g.number in omega arith);
          live = refl;
          stands = refl;
          fits = fitting;
        },
      ))

-- nobody waits in a context without a call
pub none_waits : (held : Programs) (r : NodeState) (old : Contexts) (c : ContextId) → ContextsMatch held r old → (at old c).call ≡ None
    → (n : ℕ) (f : FunId) (args : ArrayVec ℤ) → (r.invocations n).phase ≡ Waiting f args → (r.invocations n).context ≡ c → ⊥
none_waits held r old c fits no_call n f args waits context =
    let live : is_live (r.invocations n).phase ≡ true = ap is_live waits in
    let P : ContextId → Type 0 = λ k. IsPlaced (at old k) n in
    let p = subst P context (fits.placed n live) in
    let g = by_seat held r c (at old c) p.seat p.is (fits.each c) in
    let Q : ℕ → Type 0 = λ k. (r.invocations k).phase ≡ Waiting f args in
    let e : (standing (r.invocations p.seat.inv).phase p.seat g.x.locks).call ≡ Some (f, args) = ap (λ (ph : Phase). (standing ph p.seat g.x.locks).call) (subst Q (sym p.number) waits) in
    absurd (let z : None ≡ Some (f, args) = sym no_call ∙ ap (λ (a : At). a.call) g.stands ∙ e in cc)

-- ---- the beginning of an era

pub cut-dead : (i : Invocation) → is_live (cut_at_era i).phase ≡ false
cut-dead i = dead i.phase where
  dead : (p : Phase) → is_live (cond (is_live p) Over p) ≡ false
  dead Unposted = refl
  dead Queued = refl
  dead Ready = refl
  dead (Waiting f args) = refl
  dead Over = refl

pub Fits-idle : (held : Programs) (r : NodeState) (new : Contexts) → AreIdle new → ((n : ℕ) → is_live (r.invocations n).phase ≡ false) → ContextsMatch held r new
Fits-idle held r new idles dead =
    record {
      each = λ c. (let P : At → Type 0 = λ a. IsRightContext held r c a in subst P (sym (idles.each c)) refl);
      placed = λ n live. absurd (let e = dead n in cc);
    }
