-- Who is ready, who waits, and what is installed, as it was heard.
use Rattle.std.proofs.Common.{◌≡◌, Bool, true, false, List, [], Option, Some, None, refl, sym, ◌∙◌, ap, subst, inl, inr}
use Rattle.std.specs.Prelude.{IsSome, MatchBool, is_some, map, slice_get}
use Rattle.std.specs.Option.{option_map}
use Rattle.mate_num.specs.declared.id.ContextId.{ContextId}
use Rattle.mate_num.specs.declared.id.HandlerId.{HandlerId}
use Rattle.split_phase.specs.Calls as calls
use Rattle.context_sched.specs.Ready.{holds}
use Rattle.vm_shape.specs.declared.description.Description.{Description}
use Rattle.mate_journal.specs.Journal.{NodeState, held, is_live}
use Rattle.mate_journal.specs.NodeScript.{IsReadyIn}
use Rattle.journal_laws.specs.Progress.{IsNoneLive, IsSomeReady, GoesForward}
use Rattle.node_state.specs.declared.handlers.Held.{Held}
use Rattle.node_state.specs.declared.seat.Seat.{Seat}
use Rattle.node_state.specs.At.{at, IsAsking, IsNoneAsking}
use Rattle.node_state.specs.Programs.{Programs, held_at, held_version_in}
use Rattle.node_state.specs.declared.parts.Parts.{Parts}
use Rattle.node_state.specs.Meaning.{machine_in}
use Rattle.node_state.specs.Fits.{program_of}
use Rattle.node_state.specs.Keeps.{reading, Keeps}
use Rattle.node_state.proofs.MoveLemmas.{none_ready, none_waits, answering, was_waiting}
use Rattle.node_state.specs.Starting.{Rests}
use Rattle.node_calls.proofs.RunningLemmas.{one, one-ready}
use Rattle.node_calls.proofs.SettleLemmas.{first-ready, none-first}
use Rattle.node_state.specs.Queue.{invocation_in}
use Rattle.node_calls.specs.Calls.{NobodyWaits}
use Rattle.node_open.specs.Calls.{IsNoneReady, IsWaitingIn, IsAsked, IsImageOf}
use Rattle.node_open.proofs.JournalLemmas.{Forward}

-- ---- who is ready

pub ready-in : (d : Description) (s : Parts) (c : ContextId) → Keeps d s → (at s.contexts c).ready ≡ true → IsReadyIn (reading d s.log.all) c
ready-in d s c keeps is_ready = record { invocation = (one d s c keeps is_ready).seat.inv; ready = one-ready d s c keeps is_ready; context = (one d s c keeps is_ready).seated.context }

pub nobody-ready : (d : Description) (s : Parts) → Keeps d s → s.contexts.ring ≡ [] → IsNoneReady (reading d s.log.all)
nobody-ready d s keeps empty n is =
    let c = ((reading d s.log.all).invocations n).context in
    none_ready (held_at s.handlers.programs) (reading d s.log.all) s.contexts c keeps.fits (ap (λ (l : List ContextId). holds l c) empty) record { invocation = n; ready = is; context = refl }

-- whether one is
pub ready-or-not : (d : Description) (s : Parts) → Keeps d s → (o : Option ContextId) → o ≡ slice_get s.contexts.ring 0 → (b : Bool) → b ≡ is_some o
    → MatchBool b (IsSomeReady (reading d s.log.all)) (IsNoneReady (reading d s.log.all) × (map (invocation_in s.contexts) s.contexts.ring ≡ []))
ready-or-not d s keeps (Some c) first b is =
    let ready = ready-in d s c keeps (first-ready s.contexts c first) in
    subst (λ (b : Bool). MatchBool b (IsSomeReady (reading d s.log.all)) (IsNoneReady (reading d s.log.all) × (map (invocation_in s.contexts) s.contexts.ring ≡ []))) (sym is)
    (record { invocation = ready.invocation; ready = ready.ready })
ready-or-not d s keeps None first b is =
    let empty = none-first s.contexts.ring first in
    subst (λ (b : Bool). MatchBool b (IsSomeReady (reading d s.log.all)) (IsNoneReady (reading d s.log.all) × (map (invocation_in s.contexts) s.contexts.ring ≡ []))) (sym is)
    (nobody-ready d s keeps empty, ap (map (invocation_in s.contexts)) empty)

-- ---- who waits

module _ (d : Description) (s : Parts) (keeps : Keeps d s) where
  abbrev r : NodeState
  r = reading d s.log.all

  abbrev h : Programs
  h = held_at s.handlers.programs

  pub asked-in : (c : ContextId) (call : calls.Asked) → (at s.contexts c).call ≡ Some call → IsWaitingIn r c
  asked-in c call is = record {
    invocation = (answering (machine_in d) h r s.contexts c call keeps.fits is).seat.inv;
    waits = record { fun = call.0; args = call.1; waits = was_waiting (machine_in d) h r s.contexts c call keeps.fits is };
    context = (answering (machine_in d) h r s.contexts c call keeps.fits is).seated.context;
  }

  pub waiting-in : (c : ContextId) → IsAsking s.contexts c → IsWaitingIn r c
  waiting-in c asking = by (at s.contexts c).call refl asking.asks where
    by : (o : Option calls.Asked) → (at s.contexts c).call ≡ o → IsSome o → IsWaitingIn r c
    by None e some = absurd (let f : false ≡ true = some in cc)
    by (Some call) e some = asked-in c call e

  pub nobody-waits : (c : ContextId) → (at s.contexts c).call ≡ None → NobodyWaits r c
  nobody-waits c none n w context = none_waits h r s.contexts c keeps.fits none n w.fun w.args w.waits context

  -- whoever is asked for in a context has its seat
  pub seat-asked : (c : ContextId) (call : calls.Asked) → (at s.contexts c).call ≡ Some call → (at s.contexts c).seat ≡ None → ⊥
  seat-asked c call is none = let e : None ≡ Some (answering (machine_in d) h r s.contexts c call keeps.fits is).seat = sym none ∙ (answering (machine_in d) h r s.contexts c call keeps.fits is).is in cc

  pub asked-seat : (c : ContextId) (call : calls.Asked) → (at s.contexts c).call ≡ Some call → (t : Seat) → (at s.contexts c).seat ≡ Some t → IsAsked r c (record { inv = t.inv; fun = call.0; args = call.1 })
  asked-seat c call is t there =
      let q = answering (machine_in d) h r s.contexts c call keeps.fits is in
      let e : Some q.seat ≡ Some t = sym q.is ∙ there in
      let same : q.seat ≡ t = cc in
      let P : Seat → Type 0 = λ u. IsAsked r c (record { inv = u.inv; fun = call.0; args = call.1 }) in
      subst P same (record { waits = was_waiting (machine_in d) h r s.contexts c call keeps.fits is; context = q.seated.context })

  pub none-live : Rests d s → s.contexts.ring ≡ [] → IsNoneAsking s.contexts → IsNoneLive r
  none-live rests empty none = by (Forward d s rests) where
    by : GoesForward (reading d s.log.all) → IsNoneLive (reading d s.log.all)
    by (inl x) = absurd (nobody-ready d s keeps empty x.invocation x.ready)
    by (inr (inl x)) = absurd (
        let w = x.waits in
        let c = ((reading d s.log.all).invocations x.invocation).context in
        let p = keeps.fits.placed x.invocation (ap is_live w.waits) in
        none_waits (held_at s.handlers.programs) (reading d s.log.all) s.contexts c keeps.fits (none.none c p.seat p.is) x.invocation w.fun w.args w.waits refl)
    by (inr (inr x)) = x

-- ---- what is installed

module _ (d : Description) (s : Parts) (keeps : Keeps d s) (handler : HandlerId) where
  abbrev q : NodeState
  q = reading d s.log.all

  pub held-is : held q handler ≡ held_version_in (held_at s.handlers.programs handler)
  held-is = by (held_at s.handlers.programs handler) (keeps.installed.same handler) where
    by : (o : Option Held) → q.installed handler ≡ option_map (program_of handler) o → held q handler ≡ held_version_in o
    by None e = rw e refl
    by (Some x) e = rw e refl

  pub nothing-held : held_at s.handlers.programs handler ≡ None → held q handler ≡ 0
  nothing-held none = held-is ∙ ap held_version_in none

  pub image-is : (x : Held) → held_at s.handlers.programs handler ≡ Some x → IsImageOf q handler x.image
  image-is x is = record {
    program = program_of handler x;
    installed = keeps.installed.same handler ∙ ap (λ (o : Option Held). option_map (program_of handler) o) is;
    is = refl;
    version = (keeps.installed.each handler x is).version_is;
  }
