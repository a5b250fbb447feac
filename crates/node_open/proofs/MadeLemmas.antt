-- What the calls of a node tell: a new node, a turn, settling.
use Rattle.std.proofs.Common.{◌≡◌, ℕ, ◌+◌, ◌*◌, true, Some, None, refl, sym, ◌∙◌, ap, subst}
use Rattle.std.specs.Prelude.{map}
use Rattle.mate_num.specs.declared.bounds.TheConstants.{CODE_MAX}
use Rattle.mate_num.specs.declared.call.Stamp.{Stamp}
use Rattle.mate_num.specs.declared.id.ContextId.{ContextId}
use Rattle.vm_shape.specs.declared.description.Description.{Description}
use Rattle.mate_journal.specs.Journal.{NodeState}
use Rattle.mate_journal.specs.Pace.{no_pace}
use Rattle.node_state.specs.declared.contexts.Contexts.{Contexts}
use Rattle.node_state.specs.At.{At, at, AreIdle}
use Rattle.node_state.specs.declared.parts.Parts.{Parts}
use Rattle.node_state.specs.Meaning.{machine_in}
use Rattle.node_state.specs.Keeps.{reading}
use Rattle.node_state.specs.Queue.{number_at, invocation_in}
use Rattle.node_state.specs.Pace.{IsPace}
use Rattle.node_state.specs.Starting.{Rests}
use Rattle.node_calls.specs.Pacing.{TakesTurn, SettlesWithin, SettlesAll}
use Rattle.node_calls.proofs.RunningLemmas.{one}
use Rattle.node_open.specs.View.{Tells}
use Rattle.node_open.specs.Calls.{HasStepped}
use Rattle.node_open.proofs.PaceLemmas.{seen_as, Tells-from}

pub IsPace-idle : (r : NodeState) (s : Contexts) → AreIdle s → IsPace r s no_pace
IsPace-idle r s idles = record {
  line = ap (map (invocation_in s)) (sym idles.ring);
  counts = λ c t is started. absurd (let e : None ≡ Some t = ap (λ (a : At). a.seat) (sym (idles.each c)) ∙ is in cc);
}

pub Tells-turn : (d : Description) (old new : Parts) (at_ : Stamp) (c : ContextId) (n ran : ℕ) → Rests d old → (at old.contexts c).ready ≡ true → new.log.gone ≡ old.log.gone → new.handlers.room ≡ old.handlers.room → TakesTurn d old new at_ c n ran
    → Tells (seen_as d old) (seen_as d new) at_ (HasStepped (machine_in d) (reading d old.log.all) c n ran)
Tells-turn d old new at_ c n ran rests is_ready gone places t =
    let keeps = rests.order.keeps in
    let s = (one d old c keeps is_ready).seat in
    let same : s.inv ≡ t.invocation = sym (ap number_at (one d old c keeps is_ready).is) ∙ t.number in
    let P : ℕ → Type 0 = λ j. ((reading d old.log.all).invocations j).context ≡ c in
    Tells-from d old new at_ _ t.told keeps t.rests.order.keeps t.grows gone places (λ p pace. (let h = t.turn p pace in (
      _,
      record {
        turn = record { invocation = t.invocation; context = subst P same (one d old c keeps is_ready).seated.context; turn = h.0; then = refl };
        ran_is = h.1;
        within = t.within;
      },
      h.2,
    )))

pub Tells-settled : (d : Description) (old new : Parts) (at_ : Stamp) → Rests d old → new.log.gone ≡ old.log.gone → new.handlers.room ≡ old.handlers.room → SettlesAll d old new at_
    → Tells (seen_as d old) (seen_as d new) at_ (SettlesWithin (machine_in d) ((d.turns + 1) * CODE_MAX) (reading d old.log.all))
Tells-settled d old new at_ rests gone places s = Tells-from d old new at_ _ s.told rests.order.keeps s.rests.order.keeps s.grows gone places s.settles
