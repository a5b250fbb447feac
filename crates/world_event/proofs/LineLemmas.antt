-- What a mote does to which a line of the script comes, a period, or the answer to a call.
use Rattle.std.proofs.Common.{◌≡◌, ℕ, Bool, true, false, ◌&&◌, List, [], ◌∷◌, refl, sym, ◌∙◌, ap, subst, inl, inr}
use Rattle.std.specs.Prelude.{◌⊎◌, ℤ}
use Rattle.arrayvec.specs.ArrayVec.{ArrayVec}
use Rattle.mate_num.specs.declared.call.Stamp.{Stamp}
use Rattle.mate_num.specs.declared.id.ContextId.{ContextId}
use Rattle.mate_num.specs.declared.id.HandlerId.{HandlerId}
use Rattle.mate_journal.specs.declared.program.Program.{Program}
use Rattle.mate_journal.specs.Journal.{JournalEntry, Answered, NodeState}
use Rattle.mate_journal.specs.NodeScript.{Occasion, AnswersCall, ShowsOnce}
use Rattle.node_calls.specs.Calls.{NobodyWaits}
use Rattle.node_open.specs.Calls.{Pacing}
use Rattle.node_open.specs.View.{heard_of}
use Rattle.node_state.specs.Meaning.{machine_in}
use Rattle.node_programs.specs.ScriptSteps.{program_at}
use Rattle.script_steps.specs.declared.world.What.{What}
use Rattle.world_rules.specs.World.{Want, Post, Show, ResetNode, want_of}
use Rattle.world_rules.specs.Effect.{NodeEffect, Posting, Answering, Showing, no_effect, of_line}
use Rattle.world_run_laws.specs.Coming.{code_world, AwaitsAlone}
use Rattle.world_state.specs.declared.effect.Effect.{Effect}
use Rattle.world_state.specs.declared.mote.Mote.{Mote}
use Rattle.world_state.specs.Motes.{TellsAlone, ResetsMote, plain_effect}
use Rattle.world_state.specs.Standing.{IsEffectBy}
use Rattle.world_event.specs.Handling.{DoesBy}
use Rattle.world_event.proofs.EffectLemmas.{seen_as, does-by, does-alone}
use Rattle.world_event.proofs.PostLemmas.{occasions-one}

pub by-want : (ps : List Program) (line : What) (want : Want) (at : Stamp) (old new : Mote) (r : Effect) → want_of (program_at ps) line ≡ want → DoesBy at (λ _ _. of_line want) old new r
    → DoesBy at (λ _ _. of_line (want_of (program_at ps) line)) old new r
by-want ps line want at old new r is does = subst (λ (x : Want). DoesBy at (λ _ _. of_line x) old new r) (sym is) does

pub does-post : (at : Stamp) (old new : Mote) (r : Effect) (h : HandlerId) (payload : ArrayVec ℤ) → TellsAlone at (Pacing (λ _. Occasion (machine_in old.node.description) (heard_of old.node) h payload)) old new → r ≡ plain_effect
    → DoesBy at (λ _ _. of_line (Post h payload)) old new r
does-post at old new r h payload told plain =
    does-by at (λ _ _. of_line (Post h payload)) old new r (λ script ps n known takes.
    does-alone (code_world old.node.description script ps) n (Posting (h ∷ []) payload) at old new r (λ _. Occasion (machine_in old.node.description) (heard_of old.node) h payload) refl refl known told
    (λ p ts given. occasions-one (machine_in old.node.description) payload h (heard_of old.node) p ts given) plain)

pub does-show : (at : Stamp) (old new : Mote) (r : Effect) → TellsAlone at (Pacing (ShowsOnce (machine_in old.node.description) (heard_of old.node))) old new → r ≡ plain_effect
    → DoesBy at (λ _ _. of_line Show) old new r
does-show at old new r told plain =
    does-by at (λ _ _. of_line Show) old new r (λ script ps n known takes.
    does-alone (code_world old.node.description script ps) n Showing at old new r (ShowsOnce (machine_in old.node.description) (heard_of old.node)) refl refl known told
    (λ p ts given. given) plain)

pub never : (b : Bool) → (b && false) ≡ false
never true = refl
never false = refl

pub does-reset : (at : Stamp) (old new : Mote) (r : Effect) → ResetsMote at old new r → DoesBy at (λ _ _. of_line ResetNode) old new r
does-reset at old new r x = does-by at (λ _ _. of_line ResetNode) old new r (λ script ps n known takes. record {
  tells = x.tells;
  timer = x.timer;
  exchange = x.exchange _ n.exchange known;
  pumps = x.pumps ∙ sym (never old.pumps);
  calls = x.calls;
  effect = subst (IsEffectBy (seen_as old n) (of_line ResetNode)) (sym x.effect) (record { first = refl; begins = refl; cuts = refl; resets = refl; sends = refl });
})

-- ---- the answer to a call

its-answer : (r : NodeState) (c : ContextId) (inv : ℕ) (value : ℤ) (told : List JournalEntry) → AwaitsAlone r c inv → AnswersCall r c value told → told ≡ Answered inv value ∷ []
its-answer r c inv value told awaits a = a.made ∙ ap (λ (n : ℕ). Answered n value ∷ []) (awaits.alone a.invocation a.waits a.context)

abbrev pub answering : ℕ → ℤ → NodeEffect
answering inv value = record no_effect { deed = Answering inv value }

pub does-answer : (at : Stamp) (old new : Mote) (r : Effect) (c : ContextId) (inv : ℕ) (value : ℤ) → AwaitsAlone (heard_of old.node) c inv
    → NobodyWaits (heard_of old.node) c ⊎ TellsAlone at (Pacing (λ _. AnswersCall (heard_of old.node) c value)) old new → r ≡ plain_effect → DoesBy at (λ _ _. answering inv value) old new r
does-answer at old new r c inv value awaits (inl nobody) plain = absurd (nobody inv awaits.waits awaits.context)
does-answer at old new r c inv value awaits (inr told) plain =
    does-by at (λ _ _. answering inv value) old new r (λ script ps n known takes.
    does-alone (code_world old.node.description script ps) n (Answering inv value) at old new r (λ _. AnswersCall (heard_of old.node) c value) refl refl known told
    (λ p ts given. its-answer (heard_of old.node) c inv value ts awaits given) plain)
