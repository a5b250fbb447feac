use Rattle.std.proofs.Common.{◌≡◌, ℕ, List, length, get_or, sym, ap, ◌∙◌}
use Rattle.std.specs.List.{refill}
use Rattle.std.proofs.lemmas.List.Elements.{All-same}
use Rattle.capsule_exchange.specs.declared.handler_state.HandlerState.{HandlerState}
use Rattle.capsule_exchange.specs.declared.summary.Summary.{Summary}
use Rattle.capsule_exchange.specs.Sound.{IsSoundState, AreSound}
use Rattle.capsule_exchange.specs.Steps.{aimed, aimed_each, asks_upto}
use Rattle.capsule_exchange.specs.Summary.{AreKept}
use Rattle.capsule_exchange.proofs.KnowledgeLemmas.{length-aimed_each}
use Rattle.capsule_exchange.proofs.SoundLemmas.{put_back, changed_each, aimed_sound}
use Rattle.capsule_exchange.proofs.SummaryLemmas.{held_in, told_held, aimed_same, asks_none, aimed_marks, kept_each}
use Rattle.capsule_exchange.proofs.progress.Progress.hear_vector.Goals as goal

-- the states that `aim_each` leaves
aimed_sound_all : (states lent after : List HandlerState) (versions told : List ℕ) → lent ≡ states → told ≡ versions → after ≡ aimed_each told lent → AreSound states → AreSound after
aimed_sound_all states lent after versions told same known is sound =
    changed_each states after (λ h. aimed (get_or versions h 0)) (is ∙ ap (aimed_each told) same ∙ ap (λ (vs : List ℕ). aimed_each vs states) known) (λ h s. aimed_sound (get_or versions h 0) s) sound

aimed_put_back : (states lent after : List HandlerState) (versions told : List ℕ) → lent ≡ states → told ≡ versions → after ≡ aimed_each told lent → AreSound states → AreSound (refill (length states) states after)
aimed_put_back states lent after versions told same known is sound =
    put_back AreSound states after (ap length is ∙ length-aimed_each told lent ∙ ap length same) (aimed_sound_all states lent after versions told same known is sound)

pub ask_each-requires-clause-sound : goal.ask_each-requires-clause-sound
ask_each-requires-clause-sound c =
    All-same IsSoundState c.as_slice-4.result.now (refill (length c.self.inside.handlers.items) c.self.inside.handlers.items c.aim_each.new.states) c.as_slice-4.ensures.value
    (aimed_put_back c.self.inside.handlers.items c.as_mut_slice.result.now c.aim_each.new.states c.args.versions.now.items c.as_slice-3.result.now c.as_mut_slice.ensures.value c.as_slice-3.ensures.value c.aim_each.ensures c.self.invariant.sound)

-- what is held and marked stays
aimed_kept_all : (states lent after : List HandlerState) (versions told : List ℕ) (s : Summary) → lent ≡ states → told ≡ versions → after ≡ aimed_each told lent → AreKept states s
    → AreKept (refill (length states) states after) s
aimed_kept_all states lent after versions told s same known is kept =
    kept_each states after (λ h. aimed (get_or versions h 0)) s (is ∙ ap (aimed_each told) same ∙ ap (λ (vs : List ℕ). aimed_each vs states) known) (λ h x. aimed_marks (get_or versions h 0) x)
    (aimed_sound_all states lent after versions told same known is kept.sound) kept

pub invariant_of-self : goal.invariant_of-self
invariant_of-self c =
    aimed_kept_all c.self.inside.handlers.items c.as_mut_slice.result.now c.aim_each.new.states c.args.versions.now.items c.as_slice-3.result.now c.self.inside.summary c.as_mut_slice.ensures.value c.as_slice-3.ensures.value c.aim_each.ensures c.self.invariant

pub returns-clause-sound : goal.returns-clause-sound
returns-clause-sound c = aimed_put_back c.self.inside.handlers.items c.as_mut_slice.result.now c.aim_each.new.states c.args.versions.now.items c.as_slice-3.result.now c.as_mut_slice.ensures.value c.as_slice-3.ensures.value c.aim_each.ensures c.self.invariant.sound

pub returns-then-eq-clause-aimed : goal.returns-then-eq-clause-aimed
returns-then-eq-clause-aimed c =
    let states = c.args.self.now.handlers in
    let told : c.args.versions.now.items ≡ held_in c.args.self.now.handlers =
    told_held c.args.self.now c.self.inside.handlers.items c.self.inside.last c.self.inside.summary c.args.versions.now.items c.as_slice.result.now c.as_slice-2.result.now c.self.view_is c.self.invariant.summed
    c.as_slice.ensures.value c.as_slice-2.ensures.value (sym c.eq.ensures ∙ c.if-eq.true) in
    ap (λ (ss : List HandlerState). record c.args.self.now { handlers = ss }) (aimed_same states ∙ ap (λ (vs : List ℕ). aimed_each vs states) (sym told))

pub returns-then-eq-clause-asks : goal.returns-then-eq-clause-asks
returns-then-eq-clause-asks c =
    let states = c.args.self.now.handlers in
    let told : c.args.versions.now.items ≡ held_in c.args.self.now.handlers =
    told_held c.args.self.now c.self.inside.handlers.items c.self.inside.last c.self.inside.summary c.args.versions.now.items c.as_slice.result.now c.as_slice-2.result.now c.self.view_is c.self.invariant.summed
    c.as_slice.ensures.value c.as_slice-2.ensures.value (sym c.eq.ensures ∙ c.if-eq.true) in
    c.requires.empty ∙ sym (ap (λ (vs : List ℕ). asks_upto vs states (length states)) told ∙ asks_none states)
