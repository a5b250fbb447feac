use Rattle.std.proofs.Common.{◌≡◌, ◌/◌, ◌%◌, List, set, Some, refl, rules, ap, sym, subst, arith}
use Rattle.capsule_exchange.specs.declared.handler_state.HandlerState.{HandlerState}
use Rattle.capsule_exchange.specs.Images.{HoldSame}
use Rattle.capsule_exchange.specs.Knowledge.{Knowledge}
use Rattle.capsule_exchange.specs.Steps.{after_sending, state_at}
use Rattle.capsule_exchange.proofs.KnowledgeLemmas.{wrote_one}
use Rattle.capsule_exchange.proofs.AnswerLemmas.{sent_learned}
use Rattle.capsule_exchange.proofs.SoundLemmas.{changed_one, sends_sound}
use Rattle.capsule_exchange.proofs.SummaryLemmas.{kept_owing, hold_one}
use Rattle.capsule_exchange.proofs.progress.Progress.send.Goals as goal

pub invariant_of-self : goal.invariant_of-self
invariant_of-self c =
    let sound =
    changed_one c.self.inside.handlers.items c.as_mut_slice.result.now (c.args.slot / 22) c.index-as_mut_slice-handler.result c.unmark.new.self (after_sending (c.args.slot % 22))
    c.as_mut_slice.ensures.value (search rules) c.unmark.ensures (sends_sound (c.args.slot % 22)) c.self.invariant.sound in
    kept_owing c.self.inside.handlers.items c.as_mut_slice.result.now (c.args.slot / 22) c.index-as_mut_slice-handler.result c.unmark.new.self (after_sending (c.args.slot % 22)) c.self.inside.summary c.as_slice.result.now c.any_marked-self-inside.result
    c.as_mut_slice.ensures.value (search rules) c.unmark.ensures (λ s. refl) sound c.self.invariant c.as_slice.ensures.value c.any_marked-self-inside.ensures

pub returns-clause-learned : goal.returns-clause-learned
returns-clause-learned c =
    let wrote = wrote_one c.args.self.now c.self.inside.handlers.items c.as_mut_slice.result.now c.self.inside.last (c.args.slot / 22) (c.args.slot / 22) c.index-as_mut_slice-handler.result c.unmark.new.self (after_sending (c.args.slot % 22))
    c.self.view_is c.as_mut_slice.ensures.value refl (search rules) c.unmark.ensures in
    sent_learned c.args.self.now _ c.args.slot c.requires.within (ap (λ (k : Knowledge). record k { last = Some c.args.slot }) wrote)

pub returns-clause-images : goal.returns-clause-images
returns-clause-images c =
    let wrote = wrote_one c.args.self.now c.self.inside.handlers.items c.as_mut_slice.result.now c.self.inside.last (c.args.slot / 22) (c.args.slot / 22) c.index-as_mut_slice-handler.result c.unmark.new.self (after_sending (c.args.slot % 22))
    c.self.view_is c.as_mut_slice.ensures.value refl (search rules) c.unmark.ensures in
    let within = c.requires.within in
    let after = after_sending (c.args.slot % 22) (state_at c.args.self.now.handlers (c.args.slot / 22)) in
    let old = c.args.self.now in
    subst (λ (ss : List HandlerState). HoldSame old (record { handlers = ss; last = Some c.args.slot })) (sym (ap (λ (k : Knowledge). k.handlers) wrote))
    (hold_one old (record { handlers = set old.handlers (c.args.slot / 22) after; last = Some c.args.slot }) (c.args.slot / 22) after (omega arith) refl refl)
