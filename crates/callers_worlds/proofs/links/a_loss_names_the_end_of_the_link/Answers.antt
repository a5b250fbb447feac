use Rattle.std.proofs.Common.{List, [], ◌∷◌, ◌++◌, ◌≡◌, ◌∙◌, ap, Option, Some, None, Bool, true, if◌then◌else◌, filter_map, nat_lt, ◌%◌, ℕ}
use Rattle.std.proofs.lemmas.Result.{IfOk-weaker}
use Rattle.mate_journal.specs.declared.air.Aired.{Aired}
use Rattle.mate_journal.specs.declared.air.Air.TheVariants as air_kind
use Rattle.radio_sim.specs.declared.wire.Wire.{Wire}
use Rattle.radio_sim.specs.Wires.{losts, lost_on, loses}
use Rattle.callers_worlds.proofs.links.a_loss_names_the_end_of_the_link.Goals as goal

pub returns : goal.returns
returns c =
    let s = c.args.sending in
    let w = c.a_link.result in
    let lost : ℕ → Aired = λ to. record { stamp = s.at; node = s.node; air = air_kind.Lost s.number to } in
    let held : c.push.new.self ≡ w ∷ [] = c.in_ok-push.ensures ∙ ap (λ (ws : List Wire). ws ++ w ∷ []) c.new-wires.ensures in
    let loses_it : loses w ≡ true = ap (λ (word : ℕ). nat_lt (word % 1000) w.loss) c.a_link.ensures.word ∙ ap (λ (loss : ℕ). nat_lt (5299 % 1000) loss) c.a_link.ensures.loss in
    let one : lost_on s w ≡ Some (lost 9) = ap (λ (b : Bool). if b then Some (lost w.to) else None) loses_it ∙ ap (λ (to : ℕ). Some (lost to)) c.a_link.ensures.to in
    let all : losts s (w ∷ []) ≡ lost 9 ∷ [] = ap (λ (o : Option Aired). filter_map (λ (_ : Wire). o) (w ∷ [])) one in
    IfOk-weaker c.carry.result _ _ (λ _ is. is ∙ ap (λ (more : List Aired). c.args.air.now ++ more) (ap (losts s) held ∙ all)) c.carry.ensures.air
