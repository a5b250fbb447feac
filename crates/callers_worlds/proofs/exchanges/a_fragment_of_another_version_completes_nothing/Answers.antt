use Rattle.std.proofs.Common.{◌≡◌, List, [], ◌∷◌, ◌++◌, ℕ, false, ◌∙◌, ap}
use Rattle.packet_codec.specs.declared.packet.Packet.TheVariants.{Vector, Fragment}
use Rattle.capsule_exchange.specs.Happenings.{Hears, Installs, Happening, collected_image}
use Rattle.callers_worlds.proofs.exchanges.a_fragment_of_another_version_completes_nothing.Goals as goal

pub returns : goal.returns
returns c =
    let held : List Happening = Installs 0 2 (7 ∷ []) ∷ [] in
    let aimed = c.hear.ensures.learned 1 held c.a_holder-exchange.ensures in
    let collected = c.hear-2.ensures.learned 1 (Hears (Vector c.push.new.self) ∷ held) aimed in
    let versions : c.push.new.self.items ≡ 4 ∷ [] = c.push.ensures.items ∙ ap (λ (vs : List ℕ). vs ++ 4 ∷ []) c.new-versions.ensures in
    c.complete.ensures 1 (Hears (Fragment (record { 0 = 0 }) 3 0 1 false c.push-2.new.self) ∷ Hears (Vector c.push.new.self) ∷ held) collected
    ∙ ap (λ (vs : List ℕ). collected_image 0 (Hears (Fragment (record { 0 = 0 }) 3 0 1 false c.push-2.new.self) ∷ Hears (Vector (record { items = vs })) ∷ held)) versions
