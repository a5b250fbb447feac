use Rattle.std.proofs.Common.{List, [], ◌∷◌, ◌++◌, ℕ, length, ◌∙◌, ap}
use Rattle.packet_codec.specs.declared.packet.Packet.{Packet}
use Rattle.packet_codec.specs.declared.packet.Packet.TheVariants.{Vector}
use Rattle.capsule_exchange.specs.Happenings.{Installs, asks_after}
use Rattle.callers_worlds.proofs.exchanges.an_equal_version_is_not_asked_for.Goals as goal

pub returns : goal.returns
returns c =
    c.len.ensures.value ∙ ap (λ (ps : List Packet). length ps) (c.hear-heard.ensures.asks 1 (Installs 0 2 (7 ∷ []) ∷ []) c.a_holder-exchange.ensures)
    ∙ ap (λ (vs : List ℕ). length (asks_after 1 (Vector (record { items = vs })) (Installs 0 2 (7 ∷ []) ∷ [])))
    (c.push.ensures.items ∙ ap (λ (vs : List ℕ). vs ++ 2 ∷ []) c.new-versions.ensures)
