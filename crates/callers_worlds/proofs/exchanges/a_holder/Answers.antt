use Rattle.std.proofs.Common.{List, [], ◌∷◌, ◌++◌, ℕ, ◌∙◌, ap}
use Rattle.capsule_exchange.specs.Happenings.{Installs}
use Rattle.capsule_exchange.specs.Knowledge.{knowledge}
use Rattle.callers_worlds.proofs.exchanges.a_holder.Goals as goal

pub returns : goal.returns
returns c =
    c.installed.ensures.learned 1 [] c.new-exchange.ensures
    ∙ ap (λ (bytes : List ℕ). knowledge 1 (Installs 0 2 bytes ∷ [])) (c.push.ensures.items ∙ ap (λ (bytes : List ℕ). bytes ++ 7 ∷ []) c.new-image.ensures)
