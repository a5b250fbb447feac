use Rattle.std.proofs.Common.{ℕ, ap, ◌∙◌}
use Rattle.rand_pcg.specs.Lcg.{Lcg}
use Rattle.radio_sim.specs.Wires.{link_stream}
use Rattle.radio_sim.proofs.WireLemmas.{wire_made}
use Rattle.radio_sim.proofs.wire.Wire.new.Goals as goal

pub returns : goal.returns
returns c =
    let first : ℕ × Lcg → ℕ = λ p. p.0 in
    let second : ℕ × Lcg → Lcg = λ p. p.1 in
    wire_made c.args.random c.args.position c.args.link c.new-words.result c.next_word-word.new.self c.next_word-word.result (c.new-words.ensures ∙ ap (link_stream c.args.random) c.from.ensures)
    (ap first c.next_word-word.ensures) (ap second c.next_word-word.ensures)
