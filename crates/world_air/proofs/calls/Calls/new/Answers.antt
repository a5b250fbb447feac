use Rattle.std.proofs.Common.{ℕ, ◌+◌, ◌*◌, length, sym, ◌∙◌, ap}
use Rattle.rand_pcg.specs.Lcg.{started, increment_of}
use Rattle.rand_pcg.specs.Pcg.{multiplier_64}
use Rattle.vm_shape.specs.declared.description.Description.{Description}
use Rattle.world_air.proofs.CallLemmas.{calls-none}
use Rattle.world_air.proofs.calls.Calls.new.Goals as goal

pub returns : goal.returns
returns c = λ w same random.
    calls-none w c.args.node c.in_ok-none.field-0.items c.new.result (c.in_ok-none.ensures.count ∙ c.len.ensures.value ∙ ap (λ (d : Description). length d.functions.items) (sym same)) c.in_ok-none.ensures.none
    (c.new.ensures ∙ ap (λ (n : ℕ). started 64 multiplier_64 c.args.random (increment_of 64 (2 * n + 1))) c.from.ensures ∙ ap (λ (r : ℕ). started 64 multiplier_64 r (increment_of 64 (2 * c.args.node + 1))) (sym random))
