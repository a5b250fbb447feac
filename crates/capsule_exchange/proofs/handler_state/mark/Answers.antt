use Rattle.std.proofs.Common.{◌≡◌, ℕ, false, ltb, eqb, ◌&&◌, ◌||◌, get_or, arith, ◌∙◌, ap}
use Rattle.std.specs.Int.{bit_at}
use Rattle.capsule_exchange.proofs.TableLemmas.{table_is}
use Rattle.capsule_exchange.proofs.handler_state.mark.Goals as goal

pub returns : goal.returns
returns c =
    let asked = λ (count k : ℕ). (ltb k count && eqb (bit_at c.args.missing k) 1) || get_or c.args.marks.now k false in
    let last : c.loop-index.index ≡ c.args.count = omega arith in
    table_is (asked c.args.count) c.loop-index.marks false c.loop-index.invariant.long (λ k below. c.loop-index.invariant.each k ∙ ap (λ (n : ℕ). asked n k) last)
