use Rattle.std.proofs.Common.{◌≡◌, ℤ, List, length, take, get_or, pos, ap, ◌∙◌, arith}
use Rattle.std.proofs.lemmas.List.{length-take-le}
use Rattle.mate_num.specs.Store.{set_value}
use Rattle.mate_num.specs.declared.store.Store.{Store}
use Rattle.audit_programs.proofs.FillingLemmas.{overlaid, overlaid-more, overlaid-whole, length-overlaid}
use Rattle.audit_programs.proofs.filling.put_shared.Goals as goal

pub put_value-requires : goal.put_value-requires
put_value-requires c =
    let xs = c.args.values.now in
    let old = c.args.heap.now.shared.items in
    let i = c.loop-i.i in
    let within = c.loop-i-test.true in
    let count = c.requires.count in
    let short = length-take-le i xs (omega (arith, within)) in
    let long = length-overlaid (take i xs) old (omega (arith, within, short, count)) in
    let same : length c.loop-i.heap.shared.items ≡ length (overlaid (take i xs) old) = ap (λ (s : Store). length s.shared.items) c.loop-i.invariant in
    omega (arith, within, count, long, same)

pub loop-i-preserved : goal.loop-i-preserved
loop-i-preserved c =
    let xs = c.args.values.now in
    let old = c.args.heap.now in
    let i = c.loop-i.i in
    let within = c.loop-i-test.true in
    let count = c.requires.count in
    c.put_value.ensures
    ∙ ap (λ (s : Store). set_value s i (get_or xs i (pos 0))) c.loop-i.invariant
    ∙ ap (λ (items : List ℤ). let s : Store = record { shared = record { items = items }; buffers = old.buffers } in s) (overlaid-more xs old.shared.items i (pos 0) within (omega (arith, count)))

pub returns : goal.returns
returns c =
    let old = c.args.heap.now in
    let past = c.loop-i-test.false in
    c.loop-i.invariant
    ∙ ap (λ (items : List ℤ). let s : Store = record { shared = record { items = items }; buffers = old.buffers } in s) (overlaid-whole c.args.values.now old.shared.items c.loop-i.i past c.requires.count)
