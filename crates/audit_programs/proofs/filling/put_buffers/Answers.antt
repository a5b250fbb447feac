use Rattle.std.proofs.Common.{◌≡◌, ℤ, List, length, take, set, get_or, ap, ◌∙◌, arith}
use Rattle.std.proofs.lemmas.List.{length-take-le}
use Rattle.arrayvec.specs.ArrayVec.{ArrayVec}
use Rattle.mate_num.specs.Store.{payload, set_buffer}
use Rattle.mate_num.specs.declared.store.Store.{Store}
use Rattle.audit_programs.proofs.FillingLemmas.{overlaid, overlaid-more, overlaid-whole, length-overlaid}
use Rattle.audit_programs.proofs.filling.put_buffers.Goals as goal

pub put_buffer-requires-clause-known : goal.put_buffer-requires-clause-known
put_buffer-requires-clause-known c =
    let xs = c.args.buffers.now in
    let old = c.args.heap.now.buffers.items in
    let i = c.loop-i.i in
    let within = c.loop-i-test.true in
    let count = c.requires.count in
    let short = length-take-le i xs (omega (arith, within)) in
    let long = length-overlaid (take i xs) old (omega (arith, within, short, count)) in
    let same : length c.loop-i.heap.buffers.items ≡ length (overlaid (take i xs) old) = ap (λ (s : Store). length s.buffers.items) c.loop-i.invariant in
    omega (arith, within, count, long, same)

pub loop-i-preserved : goal.loop-i-preserved
loop-i-preserved c =
    let xs = c.args.buffers.now in
    let old = c.args.heap.now in
    let i = c.loop-i.i in
    let x : ArrayVec ℤ = c.index-buffers-i.result in
    let within = c.loop-i-test.true in
    let count = c.requires.count in
    let given : payload c.as_slice.result.now ≡ get_or xs i x = ap payload c.as_slice.ensures.value ∙ c.index-buffers-i.is in
    c.put_buffer.ensures
    ∙ ap (λ (s : Store). set_buffer s i c.as_slice.result.now) c.loop-i.invariant
    ∙ ap (λ (p : ArrayVec ℤ). let s : Store = record { shared = old.shared; buffers = record { items = set (overlaid (take i xs) old.buffers.items) i p } } in s) given
    ∙ ap (λ (items : List (ArrayVec ℤ)). let s : Store = record { shared = old.shared; buffers = record { items = items } } in s) (overlaid-more xs old.buffers.items i x within (omega (arith, count)))

pub returns : goal.returns
returns c =
    let old = c.args.heap.now in
    let past = c.loop-i-test.false in
    c.loop-i.invariant
    ∙ ap (λ (items : List (ArrayVec ℤ)). let s : Store = record { shared = old.shared; buffers = record { items = items } } in s) (overlaid-whole c.args.buffers.now old.buffers.items c.loop-i.i past c.requires.count)
