use Rattle.std.proofs.Common.{◌≤◌, ◌∙◌, ℕ, ap, arith, length, pos, replicate}
use Rattle.std.proofs.lemmas.List.{length-take-le}
use Rattle.node_heap.proofs.HeapLemmas.{store_of-restarted}
use Rattle.node_heap.proofs.heap.Heap.restart.Goals as goal

pub returns : goal.returns
returns c =
    let low = c.requires.shared_fits in
    let long = c.self.told.0 in
    let same = c.from.ensures in
    let within : c.from.result ≤ length c.self.inside.values = omega (arith, low, long, same) in
    store_of-restarted c.args.shared c.args.buffers c.fill.new.self _
    (c.fill.ensures.after (λ y copy. copy) ∙ ap (λ (n : ℕ). replicate n (pos 0)) (length-take-le c.from.result c.self.inside.values within ∙ same)) c.requires.buffers_fit
