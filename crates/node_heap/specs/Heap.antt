-- What contracts see of a heap: its store.
use Rattle.std.specs.Prelude.{◌≤◌, take, drop}
use Rattle.std.specs.List.{All}
use Rattle.mate_num.specs.declared.bounds.TheConstants.{BUFFERS_MAX, PAYLOAD_MAX, SHARED_MAX}
use Rattle.node_heap.specs.Blocks.{rows}
use Rattle.node_heap.specs.declared.heap.Heap.TheInside.{Inside}
use Rattle.mate_num.specs.declared.store.Store.{Store}

-- the store that the block and the lengths hold
abbrev pub held_store : Inside → Store
held_store h =
    record {
      shared = record { items = take h.shared h.values };
      buffers = record { items = rows (take h.buffers h.lengths) (drop SHARED_MAX h.values) };
    }

-- the numbers of variables and buffers, and each buffer's length, are in range
pub record IsHeap (h : Inside) : Type 0 where
  pub shared_fits : h.shared ≤ SHARED_MAX
  pub buffers_fit : h.buffers ≤ BUFFERS_MAX
  pub lengths_fit : All (λ n. n ≤ PAYLOAD_MAX) h.lengths
