use Rattle.std.specs.Prelude.{◌≡◌, ◌<◌, ◌*◌, ℕ}
use Rattle.event_queue.specs.Marks.{mark_at}
use Rattle.event_queue.proofs.marks.Marks.next.Given as goal

abbrev pub invariant-loop-word : goal.invariant-loop-word
invariant-loop-word l = (s : ℕ) → l.slot < s → s < l.word * 64 → mark_at l.self s ≡ 0
