use Rattle.std.proofs.Common.{◌≡◌, ◌^◌, ◌<◌, None, ℕ}
use Rattle.std.specs.Prelude.{slice_index_or, is_none}
use Rattle.std.specs.List.{filter, range_with_len}
use Rattle.capsule_exchange.specs.Happenings.{mask_of}
use Rattle.capsule_exchange.proofs.pieces.missing_mask.Given as goal

abbrev pub invariant-loop-i : goal.invariant-loop-i
invariant-loop-i l = record {
  so_far : l.mask ≡ mask_of (filter (λ (i : ℕ). is_none (slice_index_or l.places i None)) (range_with_len 0 l.i));
  high : l.mask < 2 ^ l.i;
}
