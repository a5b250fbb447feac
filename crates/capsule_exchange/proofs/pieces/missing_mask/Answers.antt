use Rattle.std.proofs.Common.{ap, ◌∙◌, not}
use Rattle.capsule_exchange.proofs.MaskLemmas.{mask_with, mask_without}
use Rattle.capsule_exchange.proofs.pieces.missing_mask.Goals as goal
use Rattle.capsule_exchange.proofs.pieces.missing_mask.Goals.{then-is_none, else-is_none}

pub loop-i-preserved : goal.loop-i-preserved
loop-i-preserved c =
    let places = c.args.places.now in
    let i = c.loop-i.i in
    let mask = c.loop-i.mask in
    let place = c.index-places-i.result in
    let before = c.loop-i.invariant in
    elim c.if-is_none.branch [
      | then-is_none w ↦ (
          let gap = c.is_none.ensures ∙ ap not w.if-is_none.true in
          let next = mask_with places i mask c.if-is_none.mask place c.requires c.loop-i-test.true c.index-places-i.is gap before.so_far before.high w.mask-is in
          record { so_far = next.0; high = next.1 })
      | else-is_none w ↦ (
          let there = c.is_none.ensures ∙ ap not w.if-is_none.false in
          let next = mask_without places i mask place c.loop-i-test.true c.index-places-i.is there before.so_far before.high in
          record { so_far = w.mask-is ∙ next.0; high = rw w.mask-is next.1 })
    ]
