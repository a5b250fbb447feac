use Rattle.std.proofs.Common.{◌<◌, ◌+◌, Bool, ℤ, List, length, sym, ◌∙◌, ap, subst, arith}
use Rattle.arrayvec.specs.ArrayVec.{ArrayVec}
use Rattle.mate_num.specs.Store.{buffer_at, set_buffer}
use Rattle.mate_num.specs.Uses.{uses}
use Rattle.mate_num.specs.declared.resource.Resource.{Resource}
use Rattle.mate_num.specs.declared.resource.Resource.TheVariants.{Buffer}
use Rattle.mate_num.specs.declared.store.Store.{Store}
use Rattle.mate_code.specs.CodeUses.{uses_of}
use Rattle.audit_programs.specs.Settled.{is_buffer_below}
use Rattle.audit_programs.proofs.SettledLemmas.{buffers-more, none-below, settles-unused, settles-used, buffer-here, buffer-set}
use Rattle.audit_programs.proofs.settling.settle_buffers.Goals as goal
use Rattle.audit_programs.proofs.settling.settle_buffers.Goals.{then-not-uses, else-not-uses+else-not-same_values}

pub loop-b-preserved : goal.loop-b-preserved
loop-b-preserved c =
    let code = c.args.program.now.code in
    let used : Resource → Bool = uses (uses_of code.shape code.code) in
    let base : Store = c.args.base.now in
    let store : Store = c.args.store.now in
    let before : Store = c.args.heap.now in
    let now : Store = c.loop-b.heap in
    let b = c.loop-b.b in
    let at : Resource = Buffer (record { 0 = b }) in
    let so_far = c.loop-b.invariant.settled in
    let within = c.loop-b-test.true in
    let lt : b < length store.buffers.items = subst (λ (l : List (ArrayVec ℤ)). b < length l) c.as_slice-buffers.ensures.value within in
    let l1 = so_far.as_long.buffers in
    let l2 = c.requires.heap.buffers in
    let l3 = c.requires.base.buffers in
    let lb : b < length base.buffers.items = omega (arith, l3, lt) in
    let lbs : b < length c.as_slice-bases.result.now = subst (λ (l : List (ArrayVec ℤ)). b < length l) (sym c.as_slice-bases.ensures.value) lb in
    record {
      settled = elim c.if-not-uses.branch [
        | then-not-uses w ↦ (
            let is = w.heap-is ∙ w.put_buffer.ensures
            ∙ ap (λ (xs : List ℤ). set_buffer now b xs) (buffer-here store c.as_slice-buffers.result.now b w.index-buffers-b.result w.as_slice.result.now c.as_slice-buffers.ensures.value within w.index-buffers-b.is w.as_slice.ensures.value) in
            settles-unused (is_buffer_below b) (is_buffer_below (b + 1)) used base store before now c.if-not-uses.heap at so_far (buffers-more b) (none-below b) (sym c.uses.ensures ∙ w.if-not-uses.true) is
            (ap (λ (s : Store). buffer_at s b) is ∙ buffer-set now b (buffer_at store b) (omega (arith, l1, l2, lt))))
        | else-not-uses+else-not-same_values w ↦ (
            let here = buffer-here base c.as_slice-bases.result.now b w.index-bases-b.result w.as_slice-else-not-uses.result.now c.as_slice-bases.ensures.value lbs w.index-bases-b.is w.as_slice-else-not-uses.ensures.value in
            let there = buffer-here store c.as_slice-buffers.result.now b w.index-buffers-b-else-not-uses.result w.as_slice-else-not-uses-2.result.now c.as_slice-buffers.ensures.value within w.index-buffers-b-else-not-uses.is w.as_slice-else-not-uses-2.ensures.value in
            settles-used (is_buffer_below b) (is_buffer_below (b + 1)) used base store before now c.if-not-uses.heap at so_far (buffers-more b) (none-below b) (sym c.uses.ensures ∙ w.if-not-uses.false) w.heap-is
            (sym here ∙ w.same_values.ensures w.if-not-same_values.false ∙ there))
      ];
      few = omega (arith, lt);
    }
