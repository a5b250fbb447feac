use Rattle.std.proofs.Common.{ℕ, ◌+◌, sym, subst}
use Rattle.vm_shape.specs.Shapes.{shape_of}
use Rattle.lock_inference.specs.Locks.{IsGathered}
use Rattle.lock_inference.proofs.GainLemmas.{verified-names, gathered-none, gathered-more, starts-there, locks-all}
use Rattle.lock_inference.proofs.inference.locks.Goals as goal

pub instrs-init : goal.instrs-init
instrs-init c = gathered-none (shape_of c.args.desc.now) c.args.code.now.code c.empty-set.result c.empty-set.ensures

pub instr-instr-requires : goal.instr-instr-requires
instr-instr-requires c =
    starts-there (shape_of c.args.desc.now) c.args.code.now c.instrs.place c.len-len.result c.code.result.now.items c.instrs.set c.instrs.invariant c.code.ensures.verified c.code.ensures.value c.len-len.ensures.value c.instrs-test.true

pub with_use-set-requires : goal.with_use-set-requires
with_use-set-requires c = verified-names c.args.desc.now c.args.code.now c.instrs.place c.instr-instr.result c.uses.result c.requires c.code.ensures.verified c.instr-instr.ensures.value c.uses.ensures

pub instrs-preserved : goal.instrs-preserved
instrs-preserved c =
    let P : ℕ → Type 0 = λ n. IsGathered (shape_of c.args.desc.now) c.args.code.now.code (c.instrs.place + n) c.with_use-set.result in
    subst P (sym c.size.ensures)
    (gathered-more (shape_of c.args.desc.now) c.args.code.now c.instrs.place c.len-len.result c.code.result.now.items c.instr-instr.result c.instrs.set c.with_use-set.result c.uses.result c.instrs.invariant c.code.ensures.verified c.code.ensures.value
    c.len-len.ensures.value c.instrs-test.true c.instr-instr.ensures.value c.uses.ensures c.with_use-set.ensures)

pub returns : goal.returns
returns c =
    locks-all (shape_of c.args.desc.now) c.args.code.now c.instrs.place c.len-len.result c.code.result.now.items c.instrs.set c.code.ensures.verified c.code.ensures.value c.len-len.ensures.value c.instrs-test.false c.instrs.invariant
