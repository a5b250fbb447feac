use Rattle.std.proofs.Common.{subst, sym}
use Rattle.mate_num.specs.declared.resource.Resource.TheVariants.{Buffer}
use Rattle.vm_shape.specs.Shapes.{shape_of}
use Rattle.lock_inference.specs.Locks.{Gains}
use Rattle.mate_code.specs.declared.uses.Use.{Use}
use Rattle.lock_inference.proofs.GainLemmas.{Gains-gets, Gains-changes, Gains-sends}
use Rattle.lock_inference.proofs.inference.with_use.Goals as goal

pub returns-in-Gets : goal.returns-in-Gets
returns-in-Gets c =
    let shape = shape_of c.args.desc.now in
    let P : Use → Type 0 = λ u. Gains shape c.args.set c.with_read.result u in
    subst P (sym c.in-Gets.is) (Gains-gets shape c.args.set c.with_read.result c.in-Gets.cell c.with_read.ensures.reads c.with_read.ensures.writes)

pub returns-in-Changes : goal.returns-in-Changes
returns-in-Changes c =
    let shape = shape_of c.args.desc.now in
    let P : Use → Type 0 = λ u. Gains shape c.args.set c.with_write.result u in
    subst P (sym c.in-Changes.is) (Gains-changes shape c.args.set c.with_write.result c.in-Changes.cell c.with_write.ensures.reads c.with_write.ensures.writes)

pub returns-in-Sends : goal.returns-in-Sends
returns-in-Sends c =
    let shape = shape_of c.args.desc.now in
    let between = c.with_read-in-Sends.result in
    let new = c.with_device-in-Sends.result in
    let P : Use → Type 0 = λ u. Gains shape c.args.set new u in
    subst P (sym c.in-Sends.is)
    (Gains-sends shape c.args.set between new c.in-Sends.fun c.in-Sends.buf
    (Gains-gets shape c.args.set between (Buffer c.in-Sends.buf) c.with_read-in-Sends.ensures.reads c.with_read-in-Sends.ensures.writes)
    c.with_device-in-Sends.ensures)
