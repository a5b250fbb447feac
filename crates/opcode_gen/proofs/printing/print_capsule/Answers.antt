use Rattle.std.proofs.Common.{ap}
use Rattle.mate_files.proofs.PenLemmas.{◌⟫◌, Prints-by, Puts-finished}
use Rattle.mate_code.specs.CodeUses as code
use Rattle.mate_num.specs.Locks.{lock_uses}
use Rattle.vm_shape.specs.Shapes.{shape_of}
use Rattle.opcode_gen.specs.LockLine.{lock_line}
use Rattle.opcode_gen.proofs.LockLineLemmas.{uses-same}
use Rattle.opcode_gen.proofs.printing.print_capsule.Goals as goal

pub returns : goal.returns
returns g c =
    let d = c.args.desc.now in
    let same = uses-same (lock_uses c.locks.result) (code.uses_of (shape_of d) c.args.code.now.code) c.locks.ensures in
    Puts-finished c.new-pen.ensures c.finish.ensures (c.print_head.ensures ⟫ c.print_instrs.ensures ⟫ Prints-by (ap (lock_line d) same) c.print_lock_line.ensures)
