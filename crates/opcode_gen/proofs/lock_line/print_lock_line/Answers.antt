use Rattle.std.proofs.Common.{ap}
use Rattle.mate_files.proofs.PenLemmas.{◌⟫◌, Prints-by}
use Rattle.mate_num.specs.Locks.{lock_uses}
use Rattle.opcode_gen.specs.LockLine.{mentions}
use Rattle.opcode_gen.specs.declared.lock_line.Group.TheVariants.{Shared, Buffers, Devices}
use Rattle.opcode_gen.proofs.lock_line.print_lock_line.Goals as goal

pub returns : goal.returns
returns g c =
    let u = lock_uses c.args.set.now in
    c.text.ensures ⟫ Prints-by (ap (mentions u Shared) c.as_slice.ensures.value) c.print_group.ensures
    ⟫ Prints-by (ap (mentions u Buffers) c.as_slice-2.ensures.value) c.print_group-2.ensures
    ⟫ Prints-by (ap (mentions u Devices) c.as_slice-3.ensures.value) c.print_group-3.ensures ⟫ c.text-2.ensures
