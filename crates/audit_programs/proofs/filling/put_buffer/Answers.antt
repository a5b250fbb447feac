use Rattle.std.proofs.Common.{get_or, pos, Ok, refl, arith}
use Rattle.audit_programs.proofs.FillingLemmas.{append-more}
use Rattle.audit_programs.proofs.filling.put_buffer.Goals as goal

pub loop-i-preserved : goal.loop-i-preserved
loop-i-preserved c =
    let xs = c.args.values.now in
    let i = c.loop-i.i in
    (append-more c.args.heap.now c.args.buffer.0 xs i (get_or xs i (pos 0)) (pos 0) (Ok tt) c.loop-i.heap c.append_value.new.heap c.requires.known (omega arith) c.requires.few refl c.loop-i.invariant c.in-Ok.ensures).1
