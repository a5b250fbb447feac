use Rattle.std.proofs.Common.{sym, ◌∙◌}
use Rattle.mate_files.proofs.PenLemmas.{◌⟫◌, Prints-by}
use Rattle.mate_num.specs.Locks.{lock_uses}
use Rattle.opcode_gen.proofs.LockLineLemmas.{mention-read}
use Rattle.opcode_gen.proofs.lock_line.print_mention.Goals as goal

pub returns-then-reads : goal.returns-then-reads
returns-then-reads g c =
    let named = mention-read (lock_uses c.args.set.now) c.args.resource c.args.name.now (sym c.writes.ensures ∙ c.if-writes.false) (sym c.reads.ensures ∙ c.if-reads.true) in
    Prints-by named (c.print_name-then-reads.ensures ⟫ c.text.ensures)
