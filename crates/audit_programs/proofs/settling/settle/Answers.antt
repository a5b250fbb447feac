use Rattle.mate_num.specs.Uses.{uses}
use Rattle.mate_code.specs.CodeUses.{uses_of}
use Rattle.audit_programs.proofs.SettledLemmas.{all-settled}
use Rattle.audit_programs.proofs.settling.settle.Goals as goal

pub returns-then-settle_variables : goal.returns-then-settle_variables
returns-then-settle_variables c = λ yes.
    let code = c.args.program.now.code in
    all-settled (uses (uses_of code.shape code.code)) c.args.base.now c.args.store.now c.args.heap.now c.settle_variables.new.heap c.settle_buffers.new.heap c.requires.heap c.requires.base
    (c.settle_variables.ensures c.if-settle_variables.true) (c.settle_buffers.ensures yes)
