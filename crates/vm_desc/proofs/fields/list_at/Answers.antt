use Rattle.std.proofs.Common.{arith}
use Rattle.vm_desc.proofs.FieldLemmas.{list_at-long, list_at-short}
use Rattle.vm_desc.proofs.fields.list_at.Goals as goal

pub returns-then-len-most-clause-value : goal.returns-then-len-most-clause-value
returns-then-len-most-clause-value c = list_at-long c.args.key c.args.most c.in-Array.items c.args.value.now c.in-Array.is (omega arith)

pub returns-clause-value : goal.returns-clause-value
returns-clause-value c = list_at-short c.args.key c.args.most c.in-Array.items c.args.value.now c.in-Array.is (omega arith)
