use Rattle.std.proofs.Common.{ap, ◌∙◌, IsTrue}
use Rattle.vm_shape.specs.Names.{is_name}
use Rattle.vm_desc.specs.Fields.{taken}
use Rattle.vm_desc.proofs.FieldLemmas.{taken-kept}
use Rattle.vm_desc.proofs.fields.name.Goals as goal

pub returns-in-Some-clause-value : goal.returns-in-Some-clause-value
returns-in-Some-clause-value c = rw c.in-Some.is (c.taken.ensures ∙ ap (taken c.args.key) c.name_in.ensures.value)

pub returns-in-Some-clause-form : goal.returns-in-Some-clause-form
returns-in-Some-clause-form c = taken-kept (λ n. IsTrue (is_name n)) c.args.key c.name_in.result c.taken.result c.taken.ensures c.name_in.ensures.form
