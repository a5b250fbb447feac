use Rattle.std.proofs.Common.{◌≤◌, length, IsTrue}
use Rattle.std.proofs.lemmas.Result.{IfOk-weaker}
use Rattle.std.specs.List.{list_all}
use Rattle.vm_shape.specs.Limits.{is_handler}
use Rattle.vm_desc.proofs.ReadingLemmas.{refused_rules}
use Rattle.vm_desc.proofs.parts.handlers_in.Goals as goal

pub returns-in_err-value-clause-some : goal.returns-in_err-value-clause-some
returns-in_err-value-clause-some c = refused_rules (λ v. 1 ≤ length v.items) c.from_residual.result c.in_err-value.field-0.0 c.from_residual.ensures.1

pub returns-in_err-value-clause-few : goal.returns-in_err-value-clause-few
returns-in_err-value-clause-few c = refused_rules (λ v. length v.items ≤ 8) c.from_residual.result c.in_err-value.field-0.0 c.from_residual.ensures.1

pub returns-in_err-value-clause-rules : goal.returns-in_err-value-clause-rules
returns-in_err-value-clause-rules c = refused_rules (λ v. IsTrue (list_all is_handler v.items)) c.from_residual.result c.in_err-value.field-0.0 c.from_residual.ensures.1

pub returns-in_err-items-clause-some : goal.returns-in_err-items-clause-some
returns-in_err-items-clause-some c = refused_rules (λ v. 1 ≤ length v.items) c.from_residual-in_err-items.result c.in_err-items.field-0.0 c.from_residual-in_err-items.ensures.1

pub returns-in_err-items-clause-few : goal.returns-in_err-items-clause-few
returns-in_err-items-clause-few c = refused_rules (λ v. length v.items ≤ 8) c.from_residual-in_err-items.result c.in_err-items.field-0.0 c.from_residual-in_err-items.ensures.1

pub returns-in_err-items-clause-rules : goal.returns-in_err-items-clause-rules
returns-in_err-items-clause-rules c = refused_rules (λ v. IsTrue (list_all is_handler v.items)) c.from_residual-in_err-items.result c.in_err-items.field-0.0 c.from_residual-in_err-items.ensures.1

pub returns-in_err-allowed-clause-some : goal.returns-in_err-allowed-clause-some
returns-in_err-allowed-clause-some c = refused_rules (λ v. 1 ≤ length v.items) c.from_residual-in_err-allowed.result c.in_err-allowed.field-0.0 c.from_residual-in_err-allowed.ensures.1

pub returns-in_err-allowed-clause-few : goal.returns-in_err-allowed-clause-few
returns-in_err-allowed-clause-few c = refused_rules (λ v. length v.items ≤ 8) c.from_residual-in_err-allowed.result c.in_err-allowed.field-0.0 c.from_residual-in_err-allowed.ensures.1

pub returns-in_err-allowed-clause-rules : goal.returns-in_err-allowed-clause-rules
returns-in_err-allowed-clause-rules c = refused_rules (λ v. IsTrue (list_all is_handler v.items)) c.from_residual-in_err-allowed.result c.in_err-allowed.field-0.0 c.from_residual-in_err-allowed.ensures.1

pub returns-clause-few : goal.returns-clause-few
returns-clause-few c = IfOk-weaker c.each_handler.result _ _ (λ v same. rw same c.in_ok-items.ensures.few) c.each_handler.ensures.count

pub returns-clause-rules : goal.returns-clause-rules
returns-clause-rules c = c.each_handler.ensures.rules
