use Rattle.std.proofs.Common.{◌≡◌, slice_get, Option, Some, None, ap, sym, ◌∙◌, arith}
use Rattle.std.specs.Option.{option_map}
use Rattle.std.proofs.lemmas.Grind.{common_steps}
use Rattle.std.proofs.lemmas.Option.{gets}
use Rattle.vm_shape.specs.declared.handler.Handler.{Handler}
use Rattle.report_writer.specs.Words.{name_or_none}
use Rattle.report_writer.proofs.entry_line.handler_name.Goals as goal

pub returns-in-Some-clause-value : goal.returns-in-Some-clause-value
returns-in-Some-clause-value c =
    let found : slice_get c.args.desc.now.handlers.items c.args.handler.0 ≡ Some c.in-Some.handler.now = grind (arith, common_steps, gets, c.in-Some.ensures.lookup.0) in
    c.as_bytes.ensures.value ∙ sym (ap (λ (o : Option Handler). name_or_none (option_map (λ x. x.name) o)) found)

pub returns-in-None-clause-value : goal.returns-in-None-clause-value
returns-in-None-clause-value c =
    let none : slice_get c.args.desc.now.handlers.items c.args.handler.0 ≡ None = grind (arith, common_steps, gets, c.in-None.ensures.lookup.0) in
    sym (ap (λ (o : Option Handler). name_or_none (option_map (λ x. x.name) o)) none)
