use Rattle.std.proofs.Common.{true, false, sym, ap, ◌∙◌}
use Rattle.command_steps.specs.Steps.{goes_on}
use Rattle.command_steps.proofs.Laws.{stops_by, moved}
use Rattle.command_programs.specs.Named.{is_of_world, programs_by}
use Rattle.command_programs.proofs.NamedLemmas.{named-by}
use Rattle.command_programs.proofs.named.programs_named.Goals as goal

pub returns-in_err-bytes-clause-does : goal.returns-in_err-bytes-clause-does
returns-in_err-bytes-clause-does g c = stops_by c.in_err-bytes.field-0.0 c.from_residual.result c.in_err-bytes.ensures.does c.from_residual.ensures.1

pub returns-then-is_of_world-clause-does : goal.returns-then-is_of_world-clause-does
returns-then-is_of_world-clause-does g c =
    let bytes = c.in_ok-bytes.bytes.items in
    goes_on c.in_ok-bytes.bytes c.in_ok-bytes.ensures.does
    (moved (λ f. programs_by (is_of_world bytes) f c.args.desc.now c.args.fold bytes c.programs_in_world.result) c.in_ok-bytes.ensures.reads
    (named-by true _ c.args.desc.now c.args.fold bytes _ c.programs_in_world.result (sym c.if-is_of_world.true ∙ c.is_of_world.ensures ∙ ap is_of_world c.as_slice.ensures.value)
    c.as_slice-then-is_of_world.ensures.value c.programs_in_world.ensures.does))

pub returns-clause-does : goal.returns-clause-does
returns-clause-does g c =
    let bytes = c.in_ok-bytes.bytes.items in
    goes_on c.in_ok-bytes.bytes c.in_ok-bytes.ensures.does
    (moved (λ f. programs_by (is_of_world bytes) f c.args.desc.now c.args.fold bytes c.programs_in_script.result) c.in_ok-bytes.ensures.reads
    (named-by false _ c.args.desc.now c.args.fold bytes _ c.programs_in_script.result (sym c.if-is_of_world.false ∙ c.is_of_world.ensures ∙ ap is_of_world c.as_slice.ensures.value)
    c.as_slice-else-is_of_world.ensures.value c.programs_in_script.ensures.does))
