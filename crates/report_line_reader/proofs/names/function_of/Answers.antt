use Rattle.std.proofs.Common.{◌≡◌, ℕ, List, Option, None, sym, ◌∙◌, ap, rules}
use Rattle.std.specs.List.{position}
use Rattle.std.specs.Option.{option_map}
use Rattle.std.specs.Str.{bytes_eq}
use Rattle.mate_num.specs.declared.id.FunId.{FunId}
use Rattle.vm_shape.specs.declared.function.Function.{Function}
use Rattle.report_line_reader.specs.Names.{name_of_function}
use Rattle.report_line_reader.proofs.names.function_of.Goals as goal

pub returns-in_err-place : goal.returns-in_err-place
returns-in_err-place c =
    let place = λ (xs : List Function). position (λ (x : Function). bytes_eq (name_of_function x) c.args.word.now) xs in
    let id = λ (o : Option ℕ). option_map (λ (n : ℕ). let x : FunId = record { 0 = n } in x) o in
    let none : c.from_residual.result ≡ None = search rules in
    none ∙ sym (ap id (ap place (sym c.as_slice.ensures.value) ∙ sym c.function_place.ensures.value ∙ c.in_err-place.was))

pub returns : goal.returns
returns c =
    let place = λ (xs : List Function). position (λ (x : Function). bytes_eq (name_of_function x) c.args.word.now) xs in
    let id = λ (o : Option ℕ). option_map (λ (n : ℕ). let x : FunId = record { 0 = n } in x) o in
    sym (ap id (ap place (sym c.as_slice.ensures.value) ∙ sym c.function_place.ensures.value ∙ c.in_ok-place.was))
