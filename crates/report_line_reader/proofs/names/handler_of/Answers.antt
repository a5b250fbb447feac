use Rattle.std.proofs.Common.{◌≡◌, ℕ, List, Option, None, sym, ◌∙◌, ap, rules}
use Rattle.std.specs.List.{position}
use Rattle.std.specs.Option.{option_map}
use Rattle.std.specs.Str.{bytes_eq}
use Rattle.mate_num.specs.declared.id.HandlerId.{HandlerId}
use Rattle.vm_shape.specs.declared.handler.Handler.{Handler}
use Rattle.report_line_reader.specs.Names.{name_of_handler}
use Rattle.report_line_reader.proofs.names.handler_of.Goals as goal

pub returns-in_err-place : goal.returns-in_err-place
returns-in_err-place c =
    let place = λ (xs : List Handler). position (λ (x : Handler). bytes_eq (name_of_handler x) c.args.word.now) xs in
    let id = λ (o : Option ℕ). option_map (λ (n : ℕ). let x : HandlerId = record { 0 = n } in x) o in
    let none : c.from_residual.result ≡ None = search rules in
    none ∙ sym (ap id (ap place (sym c.as_slice.ensures.value) ∙ sym c.handler_place.ensures.value ∙ c.in_err-place.was))

pub returns : goal.returns
returns c =
    let place = λ (xs : List Handler). position (λ (x : Handler). bytes_eq (name_of_handler x) c.args.word.now) xs in
    let id = λ (o : Option ℕ). option_map (λ (n : ℕ). let x : HandlerId = record { 0 = n } in x) o in
    sym (ap id (ap place (sym c.as_slice.ensures.value) ∙ sym c.handler_place.ensures.value ∙ c.in_ok-place.was))
