use Rattle.std.proofs.Common.{◌≡◌, true, ap, ap₂, ◌∙◌}
use Rattle.std.proofs.lemmas.Result.{IfOk-weaker}
use Rattle.clap.specs.Simple.{app_of_fields}
use Rattle.clap.specs.Words.{App, app_of, with_rule}
use Rattle.command_line.specs.Words.{bare_app}
use Rattle.command_line.proofs.words.flags.Goals as goal

pub returns : goal.returns
returns c =
    let bare : app_of c.no_binary_name.result ≡ bare_app = ap app_of_fields c.no_binary_name.ensures ∙ ap (λ (a : App). record { top = record (a.top) { no_binary_name = true }; subs = a.subs }) c.new.ensures.app in
    let brief = c.in_ok-arg.ensures.shape c.flag.ensures.local ∙ ap₂ with_rule bare c.flag.ensures.rule in
    IfOk-weaker c.arg-2.result _ _ (λ r h. h.shape c.flag-2.ensures.local ∙ ap₂ with_rule brief c.flag-2.ensures.rule) c.arg-2.ensures
