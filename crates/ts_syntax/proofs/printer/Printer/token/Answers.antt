use Rattle.std.proofs.Common.{◌∙◌, refl}
use Rattle.ts_trees.specs.Text.{token_text}
use Rattle.ts_syntax.proofs.PrintLemmas.{one_piece}
use Rattle.ts_syntax.proofs.printer.Printer.token.Goals as goal

pub returns : goal.returns
returns g c = λ k e. one_piece k (c.with_gap.ensures (token_text k) (c.as_bytes.ensures.value ∙ e)) refl c.bytes.ensures
