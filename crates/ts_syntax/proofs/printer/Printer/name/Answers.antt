use Rattle.std.proofs.Common.{refl}
use Rattle.ts_trees.specs.declared.token.TokenKind.TheVariants as kind
use Rattle.ts_syntax.proofs.PrintLemmas.{one_token}
use Rattle.ts_syntax.proofs.printer.Printer.name.Goals as goal

pub returns : goal.returns
returns g c = one_token (kind.Name c.args.word.now.name) c.gap.ensures c.as_bytes.ensures.value refl c.text.ensures c.bytes.ensures
