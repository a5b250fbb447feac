use Rattle.std.proofs.Common.{ap, sym, [], ◌∷◌, ◌++◌}
use Rattle.ts_trees.specs.Spelling.{decl_start, name}
use Rattle.ts_syntax.specs.Print.{closing}
use Rattle.ts_syntax.proofs.PrintLemmas.{◌⋙◌, tokens_by}
use Rattle.ts_syntax.proofs.printer.Printer.decl.Goals as goal

pub returns : goal.returns
returns g c =
    let d = c.args.decl.now in
    tokens_by (ap (λ b. closing b ++ (decl_start d.first d.kind ∷ name d.word ∷ [])) (sym c.ends.ensures)) (c.close.ensures ⋙ (c.token.ensures (decl_start d.first d.kind) c.start_text.ensures ⋙ c.name.ensures))
