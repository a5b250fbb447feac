use Rattle.std.proofs.Common.{◌≡◌, List, [], Result, Ok, Err, Bor, refl, sym, ap, ◌∙◌}
use Rattle.std.specs.Prelude.{IfErr}
use Rattle.ts_trees.specs.declared.stmt.Stmt.{Stmt}
use Rattle.ts_trees.specs.declared.token.Token.{Token}
use Rattle.ts_trees.specs.declared.word.Word.{Word}
use Rattle.ts_trees.specs.Spelling.{kinds}
use Rattle.ts_trees.specs.Tree.{no_acts}
use Rattle.ts_trees.specs.Machine.{top, stmt_named}
use Rattle.ts_trees.specs.Parsing.{reads}
use Rattle.ts_trees.specs.declared.halt.Halt.{Halt}
use Rattle.ts_trees.specs.declared.halt.Halt.TheVariants as halt
use Rattle.ts_statements.specs.Simple.{ReadsStmt}
use Rattle.callers_language.specs.GrammarSources.{taking}
use Rattle.callers_language.proofs.statements.a_buffers_last_value_may_be_taken.Goals as goal

never : (w : Word) (tokens rest : List Token) → tokens ≡ taking → reads tokens (stmt_named w no_acts (top [])) ≡ Err (kinds rest) → ⊥
never w tokens rest are stops =
    let e : reads taking (stmt_named w no_acts (top [])) ≡ Err (kinds rest) = ap (λ (ts : List Token). reads ts (stmt_named w no_acts (top []))) (sym are) ∙ stops in
    cc

only_memory : (w : Word) (tokens : List Token) (result : Result (Stmt × Bor (List Token)) Halt) → tokens ≡ taking → ReadsStmt tokens (stmt_named w) result → IfErr result (λ why. why ≡ halt.Memory)
only_memory w tokens (Ok read) are reads_it = tt
only_memory w tokens (Err halt.Memory) are reads_it = refl
only_memory w tokens (Err (halt.At rest)) are reads_it = absurd (never w tokens rest.now are (reads_it (no_acts, top [])))

pub returns : goal.returns
returns c = only_memory c.args.word c.args.tokens.now c.behind_name.result c.requires c.behind_name.ensures.reads
