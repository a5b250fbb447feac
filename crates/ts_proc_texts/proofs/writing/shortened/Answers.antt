use Rattle.ts_trees.specs.Spelling.{source_spelled}
use Rattle.ts_trees.specs.Text.{text_of}
use Rattle.ts_proc_expansion.specs.Expansion.{expansion}
use Rattle.ts_proc_names.specs.Named.{written_of}
use Rattle.ts_proc_texts.proofs.TextLemmas.{nothing_put}
use Rattle.ts_proc_texts.proofs.writing.shortened.Goals as goal

pub returns-in_default : goal.returns-in_default
returns-in_default g c = nothing_put (text_of (source_spelled (expansion (written_of c.args.script.now))))

pub returns-in_default-of : goal.returns-in_default-of
returns-in_default-of g c = nothing_put (text_of (source_spelled (expansion (written_of c.args.script.now))))
