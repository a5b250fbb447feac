use Rattle.std.proofs.Common.{◌∙◌}
use Rattle.ts_proc_names.proofs.PlaceLemmas.{among_names}
use Rattle.ts_proc_names.proofs.name_table.NameTable.among_first.Goals as goal

pub returns : goal.returns
returns c = λ names h. c.below.ensures ∙ among_names names c.args.count c.args.name.now c.get.result (c.get.ensures ∙ h c.args.name.now)
