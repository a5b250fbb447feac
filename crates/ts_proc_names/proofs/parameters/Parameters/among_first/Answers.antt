use Rattle.std.proofs.Common.{◌∙◌, map}
use Rattle.ts_proc_names.proofs.PlaceLemmas.{among_names}
use Rattle.ts_proc_names.proofs.parameters.Parameters.among_first.Goals as goal

pub returns : goal.returns
returns c = c.below.ensures ∙ among_names (map (λ w. w.name) c.args.self.now.words.now) c.args.count c.args.name.now c.place.result c.place.ensures
