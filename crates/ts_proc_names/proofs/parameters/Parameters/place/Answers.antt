use Rattle.std.proofs.Common.{◌∙◌, sym}
use Rattle.std.specs.Prelude.{bytes_eq}
use Rattle.std.proofs.lemmas.Iterator.Adapters.{position_from-zero}
use Rattle.ts_proc_names.proofs.PlaceLemmas.{position_from-map}
use Rattle.ts_proc_names.proofs.parameters.Parameters.place.Goals as goal

pub returns-in-None : goal.returns-in-None
returns-in-None c =
    c.first_named.ensures ∙ position_from-zero (λ w. bytes_eq c.args.name.now w.name) c.args.self.now.words.now
    ∙ sym (position_from-map (bytes_eq c.args.name.now) 0 c.args.self.now.words.now)
