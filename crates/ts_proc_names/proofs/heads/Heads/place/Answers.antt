use Rattle.std.proofs.Common.{map}
use Rattle.ts_proc_names.proofs.PlaceLemmas.{place_of_name-below, place_of_name-within_map}
use Rattle.ts_proc_names.proofs.heads.Heads.place.Goals as goal

pub returns-clause-below : goal.returns-clause-below
returns-clause-below c =
    place_of_name-below (map (λ p. p.name.name) c.args.self.now.procs.now) c.args.count c.args.name.now c.among_first.result
    (c.among_first.ensures (map (λ p. p.name.name) c.args.self.now.procs.now) c.args.self.now.tabulated)

pub returns-clause-within : goal.returns-clause-within
returns-clause-within c =
    place_of_name-within_map (λ p. p.name.name) c.args.self.now.procs.now c.args.count c.args.name.now c.among_first.result
    (c.among_first.ensures (map (λ p. p.name.name) c.args.self.now.procs.now) c.args.self.now.tabulated)
