use Rattle.std.proofs.Common.{◌≡◌, List, ℕ, Some, codes}
use Rattle.std.specs.Prelude.{slice_get}
use Rattle.callers_worlds.proofs.MadeLemmas.{of_sources, second_source}
use Rattle.callers_worlds.proofs.made.a_second_source_has_version_2.Goals as goal

pub returns : goal.returns
returns c = of_sources c.generate.result _ (λ (sources : List (List ℕ)). slice_get sources 1 ≡ Some (codes "shared a; a = a + 2;"))
    (second_source c.args.desc.now c.requires.handlers c.requires.shared c.requires.functions) c.generate.ensures.sources
