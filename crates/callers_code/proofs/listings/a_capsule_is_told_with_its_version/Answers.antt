use Rattle.callers_code.proofs.ListingLemmas.{text_of_halt}
use Rattle.callers_code.proofs.listings.a_capsule_is_told_with_its_version.Goals as goal

pub returns : goal.returns
returns g c = rw (← text_of_halt c.args.desc.now _ c.args.code.now.code c.requires.parts c.requires.capsule c.requires.code) c.print_capsule.ensures
