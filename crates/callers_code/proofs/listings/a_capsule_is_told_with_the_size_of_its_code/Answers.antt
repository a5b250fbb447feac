use Rattle.callers_code.proofs.ListingLemmas.{text_of_push}
use Rattle.callers_code.proofs.listings.a_capsule_is_told_with_the_size_of_its_code.Goals as goal

pub returns : goal.returns
returns g c = rw (← text_of_push c.args.desc.now _ c.args.code.now.code c.requires.parts c.requires.capsule c.requires.code) c.print_capsule.ensures
