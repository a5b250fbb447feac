use Rattle.std.proofs.Common.{ap, ◌∙◌, arith}
use Rattle.std.proofs.lemmas.Grind.{common_steps}
use Rattle.capsule_codec.specs.Image.{parts_in_place}
use Rattle.capsule_codec.specs.Reading.{capsule_in}
use Rattle.capsule_codec.proofs.ImageLemmas.{capsule_again}
use Rattle.capsule_codec.proofs.encoding.encode_in_place.Goals as goal

pub returns-clause-fits : goal.returns-clause-fits
returns-clause-fits c = record {
  vm_id = omega arith;
  handler = c.put-2.ensures.fits 1;
  version_low = omega arith;
  version_high = omega arith;
  code_low = omega arith;
  code_high = omega arith;
  code = c.put-6.ensures.fits;
}

pub returns-clause-bytes : goal.returns-clause-bytes
returns-clause-bytes c = grind (arith, common_steps)

pub returns-clause-again : goal.returns-clause-again
returns-clause-again c = λ d right. ap (capsule_in d) (returns-clause-bytes c) ∙ capsule_again d (parts_in_place c.args.capsule.now) (returns-clause-fits c) right
