use Rattle.capsule_codec.proofs.PieceLemmas.{pieces_whole, pieces_cut, pieces_one, pieces_short, pieces_long}
use Rattle.capsule_codec.proofs.laws.pieces_make_the_image.Goals as goal

pub returns-clause-whole : goal.returns-clause-whole
returns-clause-whole c = pieces_whole

pub returns-clause-cut : goal.returns-clause-cut
returns-clause-cut c = pieces_cut

pub returns-clause-one : goal.returns-clause-one
returns-clause-one c = pieces_one

pub returns-clause-short : goal.returns-clause-short
returns-clause-short c = pieces_short

pub returns-clause-long : goal.returns-clause-long
returns-clause-long c = pieces_long
