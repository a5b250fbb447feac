use Rattle.mate_code.proofs.BoundLemmas.{effect-Fitting}
use Rattle.mate_code.proofs.BytesVerificationLemmas.{bytes-AreVerified}
use Rattle.mate_code.proofs.VerificationLemmas.{verified-IsSound}
use Rattle.mate_code.proofs.laws.is_sound_where_verified.Goals as goal

pub returns : goal.returns
returns c = record {
  of_bytes = bytes-AreVerified;
  sound = λ shape code marks v. verified-IsSound v;
  fits = λ shape code marks p i cell v fits found. effect-Fitting i p cell (verified-IsSound v) fits found;
}
