use Rattle.audit_rules.proofs.FollowingLemmas.{following-Decides}
use Rattle.audit_rules.proofs.finite.following_is_told.Goals as goal

pub returns : goal.returns
returns c = following-Decides
