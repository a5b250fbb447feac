use Rattle.world_laws.proofs.Given.{events_give_theirs, journals_tell_what_came, posts_have_their_payload}
use Rattle.world_laws.proofs.events.events_tell_theirs.Goals as goal

pub returns : goal.returns
returns c = record {
  events = λ w. events_give_theirs w;
  journals = λ w. journals_tell_what_came w;
  payloads = λ w. posts_have_their_payload w;
}
