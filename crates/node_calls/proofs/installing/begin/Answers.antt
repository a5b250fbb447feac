-- The era begins, and a handler that runs once is posted.
use Rattle.std.proofs.Common.{◌∙◌, ap, sym, subst, refl, arith, Bool, ◌≡◌}
use Rattle.std.specs.Prelude.{MatchBool}
use Rattle.node_state.specs.Programs.{HeldPrograms}
use Rattle.node_state.specs.declared.parts.Parts.{Parts}
use Rattle.node_calls.specs.Arrivals.{IsPosted}
use Rattle.node_calls.proofs.EraLemmas.{told-one}
use Rattle.node_calls.proofs.installing.begin.Goals as goal

pub runs_once-requires : goal.runs_once-requires
runs_once-requires c = c.requires.handler

pub post_in-requires-clause-rests : goal.post_in-requires-clause-rests
post_in-requires-clause-rests c = (c.begin_era.ensures.again c.requires).rests

pub post_in-requires-clause-timely : goal.post_in-requires-clause-timely
post_in-requires-clause-timely c = (c.begin_era.ensures.again c.requires).adds.grows.timely

pub post_in-requires-clause-room : goal.post_in-requires-clause-room
post_in-requires-clause-room c =
    let a = c.requires in
    let begun = (c.begin_era.ensures.again a).adds in
    let one = told-one a.before.log.all c.begin_era.new.parts.log.all c.args.at begun.told _ begun.grows begun.made in
    let room = a.room in
    omega (arith, one.1, room)

pub post_in-requires-clause-few : goal.post_in-requires-clause-few
post_in-requires-clause-few c =
    let a = c.requires in
    let begun = (c.begin_era.ensures.again a).adds in
    let one = told-one a.before.log.all c.begin_era.new.parts.log.all c.args.at begun.told _ begun.grows begun.made in
    let few = a.few in
    omega (arith, one.0, few)

pub post_in-requires-clause-handler : goal.post_in-requires-clause-handler
post_in-requires-clause-handler c = c.requires.handler

pub returns-then-runs_once-clause-begins : goal.returns-then-runs_once-clause-begins
returns-then-runs_once-clause-begins c = λ a.
    let F : Bool → Type 0 = λ b. MatchBool b (IsPosted c.args.description.now c.begin_era.new.parts c.post_in.new.parts c.args.handler c.args.at) (c.post_in.new.parts ≡ c.begin_era.new.parts) in
    record {
      next = c.begin_era.new.parts;
      begun = c.begin_era.ensures.again a;
      follows = subst F c.if-runs_once.ensures (record { payload = c.new.result; empty = c.new.ensures; answer = c.post_in.result; again = c.post_in.ensures.again });
    }

pub returns-else-runs_once-clause-begins : goal.returns-else-runs_once-clause-begins
returns-else-runs_once-clause-begins c = λ a.
    let F : Bool → Type 0 = λ b. MatchBool b (IsPosted c.args.description.now c.begin_era.new.parts c.begin_era.new.parts c.args.handler c.args.at) (c.begin_era.new.parts ≡ c.begin_era.new.parts) in
    record { next = c.begin_era.new.parts; begun = c.begin_era.ensures.again a; follows = subst F c.if-runs_once.ensures refl }

pub returns-then-runs_once-clause-gone : goal.returns-then-runs_once-clause-gone
returns-then-runs_once-clause-gone c = c.post_in.ensures.gone ∙ c.begin_era.ensures.gone

pub returns-else-runs_once-clause-gone : goal.returns-else-runs_once-clause-gone
returns-else-runs_once-clause-gone c = c.begin_era.ensures.gone

pub returns-then-runs_once-clause-room : goal.returns-then-runs_once-clause-room
returns-then-runs_once-clause-room c = ap (λ (hs : HeldPrograms). hs.room) c.post_in.ensures.handlers ∙ c.begin_era.ensures.room

pub returns-else-runs_once-clause-room : goal.returns-else-runs_once-clause-room
returns-else-runs_once-clause-room c = c.begin_era.ensures.room
