use Rattle.std.proofs.Common.{◌≡◌, ◌<◌, length, arith}
use Rattle.std.proofs.lemmas.List.{length_push}
use Rattle.std.proofs.lemmas.Iterator.Consumers.{YieldsList-end, YieldsList-turn}
use Rattle.std.proofs.lemmas.Iterator.Adapters.{YieldsList-from_vec}
use Rattle.world_runs.proofs.RecordLemmas.{put-low, put-next, put-all}
use Rattle.world_runs.proofs.record.put_in.Goals as goal

pub loop-log-preserved : goal.loop-log-preserved
loop-log-preserved c =
    let from = YieldsList-from_vec {s = c.into_iter-log-iterator.result} c.args.logs.items (cc) (cc) in
    let turn = YieldsList-turn from c.loop-log.yielded c.loop-log.log-iterator c.loop-log.yielded_by c.next.result c.next.new.self c.in-Some.log c.in-Some.is c.next.ensures.steps in
    let early : length c.loop-log.yielded < length c.args.logs.items = turn.0 in
    let was : c.loop-log.node ≡ length c.loop-log.yielded = c.loop-log.invariant.number in
    let count : length c.args.places ≡ length c.args.logs.items = c.requires.count in
    record {
      next = tt;
      finite = tt;
      number = let long = length_push c.loop-log.yielded c.in-Some.log in omega (arith, long, was);
      put = put-next c.loop-log.yielded c.args.places c.loop-log.places c.put.new.self c.loop-log.node c.in-Some.log was (omega (arith, early, was, count)) c.loop-log.invariant.put c.put.ensures;
    }

pub put-requires : goal.put-requires
put-requires c =
    let from = YieldsList-from_vec {s = c.into_iter-log-iterator.result} c.args.logs.items (cc) (cc) in
    let turn = YieldsList-turn from c.loop-log.yielded c.loop-log.log-iterator c.loop-log.yielded_by c.next.result c.next.new.self c.in-Some.log c.in-Some.is c.next.ensures.steps in
    let early : length c.loop-log.yielded < length c.args.logs.items = turn.0 in
    let was : c.loop-log.node ≡ length c.loop-log.yielded = c.loop-log.invariant.number in
    let count : length c.args.places ≡ length c.args.logs.items = c.requires.count in
    put-low c.loop-log.yielded c.args.places c.loop-log.places c.loop-log.node was (omega (arith, early, was, count)) c.loop-log.invariant.put

pub returns : goal.returns
returns c =
    let from = YieldsList-from_vec {s = c.into_iter-log-iterator.result} c.args.logs.items (cc) (cc) in
    let done = YieldsList-end from c.loop-log.yielded c.loop-log.log-iterator c.loop-log.yielded_by c.next.result c.next.new.self c.in-None.is c.next.ensures.steps in
    put-all c.loop-log.yielded c.args.places c.loop-log.places c.args.logs.items done.0 c.requires.count c.loop-log.invariant.put
