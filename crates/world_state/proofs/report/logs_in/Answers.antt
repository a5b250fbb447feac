use Rattle.std.proofs.Common.{◌≡◌, ◌<◌, ◌≤◌, List, length, sym, subst, arith, All}
use Rattle.std.proofs.lemmas.List.{length_push}
use Rattle.std.proofs.lemmas.Iterator.Consumers.{YieldsList-end, YieldsList-turn}
use Rattle.std.proofs.lemmas.Iterator.Adapters.{YieldsList-from_vec}
use Rattle.mate_num.specs.declared.bounds.TheConstants.{NODES_MAX}
use Rattle.mate_journal.specs.Log.{Log}
use Rattle.mate_journal.specs.OpenLog.{nothing_gone}
use Rattle.node_state.specs.Meaning.{machine_in}
use Rattle.node_open.specs.Journal.{KeepsJournal}
use Rattle.world_state.specs.declared.mote.Mote.{Mote}
use Rattle.world_state.specs.Reporting.{mote_logs, AreOfMachine}
use Rattle.world_state.proofs.ReportLemmas.{put-low, put-next, logs-all, all-of, keeps-more}
use Rattle.world_state.proofs.report.logs_in.Goals as goal

pub loop-mote-preserved : goal.loop-mote-preserved
loop-mote-preserved c =
    let from = YieldsList-from_vec {s = c.into_iter-mote-iterator.result} c.args.motes.items (cc) (cc) in
    let turn = YieldsList-turn from c.loop-mote.yielded c.loop-mote.mote-iterator c.loop-mote.yielded_by c.next.result c.next.new.self c.in-Some.mote c.in-Some.is c.next.ensures.steps in
    let early : length c.loop-mote.yielded < length c.args.motes.items = turn.0 in
    let was : c.loop-mote.number ≡ length c.loop-mote.yielded = c.loop-mote.invariant.number in
    let count : length c.args.logs ≡ length c.args.motes.items = c.requires.count in
    record {
      next = tt;
      finite = tt;
      number = let long = length_push c.loop-mote.yielded c.in-Some.mote in omega (arith, long, was);
      put =
          put-next c.loop-mote.yielded c.in-Some.mote c.args.logs c.loop-mote.logs c.put.new.self c.loop-mote.number c.into_log.result c.loop-mote.invariant.number (omega (arith, early, was, count)) c.into_log.ensures.same
          c.loop-mote.invariant.put c.put.ensures;
      keeps = λ d are. keeps-more d c.loop-mote.yielded c.in-Some.mote (c.loop-mote.invariant.keeps d) c.into_log.ensures.keeps are;
    }

pub returns-clause-keeps : goal.returns-clause-keeps
returns-clause-keeps c = λ d are.
    let from = YieldsList-from_vec {s = c.into_iter-mote-iterator.result} c.args.motes.items (cc) (cc) in
    let done = YieldsList-end from c.loop-mote.yielded c.loop-mote.mote-iterator c.loop-mote.yielded_by c.next.result c.next.new.self c.in-None.is c.next.ensures.steps in
    let all : c.loop-mote.yielded ≡ c.args.motes.items = all-of c.loop-mote.yielded c.args.motes.items done.0 in
    let is : c.loop-mote.logs ≡ mote_logs c.args.motes.items = logs-all c.loop-mote.yielded c.args.motes.items c.args.logs c.loop-mote.logs all c.requires.count c.loop-mote.invariant.put in
    subst (λ (ls : List Log). All (KeepsJournal d (machine_in d)) ls) (sym is)
    (subst (λ (ms : List Mote). AreOfMachine d ms → All (KeepsJournal d (machine_in d)) (mote_logs ms)) all (c.loop-mote.invariant.keeps d) are)

pub into_log-requires : goal.into_log-requires
into_log-requires c =
    let from = YieldsList-from_vec {s = c.into_iter-mote-iterator.result} c.args.motes.items (cc) (cc) in
    let turn = YieldsList-turn from c.loop-mote.yielded c.loop-mote.mote-iterator c.loop-mote.yielded_by c.next.result c.next.new.self c.in-Some.mote c.in-Some.is c.next.ensures.steps in
    subst (λ (m : Mote). m.node.gone ≡ nothing_gone) (sym turn.1) (c.requires.whole (length c.loop-mote.yielded) c.in-Some.mote turn.0)

pub returns-clause-is : goal.returns-clause-is
returns-clause-is c =
    let from = YieldsList-from_vec {s = c.into_iter-mote-iterator.result} c.args.motes.items (cc) (cc) in
    let done = YieldsList-end from c.loop-mote.yielded c.loop-mote.mote-iterator c.loop-mote.yielded_by c.next.result c.next.new.self c.in-None.is c.next.ensures.steps in
    let all : c.loop-mote.yielded ≡ c.args.motes.items = all-of c.loop-mote.yielded c.args.motes.items done.0 in
    logs-all c.loop-mote.yielded c.args.motes.items c.args.logs c.loop-mote.logs all c.requires.count c.loop-mote.invariant.put

pub put-requires : goal.put-requires
put-requires c =
    let from = YieldsList-from_vec {s = c.into_iter-mote-iterator.result} c.args.motes.items (cc) (cc) in
    let turn = YieldsList-turn from c.loop-mote.yielded c.loop-mote.mote-iterator c.loop-mote.yielded_by c.next.result c.next.new.self c.in-Some.mote c.in-Some.is c.next.ensures.steps in
    let early : length c.loop-mote.yielded < length c.args.motes.items = turn.0 in
    let was : c.loop-mote.number ≡ length c.loop-mote.yielded = c.loop-mote.invariant.number in
    let count : length c.args.logs ≡ length c.args.motes.items = c.requires.count in
    put-low c.loop-mote.yielded c.args.logs c.loop-mote.logs c.loop-mote.number was (omega (arith, early, was, count)) c.loop-mote.invariant.put

pub overflow_add-number : goal.overflow_add-number
overflow_add-number c =
    let from = YieldsList-from_vec {s = c.into_iter-mote-iterator.result} c.args.motes.items (cc) (cc) in
    let turn = YieldsList-turn from c.loop-mote.yielded c.loop-mote.mote-iterator c.loop-mote.yielded_by c.next.result c.next.new.self c.in-Some.mote c.in-Some.is c.next.ensures.steps in
    let early : length c.loop-mote.yielded < length c.args.motes.items = turn.0 in
    let was : c.loop-mote.number ≡ length c.loop-mote.yielded = c.loop-mote.invariant.number in
    let few : length c.args.motes.items ≤ NODES_MAX = c.requires.few in
    omega (arith, early, was, few)
