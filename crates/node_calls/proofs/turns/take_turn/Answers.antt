-- The instructions, what they end with, and the starts after an end.
use Rattle.std.proofs.Common.{inl, refl, ◌∙◌, ap}
use Rattle.mate_journal.specs.OpenLog.{OpenView}
use Rattle.mate_num.specs.declared.call.End.TheVariants as end
use Rattle.mate_journal.specs.declared.entry.Entry.TheVariants as entry
use Rattle.node_state.proofs.EntryLemmas.{IsClosing-halt, IsClosing-fault}
use Rattle.node_calls.proofs.RunningLemmas.{RunsTo-at}
use Rattle.node_calls.proofs.ActLemmas.{TakesTurn-short}
use Rattle.node_calls.proofs.ActedLemmas.{room-tell, ready-seated, stopped-holds, stopped-silent, TakesTurn-ask, IsStarting-end, room-end, timely-end, TakesTurn-end}
use Rattle.node_calls.proofs.turns.take_turn.Goals as goal

pub tell-requires-clause-room : goal.tell-requires-clause-room
tell-requires-clause-room c =
    let q = c.requires in
    room-tell c.args.description.now c.args.parts.now c.run_some-instructions.new.parts c.args.ctx c.args.n c.run_some-instructions.result.instructions _ (RunsTo-at c.args.description.now c.args.parts.now c.run_some-instructions.new.parts c.args.ctx c.args.n c.run_some-instructions.result _ c.in-Ask.is c.run_some-instructions.ensures.runs) q.room

pub tell-requires-in-Halt-clause-room : goal.tell-requires-in-Halt-clause-room
tell-requires-in-Halt-clause-room c =
    let q = c.requires in
    room-tell c.args.description.now c.args.parts.now c.run_some-instructions.new.parts c.args.ctx c.args.n c.run_some-instructions.result.instructions _ (RunsTo-at c.args.description.now c.args.parts.now c.run_some-instructions.new.parts c.args.ctx c.args.n c.run_some-instructions.result _ c.in-Halt.is c.run_some-instructions.ensures.runs) q.room

pub tell-requires-in-Fault-clause-room : goal.tell-requires-in-Fault-clause-room
tell-requires-in-Fault-clause-room c =
    let q = c.requires in
    room-tell c.args.description.now c.args.parts.now c.run_some-instructions.new.parts c.args.ctx c.args.n c.run_some-instructions.result.instructions _ (RunsTo-at c.args.description.now c.args.parts.now c.run_some-instructions.new.parts c.args.ctx c.args.n c.run_some-instructions.result _ c.in-Fault.is c.run_some-instructions.ensures.runs) q.room

pub start_all-requires-clause-starting : goal.start_all-requires-clause-starting
start_all-requires-clause-starting c =
    let q = c.requires in
    IsStarting-end c.args.description.now c.args.parts.now c.run_some-instructions.new.parts c.args.ctx c.args.n c.run_some-instructions.result.instructions q.rests q.small q.ready c.args.at q.timely _ (RunsTo-at c.args.description.now c.args.parts.now c.run_some-instructions.new.parts c.args.ctx c.args.n c.run_some-instructions.result _ c.in-Halt.is c.run_some-instructions.ensures.runs) c.number-inv.result c.number-inv.ensures c.finish.new.self c.tell-in-Halt.new.log c.tell-in-Halt.ensures.spare
    end.Halt (λ j. entry.Halt j) tt IsClosing-halt (λ l j. refl) (λ j. record { image = refl; store = refl; in_range = tt }) (λ j. refl) c.finish.ensures c.tell-in-Halt.ensures.pushed

pub start_all-requires-clause-timely : goal.start_all-requires-clause-timely
start_all-requires-clause-timely c =
    let q = c.requires in
    timely-end c.args.description.now c.args.parts.now c.run_some-instructions.new.parts c.args.ctx c.args.n c.run_some-instructions.result.instructions q.rests q.small q.ready c.args.at q.timely _ (RunsTo-at c.args.description.now c.args.parts.now c.run_some-instructions.new.parts c.args.ctx c.args.n c.run_some-instructions.result _ c.in-Halt.is c.run_some-instructions.ensures.runs) c.number-inv.result c.number-inv.ensures c.finish.new.self c.tell-in-Halt.new.log c.tell-in-Halt.ensures.spare
    end.Halt (λ j. entry.Halt j) tt IsClosing-halt (λ l j. refl) (λ j. record { image = refl; store = refl; in_range = tt }) (λ j. refl) c.finish.ensures c.tell-in-Halt.ensures.pushed

pub start_all-requires-clause-room : goal.start_all-requires-clause-room
start_all-requires-clause-room c =
    let q = c.requires in
    inl (room-end c.args.description.now c.args.parts.now c.run_some-instructions.new.parts c.args.ctx c.args.n c.run_some-instructions.result.instructions q.rests q.small q.ready c.args.at q.timely _ (RunsTo-at c.args.description.now c.args.parts.now c.run_some-instructions.new.parts c.args.ctx c.args.n c.run_some-instructions.result _ c.in-Halt.is c.run_some-instructions.ensures.runs) c.number-inv.result c.number-inv.ensures c.finish.new.self c.tell-in-Halt.new.log c.tell-in-Halt.ensures.spare
    end.Halt (λ j. entry.Halt j) tt IsClosing-halt (λ l j. refl) (λ j. record { image = refl; store = refl; in_range = tt }) (λ j. refl) c.finish.ensures c.tell-in-Halt.ensures.pushed q.room)

pub start_all-requires-in-Fault-clause-starting : goal.start_all-requires-in-Fault-clause-starting
start_all-requires-in-Fault-clause-starting c =
    let q = c.requires in let k = c.in-Fault.kind in
    IsStarting-end c.args.description.now c.args.parts.now c.run_some-instructions.new.parts c.args.ctx c.args.n c.run_some-instructions.result.instructions q.rests q.small q.ready c.args.at q.timely _ (RunsTo-at c.args.description.now c.args.parts.now c.run_some-instructions.new.parts c.args.ctx c.args.n c.run_some-instructions.result _ c.in-Fault.is c.run_some-instructions.ensures.runs) c.number-inv.result c.number-inv.ensures c.finish-in-Fault.new.self c.tell-in-Fault.new.log c.tell-in-Fault.ensures.spare
    (end.Fault k) (λ j. entry.Fault j k) tt (IsClosing-fault k) (λ l j. refl) (λ j. record { image = refl; store = refl; in_range = tt }) (λ j. refl) c.finish-in-Fault.ensures c.tell-in-Fault.ensures.pushed

pub start_all-requires-in-Fault-clause-timely : goal.start_all-requires-in-Fault-clause-timely
start_all-requires-in-Fault-clause-timely c =
    let q = c.requires in let k = c.in-Fault.kind in
    timely-end c.args.description.now c.args.parts.now c.run_some-instructions.new.parts c.args.ctx c.args.n c.run_some-instructions.result.instructions q.rests q.small q.ready c.args.at q.timely _ (RunsTo-at c.args.description.now c.args.parts.now c.run_some-instructions.new.parts c.args.ctx c.args.n c.run_some-instructions.result _ c.in-Fault.is c.run_some-instructions.ensures.runs) c.number-inv.result c.number-inv.ensures c.finish-in-Fault.new.self c.tell-in-Fault.new.log c.tell-in-Fault.ensures.spare
    (end.Fault k) (λ j. entry.Fault j k) tt (IsClosing-fault k) (λ l j. refl) (λ j. record { image = refl; store = refl; in_range = tt }) (λ j. refl) c.finish-in-Fault.ensures c.tell-in-Fault.ensures.pushed

pub start_all-requires-in-Fault-clause-room : goal.start_all-requires-in-Fault-clause-room
start_all-requires-in-Fault-clause-room c =
    let q = c.requires in let k = c.in-Fault.kind in
    inl (room-end c.args.description.now c.args.parts.now c.run_some-instructions.new.parts c.args.ctx c.args.n c.run_some-instructions.result.instructions q.rests q.small q.ready c.args.at q.timely _ (RunsTo-at c.args.description.now c.args.parts.now c.run_some-instructions.new.parts c.args.ctx c.args.n c.run_some-instructions.result _ c.in-Fault.is c.run_some-instructions.ensures.runs) c.number-inv.result c.number-inv.ensures c.finish-in-Fault.new.self c.tell-in-Fault.new.log c.tell-in-Fault.ensures.spare
    (end.Fault k) (λ j. entry.Fault j k) tt (IsClosing-fault k) (λ l j. refl) (λ j. record { image = refl; store = refl; in_range = tt }) (λ j. refl) c.finish-in-Fault.ensures c.tell-in-Fault.ensures.pushed q.room)

pub returns-in-Next-clause-turn : goal.returns-in-Next-clause-turn
returns-in-Next-clause-turn c =
    let q = c.requires in
    TakesTurn-short c.args.description.now c.args.parts.now c.run_some-instructions.new.parts c.args.ctx c.args.n q.rests q.small q.ready (RunsTo-at c.args.description.now c.args.parts.now c.run_some-instructions.new.parts c.args.ctx c.args.n c.run_some-instructions.result _ c.in-Next.is c.run_some-instructions.ensures.runs).1 c.args.at c.run_some-instructions.result.instructions (RunsTo-at c.args.description.now c.args.parts.now c.run_some-instructions.new.parts c.args.ctx c.args.n c.run_some-instructions.result _ c.in-Next.is c.run_some-instructions.ensures.runs).0 q.timely q.some

pub returns-in-Ask-clause-turn : goal.returns-in-Ask-clause-turn
returns-in-Ask-clause-turn c =
    let q = c.requires in
    TakesTurn-ask c.args.description.now c.args.parts.now c.run_some-instructions.new.parts c.args.ctx c.args.n c.run_some-instructions.result.instructions q.rests q.small q.ready c.args.at q.timely _ (RunsTo-at c.args.description.now c.args.parts.now c.run_some-instructions.new.parts c.args.ctx c.args.n c.run_some-instructions.result _ c.in-Ask.is c.run_some-instructions.ensures.runs) c.number-inv.result c.number-inv.ensures c.ask.new.self c.tell.new.log c.tell.ensures.spare
    c.in-Ask.fun c.in-Ask.args c.copy_of-told.result refl c.copy_of-told.ensures c.ask.ensures c.tell.ensures.pushed

pub returns-in-Halt-clause-turn : goal.returns-in-Halt-clause-turn
returns-in-Halt-clause-turn c =
    let q = c.requires in
    TakesTurn-end c.args.description.now c.args.parts.now c.run_some-instructions.new.parts c.args.ctx c.args.n c.run_some-instructions.result.instructions q.rests q.small q.ready c.args.at q.timely _ (RunsTo-at c.args.description.now c.args.parts.now c.run_some-instructions.new.parts c.args.ctx c.args.n c.run_some-instructions.result _ c.in-Halt.is c.run_some-instructions.ensures.runs) c.number-inv.result c.number-inv.ensures c.finish.new.self c.tell-in-Halt.new.log c.tell-in-Halt.ensures.spare
    end.Halt (λ j. entry.Halt j) tt IsClosing-halt (λ l j. refl) (λ j. record { image = refl; store = refl; in_range = tt }) (λ j. refl) c.finish.ensures c.tell-in-Halt.ensures.pushed c.start_all.new.parts c.start_all.ensures.starts

pub returns-in-Fault-clause-turn : goal.returns-in-Fault-clause-turn
returns-in-Fault-clause-turn c =
    let q = c.requires in let k = c.in-Fault.kind in
    TakesTurn-end c.args.description.now c.args.parts.now c.run_some-instructions.new.parts c.args.ctx c.args.n c.run_some-instructions.result.instructions q.rests q.small q.ready c.args.at q.timely _ (RunsTo-at c.args.description.now c.args.parts.now c.run_some-instructions.new.parts c.args.ctx c.args.n c.run_some-instructions.result _ c.in-Fault.is c.run_some-instructions.ensures.runs) c.number-inv.result c.number-inv.ensures c.finish-in-Fault.new.self c.tell-in-Fault.new.log c.tell-in-Fault.ensures.spare
    (end.Fault k) (λ j. entry.Fault j k) tt (IsClosing-fault k) (λ l j. refl) (λ j. record { image = refl; store = refl; in_range = tt }) (λ j. refl) c.finish-in-Fault.ensures c.tell-in-Fault.ensures.pushed c.start_all-in-Fault.new.parts c.start_all-in-Fault.ensures.starts

pub number-inv-requires-clause-small : goal.number-inv-requires-clause-small
number-inv-requires-clause-small c = c.requires.small

pub number-inv-requires-clause-taken : goal.number-inv-requires-clause-taken
number-inv-requires-clause-taken c = ready-seated c.args.description.now c.args.parts.now c.args.ctx c.requires.rests c.requires.ready

pub run_some-instructions-requires-clause-order : goal.run_some-instructions-requires-clause-order
run_some-instructions-requires-clause-order c = c.requires.rests.order

pub run_some-instructions-requires-clause-small : goal.run_some-instructions-requires-clause-small
run_some-instructions-requires-clause-small c = c.requires.small

pub run_some-instructions-requires-clause-ready : goal.run_some-instructions-requires-clause-ready
run_some-instructions-requires-clause-ready c = c.requires.ready

pub ask-requires-clause-context : goal.ask-requires-clause-context
ask-requires-clause-context c = c.requires.small

pub ask-requires-clause-free : goal.ask-requires-clause-free
ask-requires-clause-free c =
    stopped-silent c.args.description.now c.args.parts.now c.args.ctx c.requires.rests c.requires.ready c.run_some-instructions.new.parts c.args.n c.run_some-instructions.result.instructions _ (RunsTo-at c.args.description.now c.args.parts.now c.run_some-instructions.new.parts c.args.ctx c.args.n c.run_some-instructions.result _ c.in-Ask.is c.run_some-instructions.ensures.runs)

pub finish-requires-clause-context : goal.finish-requires-clause-context
finish-requires-clause-context c = c.requires.small

pub finish-requires-clause-started : goal.finish-requires-clause-started
finish-requires-clause-started c =
    stopped-holds c.args.description.now c.args.parts.now c.args.ctx c.requires.rests c.requires.ready c.run_some-instructions.new.parts c.args.n c.run_some-instructions.result.instructions _ (RunsTo-at c.args.description.now c.args.parts.now c.run_some-instructions.new.parts c.args.ctx c.args.n c.run_some-instructions.result _ c.in-Halt.is c.run_some-instructions.ensures.runs)

pub finish-requires-in-Fault-clause-context : goal.finish-requires-in-Fault-clause-context
finish-requires-in-Fault-clause-context c = c.requires.small

pub finish-requires-in-Fault-clause-started : goal.finish-requires-in-Fault-clause-started
finish-requires-in-Fault-clause-started c =
    stopped-holds c.args.description.now c.args.parts.now c.args.ctx c.requires.rests c.requires.ready c.run_some-instructions.new.parts c.args.n c.run_some-instructions.result.instructions _ (RunsTo-at c.args.description.now c.args.parts.now c.run_some-instructions.new.parts c.args.ctx c.args.n c.run_some-instructions.result _ c.in-Fault.is c.run_some-instructions.ensures.runs)

pub returns-in-Next-clause-gone : goal.returns-in-Next-clause-gone
returns-in-Next-clause-gone c = ap (λ (v : OpenView). v.gone) c.run_some-instructions.ensures.log

pub returns-in-Ask-clause-gone : goal.returns-in-Ask-clause-gone
returns-in-Ask-clause-gone c = c.tell.ensures.gone ∙ ap (λ (v : OpenView). v.gone) c.run_some-instructions.ensures.log

pub returns-in-Halt-clause-gone : goal.returns-in-Halt-clause-gone
returns-in-Halt-clause-gone c = c.start_all.ensures.gone ∙ c.tell-in-Halt.ensures.gone ∙ ap (λ (v : OpenView). v.gone) c.run_some-instructions.ensures.log

pub returns-in-Fault-clause-gone : goal.returns-in-Fault-clause-gone
returns-in-Fault-clause-gone c = c.start_all-in-Fault.ensures.gone ∙ c.tell-in-Fault.ensures.gone ∙ ap (λ (v : OpenView). v.gone) c.run_some-instructions.ensures.log

pub returns-in-Halt-clause-handlers : goal.returns-in-Halt-clause-handlers
returns-in-Halt-clause-handlers c = c.start_all.ensures.starts.some.handlers ∙ c.run_some-instructions.ensures.handlers

pub returns-in-Fault-clause-handlers : goal.returns-in-Fault-clause-handlers
returns-in-Fault-clause-handlers c = c.start_all-in-Fault.ensures.starts.some.handlers ∙ c.run_some-instructions.ensures.handlers
