-- The image is told, and all is cleared.
use Rattle.std.proofs.Common.{length, ap, arith}
use Rattle.journal_laws.proofs.TidyLemmas.{images-few}
use Rattle.node_state.specs.declared.parts.Parts.{Parts}
use Rattle.node_calls.proofs.InstallLemmas.{RestsAgain-begun, arrived-some}
use Rattle.node_calls.proofs.installing.begin_era.Goals as goal

pub unreachable-requires : goal.unreachable-requires
unreachable-requires c = arrived-some c.args.description.now c.args.handler c.args.at c.args.parts.now c.requires c.in_default.ensures

pub push_install-requires-clause-room : goal.push_install-requires-clause-room
push_install-requires-clause-room c =
    let a = c.requires in
    let log_is = ap (λ (s : Parts). s.log.all.spare) a.has_come in
    let room = a.room in
    omega (arith, log_is, room)

pub push_install-requires-clause-count : goal.push_install-requires-clause-count
push_install-requires-clause-count c =
    let a = c.requires in
    let images = ap (λ (s : Parts). length s.log.all.images) a.has_come in
    let few = images-few a.before.log.all a.rests.order.keeps.tidy.numbered in
    let entries = a.few in
    omega (arith, images, few, entries)

pub returns-clause-again : goal.returns-clause-again
returns-clause-again c = λ a.
    RestsAgain-begun c.args.description.now c.args.handler c.args.at c.args.parts.now a c.in-Some.held.now c.push_install.new.self c.clear.new.parts c.in-Some.ensures
    (record { entries = c.push_install.ensures.entries; images = c.push_install.ensures.images; stores = c.push_install.ensures.stores }) c.push_install.ensures.spare c.clear.ensures

pub returns-clause-room : goal.returns-clause-room
returns-clause-room c = ap (λ (s : Parts). s.handlers.room) c.clear.ensures.same
