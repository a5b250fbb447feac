use Rattle.std.proofs.Common.{sym, ◌∙◌, length}
use Rattle.std.proofs.lemmas.Result.{err_from_is_err_and}
use Rattle.vm_shape.specs.Limits.{is_function}
use Rattle.vm_desc.specs.Reading.{function_at}
use Rattle.vm_desc.proofs.Fronts.{front_none, front_next, each_fails, each_ends, table_at}
use Rattle.vm_desc.proofs.parts.each_function.Goals as goal

pub unreachable-requires : goal.unreachable-requires
unreachable-requires c =
    let none = sym (rw c.in_default.is at c.as_table.ensures) in
    table_at c.deref-item-items.result.now c.loop-item.item-index c.item-item.result (rw c.deref-item-items.ensures.value c.requires.tables)
    c.loop-item-test.true (sym c.item-item.is) none

pub loop-item-init : goal.loop-item-init
loop-item-init c = rw c.new-functions.ensures (front_none (function_at c.args.devices.now) (is_function (length c.args.devices.now)) c.deref-item-items.result.now)

pub loop-item-preserved : goal.loop-item-preserved
loop-item-preserved c =
    let found = sym (rw c.in-Some.is at c.as_table.ensures) in
    front_next (function_at c.args.devices.now) (is_function (length c.args.devices.now)) c.deref-item-items.result.now c.loop-item.item-index c.loop-item.functions.items c.push.new.self.items c.item-item.result
    _ _ c.loop-item.invariant c.loop-item-test.true (sym c.item-item.is) found (sym c.in_ok-function_in.ensures.value) c.in_ok-function_in.ensures.rules c.push.ensures.items

pub returns-in_err-function_in-clause-value : goal.returns-in_err-function_in-clause-value
returns-in_err-function_in-clause-value c =
    let e = err_from_is_err_and c.from_residual.result c.from_residual.ensures.1 in
    let found = sym (rw c.in-Some.is at c.as_table.ensures) in
    let refused = c.in_err-function_in.ensures.value in
    let all = sym c.loop-item.invariant.reads ∙ each_fails (function_at c.args.devices.now) c.loop-item.functions.items c.deref-item-items.result.now c.loop-item.item-index c.item-item.result _ _ c.loop-item-test.true (sym c.item-item.is) found (sym refused) in
    rw (e.1, e.2) (rw c.deref-item-items.ensures.value at all)

pub returns-clause-value : goal.returns-clause-value
returns-clause-value c =
    let all = sym c.loop-item.invariant.reads ∙ each_ends (function_at c.args.devices.now) c.loop-item.functions.items c.deref-item-items.result.now c.loop-item.item-index c.loop-item-test.false in
    rw c.deref-item-items.ensures.value at all
