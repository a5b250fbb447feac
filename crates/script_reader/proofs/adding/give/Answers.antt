use Rattle.std.proofs.Common.{◌≡◌, ℕ, ◌+◌, ◌*◌, ◌-◌, get_or, refl, sym, ◌∙◌, ap, arith}
use Rattle.script_steps.specs.World.{with_values}
use Rattle.script_reader.specs.WorldScript.{with_series}
use Rattle.script_reader.proofs.SeriesLemmas.{with_world_series, at_place, no_place, new_series, tables_grown, tables_kept, on_ok}
use Rattle.script_reader.specs.Draft.{world_progress_of}
use Rattle.script_reader.proofs.adding.give.Goals as goal

pub append_all-requires : goal.append_all-requires
append_all-requires c = (at_place c.args.draft.now.linked c.args.draft.now.places c.args.draft.now.world c.args.series c.requires.node c.requires.fun c.requires.tables c.if-place-eq0.false).within

pub returns-in_ok-push-clause-value : goal.returns-in_ok-push-clause-value
returns-in_ok-push-clause-value c =
    let none = no_place c.args.draft.now.linked c.args.draft.now.places c.args.draft.now.world c.args.series c.requires.node c.requires.fun c.requires.tables c.if-place-eq0.true in
    let e : c.push.new.self ≡ with_series c.args.series c.args.draft.now.world.series = c.in_ok-push.ensures ∙ sym (new_series 1 c.args.series c.args.draft.now.world.series (omega arith) none) in
    ap (with_world_series (world_progress_of c.args.draft.now)) e

pub returns-in_ok-push-clause-tables : goal.returns-in_ok-push-clause-tables
returns-in_ok-push-clause-tables c =
    let none = no_place c.args.draft.now.linked c.args.draft.now.places c.args.draft.now.world c.args.series c.requires.node c.requires.fun c.requires.tables c.if-place-eq0.true in
    rw c.len.ensures (tables_grown c.args.draft.now.linked c.args.draft.now.places c.args.draft.now.world _ c.args.series c.requires.node c.requires.fun c.requires.tables refl c.in_ok-push.ensures none)

pub returns-else-place-eq0-clause-value : goal.returns-else-place-eq0-clause-value
returns-else-place-eq0-clause-value c =
    let old = at_place c.args.draft.now.linked c.args.draft.now.places c.args.draft.now.world c.args.series c.requires.node c.requires.fun c.requires.tables c.if-place-eq0.false in
    let place : ℕ = get_or c.args.draft.now.places (c.args.series.node * 32 + c.args.series.fun.0) 0 - 1 in
    let values : with_values place c.as_slice.result.now c.args.draft.now.world.series ≡ with_series c.args.series c.args.draft.now.world.series =
    ap (λ vs. with_values place vs c.args.draft.now.world.series) c.as_slice.ensures ∙ sym old.same in
    on_ok c.append_all.result (λ (e : c.append_all.new.series ≡ with_values place c.as_slice.result.now c.args.draft.now.world.series). ap (with_world_series (world_progress_of c.args.draft.now)) (e ∙ values)) c.append_all.ensures

pub returns-else-place-eq0-clause-tables : goal.returns-else-place-eq0-clause-tables
returns-else-place-eq0-clause-tables c =
    on_ok c.append_all.result (λ e. tables_kept c.args.draft.now.linked c.args.draft.now.places c.args.draft.now.world _ _ _ c.requires.tables refl e) c.append_all.ensures
