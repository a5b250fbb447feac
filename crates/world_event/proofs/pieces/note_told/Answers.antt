use Rattle.std.proofs.Common.{[], map, ◌∙◌, sym, subst, ap}
use Rattle.std.specs.Prelude.{Option, OnOk}
use Rattle.std.specs.Option.{option_to_list}
use Rattle.mate_journal.specs.declared.air.Air.{Air}
use Rattle.world_air.specs.Air.{aired_at}
use Rattle.world_air.specs.Changes.{AddsToAir}
use Rattle.world_air.proofs.ChangeLemmas.{adds-nothing}
use Rattle.world_state.specs.First.{first_told}
use Rattle.world_event.proofs.pieces.note_told.Goals as goal

pub returns-in-Nothing : goal.returns-in-Nothing
returns-in-Nothing c =
    let P : Option Air → Type 0 = λ o. AddsToAir c.args.radio.now c.args.radio.now (map (aired_at c.args.at c.args.node) (option_to_list o)) [] in
    subst P (sym (c.told.ensures ∙ ap first_told c.in-Nothing.is)) (adds-nothing c.args.radio.now)

pub returns-in-Keep : goal.returns-in-Keep
returns-in-Keep c =
    let P : Option Air → Type 0 = λ o. OnOk c.note_first.result (AddsToAir c.args.radio.now c.note_first.new.radio (map (aired_at c.args.at c.args.node) (option_to_list o)) []) in
    subst P (sym (c.told.ensures ∙ ap first_told c.in-Keep.is)) c.note_first.ensures

pub returns-in-Got : goal.returns-in-Got
returns-in-Got c =
    let P : Option Air → Type 0 = λ o. OnOk c.note_first-in-Got.result (AddsToAir c.args.radio.now c.note_first-in-Got.new.radio (map (aired_at c.args.at c.args.node) (option_to_list o)) []) in
    subst P (sym (c.told.ensures ∙ ap first_told c.in-Got.is)) c.note_first-in-Got.ensures
