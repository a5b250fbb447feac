use Rattle.std.proofs.Common.{[], map, sym, subst}
use Rattle.std.specs.Prelude.{Option, OnOk}
use Rattle.std.specs.Option.{option_to_list}
use Rattle.mate_journal.specs.declared.air.Air.{Air}
use Rattle.world_air.specs.Air.{aired_at}
use Rattle.world_air.specs.Changes.{AddsToAir}
use Rattle.world_air.proofs.ChangeLemmas.{adds-nothing}
use Rattle.world_air.proofs.changes.note_first.Goals as goal

pub returns-in-Some : goal.returns-in-Some
returns-in-Some c =
    let P : Option Air → Type 0 = λ o. OnOk c.note.result (AddsToAir c.args.radio.now c.note.new.radio (map (aired_at c.args.at c.args.node) (option_to_list o)) []) in
    subst P (sym c.in-Some.is) c.note.ensures

pub returns-in-None : goal.returns-in-None
returns-in-None c =
    let P : Option Air → Type 0 = λ o. AddsToAir c.args.radio.now c.args.radio.now (map (aired_at c.args.at c.args.node) (option_to_list o)) [] in
    subst P (sym c.in-None.is) (adds-nothing c.args.radio.now)
