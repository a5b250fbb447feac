-- New parts rest.
use Rattle.std.proofs.Common.{◌≡◌, length, refl, ◌∙◌, arith}
use Rattle.std.proofs.lemmas.Grind.{common_steps}
use Rattle.mate_num.specs.Store.{zero_store}
use Rattle.vm_shape.specs.declared.description.Description.{Description}
use Rattle.node_state.specs.declared.parts.Parts.{Parts}
use Rattle.node_state.proofs.NewLemmas.{Rests-new}
use Rattle.node_open.proofs.open_node.new_parts.Goals as goal

pub returns : goal.returns
returns c =
    let d : Description = c.args.description.now in
    let s : Parts = record { heap = c.new.result; contexts = c.in_ok-new.field-0; handlers = c.in_ok-new-2.field-0; posts = 0; log = c.new-4.result } in
    let zero_is = c.new.ensures in
    let zero : c.new.result ≡ zero_store (length d.shared.items) (length d.buffers.items) = grind (arith, common_steps) in
    let made = c.in_ok-new.ensures.seats in
    let from = c.from.ensures in
    let count = c.contexts.ensures.value in
    record {
      rests = Rests-new d s c.in_ok-new.ensures.idle c.in_ok-new-2.ensures.none (c.in_ok-new-2.ensures.places ∙ c.len-3.ensures.value) refl c.new-4.ensures.empty zero (omega (arith, made, from, count));
      empty = c.new-4.ensures.empty;
      gone = c.new-4.ensures.gone;
      idle = c.in_ok-new.ensures.idle;
    }
