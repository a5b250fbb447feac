use Rattle.std.proofs.Common.{◌≡◌, ◌<◌, ℕ, List, length, drop, sym, ◌∙◌, ap, subst, rules}
use Rattle.std.specs.Prelude.{Some, slice_get, unwrap_or}
use Rattle.std.proofs.lemmas.Option.{slice_get-get_or}
use Rattle.mate_files.specs.Sink.{Puts}
use Rattle.mate_journal.specs.declared.air.Aired.{Aired}
use Rattle.report_writer.specs.Text.{event_piece}
use Rattle.world_state.specs.declared.mote.Mote.{Mote}
use Rattle.report_writer.proofs.KeptLines.{piece-all}
use Rattle.world_runs.proofs.pieces.write_piece.Goals as goal

pub returns : goal.returns
returns g c = λ mote found.
    let motes = c.args.sim.now.motes.items in
    let x = c.index-mote.result.now in
    let low : c.from.result < length motes = search rules in
    let is : x ≡ mote = ap (λ o. unwrap_or o x) (sym (ap (slice_get motes) (sym c.from.ensures) ∙ slice_get-get_or motes c.from.result x low ∙ ap (λ (m : Mote). Some m) (sym c.index-mote.ensures)) ∙ found) in
    let P : List ℕ → Type 0 = λ bs. Puts (g.S.Sink.written c.args.out.now) (g.S.Sink.faults c.args.out.now) (g.S.Sink.written c.write_event.new.out) (g.S.Sink.faults c.write_event.new.out) c.write_event.result bs in
    subst (λ (m : Mote). P (event_piece c.args.desc.now (drop c.args.sim.now.radio.gone c.args.sim.now.radio.air) m.node.log m.node.gone.entries c.args.node)) is
    (subst P
    (ap (λ (a : List Aired). event_piece c.args.desc.now a c.kept.result.now 0 c.args.node) c.air.ensures
    ∙ piece-all c.args.desc.now (record { all = x.node.log; gone = x.node.gone }) c.kept.result.now c.kept.ensures.kept c.args.node (drop c.args.sim.now.radio.gone c.args.sim.now.radio.air))
    c.write_event.ensures.writes)
