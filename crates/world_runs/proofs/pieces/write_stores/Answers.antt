use Rattle.std.proofs.Common.{◌≡◌, ◌-◌, ◌<◌, ℕ, suc, List, [], ◌++◌, Ok, Err, sym, ◌∙◌, ap, subst, arith, drop, take, length}
use Rattle.mate_files.specs.Sink.{Puts}
use Rattle.mate_files.proofs.SinkLemmas.{Puts-trans, Puts-stop}
use Rattle.mate_journal.specs.declared.entry.Stamped.{Stamped}
use Rattle.report_writer.specs.Text.{event_piece}
use Rattle.world_state.specs.Reporting.{mote_logs}
use Rattle.world_laws.specs.EventText.{store_lines}
use Rattle.node_open.proofs.KeptLemmas.{count-kept}
use Rattle.world_state.specs.declared.mote.Mote.{Mote}
use Rattle.world_runs.proofs.HandLemmas.{piece-last}
use Rattle.world_runs.proofs.WritingLemmas.{next-line, rest-lines}
use Rattle.world_runs.proofs.pieces.write_stores.Goals as goal

pub loop-mote-preserved : goal.loop-mote-preserved
loop-mote-preserved g c =
    let k = c.loop-mote.mote-index in
    let d = c.args.desc.now in
    let m = c.mote-item.result in
    let before : List ℕ = store_lines d 0 (mote_logs (take k c.args.motes.now)) in
    let at : c.loop-mote.node ≡ k = c.loop-mote.invariant.node in
    let Told : Mote → Type 0 = λ y. y.node.gone.entries < length y.node.log.entries in
    let piece : event_piece d [] c.kept-log.result.now (length c.entries.result.now - 1) c.loop-mote.node ≡ event_piece d [] m.node.log (length m.node.log.entries - 1) k =
    ap (λ (es : List Stamped). event_piece d [] c.kept-log.result.now (length es - 1) c.loop-mote.node) c.entries.ensures
    ∙ piece-last d (record { all = m.node.log; gone = m.node.gone }) c.kept-log.result.now c.kept-log.ensures.kept c.loop-mote.node (subst Told (sym c.mote-item.is) (c.requires.some k m c.loop-mote-test.true))
    ∙ ap (λ (n : ℕ). event_piece d [] m.node.log (length m.node.log.entries - 1) n) at in
    let P : List ℕ → Type 0 = λ bs. Puts {T = Unit {0}} (g.S.Sink.written c.args.out.now) (g.S.Sink.faults c.args.out.now) (g.S.Sink.written c.write_event.new.out) (g.S.Sink.faults c.write_event.new.out) (Ok tt) bs in
    record {
      node = omega (arith, at);
      puts = subst P (ap (λ (bs : List ℕ). before ++ bs) piece ∙ sym (next-line d c.args.motes.now k m c.loop-mote-test.true c.mote-item.is)) (Puts-trans c.loop-mote.invariant.puts c.in_default.ensures.writes);
    }

pub returns-in-Err : goal.returns-in-Err
returns-in-Err g c =
    let k = c.loop-mote.mote-index in
    let d = c.args.desc.now in
    let m = c.mote-item.result in
    let before : List ℕ = store_lines d 0 (mote_logs (take k c.args.motes.now)) in
    let rest : List ℕ = store_lines d (suc k) (drop (suc k) (mote_logs c.args.motes.now)) in
    let at : c.loop-mote.node ≡ k = c.loop-mote.invariant.node in
    let Told : Mote → Type 0 = λ y. y.node.gone.entries < length y.node.log.entries in
    let piece : event_piece d [] c.kept-log.result.now (length c.entries.result.now - 1) c.loop-mote.node ≡ event_piece d [] m.node.log (length m.node.log.entries - 1) k =
    ap (λ (es : List Stamped). event_piece d [] c.kept-log.result.now (length es - 1) c.loop-mote.node) c.entries.ensures
    ∙ piece-last d (record { all = m.node.log; gone = m.node.gone }) c.kept-log.result.now c.kept-log.ensures.kept c.loop-mote.node (subst Told (sym c.mote-item.is) (c.requires.some k m c.loop-mote-test.true))
    ∙ ap (λ (n : ℕ). event_piece d [] m.node.log (length m.node.log.entries - 1) n) at in
    let P : List ℕ → Type 0 = λ bs. Puts {T = Unit {0}} (g.S.Sink.written c.args.out.now) (g.S.Sink.faults c.args.out.now) (g.S.Sink.written c.write_event.new.out) (g.S.Sink.faults c.write_event.new.out) (Err c.in-Err.fault) bs in
    subst P (ap (λ (bs : List ℕ). (before ++ bs) ++ rest) piece ∙ sym (rest-lines d c.args.motes.now k m c.loop-mote-test.true c.mote-item.is)) (Puts-stop (Puts-trans c.loop-mote.invariant.puts c.in-Err.ensures.writes) rest)

pub overflow_sub-last : goal.overflow_sub-last
overflow_sub-last g c =
    let m = c.mote-item.result in
    let Told : Mote → Type 0 = λ y. y.node.gone.entries < length y.node.log.entries in
    let some = subst Told (sym c.mote-item.is) (c.requires.some c.loop-mote.mote-index m c.loop-mote-test.true) in
    let count = count-kept (record { all = m.node.log; gone = m.node.gone }) c.kept-log.result.now c.kept-log.ensures.kept in
    let long = ap length c.entries.ensures in
    omega (arith, some, count, long)
