use Rattle.std.proofs.Common.{◌≡◌, ◌+◌, ◌≤◌, ℕ, List, [], Ok, length, ap, subst, sym, arith}
use Rattle.std.proofs.lemmas.List.{at_drop_all}
use Rattle.std.specs.List.{flat_map}
use Rattle.mate_files.specs.Sink.{Puts}
use Rattle.mate_files.proofs.SinkLemmas.{Puts-nil}
use Rattle.mate_journal.specs.declared.entry.Stamped.{Stamped}
use Rattle.node_open.proofs.KeptLemmas.{count-kept}
use Rattle.report_writer.proofs.KeptLines.{piece-kept}
use Rattle.report_writer.specs.Text.{event_piece, entry_line}
use Rattle.node_runs.proofs.writing.write_new.Goals as goal

pub write_event-requires : goal.write_event-requires
write_event-requires g c =
    let count = count-kept _ _ c.kept-kept.ensures.kept in
    let within = c.requires in
    omega (arith, count, within)

-- nothing was recorded
pub returns-then-entries-from-clause-writes : goal.returns-then-entries-from-clause-writes
returns-then-entries-from-clause-writes g c =
    let log = c.args.node.now.log in
    let from = c.args.node.now.gone.entries + c.args.from in
    let count = count-kept _ _ c.kept-kept.ensures.kept in
    let few = c.if-entries-from.true in
    let at_hand = ap (λ (es : List Stamped). length es) c.entries.ensures in
    let past : length log.entries ≤ from = omega (arith, count, few, at_hand) in
    let none : event_piece c.args.desc.now [] log from 0 ≡ [] = at_drop_all (flat_map (entry_line c.args.desc.now log 0)) log.entries from past in
    let P : List ℕ → Type 0 = λ bs. Puts (g.S.Sink.written c.args.out.now) (g.S.Sink.faults c.args.out.now) (g.S.Sink.written c.args.out.now) (g.S.Sink.faults c.args.out.now) (Ok tt) bs in
    subst P (sym none) Puts-nil

pub returns-clause-writes : goal.returns-clause-writes
returns-clause-writes g c =
    let P : List ℕ → Type 0 = λ bs. Puts (g.S.Sink.written c.args.out.now) (g.S.Sink.faults c.args.out.now) (g.S.Sink.written c.write_event.new.out) (g.S.Sink.faults c.write_event.new.out) c.write_event.result bs in
    subst P (piece-kept c.args.desc.now _ _ c.kept-kept.ensures.kept 0 [] c.args.from) c.write_event.ensures.writes
