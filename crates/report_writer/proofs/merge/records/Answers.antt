use Rattle.std.proofs.Common.{◌≡◌, ◌+◌, ◌≤◌, ◌<◌, ℕ, suc, List, length, ap, sym, subst, ◌∙◌, arith}
use Rattle.std.specs.Prelude.{flat_map, Option, IfSome, All}
use Rattle.mate_files.proofs.PenLemmas.{◌⟫◌, Prints-by, Prints-nil}
use Rattle.mate_journal.specs.Log.{Log}
use Rattle.mate_journal.specs.declared.air.Aired.{Aired}
use Rattle.mate_journal.specs.Tidy.{below, entry_event, EventsRise}
use Rattle.report_writer.specs.Text.{air_line, entry_lines, event_lines, events_end}
use Rattle.report_writer.specs.Progress.{air_event, at_event, IsCut, AreCuts}
use Rattle.report_writer.proofs.EventLemmas.{flat_map-below_next}
use Rattle.report_writer.proofs.MergeLemmas.{IsAt, IsAt-start, IsAt-next, IsAt-some, lines-skip, reached, reached-from}
use Rattle.report_writer.proofs.merge.records.Given.{Over}
use Rattle.report_writer.proofs.merge.records.Goals as goal

pub loop-next-init : goal.loop-next-init
loop-next-init g c =
    let report = c.args.report.now in
    let lines = event_lines c.args.desc.now report in
    let next = c.next_event-next.result in
    let at : IsAt report 0 c.args.cursors.now 0 = IsAt-start report c.args.cursors.now (λ k p. c.requires.begin k (omega (arith, p, c.requires.same))) in
    let end : 0 ≤ events_end report = omega arith in record {
      at = IsAt-next report 0 c.args.cursors.now 0 next at c.next_event-next.ensures.first;
      end = c.next_event-next.ensures.end;
      prints = Prints-by (sym (lines-skip c.args.desc.now report 0 c.args.cursors.now 0 next at end c.next_event-next.ensures.first)) Prints-nil;
    }

-- the positions are past the event
passed : (g : Over) (c : goal.After-next_event-next-in-Some g) → IsAt c.args.report.now c.air_of_event-air.result c.logs_of_event.new.cursors (c.in-Some.event + 1)
passed g c = record {
  on_air = subst (λ (xs : List Aired). IsCut air_event (c.in-Some.event + 1) xs c.air_of_event-air.result) c.air.ensures c.air_of_event-air.ensures.cut;
  in_logs = subst (λ (ls : List Log). AreCuts (c.in-Some.event + 1) ls c.logs_of_event.new.cursors) c.nodes.ensures c.logs_of_event.ensures.cut;
}

-- and it is not the last number
passed-end : (g : Over) (c : goal.After-next_event-next-in-Some g) → c.in-Some.event + 1 ≤ events_end c.args.report.now
passed-end g c =
    let below_end = subst (λ (o : Option ℕ). IfSome o (λ (k : ℕ). k < events_end c.args.report.now)) c.in-Some.is c.loop-next.invariant.end in
    omega (arith, below_end)

pub loop-next-preserved : goal.loop-next-preserved
loop-next-preserved g c =
    let report = c.args.report.now in
    let lines = event_lines c.args.desc.now report in
    let event = c.in-Some.event in
    let next = c.next_event-next-in-Some.result in
    let first = c.next_event-next-in-Some.ensures.first in
    let more : suc event ≡ event + 1 = omega arith in record {
      at = IsAt-next report c.air_of_event-air.result c.logs_of_event.new.cursors (event + 1) next (passed g c) first;
      end = c.next_event-next-in-Some.ensures.end;
      prints = Prints-by (sym (lines-skip c.args.desc.now report c.air_of_event-air.result c.logs_of_event.new.cursors (event + 1) next (passed g c) (passed-end g c) first))
          (Prints-by (sym (flat_map-below_next lines event) ∙ ap (λ k. flat_map lines (below k)) more)
          (Prints-by (ap (λ o. flat_map lines (below (reached report o))) c.in-Some.is) c.loop-next.invariant.prints
          ⟫ (Prints-by (ap (λ xs. flat_map air_line (at_event air_event event xs)) c.air.ensures) c.air_of_event-air.ensures.prints
          ⟫ Prints-by (ap (entry_lines c.args.desc.now event 0) c.nodes.ensures) c.logs_of_event.ensures.prints)));
    }

pub loop-next-smaller : goal.loop-next-smaller
loop-next-smaller g c =
    let report = c.args.report.now in
    let event = c.in-Some.event in
    let here = ap (reached report) c.in-Some.is in
    let later = reached-from report c.air_of_event-air.result c.logs_of_event.new.cursors (event + 1) c.next_event-next-in-Some.result (passed g c) (passed-end g c)
    c.next_event-next-in-Some.ensures.first in
    omega (arith, here, later, passed-end g c)

pub next_event-next-requires-clause-same : goal.next_event-next-requires-clause-same
next_event-next-requires-clause-same g c = c.requires.same

pub next_event-next-requires-clause-ordered : goal.next_event-next-requires-clause-ordered
next_event-next-requires-clause-ordered g c = c.requires.ordered

pub next_event-next-requires-in-Some-clause-ordered : goal.next_event-next-requires-in-Some-clause-ordered
next_event-next-requires-in-Some-clause-ordered g c = c.requires.ordered

pub air_of_event-air-requires-clause-ordered : goal.air_of_event-air-requires-clause-ordered
air_of_event-air-requires-clause-ordered g c = subst (EventsRise air_event 0) (sym c.air.ensures) c.requires.ordered.air

pub air_of_event-air-requires-clause-cut : goal.air_of_event-air-requires-clause-cut
air_of_event-air-requires-clause-cut g c =
    let at = IsAt-some c.args.report.now c.loop-next.air c.loop-next.cursors c.loop-next.next c.in-Some.event c.in-Some.is c.loop-next.invariant.at in
    subst (λ (xs : List Aired). IsCut air_event c.in-Some.event xs c.loop-next.air) (sym c.air.ensures) at.on_air

pub logs_of_event-requires-clause-count : goal.logs_of_event-requires-clause-count
logs_of_event-requires-clause-count g c = subst (λ (ls : List Log). length ls < 256) (sym c.nodes.ensures) c.requires.count

pub logs_of_event-requires-clause-ordered : goal.logs_of_event-requires-clause-ordered
logs_of_event-requires-clause-ordered g c =
    subst (All (λ (l : Log). EventsRise entry_event 0 l.entries)) (sym c.nodes.ensures) c.requires.ordered.logs

pub logs_of_event-requires-clause-same : goal.logs_of_event-requires-clause-same
logs_of_event-requires-clause-same g c = c.loop-next.auto.cursors ∙ c.requires.same ∙ sym (ap length c.nodes.ensures)

pub logs_of_event-requires-clause-cut : goal.logs_of_event-requires-clause-cut
logs_of_event-requires-clause-cut g c =
    let at = IsAt-some c.args.report.now c.loop-next.air c.loop-next.cursors c.loop-next.next c.in-Some.event c.in-Some.is c.loop-next.invariant.at in
    subst (λ (ls : List Log). AreCuts c.in-Some.event ls c.loop-next.cursors) (sym c.nodes.ensures) at.in_logs

pub returns : goal.returns
returns g c =
    Prints-by (ap (λ (o : Option ℕ). flat_map (event_lines c.args.desc.now c.args.report.now) (below (reached c.args.report.now o))) c.in_default.is) c.loop-next.invariant.prints
