use Rattle.std.proofs.Common.{◌≡◌, ◌<◌, ℕ, List, length, get_or, max, ap, ◌∙◌, arith}
use Rattle.mate_journal.specs.declared.entry.Stamped.{Stamped}
use Rattle.report_writer.proofs.VersionLemmas.{versions-some, versions-other}
use Rattle.report_writer.proofs.whole_summary.versions_in.Goals as goal
use Rattle.report_writer.proofs.whole_summary.versions_in.Goals.{in-Some, in_default}

pub loop-stamped-preserved : goal.loop-stamped-preserved
loop-stamped-preserved c =
    let entries = c.args.log.now.entries in
    let item = c.stamped-item.result in
    let i = c.loop-stamped.stamped-index in
    let h = c.args.handler.0 in
    let found = c.installed.result in
    let inv = c.loop-stamped.invariant in
    let within : i < length entries = omega (arith, c.loop-stamped-test.true, ap length c.entries-stamped-items.ensures) in
    let is : item ≡ get_or entries i item = c.stamped-item.is ∙ ap (λ (es : List Stamped). get_or es i item) c.entries-stamped-items.ensures in
    elim c.match-installed.branch [
      | in-Some w ↦ record {
        newest = versions-some max c.args.newest h entries i item found w.in-Some.version c.loop-stamped.newest c.match-installed.newest within is c.installed.ensures w.in-Some.is
            inv.newest (w.newest-is ∙ w.max-newest.ensures);
        last = versions-some (λ (before version : ℕ). version) 0 h entries i item found w.in-Some.version c.loop-stamped.last c.match-installed.last within is c.installed.ensures w.in-Some.is
            inv.last w.last-is;
      }
      | in_default w ↦ record {
        newest = versions-other max c.args.newest h entries i item found c.loop-stamped.newest c.match-installed.newest within is c.installed.ensures w.in_default.is inv.newest w.newest-is;
        last = versions-other (λ (before version : ℕ). version) 0 h entries i item found c.loop-stamped.last c.match-installed.last within is c.installed.ensures w.in_default.is inv.last w.last-is;
      }
    ]
