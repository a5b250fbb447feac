use Rattle.std.proofs.Common.{ℕ, max, take, ap, sym, ◌∙◌}
use Rattle.std.proofs.lemmas.List.{take_all}
use Rattle.std.proofs.lemmas.List.Sums.{fold_more}
use Rattle.report_writer.specs.Tally.{versions_at}
use Rattle.report_writer.specs.Summary.{newest_counted}
use Rattle.report_writer.specs.declared.tally.LogTally.{LogTally}
use Rattle.report_writer.proofs.summary.newest.Goals as goal

pub loop-tally-preserved : goal.loop-tally-preserved
loop-tally-preserved c =
    let h = c.args.handler.0 in
    let nodes = c.args.nodes.now in
    let i = c.loop-tally.tally-index in
    c.greater-version.ensures
    ∙ ap (λ (n : ℕ). max n c.versions_at-found.result.newest) c.loop-tally.invariant
    ∙ ap (λ v. max (newest_counted h (take i nodes)) v.newest) (c.versions_at-found.ensures ∙ ap (λ (t : LogTally). versions_at h t.versions.items) c.tally-item.is)
    ∙ sym (fold_more (λ (version : ℕ) (t : LogTally). max version (versions_at h t.versions.items).newest) 0 nodes i c.tally-item.result c.loop-tally-test.true)

pub returns : goal.returns
returns c = c.loop-tally.invariant ∙ ap (newest_counted c.args.handler.0) (take_all c.loop-tally.tally-index c.args.nodes.now c.loop-tally-test.false)
