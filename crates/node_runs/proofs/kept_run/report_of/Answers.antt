use Rattle.std.proofs.Common.{◌∷◌, [], List, ◌∙◌, ap}
use Rattle.mate_journal.specs.Log.{Log}
use Rattle.mate_journal.specs.declared.air.Aired.{Aired}
use Rattle.mate_journal.specs.declared.report.Report.{Report}
use Rattle.node_runs.proofs.ReportLemmas.{set-one}
use Rattle.node_runs.proofs.kept_run.report_of.Goals as goal

pub returns-clause-is : goal.returns-clause-is
returns-clause-is c =
    let R : List Log → List Aired → Report = λ nodes air. record { nodes = nodes; air = air; events = c.args.events; whole = c.args.whole } in
    c.new-2.ensures
    ∙ ap (λ (nodes : List Log). R nodes c.new.result) (c.put.ensures ∙ set-one c.args.logs c.into_log.result c.requires.one ∙ ap (λ (l : Log). l ∷ []) c.into_log.ensures.same)
    ∙ ap (λ (air : List Aired). R (c.args.node.log ∷ []) air) c.new.ensures
