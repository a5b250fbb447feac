use Rattle.std.proofs.Common.{◌∙◌, ap}
use Rattle.mate_journal.specs.OpenLog.{OpenView}
use Rattle.mate_journal.proofs.OpenLemmas.{kept-all}
use Rattle.mate_journal.proofs.open_log.OpenLog.into_whole.Goals as goal

pub returns : goal.returns
returns c =
    kept-all c.self.inside.past.log c.self.inside.kept (ap (λ (v : OpenView). v.gone) c.self.view_is ∙ c.requires) ∙ ap (λ (v : OpenView). v.all) c.self.view_is
