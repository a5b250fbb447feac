-- Nothing was kept, and the other log is empty: only the room changes.
use Rattle.std.proofs.Common.{sym, ◌∙◌, ap, subst}
use Rattle.mate_journal.specs.Log.{Log, IsEmpty}
use Rattle.mate_journal.specs.OpenLog.{OpenView, joined, gone_of}
use Rattle.mate_journal.proofs.OpenLemmas.{kept-none, joined-traded}
use Rattle.mate_journal.proofs.open_log.OpenLog.trade.Goals as goal

pub returns-clause-same : goal.returns-clause-same
returns-clause-same c =
    let past = c.self.inside.past.log in
    let kept = c.self.inside.kept in
    let none : IsEmpty kept = kept-none past kept (ap (λ (v : OpenView). v.gone) c.self.view_is ∙ c.requires.gone ∙ ap (λ (v : OpenView). gone_of v.all) (sym c.self.view_is)) in
    ap (λ (l : Log). let v : OpenView = record { all = joined past l; gone = gone_of past } in v) c.trade.ensures.here
    ∙ ap (λ (l : Log). let v : OpenView = record { all = l; gone = gone_of past } in v) (joined-traded past kept c.args.room.now none c.requires.empty)
    ∙ ap (λ (v : OpenView). let w : OpenView = record v { all = record v.all { spare = c.args.room.now.spare } } in w) c.self.view_is

pub returns-clause-empty : goal.returns-clause-empty
returns-clause-empty c =
    let past = c.self.inside.past.log in
    let kept = c.self.inside.kept in
    subst IsEmpty (sym c.trade.ensures.there)
    (kept-none past kept (ap (λ (v : OpenView). v.gone) c.self.view_is ∙ c.requires.gone ∙ ap (λ (v : OpenView). gone_of v.all) (sym c.self.view_is)))

pub returns-clause-room : goal.returns-clause-room
returns-clause-room c = ap (λ (l : Log). l.spare) c.trade.ensures.there ∙ ap (λ (v : OpenView). v.all.spare) c.self.view_is
