use Rattle.std.proofs.Common.{length, refl, sym, subst}
use Rattle.mate_journal.specs.declared.entry.Stamped.{Stamped}
use Rattle.journal_laws.specs.Growth.{IsNamedBelow}
use Rattle.journal_laws.proofs.TidyLemmas.{NamesInLog-numbered}
use Rattle.audit_programs.proofs.LoopLemmas.{shown, past-shown}
use Rattle.audit_programs.proofs.TrialLemmas.{named-at}
use Rattle.audit_rules.specs.Roll.{nobody}
use Rattle.report_audit.proofs.ImageLemmas.{no-versions, settles-next, settles-wrong, settles-all}
use Rattle.report_audit.proofs.images.images_right.Goals as goal

pub loop-stamped-init : goal.loop-stamped-init
loop-stamped-init c = record { roll = nobody; versions = no-versions; rest = refl }

pub installs_right-requires-clause-named : goal.installs_right-requires-clause-named
installs_right-requires-clause-named c =
    let l = c.args.log.now in
    let i = c.loop-stamped.stamped-index in
    let r = shown l.entries c.entries-stamped-items.result.now i c.stamped-item.result c.entries-stamped-items.ensures c.loop-stamped-test.true c.stamped-item.is in
    subst (λ (s : Stamped). IsNamedBelow (length l.images) (length l.stores) s.entry) (sym r.1)
    (named-at (length l.images) (length l.stores) l.entries i c.stamped-item.result (NamesInLog-numbered l c.requires.tidy.numbered).named r.0)

pub loop-stamped-preserved : goal.loop-stamped-preserved
loop-stamped-preserved c =
    let l = c.args.log.now in
    let i = c.loop-stamped.stamped-index in
    let settles = c.loop-stamped.invariant in
    let r = shown l.entries c.entries-stamped-items.result.now i c.stamped-item.result c.entries-stamped-items.ensures c.loop-stamped-test.true c.stamped-item.is in
    settles-next c.args.programs.now l c.loop-stamped.held c.installs_right.new.held i c.stamped-item.result r.0 r.1 settles (c.if-not-installs_right.ensures.right settles.roll settles.versions)
    (c.if-not-installs_right.ensures.held settles.roll settles.versions)

pub returns-then-not-installs_right : goal.returns-then-not-installs_right
returns-then-not-installs_right c =
    let l = c.args.log.now in
    let i = c.loop-stamped.stamped-index in
    let settles = c.loop-stamped.invariant in
    let r = shown l.entries c.entries-stamped-items.result.now i c.stamped-item.result c.entries-stamped-items.ensures c.loop-stamped-test.true c.stamped-item.is in
    settles-wrong c.args.programs.now l c.loop-stamped.held i c.stamped-item.result r.0 r.1 settles (c.if-not-installs_right.ensures.right settles.roll settles.versions)

pub returns : goal.returns
returns c =
    let l = c.args.log.now in
    let i = c.loop-stamped.stamped-index in
    let past = past-shown l.entries c.entries-stamped-items.result.now i c.entries-stamped-items.ensures c.loop-stamped-test.false in
    settles-all c.args.programs.now l c.loop-stamped.held i past c.loop-stamped.invariant
