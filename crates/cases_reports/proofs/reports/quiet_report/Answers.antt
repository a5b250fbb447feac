use Rattle.std.proofs.Common.{◌≡◌, ◌++◌, ◌∷◌, [], List, true, ap, sym, subst, ◌∙◌}
use Rattle.mate_journal.specs.Log.{Log}
use Rattle.mate_journal.specs.declared.air.Aired.{Aired}
use Rattle.report_writer.specs.Tidy.{IsTidy}
use Rattle.report_writer.proofs.QuietReport.{IsQuiet, begun, quiet_is_tidy}
use Rattle.cases_reports.proofs.reports.quiet_report.Goals as goal

pub returns : goal.returns
returns c =
    let first = c.in_ok-quiet_log.field-0 in
    let second = c.in_ok-quiet_log-2.field-0 in
    let one : c.push-3.new.self ≡ first ∷ [] = c.in_ok-push-3.ensures ∙ ap (λ (logs : List Log). logs ++ first ∷ []) c.new-nodes.ensures in
    let two : c.push-4.new.self ≡ first ∷ second ∷ [] = c.in_ok-push-4.ensures ∙ ap (λ (logs : List Log). logs ++ second ∷ []) one in
    let air_one : c.push.new.self ≡ begun 0 ∷ [] = c.in_ok-push.ensures ∙ ap (λ (aired : List Aired). aired ++ begun 0 ∷ []) c.new-air.ensures in
    let air_two : c.push-2.new.self ≡ begun 0 ∷ begun 1 ∷ [] = c.in_ok-push-2.ensures ∙ ap (λ (aired : List Aired). aired ++ begun 1 ∷ []) air_one in
    let quiet : IsQuiet c.args.desc.now first = record { entries = (c.in_ok-quiet_log.ensures).entries; images = (c.in_ok-quiet_log.ensures).images; stores = (c.in_ok-quiet_log.ensures).stores } in
    let quiet2 : IsQuiet c.args.desc.now second = record { entries = (c.in_ok-quiet_log-2.ensures).entries; images = (c.in_ok-quiet_log-2.ensures).images; stores = (c.in_ok-quiet_log-2.ensures).stores } in
    subst (IsTidy c.args.desc.now) (sym c.new.ensures)
    (quiet_is_tidy c.args.desc.now (record { nodes = c.push-4.new.self; air = c.push-2.new.self; events = 0; whole = true }) first second two air_two quiet quiet2)
