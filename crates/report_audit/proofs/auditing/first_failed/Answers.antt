use Rattle.std.proofs.Common.{◌≤◌, ℕ, Bool, sym, subst, ◌∙◌}
use Rattle.mate_journal.specs.Journal.{journal_of}
use Rattle.audit_rules.specs.Following.{entries_follow}
use Rattle.audit_rules.specs.Granting.{grants_in_order}
use Rattle.audit_rules.specs.Rerun.{replays_right}
use Rattle.audit_rules.specs.Roll.{nobody}
use Rattle.audit_rules.specs.Shown.{stores_right}
use Rattle.audit_rules.specs.Laws.{machine_by}
use Rattle.audit_rules.specs.Tests.{conflict_of, images_right}
use Rattle.node_programs.specs.Sources.{meaning_by}
use Rattle.report_audit.proofs.AuditLemmas.{at-follow, at-images}
use Rattle.report_audit.proofs.auditing.first_failed.Goals as goal

pub returns-then-not-follow-clause-law : goal.returns-then-not-follow-clause-law
returns-then-not-follow-clause-law c =
    let d = c.args.desc.now in
    let ps = c.args.programs.now in
    let l = c.args.log.now in
    let m = machine_by d ps in
    let es = journal_of l in
    let F : Bool = entries_follow m es in
    let I : Bool = images_right ps nobody es in
    let S : Bool = replays_right m (conflict_of d) nobody m.zero_store es in
    let H : Bool = stores_right m nobody m.zero_store es in
    let G : Bool = grants_in_order (conflict_of d) nobody 0 es in
    at-follow F I S H G (sym c.if-not-follow.true ∙ c.in_ok-follow.ensures (meaning_by d ps))

pub returns-then-not-images-clause-law : goal.returns-then-not-images-clause-law
returns-then-not-images-clause-law c =
    let d = c.args.desc.now in
    let ps = c.args.programs.now in
    let l = c.args.log.now in
    let m = machine_by d ps in
    let es = journal_of l in
    let F : Bool = entries_follow m es in
    let I : Bool = images_right ps nobody es in
    let S : Bool = replays_right m (conflict_of d) nobody m.zero_store es in
    let H : Bool = stores_right m nobody m.zero_store es in
    let G : Bool = grants_in_order (conflict_of d) nobody 0 es in
    at-images F I S H G (sym c.if-not-follow.false ∙ c.in_ok-follow.ensures (meaning_by d ps)) (sym c.if-not-images.true ∙ c.images_right-images.ensures)

pub first_failed_of-requires-clause-tried : goal.first_failed_of-requires-clause-tried
first_failed_of-requires-clause-tried c =
    record {
      few = subst (λ (n : ℕ). n ≤ 8) c.len-handlers.ensures.value c.len-handlers.ensures.fits;
      tidy = c.requires.tidy;
      programs = c.requires.right;
      follow = sym (c.in_ok-follow.ensures (meaning_by c.args.desc.now c.args.programs.now)) ∙ c.if-not-follow.false;
      images = sym c.images_right-images.ensures ∙ c.if-not-images.false;
    }
