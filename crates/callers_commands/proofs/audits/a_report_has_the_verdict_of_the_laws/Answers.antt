use Rattle.audit_rules.specs.Tests.{verdict_of}
use Rattle.callers_commands.proofs.AuditLemmas.{only, serial_alone}
use Rattle.callers_commands.proofs.audits.a_report_has_the_verdict_of_the_laws.Goals as goal

pub returns-clause-verdict : goal.returns-clause-verdict
returns-clause-verdict c =
    only c.one_verdict.ensures.one c.args.desc.now c.args.programs.now c.args.report.now (verdict_of c.args.desc.now c.args.programs.now c.args.report.now) c.audit.result
    (c.the_verdict_is_told.ensures c.args.desc.now c.args.programs.now c.args.report.now c.requires.right c.requires.tidy) c.audit.ensures

pub returns-clause-serial : goal.returns-clause-serial
returns-clause-serial c =
    serial_alone c.one_verdict.ensures.one c.args.desc.now c.args.programs.now c.args.report.now c.audit.result
    (c.one_verdict.ensures.serial c.args.desc.now c.args.programs.now c.args.report.now c.requires.tidy) c.audit.ensures
