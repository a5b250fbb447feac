use Rattle.std.proofs.Common.{◌≡◌, ℕ, true}
use Rattle.mate_num.specs.declared.resource.Resource.TheVariants as cell
use Rattle.audit_rules.specs.Shown.{all_below, is_shown_at}
use Rattle.audit_rules.specs.Views.{roll_in}
use Rattle.audit_programs.specs.Trials.{machine_for}
use Rattle.report_audit.proofs.showing.all_variables_shown.Given as goal

abbrev pub invariant-loop-v : goal.invariant-loop-v
invariant-loop-v l = all_below (λ (v : ℕ). is_shown_at (machine_for l.trial) (roll_in l.trial.log.now.images l.roll.roll) l.store l.seen (cell.Shared record { 0 = v })) l.v ≡ true
