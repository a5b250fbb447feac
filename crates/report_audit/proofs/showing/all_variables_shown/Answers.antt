use Rattle.std.proofs.Common.{◌≡◌, Bool, ℕ, sym, ◌∙◌, ap, arith}
use Rattle.std.proofs.lemmas.Bool.Decides.{Decides-ltb}
use Rattle.mate_num.specs.declared.bounds.TheConstants.{SHARED_MAX}
use Rattle.mate_num.specs.declared.resource.Resource.TheVariants as cell
use Rattle.audit_rules.specs.Shown.{all_below, is_shown_at}
use Rattle.audit_rules.specs.Views.{roll_in}
use Rattle.audit_programs.specs.Trials.{machine_for}
use Rattle.report_audit.proofs.ShownLemmas.{below-more, below-fails}
use Rattle.report_audit.proofs.showing.all_variables_shown.Goals as goal

pub returns-then-not-is_shown_at : goal.returns-then-not-is_shown_at
returns-then-not-is_shown_at c =
    let t = c.args.trial.now in
    let x = roll_in t.log.now.images c.args.roll.now.roll in
    sym (below-fails (λ (v : ℕ). is_shown_at (machine_for t) x c.args.store.now c.args.seen.now (cell.Shared record { 0 = v })) c.args.count c.loop-v.v c.loop-v-test.true (sym c.if-not-is_shown_at.ensures))

pub is_shown_at-requires-clause-ready : goal.is_shown_at-requires-clause-ready
is_shown_at-requires-clause-ready c = c.requires.ready

pub is_shown_at-requires-clause-known : goal.is_shown_at-requires-clause-known
is_shown_at-requires-clause-known c =
    let few = c.requires.few in
    let below = c.loop-v-test.true in
    (Decides-ltb c.loop-v.v SHARED_MAX).1 (omega (arith, few, below))

pub loop-v-preserved : goal.loop-v-preserved
loop-v-preserved c =
    let t = c.args.trial.now in
    let x = roll_in t.log.now.images c.args.roll.now.roll in
    below-more (λ (v : ℕ). is_shown_at (machine_for t) x c.args.store.now c.args.seen.now (cell.Shared record { 0 = v })) c.loop-v.v (sym c.if-not-is_shown_at.ensures) c.loop-v.invariant

pub returns : goal.returns
returns c =
    let t = c.args.trial.now in
    let x = roll_in t.log.now.images c.args.roll.now.roll in
    let test : ℕ → Bool = λ v. is_shown_at (machine_for t) x c.args.store.now c.args.seen.now (cell.Shared record { 0 = v }) in
    let past = c.loop-v-test.false in
    let within = c.loop-v.auto.v-end in
    let all : c.loop-v.v ≡ c.args.count = omega (arith, past, within) in
    sym (ap (all_below test) (sym all) ∙ c.loop-v.invariant)
