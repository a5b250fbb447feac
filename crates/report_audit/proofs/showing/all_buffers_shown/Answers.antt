use Rattle.std.proofs.Common.{◌≡◌, Bool, ℕ, sym, ◌∙◌, ap, arith}
use Rattle.std.proofs.lemmas.Bool.Decides.{Decides-ltb}
use Rattle.mate_num.specs.declared.bounds.TheConstants.{BUFFERS_MAX}
use Rattle.mate_num.specs.declared.resource.Resource.TheVariants as cell
use Rattle.audit_rules.specs.Shown.{all_below, is_shown_at}
use Rattle.audit_rules.specs.Views.{roll_in}
use Rattle.audit_programs.specs.Trials.{machine_for}
use Rattle.report_audit.proofs.ShownLemmas.{below-more, below-fails}
use Rattle.report_audit.proofs.showing.all_buffers_shown.Goals as goal

pub returns-then-not-is_shown_at : goal.returns-then-not-is_shown_at
returns-then-not-is_shown_at c =
    let t = c.args.trial.now in
    let x = roll_in t.log.now.images c.args.roll.now.roll in
    sym (below-fails (λ (v : ℕ). is_shown_at (machine_for t) x c.args.store.now c.args.seen.now (cell.Buffer record { 0 = v })) c.args.count c.loop-b.b c.loop-b-test.true (sym c.if-not-is_shown_at.ensures))

pub is_shown_at-requires-clause-ready : goal.is_shown_at-requires-clause-ready
is_shown_at-requires-clause-ready c = c.requires.ready

pub is_shown_at-requires-clause-known : goal.is_shown_at-requires-clause-known
is_shown_at-requires-clause-known c =
    let few = c.requires.few in
    let below = c.loop-b-test.true in
    (Decides-ltb c.loop-b.b BUFFERS_MAX).1 (omega (arith, few, below))

pub loop-b-preserved : goal.loop-b-preserved
loop-b-preserved c =
    let t = c.args.trial.now in
    let x = roll_in t.log.now.images c.args.roll.now.roll in
    below-more (λ (v : ℕ). is_shown_at (machine_for t) x c.args.store.now c.args.seen.now (cell.Buffer record { 0 = v })) c.loop-b.b (sym c.if-not-is_shown_at.ensures) c.loop-b.invariant

pub returns : goal.returns
returns c =
    let t = c.args.trial.now in
    let x = roll_in t.log.now.images c.args.roll.now.roll in
    let test : ℕ → Bool = λ v. is_shown_at (machine_for t) x c.args.store.now c.args.seen.now (cell.Buffer record { 0 = v }) in
    let past = c.loop-b-test.false in
    let within = c.loop-b.auto.b-end in
    let all : c.loop-b.b ≡ c.args.count = omega (arith, past, within) in
    sym (ap (all_below test) (sym all) ∙ c.loop-b.invariant)
