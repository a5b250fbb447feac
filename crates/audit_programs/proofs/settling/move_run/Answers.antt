use Rattle.std.proofs.Common.{refl, sym, subst}
use Rattle.mate_num.specs.declared.store.Store.{Store}
use Rattle.code_verifier.specs.Verified.{VerifiedCode}
use Rattle.audit_programs.specs.declared.kept.KeptRun.{KeptRun}
use Rattle.audit_programs.specs.Kept.{IsRun}
use Rattle.audit_programs.proofs.SettledLemmas.{base-store, moved}
use Rattle.audit_programs.proofs.settling.move_run.Goals as goal

pub settle-requires-clause-base : goal.settle-requires-clause-base
settle-requires-clause-base c =
    let v : VerifiedCode = c.args.program.now.code in
    let k : KeptRun = c.args.run.now in
    base-store v.shape v.code k.base c.args.store.now k.payload c.args.turns k.machine k.heap k.calls k.how c.requires.run c.requires.lengths

pub returns : goal.returns
returns c =
    let v : VerifiedCode = c.args.program.now.code in
    let k : KeptRun = c.args.run.now in
    let store : Store = c.args.store.now in
    λ yes. record {
      program = refl;
      payload = refl;
      base = c.copy-run.ensures;
      calls = refl;
      run = subst (λ (s : Store). IsRun v.shape v.code s k.payload c.args.turns k.machine c.settle.new.heap k.calls k.how) (sym c.copy-run.ensures)
          (moved v.shape v.code k.base store k.payload c.args.turns k.machine k.heap c.settle.new.heap k.calls k.how c.requires.run
          (base-store v.shape v.code k.base store k.payload c.args.turns k.machine k.heap k.calls k.how c.requires.run c.requires.lengths)
          (c.settle.ensures c.if-not-settle.false));
    }
