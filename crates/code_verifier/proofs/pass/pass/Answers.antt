use Rattle.std.proofs.Common.{◌∙◌, ap, sym, arith, false}
use Rattle.std.proofs.lemmas.Result.{err_from_is_err_and}
use Rattle.mate_code.specs.Run.{Code}
use Rattle.mate_code.specs.Verification.{first_marks, pass, is_end, Marks}
use Rattle.mate_code.proofs.VerificationLemmas.{fetch-range}
use Rattle.code_verifier.specs.Marks.{marks_in}
use Rattle.code_verifier.proofs.PassLemmas.{code_at, code_at-first, halts_behind, halts_behind-all, pass_at-goes, pass_at-stops, pass_at-ends, halts_at-goes, halts_at-ends}
use Rattle.code_verifier.proofs.pass.pass.Goals as goal

pub instrs-init : goal.instrs-init
instrs-init c =
    let all = code_at-first 0 c.args.code.now c.requires.from in
    record {
      so_far = ap (λ (marks : Marks). pass c.args.shape.now c.args.code.now marks (code_at 0 c.args.code.now)) c.begin.ensures ∙ ap (λ (code : Code). pass c.args.shape.now c.args.code.now first_marks code) all;
      ends = ap (λ (code : Code). halts_behind false code) all ∙ halts_behind-all c.args.code.now;
      within = omega arith;
      room = omega (arith, c.requires.marks);
    }

pub check_instr-requires-clause-room : goal.check_instr-requires-clause-room
check_instr-requires-clause-room c =
    let range = fetch-range 0 c.args.code.now c.instrs.place c.in-Some.instr c.requires.from (sym c.in-Some.ensures) in
    omega (arith, range.1)

pub returns-in_err-check_instr : goal.returns-in_err-check_instr
returns-in_err-check_instr c =
    let p = err_from_is_err_and c.from_residual.result c.from_residual.ensures.1 in
    rw (p.1, p.2) (
    pass_at-stops c.args.shape.now c.args.code.now c.instrs.place (marks_in c.instrs.marks) _ c.instrs.invariant.so_far
    c.in-Some.instr c.in_err-check_instr.field-0.0 c.requires.from (sym c.in-Some.ensures) c.in_err-check_instr.ensures)

pub instrs-smaller : goal.instrs-smaller
instrs-smaller c =
    let range = fetch-range 0 c.args.code.now c.instrs.place c.in-Some.instr c.requires.from (sym c.in-Some.ensures) in
    omega (arith, range.1, c.size.ensures)

pub instrs-preserved : goal.instrs-preserved
instrs-preserved c =
    let range = fetch-range 0 c.args.code.now c.instrs.place c.in-Some.instr c.requires.from (sym c.in-Some.ensures) in
    let size = c.size.ensures in
    record {
      so_far = rw size (pass_at-goes c.args.shape.now c.args.code.now c.instrs.place (marks_in c.instrs.marks) _ c.instrs.invariant.so_far
          c.in-Some.instr (marks_in c.check_instr.new.marks) c.requires.from (sym c.in-Some.ensures) c.in_ok-check_instr.ensures.0 c.in_ok-check_instr.ensures.1);
      ends = rw size (halts_at-goes c.args.code.now c.instrs.place c.in-Some.instr c.instrs.ends c.is_end-ends.result c.requires.from (sym c.in-Some.ensures)
          (c.is_end-ends.ensures ∙ ap is_end c.flow.ensures) c.instrs.invariant.ends);
      within = omega (arith, range.1, size);
      room = omega (arith, c.instrs.invariant.room);
    }

pub returns : goal.returns
returns c = (
  marks_in c.instrs.marks,
  pass_at-ends c.args.shape.now c.args.code.now c.instrs.place (marks_in c.instrs.marks) _ c.instrs.invariant.so_far (sym c.in_default.ensures),
  halts_at-ends c.args.code.now c.instrs.place c.instrs.ends (sym c.in_default.ensures) c.instrs.invariant.ends,
)
