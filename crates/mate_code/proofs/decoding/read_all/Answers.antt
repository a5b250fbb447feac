use Rattle.std.proofs.Common.{◌≡◌, ℕ, suc, ◌+◌, ◌-◌, List, ◌∷◌, [], length, subst, sym, ap, ◌∙◌, arith}
use Rattle.std.proofs.lemmas.Result.{err_from_is_err_and}
use Rattle.std.proofs.lemmas.List.{length-append}
use Rattle.mate_code.specs.declared.instr.Instr.{Instr}
use Rattle.mate_code.specs.Instr.{size_of}
use Rattle.mate_code.specs.Code.{decoded, decoded_from}
use Rattle.mate_code.proofs.DecodeLoop.{with_front, goes_on_slice, stops_slice, is_done_slice, size_of-first}
use Rattle.mate_code.proofs.decoding.read_all.Goals as goal

pub returns-in_err-instr : goal.returns-in_err-instr
returns-in_err-instr c =
    let t = c.args.table.now in
    let total = decoded t c.args.bytes.now in
    let count : length c.args.bytes.now - length c.instrs.instrs ≡ suc (length c.args.bytes.now - suc (length c.instrs.instrs)) = omega arith in
    let so_far = rw count at c.instrs.invariant.so_far in
    let p = err_from_is_err_and c.from_residual.result c.from_residual.ensures.1 in
    rw (p.1, p.2) (stops_slice t c.instrs.instrs (length c.args.bytes.now - suc (length c.instrs.instrs)) c.instrs.place c.instrs.rest.now c.in_err-instr.field-0.0 total c.in-len1-up.len_at_least c.in_err-instr.ensures so_far)

pub instrs-preserved : goal.instrs-preserved
instrs-preserved c =
    let t = c.args.table.now in
    let total = decoded t c.args.bytes.now in
    let i = c.in_ok-instr.instr in
    let after = c.in_ok-instr.after.now in
    let left = length c.args.bytes.now - suc (length c.instrs.instrs) in
    let pushed : length c.push.new.self ≡ length c.instrs.instrs + 1 = ap length c.push.ensures ∙ length-append c.instrs.instrs ((c.instrs.place, i) ∷ []) in
    let count : length c.args.bytes.now - length c.instrs.instrs ≡ suc left = omega arith in
    let fewer : length c.args.bytes.now - length c.push.new.self ≡ left = omega arith in
    let so_far = rw count at c.instrs.invariant.so_far in
    let all : size_of i + length after ≡ length c.instrs.rest.now = size_of-first t c.instrs.place c.instrs.rest.now i after c.in-len1-up.len_at_least c.in_ok-instr.ensures in
    let next = goes_on_slice t c.instrs.instrs left c.instrs.place c.instrs.rest.now i after total c.in-len1-up.len_at_least c.in_ok-instr.ensures so_far in
    let front : List (ℕ × Instr) → Type 0 = λ pairs. with_front pairs (decoded_from left t (c.instrs.place + size_of i) after) ≡ total in
    let ahead : ℕ → ℕ → Type 0 = λ count size. with_front c.push.new.self (decoded_from count t (c.instrs.place + size) after) ≡ total in
    let next_new : ahead left (size_of i) = subst front (sym c.push.ensures) next in
    let next_count : ahead (length c.args.bytes.now - length c.push.new.self) (size_of i) = subst (λ (count : ℕ). ahead count (size_of i)) (sym fewer) next_new in
    record {
      so_far = subst (λ (size : ℕ). ahead (length c.args.bytes.now - length c.push.new.self) size) (sym c.size.ensures) next_count;
      ends = omega (arith, c.size.ensures, all);
      count = omega (arith, pushed, all);
    }

pub returns : goal.returns
returns c =
    let t = c.args.table.now in
    is_done_slice t c.instrs.instrs (length c.args.bytes.now - length c.instrs.instrs) c.instrs.place c.instrs.rest.now (decoded t c.args.bytes.now) (omega arith) c.instrs.invariant.so_far

pub push-requires : goal.push-requires
push-requires c = omega arith

pub overflow_add-place : goal.overflow_add-place
overflow_add-place c =
    let all : size_of c.in_ok-instr.instr + length c.in_ok-instr.after.now ≡ length c.instrs.rest.now =
    size_of-first c.args.table.now c.instrs.place c.instrs.rest.now c.in_ok-instr.instr c.in_ok-instr.after.now c.in-len1-up.len_at_least c.in_ok-instr.ensures in
    omega arith

pub instrs-smaller : goal.instrs-smaller
instrs-smaller c =
    let all : size_of c.in_ok-instr.instr + length c.in_ok-instr.after.now ≡ length c.instrs.rest.now =
    size_of-first c.args.table.now c.instrs.place c.instrs.rest.now c.in_ok-instr.instr c.in_ok-instr.after.now c.in-len1-up.len_at_least c.in_ok-instr.ensures in
    omega arith
