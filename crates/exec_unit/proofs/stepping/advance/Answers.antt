use Rattle.std.proofs.Common.{ℕ, sym, subst}
use Rattle.std.specs.Prelude.{IsTrue}
use Rattle.mate_num.specs.declared.shape.Shape.{Shape}
use Rattle.mate_code.specs.Flow.{is_in_range}
use Rattle.mate_code.specs.Verification.{is_start}
use Rattle.exec_unit.specs.Machine.{private_in}
use Rattle.exec_unit.specs.Step.{HasLengths}
use Rattle.exec_unit.proofs.MachineLemmas.{pc-is}
use Rattle.exec_unit.proofs.StepLemmas.{acted-ComesTo, has-operands, has-room}
use Rattle.exec_unit.proofs.stepping.advance.Goals as goal

pub at-instr-requires : goal.at-instr-requires
at-instr-requires c =
    let Starts : ℕ → Type 0 = λ n. IsTrue (is_start c.args.code.now.code n) in
    subst Starts (pc-is c.args.registers.now c.args.memory.now) c.requires.fits.start

pub act-requires-clause-operands : goal.act-requires-clause-operands
act-requires-clause-operands c =
    has-operands c.args.code.now c.args.registers.now c.args.memory.now c.at-instr.result.now c.requires.fits c.has_depth.ensures c.at-instr.ensures.right c.shape.ensures.value

pub act-requires-clause-room : goal.act-requires-clause-room
act-requires-clause-room c =
    has-room c.args.code.now c.args.registers.now c.args.memory.now c.at-instr.result.now c.requires.fits c.has_depth.ensures c.at-instr.ensures.right c.shape.ensures.value

pub act-requires-clause-names : goal.act-requires-clause-names
act-requires-clause-names c =
    let Named : Shape → Type 0 = λ s. IsTrue (is_in_range s c.at-instr.result.now) in subst Named (sym c.shape.ensures.value) c.at-instr.ensures.right.names

pub act-requires-clause-lengths : goal.act-requires-clause-lengths
act-requires-clause-lengths c = let Long : Shape → Type 0 = λ s. HasLengths s c.args.heap.now in subst Long (sym c.shape.ensures.value) c.requires.lengths

pub act-requires-clause-within : goal.act-requires-clause-within
act-requires-clause-within c = c.at-instr.ensures.within

pub returns : goal.returns
returns c =
    acted-ComesTo c.act.result c.args.code.now c.shape.result.now c.args.registers.now.place c.at-instr.result.now (private_in c.args.registers.now c.args.memory.now) (private_in c.act.new.registers c.act.new.memory)
    c.args.heap.now c.act.new.heap c.requires.fits c.requires.lengths (sym (pc-is c.args.registers.now c.args.memory.now))
    c.at-instr.ensures.value c.at-instr.ensures.right c.at-instr.ensures.fits c.shape.ensures.value c.act.ensures
