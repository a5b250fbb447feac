use Rattle.std.proofs.Common.{◌+◌, length, arith}
use Rattle.std.proofs.lemmas.List.{length-take-le}
use Rattle.mate_code.proofs.DecodeLaws.{IsDecoded-decoded}
use Rattle.code_verifier.proofs.SizeLemmas.{decoded-AreFrom, decoded-size}
use Rattle.code_verifier.proofs.PassLemmas.{read-IsVerifiedCode}
use Rattle.code_verifier.proofs.verifier.read.Goals as goal

pub pass-requires-clause-from : goal.pass-requires-clause-from
pass-requires-clause-from c =
    decoded-AreFrom c.args.table.now c.args.bytes.now c.read.new.self
    (IsDecoded-decoded c.args.table.now c.args.bytes.now c.read.new.self (λ i. omega (arith, c.type_inv.bytes i)) c.in_default.ensures)

pub pass-requires-clause-fits : goal.pass-requires-clause-fits
pass-requires-clause-fits c =
    let size = decoded-size c.args.table.now c.args.bytes.now c.read.new.self
    (IsDecoded-decoded c.args.table.now c.args.bytes.now c.read.new.self (λ i. omega (arith, c.type_inv.bytes i)) c.in_default.ensures) in
    omega (arith, size)

pub pass-requires-clause-marks : goal.pass-requires-clause-marks
pass-requires-clause-marks c =
    let size = decoded-size c.args.table.now c.args.bytes.now c.read.new.self
    (IsDecoded-decoded c.args.table.now c.args.bytes.now c.read.new.self (λ i. omega (arith, c.type_inv.bytes i)) c.in_default.ensures) in
    let room = length-take-le (length c.args.bytes.now + 1) c.args.marks.now (omega arith) in
    omega (arith, size, room)

pub returns-then-branch : goal.returns-then-branch
returns-then-branch c =
    read-IsVerifiedCode c.args.shape.now c.args.table.now c.args.bytes.now c.read.new.self c.in_ok-pass.field-0 c.requires
    (λ i. omega (arith, c.type_inv.bytes i)) (omega arith) c.in_default.ensures c.in_ok-pass.ensures c.if-branch.true
