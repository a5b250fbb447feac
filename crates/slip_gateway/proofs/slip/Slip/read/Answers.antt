use Rattle.std.proofs.Common.{arith}
use Rattle.slip_gateway.proofs.FedLemmas.{HasRead, has_read_none, has_read_next, has_read_all, ends_next}
use Rattle.slip_gateway.proofs.slip.Slip.read.Goals as goal

pub loop-byte-init : goal.loop-byte-init
loop-byte-init c = (has_read_none c.args.self.now c.args.into.now.items, c.requires)

pub take_byte-requires : goal.take_byte-requires
take_byte-requires c =
    let next = ends_next c.args.piece.now c.loop-byte.byte-index c.loop-byte-test.true in
    let room = c.loop-byte.invariant.1 in
    omega arith

pub loop-byte-preserved : goal.loop-byte-preserved
loop-byte-preserved c =
    let next = ends_next c.args.piece.now c.loop-byte.byte-index c.loop-byte-test.true in
    let room = c.loop-byte.invariant.1 in
    let len = c.take_byte.ensures.len in
    let capacity = c.take_byte.ensures.capacity in (
      has_read_next c.args.self.now c.loop-byte.self c.take_byte.new.self c.args.into.now.items c.loop-byte.into.items c.take_byte.new.into.items
          c.args.piece.now c.loop-byte.byte-index c.loop-byte-test.true c.loop-byte.invariant.0 c.take_byte.ensures.reads,
      omega arith,
    )

pub returns : goal.returns
returns c =
    let all : HasRead c.args.self.now c.loop-byte.self c.args.into.now.items c.loop-byte.into.items c.args.piece.now =
    has_read_all c.args.self.now c.loop-byte.self c.args.into.now.items c.loop-byte.into.items c.args.piece.now c.loop-byte.byte-index
    c.loop-byte-test.false c.loop-byte.invariant.0 in
    all.reads
