use Rattle.std.proofs.Common.{[], refl}
use Rattle.std.specs.Prelude.{option_to_list}
use Rattle.slip_gateway.proofs.FedLemmas.{reads_inner, reads_end, fed_byte, frame_of_byte}
use Rattle.slip_gateway.proofs.slip.Slip.read_byte.Goals as goal

pub returns-then-byte-ne-END-clause-reads : goal.returns-then-byte-ne-END-clause-reads
returns-then-byte-ne-END-clause-reads c = λ begun h. reads_inner c.args.self.now c.push.new.self begun c.args.byte [] c.if-byte-ne-END.true c.push.ensures h

pub returns-then-byte-ne-END-clause-fed : goal.returns-then-byte-ne-END-clause-fed
returns-then-byte-ne-END-clause-fed c = λ fed. fed_byte c.args.self.now c.push.new.self fed c.args.byte (λ begun h. (returns-then-byte-ne-END-clause-reads c begun h).0)

pub returns-then-byte-ne-END-clause-frame : goal.returns-then-byte-ne-END-clause-frame
returns-then-byte-ne-END-clause-frame c = λ fed. frame_of_byte c.args.self.now [] fed c.args.byte (λ begun h. (returns-then-byte-ne-END-clause-reads c begun h).1)

pub returns-clause-reads : goal.returns-clause-reads
returns-clause-reads c =
    λ begun h. reads_end c.args.self.now c.close.new.self begun c.args.byte c.close.result [] (option_to_list c.close.result)
    c.if-byte-ne-END.false c.close.ensures.after c.close.ensures.frame c.close.ensures.fits refl h

pub returns-clause-fed : goal.returns-clause-fed
returns-clause-fed c = λ fed. fed_byte c.args.self.now c.close.new.self fed c.args.byte (λ begun h. (returns-clause-reads c begun h).0)

pub returns-clause-frame : goal.returns-clause-frame
returns-clause-frame c = λ fed. frame_of_byte c.args.self.now (option_to_list c.close.result) fed c.args.byte (λ begun h. (returns-clause-reads c begun h).1)
