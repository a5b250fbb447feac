-- A run or a text that was written, and how that ended.
use Rattle.std.proofs.Common.{◌≡◌, ℕ, Bool, true, false, List, Result, Ok, Err, refl, subst, sym}
use Rattle.mate_files.specs.Sink.{Puts}
use Rattle.mate_files.specs.declared.sink.SinkFault.{SinkFault}
use Rattle.mate_files.specs.declared.sink.SinkFault.TheVariants.{Failed, NoMemory as OutOfMemory}
use Rattle.mate_cli.specs.Ends.{SinkState, IsTextWritten, done, full, failed, wanting, IsRunWritten, whole, stopped, unwritten, cut, ending_of}
use Rattle.report_writer.specs.Writing.{OfRun, WritesRun, write_ended}
use Rattle.report_writer.specs.declared.write_fault.WriteFault.{WriteFault}
use Rattle.report_writer.specs.declared.write_fault.WriteFault.TheVariants.{LogFull, NoMemory, Sink}
use Rattle.vm_shape.specs.declared.description.Description.{Description}

pub run-written : (d : Description) (Is : OfRun) (s t : SinkState) (result : Result (Unit {0}) WriteFault) → WritesRun d Is s.written t.written s.faults t.faults result
    → IsRunWritten d Is s t (ending_of result)
run-written d Is s t (Ok all) w = whole w.report w.gives.0 w.gives.1 refl
run-written d Is s t (Err LogFull) w = stopped w.report w.gives.0 w.gives.1 refl
run-written d Is s t (Err NoMemory) w = cut w.report w.gives refl
run-written d Is s t (Err Sink) w = unwritten w.report w.gives.0 w.gives.1 refl

-- a text that tells of a whole run, or of one that a full log ended
text-ended : (bs : List ℕ) (all : Bool) (s t : SinkState) (put : Result (Unit {0}) SinkFault) → Puts s.written s.faults t.written t.faults put bs
    → IsTextWritten bs all s t (ending_of (write_ended all put))
text-ended bs true s t (Ok put) p = done refl p.writes refl
text-ended bs false s t (Ok put) p = full refl p.writes refl
text-ended bs true s t (Err Failed) p = failed p.short p.cause refl
text-ended bs false s t (Err Failed) p = failed p.short p.cause refl
text-ended bs true s t (Err OutOfMemory) p = wanting p.writes refl
text-ended bs false s t (Err OutOfMemory) p = wanting p.writes refl

pub text-written : (bs : List ℕ) (all : Bool) (s t : SinkState) (put : Result (Unit {0}) SinkFault) (ended : Result (Unit {0}) WriteFault) → Puts s.written s.faults t.written t.faults put bs → ended ≡ write_ended all put
    → IsTextWritten bs all s t (ending_of ended)
text-written bs all s t put ended p is =
    subst (λ (r : Result (Unit {0}) WriteFault). IsTextWritten bs all s t (ending_of r)) (sym is) (text-ended bs all s t put p)
