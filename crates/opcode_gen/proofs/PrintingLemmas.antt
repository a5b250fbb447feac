-- What a pen prints that passes a text on at once, if nothing failed before.
use Rattle.std.proofs.Common.{◌≡◌, ℕ, true, false, List, Option, Result, Ok, Err, refl}
use Rattle.std.specs.Result.{is_ok}
use Rattle.mate_files.specs.Pen.{Prints}
use Rattle.mate_files.specs.Sink.{Puts}
use Rattle.mate_files.specs.declared.sink.SinkFault.{SinkFault}

pub Prints-put : (w0 w1 : Option (List ℕ)) (f0 f1 : ℕ) (r0 r1 : Result (Unit {0}) SinkFault) (bs : List ℕ) → is_ok r0 ≡ true → Puts w0 f0 w1 f1 r1 bs → Prints w0 f0 r0 w1 f1 r1 bs
Prints-put w0 w1 f0 f1 (Ok u) r1 bs going puts = record { going = puts; stopped = tt }
Prints-put w0 w1 f0 f1 (Err fault) r1 bs going puts = absurd cc

pub Prints-none : (w : Option (List ℕ)) (f : ℕ) (r : Result (Unit {0}) SinkFault) (bs : List ℕ) → is_ok r ≡ false → Prints w f r w f r bs
Prints-none w f (Ok u) bs stopped = absurd cc
Prints-none w f (Err fault) bs stopped = record { going = tt; stopped = (refl, refl, refl) }
