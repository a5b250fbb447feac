-- What a pen does that prints a text into a sink.
use Rattle.std.specs.Prelude.{◌≡◌, ℕ, List, Option, Result, Err, OnOk, IfErr}
pub use Rattle.hex.specs.Hex.{encode_lower}
use Rattle.mate_files.specs.Sink.{Puts}
use Rattle.mate_files.specs.declared.sink.SinkFault.{SinkFault}

-- a pen prints bs: as one write does while nothing failed, and not at all after a fault
pub record Prints (written : Option (List ℕ)) (faults : ℕ) (result : Result (Unit {0}) SinkFault) (written' : Option (List ℕ))
    (faults' : ℕ) (result' : Result (Unit {0}) SinkFault) (bs : List ℕ) : Type 0 where
  pub going : OnOk result (Puts written faults written' faults' result' bs)
  pub stopped : IfErr result (λ fault. (written' ≡ written) × (faults' ≡ faults) × (result' ≡ Err fault))
