-- A sink outside: what its state shows.
use Rattle.std.specs.Prelude.{ℕ}
use Rattle.mate_files.specs.declared.os_sink.OsSink.{OsSink}

-- the writer that takes the bytes
abbrev pub writer_of : {W : Type 0} → OsSink W → W
writer_of sink = sink.writer

-- how many writes failed
abbrev pub faults_of : {W : Type 0} → OsSink W → ℕ
faults_of sink = sink.faults
