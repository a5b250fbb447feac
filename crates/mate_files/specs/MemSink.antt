-- A sink in memory: what its state shows, and how calls change it.
use Rattle.std.specs.Prelude.{ℕ, List, [], ◌∷◌, Option, Some, Contains}
use Rattle.mate_files.specs.Counts.{one_more}
use Rattle.mate_files.specs.declared.mem_sink.MemSink.{MemSink}

-- the bytes that were written
abbrev pub bytes_of : MemSink → List ℕ
bytes_of sink = sink.bytes.items

-- the bytes that were written, which are always known
abbrev pub sink_told : MemSink → Option (List ℕ)
sink_told sink = Some (bytes_of sink)

-- the numbers of the writes that are to fail, from 1
abbrev pub failing_of : MemSink → List ℕ
failing_of sink = sink.failing.items

-- how many writes were made
abbrev pub calls_of : MemSink → ℕ
calls_of sink = sink.calls

-- how many writes failed
abbrev pub write_faults : MemSink → ℕ
write_faults sink = sink.faults

-- how many writes were made after one more of these bytes; one of no bytes isn't counted
abbrev pub writes_made : ℕ → List ℕ → ℕ
writes_made calls [] = calls
writes_made calls (_ ∷ _) = one_more calls

-- a write of these bytes has a listed number
abbrev pub IsToFail : MemSink → List ℕ → Type 0
IsToFail sink [] = ⊥
IsToFail sink (_ ∷ _) = Contains (failing_of sink) (one_more (calls_of sink))
