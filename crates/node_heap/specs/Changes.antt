-- What a call leaves that changes a buffer or is refused.
use Rattle.std.specs.Prelude.{◌≡◌, ℕ, ℤ, List, Result, Ok, Err, ⊤}
use Rattle.mate_num.specs.declared.store.Store.{Store}
use Rattle.mate_num.specs.declared.call.FaultKind.{FaultKind}
use Rattle.mate_num.specs.Store.{set_buffer}

-- the buffer has the new values; or the call gives the fault, and leaves the store
abbrev pub ChangesBuffer : Store → ℕ → Result (List ℤ) FaultKind → Result ⊤ FaultKind → Store → Type 0
ChangesBuffer old buf (Ok values) result new = (result ≡ Ok tt) × (new ≡ set_buffer old buf values)
ChangesBuffer old buf (Err kind) result new = (result ≡ Err kind) × (new ≡ old)
