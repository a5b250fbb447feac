-- What the taking of a value leaves of a buffer that has none.
use Rattle.std.proofs.Common.{◌≡◌, ℕ, ◌-◌, ℤ, List, [], ◌∷◌, Option, Some, Ok, Err, length, get_or, ap, sym, ◌∙◌, refl, arith}
use Rattle.std.specs.List.{slice_get}
use Rattle.std.specs.Option.{ok_or}
use Rattle.std.proofs.Math.ListN.{set}
use Rattle.std.proofs.lemmas.List.{set-get_or}
use Rattle.std.proofs.lemmas.Option.{slice_get-get_or}
use Rattle.arrayvec.specs.ArrayVec.{ArrayVec}
use Rattle.mate_num.specs.Store.{payload, buffer_at, set_buffer, last_of, without_last}
use Rattle.mate_num.specs.declared.call.FaultKind.{FaultKind}
use Rattle.mate_num.specs.declared.call.FaultKind.TheVariants.{BufferEmpty}
use Rattle.mate_num.specs.declared.store.Store.{Store}

no-last : (cell : List ℤ) (kind : FaultKind) → last_of cell ≡ Err kind → cell ≡ []
no-last [] kind e = refl
no-last (x ∷ cell) kind e =
    let some : slice_get (x ∷ cell) (length (x ∷ cell) - 1) ≡ Some (get_or (x ∷ cell) (length (x ∷ cell) - 1) x) = slice_get-get_or (x ∷ cell) (length (x ∷ cell) - 1) x (omega arith) in
    let found : last_of (x ∷ cell) ≡ Ok (get_or (x ∷ cell) (length (x ∷ cell) - 1) x) = ap (λ (o : Option ℤ). ok_or o BufferEmpty) some in
    cc

empty-same : (s : Store) (b : ℕ) → buffer_at s b ≡ [] → set_buffer s b [] ≡ s
empty-same s b empty =
    let same : payload [] ≡ get_or s.buffers.items b (payload []) = ap payload (sym empty) in
    ap (λ (xs : List (ArrayVec ℤ)). record { shared = s.shared; buffers = record { items = xs } })
    (ap (λ (x : ArrayVec ℤ). set s.buffers.items b x) same ∙ set-get_or s.buffers.items b (payload []))

-- a buffer without a last value stays as it was
pub untaken-same : (s t : Store) (b : ℕ) (kind : FaultKind) → last_of (buffer_at s b) ≡ Err kind → t ≡ set_buffer s b (without_last (buffer_at s b)) → t ≡ s
untaken-same s t b kind none left =
    let empty : buffer_at s b ≡ [] = no-last (buffer_at s b) kind none in
    left ∙ ap (λ (xs : List ℤ). set_buffer s b (without_last xs)) empty ∙ empty-same s b empty
