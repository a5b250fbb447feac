use Rattle.std.proofs.Common.{◌≡◌, ◌∙◌, ◌<◌, ◌+◌, ℕ, ℤ, pos, negsuc, nat_abs, length, ap, sym, arith, List, subst}
use Rattle.std.proofs.lemmas.Int.{to_z-of_z}
use Rattle.std.specs.Int.{w16, FitsUnsignedBits, cast_signed, cast_unsigned}
use Rattle.node_heap.proofs.HeapLemmas.{Opened, set_item-Changes}
use Rattle.node_heap.proofs.heap.Heap.set_item.Goals as goal

is_pos : (z : ℤ) (i : ℕ) → FitsUnsignedBits 64 z → i ≡ nat_abs z → z ≡ pos i
is_pos (pos n) i fits e = ap (λ (k : ℕ). pos k) (sym e)
is_pos (negsuc n) i fits e = absurd (omega (arith, fits))

pub returns-in-Ok : goal.returns-in-Ok
returns-in-Ok c =
    let o : Opened c.self.inside c.args.self.now = record { is = c.self.invariant; values = c.self.told.0; lengths = c.self.told.1; view = c.self.view_is } in
    let same = to_z-of_z w16 c.args.index c.ranges.index in
    let e : c.args.index ≡ pos c.in-Ok.i = sym same ∙ is_pos (cast_signed w16 (cast_unsigned w16 c.args.index)) c.in-Ok.i c.in-Ok.ensures.0 c.in-Ok.ensures.1 in
    let P : List ℤ → Type 0 = λ xs. c.in-Ok.i < length xs in
    set_item-Changes o c.args.buf.0 c.requires _ c.in-Ok.i c.args.index c.args.value _ (to_z-of_z w16 c.args.value c.ranges.value) e
    (subst P c.buffer_values-size.ensures.value c.if-i-size.true) (ap (λ (k : ℕ). k + c.in-Ok.i) c.start_of.ensures)
