-- Lemmas on 16-bit numbers: a quotient wraps as the machine's division does, and `wrap` is the residue.
use Rattle.std.proofs.Common.{◌≡◌, ℕ, zero, suc, ◌+◌, ◌-◌, ◌*◌, ◌/◌, ◌%◌, ◌<◌, ◌≤◌, ℤ, pos, negsuc, neg_ℤ, ◌≤ℤ◌, ◌+ℤ◌, FitsSigned, int_div, Some, Result, Ok, ap, sym, ◌∙◌, refl, arith, subst, inl, inr, lit<, lit≤}
use Rattle.std.specs.Int.{w16, int_wrap, cast_signed, cast_unsigned, int_wrapping_div}
use Rattle.std.proofs.lemmas.Int.{ints, to_z-of_z, int_wrap_fits, SFits-int_wrap}
use native.Mathlib.Nat.{div-le_self, eq-or-lt_of_le, mod-lt}
use Rattle.std.proofs.lemmas.Bool.{cases_lt}
use Rattle.mate_num.specs.Number.{wrap, IsNumber, IsCongruent, quotient, num}
use Rattle.mate_num.specs.declared.call.FaultKind.{FaultKind}
use Rattle.mate_num.specs.declared.num16.Num16.{Num16}

-- a quotient of 16-bit numbers: one past the greatest at most
abbrev IsNear : ℤ → Type 0
IsNear (pos n) = n ≤ 32768
IsNear (negsuc n) = n < 32768

near-neg : (n : ℕ) → n ≤ 32768 → IsNear (neg_ℤ (pos n))
near-neg zero h = lit≤ tt
near-neg (suc n) h = omega arith

cast_fits : (z : ℤ) → FitsSigned w16 z → cast_signed w16 (cast_unsigned w16 z) ≡ wrap z
cast_fits z fits = to_z-of_z w16 z fits ∙ sym (int_wrap_fits w16 z fits)

cast_edge : cast_signed w16 (cast_unsigned w16 (pos 32768)) ≡ wrap (pos 32768)
unfolding int_wrap
cast_edge = refl

cast_of_near : (z : ℤ) → IsNear z → cast_signed w16 (cast_unsigned w16 z) ≡ wrap z
cast_of_near (negsuc n) near = cast_fits (negsuc n) record { sfits = near }
cast_of_near (pos n) near =
    elim (eq-or-lt_of_le near) [
      | inl e ↦ let P : ℕ → Type 0 = λ m. cast_signed w16 (cast_unsigned w16 (pos m)) ≡ wrap (pos m) in
          subst P (sym e) cast_edge
      | inr lt ↦ cast_fits (pos n) record { sfits = lt }
    ]

div_near : (a b : ℤ) → FitsSigned w16 a → IsNear (int_div a b)
div_near (pos a) (pos b) f = let h : a / b ≤ a = div-le_self a b in let g : a < 32768 = f.sfits in omega arith
div_near (pos a) (negsuc b) f =
    near-neg (a / suc b) (let h : a / suc b ≤ a = div-le_self a (suc b) in let g : a < 32768 = f.sfits in omega arith)
div_near (negsuc a) (pos b) f =
    near-neg (suc a / b) (let h : suc a / b ≤ suc a = div-le_self (suc a) b in let g : a < 32768 = f.sfits in omega arith)
div_near (negsuc a) (negsuc b) f =
    let h : suc a / suc b ≤ suc a = div-le_self (suc a) (suc b) in let g : a < 32768 = f.sfits in omega arith

-- what the code's division gives, at a divisor that is not 0
quotient_by : (a b r : ℤ) → FitsSigned w16 a → (cast_unsigned w16 b ≡ 0 → ⊥) → r ≡ wrap (int_div a b) → Some (num r) ≡ quotient a b
quotient_by a (pos zero) r f nonzero e = absurd (nonzero refl)
quotient_by a (pos (suc b)) r f nonzero e = ap (λ (n : ℤ). Some (num n)) e
quotient_by a (negsuc b) r f nonzero e = ap (λ (n : ℤ). Some (num n)) e

pub quotient_is : (a b r : ℤ) → FitsSigned w16 a → (cast_unsigned w16 b ≡ 0 → ⊥) → r ≡ int_wrapping_div w16 a b → Some (num r) ≡ quotient a b
quotient_is a b r f nonzero e = quotient_by a b r f nonzero (e ∙ cast_of_near (int_div a b) (div_near a b f))

-- what `wrap` means: the residue that is a 16-bit number
pub wrap-IsNumber : (n : ℤ) → IsNumber (wrap n)
wrap-IsNumber n = let h : FitsSigned w16 (wrap n) = SFits-int_wrap w16 n in record { low = omega (arith, ints); high = omega (arith, ints) }

high_residue : (m : ℕ) → 32768 ≤ m → m < 65536 → cast_signed w16 m +ℤ pos (1 * 65536) ≡ pos m
high_residue m high h = grind (arith, ints)

signed_residue : (m : ℕ) → m < 65536 → (j : ℕ) × (cast_signed w16 m +ℤ pos (j * 65536) ≡ pos m)
signed_residue m h =
    elim (cases_lt m 32768) [
      | inl low ↦ (0, omega (arith, ints))
      | inr high ↦ (1, high_residue m high h)
    ]

pub wrap-IsCongruent : (n : ℤ) → IsCongruent (wrap n) n
unfolding int_wrap
wrap-IsCongruent (pos a) =
    let m : ℕ = a % 65536 in
    let r : (j : ℕ) × (cast_signed w16 m +ℤ pos (j * 65536) ≡ pos m) = signed_residue m (mod-lt a (lit< tt)) in
    let e = r.1 in
    (r.0 + a / 65536, 0, omega (arith, ints))
wrap-IsCongruent (negsuc a) =
    let m : ℕ = 65536 - 1 - a % 65536 in
    let r : (j : ℕ) × (cast_signed w16 m +ℤ pos (j * 65536) ≡ pos m) = signed_residue m (omega arith) in
    let e = r.1 in
    (r.0, suc (a / 65536), omega (arith, ints))

-- two 16-bit numbers that differ by a multiple of 65536 are one
same_residue : (a b : ℤ) (j k : ℕ) → IsNumber a → IsNumber b → a +ℤ pos (j * 65536) ≡ b +ℤ pos (k * 65536) → a ≡ b
same_residue a b j k h i e =
    let la : negsuc 32767 ≤ℤ a = h.low in
    let lb : negsuc 32767 ≤ℤ b = i.low in
    let ha : a ≤ℤ pos 32767 = h.high in
    let hb : b ≤ℤ pos 32767 = i.high in
    omega (arith, ints)

pub wrap-only : (m n : ℤ) → IsNumber m → IsCongruent m n → m ≡ wrap n
wrap-only m n h c =
    let w : IsCongruent (wrap n) n = wrap-IsCongruent n in
    let e : m +ℤ pos (c.0 * 65536) ≡ n +ℤ pos (c.1 * 65536) = c.2 in
    let f : wrap n +ℤ pos (w.0 * 65536) ≡ n +ℤ pos (w.1 * 65536) = w.2 in
    same_residue m (wrap n) (c.0 + w.1) (w.0 + c.1) h (wrap-IsNumber n) (omega (arith, ints))

-- the value that a function gives is the operator's
pub value-is : (v w : Num16) → v ≡ w → ◌≡◌ {A = Result ℤ FaultKind} (Ok w.0) (Ok v.0)
value-is v w e = ap (λ (n : Num16). Ok n.0) (sym e)
