-- 16-bit numbers: whole-number arithmetic, wrapped, and the truth values 1 and 0.
use Rattle.std.specs.Prelude.{◌≡◌, ℕ, zero, suc, ◌*◌, ℤ, pos, negsuc, ◌+ℤ◌, ◌≤ℤ◌, ◌==◌, Bool, true, false, Option, Some, None, int_div, int_rem}
use Rattle.std.specs.Int.{w16, int_wrap}
use Rattle.mate_num.specs.declared.num16.Num16.{Num16}

-- the number from -32768 to 32767 that equals n modulo 65536
abbrev pub wrap : ℤ → ℤ
wrap n = int_wrap w16 n

-- n is a 16-bit number
pub record IsNumber (n : ℤ) : Type 0 where
  pub low : negsuc 32767 ≤ℤ n
  pub high : n ≤ℤ pos 32767

-- a and b differ by a multiple of 65536
abbrev pub IsCongruent : ℤ → ℤ → Type 0
IsCongruent a b = (j : ℕ) × (k : ℕ) × (a +ℤ pos (j * 65536) ≡ b +ℤ pos (k * 65536))

-- n as a value of the program
abbrev pub num : ℤ → Num16
num n = record { 0 = n }

-- a / b, towards zero; nothing by 0
abbrev pub quotient : ℤ → ℤ → Option Num16
quotient a (pos zero) = None
quotient a (pos (suc b)) = Some (num (wrap (int_div a (pos (suc b)))))
quotient a (negsuc b) = Some (num (wrap (int_div a (negsuc b))))

-- a % b, which has the sign of a; nothing by 0
abbrev pub remainder : ℤ → ℤ → Option Num16
remainder a (pos zero) = None
remainder a (pos (suc b)) = Some (num (int_rem a (pos (suc b))))
remainder a (negsuc b) = Some (num (int_rem a (negsuc b)))

-- every number but 0 counts as true
abbrev pub is_truth : ℤ → Bool
is_truth (pos zero) = false
is_truth _ = true

-- true is 1, false is 0
abbrev pub truth : Bool → Num16
truth true = num (pos 1)
truth false = num (pos 0)

-- a = b, as a test
abbrev pub int_same : ℤ → ℤ → Bool
int_same (pos a) (pos b) = a == b
int_same (negsuc a) (negsuc b) = a == b
int_same _ _ = false
