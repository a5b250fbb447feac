-- Instructions at a place of the code.
use Rattle.std.proofs.Common.{◌≡◌, ℕ, ◌+◌, ◌<◌, ◌++◌, List, [], ◌∷◌, Some, refl, arith, subst, eq-eqb, ne_eqb}
use Rattle.std.specs.Prelude.{◌==◌, ⊤, false, true}
use Rattle.mate_code.specs.declared.instr.Instr.{Instr}
use Rattle.mate_code.specs.Code.{placed}
use Rattle.mate_code.specs.Instr.{size_of}
use Rattle.mate_code.specs.Run.{Code, fetch}
use Rattle.ts_semantics.specs.Translation.{size_of_instrs}

-- the instructions stand in the code, one after another, from this place on
abbrev pub StandsAt : Code → ℕ → List Instr → Type 0
StandsAt code place [] = ⊤
StandsAt code place (i ∷ is) = (fetch code place ≡ Some i) × StandsAt code (place + size_of i) is

-- the same place, under another name
pub stands-at : (code : Code) (is : List Instr) (p q : ℕ) → p ≡ q → StandsAt code p is → StandsAt code q is
stands-at code is p q e stands = subst (λ (n : ℕ). StandsAt code n is) e stands

-- the first of them stand there
pub stands-front : (code : Code) (place : ℕ) (xs ys : List Instr) → StandsAt code place (xs ++ ys) → StandsAt code place xs
stands-front code place [] ys stands = tt
stands-front code place (i ∷ xs) ys stands = (stands.0, stands-front code (place + size_of i) xs ys stands.1)

-- the others stand behind those
pub stands-back : (code : Code) (place : ℕ) (xs ys : List Instr) → StandsAt code place (xs ++ ys) → StandsAt code (place + size_of_instrs xs) ys
stands-back code place [] ys stands = stands-at code ys place (place + 0) (omega arith) stands
stands-back code place (i ∷ xs) ys stands =
    stands-at code ys (place + size_of i + size_of_instrs xs) (place + size_of_instrs (i ∷ xs)) (omega arith) (stands-back code (place + size_of i) xs ys stands.1)

-- an instruction more in front of the code moves none of them
stands-behind : (code : Code) (first : ℕ) (x : Instr) (place : ℕ) (is : List Instr) → first < place → StandsAt code place is → StandsAt ((first, x) ∷ code) place is
stands-behind code first x place [] before stands = tt
stands-behind code first x place (i ∷ is) before stands =
    let apart : first == place ≡ false = ne_eqb first place (λ e. absurd (omega arith)) in
    let here : fetch ((first, x) ∷ code) place ≡ Some i = rw apart stands.0 in
    (here, stands-behind code first x (place + size_of i) is (omega arith) stands.1)

-- instructions stand where they are placed
pub placed-StandsAt : (place : ℕ) (is : List Instr) → StandsAt (placed place is) place is
placed-StandsAt place [] = tt
placed-StandsAt place (i ∷ is) =
    let same : place == place ≡ true = eq-eqb place place refl in
    let here : fetch (placed place (i ∷ is)) place ≡ Some i = rw same refl in
    (here, stands-behind (placed (place + size_of i) is) place i (place + size_of i) is (omega arith) (placed-StandsAt (place + size_of i) is))
