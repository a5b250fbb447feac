-- How an answer of the program is what a check gives, unless memory runs out.
use Rattle.std.specs.Prelude.{◌≡◌, Result, Ok, Err, ⊤}
use Rattle.ts_checker.specs.declared.fault.CheckFault.{CheckFault}
use Rattle.ts_checker.specs.declared.fault.CheckFault.TheVariants.{NoMemory}

-- the check refuses with this fault; nothing is said if the fault is lack of memory
abbrev pub RefusesScript : {B : Type 0} → CheckFault → Result B CheckFault → Type 0
RefusesScript NoMemory check = ⊤
RefusesScript fault check = check ≡ Err fault

-- an answer of the program, seen by view, is what the check gives
abbrev pub GivesChecked : {A B : Type 0} → (A → B) → Result A CheckFault → Result B CheckFault → Type 0
GivesChecked view (Ok x) check = check ≡ Ok (view x)
GivesChecked view (Err e) check = RefusesScript e check
