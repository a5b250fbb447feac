-- What a read of a named file gives.
use Rattle.std.specs.Prelude.{◌≡◌, ℕ, ◌≤◌, ◌<◌, Bool, List, length, Option, None, Some, IsTrue, IsSomeAnd, Result, Ok, Err, ⊤, MatchOption}
use Rattle.std.specs.Global.{Vec}
use Rattle.mate_files.specs.Counts.{Rose, one_more}
use Rattle.mate_files.specs.declared.files.FilesFault.{FilesFault}
use Rattle.mate_files.specs.declared.files.FilesFault.TheVariants.{Failed, TooLarge, NoMemory}
use Rattle.mate_files.specs.declared.files.TheConstants.{FILE_MAX}

-- the bytes of each name that has some
abbrev pub Names : Type 0
Names = List ℕ → Option (List ℕ)

-- a fact of the names, if these are given
abbrev pub WhereTold : Option Names → (Names → Type 0) → Type 0
WhereTold told P = MatchOption told ⊤ P

-- what a read of `name` gives, where the count of faults was `before` and is `now`
abbrev pub ReadGives : Option Names → Bool → List ℕ → ℕ → ℕ → Result (Vec ℕ) FilesFault → Type 0
ReadGives told steady name before now (Ok bytes) = (length bytes.items ≤ FILE_MAX) × WhereTold told (λ names. names name ≡ Some bytes.items)
ReadGives told steady name before now (Err Failed) = Rose before now × (IsTrue steady → WhereTold told (λ names. names name ≡ None))
ReadGives told steady name before now (Err (TooLarge len)) =
    Rose before now × (FILE_MAX < len) × WhereTold told (λ names. IsSomeAnd (names name) (λ bytes. length bytes ≡ len))
ReadGives told steady name before now (Err NoMemory) = ⊤

-- the count of faults after a read that counts one if a file fails or is too large
abbrev pub faults_after : ℕ → Result (Vec ℕ) FilesFault → ℕ
faults_after faults (Ok _) = faults
faults_after faults (Err Failed) = one_more faults
faults_after faults (Err (TooLarge _)) = one_more faults
faults_after faults (Err NoMemory) = faults
