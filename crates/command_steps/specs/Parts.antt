-- The parts that commands share: the bytes of a file, the machine of a word, and a machine's handler.
use Rattle.std.specs.Prelude.{◌≡◌, ◌≢◌, ℕ, ◌<◌, ◌≤◌, Bool, List, length, position, Option, Some, None, Result, Ok, Err, IsTrue, IsSomeAnd}
use Rattle.std.specs.Prelude.{◌⊎◌, ⊤}
use Rattle.std.specs.Global.{Vec}
use Rattle.std.specs.Str.{bytes_eq}
use Rattle.mate_num.specs.declared.id.HandlerId.{HandlerId}
use Rattle.vm_desc.specs.Text.{IsDescribed, description_of}
use Rattle.vm_shape.specs.Whole.{parts_of, builtin_parts}
use Rattle.vm_shape.specs.declared.description.Description.{Description}
use Rattle.mate_files.specs.Counts.{Rose}
use Rattle.mate_files.specs.Files.{Names, WhereTold}
use Rattle.mate_files.specs.declared.files.TheConstants.{FILE_MAX}
use Rattle.command_line.specs.Commands.{builtin_word}
use Rattle.command_refusals.specs.DescriptionCauses.{fault_told}
use Rattle.command_refusals.specs.declared.cause.Unread.{Unread}
use Rattle.command_refusals.specs.declared.cause.Unread.TheVariants.{Failed, Large}
use Rattle.command_refusals.specs.declared.cause.Cause.{Cause}
use Rattle.command_refusals.specs.declared.cause.Cause.TheVariants as cause
use Rattle.command_refusals.specs.declared.refusal.Refusal.{Refusal}
use Rattle.command_refusals.specs.declared.refusal.Refusal.TheVariants.{Usage, BadDescription, InFile}
use Rattle.command_steps.specs.Steps.{judged, obtained, ◌▸◌}

-- ---- files

-- the files that are handed in: what they hold, if that is given, and whether a read fails by that alone
pub record Folder : Type 0 where
  pub told : Option Names
  pub steady : Bool

abbrev pub IsRead : Folder → List ℕ → Vec ℕ → Type 0
IsRead f name bytes = (length bytes.items ≤ FILE_MAX) × WhereTold f.told (λ names. names name ≡ Some bytes.items)

-- steady files fail exactly at a name that they don't hold, and are too large exactly if they hold more bytes
abbrev pub IsUnread : Folder → List ℕ → Unread → Type 0
IsUnread f name Failed = IsTrue f.steady → WhereTold f.told (λ names. names name ≡ None)
IsUnread f name Large = WhereTold f.told (λ names. IsSomeAnd (names name) (λ bytes. FILE_MAX < length bytes))

-- the bytes of a file
abbrev pub file : Folder → List ℕ → Result (Vec ℕ) Refusal → Type 0
file f name = judged (IsRead f name) (IsUnread f name) (λ why. InFile name (cause.Unread why))

-- a file could not be read
abbrev pub IsUnreadCause : Cause → Type 0
IsUnreadCause (cause.Unread why) = ⊤
IsUnreadCause _ = ⊥

abbrev pub IsUnreadAnswer : {A : Type 0} → Result A Refusal → Type 0
IsUnreadAnswer (Ok a) = ⊥
IsUnreadAnswer (Err (InFile name why)) = IsUnreadCause why
IsUnreadAnswer (Err _) = ⊥

-- a call that reads files leaves them as they are, and can't read one only if their count of faults rose in it
pub record ReadsFiles {A : Type 0} (told : Option Names) (steady : Bool) (faults : ℕ) (told' : Option Names) (steady' : Bool)
    (faults' : ℕ) (answer : Result A Refusal) : Type 0 where
  pub same_told : told' ≡ told
  pub same_steady : steady' ≡ steady
  pub later : faults ≤ faults'
  pub counted : IsUnreadAnswer answer → Rose faults faults'

-- ---- machines

-- the built-in machine
abbrev pub built_in : Result Description Refusal → Type 0
built_in = obtained (λ d. parts_of d ≡ builtin_parts)

-- the machine that a text describes
abbrev pub machine_text : List ℕ → Result Description Refusal → Type 0
machine_text bytes = judged (IsDescribed bytes) (λ why. description_of bytes ≡ Err (fault_told why)) BadDescription

-- the machine that a file describes
abbrev pub machine_file : Folder → List ℕ → Result Description Refusal → Type 0
machine_file f name = file f name ▸ λ bytes. machine_text bytes.items

-- the machine of a word
abbrev pub machine : Folder → List ℕ → Result Description Refusal → Type 0
machine f word answer = ((word ≡ builtin_word) × built_in answer) ⊎ ((word ≢ builtin_word) × machine_file f word answer)

-- the position of the machine's handler of this name
abbrev pub handler_named : Description → List ℕ → Option ℕ
handler_named d name = position (λ h. bytes_eq h.name name) d.handlers.items

abbrev pub handler : Description → List ℕ → Result HandlerId Refusal → Type 0
handler d name = judged (λ h. handler_named d name ≡ Some h.0) (λ (_ : ⊤). handler_named d name ≡ None) (λ _. Usage)
