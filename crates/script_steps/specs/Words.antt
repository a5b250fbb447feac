-- How the words of a line are read, from left to right, each with the first cause for which it is refused.
use Rattle.std.specs.Prelude.{◌≡◌, ℕ, ◌+◌, ◌-◌, ◌^◌, ◌<◌, ◌≤◌, true, false, Option, None, Some, nat_lt, nat_le, ◌==◌, ℤ, pos, neg_ℤ, Bool, ◌&&◌, not, if◌then◌else◌, List, [], ◌∷◌, ◌++◌}
use Rattle.mate_num.specs.Results.{result_map}
use Rattle.std.specs.Prelude.{length, take, drop, Result, Ok, Err}
use Rattle.std.specs.List.{list_all}
use Rattle.std.specs.Char.{is_ascii_digit}
use Rattle.std.specs.Str.{bytes_eq}
use Rattle.std.specs.Str.Parse.{digits_value}
use Rattle.mate_num.specs.declared.bounds.TheConstants.{PAYLOAD_MAX}
use Rattle.arrayvec.specs.ArrayVec.{ArrayVec}
use Rattle.mate_num.specs.Store.{payload}
use Rattle.mate_num.specs.declared.id.HandlerId.{HandlerId}
use Rattle.mate_num.specs.declared.id.ContextId.{ContextId}
use Rattle.vm_shape.specs.declared.description.Description.{Description}
use Rattle.vm_shape.specs.declared.handler.Handler.{Handler}
use Rattle.vm_shape.specs.Whole.{context_count}
use Rattle.script_steps.specs.declared.words.Leading.{Leading}
use Rattle.script_steps.specs.Lines.{is_blank}
use Rattle.script_steps.specs.declared.fault.Cause.{Cause}
use Rattle.script_steps.specs.declared.fault.Cause.TheVariants.{Word, Number, Range, OldVersion, Name}

-- what was read, and the words after it
pub record TakenWords (A : Type 0) : Type 0 where
  pub value : A
  pub rest : List (List ℕ)

-- what the first words are, or the cause for which they are refused
abbrev pub WordReading : Type 0 → Type 0
WordReading A = List (List ℕ) → Result (TakenWords A) Cause

abbrev pub and_then : {A B : Type 0} → (A → WordReading B) → Result (TakenWords A) Cause → Result (TakenWords B) Cause
and_then next (Ok t) = next t.value t.rest
and_then next (Err cause) = Err cause

infixl 10 ◌>>=◌
abbrev pub ◌>>=◌ : {A B : Type 0} → WordReading A → (A → WordReading B) → WordReading B
(reading >>= next) words = and_then next (reading words)

-- a value that takes no word
abbrev pub give : {A : Type 0} → A → WordReading A
give value words = Ok (record { value = value; rest = words })

-- what was found, and the words that are left
abbrev pub found : {A : Type 0} → Result A Cause → WordReading A
found (Ok value) words = Ok (record { value = value; rest = words })
found (Err cause) words = Err cause

-- what a function returned, seen by view, and the words that it left are what the reading gives
abbrev pub ReadsWords : {X Y : Type 0} → (X → Y) → WordReading Y → List (List ℕ) → Result X Cause → List (List ℕ) → Type 0
ReadsWords view reading before (Ok x) after = reading before ≡ Ok (record { value = view x; rest = after })
ReadsWords view reading before (Err cause) after = reading before ≡ Err cause

-- a printable ASCII character other than a space
abbrev pub is_printable : ℕ → Bool
is_printable byte = nat_le 33 byte && nat_le byte 126

-- the word, if its characters are printable
abbrev pub printed : List ℕ → Result (List ℕ) Cause
printed w = if list_all is_printable w then Ok w else Err Word

-- the next word, which is to be there
abbrev pub a_word : WordReading (List ℕ)
a_word [] = Err Word
a_word (w ∷ words) = found (printed w) words

-- no word is left
abbrev pub nothing_more : WordReading (Unit {0})
nothing_more [] = Ok (record { value = tt; rest = [] })
nothing_more (w ∷ words) = Err Word

-- one digit or more, and nothing else
abbrev pub is_numeral : List ℕ → Bool
is_numeral w = not (length w == 0) && list_all is_ascii_digit w

-- the number that the digits spell; leading zeros are taken
abbrev pub number_read : List ℕ → Result ℕ Cause
number_read w = if is_numeral w then Ok (digits_value 10 w) else Err Number

-- the word is a numeral, and this is its number, or it has more than 64 bits
abbrev pub SpellsNumber : List ℕ → Option ℕ → Type 0
SpellsNumber w None = (is_numeral w ≡ true) × (2 ^ 64 ≤ digits_value 10 w)
SpellsNumber w (Some n) = (is_numeral w ≡ true) × (n ≡ digits_value 10 w)

-- the next word is a numeral, and this is its number
pub record TakesNumeral (old new : List (List ℕ)) (n : ℕ) : Type 0 where
  pub word : List ℕ
  pub cut : old ≡ word ∷ new
  pub spells : SpellsNumber word (Some n)

-- a word begins at the first byte
abbrev pub begins_with_word : List ℕ → Bool
begins_with_word [] = false
begins_with_word (byte ∷ bytes) = not (is_blank byte)

-- the first bytes are these digits, one at least, and spell this number
pub record AreLeadingDigits (bytes : List ℕ) (l : Leading) : Type 0 where
  pub some : 0 < l.digits
  pub within : l.digits ≤ length bytes
  pub all_digits : list_all is_ascii_digit (take l.digits bytes) ≡ true
  pub spelled : l.number ≡ digits_value 10 (take l.digits bytes)

-- a number from low to high
abbrev pub within : ℕ → ℕ → Cause → Result ℕ Cause → Result ℕ Cause
within low high outside (Ok n) = if nat_le low n && nat_le n high then Ok n else Err outside
within low high outside (Err cause) = Err cause

unfoldable pub a_number : ℕ → ℕ → Cause → WordReading ℕ
a_number low high outside = a_word >>= (λ w. found (within low high outside (number_read w)))

-- a number up to 32767, or a minus and a number up to 32768
abbrev pub value_read : List ℕ → Result ℤ Cause
value_read [] = Err Number
value_read (byte ∷ bytes) =
    if byte == 45 then result_map (λ n. neg_ℤ (pos n)) (within 0 32768 Range (number_read bytes))
    else result_map pos (within 0 32767 Range (number_read (byte ∷ bytes)))

unfoldable pub a_value : WordReading ℤ
a_value = a_word >>= (λ w. found (value_read w))

abbrev pub then_more : (ℤ → Result (List ℤ) Cause) → Result (TakenWords ℤ) Cause → Result (List ℤ) Cause
then_more next (Ok t) = next t.value
then_more next (Err cause) = Err cause

-- the values, and those that the words spell after them
abbrev pub values_from : List ℤ → List (List ℕ) → Result (List ℤ) Cause
values_from values [] = Ok values
values_from values (w ∷ words) = then_more (λ v. values_from (values ++ v ∷ []) words) (a_value (w ∷ []))

-- the values of the words that are left, but of no more than ten
unfoldable pub a_payload : WordReading (ArrayVec ℤ)
a_payload words = found (result_map payload (values_from [] (take PAYLOAD_MAX words))) (drop PAYLOAD_MAX words)

-- the handler with a name, among those from a number on
abbrev pub handler_from : List ℕ → ℕ → List Handler → Result HandlerId Cause
handler_from w n [] = Err Name
handler_from w n (h ∷ handlers) = if bytes_eq h.name w then Ok (record { 0 = n }) else handler_from w (n + 1) handlers

abbrev pub handler_of : Description → List ℕ → Result HandlerId Cause
handler_of d w = handler_from w 0 d.handlers.items

unfoldable pub a_handler : Description → WordReading HandlerId
a_handler d = a_word >>= (λ w. found (handler_of d w))

-- a version that is newer than the newest one so far
abbrev pub newer : ℕ → ℕ → Result ℕ Cause
newer newest version = if nat_lt newest version then Ok version else Err OldVersion

unfoldable pub a_version : ℕ → WordReading ℕ
a_version newest = a_number 1 4294967295 Range >>= (λ version. found (newer newest version))

unfoldable pub a_context : Description → WordReading ContextId
a_context d = a_number 0 (context_count d - 1) Range >>= (λ n. give (record { 0 = n }))
