-- What the fields of a record denote, each by one word, or by all that are left.
use Rattle.std.specs.Prelude.{ℕ, ◌^◌, List, [], ◌∷◌, ℤ, Option, None, Some, if◌then◌else◌}
use Rattle.mate_num.specs.declared.bounds.TheConstants.{NODES_MAX}
use Rattle.std.specs.Option.{option_map}
use Rattle.std.specs.Str.{bytes_eq}
use Rattle.arrayvec.specs.ArrayVec.{ArrayVec}
use Rattle.mate_num.specs.declared.call.FaultKind.{FaultKind}
use Rattle.mate_num.specs.declared.call.FaultKind.TheVariants as fault
use Rattle.mate_journal.specs.declared.entry.DropCause.{DropCause}
use Rattle.mate_journal.specs.declared.entry.DropCause.TheVariants as drop
use Rattle.report_writer.specs.Words.{drop_word, fault_word}
use Rattle.report_line_reader.specs.Numbers.{below_of, values_after}

-- the one of some choices that a word names
abbrev pub named_among : {A : Type 0} → (A → List ℕ) → List A → List ℕ → Option A
named_among word_of [] word = None
named_among word_of (choice ∷ choices) word = if bytes_eq (word_of choice) word then Some choice else named_among word_of choices word

-- a number of 32 bits, and the number of a node
abbrev pub number_of : List ℕ → Option ℕ
number_of word = below_of (2 ^ 32) word

abbrev pub node_of : List ℕ → Option ℕ
node_of word = below_of NODES_MAX word

unfoldable pub drop_of : List ℕ → Option DropCause
drop_of word = named_among drop_word (drop.NoCode ∷ drop.AllBusy ∷ []) word

unfoldable pub fault_of : List ℕ → Option FaultKind
fault_of word = named_among fault_word (fault.DivZero ∷ fault.Index ∷ fault.BufferFull ∷ fault.BufferEmpty ∷ fault.Overrun ∷ []) word

-- the values that all words denote
abbrev pub payload_of : List (List ℕ) → Option (ArrayVec ℤ)
payload_of words = option_map (λ vs. record { items = vs }) (values_after [] words)
