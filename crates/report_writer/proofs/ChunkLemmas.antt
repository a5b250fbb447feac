-- Texts that are built from their ends in a chunk.
use Rattle.std.proofs.Common.{◌≡◌, ℕ, suc, ◌+◌, ◌<◌, ◌≤◌, List, ◌++◌, ◌∷◌, [], length, drop, get_or, min, refl, ap, sym, ◌∙◌, append-nil, append_assoc, drop-cons, arith}
use Rattle.std.specs.Prelude.{ℤ, flat_map}
use Rattle.std.specs.List.{zip}
use Rattle.std.proofs.lemmas.Int.{to_z-of_z}
use Rattle.std.proofs.lemmas.List.{drop_all}
use Rattle.std.proofs.lemmas.Slice.Zip.{get_or-zip, length-zip}
use mir.Val.{SFits, of_z, to_z}
use mir.Syntax.{w16}
use Rattle.mate_num.specs.declared.id.HandlerId.{HandlerId}
use Rattle.mate_journal.specs.declared.entry.Entry.{Entry}
use Rattle.mate_journal.specs.declared.entry.Entry.TheVariants as entry
use Rattle.mate_journal.specs.declared.entry.DropCause.{DropCause}
use Rattle.mate_journal.specs.declared.entry.DropCause.TheVariants as dropped
use Rattle.mate_num.specs.declared.call.FaultKind.{FaultKind}
use Rattle.mate_num.specs.declared.call.FaultKind.TheVariants as fault
use Rattle.report_writer.specs.Chunk.{IsInFront}
use Rattle.report_writer.specs.Words.{value, drop_word, fault_word, IsShort}

-- a piece, and another one in front of it
infixl 20 ◌⋙◌
pub ◌⋙◌ : {c0 c1 c2 a b : List ℕ} → IsInFront c1 c2 a → IsInFront c0 c1 b → IsInFront c0 c2 (a ++ b)
◌⋙◌ {c0 = c0} {a = a} {b = b} p q = record { is = p.is ∙ ap (λ (z : List ℕ). a ++ z) q.is ∙ sym (append_assoc a b c0) }

-- the same of an equal piece
pub IsInFront-by : {c0 c1 a b : List ℕ} → a ≡ b → IsInFront c0 c1 a → IsInFront c0 c1 b
IsInFront-by {c0 = c0} e p = record { is = p.is ∙ ap (λ (z : List ℕ). z ++ c0) e }

-- no piece
pub IsInFront-none : {c : List ℕ} → IsInFront c c []
IsInFront-none = record { is = refl }

-- all that stands where one piece was put in front of nothing
pub alone : {c0 c1 a : List ℕ} → c0 ≡ [] → IsInFront c0 c1 a → c1 ≡ a
alone {a = a} e p = p.is ∙ ap (λ (z : List ℕ). a ++ z) e ∙ append-nil a

-- a value as it is passed to a call
pub IsInFront-value : {c0 c1 : List ℕ} (z : ℤ) → SFits w16 z → IsInFront c0 c1 (value (to_z w16 (of_z w16 z))) → IsInFront c0 c1 (value z)
IsInFront-value z fits p = IsInFront-by (ap value (to_z-of_z w16 z fits)) p

-- ---- a loop that puts a piece for each item in front, from the last one on

-- the pieces of no items
pub IsInFront-start : {c : List ℕ} {A : Type 0} (piece : A → List ℕ) (xs : List A) (n : ℕ) → length xs ≤ n → IsInFront c c (flat_map piece (drop n xs))
IsInFront-start piece xs n p = IsInFront-by (sym (ap (flat_map piece) (drop_all n xs p))) IsInFront-none

drop-here : {A : Type 0} (xs : List A) (i j : ℕ) (d : A) → j ≡ i + 1 → i < length xs → drop i xs ≡ get_or xs i d ∷ drop j xs
drop-here xs i j d e p =
    let next : suc i ≡ j = omega (arith, e) in
    drop-cons xs i d p ∙ ap (λ (k : ℕ). get_or xs i d ∷ drop k xs) next

-- the piece of one more item
pub IsInFront-next : {c0 c1 c2 : List ℕ} {A : Type 0} (piece : A → List ℕ) (xs : List A) (i j : ℕ) (d : A) → j ≡ i + 1 → i < length xs
    → IsInFront c1 c2 (piece (get_or xs i d)) → IsInFront c0 c1 (flat_map piece (drop j xs)) → IsInFront c0 c2 (flat_map piece (drop i xs))
IsInFront-next piece xs i j d e p here behind = IsInFront-by (sym (ap (flat_map piece) (drop-here xs i j d e p))) (here ⋙ behind)

-- the pieces of all items
pub IsInFront-all : {c0 c1 : List ℕ} {A : Type 0} (piece : A → List ℕ) (xs : List A) (n : ℕ) → n ≤ 0 → IsInFront c0 c1 (flat_map piece (drop n xs)) → IsInFront c0 c1 (flat_map piece xs)
IsInFront-all piece xs n p all =
    let none : n ≡ 0 = omega (arith, p) in
    IsInFront-by (ap (λ (k : ℕ). flat_map piece (drop k xs)) none) all

-- the pieces of no pairs
pub IsInFront-start_pairs : {c : List ℕ} {A B : Type 0} (piece : A × B → List ℕ) (ks : List A) (vs : List B) (n : ℕ) → n ≡ min (length ks) (length vs)
    → IsInFront c c (flat_map piece (drop n (zip ks vs)))
IsInFront-start_pairs piece ks vs n e = IsInFront-start piece (zip ks vs) n (omega (arith, e, length-zip ks vs))

-- the piece of one more pair
pub IsInFront-next_pair : {c0 c1 c2 : List ℕ} {A B : Type 0} (piece : A × B → List ℕ) (ks : List A) (vs : List B) (i j : ℕ) (a : A) (b : B) → j ≡ i + 1
    → i < length ks → i < length vs → IsInFront c1 c2 (piece (get_or ks i a, get_or vs i b)) → IsInFront c0 c1 (flat_map piece (drop j (zip ks vs)))
    → IsInFront c0 c2 (flat_map piece (drop i (zip ks vs)))
IsInFront-next_pair piece ks vs i j a b e in_ks in_vs here behind =
    let within : i < length (zip ks vs) = omega (arith, length-zip ks vs, in_ks, in_vs) in
    IsInFront-next piece (zip ks vs) i j (a, b) e within (IsInFront-by (ap piece (sym (get_or-zip ks vs i (a, b) in_ks in_vs))) here) behind

-- ---- entries

-- an entry that neither installs nor shows a store
pub short-else : (e : Entry) → ((h : HandlerId) (version image : ℕ) → e ≡ entry.Install h version image → ⊥) → ((store : ℕ) → e ≡ entry.Seen store → ⊥) → IsShort e
short-else (entry.Install h version image) installs shows = installs h version image refl
short-else (entry.Seen store) installs shows = shows store refl
short-else _ installs shows = tt

-- ---- the lengths of words

pub drop_word-short : (cause : DropCause) → length (drop_word cause) ≤ 6
drop_word-short dropped.NoCode = omega arith
drop_word-short dropped.AllBusy = omega arith

pub fault_word-short : (kind : FaultKind) → length (fault_word kind) ≤ 11
fault_word-short fault.DivZero = omega arith
fault_word-short _ = omega arith
