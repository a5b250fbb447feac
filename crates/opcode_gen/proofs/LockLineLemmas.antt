-- What a lock line says of two lock sets with the same reads and writes, and the entry of each name.
use Rattle.std.proofs.Common.{◌≡◌, ℕ, ◌+◌, ◌<◌, List, ◌++◌, codes, length, get_or, true, false, refl, sym, ◌∙◌, ap, arith}
use Rattle.std.specs.List.{enumerate_from}
use Rattle.std.proofs.lemmas.List.FromFn.{get_or-enumerate_from}
use Rattle.mate_num.specs.Uses.{Uses, IsSameUses}
use Rattle.mate_num.specs.declared.resource.Resource.{Resource}
use Rattle.opcode_gen.specs.LockLine.{mention}

-- uses with the same reads and writes are one
pub uses-same : (a b : Uses) → IsSameUses a b → a ≡ b
uses-same a b same = λ i. record { reads = λ r. same.reads r i; writes = λ r. same.writes r i }

-- the entry at a place
pub entry_at : (names : List (List ℕ)) (place : ℕ) (name : List ℕ) → place < length names → name ≡ get_or names place name
    → (place, name) ≡ get_or (enumerate_from 0 names) place (place, name)
entry_at names place name within is =
    let at : 0 + place ≡ place = omega arith in
    ap (λ (x : List ℕ). (place, x)) is ∙ ap (λ (n : ℕ). (n, get_or names place name)) (sym at) ∙ sym (get_or-enumerate_from 0 names place (place, name) within)

-- the mention of a name that is only read
pub mention-read : (u : Uses) (r : Resource) (name : List ℕ) → u.writes r ≡ false → u.reads r ≡ true → codes " " ++ name ++ codes ":r" ≡ mention u r name
mention-read u r name unwritten read = rw (unwritten, read) refl
