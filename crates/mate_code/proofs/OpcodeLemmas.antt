-- Each kind of a table is at its opcode, and an opcode has no other kind.
use Rattle.std.proofs.Common.{◌≡◌, ℕ, zero, suc, ◌+◌, ◌-◌, ◌<◌, ◌≤◌, Bool, true, false, List, [], ◌∷◌, ◌++◌, Option, None, Some, refl, ap, sym, ◌∙◌, arith, subst, IsTrue, inl, inr, rules}
use Rattle.std.specs.List.{slice_get}
use Rattle.std.specs.Option.{option_map}
use Rattle.std.proofs.lemmas.Bool.{cases_lt}
use Rattle.mate_code.specs.declared.kind.Kind.{Kind}
use Rattle.mate_code.specs.declared.table.TheConstants.{BASE_END, BUFFERS_END}
use Rattle.mate_code.specs.declared.kind.Kind.TheVariants.{Halt, PushW, PushB, GetS, SetS, GetP, SetP, Add, Sub, Mul, Div, Mod, Neg, Not, And, Or, Eq, Ne, Lt, Gt, Le, Ge, Jz, Jmp, Back, Drop, MsgGet, MsgSize, BGet, BSet, BAdd, BTake, BSize, BClear, Fun, FunBuf}
use Rattle.mate_code.specs.Table.{Layout, base_kinds, buffer_kinds, function_kind, function_kinds, kind_at, first_function, opcode_of, IsInTable}
use Rattle.mate_code.proofs.ListLemmas.{slice_get-front, slice_get-back}
use Rattle.mate_code.proofs.TableLemmas.{kind_at-function, group_of, group_only}

-- the group stands in the table where there is a buffer
group_is : (buffer : Bool) → IsTrue buffer → group_of buffer ≡ buffer_kinds
group_is true h = refl
group_is false h = absurd cc

in_group : (t : Layout) (n : ℕ) (k : Kind) → IsTrue t.buffer → slice_get (base_kinds ++ (buffer_kinds ++ function_kinds 0 t.sends)) n ≡ Some k → kind_at t n ≡ Some k
in_group t n k h e = ap (λ (g : List Kind). slice_get (base_kinds ++ (g ++ function_kinds 0 t.sends)) n) (group_is t.buffer h) ∙ e

-- a function stands at its opcode
at_function : (t : Layout) (f : ℕ) (send : Bool) → slice_get t.sends f ≡ Some send → kind_at t (first_function t + f) ≡ Some (function_kind f send)
at_function t f send e =
    let n : (first_function t + f) - first_function t ≡ f = omega arith in
    kind_at-function t (first_function t + f) (omega arith)
    ∙ ap (λ (m : ℕ). option_map (function_kind m) (slice_get t.sends m)) n
    ∙ ap (option_map (function_kind f)) e

-- a kind that is in the table stands at its opcode
pub kind_at-opcode_of : (t : Layout) (k : Kind) → IsInTable t k → kind_at t (opcode_of t k) ≡ Some k
kind_at-opcode_of t BGet h = in_group t (opcode_of t BGet) BGet h refl
kind_at-opcode_of t BSet h = in_group t (opcode_of t BSet) BSet h refl
kind_at-opcode_of t BAdd h = in_group t (opcode_of t BAdd) BAdd h refl
kind_at-opcode_of t BTake h = in_group t (opcode_of t BTake) BTake h refl
kind_at-opcode_of t BSize h = in_group t (opcode_of t BSize) BSize h refl
kind_at-opcode_of t BClear h = in_group t (opcode_of t BClear) BClear h refl
kind_at-opcode_of t (Fun f) h = at_function t f.0 false h
kind_at-opcode_of t (FunBuf f) h = at_function t f.0 true h
kind_at-opcode_of t _ h = refl

-- an item stands at its opcode, in a list that begins at this opcode
abbrev StandsAt : Layout → ℕ → List Kind → Type 0
StandsAt t n [] = Unit {0}
StandsAt t n (k ∷ ks) = (opcode_of t k ≡ n) × IsInTable t k × StandsAt t (suc n) ks

-- what a kind at an opcode is
pub record Stands (t : Layout) (n : ℕ) (k : Kind) : Type 0 where
  pub opcode : opcode_of t k ≡ n
  pub in_table : IsInTable t k

stands_at : (t : Layout) (n : ℕ) (ks : List Kind) (j : ℕ) (k : Kind) → StandsAt t n ks → slice_get ks j ≡ Some k → Stands t (n + j) k
stands_at t n [] j k all e = absurd cc
stands_at t n (x ∷ xs) zero k all e =
    let same : x ≡ k = cc in
    let zero_more : n ≡ n + 0 = omega arith in
    subst (λ (y : Kind). Stands t (n + 0) y) same (record { opcode = all.0 ∙ zero_more; in_table = all.1 })
stands_at t n (x ∷ xs) (suc j) k all e =
    let more : suc n + j ≡ n + suc j = omega arith in
    subst (λ (m : ℕ). Stands t m k) more (stands_at t (suc n) xs j k all.2 e)

base_stands : (t : Layout) → StandsAt t 0 base_kinds
base_stands t = search rules

group_stands : (t : Layout) → IsTrue t.buffer → StandsAt t BASE_END buffer_kinds
group_stands t h = search rules

function_stands : (t : Layout) (f : ℕ) (o : Option Bool) (k : Kind) → slice_get t.sends f ≡ o → option_map (function_kind f) o ≡ Some k → Stands t (first_function t + f) k
function_stands t f None k get e = absurd cc
function_stands t f (Some false) k get e =
    let same : Fun record { 0 = f } ≡ k = cc in
    subst (λ (y : Kind). Stands t (first_function t + f) y) same (record { opcode = refl; in_table = get })
function_stands t f (Some true) k get e =
    let same : FunBuf record { 0 = f } ≡ k = cc in
    subst (λ (y : Kind). Stands t (first_function t + f) y) same (record { opcode = refl; in_table = get })

base_opcode : (t : Layout) (n : ℕ) (k : Kind) → n < BASE_END → kind_at t n ≡ Some k → Stands t n k
base_opcode t n k low e =
    let all : 0 + n ≡ n = omega arith in
    let there : slice_get base_kinds n ≡ Some k = sym (slice_get-front base_kinds (group_of t.buffer ++ function_kinds 0 t.sends) n low) ∙ e in
    subst (λ (m : ℕ). Stands t m k) all (stands_at t 0 base_kinds n k (base_stands t) there)

group_opcode : (t : Layout) (n : ℕ) (k : Kind) → BASE_END ≤ n → n < first_function t → kind_at t n ≡ Some k → Stands t n k
group_opcode t n k low high e =
    let group = group_only t.buffer n low high in
    let below : n < BUFFERS_END = group.1 in
    let buffer : IsTrue t.buffer = group.0 in
    let there : slice_get buffer_kinds (n - BASE_END) ≡ Some k =
    sym (slice_get-front buffer_kinds (function_kinds 0 t.sends) (n - BASE_END) (omega arith))
    ∙ ap (λ (g : List Kind). slice_get (g ++ function_kinds 0 t.sends) (n - BASE_END)) (sym (group_is t.buffer buffer))
    ∙ sym (slice_get-back base_kinds (group_of t.buffer ++ function_kinds 0 t.sends) n low) ∙ e in
    let all : BASE_END + (n - BASE_END) ≡ n = omega arith in
    subst (λ (m : ℕ). Stands t m k) all (stands_at t BASE_END buffer_kinds (n - BASE_END) k (group_stands t buffer) there)

function_opcode : (t : Layout) (n : ℕ) (k : Kind) → first_function t ≤ n → kind_at t n ≡ Some k → Stands t n k
function_opcode t n k low e =
    let f = n - first_function t in
    let all : first_function t + f ≡ n = omega arith in
    subst (λ (m : ℕ). Stands t m k) all (function_stands t f (slice_get t.sends f) k refl (sym (kind_at-function t n low) ∙ e))

-- the kind that stands at an opcode is in the table, and has this opcode
pub opcode_of-kind_at : (t : Layout) (n : ℕ) (k : Kind) → kind_at t n ≡ Some k → Stands t n k
opcode_of-kind_at t n k e =
    elim (cases_lt n BASE_END) [
      | inl low ↦ base_opcode t n k low e
      | inr high ↦ elim (cases_lt n (first_function t)) [
        | inl middle ↦ group_opcode t n k high middle e
        | inr behind ↦ function_opcode t n k behind e
      ]
    ]

-- two kinds of a table have two opcodes
pub opcode_of-once : (t : Layout) (j k : Kind) → IsInTable t j → IsInTable t k → opcode_of t j ≡ opcode_of t k → j ≡ k
opcode_of-once t j k hj hk e =
    let same : Some j ≡ Some k = sym (kind_at-opcode_of t j hj) ∙ ap (kind_at t) e ∙ kind_at-opcode_of t k hk in
    cc
