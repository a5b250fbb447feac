-- The opcode table: what is at each opcode.
use Rattle.std.proofs.Common.{◌≡◌, ℕ, zero, suc, ◌+◌, ◌-◌, ◌<◌, ◌≤◌, Bool, true, false, cond, List, [], ◌∷◌, ◌++◌, length, get_or, Some, refl, ap, sym, ◌∙◌, arith}
use Rattle.std.specs.List.{slice_get}
use Rattle.std.specs.Option.{option_map}
use Rattle.std.proofs.lemmas.Option.{slice_get-get_or}
use Rattle.std.proofs.lemmas.List.{length-append}
use Rattle.mate_code.specs.declared.kind.Kind.{Kind}
use Rattle.mate_code.specs.declared.table.TheConstants.{BASE_END, BUFFERS_END}
use Rattle.mate_code.specs.Table.{Layout, base_kinds, buffer_kinds, function_kind, function_kinds, kinds_of, kind_at, first_function}
use Rattle.mate_code.proofs.ListLemmas.{slice_get-front, slice_get-back}

-- the function of a number has the kind of that number
pub slice_get-function_kinds : (f : ℕ) (sends : List Bool) (k : ℕ) → slice_get (function_kinds f sends) k ≡ option_map (function_kind (f + k)) (slice_get sends k)
slice_get-function_kinds f [] k = refl
slice_get-function_kinds f (send ∷ sends) zero =
    let e : f ≡ f + 0 = omega arith in ap (λ (n : ℕ). Some (function_kind n send)) e
slice_get-function_kinds f (send ∷ sends) (suc k) =
    let e : suc f + k ≡ f + suc k = omega arith in
    slice_get-function_kinds (suc f) sends k ∙ ap (λ (n : ℕ). option_map (function_kind n) (slice_get sends k)) e

pub length-function_kinds : (f : ℕ) (sends : List Bool) → length (function_kinds f sends) ≡ length sends
length-function_kinds f [] = refl
length-function_kinds f (send ∷ sends) = ap suc (length-function_kinds (suc f) sends)

-- the kinds between the base and the functions
abbrev pub group_of : Bool → List Kind
group_of buffer = cond buffer buffer_kinds []

abbrev pub first_of : Bool → ℕ
first_of buffer = cond buffer BUFFERS_END BASE_END

pub length-group_of : (buffer : Bool) → BASE_END + length (group_of buffer) ≡ first_of buffer
length-group_of true = refl
length-group_of false = refl

-- a base kind
pub kind_at-base : (t : Layout) (n : ℕ) (d : Kind) → n < BASE_END → Some (get_or base_kinds n d) ≡ kind_at t n
kind_at-base t n d h = sym (slice_get-front base_kinds _ n h ∙ slice_get-get_or base_kinds n d h)

pub group_only : (buffer : Bool) (n : ℕ) → BASE_END ≤ n → n < first_of buffer → (buffer ≡ true) × (n < BUFFERS_END)
group_only true n low high = (refl, high)
group_only false n low high = absurd (omega arith)

-- a kind of the buffer group
pub kind_at-group : (t : Layout) (n : ℕ) (d : Kind) → BASE_END ≤ n → n < first_function t → Some (get_or buffer_kinds (n - BASE_END) d) ≡ kind_at t n
kind_at-group t n d low high =
    let group = group_only t.buffer n low high in
    let below : n < BUFFERS_END = group.1 in
    let e : group_of t.buffer ≡ buffer_kinds = ap group_of group.0 in
    let front : slice_get (buffer_kinds ++ function_kinds 0 t.sends) (n - BASE_END) ≡ Some (get_or buffer_kinds (n - BASE_END) d) =
    slice_get-front buffer_kinds (function_kinds 0 t.sends) (n - BASE_END) (omega arith) ∙ slice_get-get_or buffer_kinds (n - BASE_END) d (omega arith) in
    sym (slice_get-back base_kinds (group_of t.buffer ++ function_kinds 0 t.sends) n low ∙ ap (λ (g : List Kind). slice_get (g ++ function_kinds 0 t.sends) (n - BASE_END)) e ∙ front)

-- a function's kind
pub kind_at-function : (t : Layout) (n : ℕ) → first_function t ≤ n → kind_at t n ≡ option_map (function_kind (n - first_function t)) (slice_get t.sends (n - first_function t))
kind_at-function t n low =
    let len : BASE_END + length (group_of t.buffer) ≡ first_of t.buffer = length-group_of t.buffer in
    let k : (n - BASE_END) - length (group_of t.buffer) ≡ n - first_of t.buffer = omega arith in
    slice_get-back base_kinds (group_of t.buffer ++ function_kinds 0 t.sends) n (omega arith)
    ∙ slice_get-back (group_of t.buffer) (function_kinds 0 t.sends) (n - BASE_END) (omega arith)
    ∙ ap (slice_get (function_kinds 0 t.sends)) k
    ∙ slice_get-function_kinds 0 t.sends (n - first_of t.buffer)
    ∙ (let z : 0 + (n - first_of t.buffer) ≡ n - first_of t.buffer = omega arith in ap (λ (m : ℕ). option_map (function_kind m) (slice_get t.sends (n - first_of t.buffer))) z)

pub length-kinds_of : (t : Layout) → length (kinds_of t) ≡ first_function t + length t.sends
length-kinds_of t =
    let len : BASE_END + length (group_of t.buffer) ≡ first_of t.buffer = length-group_of t.buffer in
    let rest : length (group_of t.buffer ++ function_kinds 0 t.sends) ≡ length (group_of t.buffer) + length (function_kinds 0 t.sends) = length-append (group_of t.buffer) (function_kinds 0 t.sends) in
    let funs : length (function_kinds 0 t.sends) ≡ length t.sends = length-function_kinds 0 t.sends in
    omega arith
