-- What lock sets gain, and that verified code names resources that a machine can have.
use Rattle.std.proofs.Common.{◌≡◌, ◌≢◌, ℕ, zero, suc, ◌+◌, ◌<◌, ◌≤◌, List, [], ◌∷◌, Bool, true, false, ◌||◌, eqb, Option, None, Some, length, take, get_or, IsTrue, inl, inr, refl, sym, ◌∙◌, ap, subst, arith}
use Rattle.std.specs.Prelude.{nat_lt, is_some}
use Rattle.std.specs.List.{list_any}
use Rattle.std.proofs.lemmas.Bool.{eqb-true, eq-eqb, ne_eqb, ltb-true, lt-ltb, cases_Bool, and_parts}
use Rattle.std.proofs.lemmas.List.{take_all}
use Rattle.std.proofs.lemmas.List.Folds.{list_any_more}
use Rattle.std.proofs.lemmas.Option.{slice_get-map, slice_get-get_or, slice_get_past}
use Rattle.std.specs.Option.{IfSome, option_map}
use Rattle.mate_num.specs.declared.id.BufId.{BufId}
use Rattle.mate_num.specs.declared.id.DeviceId.{DeviceId}
use Rattle.mate_num.specs.declared.id.FunId.{FunId}
use Rattle.mate_num.specs.declared.lock_set.LockSet.{LockSet}
use Rattle.mate_num.specs.declared.resource.Resource.{Resource}
use Rattle.mate_num.specs.declared.resource.Resource.TheVariants.{Shared, Buffer, Device}
use Rattle.mate_num.specs.declared.shape.FunShape.{FunShape}
use Rattle.mate_num.specs.declared.shape.Shape.{Shape}
use Rattle.mate_num.specs.Uses.{AddsResource, IsSameUses, no_uses, is_same_resource, function_shape, is_device_of, is_same_device}
use Rattle.mate_code.specs.declared.instr.Instr.{Instr}
use Rattle.mate_code.specs.declared.instr.Instr.TheVariants.{Halt, GetS, SetS, BGet, BSet, BAdd, BTake, BSize, BClear, FunBuf}
use Rattle.mate_code.specs.CodeUses.{use_of, reads_in, writes_in}
use Rattle.mate_code.specs.declared.uses.Use.TheVariants.{Nothing, Gets, Changes, Calls, Sends}
use Rattle.mate_code.specs.declared.uses.Use.{Use}
use Rattle.mate_code.specs.Flow.{is_in_range}
use Rattle.mate_code.specs.Instr.{size_of}
use Rattle.mate_code.specs.Run.{Code, fetch, size_of_code}
use Rattle.mate_code.specs.Verification.{AreFrom, is_start}
use Rattle.mate_code.proofs.CellLemmas.{is_same-refl}
use Rattle.mate_code.proofs.VerificationLemmas.{fetch-range}
use Rattle.code_verifier.specs.Verified.{VerifiedCode, IsVerifiedCode}
use Rattle.vm_shape.specs.declared.description.Description.{Description}
use Rattle.vm_shape.specs.declared.function.Function.{Function}
use Rattle.vm_shape.specs.Limits.{is_function}
use Rattle.mate_num.specs.Shapes.{is_device as is_there}
use Rattle.vm_shape.specs.Shapes.{fun_shape, shape_of}
use Rattle.vm_shape.proofs.DescriptionLemmas.{bounds_of, function_at}
use Rattle.lock_inference.specs.Locks.{held_uses, AreLocksOf, IsGathered, device_in, names_resource, Gains}

-- ---- one resource more

is_same-true : (r q : Resource) → is_same_resource r q ≡ true → r ≡ q
is_same-true (Shared v) (Shared w) e = ap (λ (n : ℕ). Shared record { 0 = n }) (eqb-true v.0 w.0 e)
is_same-true (Shared v) (Buffer c) e = cc
is_same-true (Shared v) (Device d) e = cc
is_same-true (Buffer b) (Shared w) e = cc
is_same-true (Buffer b) (Buffer c) e = ap (λ (n : ℕ). Buffer record { 0 = n }) (eqb-true b.0 c.0 e)
is_same-true (Buffer b) (Device d) e = cc
is_same-true (Device b) (Shared w) e = cc
is_same-true (Device b) (Buffer c) e = cc
is_same-true (Device b) (Device d) e = ap (λ (n : ℕ). Device record { 0 = n }) (eqb-true b.0 d.0 e)

or-false : (b : Bool) → (b || false) ≡ b
or-false true = refl
or-false false = refl

or-true : (b : Bool) → (b || true) ≡ true
or-true true = refl
or-true false = refl

-- a set with r has q where it had it, and where q is r
adds-at : (before after : Resource → Bool) (r q : Resource) → AddsResource before after r → after q ≡ (before q || is_same_resource r q)
adds-at before after r q adds =
    elim (cases_Bool (is_same_resource r q)) [
      | inl same ↦
          let e : r ≡ q = is_same-true r q same in
          ap after (sym e) ∙ adds.added ∙ sym (or-true (before q)) ∙ ap (λ (b : Bool). before q || b) (sym same)
      | inr other ↦
          let apart : q ≢ r = λ e. cc (sym other ∙ ap (λ (x : Resource). is_same_resource r x) e ∙ is_same-refl r) in
          adds.others q apart ∙ sym (or-false (before q)) ∙ ap (λ (b : Bool). before q || b) (sym other)
    ]

kept-at : (before after : Resource → Bool) (q : Resource) → after ≡ before → after q ≡ (before q || false)
kept-at before after q e = ap (λ (f : Resource → Bool). f q) e ∙ sym (or-false (before q))

pub Gains-nothing : (shape : Shape) (set : LockSet) → Gains shape set set Nothing
Gains-nothing shape set = record {
  reads = λ r. sym (or-false ((held_uses set).reads r));
  writes = λ r. sym (or-false ((held_uses set).writes r));
}

pub Gains-gets : (shape : Shape) (old new : LockSet) (r : Resource) → AddsResource (held_uses old).reads (held_uses new).reads r → (held_uses new).writes ≡ (held_uses old).writes → Gains shape old new (Gets r)
Gains-gets shape old new r adds same = record {
  reads = λ q. adds-at (held_uses old).reads (held_uses new).reads r q adds;
  writes = λ q. kept-at (held_uses old).writes (held_uses new).writes q same;
}

pub Gains-changes : (shape : Shape) (old new : LockSet) (r : Resource) → (held_uses new).reads ≡ (held_uses old).reads → AddsResource (held_uses old).writes (held_uses new).writes r → Gains shape old new (Changes r)
Gains-changes shape old new r same adds = record {
  reads = λ q. kept-at (held_uses old).reads (held_uses new).reads q same;
  writes = λ q. adds-at (held_uses old).writes (held_uses new).writes r q adds;
}

-- the device of a called function is written
device-at : (f : Option FunShape) (device : Option DeviceId) (r : Resource) → device ≡ device_in f → is_device_of f r ≡ is_same_device device r
device-at None device r e = ap (λ (d : Option DeviceId). is_same_device d r) (sym e)
device-at (Some f) device r e = ap (λ (d : Option DeviceId). is_same_device d r) (sym e)

pub Gains-calls : (shape : Shape) (old new : LockSet) (fun : FunId) (d : DeviceId) → Some d ≡ device_in (function_shape shape fun) → Gains shape old new (Changes (Device d)) → Gains shape old new (Calls fun)
Gains-calls shape old new fun d e gains = record {
  reads = gains.reads;
  writes = λ r. gains.writes r ∙ ap (λ (b : Bool). (held_uses old).writes r || b) (sym (device-at (function_shape shape fun) (Some d) r e));
}

pub Gains-calls_none : (shape : Shape) (set : LockSet) (fun : FunId) → None ≡ device_in (function_shape shape fun) → Gains shape set set (Calls fun)
Gains-calls_none shape set fun e = record {
  reads = λ r. sym (or-false ((held_uses set).reads r));
  writes = λ r. sym (or-false ((held_uses set).writes r)) ∙ ap (λ (b : Bool). (held_uses set).writes r || b) (sym (device-at (function_shape shape fun) None r e));
}

-- a sent buffer is read, and then the function's device is written
or-again : (a b : Bool) → ((a || b) || false) ≡ (a || b)
or-again a b = or-false (a || b)

pub Gains-sends : (shape : Shape) (old between new : LockSet) (fun : FunId) (buf : BufId) → Gains shape old between (Gets (Buffer buf)) → Gains shape between new (Calls fun) → Gains shape old new (Sends fun buf)
Gains-sends shape old between new fun buf first second = record {
  reads = λ r. second.reads r ∙ or-false ((held_uses between).reads r) ∙ first.reads r;
  writes = λ r. second.writes r ∙ ap (λ (b : Bool). b || is_device_of (function_shape shape fun) r) (first.writes r ∙ or-false ((held_uses old).writes r));
}

-- ---- the code's instructions

-- the k-th instruction is found at its place
fetch-at : (at : ℕ) (code : Code) (k : ℕ) (d : ℕ × Instr) → AreFrom at code → k < length code → fetch code (get_or code k d).0 ≡ Some (get_or code k d).1
fetch-at at [] k d from lt = absurd (omega arith)
fetch-at at (p ∷ code) zero d from lt = let e : eqb p.0 p.0 ≡ true = eq-eqb p.0 p.0 refl in rw e refl
fetch-at at (p ∷ code) (suc k) d from lt =
    let found = fetch-at (at + size_of p.1) code k d from.1 (omega arith) in
    let range = fetch-range (at + size_of p.1) code (get_or code k d).0 (get_or code k d).1 from.1 found in
    let first : p.0 ≡ at = from.0 in
    let other : eqb p.0 (get_or code k d).0 ≡ false = ne_eqb p.0 (get_or code k d).0 (λ e. absurd (omega (arith, range.0))) in
    rw other found

-- the k-th instruction stands behind those before it
place-at : (at : ℕ) (code : Code) (k : ℕ) (d : ℕ × Instr) → AreFrom at code → k < length code → (get_or code k d).0 ≡ at + size_of_code (take k code)
place-at at [] k d from lt = absurd (omega arith)
place-at at (p ∷ code) zero d from lt = let e : p.0 ≡ at = from.0 in omega arith
place-at at (p ∷ code) (suc k) d from lt =
    let later = place-at (at + size_of p.1) code k d from.1 (omega arith) in
    let e : size_of_code (p ∷ take k code) ≡ size_of p.1 + size_of_code (take k code) = refl in
    omega arith

-- and takes its size
size-next : (code : Code) (k : ℕ) (d : ℕ × Instr) → k < length code → size_of_code (take (suc k) code) ≡ size_of_code (take k code) + size_of (get_or code k d).1
size-next [] k d lt = absurd (omega arith)
size-next (p ∷ code) zero d lt = let e : size_of_code (take (suc zero) (p ∷ code)) ≡ size_of p.1 = omega arith in omega arith
size-next (p ∷ code) (suc k) d lt =
    let later = size-next code k d (omega arith) in
    let e : size_of_code (take (suc (suc k)) (p ∷ code)) ≡ size_of p.1 + size_of_code (take (suc k) code) = refl in
    let f : size_of_code (take (suc k) (p ∷ code)) ≡ size_of p.1 + size_of_code (take k code) = refl in
    omega (arith, later, e, f)

-- instructions that take fewer bytes are not all
fewer-size : (code : Code) (k : ℕ) → size_of_code (take k code) < size_of_code code → k < length code
fewer-size [] zero lt = absurd (omega arith)
fewer-size [] (suc k) lt = absurd (omega arith)
fewer-size (p ∷ code) zero lt = omega arith
fewer-size (p ∷ code) (suc k) lt =
    let e : size_of_code (take (suc k) (p ∷ code)) ≡ size_of p.1 + size_of_code (take k code) = refl in
    let f : size_of_code (p ∷ code) ≡ size_of p.1 + size_of_code code = refl in
    let later = fewer-size code k (omega (arith, lt, e, f)) in
    omega (arith, later)

-- instructions that take as many bytes are all
whole-size : (code : Code) (k : ℕ) → size_of_code code ≤ size_of_code (take k code) → length code ≤ k
whole-size [] k le = omega arith
whole-size (p ∷ code) zero le = absurd (let f : size_of_code (p ∷ code) ≡ size_of p.1 + size_of_code code = refl in omega (arith, f, le))
whole-size (p ∷ code) (suc k) le =
    let e : size_of_code (take (suc k) (p ∷ code)) ≡ size_of p.1 + size_of_code (take k code) = refl in
    let f : size_of_code (p ∷ code) ≡ size_of p.1 + size_of_code code = refl in
    let later = whole-size code k (omega (arith, le, e, f)) in
    omega (arith, later)

below : (n limit most : ℕ) → limit ≤ most → IsTrue (nat_lt n limit) → IsTrue (nat_lt n most)
below n limit most le h = let k : n < limit = ltb-true n limit h in lt-ltb n most (omega arith)

-- what an instruction in range names is a resource that a machine can have
names : (shape : Shape) (i : Instr) → shape.shared ≤ 16 → shape.buffers ≤ 8 → IsTrue (is_in_range shape i) → IsTrue (names_resource (use_of i))
names shape (GetS v) shared buffers h = below v.0 shape.shared 16 shared h
names shape (SetS v) shared buffers h = below v.0 shape.shared 16 shared h
names shape (BGet b) shared buffers h = below b.0 shape.buffers 8 buffers h
names shape (BSet b) shared buffers h = below b.0 shape.buffers 8 buffers h
names shape (BAdd b) shared buffers h = below b.0 shape.buffers 8 buffers h
names shape (BTake b) shared buffers h = below b.0 shape.buffers 8 buffers h
names shape (BSize b) shared buffers h = below b.0 shape.buffers 8 buffers h
names shape (BClear b) shared buffers h = below b.0 shape.buffers 8 buffers h
names shape (FunBuf f b) shared buffers h = below b.0 shape.buffers 8 buffers h
names shape _ shared buffers h = refl

-- so in verified code
pub verified-names : (d : Description) (v : VerifiedCode) (place : ℕ) (i : Instr) (u : Use) → v.shape ≡ shape_of d → IsVerifiedCode v → fetch v.code place ≡ Some i → u ≡ use_of i → IsTrue (names_resource u)
verified-names d v place i u shape is there e =
    let right = is.is_sound.each place i there in
    let P : Use → Type 0 = λ w. IsTrue (names_resource w) in
    let Q : Shape → Type 0 = λ s. IsTrue (is_in_range s i) in
    subst P (sym e) (names (shape_of d) i (bounds_of d).shared_high (bounds_of d).buffers_high (subst Q shape right.names))

-- ---- the device of a function

below_eight : (devices : ℕ) (device : Option DeviceId) → devices ≤ 8 → is_there devices device ≡ true → IfSome device (λ d. d.0 < 8)
below_eight devices None few h = tt
below_eight devices (Some d) few h = let k : d.0 < devices = ltb-true d.0 devices h in omega arith

-- a description's function has its device, which is one of 8
pub device-some : (d : Description) (functions : List Function) (fun : FunId) (f : Function) → functions ≡ d.functions.items → fun.0 < length functions → f ≡ get_or functions fun.0 f
    → (f.device ≡ device_in (function_shape (shape_of d) fun)) × IfSome f.device (λ device. device.0 < 8)
device-some d functions fun f same lt is =
    let fs = d.functions.items in
    let lt' : fun.0 < length fs = (let k : length functions ≡ length fs = ap length same in omega arith) in
    let is' : f ≡ get_or fs fun.0 f = is ∙ ap (λ (xs : List Function). get_or xs fun.0 f) same in
    let found : function_shape (shape_of d) fun ≡ Some (fun_shape (get_or fs fun.0 f)) =
    slice_get-map fun_shape fs fun.0 ∙ ap (option_map fun_shape) (slice_get-get_or fs fun.0 f lt') in
    let rules : is_function (length d.devices.items) f ≡ true = ap (is_function (length d.devices.items)) is' ∙ function_at d fun.0 f lt' in
    let there : is_there (length d.devices.items) f.device ≡ true = grind (arith, and_parts) in (
      ap (λ (g : Function). g.device) is' ∙ sym (ap device_in found),
      below_eight (length d.devices.items) f.device (bounds_of d).devices_high there,
    )

-- a function that a description doesn't have has none
pub device-none : (d : Description) (functions : List Function) (fun : FunId) → functions ≡ d.functions.items → length functions ≤ fun.0 → None ≡ device_in (function_shape (shape_of d) fun)
device-none d functions fun same past =
    let fs = d.functions.items in
    let past' : length fs ≤ fun.0 = (let k : length functions ≡ length fs = ap length same in omega arith) in
    let none : function_shape (shape_of d) fun ≡ None = slice_get-map fun_shape fs fun.0 ∙ ap (option_map fun_shape) (slice_get_past fs fun.0 past') in
    sym (ap device_in none)

-- ---- the loop over them

locks-more : (shape : Shape) (code : Code) (k : ℕ) (d : ℕ × Instr) (old new : LockSet) (u : Use) → k < length code → u ≡ use_of (get_or code k d).1 → AreLocksOf shape (take k code) old → Gains shape old new u → AreLocksOf shape (take (k + 1) code) new
locks-more shape code k d old new u lt e so_far gains =
    let reader = λ (r : Resource) (p : ℕ × Instr). reads_in (use_of p.1) r in
    let writer = λ (r : Resource) (p : ℕ × Instr). writes_in shape (use_of p.1) r in
    record {
      reads = λ r. gains.reads r ∙ ap (λ (b : Bool). b || reads_in u r) (so_far.reads r)
          ∙ ap (λ (x : Use). list_any (reader r) (take k code) || reads_in x r) e ∙ sym (list_any_more (reader r) code k d lt);
      writes = λ r. gains.writes r ∙ ap (λ (b : Bool). b || writes_in shape u r) (so_far.writes r)
          ∙ ap (λ (x : Use). list_any (writer r) (take k code) || writes_in shape x r) e ∙ sym (list_any_more (writer r) code k d lt);
    }

pub gathered-none : (shape : Shape) (code : Code) (set : LockSet) → IsSameUses (held_uses set) no_uses → IsGathered shape code 0 set
gathered-none shape code set empty = record { many = 0; place_is = omega arith; locks = record { reads = empty.reads; writes = empty.writes } }

-- the instruction at the place is the next one
next-there : (shape : Shape) (code : Code) (place : ℕ) (set : LockSet) (so_far : IsGathered shape code place set) → AreFrom 0 code → place < size_of_code code
    → (so_far.many < length code) × (fetch code place ≡ Some (get_or code so_far.many (0, Halt)).1)
next-there shape code place set so_far from lt =
    let k = so_far.many in
    let few = fewer-size code k (let e = so_far.place_is in omega (arith, e, lt)) in
    let same : (get_or code k (0, Halt)).0 ≡ place = (let at = place-at 0 code k (0, Halt) from few in let e = so_far.place_is in omega (arith, at, e)) in
    (few, ap (fetch code) (sym same) ∙ fetch-at 0 code k (0, Halt) from few)

pub starts-there : (shape : Shape) (v : VerifiedCode) (place len : ℕ) (bytes : List ℕ) (set : LockSet) → IsGathered shape v.code place set → IsVerifiedCode v → bytes ≡ v.bytes → len ≡ length bytes → place < len → IsTrue (is_start v.code place)
starts-there shape v place len bytes set so_far is same len_is lt =
    let below : place < size_of_code v.code = (let size = is.are_verified.size in let e = ap length same in omega (arith, size, e, len_is, lt)) in
    let next = next-there shape v.code place set so_far is.are_verified.is_verified.places below in
    ap (λ (o : Option Instr). is_some o) next.1

pub gathered-more : (shape : Shape) (v : VerifiedCode) (place len : ℕ) (bytes : List ℕ) (i : Instr) (old new : LockSet) (u : Use) → IsGathered shape v.code place old → IsVerifiedCode v → bytes ≡ v.bytes → len ≡ length bytes → place < len
    → fetch v.code place ≡ Some i → u ≡ use_of i → Gains shape old new u → IsGathered shape v.code (place + size_of i) new
gathered-more shape v place len bytes i old new u so_far is same len_is lt there e gains =
    let k = so_far.many in
    let below : place < size_of_code v.code = (let size = is.are_verified.size in let e = ap length same in omega (arith, size, e, len_is, lt)) in
    let next = next-there shape v.code place old so_far is.are_verified.is_verified.places below in
    let i_is : i ≡ (get_or v.code k (0, Halt)).1 = (let f : Some i ≡ Some (get_or v.code k (0, Halt)).1 = sym there ∙ next.1 in cc) in
    let sized = size-next v.code k (0, Halt) next.0 in
    let one : suc k ≡ k + 1 = omega arith in
    record {
      many = k + 1;
      place_is = ap (λ (j : Instr). place + size_of j) i_is ∙ ap (λ (n : ℕ). n + size_of (get_or v.code k (0, Halt)).1) so_far.place_is ∙ sym sized ∙ ap (λ (n : ℕ). size_of_code (take n v.code)) one;
      locks = locks-more shape v.code k (0, Halt) old new u next.0 (e ∙ ap use_of i_is) so_far.locks gains;
    }

pub locks-all : (shape : Shape) (v : VerifiedCode) (place len : ℕ) (bytes : List ℕ) (set : LockSet) → IsVerifiedCode v → bytes ≡ v.bytes → len ≡ length bytes → len ≤ place → IsGathered shape v.code place set → AreLocksOf shape v.code set
locks-all shape v place len bytes set is same len_is past so_far =
    let whole : length v.code ≤ so_far.many = whole-size v.code so_far.many (let size = is.are_verified.size in let e = ap length same in let at = so_far.place_is in omega (arith, size, e, len_is, past, at)) in
    let P : Code → Type 0 = λ c. AreLocksOf shape c set in
    subst P (take_all so_far.many v.code whole) so_far.locks
