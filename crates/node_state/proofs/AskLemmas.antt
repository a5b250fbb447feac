-- A run that wants a call fetched an instruction that calls the function: so a program that asks a device writes it, and the
-- function is one of the machine's.
use Rattle.std.proofs.Common.{◌≡◌, ◌<◌, ℕ, zero, suc, ◌+◌, ℤ, Bool, true, false, List, [], ◌∷◌, Option, None, Some, Result, Ok, Err, refl, sym, ◌∙◌, ap, subst, arith, length, drop, map}
use Rattle.std.specs.Option.{option_and_then}
use Rattle.std.specs.Result.{result_unwrap_or}
use Rattle.std.proofs.lemmas.List.{length-map}
use Rattle.std.specs.Prelude.{◌==◌, slice_get, slice_set, nat_lt, if◌then◌else◌}
use Rattle.arrayvec.specs.ArrayVec.{ArrayVec}
use Rattle.mate_num.specs.Store.{item_of, item_set, appended, last_of, without_last}
use Rattle.mate_num.specs.declared.call.End.TheVariants as end
use Rattle.mate_num.specs.declared.call.FaultKind.{FaultKind}
use Rattle.mate_num.specs.declared.id.DeviceId.{DeviceId}
use Rattle.mate_num.specs.declared.id.FunId.{FunId}
use Rattle.mate_num.specs.declared.resource.Resource.TheVariants.{Device}
use Rattle.mate_num.specs.declared.shape.FunShape.{FunShape}
use Rattle.mate_num.specs.declared.shape.Shape.{Shape}
use Rattle.mate_num.specs.declared.store.Store.{Store}
use Rattle.mate_code.specs.declared.instr.Instr.{Instr}
use Rattle.mate_code.specs.declared.instr.Instr.TheVariants.{Halt, PushW, PushB, GetS, SetS, GetP, SetP, Add, Sub, Mul, Div, Mod, Neg, Not, And, Or, Eq, Ne, Lt, Gt, Le, Ge, Jz, Jmp, Back, Drop, MsgGet, MsgSize, BGet, BSet, BAdd, BTake, BSize, BClear, Fun, FunBuf}
use Rattle.mate_code.specs.CodeUses.{use_of, writes_in, uses_of}
use Rattle.mate_code.specs.declared.uses.Use.TheVariants.{Nothing, Gets, Changes, Calls, Sends}
use Rattle.mate_code.specs.declared.uses.Use.{Use}
use Rattle.mate_num.specs.Uses.{function_shape, is_device_of, is_same_device}
use Rattle.mate_code.specs.Effect.{Private, Effect, Goes, Writes, Asks, Halts, Faults, Sticks, on_top, on_one, on_two, gives, changes, takes, pays, at_zero, asks, arguments, with_stack, does, args_of}
use Rattle.mate_num.specs.Operators.{sum_of, difference_of, product_of, quotient_of, remainder_of, negative_of, not_of, and_of, or_of, eq_of, ne_of, lt_of, gt_of, le_of, ge_of}
use Rattle.mate_code.specs.Run.{Code, fetch, Status, Going, Over, Stuck, Own, Run, asked, own_after_effect, effect_in, executed_at, step_at, step, after, begun_run, bound, end_of, code_run, whole_code_run}
use Rattle.mate_code.specs.declared.decoding.DecodeFault.{DecodeFault}
use Rattle.mate_num.specs.Results.{◌>>=◌}
use Rattle.mate_code.specs.Code.{decoded, decoded_from, instr_at, operand_at}
use Rattle.mate_code.specs.Kind.{kind_of, form_of}
use Rattle.mate_code.specs.Instr.{size_of}
use Rattle.mate_code.specs.Table.{Layout, IsInTable, table_of}
use Rattle.mate_code.proofs.OpcodeLemmas.{opcode_of-kind_at}
use Rattle.mate_code.proofs.ReadLemmas.{kind_of-instr_of, instr_at_ok}
use Rattle.vm_shape.specs.declared.description.Description.{Description}
use Rattle.vm_shape.specs.declared.function.Function.{Function}
use Rattle.vm_shape.specs.Shapes.{shape_of, fun_shape}
use Rattle.mate_journal.specs.Devices.{WritesWhatItAsks}
use Rattle.node_state.specs.Meaning.{image_code, meaning_of, machine_in}
use Rattle.mate_code.proofs.CellLemmas.{is_same-refl}
use Rattle.mate_code.proofs.RunLemmas.{fetch-Any}

-- the instruction calls the function
abbrev pub IsCallOf : Use → FunId → Type 0
IsCallOf (Calls g) f = g ≡ f
IsCallOf (Sends g b) f = g ≡ f
IsCallOf _ f = ⊥

-- an effect that asks is one of a call
abbrev AsksBy : Use → Effect → Type 0
AsksBy u (Asks p f args) = IsCallOf u f
AsksBy u _ = Unit {0}

on_top-AsksBy : (u : Use) (stack : List ℤ) (go : ℤ → List ℤ → Effect) → ((x : ℤ) (rest : List ℤ) → AsksBy u (go x rest)) → AsksBy u (on_top stack go)
on_top-AsksBy u [] go each = tt
on_top-AsksBy u (x ∷ rest) go each = each x rest

gives-AsksBy : (u : Use) (r : Result ℤ FaultKind) (p : Private) → AsksBy u (gives r p)
gives-AsksBy u (Ok x) p = tt
gives-AsksBy u (Err kind) p = tt

changes-AsksBy : (u : Use) (r : Result (List ℤ) FaultKind) (p : Private) → AsksBy u (changes r p)
changes-AsksBy u (Ok cell) p = tt
changes-AsksBy u (Err kind) p = tt

takes-AsksBy : (u : Use) (r : Result ℤ FaultKind) (cell : List ℤ) (p : Private) → AsksBy u (takes r cell p)
takes-AsksBy u (Ok x) cell p = tt
takes-AsksBy u (Err kind) cell p = tt

pays-AsksBy : (u : Use) (turns target : ℕ) (p : Private) → AsksBy u (pays turns target p)
pays-AsksBy u zero target p = tt
pays-AsksBy u (suc left) target p = tt

one-AsksBy : (u : Use) (f : ℤ → Result ℤ FaultKind) (p : Private) → AsksBy u (on_one f p)
one-AsksBy u f p = on_top-AsksBy u p.stack (λ x rest. gives (f x) (with_stack rest p)) (λ x rest. gives-AsksBy u (f x) (with_stack rest p))

two-AsksBy : (u : Use) (f : ℤ → ℤ → Result ℤ FaultKind) (p : Private) → AsksBy u (on_two f p)
two-AsksBy u f p =
    on_top-AsksBy u p.stack (λ right below. on_top below (λ left rest. gives (f left right) (with_stack rest p)))
    (λ right below. on_top-AsksBy u below (λ left rest. gives (f left right) (with_stack rest p)) (λ left rest. gives-AsksBy u (f left right) (with_stack rest p)))

asks-AsksBy : (u : Use) (n : ℕ) (f : FunId) (p : Private) → IsCallOf u f → AsksBy u (asks n f p)
asks-AsksBy u n f p calls = by (nat_lt (length p.stack) n) where
  by : (b : Bool) → AsksBy u (if b then Sticks else Asks (with_stack (drop n p.stack) p) f (arguments n p.stack))
  by true = tt
  by false = calls

does-AsksBy : (shape : Shape) (i : Instr) (p : Private) (cell : List ℤ) → AsksBy (use_of i) (does shape i p cell)
does-AsksBy shape (SetS v) p cell = on_top-AsksBy (use_of (SetS v)) p.stack (λ x rest. Writes (with_stack rest p) (x ∷ [])) (λ x rest. tt)
does-AsksBy shape (SetP n) p cell = on_top-AsksBy Nothing p.stack (λ x rest. Goes (record p { stack = rest; privates = slice_set p.privates n x })) (λ x rest. tt)
does-AsksBy shape Add p cell = two-AsksBy Nothing sum_of p
does-AsksBy shape Sub p cell = two-AsksBy Nothing difference_of p
does-AsksBy shape Mul p cell = two-AsksBy Nothing product_of p
does-AsksBy shape Div p cell = two-AsksBy Nothing quotient_of p
does-AsksBy shape Mod p cell = two-AsksBy Nothing remainder_of p
does-AsksBy shape Neg p cell = one-AsksBy Nothing negative_of p
does-AsksBy shape Not p cell = one-AsksBy Nothing not_of p
does-AsksBy shape And p cell = two-AsksBy Nothing and_of p
does-AsksBy shape Or p cell = two-AsksBy Nothing or_of p
does-AsksBy shape Eq p cell = two-AsksBy Nothing eq_of p
does-AsksBy shape Ne p cell = two-AsksBy Nothing ne_of p
does-AsksBy shape Lt p cell = two-AsksBy Nothing lt_of p
does-AsksBy shape Gt p cell = two-AsksBy Nothing gt_of p
does-AsksBy shape Le p cell = two-AsksBy Nothing le_of p
does-AsksBy shape Ge p cell = two-AsksBy Nothing ge_of p
does-AsksBy shape (Jz target) p cell = on_top-AsksBy Nothing p.stack (λ x rest. Goes (at_zero x target (with_stack rest p))) (λ x rest. tt)
does-AsksBy shape (Back target) p cell = pays-AsksBy Nothing p.turns target p
does-AsksBy shape Drop p cell = on_top-AsksBy Nothing p.stack (λ x rest. Goes (with_stack rest p)) (λ x rest. tt)
does-AsksBy shape MsgGet p cell = one-AsksBy Nothing (item_of p.msg) p
does-AsksBy shape (BGet b) p cell = one-AsksBy (use_of (BGet b)) (item_of cell) p
does-AsksBy shape (BSet b) p cell =
    on_top-AsksBy (use_of (BSet b)) p.stack (λ x below. on_top below (λ index rest. changes (item_set cell index x) (with_stack rest p)))
    (λ x below. on_top-AsksBy (use_of (BSet b)) below (λ index rest. changes (item_set cell index x) (with_stack rest p)) (λ index rest. changes-AsksBy (use_of (BSet b)) (item_set cell index x) (with_stack rest p)))
does-AsksBy shape (BAdd b) p cell = on_top-AsksBy (use_of (BAdd b)) p.stack (λ x rest. changes (appended cell x) (with_stack rest p)) (λ x rest. changes-AsksBy (use_of (BAdd b)) (appended cell x) (with_stack rest p))
does-AsksBy shape (BTake b) p cell = takes-AsksBy (use_of (BTake b)) (last_of cell) (without_last cell) p
does-AsksBy shape (Fun f) p cell = asks-AsksBy (Calls f) (args_of shape f) f p refl
does-AsksBy shape (FunBuf f b) p cell = refl
does-AsksBy shape _ p cell = tt

-- ---- a run that wants a call

-- the code has an instruction that calls the function
pub record CallsOf (code : Code) (f : FunId) : Type 0 where
  pub place : ℕ
  pub instr : Instr
  pub stands : fetch code place ≡ Some instr
  pub calls : IsCallOf (use_of instr) f

asked-wants : (u : Use) (p : Private) (g : FunId) (given : ArrayVec ℤ) (left : List ℤ) (o : Own) (f : FunId) (args : ArrayVec ℤ) → IsCallOf u g → o.status ≡ Going
    → (asked p g given left o).status ≡ Over (end.Wants f args) → IsCallOf u f
asked-wants u p g given [] o f args calls going wants = let same : g ≡ f = cc in subst (IsCallOf u) same calls
asked-wants u p g given (a ∷ left) o f args calls going wants = let both : Over (end.Wants f args) ≡ Going = sym wants ∙ going in cc

own_after-wants : (u : Use) (e : Effect) (o : Own) (f : FunId) (args : ArrayVec ℤ) → AsksBy u e → o.status ≡ Going → (own_after_effect e o).status ≡ Over (end.Wants f args) → IsCallOf u f
own_after-wants u (Goes p) o f args by going wants = let both : Over (end.Wants f args) ≡ Going = sym wants ∙ going in cc
own_after-wants u (Writes p cell) o f args by going wants = let both : Over (end.Wants f args) ≡ Going = sym wants ∙ going in cc
own_after-wants u (Asks p g given) o f args by going wants = asked-wants u p g given o.left o f args by going wants
own_after-wants u _ o f args by going wants = cc

step-wants : (shape : Shape) (code : Code) (r : Run) (f : FunId) (args : ArrayVec ℤ) → (r.own.status ≡ Over (end.Wants f args) → CallsOf code f)
    → (step shape code r).own.status ≡ Over (end.Wants f args) → CallsOf code f
step-wants shape code r f args before wants = by r.own.status refl wants where
  found : (o : Option Instr) → fetch code r.own.own.pc ≡ o → r.own.status ≡ Going → (executed_at shape o r).own.status ≡ Over (end.Wants f args) → CallsOf code f
  found None is going wants = cc
  found (Some i) is going wants = record {
    place = r.own.own.pc;
    instr = i;
    stands = is;
    calls = own_after-wants (use_of i) (effect_in shape i r.own.own r.store) r.own f args (does-AsksBy shape i _ _) going wants;
  }

  by : (status : Status) → r.own.status ≡ status → (step_at shape code status r).own.status ≡ Over (end.Wants f args) → CallsOf code f
  by Going is wants = found (fetch code r.own.own.pc) refl is wants
  by (Over e) is wants = before wants
  by Stuck is wants = before wants

after-wants : (n : ℕ) (shape : Shape) (code : Code) (r : Run) (f : FunId) (args : ArrayVec ℤ) → r.own.status ≡ Going → (after n shape code r).own.status ≡ Over (end.Wants f args) → CallsOf code f
unfolding after
after-wants zero shape code r f args going wants = let both : Over (end.Wants f args) ≡ Going = sym wants ∙ going in cc
after-wants (suc n) shape code r f args going wants = step-wants shape code (after n shape code r) f args (after-wants n shape code r f args going) wants

end_of-wants : (s : Status) (f : FunId) (args : ArrayVec ℤ) → end_of s ≡ end.Wants f args → s ≡ Over (end.Wants f args)
end_of-wants Going f args wants = cc
end_of-wants (Over e) f args wants = ap Over wants
end_of-wants Stuck f args wants = cc

-- code whose run wants a call has an instruction that makes it
pub asked-by : (shape : Shape) (code : Code) (store : Store) (msg : ArrayVec ℤ) (answers : List ℤ) (turns : ℕ) (f : FunId) (args : ArrayVec ℤ)
    → (code_run shape code store msg answers turns).end ≡ end.Wants f args → CallsOf code f
asked-by shape code store msg answers turns f args wants =
    after-wants (bound code turns) shape code (begun_run store msg answers turns) f args refl (end_of-wants (whole_code_run shape code store msg answers turns).own.status f args wants)

-- ---- the device of the call

call-writes : (shape : Shape) (u : Use) (f : FunId) (x : FunShape) (d : DeviceId) → IsCallOf u f → function_shape shape f ≡ Some x → x.device ≡ Some d → writes_in shape u (Device d) ≡ true
call-writes shape (Calls g) f x d calls is speaks =
    ap (λ (h : FunId). is_device_of (function_shape shape h) (Device d)) calls
    ∙ ap (λ (o : Option FunShape). is_device_of o (Device d)) is
    ∙ ap (λ (o : Option DeviceId). is_same_device o (Device d)) speaks ∙ is_same-refl (Device d)
call-writes shape (Sends g b) f x d calls is speaks =
    ap (λ (h : FunId). is_device_of (function_shape shape h) (Device d)) calls
    ∙ ap (λ (o : Option FunShape). is_device_of o (Device d)) is
    ∙ ap (λ (o : Option DeviceId). is_same_device o (Device d)) speaks ∙ is_same-refl (Device d)
call-writes shape _ f x d calls is speaks = absurd calls

-- code that calls a function of a device writes the device
pub CallsOf-writes : (shape : Shape) (code : Code) (f : FunId) (x : FunShape) (d : DeviceId) → CallsOf code f → function_shape shape f ≡ Some x → x.device ≡ Some d
    → (uses_of shape code).writes (Device d) ≡ true
CallsOf-writes shape code f x d calls is speaks =
    fetch-Any (λ i. writes_in shape (use_of i) (Device d)) code calls.place calls.instr calls.stands (call-writes shape (use_of calls.instr) f x d calls.calls is speaks)

-- ---- a program that asks a device writes it

device-shaped : (fs : List Function) (k : ℕ) (d : DeviceId) → option_and_then (λ (f : Function). f.device) (slice_get fs k) ≡ Some d → (x : FunShape) × (slice_get (map fun_shape fs) k ≡ Some x) × (x.device ≡ Some d)
device-shaped [] k d speaks = cc
device-shaped (f ∷ fs) zero d speaks = (fun_shape f, refl, speaks)
device-shaped (f ∷ fs) (suc k) d speaks = device-shaped fs k d speaks

pub writes-what_it_asks : (d : Description) → WritesWhatItAsks (machine_in d).device_of (meaning_of (shape_of d))
writes-what_it_asks d p store payload answers turns f args device wants speaks =
    let x = device-shaped d.functions.items f.0 device speaks in
    CallsOf-writes (shape_of d) (image_code (shape_of d) p.image) f x.0 device (asked-by (shape_of d) (image_code (shape_of d) p.image) store payload answers turns f args wants) x.1 x.2

-- ---- the function of the call is one of the machine's

-- each instruction is in the table
abbrev AllInTable : Layout → Code → Type 0
AllInTable t code = (place : ℕ) (i : Instr) → fetch code place ≡ Some i → IsInTable t (kind_of i)

AllInTable-cons : (t : Layout) (at_ : ℕ) (i : Instr) (code : Code) → IsInTable t (kind_of i) → AllInTable t code → AllInTable t ((at_, i) ∷ code)
AllInTable-cons t at_ i code first rest place j found = by (at_ == place) found where
  by : (b : Bool) → (if b then Some i else fetch code place) ≡ Some j → IsInTable t (kind_of j)
  by true found = let same : i ≡ j = cc in subst (λ (k : Instr). IsInTable t (kind_of k)) same first
  by false found = rest place j found

decoded_from-in_table : (count : ℕ) (t : Layout) (place : ℕ) (bytes : List ℕ) (code : Code) → decoded_from count t place bytes ≡ Ok code → AllInTable t code
unfolding decoded_from
decoded_from-in_table count t place [] code is = λ k i found. let none : [] ≡ code = cc in let P : Code → Type 0 = λ c. fetch c k ≡ Some i in let f : P [] = subst P (sym none) found in cc
decoded_from-in_table zero t place (opcode ∷ bytes) code is = λ k i found. let none : [] ≡ code = cc in let P : Code → Type 0 = λ c. fetch c k ≡ Some i in let f : P [] = subst P (sym none) found in cc
decoded_from-in_table (suc count) t place (opcode ∷ bytes) code is = first (λ at_ bs others rest. decoded_from-in_table count t at_ bs others rest) (instr_at t place opcode bytes) refl is where
  first : ((at_ : ℕ) (bs : List ℕ) (others : Code) → decoded_from count t at_ bs ≡ Ok others → AllInTable t others) → (r : Result (Instr × List ℕ) DecodeFault) → instr_at t place opcode bytes ≡ r
      → (r >>= (λ head. decoded_from count t (place + size_of head.0) head.1 >>= (λ others. Ok ((place, head.0) ∷ others)))) ≡ Ok code → AllInTable t code
  first lower (Err fault) read is = absurd cc
  first lower (Ok head) read is = second (decoded_from count t (place + size_of head.0) head.1) refl is where
    second : (r : Result Code DecodeFault) → decoded_from count t (place + size_of head.0) head.1 ≡ r → (r >>= (λ others. Ok ((place, head.0) ∷ others))) ≡ Ok code → AllInTable t code
    second (Err fault) rest is = absurd cc
    second (Ok others) rest is =
        let same : (place, head.0) ∷ others ≡ code = cc in
        let r = instr_at_ok t place opcode bytes head.0 head.1 read in
        let kind : kind_of head.0 ≡ r.kind = ap kind_of r.is ∙ kind_of-instr_of r.kind (operand_at (form_of r.kind) bytes) in
        subst (AllInTable t) same (AllInTable-cons t place head.0 others (subst (IsInTable t) (sym kind) (opcode_of-kind_at t opcode r.kind r.known).in_table)
        (lower (place + size_of head.0) head.1 others rest))

code_in-in_table : (t : Layout) (bytes : List ℕ) (r : Result Code DecodeFault) → decoded t bytes ≡ r → AllInTable t (result_unwrap_or r [])
code_in-in_table t bytes (Ok code) is = decoded_from-in_table (length bytes) t 0 bytes code is
code_in-in_table t bytes (Err fault) is = λ k i found. cc

code_of-in_table : (shape : Shape) (image : ArrayVec ℕ) → AllInTable (table_of shape) (image_code shape image)
unfolding image_code
code_of-in_table shape image = code_in-in_table (table_of shape) (drop 16 image.items) (decoded (table_of shape) (drop 16 image.items)) refl

slice_get-below : {A : Type 0} (xs : List A) (k : ℕ) (x : A) → slice_get xs k ≡ Some x → k < length xs
slice_get-below [] k x is = cc
slice_get-below (y ∷ xs) zero x is = omega arith
slice_get-below (y ∷ xs) (suc k) x is = let below = slice_get-below xs k x is in omega (arith, below)

call-in_range : (t : Layout) (i : Instr) (f : FunId) → IsCallOf (use_of i) f → IsInTable t (kind_of i) → f.0 < length t.sends
call-in_range t (Fun g) f calls in_table = let below = slice_get-below t.sends g.0 false in_table in subst (λ (h : FunId). h.0 < length t.sends) calls below
call-in_range t (FunBuf g b) f calls in_table = let below = slice_get-below t.sends g.0 true in_table in subst (λ (h : FunId). h.0 < length t.sends) calls below
call-in_range t _ f calls in_table = absurd calls

-- a call that the run of an image's code wants is of a function of the machine
pub asked-in_range : (d : Description) (image : ArrayVec ℕ) (store : Store) (msg : ArrayVec ℤ) (answers : List ℤ) (turns : ℕ) (f : FunId) (args : ArrayVec ℤ)
    → (code_run (shape_of d) (image_code (shape_of d) image) store msg answers turns).end ≡ end.Wants f args → f.0 < length d.functions.items
asked-in_range d image store msg answers turns f args wants =
    let calls = asked-by (shape_of d) (image_code (shape_of d) image) store msg answers turns f args wants in
    let below = call-in_range (table_of (shape_of d)) calls.instr f calls.calls (code_of-in_table (shape_of d) image calls.place calls.instr calls.stands) in
    let shapes : length (map fun_shape d.functions.items) ≡ length d.functions.items = length-map d.functions.items fun_shape in
    let sends : length (table_of (shape_of d)).sends ≡ length (map fun_shape d.functions.items) = length-map (map fun_shape d.functions.items) (λ (x : FunShape). x.send) in
    omega (arith, below, sends, shapes)
