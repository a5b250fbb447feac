-- What every description keeps, for those who are handed one.
use Rattle.std.proofs.Common.{◌≡◌, ℕ, ◌+◌, ◌≤◌, ◌<◌, List, [], ◌∷◌, length, map, Bool, true, ◌&&◌, ◌==◌, nat_le, IsTrue, Option, None, Some, is_none, not, ◌||◌, refl, ap, sym, arith, ◌∙◌, take, drop, get_or, zero, suc, zero-add, add-one, ◌-◌, ◌%◌, subst, le_trans, lt_of_lt_of_le}
use Rattle.std.proofs.Math.Seq.{take-length, drop-cons}
use Rattle.std.proofs.lemmas.Bool.{and_parts, leb-true, le-leb, ltb-true, lt-ltb, le-ltb, eqb-true}
use Rattle.std.proofs.lemmas.List.{take_all, drop_all}
use Rattle.std.proofs.lemmas.List.Sums.{sum_by-cons, sum_by-take-le, sum_by_more, sum_by_more_le}
use Rattle.std.specs.List.{list_all}
use Rattle.mate_num.specs.declared.shape.FunShape.{FunShape}
use Rattle.mate_num.specs.declared.shape.Shape.{Shape}
use Rattle.mate_num.specs.Shapes.{is_device, is_fun_shape, is_shape}
use Rattle.vm_shape.specs.Limits.{Parts, is_valid, are_handlers, are_functions, are_names, are_variables, are_settings, is_handler, is_kind, is_function, is_trickle, is_radio, round_time, longest, duplicate_of, context_sum, function_args}
use Rattle.vm_shape.specs.Names.{between, is_name}
use Rattle.vm_shape.specs.Contexts.{first_context, handler_of}
use Rattle.std.proofs.Math.Bool.{Bool-set}
use Rattle.vm_shape.specs.Whole.{described, parts_of, context_count}
use Rattle.vm_shape.specs.Bounds.{HasBounds, HasItems}
use Rattle.vm_shape.specs.Shapes.{shape_of, fun_shape, sends_buffer}
use Rattle.vm_shape.specs.declared.description.Description.{Description}
use Rattle.vm_shape.specs.declared.settings.TrickleSet.{TrickleSet}
use Rattle.vm_shape.specs.declared.function.Function.{Function}
use Rattle.vm_shape.specs.declared.function.FunKind.{FunKind}
use Rattle.vm_shape.specs.declared.function.FunKind.TheVariants.{Sense, Act, Send, Id, Rand, Clock}
use Rattle.mate_num.specs.declared.id.DeviceId.{DeviceId}
use Rattle.vm_shape.specs.declared.handler.Handler.{Handler}

-- what the tests of a description say, each by its name
between-parts : (low high n : ℕ) → between low high n ≡ true → (low ≤ n) × (n ≤ high)
between-parts low high n h = let (from_low, to_high) = and_parts (nat_le low n) (nat_le n high) h in (leb-true low n from_low, leb-true n high to_high)

record Tests (p : Parts) : Type 0 where
  handlers : are_handlers p.handlers ≡ true
  functions : are_functions (length p.devices) p.functions ≡ true
  variables : are_variables p ≡ true
  settings : are_settings p ≡ true
  distinct : is_none (duplicate_of p) ≡ true
  timely : nat_le (round_time (length p.handlers) p.radio) (longest p.trickle) ≡ true

tests_of : (p : Parts) → is_valid p ≡ true → Tests p
tests_of p valid =
    let code = are_handlers p.handlers && are_functions (length p.devices) p.functions in
    let rest = are_variables p && are_settings p in
    let timely = nat_le (round_time (length p.handlers) p.radio) (longest p.trickle) in
    let (each, together) = and_parts (code && rest) (is_none (duplicate_of p) && timely) valid in
    let (of_code, of_rest) = and_parts code rest each in
    let (of_handlers, of_functions) = and_parts (are_handlers p.handlers) (are_functions (length p.devices) p.functions) of_code in
    let (of_variables, of_settings) = and_parts (are_variables p) (are_settings p) of_rest in
    let (distinct, in_time) = and_parts (is_none (duplicate_of p)) timely together in
    record { handlers = of_handlers; functions = of_functions; variables = of_variables; settings = of_settings; distinct = distinct; timely = in_time }

record HandlerTests (hs : List Handler) : Type 0 where
  low : 1 ≤ length hs
  high : length hs ≤ 8
  each : list_all is_handler hs ≡ true
  contexts : context_sum hs ≤ 16

handler_tests : (hs : List Handler) → are_handlers hs ≡ true → HandlerTests hs
handler_tests hs h =
    let (items, contexts) = and_parts (between 1 8 (length hs) && list_all is_handler hs) (nat_le (context_sum hs) 16) h in
    let (count, each) = and_parts (between 1 8 (length hs)) (list_all is_handler hs) items in
    let (low, high) = between-parts 1 8 (length hs) count in
    record { low = low; high = high; each = each; contexts = leb-true (context_sum hs) 16 contexts }

names_kept : (most : ℕ) (names : List (List ℕ)) → are_names most names ≡ true → (length names ≤ most) × (list_all is_name names ≡ true)
names_kept most names h =
    let (few, each) = and_parts (nat_le (length names) most) (list_all is_name names) h in
    (leb-true (length names) most few, each)

record VariableTests (p : Parts) : Type 0 where
  shared : (length p.shared ≤ 16) × (list_all is_name p.shared ≡ true)
  buffers : (length p.buffers ≤ 8) × (list_all is_name p.buffers ≡ true)
  devices : (length p.devices ≤ 8) × (list_all is_name p.devices ≡ true)

variable_tests : (p : Parts) → are_variables p ≡ true → VariableTests p
variable_tests p h =
    let (variables, devices) = and_parts (are_names 16 p.shared && are_names 8 p.buffers) (are_names 8 p.devices) h in
    let (shared, buffers) = and_parts (are_names 16 p.shared) (are_names 8 p.buffers) variables in
    record { shared = names_kept 16 p.shared shared; buffers = names_kept 8 p.buffers buffers; devices = names_kept 8 p.devices devices }

record SettingTests (p : Parts) : Type 0 where
  vm_id : p.vm_id ≤ 4294967295
  turns : p.turns ≤ 1000000
  quantum : (1 ≤ p.quantum) × (p.quantum ≤ 10000)
  trickle : is_trickle p.trickle ≡ true
  radio : is_radio p.radio ≡ true

setting_tests : (p : Parts) → are_settings p ≡ true → SettingTests p
setting_tests p h =
    let numbers = nat_le p.vm_id 4294967295 && nat_le p.turns 1000000 in
    let (of_numbers, sets) = and_parts (numbers && between 1 10000 p.quantum) (is_trickle p.trickle && is_radio p.radio) h in
    let (of_two, quantum) = and_parts numbers (between 1 10000 p.quantum) of_numbers in
    let (vm_id, turns) = and_parts (nat_le p.vm_id 4294967295) (nat_le p.turns 1000000) of_two in
    let (trickle, radio) = and_parts (is_trickle p.trickle) (is_radio p.radio) sets in
    record {
      vm_id = leb-true p.vm_id 4294967295 vm_id;
      turns = leb-true p.turns 1000000 turns;
      quantum = between-parts 1 10000 p.quantum quantum;
      trickle = trickle;
      radio = radio;
    }

record TrickleTests (t : TrickleSet) : Type 0 where
  imin : (2 ≤ t.imin) × (t.imin ≤ 60000)
  even : t.imin % 2 ≡ 0
  doublings : t.doublings ≤ 16
  longest : longest t ≤ 3600000
  k : (1 ≤ t.k) × (t.k ≤ 255)

trickle_tests : (t : TrickleSet) → is_trickle t ≡ true → TrickleTests t
trickle_tests t h =
    let first = between 2 60000 t.imin && t.imin % 2 == 0 in
    let doubled = nat_le t.doublings 16 && nat_le (longest t) 3600000 in
    let (of_times, k) = and_parts (first && doubled) (between 1 255 t.k) h in
    let (of_first, of_doubled) = and_parts first doubled of_times in
    let (imin, even) = and_parts (between 2 60000 t.imin) (t.imin % 2 == 0) of_first in
    let (doublings, long) = and_parts (nat_le t.doublings 16) (nat_le (longest t) 3600000) of_doubled in
    record {
      imin = between-parts 2 60000 t.imin imin;
      even = eqb-true (t.imin % 2) 0 even;
      doublings = leb-true t.doublings 16 doublings;
      longest = leb-true (longest t) 3600000 long;
      k = between-parts 1 255 t.k k;
    }

pub contexts-bounds : (h : Handler) → is_handler h ≡ true → (1 ≤ h.contexts) × (h.contexts ≤ 4)
contexts-bounds h rules = between-parts 1 4 h.contexts (and_parts (is_name h.name && is_kind h.kind) (between 1 4 h.contexts) rules).1

-- each of one or more handlers has a context
context_sum-low : (hs : List Handler) → list_all is_handler hs ≡ true → length hs ≤ context_sum hs
context_sum-low [] h = omega arith
context_sum-low (x ∷ hs) h =
    let (here, more) = and_parts (is_handler x) (list_all is_handler hs) h in
    let ih : length hs ≤ context_sum hs = context_sum-low hs more in
    let low : 1 ≤ x.contexts = (contexts-bounds x here).0 in
    let step : context_sum (x ∷ hs) ≡ x.contexts + context_sum hs = sum_by-cons (λ h. h.contexts) x hs in
    omega arith

none_there : {A : Type 0} (o : Option A) → is_none o ≡ true → o ≡ None
none_there None h = refl
none_there (Some x) h = cc

-- the items of a description's lists, and its names
pub items_of : (d : Description) → HasItems d
items_of d =
    let tests : Tests (parts_of d) = tests_of (parts_of d) d.valid in
    let names : VariableTests (parts_of d) = variable_tests (parts_of d) tests.variables in
    record {
      each_handler = (handler_tests d.handlers.items tests.handlers).each;
      each_function = (and_parts (nat_le (length d.functions.items) 32) (list_all (is_function (length d.devices.items)) d.functions.items) tests.functions).1;
      each_shared = names.shared.1;
      each_buffer = names.buffers.1;
      each_device = names.devices.1;
      distinct = none_there (duplicate_of (parts_of d)) tests.distinct;
    }

-- the lengths and ranges of a description
pub bounds_of : (d : Description) → HasBounds d
bounds_of d =
    let tests : Tests (parts_of d) = tests_of (parts_of d) d.valid in
    let handlers : HandlerTests d.handlers.items = handler_tests d.handlers.items tests.handlers in
    let names : VariableTests (parts_of d) = variable_tests (parts_of d) tests.variables in
    let settings : SettingTests (parts_of d) = setting_tests (parts_of d) tests.settings in
    let trickle : TrickleTests d.trickle = trickle_tests d.trickle settings.trickle in
    let (delay, gap) = and_parts (between 1 10000 d.radio.delay) (between 1 10000 d.radio.gap) settings.radio in
    let delays = between-parts 1 10000 d.radio.delay delay in
    let gaps = between-parts 1 10000 d.radio.gap gap in
    record {
      contexts_low = le_trans handlers.low (context_sum-low d.handlers.items handlers.each);
      vm_id = settings.vm_id;
      handlers_low = handlers.low;
      handlers_high = handlers.high;
      contexts_high = handlers.contexts;
      functions_high = leb-true (length d.functions.items) 32 (and_parts (nat_le (length d.functions.items) 32) (list_all (is_function (length d.devices.items)) d.functions.items) tests.functions).0;
      shared_high = names.shared.0;
      buffers_high = names.buffers.0;
      devices_high = names.devices.0;
      turns_high = settings.turns;
      quantum_low = settings.quantum.0;
      quantum_high = settings.quantum.1;
      imin_low = trickle.imin.0;
      imin_high = trickle.imin.1;
      imin_even = trickle.even;
      doublings_high = trickle.doublings;
      longest_high = trickle.longest;
      k_low = trickle.k.0;
      k_high = trickle.k.1;
      delay_low = delays.0;
      delay_high = delays.1;
      gap_low = gaps.0;
      gap_high = gaps.1;
      round_fits = leb-true (round_time (length d.handlers.items) d.radio) (longest d.trickle) tests.timely;
    }

-- the Trickle settings keep their rules together
pub trickle_rules : (d : Description) → IsTrue (is_trickle d.trickle)
trickle_rules d = (setting_tests (parts_of d) (tests_of (parts_of d) d.valid).settings).trickle

args_fit : (kind : FunKind) → nat_le (function_args kind) 4 ≡ true → (nat_le (function_args kind) 4 && (not (sends_buffer kind) || function_args kind == 0)) ≡ true
args_fit (Act args) h = rw h refl
args_fit _ h = refl

device_fits : (devices : ℕ) (o : Option DeviceId) → devices ≤ 8 → is_device devices o ≡ true → is_device 8 o ≡ true
device_fits devices None few h = refl
device_fits devices (Some d) few h = lt-ltb d.0 8 (lt_of_lt_of_le (ltb-true d.0 devices h) few)

-- a function's shape keeps the limits of shapes
fun_shape-limits : (devices : ℕ) (fs : List Function) → devices ≤ 8 → list_all (is_function devices) fs ≡ true → list_all is_fun_shape (map fun_shape fs) ≡ true
fun_shape-limits devices [] few h = refl
fun_shape-limits devices (f ∷ fs) few h =
    let (here, more) = and_parts (is_function devices f) (list_all (is_function devices) fs) h in
    let (parts, latency) = and_parts ((is_name f.name && nat_le (function_args f.kind) 4) && is_device devices f.device) (between 1 60000 f.latency) here in
    let (form, device) = and_parts (is_name f.name && nat_le (function_args f.kind) 4) (is_device devices f.device) parts in
    let (name, args) = and_parts (is_name f.name) (nat_le (function_args f.kind) 4) form in
    let this : is_fun_shape (fun_shape f) ≡ true = rw (args_fit f.kind args, device_fits devices f.device few device) refl in
    rw (this, fun_shape-limits devices fs few more) refl

all_limits : (shared buffers : ℕ) (each : Bool) → shared ≤ 16 → buffers ≤ 8 → each ≡ true → (nat_le shared 16 && nat_le buffers 8 && each) ≡ true
all_limits shared buffers each a b e = rw (le-leb shared 16 a, le-leb buffers 8 b, e) refl

limits_of_parts : (d : Description) → HasBounds d → HasItems d → IsTrue (is_shape (shape_of d))
limits_of_parts d b i =
    all_limits (length d.shared.items) (length d.buffers.items) (list_all is_fun_shape (map fun_shape d.functions.items)) b.shared_high b.buffers_high
    (fun_shape-limits (length d.devices.items) d.functions.items b.devices_high i.each_function)

-- the shape that has all functions' shapes
abbrev pub shape_with : ℕ → ℕ → List FunShape → Shape
shape_with shared buffers shapes = record { shared = shared; buffers = buffers; functions = record { items = shapes } }

pub shape_with-all : (d : Description) (shared buffers i : ℕ) (fs : List Function) (shapes : List FunShape) → shared ≡ length d.shared.items → buffers ≡ length d.buffers.items
    → fs ≡ d.functions.items → length fs ≤ i → shapes ≡ map fun_shape (take i fs) → shape_with shared buffers shapes ≡ shape_of d
shape_with-all d shared buffers i fs shapes of_shared of_buffers same past so_far =
    let all : shapes ≡ map fun_shape d.functions.items = so_far ∙ ap (map fun_shape) (take_all i fs past ∙ same) in
    rw (of_shared, of_buffers, all) refl

-- the shape of a description keeps the limits of shapes
pub shape_of-limits : (d : Description) (s : Shape) → s ≡ shape_of d → IsTrue (is_shape s)
shape_of-limits d s same = rw same (limits_of_parts d (bounds_of d) (items_of d))

-- the contexts of some handlers and of the next one are within the whole number
pub context_sum-more : (d : Description) (hs : List Handler) (n i : ℕ) (h : Handler) → hs ≡ d.handlers.items → i < length (take n hs)
    → context_sum (take i (take n hs)) + (get_or (take n hs) i h).contexts ≤ 16
context_sum-more d hs n i h same within =
    let all : HasBounds d = bounds_of d in
    let whole : context_sum hs ≡ context_count d = ap context_sum same in
    let some = sum_by-take-le (λ (h : Handler). h.contexts) hs n in
    let next = sum_by_more_le (λ (h : Handler). h.contexts) (take n hs) i h within in
    omega arith

-- the contexts so far, and those of one handler more
pub context_sum-next : (hs : List Handler) (i : ℕ) (h : Handler) (contexts : ℕ) → i < length hs → h ≡ get_or hs i h → contexts ≡ context_sum (take i hs)
    → contexts + h.contexts ≡ context_sum (take (i + 1) hs)
context_sum-next hs i h contexts within at so_far =
    ap (λ (n : ℕ). n + h.contexts) so_far ∙ ap (λ (x : Handler). context_sum (take i hs) + x.contexts) at
    ∙ sym (sum_by_more (λ (h : Handler). h.contexts) hs i h within)

-- the contexts of all handlers
pub first_context-all : (d : Description) (n contexts : ℕ) → n ≡ length d.handlers.items → contexts ≡ first_context d.handlers.items n → contexts ≡ context_count d
first_context-all d n contexts same e = e ∙ rw (same, take-length) refl

-- what holds of each item of a list, at a place in it
pub list_all-at : {A : Type 0} (test : A → Bool) (xs : List A) (i : ℕ) (d : A) → list_all test xs ≡ true → i < length xs → test (get_or xs i d) ≡ true
list_all-at test [] i d all within = absurd (omega arith)
list_all-at test (x ∷ xs) zero d all within = (and_parts (test x) (list_all test xs) all).0
list_all-at test (x ∷ xs) (suc i) d all within = list_all-at test xs i d (and_parts (test x) (list_all test xs) all).1 (omega arith)

-- a handler has a name, a kind and 1 to 4 contexts
pub handler_at : (d : Description) (i : ℕ) (h : Handler) → i < length d.handlers.items → is_handler (get_or d.handlers.items i h) ≡ true
handler_at d i h within = list_all-at is_handler d.handlers.items i h (items_of d).each_handler within

-- a function's arguments, device and latency are in range
pub function_at : (d : Description) (i : ℕ) (f : Function) → i < length d.functions.items → is_function (length d.devices.items) (get_or d.functions.items i f) ≡ true
function_at d i f within = list_all-at (is_function (length d.devices.items)) d.functions.items i f (items_of d).each_function within

-- the contexts of a handler come before those of the next one, and all are within the whole number
pub first_context-more : (hs : List Handler) (i : ℕ) (h : Handler) → i < length hs → first_context hs (i + 1) ≡ first_context hs i + (get_or hs i h).contexts
first_context-more hs i h within = sum_by_more (λ (h : Handler). h.contexts) hs i h within

pub first_context-within : (hs : List Handler) (i : ℕ) (h : Handler) → i < length hs → first_context hs i + (get_or hs i h).contexts ≤ context_sum hs
first_context-within hs i h within = sum_by_more_le (λ (h : Handler). h.contexts) hs i h within

-- each of a handler's contexts is its own
pub handler_of-first_context : (hs : List Handler) (i k : ℕ) (h : Handler) → i < length hs → k < (get_or hs i h).contexts → handler_of hs (first_context hs i + k) ≡ i
handler_of-first_context [] i k h within own = absurd (omega arith)
handler_of-first_context (x ∷ hs) zero k h within own = rw (zero-add, lt-ltb k x.contexts own) refl
handler_of-first_context (x ∷ hs) (suc i) k h within own =
    let step : first_context (x ∷ hs) (suc i) ≡ x.contexts + first_context hs i = sum_by-cons (λ h. h.contexts) x (take i hs) in
    let ih = handler_of-first_context hs i k h (omega arith) own in
    let past : x.contexts ≤ first_context (x ∷ hs) (suc i) + k = omega arith in
    let left : first_context (x ∷ hs) (suc i) + k - x.contexts ≡ first_context hs i + k = omega arith in
    rw (le-ltb (first_context (x ∷ hs) (suc i) + k) x.contexts past, left, ih) (add-one i)

-- the handler at i stands in front of those behind it
at_front : (hs : List Handler) (i : ℕ) (h : Handler) → i < length hs → h ≡ get_or hs i h → drop i hs ≡ h ∷ drop (i + 1) hs
at_front hs i h within at = rw (add-one i) (drop-cons hs i h within ∙ ap (λ (x : Handler). x ∷ drop (suc i) hs) (sym at))

-- the context that is sought is behind the contexts of the handler at i
pub handler_of-next : (hs : List Handler) (i left n : ℕ) (h : Handler) → i < length hs → h ≡ get_or hs i h → h.contexts ≤ left
    → handler_of (drop i hs) left + i ≡ n → left < context_sum (drop i hs)
    → (handler_of (drop (i + 1) hs) (left - h.contexts) + (i + 1) ≡ n) × (left - h.contexts < context_sum (drop (i + 1) hs))
handler_of-next hs i left n h within at past so_far some =
    let e = at_front hs i h within at in
    let sought : handler_of (drop (i + 1) hs) (left - h.contexts) + 1 + i ≡ n = rw (e, le-ltb left h.contexts past) at so_far in
    let behind : left < context_sum (h ∷ drop (i + 1) hs) = rw e at some in
    let step : context_sum (h ∷ drop (i + 1) hs) ≡ h.contexts + context_sum (drop (i + 1) hs) = sum_by-cons (λ (x : Handler). x.contexts) h (drop (i + 1) hs) in
    (omega arith, omega arith)

-- it is one of those of the handler at i
pub handler_of-here : (hs : List Handler) (i left n : ℕ) (h : Handler) → i < length hs → h ≡ get_or hs i h → left < h.contexts → handler_of (drop i hs) left + i ≡ n → i ≡ n
handler_of-here hs i left n h within at here so_far =
    let found : 0 + i ≡ n = rw (at_front hs i h within at, lt-ltb left h.contexts here) at so_far in
    omega arith

-- no handler is left for it
pub handler_of-none : (hs : List Handler) (i left : ℕ) → length hs ≤ i → left < context_sum (drop i hs) → ⊥
handler_of-none hs i left past some = let none : left < 0 = rw (drop_all i hs past) at some in omega arith

described-same : (p q : Parts) (v : is_valid p ≡ true) (w : is_valid q ≡ true) → p ≡ q → described p v ≡ described q w
described-same p q v w e =
    let P : Parts → Type 0 = λ r. (u : is_valid r ≡ true) → described p v ≡ described r u in
    subst P e (λ u. ap (described p) (Bool-set (is_valid p) true v u)) w

-- a description is known by its parts
pub parts_of-same : (a b : Description) → parts_of a ≡ parts_of b → a ≡ b
parts_of-same a b e = described-same (parts_of a) (parts_of b) a.valid b.valid e
