-- What a description holds, and its lengths, ranges and rules.
use Rattle.std.specs.Prelude.{ℕ, List, length, map, Bool, true, ◌&&◌, ◌+◌, ◌*◌, ◌%◌, ◌^◌, ◌==◌, nat_le, Option, Some, None, is_none, ◌++◌, sum_by}
use Rattle.std.specs.Option.{option_or}
use Rattle.std.specs.List.{list_all}
use Rattle.mate_num.specs.declared.bounds.TheConstants.{SHARED_MAX, BUFFERS_MAX, DEVICES_MAX, FUNCTIONS_MAX, HANDLERS_MAX, CONTEXTS_MAX, FRAGMENTS_MAX, HOUR}
use Rattle.vm_shape.specs.declared.settings.TheConstants.{DOUBLINGS_MAX}
use Rattle.vm_shape.specs.Names.{between, is_name, first_repeat}
use Rattle.vm_shape.specs.declared.handler.Handler.{Handler}
use Rattle.vm_shape.specs.declared.handler.HandlerKind.{HandlerKind}
use Rattle.vm_shape.specs.declared.handler.HandlerKind.TheVariants.{Timer}
use Rattle.vm_shape.specs.declared.function.Function.{Function}
use Rattle.vm_shape.specs.declared.function.FunKind.{FunKind}
use Rattle.vm_shape.specs.declared.function.FunKind.TheVariants.{Act}
use Rattle.vm_shape.specs.declared.settings.TrickleSet.{TrickleSet}
use Rattle.vm_shape.specs.declared.settings.RadioSet.{RadioSet}
use Rattle.mate_num.specs.Shapes.{is_device}

-- the parts of a description, each list as a list
pub record Parts : Type 0 where
  pub vm_id : ℕ
  pub handlers : List Handler
  pub functions : List Function
  pub shared : List (List ℕ)
  pub buffers : List (List ℕ)
  pub devices : List (List ℕ)
  pub turns : ℕ
  pub quantum : ℕ
  pub trickle : TrickleSet
  pub radio : RadioSet

abbrev pub parts : (vm_id : ℕ) (handlers : List Handler) (functions : List Function) (shared buffers devices : List (List ℕ))
    (turns quantum : ℕ) (trickle : TrickleSet) (radio : RadioSet) → Parts
parts vm_id handlers functions shared buffers devices turns quantum trickle radio = record {
  vm_id = vm_id;
  handlers = handlers;
  functions = functions;
  shared = shared;
  buffers = buffers;
  devices = devices;
  turns = turns;
  quantum = quantum;
  trickle = trickle;
  radio = radio;
}

-- a timer's period is from 1 to 3,600,000 ms
abbrev pub is_kind : HandlerKind → Bool
is_kind (Timer period) = between 1 HOUR period
is_kind _ = true

abbrev pub is_handler : Handler → Bool
is_handler h = (is_name h.name && is_kind h.kind) && between 1 4 h.contexts

-- how many values a function takes, other than a buffer
abbrev pub function_args : FunKind → ℕ
function_args (Act args) = args
function_args _ = 0

abbrev pub is_function : ℕ → Function → Bool
is_function devices f = ((is_name f.name && nat_le (function_args f.kind) 4) && is_device devices f.device) && between 1 60000 f.latency

-- the longest interval, in ms
abbrev pub longest : TrickleSet → ℕ
longest t = t.imin * 2 ^ t.doublings

abbrev pub is_trickle : TrickleSet → Bool
is_trickle t =
    ((between 2 60000 t.imin && t.imin % 2 == 0) && (nat_le t.doublings DOUBLINGS_MAX && nat_le (longest t) HOUR)) && between 1 255 t.k

abbrev pub is_radio : RadioSet → Bool
is_radio r = between 1 10000 r.delay && between 1 10000 r.gap

-- the time, in ms, that one round of all handlers' packets takes at most: a capsule has up to FRAGMENTS_MAX
-- fragments, each in a packet of its own
abbrev pub round_time : ℕ → RadioSet → ℕ
round_time handlers r = handlers * FRAGMENTS_MAX * r.gap + 3 * r.delay

abbrev pub context_sum : List Handler → ℕ
context_sum handlers = sum_by (λ h. h.contexts) handlers

-- the first name that its list repeats: shared variables and buffers are one list
abbrev pub duplicate_among : List (List ℕ) → List (List ℕ) → List (List ℕ) → List Handler → List Function → Option (List ℕ)
duplicate_among shared buffers devices handlers functions =
    option_or (first_repeat (shared ++ buffers))
    (option_or (first_repeat devices)
    (option_or (first_repeat (map (λ h. h.name) handlers))
    (first_repeat (map (λ f. f.name) functions))))

abbrev pub duplicate_of : Parts → Option (List ℕ)
duplicate_of p = duplicate_among p.shared p.buffers p.devices p.handlers p.functions

-- at least one handler, and not too many, with not too many contexts in all
abbrev pub are_handlers : List Handler → Bool
are_handlers hs = (between 1 HANDLERS_MAX (length hs) && list_all is_handler hs) && nat_le (context_sum hs) CONTEXTS_MAX

-- not too many functions
abbrev pub are_functions : ℕ → List Function → Bool
are_functions devices fs = nat_le (length fs) FUNCTIONS_MAX && list_all (is_function devices) fs

-- at most `most` names, each of them right
abbrev pub are_names : ℕ → List (List ℕ) → Bool
are_names most names = nat_le (length names) most && list_all is_name names

abbrev pub are_variables : Parts → Bool
are_variables p = (are_names SHARED_MAX p.shared && are_names BUFFERS_MAX p.buffers) && are_names DEVICES_MAX p.devices

abbrev pub are_settings : Parts → Bool
are_settings p =
    ((nat_le p.vm_id 4294967295 && nat_le p.turns 1000000) && between 1 10000 p.quantum) && (is_trickle p.trickle && is_radio p.radio)

-- all rules of a description
abbrev pub is_valid : Parts → Bool
is_valid p =
    ((are_handlers p.handlers && are_functions (length p.devices) p.functions) && (are_variables p && are_settings p))
    && (is_none (duplicate_of p) && nat_le (round_time (length p.handlers) p.radio) (longest p.trickle))
