-- The description that a text gives, key by key; if a rule is broken, the first refusal. Each line of a list below
-- reads one key: its name in refusals, its range, its default if it has one, and its place in the text.
use Rattle.std.specs.Prelude.{ℕ, List, [], ◌∷◌, ◌+◌, ◌*◌, ◌%◌, ◌^◌, ◌==◌, length, codes, nat_lt, nat_le, if◌then◌else◌, Option, Some, None, option_map, option_and_then, Result, Ok, Err}
use Rattle.std.specs.List.{position}
use Rattle.std.specs.Str.{bytes_eq}
use Rattle.mate_num.specs.declared.bounds.TheConstants.{SHARED_MAX, BUFFERS_MAX, DEVICES_MAX, FUNCTIONS_MAX, HANDLERS_MAX, HOUR}
use Rattle.vm_shape.specs.declared.settings.TheConstants.{DOUBLINGS_MAX}
use Rattle.toml.specs.Data.{Data, Members, as_str, get_member}
use Rattle.mate_num.specs.declared.id.DeviceId.{DeviceId}
use Rattle.vm_shape.specs.Limits.{Parts, parts, duplicate_of, round_time, longest}
use Rattle.vm_shape.specs.Rules.{few_contexts, no_repeat, in_time}
use Rattle.mate_num.specs.Results.{◌>>=◌}
use Rattle.mate_num.specs.Lists.{lookup_or}
use Rattle.vm_desc.specs.Fields.{taken, field, number, name, names, tables, each, section, member_of, allowed, absent, word_as}
use Rattle.vm_shape.specs.declared.key.Key.TheVariants as key
use Rattle.vm_shape.specs.declared.fault.DescFault.{DescFault}
use Rattle.vm_shape.specs.declared.handler.Handler.{Handler}
use Rattle.vm_shape.specs.declared.handler.HandlerKind.{HandlerKind}
use Rattle.vm_shape.specs.declared.handler.HandlerKind.TheVariants.{Plain, Timer, Receive, Once}
use Rattle.vm_shape.specs.declared.function.Function.{Function}
use Rattle.vm_shape.specs.declared.function.FunKind.{FunKind}
use Rattle.vm_shape.specs.declared.function.FunKind.TheVariants.{Sense, Act, Send, Id, Rand, Clock}
use Rattle.vm_shape.specs.declared.settings.TrickleSet.{TrickleSet}
use Rattle.vm_shape.specs.declared.settings.RadioSet.{RadioSet}

-- the kind that a word names; a timer's period has a key of its own
abbrev pub handler_kind : List ℕ → Option HandlerKind
handler_kind word = lookup_or None word
    ((codes "plain", Some Plain) ∷ (codes "timer", Some (Timer 0)) ∷ (codes "receive", Some Receive) ∷ (codes "once", Some Once) ∷ [])

-- a timer has a period, and no other kind has one
abbrev pub with_period : HandlerKind → Option Data → Result HandlerKind DescFault
with_period (Timer unset) value = field key.HandlerPeriod (number 1 HOUR) None value >>= (λ period. Ok (Timer period))
with_period kind value = absent key.HandlerPeriod kind value

-- a handler's keys
unfoldable pub handler_at : Members → Result Handler DescFault
handler_at t = do
  given ← field key.HandlerName name None (get_member (codes "name") t)
  kind ← field key.HandlerKind (word_as handler_kind) (Some Plain) (get_member (codes "kind") t)
  contexts ← field key.HandlerContexts (number 1 4) (Some 1) (get_member (codes "contexts") t)
  timed ← with_period kind (get_member (codes "period") t)
  Ok (record { name = given; kind = timed; contexts = contexts })

-- the list of handlers, which has one at least
unfoldable pub handlers_at : Option Data → Result (List Handler) DescFault
handlers_at value = do
  d ← taken key.Handler value
  ts ← tables key.Handler HANDLERS_MAX d
  some ← allowed key.Handler (nat_lt 0 (length ts))
  each handler_at ts

-- the kind that a word names; the number of an actuator's arguments has a key of its own
abbrev pub fun_kind : List ℕ → Option FunKind
fun_kind word = lookup_or None word
    ((codes "sense", Some Sense) ∷ (codes "act", Some (Act 0)) ∷ (codes "send", Some Send)
    ∷ (codes "id", Some Id) ∷ (codes "rand", Some Rand) ∷ (codes "clock", Some Clock) ∷ [])

-- an actuator may have arguments, and no other kind may
abbrev pub with_args : FunKind → Option Data → Result FunKind DescFault
with_args (Act unset) value = field key.FunctionArgs (number 0 4) (Some 0) value >>= (λ args. Ok (Act args))
with_args kind value = absent key.FunctionArgs kind value

-- one of the devices, by its name
abbrev pub device : List (List ℕ) → Data → Option (Option DeviceId)
device devices d = option_map (λ n. Some (record { 0 = n })) (option_and_then (λ text. position (bytes_eq text) devices) (as_str d))

-- a function's keys
unfoldable pub function_at : List (List ℕ) → Members → Result Function DescFault
function_at devices t = do
  given ← field key.FunctionName name None (get_member (codes "name") t)
  kind ← field key.FunctionKind (word_as fun_kind) None (get_member (codes "kind") t)
  taking ← with_args kind (get_member (codes "args") t)
  speaks_to ← field key.FunctionDevice (device devices) (Some None) (get_member (codes "device") t)
  latency ← field key.FunctionLatency (number 1 60000) (Some 1) (get_member (codes "latency") t)
  Ok (record { name = given; kind = taking; device = speaks_to; latency = latency })

-- the list of functions, which may be absent
unfoldable pub functions_at : List (List ℕ) → Option Data → Result (List Function) DescFault
functions_at devices None = Ok []
functions_at devices (Some d) = tables key.Function FUNCTIONS_MAX d >>= each (function_at devices)

-- the keys of the Trickle timer
unfoldable pub trickle_at : Option Members → Result TrickleSet DescFault
trickle_at t = do
  imin ← field key.TrickleImin (number 2 60000) (Some 1000) (member_of (codes "imin") t)
  even ← allowed key.TrickleImin (imin % 2 == 0)
  doublings ← field key.TrickleDoublings (number 0 DOUBLINGS_MAX) (Some 4) (member_of (codes "doublings") t)
  short ← allowed key.TrickleDoublings (nat_le (imin * 2 ^ doublings) HOUR)
  k ← field key.TrickleK (number 1 255) (Some 2) (member_of (codes "k") t)
  Ok (record { imin = imin; doublings = doublings; k = k })

-- the keys of the radio
unfoldable pub radio_at : Option Members → Result RadioSet DescFault
radio_at t = do
  delay ← field key.RadioDelay (number 1 10000) (Some 5) (member_of (codes "delay") t)
  gap ← field key.RadioGap (number 1 10000) (Some 50) (member_of (codes "gap") t)
  Ok (record { delay = delay; gap = gap })

-- both settings, whose tables may be absent
unfoldable pub trickle_of : Members → Result TrickleSet DescFault
trickle_of doc = section key.TrickleImin (get_member (codes "trickle") doc) >>= trickle_at

unfoldable pub radio_of : Members → Result RadioSet DescFault
radio_of doc = section key.RadioDelay (get_member (codes "radio") doc) >>= radio_at

-- the rules on all parts together
unfoldable pub ruled : Parts → Result Parts DescFault
ruled p = do
  few ← few_contexts p.handlers
  distinct ← no_repeat (duplicate_of p)
  timely ← in_time (round_time (length p.handlers) p.radio) (longest p.trickle)
  Ok p

-- the keys before the handlers
pub record Opening : Type 0 where
  pub vm_id : ℕ
  pub shared : List (List ℕ)
  pub buffers : List (List ℕ)
  pub devices : List (List ℕ)
  pub turns : ℕ
  pub quantum : ℕ

unfoldable pub opening_at : Members → Result Opening DescFault
opening_at doc = do
  vm_id ← field key.Vm (number 0 4294967295) None (get_member (codes "vm") doc)
  shared ← names key.Shared SHARED_MAX (get_member (codes "shared") doc)
  buffers ← names key.Buffers BUFFERS_MAX (get_member (codes "buffers") doc)
  devices ← names key.Devices DEVICES_MAX (get_member (codes "devices") doc)
  turns ← field key.Turns (number 0 1000000) (Some 10000) (get_member (codes "turns") doc)
  quantum ← field key.Quantum (number 1 10000) (Some 16) (get_member (codes "quantum") doc)
  Ok (record { vm_id = vm_id; shared = shared; buffers = buffers; devices = devices; turns = turns; quantum = quantum })

-- the keys from the handlers on, and the rules on the whole
unfoldable pub from_handlers_at : Opening → Members → Result Parts DescFault
from_handlers_at o doc = do
  handlers ← handlers_at (get_member (codes "handler") doc)
  functions ← functions_at o.devices (get_member (codes "function") doc)
  trickle ← trickle_of doc
  radio ← radio_of doc
  ruled (parts o.vm_id handlers functions o.shared o.buffers o.devices o.turns o.quantum trickle radio)

-- all keys of a document, and the rules on the whole
unfoldable pub description_at : Members → Result Parts DescFault
description_at doc = do
  o ← opening_at doc
  from_handlers_at o doc
