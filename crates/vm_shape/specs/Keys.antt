-- The words of the keys.
use Rattle.std.specs.Prelude.{ℕ, List, codes}
use Rattle.vm_shape.specs.declared.key.Key.{Key}
use Rattle.vm_shape.specs.declared.key.Key.TheVariants as key

-- a key as a text names it
abbrev pub word_of : Key → List ℕ
word_of key.Vm = codes "vm"
word_of key.Shared = codes "shared"
word_of key.Buffers = codes "buffers"
word_of key.Devices = codes "devices"
word_of key.Turns = codes "turns"
word_of key.Quantum = codes "quantum"
word_of key.Handler = codes "handler"
word_of key.HandlerName = codes "handler.name"
word_of key.HandlerKind = codes "handler.kind"
word_of key.HandlerContexts = codes "handler.contexts"
word_of key.HandlerPeriod = codes "handler.period"
word_of key.Function = codes "function"
word_of key.FunctionName = codes "function.name"
word_of key.FunctionKind = codes "function.kind"
word_of key.FunctionArgs = codes "function.args"
word_of key.FunctionDevice = codes "function.device"
word_of key.FunctionLatency = codes "function.latency"
word_of key.TrickleImin = codes "trickle.imin"
word_of key.TrickleDoublings = codes "trickle.doublings"
word_of key.TrickleK = codes "trickle.k"
word_of key.RadioDelay = codes "radio.delay"
word_of key.RadioGap = codes "radio.gap"
word_of key.Unknown = codes "unknown"
