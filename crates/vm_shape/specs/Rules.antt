-- The rules on the parts of a description together, each with its refusal.
use Rattle.std.specs.Prelude.{ℕ, List, nat_lt, if◌then◌else◌, Option, Result, Ok, Err}
use Rattle.std.specs.Option.{option_map_or}
use Rattle.mate_num.specs.declared.bounds.TheConstants.{CONTEXTS_MAX}
use Rattle.vm_shape.specs.Limits.{context_sum}
use Rattle.vm_shape.specs.declared.key.Key.TheVariants as key
use Rattle.vm_shape.specs.declared.fault.DescFault.{DescFault}
use Rattle.vm_shape.specs.declared.fault.DescFault.TheVariants.{OverLimit, Duplicate, SlowImax}
use Rattle.vm_shape.specs.declared.handler.Handler.{Handler}

-- at most CONTEXTS_MAX contexts in all
abbrev pub few_contexts : List Handler → Result (Unit {0}) DescFault
few_contexts handlers = if nat_lt CONTEXTS_MAX (context_sum handlers) then Err (OverLimit key.HandlerContexts) else Ok tt

-- no name is twice in its list
abbrev pub no_repeat : Option (List ℕ) → Result (Unit {0}) DescFault
no_repeat twice = option_map_or (λ name. Err (Duplicate name)) twice (Ok tt)

-- the longest interval has what a round needs
abbrev pub in_time : ℕ → ℕ → Result (Unit {0}) DescFault
in_time need have = if nat_lt have need then Err (SlowImax need have) else Ok tt
