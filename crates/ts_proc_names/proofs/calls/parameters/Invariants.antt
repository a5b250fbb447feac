use Rattle.std.proofs.Common.{◌≡◌, [], drop, take, map}
use Rattle.ts_proc_names.specs.NameFaults.{params_fault}
use Rattle.ts_proc_names.proofs.calls.parameters.Given as goal

-- the first refusal of all the parameters is that of the rest behind those so far
abbrev pub invariant-loop-place : goal.invariant-loop-place
invariant-loop-place l = params_fault [] l.params ≡ params_fault (map (λ w. w.name) (take l.place l.params)) (drop l.place l.params)
