use Rattle.std.proofs.Common.{◌≡◌, take}
use Rattle.mate_code.specs.Code.{instrs_of}
use Rattle.cases_machine.proofs.code.without_places.Given as goal

abbrev pub invariant-loop-pair : goal.invariant-loop-pair
invariant-loop-pair l = l.instrs.items ≡ instrs_of (take l.pair-index l.pair-items)
