use Rattle.std.proofs.Common.{◌≡◌, drop}
use Rattle.script_steps.specs.Words.{handler_from}
use Rattle.script_steps.proofs.words.handler_of.Given as goal

abbrev pub invariant-loop-index : goal.invariant-loop-index
invariant-loop-index l = handler_from l.word l.index (drop l.index l.desc.handlers.items) ≡ handler_from l.word 0 l.desc.handlers.items
