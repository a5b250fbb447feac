use Rattle.std.proofs.Common.{◌≡◌, drop}
use Rattle.audit_rules.specs.Stamps.{rise, rise_from}
use Rattle.audit_rules.proofs.following.stamps_rise.Given as goal

abbrev pub invariant-loop-stamped : goal.invariant-loop-stamped
invariant-loop-stamped l = rise_from l.last (drop l.stamped-index l.fn.entries) ≡ rise l.fn.entries
