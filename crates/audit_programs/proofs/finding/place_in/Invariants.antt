use Rattle.std.proofs.Common.{◌≡◌, drop}
use Rattle.std.specs.List.{list_any}
use Rattle.node_programs.specs.Sources.{is_held_as}
use Rattle.audit_programs.proofs.finding.place_in.Given as goal

-- the rest settles it
abbrev pub invariant-loop-place : goal.invariant-loop-place
invariant-loop-place l =
    list_any (is_held_as record { handler = l.handler; version = l.version; image = l.image }) (drop l.place l.programs) ≡ list_any (is_held_as record { handler = l.handler; version = l.version; image = l.image }) l.programs
