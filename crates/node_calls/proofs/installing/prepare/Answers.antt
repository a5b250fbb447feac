-- The version is not newer, or the store is told.
use Rattle.std.proofs.Common.{refl, ap, arith}
use Rattle.node_state.specs.Programs.{HeldPrograms}
use Rattle.node_calls.proofs.installing.prepare.Goals as goal

pub returns-then-version-held-clause-prepares : goal.returns-then-version-held-clause-prepares
returns-then-version-held-clause-prepares c = ((c.version-held.ensures, c.if-version-held.true), refl)

pub seen_in-requires-clause-room : goal.seen_in-requires-clause-room
seen_in-requires-clause-room c = let room = c.requires.room in omega (arith, room)

pub seen_in-requires-clause-few : goal.seen_in-requires-clause-few
seen_in-requires-clause-few c = let few = c.requires.few in omega (arith, few)

pub returns-clause-prepares : goal.returns-clause-prepares
returns-clause-prepares c = record { tells = c.seen_in.ensures.tells; newer = let above = c.if-version-held.false in let same = c.version-held.ensures in omega (arith, above, same) }

pub returns-clause-room : goal.returns-clause-room
returns-clause-room c = ap (λ (hs : HeldPrograms). hs.room) c.seen_in.ensures.handlers
