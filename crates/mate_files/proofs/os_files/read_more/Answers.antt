-- What was read into the front of the room is behind what was held.
use Rattle.std.proofs.Common.{◌≡◌, ℕ, ◌≤◌, List, ◌++◌, length, take, arith, rules, length-take-le}
use Rattle.std.proofs.lemmas.Grind.{common_steps}
use Rattle.mate_files.proofs.os_files.read_more.Goals as goal

pub returns-in-Ok-extend_from_slice-clause-appends : goal.returns-in-Ok-extend_from_slice-clause-appends
returns-in-Ok-extend_from_slice-clause-appends g c =
    let count : ℕ = c.in-Ok.count in
    let part : List ℕ = c.read.new.buf in
    let fits : count ≤ length part = c.in-Ok.ensures.bound.0 in
    let few : count ≤ c.args.most = grind (arith, common_steps) in
    let read : c.extend_from_slice.new.self.items ≡ c.args.bytes.now.items ++ take count part = first_of (grind (arith, common_steps), search rules) in
    (take count part, read, length-take-le count part fits, few, c.in-Ok.ensures.bytes.0)
