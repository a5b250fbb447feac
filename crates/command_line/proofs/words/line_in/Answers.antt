use Rattle.std.proofs.Common.{◌≡◌, Some, codes, rules}
use Rattle.clap.specs.Words.{first_value, found_of}
use Rattle.command_line.proofs.words.line_in.Goals as goal

pub returns : goal.returns
returns c =
    let some : first_value (found_of c.args.matches.now) (codes "command") ≡ Some c.in-Some.command.now = search rules in
    record { brief = c.is_given.ensures; fold = c.is_given-2.ensures; command = some; args = c.in_ok-args.ensures.args }
