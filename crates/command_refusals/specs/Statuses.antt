-- The exit statuses.
use Rattle.std.specs.Prelude.{ℕ}
use Rattle.command_refusals.specs.declared.status.Status.{Status}
use Rattle.command_refusals.specs.declared.status.Status.TheVariants as status

abbrev pub status_code : Status → ℕ
status_code status.Ok = 0
status_code status.Usage = 2
status_code status.FileFault = 3
status_code status.BadDescription = 4
status_code status.BadSource = 5
status_code status.BadScript = 6
status_code status.BadCapsule = 7
status_code status.LogFull = 8
status_code status.SinkFault = 9
status_code status.NoMemory = 10
status_code status.Refuted = 11
status_code status.BadStream = 12
