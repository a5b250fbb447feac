-- Why a line of a script is refused, as the program reports it.
use Rattle.std.specs.Prelude.{ℕ, List, ◌++◌, codes, decimal}
use Rattle.script_steps.specs.declared.fault.Cause.{Cause}
use Rattle.script_steps.specs.declared.fault.Cause.TheVariants.{Word, Number, Range, TimeBack, OldVersion, Name, Node, Packet}

abbrev pub cause_words : Cause → List ℕ
cause_words Word = codes "word\n"
cause_words Number = codes "number\n"
cause_words Range = codes "range\n"
cause_words TimeBack = codes "timeback\n"
cause_words OldVersion = codes "oldversion\n"
cause_words Name = codes "name\n"
cause_words Node = codes "node\n"
cause_words Packet = codes "packet\n"

-- the line's number, and the cause
abbrev pub bad_line_words : ℕ → Cause → List ℕ
bad_line_words line why = decimal line ++ codes " " ++ cause_words why
