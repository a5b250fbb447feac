-- How a run ends that wasn't cut from outside.
use Rattle.std.specs.Prelude.{⊤}
use Rattle.mate_journal.specs.NodeScript.{RunEnd, Whole, Full, Cut}

-- it is whole, or its log is full
abbrev pub EndsByItself : RunEnd → Type 0
EndsByItself Whole = ⊤
EndsByItself Full = ⊤
EndsByItself Cut = ⊥
