use Rattle.std.proofs.Common.{map, take}
use Rattle.ts_proc_names.specs.Numbers.{Tabulates}
use Rattle.ts_proc_names.proofs.name_table.NameTable.of_words.Given as goal

-- the table has the names so far
abbrev pub invariant-loop-place : goal.invariant-loop-place
invariant-loop-place l = Tabulates l.table (map (λ w. w.name) (take l.place l.words))
