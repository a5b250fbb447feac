use Rattle.script_reader.proofs.SeriesLemmas.{IsAppendedTo}
use Rattle.script_reader.proofs.adding.append_all.Given as goal

abbrev pub invariant-loop-value : goal.invariant-loop-value
invariant-loop-value l = IsAppendedTo l.place l.values l.value-index l.initial.series l.series
