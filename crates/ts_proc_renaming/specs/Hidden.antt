-- What the program's hidden names mean.
use Rattle.ts_proc_renaming.specs.declared.hidden.Hidden.{Hidden}
use Rattle.ts_proc_renaming.specs.Renaming.{Hiding}

abbrev pub hiding_of : Hidden → Hiding
hiding_of h = record { first = h.first; params = h.params.words.now }
