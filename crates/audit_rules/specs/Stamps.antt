-- Stamps along the entries of a log.
use Rattle.std.specs.Prelude.{◌&&◌, Bool, true, List, [], ◌∷◌, Option, None, Some}
use Rattle.mate_num.specs.declared.call.Stamp.{Stamp}
use Rattle.mate_journal.specs.declared.entry.Stamped.{Stamped}
use Rattle.audit_rules.specs.Following.{not_before}

-- a stamp isn't before the last one, if there was one
abbrev pub follows : Option Stamp → Stamp → Bool
follows None s = true
follows (Some last) s = not_before last s

abbrev pub rise_from : Option Stamp → List Stamped → Bool
rise_from last [] = true
rise_from last (e ∷ es) = follows last e.stamp && rise_from (Some e.stamp) es

abbrev pub rise : List Stamped → Bool
rise es = rise_from None es
