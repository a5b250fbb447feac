-- Positions in a list of events, counted from 0, and the parts of a journal in which no era begins.
use Rattle.std.specs.Prelude.{◌≡◌, ℕ, zero, suc, List, [], ◌∷◌, ⊤, MatchBool}
use Rattle.mate_num.specs.Lists.{Each}
use Rattle.mate_num.specs.declared.call.End.{End}
use Rattle.mate_journal.specs.Journal.{JournalEntry, Ended, begins_era, TimedEntry}

-- the entry at the position is this one
abbrev pub TellsAt : List TimedEntry → ℕ → JournalEntry → Type 0
TellsAt [] p told = ⊥
TellsAt (e ∷ es) zero told = e.told ≡ told
TellsAt (e ∷ es) (suc p) told = TellsAt es p told

-- the invocation ends at the position
pub record EndsAt (es : List TimedEntry) (n : ℕ) (p : ℕ) : Type 0 where
  pub how : End
  pub tells : TellsAt es p (Ended n how)

-- the events are of one era: none begins another
abbrev pub AreOfOneEra : List TimedEntry → Type 0
AreOfOneEra = Each (λ e. MatchBool (begins_era e.told) ⊥ ⊤)
