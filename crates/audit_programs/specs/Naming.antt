-- The program that an install names.
use Rattle.std.specs.Prelude.{◌≡◌, ℕ, true, List, slice_index_or, slice_get, IsSomeAnd}
use Rattle.mate_num.specs.declared.id.HandlerId.{HandlerId}
use Rattle.mate_journal.specs.Journal.{no_image}
use Rattle.mate_journal.specs.Log.{Log}
use Rattle.mate_journal.specs.Machine.{HeldProgram}
use Rattle.mate_journal.specs.declared.program.Program.{Program}
use Rattle.node_programs.specs.Sources.{is_held_as}

-- with the image that the log has at that position
abbrev pub named_program : Log → HandlerId → ℕ → ℕ → HeldProgram
named_program l handler version image = record { handler = handler; version = version; image = slice_index_or l.images image no_image }

-- the program at a place is held so
abbrev pub IsHeldAt : HeldProgram → List Program → ℕ → Type 0
IsHeldAt h ps place = IsSomeAnd (slice_get ps place) (λ p. is_held_as h p ≡ true)
