-- What a line of a report says, and its text.
use Rattle.std.specs.Prelude.{◌≡◌, ◌<◌, ◌≤◌, ◌^◌, ℕ, List, [], ◌∷◌, ◌++◌, codes, length, ⊤}
use Rattle.arrayvec.specs.ArrayVec.{ArrayVec}
use Rattle.mate_num.specs.declared.bounds.TheConstants.{IMAGE_MAX, NODES_MAX}
use Rattle.mate_num.specs.declared.store.Store.{Store}
use Rattle.vm_shape.specs.declared.description.Description.{Description}
use Rattle.mate_journal.specs.Log.{Log}
use Rattle.mate_journal.specs.Tidy.{IsStoreOf}
use Rattle.mate_journal.specs.declared.air.Air.{Air}
use Rattle.mate_journal.specs.declared.air.Air.TheVariants as air
use Rattle.mate_journal.specs.declared.entry.Entry.{Entry}
use Rattle.mate_journal.specs.declared.entry.Entry.TheVariants as entry
use Rattle.report_writer.specs.Words.{stamp_words, air_words, entry_words}
use Rattle.mate_journal.specs.Entries.{IsEntryInRange, HasEntryRanges}
use Rattle.mate_journal.specs.Ranges.{IsByteList, HasAirRanges, HasStoreRanges}
use Rattle.report_line_reader.specs.declared.line.Told.{Told}
use Rattle.report_line_reader.specs.declared.line.Told.TheVariants as told
use Rattle.report_line_reader.specs.declared.line.Line.{Line}

-- a log that has these images and stores alone
abbrev pub log_with : List (ArrayVec ℕ) → List Store → Log
log_with images stores = record { entries = []; images = images; stores = stores; spare = 0 }

-- the words of what a line says, each after a space, as they are written
abbrev pub told_words : Description → Told → List ℕ
told_words d (told.OnAir a) = air_words a
told_words d (told.Made e) = entry_words d (log_with [] []) e
told_words d (told.Installed h version image) = entry_words d (log_with (image ∷ []) []) (entry.Install h version 0)
told_words d (told.Shown s) = entry_words d (log_with [] (s ∷ [])) (entry.Seen 0)

-- the text of a line, without the LF at its end
abbrev pub line_words : Description → Line → List ℕ
line_words d l = stamp_words l.stamp l.node ++ told_words d l.told

-- the line's text
abbrev pub line_text : Description → Line → List ℕ
line_text d l = line_words d l ++ codes "\n"

-- ---- which lines are right for a description

-- what an entry names is there; an image and a store are in the line itself
abbrev pub IsRightEntry : Description → Entry → Type 0
IsRightEntry d (entry.Install h version image) = ⊥
IsRightEntry d (entry.Seen store) = ⊥
IsRightEntry d e = IsEntryInRange d e

-- node numbers are those of a world, and no packet is empty
abbrev pub IsRightAir : Air → Type 0
IsRightAir (air.Sent n bytes) = 0 < length bytes.items
IsRightAir (air.Lost n to) = to < NODES_MAX
IsRightAir (air.Got n from) = from < NODES_MAX
IsRightAir (air.Noise bytes) = 0 < length bytes.items
IsRightAir _ = ⊤

abbrev pub IsRightTold : Description → Told → Type 0
IsRightTold d (told.OnAir a) = IsRightAir a
IsRightTold d (told.Made e) = IsRightEntry d e
IsRightTold d (told.Installed h version image) = (h.0 < length d.handlers.items) × (0 < length image.items)
IsRightTold d (told.Shown s) = IsStoreOf d s

pub record IsRightLine (d : Description) (l : Line) : Type 0 where
  pub node : l.node < NODES_MAX
  pub told : IsRightTold d l.told

-- ---- the numbers in a line are in the ranges of their types: every line's are

abbrev pub HasToldRanges : Told → Type 0
HasToldRanges (told.OnAir a) = HasAirRanges a
HasToldRanges (told.Made e) = HasEntryRanges e
HasToldRanges (told.Installed h version image) = (version < 2 ^ 32) × (length image.items ≤ IMAGE_MAX) × IsByteList image.items
HasToldRanges (told.Shown s) = HasStoreRanges s

pub record HasLineRanges (l : Line) : Type 0 where
  pub event : l.stamp.event < 2 ^ 64
  pub time : l.stamp.time < 2 ^ 32
  pub told : HasToldRanges l.told
