-- What may stand in an entry, kind by kind: names of the description, and numbers in the ranges of their types.
use Rattle.std.specs.Prelude.{◌<◌, ◌≤◌, ◌^◌, ℤ, List, length, All, FitsSigned, ⊤}
use Rattle.std.specs.Int.{w16}
use Rattle.mate_num.specs.declared.bounds.TheConstants.{PAYLOAD_MAX}
use Rattle.vm_shape.specs.Whole.{context_count}
use Rattle.vm_shape.specs.declared.description.Description.{Description}
use Rattle.mate_journal.specs.declared.entry.Entry.{Entry}
use Rattle.mate_journal.specs.declared.entry.Entry.TheVariants as entry
use Rattle.mate_journal.specs.declared.entry.VoidCause.{VoidCause}
use Rattle.mate_journal.specs.declared.entry.VoidCause.TheVariants as void

-- each handler, context and function that an entry names is one of the description's
abbrev pub IsEntryInRange : Description → Entry → Type 0
IsEntryInRange d (entry.Post n h c payload) = (h.0 < length d.handlers.items) × (c.0 < context_count d)
IsEntryInRange d (entry.Dropped h cause) = h.0 < length d.handlers.items
IsEntryInRange d (entry.Ask n f args) = f.0 < length d.functions.items
IsEntryInRange d (entry.Install h version image) = h.0 < length d.handlers.items
IsEntryInRange d _ = ⊤

-- at most ten values of 16 bits
abbrev pub AreValues : List ℤ → Type 0
AreValues vs = (length vs ≤ PAYLOAD_MAX) × All (λ v. FitsSigned w16 v) vs

abbrev pub HasVoidRanges : VoidCause → Type 0
HasVoidRanges (void.NotNewer held) = held < 2 ^ 32
HasVoidRanges _ = ⊤

-- its numbers are in the ranges of their types (an image and a store are named by their places)
abbrev pub HasEntryRanges : Entry → Type 0
HasEntryRanges (entry.Post n h c payload) = (n < 2 ^ 32) × AreValues payload.items
HasEntryRanges (entry.Start n) = n < 2 ^ 32
HasEntryRanges (entry.Ask n f args) = (n < 2 ^ 32) × AreValues args.items
HasEntryRanges (entry.Answer n v) = (n < 2 ^ 32) × FitsSigned w16 v
HasEntryRanges (entry.Halt n) = n < 2 ^ 32
HasEntryRanges (entry.Fault n kind) = n < 2 ^ 32
HasEntryRanges (entry.Install h version image) = version < 2 ^ 32
HasEntryRanges (entry.Void cause) = HasVoidRanges cause
HasEntryRanges _ = ⊤
