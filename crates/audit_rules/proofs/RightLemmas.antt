-- What holds of a machine whose programs are right.
use Rattle.std.proofs.Common.{pos, List, [], ◌∷◌, ◌++◌, map, length, sym, ◌∙◌, subst}
use Rattle.std.specs.Prelude.{All, IfSome, slice_index_or}
use Rattle.std.proofs.lemmas.List.{length-replicate}
use Rattle.mate_num.specs.declared.store.Store.{Store}
use Rattle.mate_code.specs.Run.{begun_run, bound}
use Rattle.mate_code.proofs.RunLemmas.{after-AreAsLong}
use Rattle.vm_shape.specs.Shapes.{shape_of}
use Rattle.vm_shape.specs.declared.description.Description.{Description}
use Rattle.mate_journal.specs.Described.{machine_of}
use Rattle.mate_journal.specs.Devices.{WritesWhatItAsks, AsksDevicesInOrder}
use Rattle.mate_journal.specs.Grants.{GrantsInOrder}
use Rattle.mate_journal.specs.Journal.{TimedEntry, first_state, no_store, store_seen, journal_entry, journal_of, answers_of}
use Rattle.mate_journal.specs.Log.{Log}
use Rattle.mate_journal.specs.Machine.{Meaning}
use Rattle.mate_journal.specs.Serial.{IsSerial}
use Rattle.mate_journal.specs.Tidy.{IsTidyLog, IsStoreOf}
use Rattle.mate_journal.specs.WellFormed.{IsWellFormed}
use Rattle.mate_journal.specs.declared.entry.Entry.{Entry}
use Rattle.mate_journal.specs.declared.entry.Entry.TheVariants as entry
use Rattle.mate_journal.specs.declared.entry.Stamped.{Stamped}
use Rattle.mate_journal.specs.declared.program.Program.{Program}
use Rattle.journal_laws.specs.Growth.{event_of, IsNamedBelow, AreNamedBelow}
use Rattle.journal_laws.proofs.TidyLemmas.{NamesInLog-numbered}
use Rattle.journal_laws.proofs.Devices.{devices-in-turn}
use Rattle.node_state.specs.Meaning.{image_code, meaning_of}
use Rattle.node_state.proofs.AskLemmas.{writes-what_it_asks}
use Rattle.node_programs.specs.Right.{AreRightPrograms}
use Rattle.node_programs.specs.Sources.{meaning_by}
use Rattle.node_programs.proofs.MeaningLemmas.{meaning_by-right}
use Rattle.audit_rules.specs.Granting.{TellsConflicts}
use Rattle.audit_rules.specs.Replay.{GoesByParts}
use Rattle.audit_rules.specs.Shown.{HasLengthsOf, KeepsLengths, SeenLengths}
use Rattle.audit_rules.proofs.ConflictLemmas.{code-TellsConflicts}
use Rattle.audit_rules.proofs.PartLemmas.{code-GoesByParts}
use Rattle.audit_rules.specs.Laws.{machine_by}
use Rattle.audit_rules.specs.Tests.{conflict_of}

-- ---- what is shown of the meaning by code holds of that by sources

pub by_code : (d : Description) (ps : List Program) (P : Meaning → Type 0) → AreRightPrograms d ps → P (meaning_of (shape_of d)) → P (meaning_by d ps)
by_code d ps P right h = subst P (sym (meaning_by-right d ps right)) h

pub parts : (d : Description) (ps : List Program) → AreRightPrograms d ps → GoesByParts (meaning_by d ps)
parts d ps right = by_code d ps GoesByParts right (code-GoesByParts (shape_of d) (λ p. image_code (shape_of d) p.image))

pub conflicts : (d : Description) (ps : List Program) → AreRightPrograms d ps → TellsConflicts (machine_by d ps).meaning (conflict_of d)
conflicts d ps right = by_code d ps (λ (meaning : Meaning). TellsConflicts meaning (conflict_of d)) right (code-TellsConflicts (shape_of d) (λ p. image_code (shape_of d) p.image))

code-KeepsLengths : (d : Description) → KeepsLengths (machine_of d (meaning_of (shape_of d)))
code-KeepsLengths d r n long =
    let i = r.invocations n in
    let code = image_code (shape_of d) i.program.image in
    let same = after-AreAsLong (bound code d.turns) (shape_of d) code (begun_run r.serial i.payload (answers_of i) d.turns) in
    record { shared = same.shared ∙ long.shared; buffers = same.buffers ∙ long.buffers }

pub lengths : (d : Description) (ps : List Program) → AreRightPrograms d ps → KeepsLengths (machine_by d ps)
lengths d ps right = by_code d ps (λ (meaning : Meaning). KeepsLengths (machine_of d meaning)) right (code-KeepsLengths d)

-- ---- the order of calls to devices

pub devices : (d : Description) (ps : List Program) (es : List TimedEntry) → AreRightPrograms d ps → IsWellFormed (machine_by d ps) (first_state (machine_by d ps)) es → IsSerial (machine_by d ps) (first_state (machine_by d ps)) es
    → GrantsInOrder (machine_by d ps) (first_state (machine_by d ps)) 0 es → AsksDevicesInOrder (machine_by d ps).device_of es
devices d ps es right = devices-in-turn (machine_by d ps) es (machine_by d ps).device_of (by_code d ps (WritesWhatItAsks (machine_by d ps).device_of) right (writes-what_it_asks d))

-- ---- stores that are seen

-- a store of the description has the machine's lengths
store_lengths : (d : Description) (meaning : Meaning) (s : Store) → IsStoreOf d s → HasLengthsOf (machine_of d meaning) s
store_lengths d meaning s is = record {
  shared = is.shared ∙ sym (length-replicate (length d.shared.items) (pos 0));
  buffers = is.buffers ∙ sym (length-replicate (length d.buffers.items) _);
}

entry_lengths : (d : Description) (meaning : Meaning) (l : Log) (e : Entry) → All (IsStoreOf d) l.stores → IsNamedBelow (length l.images) (length l.stores) e → IfSome (store_seen (journal_entry l e)) (HasLengthsOf (machine_of d meaning))
entry_lengths d meaning l (entry.Seen k) right named = store_lengths d meaning (slice_index_or l.stores k no_store) (right k no_store named)
entry_lengths d meaning l _ right named = tt

entries_lengths : (d : Description) (meaning : Meaning) (l : Log) (es : List Stamped) → All (IsStoreOf d) l.stores → AreNamedBelow (length l.images) (length l.stores) es
    → SeenLengths (machine_of d meaning) (map (event_of l) es)
entries_lengths d meaning l [] right named = tt
entries_lengths d meaning l (e ∷ es) right named = (entry_lengths d meaning l e.entry right named.0, entries_lengths d meaning l es right named.1)

-- the stores that a tidy log shows have the description's lengths
pub seen_lengths : (d : Description) (ps : List Program) (l : Log) → IsTidyLog d l → SeenLengths (machine_by d ps) (journal_of l)
seen_lengths d ps l tidy = entries_lengths d (meaning_by d ps) l l.entries tidy.lengths (NamesInLog-numbered l tidy.numbered).named
