-- The first law that a log fails, and the verdict on a report, by tests.
use Rattle.std.specs.Prelude.{ℕ, suc, ◌&&◌, nat_lt, Bool, true, List, [], ◌∷◌, Option, Some, None, if◌then◌else◌}
use Rattle.std.specs.List.{list_any}
use Rattle.std.specs.Option.{option_map_or}
use Rattle.vm_shape.specs.Shapes.{shape_of}
use Rattle.vm_shape.specs.declared.description.Description.{Description}
use Rattle.mate_journal.specs.Journal.{JournalEntry, Posted, Dropped, Started, Asked, Answered, Ended, Installed, Reset, Seen, Void, TimedEntry}
use Rattle.mate_journal.specs.Journal.{journal_of}
use Rattle.mate_journal.specs.Log.{Log}
use Rattle.mate_journal.specs.Machine.{HeldProgram, Machine}
use Rattle.mate_journal.specs.declared.program.Program.{Program}
use Rattle.mate_journal.specs.declared.report.Report.{Report}
use Rattle.node_state.specs.Meaning.{image_code}
use Rattle.node_programs.specs.Sources.{is_held_as}
use Rattle.audit_rules.specs.Granting.{ConflictTest, grants_in_order}
use Rattle.audit_rules.specs.Rerun.{replays_right}
use Rattle.audit_rules.specs.Roll.{Roll, nobody, rolled}
use Rattle.audit_rules.specs.Following.{entries_follow}
use Rattle.audit_rules.specs.Shown.{stores_right}
use Rattle.audit_rules.specs.CodeMeaning.{conflict_with}
use Rattle.audit_rules.specs.Laws.{machine_by}
use Rattle.mate_journal.specs.declared.law.Law.{Law}
use Rattle.mate_journal.specs.declared.law.Law.TheVariants as law
use Rattle.mate_journal.specs.declared.law.Verdict.{Verdict}
use Rattle.mate_journal.specs.declared.law.Verdict.TheVariants.{Serial, Refuted}

-- the version that is installed, 0 for none
abbrev pub version_installed : Option HeldProgram → ℕ
version_installed installed = option_map_or (λ p. p.version) installed 0

abbrev pub installs_right : List Program → Roll → JournalEntry → Bool
installs_right ps x (Installed p) = list_any (is_held_as p) ps && nat_lt (version_installed (x.installed p.handler)) p.version
installs_right ps x _ = true

abbrev pub images_right : List Program → Roll → List TimedEntry → Bool
images_right ps x [] = true
images_right ps x (e ∷ es) = installs_right ps x e.told && images_right ps (rolled x e.told) es

-- programs conflict if the code of their images does
abbrev pub conflict_of : Description → ConflictTest
conflict_of d = conflict_with (shape_of d) (λ p. image_code (shape_of d) p.image)

abbrev pub first_failed : Machine → ConflictTest → List Program → List TimedEntry → Option Law
first_failed m conflict ps es =
    if entries_follow m es then
    (if images_right ps nobody es then
    (if replays_right m conflict nobody m.zero_store es then
    (if stores_right m nobody m.zero_store es then
    (if grants_in_order conflict nobody 0 es then None else Some law.D10)
    else Some law.D9)
    else Some law.D8)
    else Some law.Image)
    else Some law.D7

-- of a log
abbrev pub failed_by : Description → List Program → Log → Option Law
failed_by d ps l = first_failed (machine_by d ps) (conflict_of d) ps (journal_of l)

-- a law that is failed at this node, or the verdict on the nodes after it
abbrev pub refuted_or : Option Law → ℕ → Verdict → Verdict
refuted_or None node rest = rest
refuted_or (Some law) node rest = Refuted node law

-- of the logs from this node on, the first that fails a law
abbrev pub verdict_from : Description → List Program → ℕ → List Log → Verdict
verdict_from d ps node [] = Serial
verdict_from d ps node (l ∷ ls) = refuted_or (failed_by d ps l) node (verdict_from d ps (suc node) ls)

abbrev pub verdict_of : Description → List Program → Report → Verdict
verdict_of d ps r = verdict_from d ps 0 r.nodes
