-- The laws of one node's journal, in their order.
use Rattle.std.specs.Prelude.{◌<◌, ℕ, List, IsTrue}
use Rattle.std.specs.List.{list_any}
use Rattle.vm_shape.specs.declared.description.Description.{Description}
use Rattle.mate_journal.specs.Described.{machine_of}
use Rattle.mate_journal.specs.Devices.{AsksDevicesInOrder}
use Rattle.mate_journal.specs.Grants.{GrantsInOrder}
use Rattle.mate_journal.specs.Journal.{JournalEntry, Installed, TimedEntry, NodeState}
use Rattle.mate_journal.specs.Journal.{first_state, held, AtEachEntry}
use Rattle.mate_journal.specs.Machine.{HeldProgram, Machine}
use Rattle.mate_journal.specs.Serial.{IsSerial}
use Rattle.mate_journal.specs.declared.program.Program.{Program}
use Rattle.node_programs.specs.Sources.{is_held_as, meaning_by}
use Rattle.mate_journal.specs.WellFormed.{IsWellFormed}
use Rattle.audit_rules.specs.Shown.{ShowsValuesAt}
use Rattle.mate_journal.specs.declared.law.Law.{Law}
use Rattle.mate_journal.specs.declared.law.Law.TheVariants as law

-- one of the programs has the handler, the version and the image
abbrev pub IsOneOf : List Program → HeldProgram → Type 0
IsOneOf ps h = IsTrue (list_any (is_held_as h) ps)

-- what is installed is one of the programs, and newer than what was installed for its handler
abbrev pub InstallsProgram : List Program → NodeState → JournalEntry → Type 0
InstallsProgram ps r (Installed p) = IsOneOf ps p × (held r p.handler < p.version)
InstallsProgram ps r _ = Unit {0}

-- the machine of a description whose programs mean their sources
abbrev pub machine_by : Description → List Program → Machine
machine_by d ps = machine_of d (meaning_by d ps)

-- the journal keeps the law
abbrev pub KeepsLaw : Machine → List Program → List TimedEntry → Law → Type 0
KeepsLaw m ps es law.D7 = IsWellFormed m (first_state m) es
KeepsLaw m ps es law.Image = AtEachEntry (InstallsProgram ps) m (first_state m) es
KeepsLaw m ps es law.D8 = IsSerial m (first_state m) es
KeepsLaw m ps es law.D9 = AtEachEntry (ShowsValuesAt m) m (first_state m) es
KeepsLaw m ps es law.D10 = GrantsInOrder m (first_state m) 0 es
KeepsLaw m ps es law.D11 = AsksDevicesInOrder m.device_of es

-- the place of a law in their order
abbrev pub rank_of : Law → ℕ
rank_of law.D7 = 0
rank_of law.Image = 1
rank_of law.D8 = 2
rank_of law.D9 = 3
rank_of law.D10 = 4
rank_of law.D11 = 5
