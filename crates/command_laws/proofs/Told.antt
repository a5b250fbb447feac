-- What a list of entries installs; and a log that keeps each law.
use Rattle.std.proofs.Common.{List, sym, subst, Option, Some, None}
use Rattle.std.specs.Prelude.{IfSome}
use Rattle.mate_num.specs.declared.store.Store.{Store}
use Rattle.mate_num.specs.Lists.{Along}
use Rattle.mate_num.proofs.ListLemmas.{along-each, along-weaker}
use Rattle.vm_shape.specs.declared.description.Description.{Description}
use Rattle.mate_journal.specs.Devices.{AsksDevicesInOrder}
use Rattle.mate_journal.specs.Grants.{GrantsInOrder}
use Rattle.mate_journal.specs.Journal.{JournalEntry, Installed, TimedEntry, store_seen, NodeState, first_state, next_state, journal_of, AtEachEntry}
use Rattle.mate_journal.specs.Log.{Log}
use Rattle.mate_journal.specs.Machine.{Machine, HeldProgram}
use Rattle.mate_journal.specs.NodeScript.{Installs}
use Rattle.mate_journal.specs.Pace.{Pace}
use Rattle.mate_journal.specs.Serial.{IsSerial}
use Rattle.mate_journal.specs.Stores.{ShowsStore, ShowsStores, IsShown}
use Rattle.mate_journal.specs.WellFormed.{IsWellFormed}
use Rattle.mate_journal.specs.declared.program.Program.{Program}
use Rattle.journal_laws.proofs.Plain.{NoInstall, NoneInstall, installs-plain, plains-none}
use Rattle.audit_rules.specs.Shown.{ShowsValues, ShowsValuesAt}
use Rattle.audit_rules.specs.Laws.{IsOneOf, InstallsProgram, machine_by}
use Rattle.audit_rules.specs.Verdicts.{LogKeepsAll}
use Rattle.mate_journal.specs.declared.law.Law.TheVariants as law

-- ---- what is installed

-- each install is of one of the programs, and newer
abbrev pub InstallsRight : List Program → Machine → NodeState → List JournalEntry → Type 0
InstallsRight ps m r told = Along (InstallsProgram ps) (next_state m) r told

pub none-rule : (ps : List Program) (r : NodeState) (t : JournalEntry) → NoInstall t → InstallsProgram ps r t
none-rule ps r (Installed p) none = absurd none
none-rule ps r _ none = tt

-- nothing is installed
pub none-right : (ps : List Program) (m : Machine) (r : NodeState) (told : List JournalEntry) → NoneInstall told → InstallsRight ps m r told
none-right ps m r told none = along-each NoInstall (InstallsProgram ps) (next_state m) (none-rule ps) r told none

-- one of the programs is installed
pub install-right : (ps : List Program) (m : Machine) (r : NodeState) (q : Pace) (x : HeldProgram) (told : List JournalEntry) → IsOneOf ps x → Installs m r q x told → InstallsRight ps m r told
install-right ps m r q x told one is =
    subst (λ (ts : List JournalEntry). InstallsRight ps m r ts) (sym is.made)
    (tt, ((one, is.newer), none-right ps m (next_state m r (Installed x)) is.rest (plains-none is.rest (installs-plain m r q x told is))))

-- ---- each law

shown-values : (m : Machine) (r : NodeState) (o : Option Store) → IfSome o (IsShown m r) → IfSome o (ShowsValues m r)
shown-values m r None h = tt
shown-values m r (Some s) h = record { unwritten = h.unwritten; waiting = h.waiting }

pub keeps-all : (d : Description) (ps : List Program) (l : Log) → IsWellFormed (machine_by d ps) (first_state (machine_by d ps)) (journal_of l) → AtEachEntry (InstallsProgram ps) (machine_by d ps) (first_state (machine_by d ps)) (journal_of l)
    → IsSerial (machine_by d ps) (first_state (machine_by d ps)) (journal_of l) → ShowsStores (machine_by d ps) (first_state (machine_by d ps)) (journal_of l)
    → GrantsInOrder (machine_by d ps) (first_state (machine_by d ps)) 0 (journal_of l) → AsksDevicesInOrder (machine_by d ps).device_of (journal_of l) → LogKeepsAll d ps l
keeps-all d ps l formed images serial stores grants devices law.D7 = formed
keeps-all d ps l formed images serial stores grants devices law.Image = images
keeps-all d ps l formed images serial stores grants devices law.D8 = serial
keeps-all d ps l formed images serial stores grants devices law.D9 =
    let m = machine_by d ps in
    along-weaker (λ (r : NodeState) (e : TimedEntry). ShowsStore m r e.told) (λ r e. ShowsValuesAt m r e.told) _ (λ r e h. shown-values m r (store_seen e.told) h) (first_state m) (journal_of l) stores.shown
keeps-all d ps l formed images serial stores grants devices law.D10 = grants
keeps-all d ps l formed images serial stores grants devices law.D11 = devices
