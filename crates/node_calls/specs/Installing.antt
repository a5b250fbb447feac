-- What bytes are to a node that should install them: a capsule with right code, newer than what it holds; or the first refusal.
use Rattle.std.specs.Prelude.{◌≡◌, ℕ, ◌<◌, ◌≤◌, List, Result, Ok, Err, MatchResult, ⊤, length}
use Rattle.mate_num.specs.declared.call.Stamp.{Stamp}
use Rattle.mate_num.specs.declared.id.HandlerId.{HandlerId}
use Rattle.capsule_codec.specs.declared.capsule.CapsuleRef.{CapsuleRef}
use Rattle.capsule_codec.specs.Image.{CapsuleParts, parts_in_place, capsule_image, IsOfMachine}
use Rattle.capsule_codec.specs.Reading.{capsule_in}
use Rattle.mate_code.specs.declared.fault.VerifyFault.{VerifyFault}
use Rattle.mate_code.specs.BytesVerification.{bytes_verification}
use Rattle.mate_code.specs.Run.{Code as InstrCode}
use Rattle.mate_code.specs.Verification.{Marks}
use Rattle.vm_shape.specs.declared.description.Description.{Description}
use Rattle.vm_shape.specs.Shapes.{shape_of}
use Rattle.mate_journal.specs.Machine.{HeldProgram}
use Rattle.mate_journal.specs.Journal.{JournalEntry, NodeState, held}
use Rattle.mate_journal.specs.NodeScript.{Installs}
use Rattle.mate_journal.specs.Pace.{Pace}
use Rattle.node_state.specs.declared.handlers.Held.{Held}
use Rattle.node_state.specs.Meaning.{machine_in}
use Rattle.node_state.specs.declared.parts.Parts.{Parts}
use Rattle.node_state.specs.Keeps.{reading}
use Rattle.node_state.specs.Fits.{IsHeld, program_of}
use Rattle.node_calls.specs.Calls.{RestsAgain, AtPace}
use Rattle.node_calls.specs.declared.installing.InstallFault.{InstallFault}
use Rattle.node_calls.specs.declared.installing.InstallFault.TheVariants.{Capsule, Code, NotNewer}
use Rattle.node_calls.specs.declared.ready.ReadyCapsule.{ReadyCapsule}

-- the bytes are this capsule of the machine, and its code is verified
pub record IsRightCapsule (d : Description) (bytes : List ℕ) (c : CapsuleParts) : Type 0 where
  pub decoded : capsule_in d bytes ≡ Ok c
  pub code : InstrCode
  pub marks : Marks
  pub verified : bytes_verification (shape_of d) c.code ≡ Ok (code, marks)

-- the capsule's handler
abbrev pub capsule_handler : CapsuleParts → HandlerId
capsule_handler c = record { 0 = c.handler }

-- the program of a capsule with these bytes
abbrev pub program_by : CapsuleParts → List ℕ → HeldProgram
program_by c bytes = record { handler = capsule_handler c; version = c.version; image = record { items = bytes } }

-- the bytes are a capsule of the machine, and its code is refused
pub record IsUnverified (d : Description) (bytes : List ℕ) (fault : VerifyFault) : Type 0 where
  pub capsule : CapsuleParts
  pub decoded : capsule_in d bytes ≡ Ok capsule
  pub refused : bytes_verification (shape_of d) capsule.code ≡ Err fault

-- the bytes are a right capsule, and the node holds a version that isn't older
pub record IsNoNewer (d : Description) (r : NodeState) (bytes : List ℕ) (version : ℕ) : Type 0 where
  pub capsule : CapsuleParts
  pub right : IsRightCapsule d bytes capsule
  pub held_is : version ≡ held r (capsule_handler capsule)
  pub older : capsule.version ≤ held r (capsule_handler capsule)

-- the first refusal, in this order
abbrev pub Refuses : Description → NodeState → List ℕ → InstallFault → Type 0
Refuses d r bytes (Capsule fault) = capsule_in d bytes ≡ Err fault
Refuses d r bytes (Code fault) = IsUnverified d bytes fault
Refuses d r bytes (NotNewer version) = IsNoNewer d r bytes version

-- the bytes are read as this capsule of the machine
pub record IsReadAs (d : Description) (bytes : List ℕ) (c : CapsuleRef) : Type 0 where
  pub decoded : capsule_in d bytes ≡ Ok (parts_in_place c)
  pub image : bytes ≡ capsule_image (parts_in_place c)
  pub of_machine : IsOfMachine d (parts_in_place c)

-- the bytes are a right capsule, newer than what the node held, and its program was installed with these entries
pub record InstallsBytes (d : Description) (r : NodeState) (bytes : List ℕ) (p : Pace) (told : List JournalEntry) : Type 0 where
  pub capsule : CapsuleParts
  pub right : IsRightCapsule d bytes capsule
  pub installs : Installs (machine_in d) r p (program_by capsule bytes) told

-- what the handler's program is to be
pub record Incoming : Type 0 where
  pub handler : HandlerId
  pub held : Held

-- this can be installed: it is the program of the right capsule that the bytes are, with its locks
pub record IsInstallable (d : Description) (bytes : List ℕ) (i : Incoming) : Type 0 where
  pub capsule : CapsuleParts
  pub right : IsRightCapsule d bytes capsule
  pub is_held : IsHeld d i.held
  pub program : program_of i.handler i.held ≡ program_by capsule bytes
  pub handler : i.handler.0 < length d.handlers.items

-- the bytes are the capsule that is ready
abbrev pub IsReady : Description → List ℕ → ReadyCapsule → Type 0
IsReady d bytes r = IsInstallable d bytes (record { handler = r.handler; held = r.program })

-- the capsule can be installed on nodes of the machine: it is what its image says
abbrev pub IsReadyOn : Description → ReadyCapsule → Type 0
IsReadyOn d r = IsReady d r.program.image.items r

-- ---- what an install leaves

-- the entries of an install, and a node that rests; or the first refusal, and all as it was
abbrev pub InstallGives : Description → Parts → Parts → List ℕ → Stamp → Result ⊤ InstallFault → Type 0
InstallGives d old new bytes at result = MatchResult result
    (λ _. RestsAgain d old new at (AtPace d old (InstallsBytes d (reading d old.log.all) bytes)))
    (λ fault. Refuses d (reading d old.log.all) bytes fault × (new ≡ old))
