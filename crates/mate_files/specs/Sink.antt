-- What a write into a sink does: one piece, or many in a row.
use Rattle.std.specs.Prelude.{◌≡◌, ℕ, ◌≤◌, ◌<◌, List, length, ◌++◌, Option, Result, Ok, Err, ⊤}
use Rattle.std.specs.Io.KnownBytes.{Appends}
use Rattle.mate_files.specs.Counts.{Rose, one_more}
use Rattle.mate_files.specs.declared.sink.SinkFault.{SinkFault}
use Rattle.mate_files.specs.declared.sink.SinkFault.TheVariants.{Failed, NoMemory}

-- exactly bs was appended to what is known to be written
pub record Sent (old new : Option (List ℕ)) (bs : List ℕ) : Type 0 where
  pub appended : Appends old new bs

-- a prefix of bs was appended to what is known to be written
pub record SentPart (old new : Option (List ℕ)) (bs : List ℕ) : Type 0 where
  pub front : List ℕ
  pub rest : List ℕ
  pub whole : front ++ rest ≡ bs
  pub appended : Appends old new front

-- a prefix of bs was appended to what is known to be written, and at least its last byte was not
pub record SentShort (old new : Option (List ℕ)) (bs : List ℕ) : Type 0 where
  pub part : SentPart old new bs
  pub unsent : 0 < length part.rest

-- all of bs was appended at an `Ok`, and a prefix of it at an `Err`
abbrev pub Writes : {T : Type 0} → Option (List ℕ) → Option (List ℕ) → Result T SinkFault → List ℕ → Type 0
Writes old new (Ok _) bs = Sent old new bs
Writes old new (Err _) bs = SentPart old new bs

-- not all of bs was appended at an `Err`; so a text of no bytes is never refused
abbrev pub StopsShort : {T : Type 0} → Option (List ℕ) → Option (List ℕ) → Result T SinkFault → List ℕ → Type 0
StopsShort old new (Ok _) bs = ⊤
StopsShort old new (Err _) bs = SentShort old new bs

-- a `Failed` comes only if the count of faults rose
abbrev pub HasCause : {T : Type 0} → ℕ → ℕ → Result T SinkFault → Type 0
HasCause before now (Ok _) = ⊤
HasCause before now (Err Failed) = Rose before now
HasCause before now (Err NoMemory) = ⊤

-- what a call does that writes bs: `put` itself, or one that writes a text of many pieces
pub record Puts {T : Type 0} (written : Option (List ℕ)) (faults : ℕ) (written' : Option (List ℕ)) (faults' : ℕ)
    (result : Result T SinkFault) (bs : List ℕ) : Type 0 where
  pub writes : Writes written written' result bs
  pub short : StopsShort written written' result bs
  pub cause : HasCause faults faults' result
  pub later : faults ≤ faults'

-- the count of faults after a write that counts one if it fails
abbrev pub faults_after : {T : Type 0} → ℕ → Result T SinkFault → ℕ
faults_after faults (Ok _) = faults
faults_after faults (Err Failed) = one_more faults
faults_after faults (Err NoMemory) = faults
