-- The programs of a made world: of its sources, which are read from no file.
use Rattle.std.specs.Prelude.{◌≡◌, ℕ, ◌<◌, Bool, List, ◌++◌, length, slice_get, All, IsSomeAnd, Result}
use Rattle.script_reader.specs.Source.{source_of}
use Rattle.mate_num.specs.declared.id.HandlerId.{HandlerId}
use Rattle.mate_journal.specs.declared.program.Program.{Program}
use Rattle.command_refusals.specs.declared.refusal.Refusal.{Refusal}
use Rattle.command_steps.specs.SourceCode.{IsCompiledOf}
use Rattle.command_steps.specs.Steps.{obtained}
use Rattle.command_steps.specs.declared.code.CompiledScript.{CompiledScript}
use Rattle.node_programs.specs.Right.{IsRightProgram}
use Rattle.command_programs.specs.Programs.{IsInstalled}
use Rattle.ts_checker.specs.Accepted.{IsAccepted}
use Rattle.ts_checked.specs.Statement.{Block}
use Rattle.vm_shape.specs.Shapes.{shape_of}
use Rattle.vm_shape.specs.declared.description.Description.{Description}
use Rattle.script_reader.specs.Made as maker
use Rattle.command_programs.specs.declared.made.MadeWorld.{MadeWorld}

-- the program of a source: that of the one tree that the bytes mean, compiled, for a handler as a version
pub record IsMadeOf (d : Description) (fold : Bool) (h : HandlerId) (version : ℕ) (bytes : List ℕ) (p : Program) : Type 0 where
  pub tree : Block
  pub accepted : IsAccepted d bytes tree
  pub script : CompiledScript
  pub compiled : IsCompiledOf (shape_of d) fold tree script
  pub installed : IsInstalled d h version script p

-- right programs of the source, for handler k as the version, k from 0 on
pub record AreOf (d : Description) (fold : Bool) (version : ℕ) (bytes : List ℕ) (n : ℕ) (ps : List Program) : Type 0 where
  pub count : length ps ≡ n
  pub each : (k : ℕ) → k < n → IsSomeAnd (slice_get ps k) (IsMadeOf d fold (record { 0 = k }) version bytes)
  pub right : All (IsRightProgram d) ps

-- a program of the first source for each handler, as version 1, and then those of the second source, as version 2
pub record AreOfVersions (d : Description) (fold : Bool) (ps : List Program) : Type 0 where
  pub first : List Program
  pub second : List Program
  pub is : ps ≡ first ++ second
  pub are_first : AreOf d fold 1 (source_of d 1) (length d.handlers.items) first
  pub are_second : AreOf d fold 2 (source_of d 2) (length d.handlers.items) second

-- the world of a number, with the programs of its sources
pub record IsMade (d : Description) (fold : Bool) (number : ℕ) (m : MadeWorld) : Type 0 where
  pub world : m.world ≡ maker.made_world d number
  pub programs : AreOfVersions d fold m.programs

abbrev pub made : Description → Bool → ℕ → Result MadeWorld Refusal → Type 0
made d fold number = obtained (IsMade d fold number)

-- ---- on the way

-- they are after the old ones
pub record AreOfVersion (d : Description) (fold : Bool) (version : ℕ) (bytes : List ℕ) (n : ℕ) (old new : List Program) : Type 0 where
  pub more : List Program
  pub is : new ≡ old ++ more
  pub are : AreOf d fold version bytes n more
