-- What installed programs mean by their sources.
use Rattle.std.specs.Prelude.{ℕ, ℤ, ◌==◌, Bool, ◌&&◌, List, [], ◌∷◌, Option, Some, None, if◌then◌else◌}
use Rattle.std.specs.Str.{bytes_eq}
use Rattle.arrayvec.specs.ArrayVec.{ArrayVec}
use Rattle.mate_num.specs.Uses.{Uses}
use Rattle.mate_num.specs.declared.shape.Shape.{Shape}
use Rattle.mate_num.specs.declared.store.Store.{Store}
use Rattle.ts_checked.specs.Checked.{ScriptTree}
use Rattle.ts_semantics.specs.Meaning.{run_of}
use Rattle.ts_semantics.specs.Uses.{script_uses}
use Rattle.mate_num.specs.declared.outcome.Outcome.{Outcome}
use Rattle.vm_shape.specs.Shapes.{shape_of}
use Rattle.vm_shape.specs.declared.description.Description.{Description}
use Rattle.mate_journal.specs.Machine.{HeldProgram, Meaning}
use Rattle.mate_journal.specs.declared.program.Program.{Program}
use Rattle.node_state.specs.Meaning.{meaning_of}

-- a program as a node holds it
abbrev pub held_as : Program → HeldProgram
held_as p = record { handler = p.handler; version = p.version; image = p.image }

-- this program is held
abbrev pub is_held_as : HeldProgram → Program → Bool
is_held_as h p = (h.handler.0 == p.handler.0) && ((h.version == p.version) && bytes_eq h.image.items p.image.items)

-- the source of a held program: that of the first program that is held so, if it has one
abbrev pub source_in : List Program → HeldProgram → Option ScriptTree
source_in [] h = None
source_in (p ∷ ps) h = if is_held_as h p then p.source else source_in ps h

-- the run of a program with a source is that of the source, and it uses what the source uses; that of one without is
-- its code's
abbrev pub run_from : Shape → Option ScriptTree → HeldProgram → Store → ArrayVec ℤ → List ℤ → ℕ → Outcome
run_from shape None h store payload answers turns = (meaning_of shape).run h store payload answers turns
run_from shape (Some source) h store payload answers turns = run_of source.tree store payload answers turns

abbrev pub uses_from : Shape → Option ScriptTree → HeldProgram → Uses
uses_from shape None h = (meaning_of shape).uses h
uses_from shape (Some source) h = script_uses shape source.tree

-- what held programs mean, if these programs are given; by instructions they go as their code does
abbrev pub meaning_by : Description → List Program → Meaning
meaning_by d ps = record (meaning_of (shape_of d)) {
  run = λ h store payload answers turns. run_from (shape_of d) (source_in ps h) h store payload answers turns;
  uses = λ h. uses_from (shape_of d) (source_in ps h) h;
}
