-- Programs that are ready to run.
use Rattle.std.specs.Prelude.{List, Option, None, map, slice_index_or}
use Rattle.std.specs.Option.{option_map}
use Rattle.mate_num.specs.declared.id.HandlerId.{HandlerId}
use Rattle.mate_journal.specs.Machine.{HeldProgram}
use Rattle.vm_shape.specs.declared.description.Description.{Description}
use Rattle.audit_programs.specs.Images.{IsImageCode}
use Rattle.audit_programs.specs.declared.ready.ReadyProgram.{ReadyProgram}
use Rattle.audit_programs.specs.declared.table.ReadyPrograms.{ReadyPrograms}

-- its code is that of the held program's image, and of its own program's
pub record IsReadyAs (d : Description) (h : HeldProgram) (r : ReadyProgram) : Type 0 where
  pub code : IsImageCode d h.image r.code
  pub own : IsImageCode d r.program.now.image r.code

-- the program of each handler
abbrev pub installed_programs : ReadyPrograms → List (Option ReadyProgram)
installed_programs t = map (option_map (λ program. program.value)) t.programs.items

-- the program of a handler, by its number
abbrev pub ready_at : List (Option ReadyProgram) → HandlerId → Option ReadyProgram
ready_at programs h = slice_index_or programs h.0 None
