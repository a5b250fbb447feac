use Rattle.std.proofs.Common.{List, ℕ, sym, ap, ◌∙◌}
use Rattle.std.proofs.lemmas.Slice.Eq.{bytes_eq-Decides}
use Rattle.arrayvec.specs.ArrayVec.{ArrayVec}
use Rattle.mate_journal.specs.declared.program.Program.{Program}
use Rattle.audit_programs.proofs.ready.ReadyProgram.has_image.Goals as goal

pub returns : goal.returns
returns c = λ same.
    ap (λ (bytes : List ℕ). let image : ArrayVec ℕ = record { items = bytes } in image)
    (sym (c.as_slice.ensures.value ∙ ap (λ (q : Program). q.image.items) c.program.view_is) ∙ (bytes_eq-Decides c.as_slice.result.now c.as_slice-2.result.now).0 (sym c.eq.ensures ∙ same) ∙ c.as_slice-2.ensures.value)
