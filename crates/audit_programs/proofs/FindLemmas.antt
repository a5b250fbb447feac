-- A program that is held so, where it stands.
use Rattle.std.proofs.Common.{◌≡◌, ◌<◌, ℕ, length, ◌∙◌, true, List, get_or, Option, None, Some, refl, sym, ap, subst}
use Rattle.std.specs.Prelude.{slice_index_or, slice_get, IsSomeAnd, ◌&&◌, ◌==◌}
use Rattle.std.specs.Str.{bytes_eq}
use Rattle.std.proofs.lemmas.Bool.{and_parts}
use Rattle.std.proofs.lemmas.Option.{slice_get_read, slice_get_within}
use Rattle.std.proofs.lemmas.List.{get_or_default}
use Rattle.std.proofs.lemmas.Slice.Eq.{bytes_eq-Decides}
use Rattle.arrayvec.specs.ArrayVec.{ArrayVec}
use Rattle.vm_shape.specs.declared.description.Description.{Description}
use Rattle.mate_journal.specs.Journal.{no_image}
use Rattle.mate_journal.specs.Machine.{HeldProgram}
use Rattle.mate_journal.specs.declared.program.Program.{Program}
use Rattle.node_programs.specs.Right.{IsRightProgram, AreRightPrograms}
use Rattle.node_programs.specs.Sources.{is_held_as}
use Rattle.audit_programs.specs.Naming.{IsHeldAt}

pub IsHeldAt-below : (h : HeldProgram) (ps : List Program) (place : ℕ) → IsHeldAt h ps place → place < length ps
IsHeldAt-below h ps place held = by (slice_get ps place) refl held where
  by : (o : Option Program) → slice_get ps place ≡ o → IsSomeAnd o (λ p. is_held_as h p ≡ true) → place < length ps
  by (Some p) is held = slice_get_within ps place p is
  by None is held = absurd held

-- it is held so, and right
pub found-right : (d : Description) (h : HeldProgram) (ps : List Program) (place : ℕ) (p : Program) → AreRightPrograms d ps → IsHeldAt h ps place → p ≡ get_or ps place p → IsRightProgram d p × (is_held_as h p ≡ true)
found-right d h ps place p right held is =
    let low = IsHeldAt-below h ps place held in
    let at : slice_get ps place ≡ Some p = slice_get_read ps (length ps) place p refl low is in
    (subst (IsRightProgram d) (sym is) (right place p low), subst (λ (o : Option Program). IsSomeAnd o (λ x. is_held_as h x ≡ true)) at held)

-- one that is held so has the same image
pub held_image : (h : HeldProgram) (p : Program) → is_held_as h p ≡ true → p.image ≡ h.image
held_image h p is =
    let bytes = (and_parts (h.version == p.version) (bytes_eq h.image.items p.image.items) (and_parts (h.handler.0 == p.handler.0) ((h.version == p.version) && bytes_eq h.image.items p.image.items) is).1).1 in
    ap (λ (xs : List ℕ). let v : ArrayVec ℕ = record { items = xs } in v) (sym ((bytes_eq-Decides h.image.items p.image.items).0 bytes))

-- the image at a position
pub image-at : (images ys : List (ArrayVec ℕ)) (i : ℕ) (x : ArrayVec ℕ) → ys ≡ images → i < length images → x ≡ get_or ys i x → x ≡ slice_index_or images i no_image
image-at images ys i x same within is = is ∙ ap (λ (l : List (ArrayVec ℕ)). get_or l i x) same ∙ get_or_default images i x no_image within
