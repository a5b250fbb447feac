-- What right programs mean by their sources is what their images' code means.
use Rattle.std.proofs.Common.{◌≡◌, ℕ, ℤ, Bool, true, false, List, [], ◌∷◌, Option, None, Some, refl, sym, ap, subst}
use Rattle.std.specs.Prelude.{◌&&◌, ◌==◌, IfSome, if◌then◌else◌}
use Rattle.std.specs.Str.{bytes_eq}
use Rattle.std.proofs.lemmas.Slice.Eq.{bytes_eq-Decides}
use Rattle.std.proofs.lemmas.List.Elements.{All-head, All-tail}
use Rattle.arrayvec.specs.ArrayVec.{ArrayVec}
use Rattle.mate_num.specs.declared.store.Store.{Store}
use Rattle.ts_checked.specs.Checked.{ScriptTree}
use Rattle.vm_shape.specs.Shapes.{shape_of}
use Rattle.vm_shape.specs.declared.description.Description.{Description}
use Rattle.mate_journal.specs.Machine.{HeldProgram}
use Rattle.mate_journal.specs.declared.program.Program.{Program}
use Rattle.node_state.specs.Meaning.{image_code, meaning_of}
use Rattle.node_programs.specs.Right.{IsSourceOf, IsRightProgram, AreRightPrograms}
use Rattle.node_programs.specs.Sources.{is_held_as, source_in, run_from, uses_from, meaning_by}

both-right : (a b : Bool) → (a && b) ≡ true → b ≡ true
both-right true b is = is
both-right false b is = cc

-- one that is held so has the same image
held-image : (h : HeldProgram) (p : Program) → is_held_as h p ≡ true → p.image ≡ h.image
held-image h p is =
    let bytes : bytes_eq h.image.items p.image.items ≡ true = both-right (h.version == p.version) (bytes_eq h.image.items p.image.items) (both-right (h.handler.0 == p.handler.0) _ is) in
    ap (λ (xs : List ℕ). let v : ArrayVec ℕ = record { items = xs } in v) (sym ((bytes_eq-Decides h.image.items p.image.items).0 bytes))

IfSome-at : {A : Type 0} (P : A → Type 0) (o : Option A) (x : A) → o ≡ Some x → IfSome o P → P x
IfSome-at P None x is h = cc
IfSome-at P (Some y) x is h = let same : y ≡ x = cc in subst P same h

-- the source of a held program is that of its image's code
source-right : (d : Description) (ps : List Program) (h : HeldProgram) (s : ScriptTree) → AreRightPrograms d ps → source_in ps h ≡ Some s → IsSourceOf (shape_of d) (image_code (shape_of d) h.image) s
source-right d [] h s right is = cc
source-right d (p ∷ ps) h s right is = by (is_held_as h p) refl is (source-right d ps h s (All-tail (IsRightProgram d) p ps right)) where
  by : (b : Bool) → is_held_as h p ≡ b → (if b then p.source else source_in ps h) ≡ Some s → (source_in ps h ≡ Some s → IsSourceOf (shape_of d) (image_code (shape_of d) h.image) s)
      → IsSourceOf (shape_of d) (image_code (shape_of d) h.image) s
  by true held is later =
      subst (λ (image : ArrayVec ℕ). IsSourceOf (shape_of d) (image_code (shape_of d) image) s) (held-image h p held)
      (IfSome-at (IsSourceOf (shape_of d) (image_code (shape_of d) p.image)) p.source s is (All-head (IsRightProgram d) p ps right).source)
  by false held is later = later is

run-same : (d : Description) (ps : List Program) → AreRightPrograms d ps → (h : HeldProgram) (store : Store) (payload : ArrayVec ℤ) (answers : List ℤ) (turns : ℕ)
    → (meaning_by d ps).run h store payload answers turns ≡ (meaning_of (shape_of d)).run h store payload answers turns
run-same d ps right h store payload answers turns = by (source_in ps h) refl where
  by : (o : Option ScriptTree) → source_in ps h ≡ o → run_from (shape_of d) o h store payload answers turns ≡ (meaning_of (shape_of d)).run h store payload answers turns
  by None is = refl
  by (Some s) is = sym ((source-right d ps h s right is).runs store payload answers turns)

uses-same : (d : Description) (ps : List Program) → AreRightPrograms d ps → (h : HeldProgram) → (meaning_by d ps).uses h ≡ (meaning_of (shape_of d)).uses h
uses-same d ps right h = by (source_in ps h) refl where
  by : (o : Option ScriptTree) → source_in ps h ≡ o → uses_from (shape_of d) o h ≡ (meaning_of (shape_of d)).uses h
  by None is = refl
  by (Some s) is = sym (source-right d ps h s right is).uses

pub meaning_by-right : (d : Description) (ps : List Program) → AreRightPrograms d ps → meaning_by d ps ≡ meaning_of (shape_of d)
meaning_by-right d ps right = λ i. record (meaning_of (shape_of d)) {
  run = λ h store payload answers turns. run-same d ps right h store payload answers turns i;
  uses = λ h. uses-same d ps right h i;
}
