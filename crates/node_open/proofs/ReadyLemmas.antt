-- Capsules that are ready.
use Rattle.std.proofs.Common.{◌≡◌, List, [], ◌∷◌, ℕ, take, drop, sym, ap, subst}
use Rattle.std.specs.Prelude.{All, insert}
use Rattle.std.proofs.lemmas.List.Elements.{All-append, All-cons, All-drop, All-nil, All-take}
use Rattle.vm_shape.specs.declared.description.Description.{Description}
use Rattle.mate_journal.specs.Machine.{HeldProgram}
use Rattle.node_calls.specs.Installing.{IsReady, IsReadyOn}
use Rattle.node_calls.specs.declared.ready.ReadyCapsule.{ReadyCapsule}

-- the bytes that it is ready for are its image
pub IsReady-on : (d : Description) (bytes : List ℕ) (r : ReadyCapsule) → IsReady d bytes r → IsReadyOn d r
IsReady-on d bytes r ready =
    let B : List ℕ → Type 0 = λ bs. IsReady d bs r in
    let same : r.program.image.items ≡ bytes = ap (λ (p : HeldProgram). p.image.items) ready.program in
    subst B (sym same) ready

-- none, and one more at a place
pub AreReady-none : (d : Description) (rs : List ReadyCapsule) → rs ≡ [] → All (IsReadyOn d) rs
AreReady-none d rs none = let P : List ReadyCapsule → Type 0 = λ l. All (IsReadyOn d) l in subst P (sym none) (All-nil (IsReadyOn d))

pub AreReady-more : (d : Description) (old new : List ReadyCapsule) (place : ℕ) (r : ReadyCapsule) → new ≡ insert old place r → All (IsReadyOn d) old → IsReadyOn d r → All (IsReadyOn d) new
AreReady-more d old new place r is all ready =
    let P : List ReadyCapsule → Type 0 = λ l. All (IsReadyOn d) l in
    let behind = All-cons (IsReadyOn d) r (drop place old) ready (All-drop (IsReadyOn d) place old all) in
    subst P (sym is) (All-append (IsReadyOn d) (take place old) (r ∷ drop place old) (All-take (IsReadyOn d) place old all) behind)
