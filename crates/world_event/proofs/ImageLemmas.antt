-- A fragment with which an image becomes complete, and one with which none does.
use Rattle.std.proofs.Common.{◌≡◌, ℕ, ◌<◌, Bool, true, false, cond, eqb, ltb, List, [], ◌∷◌, ◌++◌, Option, Some, None, refl, sym, ◌∙◌, ap, subst, arith, inl, inr, append-nil, eq-eqb}
use Rattle.std.specs.Prelude.{is_some, unwrap_or, if◌then◌else◌}
use Rattle.std.specs.List.{cons_option}
use Rattle.std.proofs.lemmas.Bool.{cases_Bool, ltb-true, eqb-true}
use Rattle.arrayvec.specs.ArrayVec.{ArrayVec}
use Rattle.mate_num.specs.declared.id.HandlerId.{HandlerId}
use Rattle.mate_journal.specs.Machine.{HeldProgram}
use Rattle.packet_codec.specs.Packet.{IsRightPacket}
use Rattle.packet_codec.specs.declared.packet.Packet.{Packet}
use Rattle.packet_codec.specs.declared.packet.Packet.TheVariants.{Vector, Status, Fragment, App}
use Rattle.trickle_timer.specs.Intervals as trickle
use Rattle.capsule_exchange.specs.Happenings.{Happening, Hears, Installs, TargetFragment, part_in, target_version, target_parts, places_of, whole, collected_image, complete_version, completed_by}
use Rattle.capsule_exchange.proofs.CollectLemmas.{is_newer, target_next, parts_same}
use Rattle.world_rules.specs.World.{World}
use Rattle.world_rules.specs.Effect.{NodeEffect, Installing, no_effect, of_fragment, of_packet}
use Rattle.world_event.specs.Handling.{IsFragmentOf}

-- ---- what is complete is of the fragment's version

module _ (g : HandlerId) (version index count : ℕ) (large : Bool) (bytes : ArrayVec ℕ) (hs : List Happening) where
  abbrev p : Packet
  p = Fragment g version index count large bytes

  abbrev part : TargetFragment
  part = record { index = index; count = count; large = large; bytes = bytes }

  own-version : (if eqb g.0 g.0 then version else 0) ≡ version
  own-version = rw (eq-eqb g.0 g.0 refl) refl

  other-part : eqb version (target_version g.0 hs) ≡ false → part_in g.0 (target_version g.0 hs) p ≡ None
  other-part other = rw (eq-eqb g.0 g.0 refl) (ap (λ (b : Bool). if b then Some part else None) other)

  fragment-target : ltb (complete_version g.0 hs) (complete_version g.0 (Hears p ∷ hs)) ≡ true → target_version g.0 (Hears p ∷ hs) ≡ version
  fragment-target more = elim (cases_Bool (is_newer g.0 hs version)) [ inl newer ↦ over newer | inr older ↦ under older ] where
    target-is : target_version g.0 (Hears p ∷ hs) ≡ cond (is_newer g.0 hs version) version (target_version g.0 hs)
    target-is = target_next g.0 p hs ∙ ap (λ (v : ℕ). cond (is_newer g.0 hs v) v (target_version g.0 hs)) own-version

    over : is_newer g.0 hs version ≡ true → target_version g.0 (Hears p ∷ hs) ≡ version
    over newer = target-is ∙ ap (λ (b : Bool). cond b version (target_version g.0 hs)) newer

    under : is_newer g.0 hs version ≡ false → target_version g.0 (Hears p ∷ hs) ≡ version
    under older =
        let stays : target_version g.0 (Hears p ∷ hs) ≡ target_version g.0 hs = target-is ∙ ap (λ (b : Bool). cond b version (target_version g.0 hs)) older in
        elim (cases_Bool (eqb version (target_version g.0 hs))) [
          | inl same ↦ stays ∙ sym (eqb-true version (target_version g.0 hs) same)
          | inr other ↦ (
              let parts : target_parts g.0 (Hears p ∷ hs) ≡ target_parts g.0 hs =
              parts_same g.0 p hs (ap (is_newer g.0 hs) own-version ∙ older) ∙ ap (λ (o : Option TargetFragment). target_parts g.0 hs ++ cons_option o []) (other-part other) ∙ append-nil (target_parts g.0 hs) in
              let C : List TargetFragment → ℕ → ℕ = λ xs t. if is_some (whole (places_of xs)) then t else 0 in
              let same : complete_version g.0 (Hears p ∷ hs) ≡ complete_version g.0 hs =
              ap (λ (xs : List TargetFragment). C xs (target_version g.0 (Hears p ∷ hs))) parts ∙ ap (λ (t : ℕ). C (target_parts g.0 hs) t) stays in
              let less = ltb-true (complete_version g.0 hs) (complete_version g.0 (Hears p ∷ hs)) more in
              absurd (omega (arith, same, less)))
        ]

-- ---- the handler of what became complete

if-some : {A : Type 0} (b : Bool) (x y : A) → (if b then Some x else None) ≡ Some y → (b ≡ true) × (x ≡ y)
if-some true x y is = (refl, cc)
if-some false x y is = absurd (let e : None ≡ Some y = is in cc)

pub completed-handler : (n : ℕ) (p : Packet) (hs : List Happening) (h : HandlerId) → IsRightPacket n p → completed_by p hs ≡ Some h → h.0 < n
completed-handler n (Fragment g version index count large bytes) hs h right is = subst (λ (x : HandlerId). x.0 < n) (if-some _ g h is).1 right.handler_high
completed-handler n _ hs h right is = absurd (let e : None ≡ Some h = is in cc)

-- there is an image of it
pub completed-none : (p : Packet) (hs : List Happening) (h : HandlerId) → completed_by p hs ≡ Some h → collected_image h.0 (Hears p ∷ hs) ≡ None → ⊥
completed-none (Fragment g version index count large bytes) hs h is none =
    let p : Packet = Fragment g version index count large bytes in
    let both = if-some (ltb (complete_version g.0 hs) (complete_version g.0 (Hears p ∷ hs))) g h is in
    let nothing : collected_image g.0 (Hears p ∷ hs) ≡ None = subst (λ (x : HandlerId). collected_image x.0 (Hears p ∷ hs) ≡ None) (sym both.1) none in
    let zero_is : complete_version g.0 (Hears p ∷ hs) ≡ 0 = ap (λ (o : Option (ArrayVec ℕ)). if is_some o then target_version g.0 (Hears p ∷ hs) else 0) nothing in
    let less = ltb-true (complete_version g.0 hs) (complete_version g.0 (Hears p ∷ hs)) both.0 in omega (arith, zero_is, less)
completed-none _ hs h is none = let e : None ≡ Some h = is in cc

-- ---- the rules' effect of a fragment

pub fragment-stays : (w : World) (hs : List Happening) (p : Packet) (version : ℕ) → IsFragmentOf version p → completed_by p hs ≡ None → of_packet w hs p ≡ record no_effect { happened = Hears p ∷ [] }
fragment-stays w hs (Fragment g told index count large bytes) version is none = ap (of_fragment (Fragment g told index count large bytes) hs) none
fragment-stays w hs _ version is none = absurd is

abbrev pub program_in : HandlerId → ℕ → ArrayVec ℕ → HeldProgram
program_in h version image = record { handler = h; version = version; image = image }

abbrev pub image-effect : List Happening → HeldProgram → NodeEffect
image-effect earlier x = record no_effect { deed = Installing x; happened = Installs x.handler.0 x.version x.image.items ∷ earlier; timer = Some trickle.Reset }

pub fragment-installs : (w : World) (hs : List Happening) (p : Packet) (version : ℕ) (h : HandlerId) (image : ArrayVec ℕ) → IsFragmentOf version p → completed_by p hs ≡ Some h
    → collected_image h.0 (Hears p ∷ hs) ≡ Some image → of_packet w hs p ≡ image-effect (Hears p ∷ []) (program_in h version image)
fragment-installs w hs (Fragment g told index count large bytes) version h image is by_h made =
    let p : Packet = Fragment g told index count large bytes in
    let both = if-some (ltb (complete_version g.0 hs) (complete_version g.0 (Hears p ∷ hs))) g h by_h in
    let target : target_version h.0 (Hears p ∷ hs) ≡ version =
    subst (λ (x : HandlerId). target_version x.0 (Hears p ∷ hs) ≡ version) both.1 (fragment-target g told index count large bytes hs both.0 ∙ is) in
    let H : ℕ → Option (ArrayVec ℕ) → NodeEffect = λ v o. image-effect (Hears p ∷ []) (program_in h v (unwrap_or o (record { items = [] }))) in
    ap (of_fragment p hs) by_h ∙ ap (λ (v : ℕ). H v (collected_image h.0 (Hears p ∷ hs))) target ∙ ap (H version) made
fragment-installs w hs _ version h image is by_h made = absurd is
