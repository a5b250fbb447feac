-- What is installed was injected: kept by each event.
use Rattle.std.proofs.Common.{◌≡◌, ◌<◌, ℕ, zero, suc, ◌+◌, ◌*◌, ◌/◌, ◌%◌, Bool, true, false, not, ◌&&◌, List, [], ◌∷◌, length, Some, None, refl, sym, ◌∙◌, ap, subst, arith, inl, inr, ◌⊎◌}
use Rattle.std.specs.Prelude.{nat_lt, slice_index_or, ◌==◌, if◌then◌else◌}
use Rattle.std.specs.Int.{bit_at}
use Rattle.std.specs.List.{filter_map}
use Rattle.std.proofs.lemmas.Bool.{ltb-true, and_parts, or_cases}
use Rattle.std.proofs.lemmas.Bool.Decides.{eqb_tells}
use Rattle.arrayvec.specs.ArrayVec.{ArrayVec}
use Rattle.capsule_codec.specs.Fragments.{count_of, piece_at}
use Rattle.packet_codec.specs.declared.packet.Packet.{Packet}
use Rattle.packet_codec.specs.declared.packet.Packet.TheVariants.{Status, Fragment}
use Rattle.capsule_exchange.specs.Happenings.{Happening, Hears, Sends, Installs, Forgets, held_version, held_image, heard_since, target_version, TargetFragment, part_in, target_parts, places_of, whole, collected_image, asks_of, is_marked, is_marked_slot, fragment_for}
use Rattle.capsule_exchange.specs.Laws.{AreFragmentsOf}
use Rattle.capsule_exchange.proofs.LawLemmas.{one_image}
use Rattle.world_rules.specs.World.{World}
use Rattle.world_laws.specs.Versions.{WasInjected, IsOneImage}
use Rattle.mate_num.specs.Lists.{Each, Among}
use Rattle.mate_num.proofs.ListLemmas.{each-among}
use Rattle.world_laws.proofs.Points.{among-filter_map}
use Rattle.world_rules.specs.State.{Moment}

-- ---- a mark is of a fragment that the held image has

asked-within : (h i : ℕ) (p : Packet) (hs : List Happening) → asks_of h i p hs ≡ true → nat_lt i (count_of (held_image h hs)) ≡ true
asked-within h i (Status g version missing) hs is = let both = and_parts (g.0 == h && version == held_version h hs) (nat_lt i (count_of (held_image h hs)) && bit_at missing i == 1) is in (and_parts (nat_lt i (count_of (held_image h hs))) (bit_at missing i == 1) both.1).0
asked-within h i _ hs is = cc

pub marked-within : (h i : ℕ) (hs : List Happening) → is_marked h i hs ≡ true → nat_lt i (count_of (held_image h hs)) ≡ true
marked-within h i [] is = cc
marked-within h i (Hears p ∷ hs) is = elim (or_cases (asks_of h i p hs) (is_marked h i hs) is) [ inl asked ↦ asked-within h i p hs asked | inr old ↦ marked-within h i hs old ]
marked-within h i (Sends slot ∷ hs) is = marked-within h i hs (and_parts (not (slot == 22 * h + i)) (is_marked h i hs) is).1
marked-within h i (Installs g version image ∷ hs) is = by (g == h) refl (marked-within h i hs (and_parts (not (g == h)) (is_marked h i hs) is).1) is where
  by : (b : Bool) → (g == h) ≡ b → nat_lt i (count_of (held_image h hs)) ≡ true → (not (g == h) && is_marked h i hs) ≡ true → nat_lt i (count_of (if g == h then image else held_image h hs)) ≡ true
  by true own old marks = let none : (not true && is_marked h i hs) ≡ true = subst (λ (b : Bool). (not b && is_marked h i hs) ≡ true) own marks in cc
  by false other old marks = rw other old
marked-within h i (Forgets ∷ hs) is = cc

-- ---- what a packet or a node tells of programs

-- a fragment is one of an injected program's image
abbrev pub IsOfInjected : World → List Moment → Packet → Type 0
IsOfInjected w ms (Fragment g version index count large bytes) = (image : List ℕ) × WasInjected w ms g.0 version image × (count ≡ count_of image) × (bytes.items ≡ piece_at image index)
    × (large ≡ nat_lt 528 (length image))
IsOfInjected w ms _ = Unit {0}

abbrev pub AreOfInjected : World → List Moment → List Packet → Type 0
AreOfInjected w ms = Each (IsOfInjected w ms)

-- a node holds nothing of the handler, or an injected program
abbrev pub HoldsInjected : World → List Moment → List Happening → ℕ → Type 0
HoldsInjected w ms hs h = ((held_version h hs ≡ 0) × (held_image h hs ≡ [])) ⊎ WasInjected w ms h (held_version h hs) (held_image h hs)

pub later-injected : (w : World) (m : Moment) (ms : List Moment) (h version : ℕ) (image : List ℕ) → WasInjected w ms h version image → WasInjected w (m ∷ ms) h version image
later-injected w m ms h version image was = record {
  newer = m ∷ was.newer;
  moment = was.moment;
  older = was.older;
  split = ap (λ (xs : List Moment). m ∷ xs) was.split;
  place = was.place;
  cause = was.cause;
  program = was.program;
  injects = was.injects;
  handler = was.handler;
  version_is = was.version_is;
  image_is = was.image_is;
}

pub one-injected : (w : World) (ms : List Moment) (h version : ℕ) (image other : List ℕ) → IsOneImage w → WasInjected w ms h version image → WasInjected w ms h version other → image ≡ other
one-injected w ms h version image other one a b =
    sym a.image_is ∙ one a.place b.place a.program b.program a.injects b.injects (a.handler ∙ sym b.handler) (a.version_is ∙ sym b.version_is) ∙ b.image_is

contains-among : (ps : List Packet) (p : Packet) (k : ℕ) → k < length ps → slice_index_or ps k p ≡ p → Among p ps
contains-among [] p k below is = absurd (omega (arith, below))
contains-among (q ∷ ps) p zero below is = inl is
contains-among (q ∷ ps) p (suc k) below is = inr (contains-among ps p k (omega (arith, below)) is)

-- the fragments that were heard of the target are of the injected program
fragments-of : (w : World) (ms : List Moment) (h version : ℕ) (image : List ℕ) (ps : List Packet) → IsOneImage w → WasInjected w ms h version image → AreOfInjected w ms ps → AreFragmentsOf h version image ps
fragments-of w ms h version image ps one was all i count large bytes contains =
    let among : Among (Fragment (record { 0 = h }) version i count large bytes) ps = contains-among ps (Fragment (record { 0 = h }) version i count large bytes) contains.0 contains.1 contains.2 in
    let of : IsOfInjected w ms (Fragment (record { 0 = h }) version i count large bytes) = each-among (IsOfInjected w ms) ps (Fragment (record { 0 = h }) version i count large bytes) all among in
    let same : of.0 ≡ image = one-injected w ms h version of.0 image one of.1 was in
    (of.2 ∙ ap count_of same, of.3 ∙ ap (λ (xs : List ℕ). piece_at xs i) same)

-- a target that is complete has a fragment
part-of : (w : World) (ms : List Moment) (h version : ℕ) (p : Packet) (part : TargetFragment) → part_in h version p ≡ Some part → IsOfInjected w ms p → (image : List ℕ) × WasInjected w ms h version image
part-of w ms h version (Fragment g told index count large bytes) part is of = by (g.0 == h && told == version) refl is where
  by : (b : Bool) → (g.0 == h && told == version) ≡ b → (if b then Some (record { index = index; count = count; large = large; bytes = bytes }) else None) ≡ Some part → (image : List ℕ) × WasInjected w ms h version image
  by false test given = cc
  by true test given =
      let both = and_parts (g.0 == h) (told == version) test in
      elim (eqb_tells g.0 h) [
        | inr other ↦ (let clash : true ≡ false = sym both.0 ∙ other.0 in cc)
        | inl own ↦ elim (eqb_tells told version) [
          | inr other ↦ (let clash : true ≡ false = sym both.1 ∙ other.0 in cc)
          | inl same ↦ (of.0, subst (λ (n : ℕ). WasInjected w ms h n of.0) same.1 (subst (λ (n : ℕ). WasInjected w ms n told of.0) own.1 of.1))
        ]
      ]
part-of w ms h version _ part is of = cc

first-of : (w : World) (ms : List Moment) (h : ℕ) (hs : List Happening) (made : ArrayVec ℕ) → AreOfInjected w ms (heard_since h hs) → collected_image h hs ≡ Some made → (image : List ℕ) × WasInjected w ms h (target_version h hs) image
first-of w ms h hs made all is = by (target_parts h hs) refl is where
  by : (ps : List TargetFragment) → target_parts h hs ≡ ps → whole (places_of ps) ≡ Some made → (image : List ℕ) × WasInjected w ms h (target_version h hs) image
  by [] parts given = cc
  by (part ∷ ps) parts given =
      let among : Among part (filter_map (part_in h (target_version h hs)) (heard_since h hs)) = subst (λ (xs : List TargetFragment). Among part xs) (sym parts) (inl refl) in
      let found = among-filter_map (part_in h (target_version h hs)) part (heard_since h hs) among in
      part-of w ms h (target_version h hs) found.0 part found.2 (each-among (IsOfInjected w ms) (heard_since h hs) found.0 all found.1)

-- what is collected is an injected program
pub collected-injected : (w : World) (ms : List Moment) (h : ℕ) (hs : List Happening) (made : ArrayVec ℕ) → IsOneImage w → AreOfInjected w ms (heard_since h hs) → collected_image h hs ≡ Some made
    → WasInjected w ms h (target_version h hs) made.items
collected-injected w ms h hs made one all is =
    let first = first-of w ms h hs made all is in
    let same : made.items ≡ first.0 = one_image h hs first.0 made (fragments-of w ms h (target_version h hs) first.0 (heard_since h hs) one first.1 all) is in
    subst (λ (xs : List ℕ). WasInjected w ms h (target_version h hs) xs) (sym same) first.1

-- a fragment that a node sends is of an injected program
pub sent-injected : (w : World) (ms : List Moment) (hs : List Happening) (slot : ℕ) → ((h : ℕ) → HoldsInjected w ms hs h) → is_marked_slot hs slot ≡ true → IsOfInjected w ms (fragment_for hs slot)
sent-injected w ms hs slot holds marked = by (holds (slot / 22)) where
  within : nat_lt (slot % 22) (count_of (held_image (slot / 22) hs)) ≡ true
  within = marked-within (slot / 22) (slot % 22) hs marked

  by : HoldsInjected w ms hs (slot / 22) → IsOfInjected w ms (fragment_for hs slot)
  by (inl none) = let below : slot % 22 < count_of (held_image (slot / 22) hs) = ltb-true _ _ within in
      let no_fragment : slot % 22 < count_of [] = subst (λ (xs : List ℕ). slot % 22 < count_of xs) none.1 below in absurd (omega (arith, no_fragment))
  by (inr was) = (held_image (slot / 22) hs, was, refl, refl, refl)
