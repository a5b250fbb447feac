-- A complete image is made of fragments that were received, and the mask of a request has the bits of the empty places.
use Rattle.std.proofs.Common.{add-one, ◌≡◌, ℕ, zero, suc, ◌+◌, ◌-◌, ◌*◌, ◌^◌, ◌<◌, ◌≤◌, Bool, true, false, cond, eqb, ◌&&◌, ◌↔◌, List, [], ◌∷◌, ◌++◌, length, map, get_or, Option, Some, None, refl, sym, ap, ◌∙◌, subst, arith, inl, inr}
use Rattle.std.specs.Prelude.{All, Contains, IsTrue, is_some, is_none}
use Rattle.std.specs.Bool.{beq}
use Rattle.std.specs.Cmp.{booleans_Decides}
use Rattle.std.specs.Int.{bit_at}
use Rattle.std.specs.List.{filter, filter_map, cons_option, find, flat_map, list_all, concat}
use Rattle.std.specs.Option.{option_map, unwrap_or}
use Rattle.std.proofs.lemmas.Bool.{cases_Bool, cases_eq, and_parts, eqb-true}
use Rattle.std.proofs.lemmas.List.{length-map, get_or-map}
use Rattle.std.proofs.lemmas.List.Concat.{concat_is}
use Rattle.std.proofs.lemmas.List.Elements.{All-nil, All-cons, All-head, All-tail, All-weaker, All-filter, filter_passes}
use Rattle.std.proofs.lemmas.List.Folds.{flat_map-map}
use Rattle.std.proofs.lemmas.List.FromFn.{length-map-range_with_len, get_or-map-range_with_len, fill_by_all}
use Rattle.std.proofs.lemmas.List.Sums.{AllPass-from_list_all}
use Rattle.std.proofs.lemmas.Nat.Bits.{bit_at_above, bit_at_cat_low, bit_at_cat_high}
use Rattle.arrayvec.specs.ArrayVec.{ArrayVec}
use Rattle.capsule_codec.specs.Fragments.{count_of, piece_at, pieces_of}
use Rattle.capsule_codec.proofs.PieceLemmas.{pieces_whole}
use Rattle.packet_codec.specs.declared.packet.Packet.{Packet}
use Rattle.packet_codec.specs.declared.packet.Packet.TheVariants.{Fragment}
use Rattle.capsule_exchange.specs.Happenings.{Happening, TargetFragment, heard_since, target_version, part_in, target_parts, is_alike, alike, collected_at, places_of, gaps, mask_of, piece_bytes, whole, collected_image}
use Rattle.capsule_exchange.specs.Laws.{IsPutTogether, AreFragmentsOf}
use Rattle.capsule_exchange.proofs.MaskLemmas.{mask_upto, mask_push}
use Rattle.capsule_exchange.proofs.AnswerLemmas.{mask_high}

-- ---- each fragment of the target was heard

abbrev packet_of : ℕ → ℕ → TargetFragment → Packet
packet_of h version part = Fragment (record { 0 = h }) version part.index part.count part.large part.bytes

abbrev WasHeard : ℕ → ℕ → List Packet → TargetFragment → Type 0
WasHeard h version packets part = Contains packets (packet_of h version part)

later : (p : Packet) (packets : List Packet) (q : Packet) → Contains packets q → Contains (p ∷ packets) q
later p packets q (k, within, at) = (suc k, omega arith, at)

-- a packet that is a fragment of this version is that fragment
part_is : (h version : ℕ) (p : Packet) (part : TargetFragment) → part_in h version p ≡ Some part → p ≡ packet_of h version part
part_is h version (Fragment g told index count large bytes) part is =
    elim (cases_Bool (eqb g.0 h && eqb told version)) [
      | inl own ↦ (
          let both = and_parts (eqb g.0 h) (eqb told version) own in
          let handler : g.0 ≡ h = eqb-true g.0 h both.0 in
          let same : told ≡ version = eqb-true told version both.1 in
          let made : TargetFragment = record { index = index; count = count; large = large; bytes = bytes } in
          let one : Some made ≡ Some part = rw own at is in
          let part_same : made ≡ part = cc in
          ap (λ (k : ℕ). Fragment (record { 0 = k }) told index count large bytes) handler
          ∙ ap (λ (v : ℕ). Fragment (record { 0 = h }) v index count large bytes) same
          ∙ ap (packet_of h version) part_same)
      | inr other ↦ (let none : None ≡ Some part = rw other at is in absurd cc)
    ]
part_is h version _ part is = absurd cc

parts_heard : (h version : ℕ) (packets : List Packet) → All (WasHeard h version packets) (filter_map (part_in h version) packets)
parts_heard h version [] = All-nil (WasHeard h version [])
parts_heard h version (p ∷ packets) =
    let rest = All-weaker (WasHeard h version packets) (WasHeard h version (p ∷ packets)) (λ part. later p packets (packet_of h version part)) (filter_map (part_in h version) packets) (parts_heard h version packets) in
    by (part_in h version p) refl rest
  where
    by : (o : Option TargetFragment) → part_in h version p ≡ o → All (WasHeard h version (p ∷ packets)) (filter_map (part_in h version) packets) → All (WasHeard h version (p ∷ packets)) (cons_option o (filter_map (part_in h version) packets))
    by None is rest = rest
    by (Some part) is rest = All-cons (WasHeard h version (p ∷ packets)) part (filter_map (part_in h version) packets) (0, omega arith, part_is h version p part is) rest

-- what a search finds passes, and has what all have
found : (p : TargetFragment → Bool) (P : TargetFragment → Type 0) (parts : List TargetFragment) (part : TargetFragment) → All P parts → find p parts ≡ Some part → (p part ≡ true) × P part
found p P [] part all is = absurd cc
found p P (q ∷ parts) part all is =
    elim (cases_Bool (p q)) [
      | inl passes ↦ (
          let one : Some q ≡ Some part = rw passes at is in
          let same : q ≡ part = cc in
          subst (λ (r : TargetFragment). (p r ≡ true) × P r) same (passes, All-head P q parts all))
      | inr fails ↦ found p P parts part (All-tail P q parts all) (rw fails at is)
    ]

-- the first of the fragments, and those that go with it
record IsLike (first part : TargetFragment) : Type 0 where
  count_is : part.count ≡ first.count
  kind_is : part.large ≡ first.large

all_like : (first : TargetFragment) (rest : List TargetFragment) → All (IsLike first) (alike (first ∷ rest))
all_like first rest = All-cons (IsLike first) first (filter (is_alike first) rest) (record { count_is = refl; kind_is = refl })
    (All-weaker (λ (part : TargetFragment). is_alike first part ≡ true) (IsLike first) (λ part is.
    let both = and_parts (eqb part.count first.count) (beq part.large first.large) is in
    record { count_is = eqb-true part.count first.count both.0; kind_is = (booleans_Decides part.large first.large).0 both.1 })
    (filter (is_alike first) rest) (filter_passes (is_alike first) rest))

alike_heard : (h version : ℕ) (packets : List Packet) (parts : List TargetFragment) → All (WasHeard h version packets) parts → All (WasHeard h version packets) (alike parts)
alike_heard h version packets [] all = All-nil (WasHeard h version packets)
alike_heard h version packets (first ∷ rest) all =
    All-cons (WasHeard h version packets) first (filter (is_alike first) rest) (All-head (WasHeard h version packets) first rest all)
    (All-filter (is_alike first) (WasHeard h version packets) rest (All-tail (WasHeard h version packets) first rest all))

-- ---- a whole image is its pieces in order

abbrev no_piece : ArrayVec ℕ
no_piece = record { items = [] }

abbrev filled : Option (ArrayVec ℕ) → ArrayVec ℕ
filled place = unwrap_or place no_piece

bytes_filled : (places : List (Option (ArrayVec ℕ))) → flat_map piece_bytes places ≡ flat_map (λ (piece : ArrayVec ℕ). piece.items) (map filled places)
bytes_filled [] = refl
bytes_filled (None ∷ places) = bytes_filled places
bytes_filled (Some piece ∷ places) = ap (λ (bytes : List ℕ). piece.items ++ bytes) (bytes_filled places)

record IsWhole (places : List (Option (ArrayVec ℕ))) (made : ArrayVec ℕ) : Type 0 where
  all : list_all is_some places ≡ true
  made_is : made.items ≡ flat_map piece_bytes places

whole_is : (places : List (Option (ArrayVec ℕ))) (made : ArrayVec ℕ) → whole places ≡ Some made → IsWhole places made
whole_is places made is =
    elim (cases_Bool (list_all is_some places)) [
      | inl all ↦ (
          let joined : ArrayVec ℕ = record { items = flat_map piece_bytes places } in
          let one : Some joined ≡ Some made = rw all at is in
          let same : joined ≡ made = cc in
          record { all = all; made_is = ap (λ (v : ArrayVec ℕ). v.items) (sym same) })
      | inr lacking ↦ (let none : None ≡ Some made = rw lacking at is in absurd cc)
    ]

-- the piece at an index of a whole image is that of a fragment that was heard
piece_heard : (h version : ℕ) (packets : List Packet) (first : TargetFragment) (rest : List TargetFragment) (i : ℕ) → All (WasHeard h version packets) (first ∷ rest)
    → (o : Option TargetFragment) → find (λ (part : TargetFragment). eqb part.index i) (alike (first ∷ rest)) ≡ o → is_some (option_map (λ (part : TargetFragment). part.bytes) o) ≡ true
    → Contains packets (Fragment (record { 0 = h }) version i first.count first.large (filled (option_map (λ (part : TargetFragment). part.bytes) o)))
piece_heard h version packets first rest i all None is some = absurd cc
piece_heard h version packets first rest i all (Some part) is some =
    let test = λ (q : TargetFragment). eqb q.index i in
    let heard = found test (WasHeard h version packets) (alike (first ∷ rest)) part (alike_heard h version packets (first ∷ rest) all) is in
    let like = found test (IsLike first) (alike (first ∷ rest)) part (all_like first rest) is in
    let index_is : part.index ≡ i = eqb-true part.index i heard.0 in
    let count_is = like.1.count_is in
    let kind_is = like.1.kind_is in
    let same : packet_of h version part ≡ Fragment (record { 0 = h }) version i first.count first.large part.bytes = cc in
    subst (Contains packets) same heard.1

put_together : (h version : ℕ) (packets : List Packet) (first : TargetFragment) (rest : List TargetFragment) → All (WasHeard h version packets) (first ∷ rest) → list_all is_some (places_of (first ∷ rest)) ≡ true
    → (i : ℕ) → i < first.count → Contains packets (Fragment (record { 0 = h }) version i first.count first.large (get_or (map filled (places_of (first ∷ rest))) i no_piece))
put_together h version packets first rest all there i within =
    let parts = first ∷ rest in
    let places = places_of parts in
    let long : length places ≡ first.count = length-map-range_with_len (collected_at parts) 0 first.count in
    let place : get_or places i None ≡ collected_at parts i = get_or-map-range_with_len (collected_at parts) 0 first.count i i None within (omega arith) in
    let some : is_some (collected_at parts i) ≡ true = ap is_some (sym place) ∙ AllPass-from_list_all is_some places there i None (omega arith) in
    let piece : get_or (map filled places) i no_piece ≡ filled (collected_at parts i) = get_or-map filled places i None no_piece (omega arith) ∙ ap filled place in
    subst (λ (p : ArrayVec ℕ). Contains packets (Fragment (record { 0 = h }) version i first.count first.large p)) (sym piece)
    (piece_heard h version packets first rest i all (find (λ (part : TargetFragment). eqb part.index i) (alike parts)) refl some)

-- the fragments of the target begin with one, where its image is whole
record HasFirst (parts : List TargetFragment) : Type 0 where
  first : TargetFragment
  rest : List TargetFragment
  is : parts ≡ first ∷ rest

has_first : (parts : List TargetFragment) → list_all is_some (places_of parts) ≡ true → HasFirst parts
has_first [] there = absurd cc
has_first (first ∷ rest) there = record { first = first; rest = rest; is = refl }

together_by : (h : ℕ) (hs : List Happening) (parts : List TargetFragment) (image : ArrayVec ℕ) → All (WasHeard h (target_version h hs) (heard_since h hs)) parts → whole (places_of parts) ≡ Some image → IsPutTogether h hs image.items
together_by h hs [] image all is = (let w = whole_is (places_of []) image is in let none : false ≡ true = w.all in absurd cc)
together_by h hs (first ∷ rest) image all is =
    let places = places_of (first ∷ rest) in
    let w = whole_is places image is in
    record {
      count = first.count;
      large = first.large;
      pieces = map filled places;
      all = length-map places filled ∙ length-map-range_with_len (collected_at (first ∷ rest)) 0 first.count;
      image_is = w.made_is ∙ bytes_filled places;
      each = put_together h (target_version h hs) (heard_since h hs) first rest all w.all;
    }

pub together : (h : ℕ) (hs : List Happening) (image : ArrayVec ℕ) → collected_image h hs ≡ Some image → IsPutTogether h hs image.items
together h hs image is = together_by h hs (target_parts h hs) image (parts_heard h (target_version h hs) (heard_since h hs)) is

image_by : (h version : ℕ) (packets : List Packet) (parts : List TargetFragment) (image : List ℕ) (made : ArrayVec ℕ) → All (WasHeard h version packets) parts → AreFragmentsOf h version image packets → whole (places_of parts) ≡ Some made → made.items ≡ image
image_by h version packets [] image made all are is = (let w = whole_is (places_of []) made is in let none : false ≡ true = w.all in absurd cc)
image_by h version packets (first ∷ rest) image made all are is =
    let places = places_of (first ∷ rest) in
    let pieces = map filled places in
    let items = λ (piece : ArrayVec ℕ). piece.items in
    let w = whole_is places made is in
    let count : first.count ≡ count_of image = (are first.index first.count first.large first.bytes (All-head (WasHeard h version packets) first rest all)).0 in
    let long : length pieces ≡ first.count = length-map places filled ∙ length-map-range_with_len (collected_at (first ∷ rest)) 0 first.count in
    let cut : map items pieces ≡ pieces_of image = fill_by_all (piece_at image) (map items pieces) (count_of image) [] (length-map pieces items ∙ long ∙ count) (λ i below.
    get_or-map items pieces i no_piece [] (omega arith)
    ∙ (are i first.count first.large (get_or pieces i no_piece) (put_together h version packets first rest all w.all i (omega arith))).1) in
    w.made_is ∙ bytes_filled places ∙ sym (flat_map-map (λ (x : List ℕ). x) items pieces) ∙ sym (concat_is (map items pieces)) ∙ ap concat cut ∙ pieces_whole image

pub one_image : (h : ℕ) (hs : List Happening) (image : List ℕ) (made : ArrayVec ℕ) → AreFragmentsOf h (target_version h hs) image (heard_since h hs) → collected_image h hs ≡ Some made → made.items ≡ image
one_image h hs image made are is = image_by h (target_version h hs) (heard_since h hs) (target_parts h hs) image made (parts_heard h (target_version h hs) (heard_since h hs)) are is

-- ---- the bits of a mask

bit_more : (mask n i : ℕ) (b : Bool) → mask < 2 ^ n → i < n → bit_at (mask + cond b (2 ^ n) 0) i ≡ bit_at mask i
bit_more mask n i true below low = ap (λ (m : ℕ). bit_at m i) (omega arith) ∙ bit_at_cat_low 1 n mask i low
bit_more mask n i false below low = ap (λ (m : ℕ). bit_at m i) (omega arith)

bit_here : (mask n : ℕ) (b : Bool) → mask < 2 ^ n → bit_at (mask + cond b (2 ^ n) 0) n ≡ cond b 1 0
bit_here mask n true below =
    let sum : mask + 2 ^ n ≡ 1 * 2 ^ n + mask = omega arith in
    let start : n - n ≡ 0 = omega arith in
    ap (λ (m : ℕ). bit_at m n) sum ∙ bit_at_cat_high 1 n mask n below (omega arith) ∙ ap (bit_at 1) start
bit_here mask n false below =
    let sum : mask + 0 ≡ mask = omega arith in
    ap (λ (m : ℕ). bit_at m n) sum ∙ bit_at_above mask n n below (omega arith)

bit_is : (places : List (Option (ArrayVec ℕ))) (n i : ℕ) → i < n → bit_at (mask_upto places n) i ≡ cond (is_none (get_or places i None)) 1 0
bit_is places zero i below = absurd (omega arith)
bit_is places (suc n) i below =
    let step : mask_upto places (suc n) ≡ mask_upto places n + cond (is_none (get_or places n None)) (2 ^ n) 0 =
    ap (mask_upto places) (sym (add-one n)) ∙ mask_push (λ (k : ℕ). is_none (get_or places k None)) n in
    let high = mask_high places n in
    elim (cases_eq i n) [
      | inl same ↦ (
          let here = bit_here (mask_upto places n) n (is_none (get_or places n None)) high in
          subst (λ (k : ℕ). bit_at (mask_upto places (suc n)) k ≡ cond (is_none (get_or places k None)) 1 0) (sym same) (ap (λ (m : ℕ). bit_at m n) step ∙ here))
      | inr other ↦ ap (λ (m : ℕ). bit_at m i) step ∙ bit_more (mask_upto places n) n i (is_none (get_or places n None)) high (omega arith) ∙ bit_is places n i (omega arith)
    ]

bit_tells : (b : Bool) (bit : ℕ) → bit ≡ cond b 1 0 → (bit ≡ 1) ↔ IsTrue b
bit_tells true bit is = (λ _. refl, λ _. is)
bit_tells false bit is = (λ one. absurd (omega arith), λ yes_. absurd cc)

pub gap_asked : (places : List (Option (ArrayVec ℕ))) (i : ℕ) → i < length places → (bit_at (mask_of (gaps places)) i ≡ 1) ↔ IsTrue (is_none (get_or places i None))
gap_asked places i within = bit_tells (is_none (get_or places i None)) (bit_at (mask_upto places (length places)) i) (bit_is places (length places) i within)

pub beyond_asked : (places : List (Option (ArrayVec ℕ))) (i : ℕ) → length places ≤ i → bit_at (mask_of (gaps places)) i ≡ 0
beyond_asked places i past = bit_at_above (mask_upto places (length places)) (length places) i (mask_high places (length places)) past
