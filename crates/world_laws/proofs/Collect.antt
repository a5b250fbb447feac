-- What a node collects of the newest version.
use Rattle.std.proofs.Common.{◌≡◌, ◌<◌, ◌≤◌, ℕ, zero, suc, ◌+◌, Bool, true, false, cond, ltb, ◌&&◌, IsTrue, List, [], ◌∷◌, ◌++◌, map, length, get_or, Option, Some, None, refl, sym, ◌∙◌, ap, subst, arith, inl, inr}
use Rattle.std.specs.Prelude.{is_some, is_none, nat_lt, slice_index, ◌==◌, if◌then◌else◌}
use Rattle.std.specs.Bool.{beq}
use Rattle.std.specs.Int.{bit_at}
use Rattle.std.specs.List.{filter, filter_map, list_all, range_with_len, cons_option}
use Rattle.std.proofs.lemmas.Bool.{cases_Bool, ltb-true, ltb-false, and_parts}
use Rattle.std.proofs.lemmas.Bool.Decides.{eqb_tells}
use Rattle.std.proofs.lemmas.List.{append-nil}
use Rattle.mate_num.specs.declared.id.HandlerId.{HandlerId}
use Rattle.arrayvec.specs.ArrayVec.{ArrayVec}
use Rattle.capsule_codec.specs.Fragments.{count_of}
use Rattle.packet_codec.specs.declared.packet.Packet.{Packet}
use Rattle.packet_codec.specs.declared.packet.Packet.TheVariants.{Vector, Status, Fragment, App}
use Rattle.capsule_exchange.specs.Happenings.{Happening, Hears, held_version, heard_since, version_in, greatest, target_version, TargetFragment, part_in, target_parts, collected_at, limit_of, places_of, gaps, mask_of, whole, complete_version, completed_by}
use Rattle.capsule_exchange.specs.Knowledge.{collected_form}
use Rattle.capsule_exchange.specs.Steps.{takes}
use Rattle.capsule_exchange.proofs.CollectLemmas.{is_newer, target_next, parts_newer, parts_same, form_in, joins_parts, collected_push}
use Rattle.capsule_exchange.proofs.LawLemmas.{gap_asked}
use Rattle.world_laws.specs.Newest.{Version}
use Rattle.mate_num.specs.Lists.{Each, Among}
use Rattle.mate_num.proofs.ListLemmas.{each-among}

-- a packet that tells of nothing newer, and of the version only fragments of its image
abbrev pub IsTame : Version → Packet → Type 0
IsTame v (Vector versions) = slice_index versions.items v.handler ≤ v.version
IsTame v (Status g version missing) = Unit {0}
IsTame v (Fragment g version index count large bytes) =
    g.0 ≡ v.handler → (version ≤ v.version) × (version ≡ v.version → (count ≡ count_of v.image) × (large ≡ nat_lt 528 (length v.image)))
IsTame v (App payload) = Unit {0}

abbrev pub AreTame : Version → List Packet → Type 0
AreTame v = Each (IsTame v)

pub version-tame : (v : Version) (p : Packet) → IsTame v p → version_in v.handler p ≤ v.version
version-tame v (Vector versions) tame = tame
version-tame v (Status g version missing) tame = omega arith
version-tame v (Fragment g version index count large bytes) tame = elim (eqb_tells g.0 v.handler) [ inl same ↦ rw same.0 (tame same.1).0 | inr other ↦ rw other.0 (omega arith) ]
version-tame v (App payload) tame = omega arith

greatest-most : (limit most : ℕ) (h : ℕ) (ps : List Packet) → ((p : Packet) → Among p ps → version_in h p ≤ most) → greatest (filter (ltb limit) (map (version_in h) ps)) ≤ most
greatest-most limit most h [] each = omega arith
greatest-most limit most h (p ∷ ps) each = by (ltb limit (version_in h p)) (each p (inl refl)) (greatest-most limit most h ps (λ q a. each q (inr a))) where
  rest : List ℕ
  rest = filter (ltb limit) (map (version_in h) ps)

  by : (b : Bool) → version_in h p ≤ most → greatest (filter (ltb limit) (map (version_in h) ps)) ≤ most → greatest (cond b (version_in h p ∷ filter (ltb limit) (map (version_in h) ps)) (filter (ltb limit) (map (version_in h) ps))) ≤ most
  by true one all = omega (arith, one, all)
  by false one all = all

pub target-most : (v : Version) (hs : List Happening) → AreTame v (heard_since v.handler hs) → target_version v.handler hs ≤ v.version
target-most v hs all = greatest-most (held_version v.handler hs) v.version v.handler (heard_since v.handler hs) (λ p a. version-tame v p (each-among (IsTame v) (heard_since v.handler hs) p all a))

-- ---- the parts of the version

abbrev pub IsAlike : Version → TargetFragment → Type 0
IsAlike v part = (part.count ≡ count_of v.image) × (part.large ≡ nat_lt 528 (length v.image))

abbrev pub AreAlike : Version → List TargetFragment → Type 0
AreAlike v = Each (IsAlike v)

part-alike : (v : Version) (p : Packet) → IsTame v p → AreAlike v (cons_option (part_in v.handler v.version p) [])
part-alike v (Fragment g version index count large bytes) tame = by ((g.0 == v.handler) && (version == v.version)) refl where
  by : (b : Bool) → ((g.0 == v.handler) && (version == v.version)) ≡ b → AreAlike v (cons_option (if b then Some (record { index = index; count = count; large = large; bytes = bytes }) else None) [])
  by false is = tt
  by true is =
      let both = and_parts (g.0 == v.handler) (version == v.version) is in
      elim (eqb_tells g.0 v.handler) [
        | inl same ↦ elim (eqb_tells version v.version) [
          | inl one ↦ ((tame same.1).1 one.1, tt)
          | inr other ↦ (let clash : true ≡ false = sym both.1 ∙ other.0 in cc)
        ]
        | inr other ↦ (let clash : true ≡ false = sym both.0 ∙ other.0 in cc)
      ]
part-alike v _ tame = tt

alike-cons : (v : Version) (o : Option TargetFragment) (parts : List TargetFragment) → AreAlike v (cons_option o []) → AreAlike v parts → AreAlike v (cons_option o parts)
alike-cons v None parts one all = all
alike-cons v (Some part) parts one all = (one.0, all)

parts-alike-of : (v : Version) (ps : List Packet) → AreTame v ps → AreAlike v (filter_map (part_in v.handler v.version) ps)
parts-alike-of v [] all = tt
parts-alike-of v (p ∷ ps) all = alike-cons v (part_in v.handler v.version p) (filter_map (part_in v.handler v.version) ps) (part-alike v p all.0) (parts-alike-of v ps all.1)

pub parts-alike : (v : Version) (hs : List Happening) → target_version v.handler hs ≡ v.version → AreTame v (heard_since v.handler hs) → AreAlike v (target_parts v.handler hs)
parts-alike v hs is all = subst (λ (t : ℕ). AreAlike v (filter_map (part_in v.handler t) (heard_since v.handler hs))) (sym is) (parts-alike-of v (heard_since v.handler hs) all)

-- ---- the target stays

cond_false : {X : Type 0} (b : Bool) (x y : X) → b ≡ false → cond b x y ≡ y
cond_false b x y is = rw is refl

not-newer : (v : Version) (hs : List Happening) (p : Packet) → target_version v.handler hs ≡ v.version → IsTame v p → is_newer v.handler hs (version_in v.handler p) ≡ false
not-newer v hs p is tame = by (ltb (held_version v.handler hs) (version_in v.handler p)) (ltb (target_version v.handler hs) (version_in v.handler p)) refl where
  by : (a b : Bool) → ltb (target_version v.handler hs) (version_in v.handler p) ≡ b → (a && b) ≡ false
  by false b over = refl
  by true false over = refl
  by true true over =
      let most : version_in v.handler p ≤ v.version = version-tame v p tame in
      let above : target_version v.handler hs < version_in v.handler p = ltb-true _ _ over in absurd (omega (arith, most, above, is))

pub target-stays : (v : Version) (hs : List Happening) (p : Packet) → target_version v.handler hs ≡ v.version → IsTame v p → target_version v.handler (Hears p ∷ hs) ≡ v.version
target-stays v hs p is tame = target_next v.handler p hs ∙ cond_false (is_newer v.handler hs (version_in v.handler p)) _ _ (not-newer v hs p is tame) ∙ is

pub parts-grow : (v : Version) (hs : List Happening) (p : Packet) → target_version v.handler hs ≡ v.version → IsTame v p
    → target_parts v.handler (Hears p ∷ hs) ≡ target_parts v.handler hs ++ cons_option (part_in v.handler v.version p) []
parts-grow v hs p is tame = parts_same v.handler p hs (not-newer v hs p is tame) ∙ ap (λ (t : ℕ). target_parts v.handler hs ++ cons_option (part_in v.handler t p) []) is

-- a Vector with the version sets the target
pub target-set : (v : Version) (hs : List Happening) (versions : ArrayVec ℕ) → slice_index versions.items v.handler ≡ v.version → held_version v.handler hs < v.version
    → AreTame v (heard_since v.handler hs) → target_version v.handler (Hears (Vector versions) ∷ hs) ≡ v.version
target-set v hs versions is below all = target_next v.handler (Vector versions) hs ∙ by (ltb (held_version v.handler hs) (version_in v.handler (Vector versions))) (ltb (target_version v.handler hs) (version_in v.handler (Vector versions))) refl refl where
  by : (a b : Bool) → ltb (held_version v.handler hs) (version_in v.handler (Vector versions)) ≡ a → ltb (target_version v.handler hs) (version_in v.handler (Vector versions)) ≡ b
      → cond (a && b) (slice_index versions.items v.handler) (target_version v.handler hs) ≡ v.version
  by true true over more = is
  by true false over more = let low : version_in v.handler (Vector versions) ≤ target_version v.handler hs = ltb-false _ _ more in let most = target-most v hs all in omega (arith, low, most, is)
  by false b under more = let low : version_in v.handler (Vector versions) ≤ held_version v.handler hs = ltb-false _ _ under in absurd (omega (arith, low, below, is))

-- ---- what is collected

-- a fragment with this index is there
abbrev pub Has : List TargetFragment → ℕ → Type 0
Has parts i = is_some (collected_at parts i) ≡ true

pub has-push : (parts : List TargetFragment) (part : TargetFragment) (i : ℕ) → Has parts i → Has (parts ++ part ∷ []) i
has-push parts part i has = subst (λ (o : Option (ArrayVec ℕ)). is_some o ≡ true) (sym (collected_push parts part i)) (by (joins_parts parts part i)) where
  by : (b : Bool) → is_some (cond b (Some part.bytes) (collected_at parts i)) ≡ true
  by true = refl
  by false = has

has-option : (parts : List TargetFragment) (o : Option TargetFragment) (i : ℕ) → Has parts i → Has (parts ++ cons_option o []) i
has-option parts None i has = subst (λ (ps : List TargetFragment). Has ps i) (sym (append-nil parts)) has
has-option parts (Some part) i has = has-push parts part i has

pub has-stays : (v : Version) (hs : List Happening) (p : Packet) (i : ℕ) → target_version v.handler hs ≡ v.version → IsTame v p → Has (target_parts v.handler hs) i
    → Has (target_parts v.handler (Hears p ∷ hs)) i
has-stays v hs p i is tame has = subst (λ (ps : List TargetFragment). Has ps i) (sym (parts-grow v hs p is tame)) (has-option (target_parts v.handler hs) (part_in v.handler v.version p) i has)

same_bool : (a b : Bool) → a ≡ b → beq a b ≡ true
same_bool true true is = refl
same_bool false false is = refl
same_bool true false is = cc
same_bool false true is = cc

takes-alike : (v : Version) (parts : List TargetFragment) (part : TargetFragment) → AreAlike v parts → IsAlike v part → takes (form_in part) (collected_form parts) ≡ true
takes-alike v [] part all one = refl
takes-alike v (first ∷ parts) part all one =
    let count : part.count ≡ first.count = one.0 ∙ sym all.0.0 in
    let large : part.large ≡ first.large = one.1 ∙ sym all.0.1 in
    elim (eqb_tells part.count first.count) [
      | inl same ↦ rw (same.0, same_bool part.large first.large large) refl
      | inr other ↦ absurd (other.1 count)
    ]

pub has-got : (v : Version) (parts : List TargetFragment) (part : TargetFragment) → AreAlike v parts → IsAlike v part → Has (parts ++ part ∷ []) part.index
has-got v parts part all one = subst (λ (o : Option (ArrayVec ℕ)). is_some o ≡ true) (sym (collected_push parts part part.index)) (by (collected_at parts part.index) refl) where
  own : (part.index == part.index) ≡ true
  own = elim (eqb_tells part.index part.index) [ inl same ↦ same.0 | inr other ↦ absurd (other.1 refl) ]

  by : (o : Option (ArrayVec ℕ)) → collected_at parts part.index ≡ o → is_some (cond (takes (form_in part) (collected_form parts) && ((part.index == part.index) && is_none o)) (Some part.bytes) o) ≡ true
  by None is = rw (takes-alike v parts part all one, own) refl
  by (Some bytes) is = rw (takes-alike v parts part all one, own) refl

-- ---- what is asked for, and when it is whole

pub at-range : {X : Type 0} (f : ℕ → X) (d : X) (first n i : ℕ) → i < n → get_or (map f (range_with_len first n)) i d ≡ f (first + i)
at-range f d first zero i below = absurd (omega arith)
at-range f d first (suc n) zero below = let same : first ≡ first + 0 = omega arith in ap f same
at-range f d first (suc n) (suc i) below = let same : first + 1 + i ≡ first + suc i = omega arith in at-range f d (first + 1) n i (omega arith) ∙ ap f same

long-range : {X : Type 0} (f : ℕ → X) (first n : ℕ) → length (map f (range_with_len first n)) ≡ n
long-range f first zero = refl
long-range f first (suc n) = ap suc (long-range f (first + 1) n)

all-range : {X : Type 0} (f : ℕ → Option X) (first n : ℕ) → ((i : ℕ) → first ≤ i → i < first + n → is_some (f i) ≡ true) → list_all is_some (map f (range_with_len first n)) ≡ true
all-range f first zero each = refl
all-range f first (suc n) each = rw (each first (omega arith) (omega arith)) (all-range f (first + 1) n (λ i low high. each i (omega arith) (omega arith)))

pub limit-enough : (v : Version) (parts : List TargetFragment) (i : ℕ) → AreAlike v parts → count_of v.image ≤ 22 → i < count_of v.image → i < limit_of parts
limit-enough v [] i all few below = omega arith
limit-enough v (first ∷ parts) i all few below = omega (arith, below, all.0.0)

not_some : {X : Type 0} (o : Option X) → is_some o ≡ false → is_none o ≡ true
not_some None is = refl
not_some (Some x) is = cc

-- an index that isn't there is asked for
pub asks-gap : (v : Version) (parts : List TargetFragment) (i : ℕ) → AreAlike v parts → count_of v.image ≤ 22 → i < count_of v.image → is_some (collected_at parts i) ≡ false
    → bit_at (mask_of (gaps (places_of parts))) i ≡ 1
asks-gap v parts i all few below lacks = (gap_asked (places_of parts) i within).1 empty where
  limit : i < limit_of parts
  limit = limit-enough v parts i all few below

  within : i < length (places_of parts)
  within = let long : length (places_of parts) ≡ limit_of parts = long-range (collected_at parts) 0 (limit_of parts) in omega (arith, limit, long)

  empty : IsTrue (is_none (get_or (places_of parts) i None))
  empty = subst (λ (o : Option (ArrayVec ℕ)). is_none o ≡ true) (sym (at-range (collected_at parts) None 0 (limit_of parts) i limit ∙ ap (collected_at parts) (let e : 0 + i ≡ i = omega arith in e))) (not_some (collected_at parts i) lacks)

some-part : (parts : List TargetFragment) (i : ℕ) → Has parts i → parts ≡ [] → ⊥
some-part parts i has is = let none : Has [] i = subst (λ (ps : List TargetFragment). Has ps i) is has in let clash : false ≡ true = none in cc

limit-is : (v : Version) (parts : List TargetFragment) → AreAlike v parts → (parts ≡ [] → ⊥) → limit_of parts ≡ count_of v.image
limit-is v [] all some = absurd (some refl)
limit-is v (first ∷ parts) all some = all.0.0

-- what has every index is complete
pub complete-all : (v : Version) (hs : List Happening) → target_version v.handler hs ≡ v.version → AreTame v (heard_since v.handler hs) → 1 ≤ count_of v.image
    → ((i : ℕ) → i < count_of v.image → Has (target_parts v.handler hs) i) → complete_version v.handler hs ≡ v.version
complete-all v hs is all some each = by (list_all is_some (places_of parts)) whole_is where
  parts : List TargetFragment
  parts = target_parts v.handler hs

  limit : limit_of (target_parts v.handler hs) ≡ count_of v.image
  limit = limit-is v (target_parts v.handler hs) (parts-alike v hs is all) (some-part (target_parts v.handler hs) 0 (each 0 (omega arith)))

  whole_is : list_all is_some (places_of (target_parts v.handler hs)) ≡ true
  whole_is = all-range (collected_at (target_parts v.handler hs)) 0 (limit_of (target_parts v.handler hs)) (λ i low high. each i (omega (arith, high, limit)))

  by : (b : Bool) → list_all is_some (places_of (target_parts v.handler hs)) ≡ true → complete_version v.handler hs ≡ v.version
  by b full = rw full is

-- ---- nothing waits that is complete

older-complete : (h : ℕ) (p : Packet) (hs : List Happening) → is_newer h hs (version_in h p) ≡ false → part_in h (target_version h hs) p ≡ None → complete_version h (Hears p ∷ hs) ≡ complete_version h hs
older-complete h p hs older no_part =
    let target : target_version h (Hears p ∷ hs) ≡ target_version h hs = target_next h p hs ∙ cond_false (is_newer h hs (version_in h p)) _ _ older in
    let parts : target_parts h (Hears p ∷ hs) ≡ target_parts h hs = parts_same h p hs older ∙ ap (λ (o : Option TargetFragment). target_parts h hs ++ cons_option o []) no_part ∙ append-nil (target_parts h hs) in
    ap (λ (ps : List TargetFragment). if is_some (whole (places_of ps)) then target_version h (Hears p ∷ hs) else 0) parts ∙ ap (λ (t : ℕ). if is_some (whole (places_of (target_parts h hs))) then t else 0) target

newer-complete : (h : ℕ) (p : Packet) (hs : List Happening) → is_newer h hs (version_in h p) ≡ true → part_in h (version_in h p) p ≡ None → complete_version h (Hears p ∷ hs) ≡ 0
newer-complete h p hs newer no_part =
    let parts : target_parts h (Hears p ∷ hs) ≡ [] = parts_newer h p hs newer ∙ ap (λ (o : Option TargetFragment). cons_option o []) no_part in
    ap (λ (ps : List TargetFragment). if is_some (whole (places_of ps)) then target_version h (Hears p ∷ hs) else 0) parts

zero_not_newer : (h : ℕ) (hs : List Happening) → is_newer h hs 0 ≡ false
zero_not_newer h hs = by (ltb (held_version h hs) 0) refl where
  by : (b : Bool) → ltb (held_version h hs) 0 ≡ b → (b && ltb (target_version h hs) 0) ≡ false
  by false is = refl
  by true is = let low : held_version h hs < 0 = ltb-true _ _ is in absurd (omega (arith, low))

pub complete-stays : (h : ℕ) (p : Packet) (hs : List Happening) → completed_by p hs ≡ None → complete_version h hs ≡ 0 → complete_version h (Hears p ∷ hs) ≡ 0
complete-stays h (Vector versions) hs by_none is = elim (cases_Bool (is_newer h hs (version_in h (Vector versions)))) [
  | inl newer ↦ newer-complete h (Vector versions) hs newer refl
  | inr older ↦ older-complete h (Vector versions) hs older refl ∙ is
]
complete-stays h (Status g version missing) hs by_none is = older-complete h (Status g version missing) hs (zero_not_newer h hs) refl ∙ is
complete-stays h (App payload) hs by_none is = older-complete h (App payload) hs (zero_not_newer h hs) refl ∙ is
complete-stays h (Fragment g version index count large bytes) hs by_none is = elim (eqb_tells g.0 h) [ inl same ↦ own same.1 | inr other ↦ elsewhere other.0 ] where
  p : Packet
  p = Fragment g version index count large bytes

  own : g.0 ≡ h → complete_version h (Hears (Fragment g version index count large bytes) ∷ hs) ≡ 0
  own same = elim (cases_Bool (nat_lt (complete_version g.0 hs) (complete_version g.0 (Hears (Fragment g version index count large bytes) ∷ hs)))) [
    | inl more ↦ (let clash : Some g ≡ None = sym (rw more refl) ∙ by_none in cc)
    | inr not_more ↦ (
        let low : complete_version g.0 (Hears (Fragment g version index count large bytes) ∷ hs) ≤ complete_version g.0 hs = ltb-false _ _ not_more in
        let none : complete_version g.0 hs ≡ 0 = subst (λ (k : ℕ). complete_version k hs ≡ 0) (sym same) is in
        let gone : complete_version g.0 (Hears (Fragment g version index count large bytes) ∷ hs) ≡ 0 = omega (arith, low, none) in
        subst (λ (k : ℕ). complete_version k (Hears (Fragment g version index count large bytes) ∷ hs) ≡ 0) same gone)
  ]

  elsewhere : (g.0 == h) ≡ false → complete_version h (Hears (Fragment g version index count large bytes) ∷ hs) ≡ 0
  elsewhere other = older-complete h (Fragment g version index count large bytes) hs (rw other (zero_not_newer h hs)) (rw other refl) ∙ is

-- a fragment that completes another handler's program leaves this one's as it is
pub complete-other : (h : ℕ) (p : Packet) (hs : List Happening) (g : HandlerId) → completed_by p hs ≡ Some g → (g.0 ≡ h → ⊥) → complete_version h hs ≡ 0 → complete_version h (Hears p ∷ hs) ≡ 0
complete-other h (Fragment k version index count large bytes) hs g by_g other is = elim (eqb_tells k.0 h) [
  | inl same ↦ absurd (other (sym (own (nat_lt (complete_version k.0 hs) (complete_version k.0 (Hears (Fragment k version index count large bytes) ∷ hs))) by_g) ∙ same.1))
  | inr apart ↦ older-complete h (Fragment k version index count large bytes) hs (rw apart.0 (zero_not_newer h hs)) (rw apart.0 refl) ∙ is
] where
  own : (b : Bool) → (if b then Some k else None) ≡ Some g → k.0 ≡ g.0
  own true given = let same : k ≡ g = cc in ap (λ (x : HandlerId). x.0) same
  own false given = cc
complete-other h _ hs g by_g other is = cc
