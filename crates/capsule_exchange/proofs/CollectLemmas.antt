-- What the next packet does to a handler's target, and to the fragments that are collected of it.
use Rattle.std.proofs.Common.{◌≡◌, ℕ, ◌<◌, max, Bool, true, false, cond, eqb, ltb, ◌&&◌, List, [], ◌∷◌, ◌++◌, map, Option, Some, None, refl, ap, ◌∙◌, arith, inl, inr}
use Rattle.std.specs.Prelude.{is_none, ◌⊎◌}
use Rattle.std.specs.List.{filter, filter_map, find, cons_option}
use Rattle.std.specs.Option.{option_map, option_or}
use Rattle.std.proofs.lemmas.Bool.{cases_Bool, ltb-true, ltb-false, ne_eqb, and_parts}
use Rattle.std.proofs.lemmas.List.{map_push}
use Rattle.std.proofs.lemmas.List.Elements.{filter-append, filter_map-append}
use Rattle.std.proofs.lemmas.List.Folds.{find-append}
use Rattle.arrayvec.specs.ArrayVec.{ArrayVec}
use Rattle.packet_codec.specs.declared.packet.Packet.{Packet}
use Rattle.packet_codec.specs.declared.packet.Packet.TheVariants.{Fragment}
use Rattle.capsule_exchange.specs.declared.handler_state.Form.{Form}
use Rattle.capsule_exchange.specs.Happenings.{Happening, Hears, TargetFragment, held_version, heard_since, version_in, greatest, target_version, part_in, target_parts, is_alike, alike, collected_at}
use Rattle.capsule_exchange.specs.Knowledge.{collected_form}
use Rattle.capsule_exchange.specs.Steps.{takes}
use Rattle.capsule_exchange.proofs.TableLemmas.{greatest-append, greatest_step}

-- ---- the target

-- the version is over the held one and the target
abbrev pub is_newer : ℕ → List Happening → ℕ → Bool
is_newer h hs version = ltb (held_version h hs) version && ltb (target_version h hs) version

pub target_next : (h : ℕ) (p : Packet) (hs : List Happening) → target_version h (Hears p ∷ hs) ≡ cond (is_newer h hs (version_in h p)) (version_in h p) (target_version h hs)
target_next h p hs =
    let test = ltb (held_version h hs) in
    let told = map (version_in h) (heard_since h hs) in
    ap (λ (ns : List ℕ). greatest (filter test ns)) (map_push (version_in h) (heard_since h hs) p)
    ∙ ap greatest (filter-append test told (version_in h p ∷ []))
    ∙ greatest-append (filter test told) (filter test (version_in h p ∷ []))
    ∙ greatest_step (held_version h hs) (target_version h hs) (version_in h p)

-- there is no target, or it is over the held version
over_or_none : (limit : ℕ) (ns : List ℕ) → (greatest (filter (ltb limit) ns) ≡ 0) ⊎ (limit < greatest (filter (ltb limit) ns))
over_or_none limit [] = inl refl
over_or_none limit (n ∷ ns) =
    let rest = over_or_none limit ns in
    elim (cases_Bool (ltb limit n)) [
      | inl above ↦ (let over : limit < n = ltb-true limit n above in rw above (inr (omega arith)))
      | inr under ↦ rw under rest
    ]

pub target_over : (h : ℕ) (hs : List Happening) → (target_version h hs ≡ 0) ⊎ (held_version h hs < target_version h hs)
target_over h hs = over_or_none (held_version h hs) (map (version_in h) (heard_since h hs))

-- ---- the fragments of the target

-- a packet that tells of another version is no fragment of this one
no_part_by : (own : Bool) (told version : ℕ) (part : TargetFragment) → (cond own told 0 ≡ version → ⊥) → cond (own && eqb told version) (Some part) None ≡ None
no_part_by true told version part other = rw (ne_eqb told version other) refl
no_part_by false told version part other = refl

no_part : (h version : ℕ) (p : Packet) → (version_in h p ≡ version → ⊥) → part_in h version p ≡ None
no_part h version (Fragment g told index count large bytes) other = no_part_by (eqb g.0 h) told version _ other
no_part h version _ other = refl

-- of a version over all that was heard of no fragment was heard
below_all : (limit version n : ℕ) (ns : List ℕ) → limit < version → greatest (filter (ltb limit) (n ∷ ns)) < version → (n < version) × (greatest (filter (ltb limit) ns) < version)
below_all limit version n ns over most =
    elim (cases_Bool (ltb limit n)) [
      | inl above ↦ (let both : max n (greatest (filter (ltb limit) ns)) < version = rw above at most in (omega arith, omega arith))
      | inr under ↦ (let rest : greatest (filter (ltb limit) ns) < version = rw under at most in let low = ltb-false limit n under in (omega arith, rest))
    ]

none_of_newer : (h limit version : ℕ) (ps : List Packet) → limit < version → greatest (filter (ltb limit) (map (version_in h) ps)) < version → filter_map (part_in h version) ps ≡ []
none_of_newer h limit version [] over most = refl
none_of_newer h limit version (p ∷ ps) over most =
    let below = below_all limit version (version_in h p) (map (version_in h) ps) over most in
    let first = no_part h version p (λ same. let low = below.0 in omega arith) in
    rw first (none_of_newer h limit version ps over below.1)

abbrev part_next : ℕ → Packet → List Happening → Option TargetFragment
part_next h p hs = part_in h (target_version h (Hears p ∷ hs)) p

parts_push : (h version : ℕ) (ps : List Packet) (p : Packet) → filter_map (part_in h version) (ps ++ p ∷ []) ≡ filter_map (part_in h version) ps ++ cons_option (part_in h version p) []
parts_push h version ps p = filter_map-append (part_in h version) ps (p ∷ [])

-- a greater target drops what was collected
pub parts_newer : (h : ℕ) (p : Packet) (hs : List Happening) → is_newer h hs (version_in h p) ≡ true → target_parts h (Hears p ∷ hs) ≡ cons_option (part_in h (version_in h p) p) []
parts_newer h p hs newer =
    let version = version_in h p in
    let ps = heard_since h hs in
    let both = and_parts _ _ newer in
    let target : target_version h (Hears p ∷ hs) ≡ version = target_next h p hs ∙ rw newer refl in
    let none : filter_map (part_in h version) ps ≡ [] = none_of_newer h (held_version h hs) version ps (ltb-true _ _ both.0) (ltb-true _ _ both.1) in
    ap (λ (v : ℕ). filter_map (part_in h v) (ps ++ p ∷ [])) target ∙ parts_push h version ps p ∙ rw none refl

-- and else the fragment joins them
pub parts_same : (h : ℕ) (p : Packet) (hs : List Happening) → is_newer h hs (version_in h p) ≡ false → target_parts h (Hears p ∷ hs) ≡ target_parts h hs ++ cons_option (part_in h (target_version h hs) p) []
parts_same h p hs newer =
    let ps = heard_since h hs in
    let target : target_version h (Hears p ∷ hs) ≡ target_version h hs = target_next h p hs ∙ rw newer refl in
    ap (λ (v : ℕ). filter_map (part_in h v) (ps ++ p ∷ [])) target ∙ parts_push h (target_version h hs) ps p

-- ---- what is collected with one more fragment

abbrev pub form_in : TargetFragment → Form
form_in part = record { count = part.count; large = part.large }

abbrev bytes_of : TargetFragment → ArrayVec ℕ
bytes_of part = part.bytes

found_in_one : (i : ℕ) (b : Bool) (part : TargetFragment) → find (λ (q : TargetFragment). eqb q.index i) (cond b (part ∷ []) []) ≡ cond b (cond (eqb part.index i) (Some part) None) None
found_in_one i true part = refl
found_in_one i false part = refl

joins : (found : Option TargetFragment) (like same : Bool) (part : TargetFragment)
    → option_map bytes_of (option_or found (cond like (cond same (Some part) None) None)) ≡ cond (like && (same && is_none (option_map bytes_of found))) (Some part.bytes) (option_map bytes_of found)
joins (Some q) true true part = refl
joins (Some q) true false part = refl
joins (Some q) false same part = refl
joins None true true part = refl
joins None true false part = refl
joins None false same part = refl

-- the fragment is the first with its index that goes with the first of all
abbrev pub joins_parts : List TargetFragment → TargetFragment → ℕ → Bool
joins_parts parts part i = takes (form_in part) (collected_form parts) && (eqb part.index i && is_none (collected_at parts i))

pub collected_push : (parts : List TargetFragment) (part : TargetFragment) (i : ℕ) → collected_at (parts ++ part ∷ []) i ≡ cond (joins_parts parts part i) (Some part.bytes) (collected_at parts i)
collected_push [] part i = joins None true (eqb part.index i) part
collected_push (first ∷ rest) part i =
    let test = λ (q : TargetFragment). eqb q.index i in
    let like = is_alike first part in
    let all : alike (first ∷ (rest ++ part ∷ [])) ≡ (first ∷ filter (is_alike first) rest) ++ cond like (part ∷ []) [] =
    ap (λ (qs : List TargetFragment). first ∷ qs) (filter-append (is_alike first) rest (part ∷ [])) in
    ap (λ (qs : List TargetFragment). option_map bytes_of (find test qs)) all
    ∙ ap (option_map bytes_of) (find-append test (first ∷ filter (is_alike first) rest) (cond like (part ∷ []) []))
    ∙ ap (λ (o : Option TargetFragment). option_map bytes_of (option_or (find test (first ∷ filter (is_alike first) rest)) o)) (found_in_one i like part)
    ∙ joins (find test (first ∷ filter (is_alike first) rest)) like (eqb part.index i) part
