-- The state of a handler after one more happening is the step from the state before.
use Rattle.std.proofs.Common.{◌≡◌, ℕ, ◌+◌, ◌*◌, ◌/◌, ◌%◌, ◌<◌, ◌≤◌, Bool, true, false, cond, eqb, ltb, ◌&&◌, ◌||◌, List, [], ◌∷◌, ◌++◌, set, get_or, Option, Some, None, refl, sym, ap, ◌∙◌, arith, inl, inr, ℤ}
use Rattle.std.specs.Prelude.{is_none, ◌⊎◌}
use Rattle.std.specs.Bool.{beq}
use Rattle.std.specs.Cmp.{booleans_Decides}
use Rattle.std.specs.Int.{bit_at}
use Rattle.std.specs.List.{cons_option}
use Rattle.std.proofs.lemmas.Bool.{cases_Bool, cases_eq, eqb-true, eq-eqb, ne_eqb, and_parts, lt-ltb, le-ltb, and_left, and_right}
use Rattle.std.proofs.lemmas.List.{append-nil}
use Rattle.arrayvec.specs.ArrayVec.{ArrayVec}
use Rattle.mate_num.specs.declared.id.HandlerId.{HandlerId}
use Rattle.capsule_codec.specs.Fragments.{count_of}
use Rattle.packet_codec.specs.declared.packet.Packet.{Packet}
use Rattle.packet_codec.specs.declared.packet.Packet.TheVariants.{Vector, Status, Fragment, App}
use Rattle.capsule_exchange.specs.declared.handler_state.Form.{Form}
use Rattle.capsule_exchange.specs.declared.handler_state.HandlerState.{HandlerState}
use Rattle.capsule_exchange.specs.Table.{table}
use Rattle.capsule_exchange.specs.Happenings.{Happening, Hears, Sends, Installs, Forgets, TargetFragment, held_version, held_image, version_in, target_version, part_in, target_parts, collected_at, is_marked}
use Rattle.capsule_exchange.specs.Knowledge.{collected_form, state_after}
use Rattle.capsule_exchange.specs.Steps.{no_state, aimed, takes, kept, keeps, hears_fragment, marked, hears_status, after_sending, forgets, installs}
use Rattle.capsule_exchange.proofs.TableLemmas.{same_table, set_table, table_at}
use Rattle.capsule_exchange.proofs.CollectLemmas.{is_newer, target_next, target_over, parts_newer, parts_same, form_in, collected_push}

abbrev pieces_in : List TargetFragment → List (Option (ArrayVec ℕ))
pieces_in parts = table (collected_at parts)

-- ---- one more fragment of the target

abbrev joins_at : List TargetFragment → TargetFragment → Bool
joins_at parts part = takes (form_in part) (collected_form parts) && is_none (collected_at parts part.index)

pieces_push : (parts : List TargetFragment) (part : TargetFragment) → part.index < 22 → pieces_in (parts ++ part ∷ []) ≡ cond (joins_at parts part) (set (pieces_in parts) part.index (Some part.bytes)) (pieces_in parts)
pieces_push parts part within =
    let before = collected_at parts in
    let after = collected_at (parts ++ part ∷ []) in
    let here : eqb part.index part.index ≡ true = eq-eqb _ _ refl in
    let other = λ (k : ℕ) (differs : k ≡ part.index → ⊥).
    (let off : eqb part.index k ≡ false = ne_eqb _ _ (λ same. differs (sym same)) in
    let e : before k ≡ after k = sym (collected_push parts part k ∙ rw off (let t = takes (form_in part) (collected_form parts) in stays t (Some part.bytes) (before k))) in e) in
    elim (cases_Bool (joins_at parts part)) [
      | inl taken ↦ (
          let value : after part.index ≡ Some part.bytes = collected_push parts part part.index ∙ rw (here, taken) refl in
          let table : set (pieces_in parts) part.index (after part.index) ≡ pieces_in (parts ++ part ∷ []) = set_table before after part.index within (λ k below. other k) in
          rw taken (sym table ∙ ap (set (pieces_in parts) part.index) value))
      | inr left ↦ rw left (same_table after before (λ k below.
          elim (cases_eq k part.index) [
            | inl same ↦ (let at : after part.index ≡ before part.index = collected_push parts part part.index ∙ rw (here, left) refl in cc)
            | inr differs ↦ sym (other k differs)
          ]))
    ]
  where
    stays : (t : Bool) (x y : Option (ArrayVec ℕ)) → cond (t && (false && is_none y)) x y ≡ y
    stays true x y = refl
    stays false x y = refl

same_forms : (c d : ℕ) (a b : Bool) → (eqb c d && beq a b) ≡ true → ◌≡◌ {A = Option Form} (Some (record { count = d; large = b })) (Some (record { count = c; large = a }))
same_forms c d a b same =
    let both = and_parts _ _ same in
    let counts = eqb-true c d both.0 in
    let kinds = (booleans_Decides a b).0 both.1 in
    cc

form_push : (parts : List TargetFragment) (part : TargetFragment) → collected_form (parts ++ part ∷ []) ≡ cond (joins_at parts part) (Some (form_in part)) (collected_form parts)
form_push [] part = refl
form_push (first ∷ rest) part =
    elim (cases_Bool (joins_at (first ∷ rest) part)) [
      | inl taken ↦ (let like = and_parts _ _ taken in rw taken (same_forms part.count first.count part.large first.large like.0))
      | inr left ↦ rw left refl
    ]

-- the state with these fragments of this target
abbrev collecting : HandlerState → ℕ → List TargetFragment → HandlerState
collecting s target parts = record s { target = target; form = collected_form parts; pieces = pieces_in parts }

chosen : (b : Bool) (s : HandlerState) (f g : Option Form) (x y : List (Option (ArrayVec ℕ)))
    → cond b (record s { form = f; pieces = x }) (record s { form = g; pieces = y }) ≡ record s { form = cond b f g; pieces = cond b x y }
chosen true s f g x y = refl
chosen false s f g x y = refl

kept_is : (s : HandlerState) (target : ℕ) (parts : List TargetFragment) (part : TargetFragment) → part.index < 22
    → kept part.index (form_in part) part.bytes (collecting s target parts) ≡ collecting s target (parts ++ part ∷ [])
kept_is s target parts part within =
    let before = collecting s target parts in
    let read : get_or (pieces_in parts) part.index None ≡ collected_at parts part.index = table_at (collected_at parts) part.index None within in
    let taken = joins_at parts part in
    ap (λ (place : Option (ArrayVec ℕ)). cond (takes (form_in part) (collected_form parts) && is_none place) (record before { form = Some (form_in part); pieces = set (pieces_in parts) part.index (Some part.bytes) }) before) read
    ∙ chosen taken before (Some (form_in part)) (collected_form parts) (set (pieces_in parts) part.index (Some part.bytes)) (pieces_in parts)
    ∙ ap (λ (f : Option Form). record before { form = f; pieces = cond taken (set (pieces_in parts) part.index (Some part.bytes)) (pieces_in parts) }) (sym (form_push parts part))
    ∙ ap (λ (ps : List (Option (ArrayVec ℕ))). record before { form = collected_form (parts ++ part ∷ []); pieces = ps }) (sym (pieces_push parts part within))

-- ---- a version is heard of

abbrev parts_before : ℕ → List Happening → Bool → List TargetFragment
parts_before h hs newer = cond newer [] (target_parts h hs)

parts_next : (h : ℕ) (p : Packet) (hs : List Happening)
    → target_parts h (Hears p ∷ hs) ≡ parts_before h hs (is_newer h hs (version_in h p)) ++ cons_option (part_in h (cond (is_newer h hs (version_in h p)) (version_in h p) (target_version h hs)) p) []
parts_next h p hs =
    elim (cases_Bool (is_newer h hs (version_in h p))) [
      | inl newer ↦ rw newer (parts_newer h p hs newer)
      | inr older ↦ rw older (parts_same h p hs older)
    ]

aimed_is : (h : ℕ) (hs : List Happening) (version : ℕ)
    → aimed version (state_after hs h) ≡ collecting (state_after hs h) (cond (is_newer h hs version) version (target_version h hs)) (parts_before h hs (is_newer h hs version))
aimed_is h hs version = choose (is_newer h hs version)
  where
    s : HandlerState
    s = state_after hs h

    choose : (b : Bool) → cond b (record s { target = version; form = None; pieces = table (λ (_ : ℕ). None) }) s ≡ collecting s (cond b version s.target) (parts_before h hs b)
    choose true = refl
    choose false = refl

-- no version is told
not_newer : (h : ℕ) (hs : List Happening) → is_newer h hs 0 ≡ false
not_newer h hs = and_left _ _ (le-ltb (held_version h hs) 0 (omega arith))

-- the state after a packet that marks nothing and is no fragment of the handler
without_part : (h : ℕ) (p : Packet) (hs : List Happening) → ((target : ℕ) → part_in h target p ≡ None)
    → collecting (state_after hs h) (target_version h (Hears p ∷ hs)) (target_parts h (Hears p ∷ hs)) ≡ aimed (version_in h p) (state_after hs h)
without_part h p hs none =
    let version = version_in h p in
    let newer = is_newer h hs version in
    let parts : target_parts h (Hears p ∷ hs) ≡ parts_before h hs newer =
    parts_next h p hs ∙ ap (λ (o : Option TargetFragment). parts_before h hs newer ++ cons_option o []) (none (cond newer version (target_version h hs))) ∙ append-nil (parts_before h hs newer) in
    ap (λ (t : ℕ). collecting (state_after hs h) t (target_parts h (Hears p ∷ hs))) (target_next h p hs)
    ∙ ap (collecting (state_after hs h) (cond newer version (target_version h hs))) parts
    ∙ sym (aimed_is h hs version)

-- no version over the held one is told: the target and the fragments are as before
unaimed : (h : ℕ) (p : Packet) (hs : List Happening) → ((target : ℕ) → part_in h target p ≡ None) → version_in h p ≡ 0
    → collecting (state_after hs h) (target_version h (Hears p ∷ hs)) (target_parts h (Hears p ∷ hs)) ≡ state_after hs h
unaimed h p hs none told =
    let old = not_newer h hs in
    without_part h p hs none ∙ ap (λ (v : ℕ). aimed v (state_after hs h)) told ∙ rw old refl

-- ---- packets

pub vector_state : (h : ℕ) (versions : ArrayVec ℕ) (hs : List Happening) → state_after (Hears (Vector versions) ∷ hs) h ≡ aimed (version_in h (Vector versions)) (state_after hs h)
vector_state h versions hs = without_part h (Vector versions) hs (λ _. refl)

pub app_state : (h : ℕ) (payload : ArrayVec ℤ) (hs : List Happening) → state_after (Hears (App payload) ∷ hs) h ≡ state_after hs h
app_state h payload hs = unaimed h (App payload) hs (λ _. refl) refl

-- a Status of another handler, or a fragment
pub status_other : (h : ℕ) (g : HandlerId) (version missing : ℕ) (hs : List Happening) → (g.0 ≡ h → ⊥) → state_after (Hears (Status g version missing) ∷ hs) h ≡ state_after hs h
status_other h g version missing hs other =
    let off : eqb g.0 h ≡ false = ne_eqb _ _ other in
    let same = unaimed h (Status g version missing) hs (λ _. refl) refl in
    let marks : table (λ (i : ℕ). is_marked h i (Hears (Status g version missing) ∷ hs)) ≡ table (λ (i : ℕ). is_marked h i hs) = same_table (λ (i : ℕ). is_marked h i (Hears (Status g version missing) ∷ hs)) (λ (i : ℕ). is_marked h i hs) (λ k below. rw off refl) in
    ap (λ (ms : List Bool). record (collecting (state_after hs h) (target_version h (Hears (Status g version missing) ∷ hs)) (target_parts h (Hears (Status g version missing) ∷ hs))) { marks = ms }) marks ∙ same

pub fragment_other : (h : ℕ) (g : HandlerId) (version index count : ℕ) (large : Bool) (bytes : ArrayVec ℕ) (hs : List Happening) → (g.0 ≡ h → ⊥)
    → state_after (Hears (Fragment g version index count large bytes) ∷ hs) h ≡ state_after hs h
fragment_other h g version index count large bytes hs other =
    let off : eqb g.0 h ≡ false = ne_eqb _ _ other in
    unaimed h (Fragment g version index count large bytes) hs (λ target. rw off refl) (rw off refl)

-- a Status of the handler
pub status_state : (g : HandlerId) (version missing : ℕ) (hs : List Happening) → state_after (Hears (Status g version missing) ∷ hs) g.0 ≡ hears_status version missing (state_after hs g.0)
status_state g version missing hs =
    let h = g.0 in
    let p = Status g version missing in
    let s = state_after hs h in
    let own : eqb g.0 g.0 ≡ true = eq-eqb _ _ refl in
    let same = unaimed h p hs (λ _. refl) refl in
    let with_marks = λ (ms : List Bool). record (collecting s (target_version h (Hears p ∷ hs)) (target_parts h (Hears p ∷ hs))) { marks = ms } in
    let asked = λ (i : ℕ). ltb i (count_of (held_image h hs)) && eqb (bit_at missing i) 1 in
    elim (cases_Bool (eqb version (held_version h hs))) [
      | inl held ↦ (
          let marks : table (λ (i : ℕ). is_marked h i (Hears p ∷ hs)) ≡ marked (count_of (held_image h hs)) missing s.marks =
          same_table (λ (i : ℕ). is_marked h i (Hears p ∷ hs)) (λ (i : ℕ). asked i || get_or s.marks i false) (λ k below. rw (own, held) (ap (λ (m : Bool). asked k || m) (sym (table_at (λ (i : ℕ). is_marked h i hs) k false below)))) in
          ap with_marks marks ∙ ap (λ (t : HandlerState). record t { marks = marked (count_of (held_image h hs)) missing s.marks }) same ∙ rw held refl)
      | inr other ↦ (
          let marks : table (λ (i : ℕ). is_marked h i (Hears p ∷ hs)) ≡ s.marks = same_table (λ (i : ℕ). is_marked h i (Hears p ∷ hs)) (λ (i : ℕ). is_marked h i hs) (λ k below. rw (own, other) refl) in
          ap with_marks marks ∙ same ∙ rw other refl)
    ]

-- a fragment of this version, once the version was heard of
joined : (h version : ℕ) (part : TargetFragment) (hs : List Happening) → 1 ≤ version → part.index < 22 → (newer : Bool) → is_newer h hs version ≡ newer
    → collecting (state_after hs h) (cond newer version (target_version h hs)) (parts_before h hs newer ++ cons_option (cond (eqb version (cond newer version (target_version h hs))) (Some part) None) [])
    ≡ keeps version part.index (form_in part) part.bytes (collecting (state_after hs h) (cond newer version (target_version h hs)) (parts_before h hs newer))
joined h version part hs some within true is =
    let held : ltb (held_version h hs) version ≡ true = (and_parts _ _ is).0 in
    let own : eqb version version ≡ true = eq-eqb _ _ refl in
    rw (own, held) (sym (kept_is (state_after hs h) version [] part within))
joined h version part hs some within false is = joined_same (cases_Bool (eqb version (target_version h hs)))
  where
    s : HandlerState
    s = state_after hs h

    over : version ≡ target_version h hs → held_version h hs < version
    over same = elim (target_over h hs) [ inl none ↦ absurd (omega arith) | inr high ↦ omega arith ]

    joined_same : (eqb version (target_version h hs) ≡ true) ⊎ (eqb version (target_version h hs) ≡ false)
        → collecting (state_after hs h) (target_version h hs) (target_parts h hs ++ cons_option (cond (eqb version (target_version h hs)) (Some part) None) [])
        ≡ keeps version part.index (form_in part) part.bytes (collecting (state_after hs h) (target_version h hs) (target_parts h hs))
    joined_same (inl same) =
        let held : ltb (held_version h hs) version ≡ true = lt-ltb _ _ (over (eqb-true _ _ same)) in
        rw (same, held) (sym (kept_is (state_after hs h) (target_version h hs) (target_parts h hs) part within))
    joined_same (inr other) =
        let off : (ltb (held_version h hs) version && eqb version (target_version h hs)) ≡ false = and_right (ltb (held_version h hs) version) (eqb version (target_version h hs)) other in
        rw (off, other) (ap (collecting (state_after hs h) (target_version h hs)) (append-nil (target_parts h hs)))

-- a fragment of the handler
pub fragment_state : (g : HandlerId) (version index count : ℕ) (large : Bool) (bytes : ArrayVec ℕ) (hs : List Happening) → 1 ≤ version → index < 22
    → state_after (Hears (Fragment g version index count large bytes) ∷ hs) g.0 ≡ hears_fragment version index (record { count = count; large = large }) bytes (state_after hs g.0)
fragment_state g version index count large bytes hs some within =
    let h = g.0 in
    let p = Fragment g version index count large bytes in
    let s = state_after hs h in
    let part : TargetFragment = record { index = index; count = count; large = large; bytes = bytes } in
    let own : eqb g.0 g.0 ≡ true = eq-eqb _ _ refl in
    let told : version_in h p ≡ version = rw own refl in
    let newer = is_newer h hs version in
    let target = cond newer version (target_version h hs) in
    let next : state_after (Hears p ∷ hs) h ≡ collecting s target (parts_before h hs newer ++ cons_option (part_in h target p) []) =
    ap (λ (t : ℕ). collecting s t (target_parts h (Hears p ∷ hs))) (target_next h p hs ∙ ap (λ (v : ℕ). cond (is_newer h hs v) v (target_version h hs)) told)
    ∙ ap (collecting s target) (parts_next h p hs ∙ ap (λ (v : ℕ). parts_before h hs (is_newer h hs v) ++ cons_option (part_in h (cond (is_newer h hs v) v (target_version h hs)) p) []) told) in
    next
    ∙ ap (λ (o : Option TargetFragment). collecting s target (parts_before h hs newer ++ cons_option o [])) (ap (λ (b : Bool). cond (b && eqb version target) (Some part) None) own)
    ∙ joined h version part hs some within newer refl
    ∙ ap (keeps version index (form_in part) bytes) (sym (aimed_is h hs version))

-- ---- what the node does

pub nothing_state : (h : ℕ) → state_after [] h ≡ no_state
nothing_state h = refl

pub forgets_state : (h : ℕ) (hs : List Happening) → state_after (Forgets ∷ hs) h ≡ forgets (state_after hs h)
forgets_state h hs = refl

pub installs_state : (h version : ℕ) (image : ArrayVec ℕ) (hs : List Happening) → state_after (Installs h version image.items ∷ hs) h ≡ installs version image (state_after hs h)
installs_state h version image hs =
    let own : eqb h h ≡ true = eq-eqb _ _ refl in
    rw own (refl {a = installs version image (state_after hs h)})

pub installs_other : (h g version : ℕ) (image : List ℕ) (hs : List Happening) → (g ≡ h → ⊥) → state_after (Installs g version image ∷ hs) h ≡ state_after hs h
installs_other h g version image hs other =
    let off : eqb g h ≡ false = ne_eqb _ _ other in
    rw off (refl {a = state_after hs h})

-- a slot is that of its handler and index alone
pub sends_state : (slot : ℕ) (hs : List Happening) → state_after (Sends slot ∷ hs) (slot / 22) ≡ after_sending (slot % 22) (state_after hs (slot / 22))
sends_state slot hs =
    let h = slot / 22 in
    let before = λ (i : ℕ). is_marked h i hs in
    let after = λ (i : ℕ). is_marked h i (Sends slot ∷ hs) in
    let within : slot % 22 < 22 = omega arith in
    let here : after (slot % 22) ≡ false =
    let own : eqb slot (22 * h + slot % 22) ≡ true = eq-eqb _ _ (omega arith) in rw own refl in
    let others = λ (k : ℕ) (differs : k ≡ slot % 22 → ⊥).
    (let off : eqb slot (22 * h + k) ≡ false = ne_eqb _ _ (λ same. differs (omega arith)) in
    let e : before k ≡ after k = rw off refl in e) in
    let marks : table after ≡ set (table before) (slot % 22) false =
    sym (set_table before after (slot % 22) within (λ k below. others k)) ∙ ap (set (table before) (slot % 22)) here in
    ap (λ (ms : List Bool). record (state_after hs h) { marks = ms }) marks

pub sends_other : (h slot : ℕ) (hs : List Happening) → (h ≡ slot / 22 → ⊥) → state_after (Sends slot ∷ hs) h ≡ state_after hs h
sends_other h slot hs other =
    let marks : table (λ (i : ℕ). is_marked h i (Sends slot ∷ hs)) ≡ table (λ (i : ℕ). is_marked h i hs) =
    same_table (λ (i : ℕ). is_marked h i (Sends slot ∷ hs)) (λ (i : ℕ). is_marked h i hs) (λ k below.
    let off : eqb slot (22 * h + k) ≡ false = ne_eqb _ _ (λ same. other (omega arith)) in rw off refl) in
    ap (λ (ms : List Bool). record (state_after hs h) { marks = ms }) marks
