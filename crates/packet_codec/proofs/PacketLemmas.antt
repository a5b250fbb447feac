-- A packet's bytes are read as this packet, and what is read as a packet is its bytes.
use Rattle.std.proofs.Common.{◌≡◌, ℕ, zero, suc, ◌+◌, ◌*◌, ◌^◌, ◌<◌, ◌≤◌, Bool, true, false, not, cond, eqb, ltb, leb, ◌&&◌, ◌||◌, ◌⊎◌, inl, inr, List, [], ◌∷◌, ◌++◌, length, take, ℤ, Result, Ok, Err, refl, sym, ap, subst, ◌∙◌, arith}
use Rattle.std.specs.Prelude.{IfOk}
use Rattle.std.specs.Int.{w16, w32, to_be_bytes, from_be_bytes, is_in_range}
use Rattle.std.proofs.lemmas.Bool.{and_parts, and_from, eqb-true, eqb-false, ltb-true, leb-true, eq-eqb, ne_eqb, lt-ltb, le-leb, not_from_true, not_from_false, not-true, cond-false}
use Rattle.std.proofs.lemmas.Bool.Decides.{nat_tests}
use Rattle.std.proofs.lemmas.Nat.{be_bytes_4, from_be_bytes-to_be_bytes_4}
use Rattle.arrayvec.specs.ArrayVec.{ArrayVec}
use Rattle.mate_num.specs.declared.id.HandlerId.{HandlerId}
use Rattle.vm_shape.specs.Bounds.{HasBounds}
use Rattle.vm_shape.specs.declared.description.Description.{Description}
use Rattle.vm_shape.proofs.DescriptionLemmas.{bounds_of}
use Rattle.capsule_codec.specs.Image.{IsBytes}
use Rattle.capsule_codec.proofs.ImageLemmas.{IsBytes-drop, part_fits}
use Rattle.packet_codec.specs.declared.decoding.PacketFault.{PacketFault}
use Rattle.packet_codec.specs.declared.packet.Packet.{Packet}
use Rattle.packet_codec.specs.declared.packet.Packet.TheVariants.{Vector, Status, Fragment, App}
use Rattle.packet_codec.specs.Packet.{full_len, IsRightPacket, IsRightStatus, IsRightFragment, HasPacketRanges, HasStatusRanges, HasFragmentRanges}
use Rattle.packet_codec.specs.Bytes.{first_byte_of, body_of, packet_bytes, version_bytes, value_bytes}
use Rattle.packet_codec.specs.Reading.{u32_of, versions_in, values_in, vector_in, app_in, is_status, status_read, is_fragment, fragment_read, body_in, packet_in}
use Rattle.packet_codec.proofs.ItemLemmas.{length-version_bytes, versions_in-version_bytes, AreVersions, versions_are, length-value_bytes, values_in-value_bytes, AreValues, values_are}

-- ---- what was written is read

vector_again : (handlers : ℕ) (versions : List ℕ) → length versions ≡ handlers → HasPacketRanges (Vector (record { items = versions }))
    → vector_in handlers (length versions ∷ version_bytes versions) ≡ Ok (Vector (record { items = versions }))
vector_again handlers versions right ranges =
    let len : eqb (length (version_bytes versions)) (4 * length versions) ≡ true = eq-eqb _ _ (length-version_bytes versions) in
    let same : eqb (length versions) handlers ≡ true = eq-eqb _ _ right in
    cond-false _ _ _ (not_from_true _ len) ∙ cond-false _ _ _ (not_from_true _ same) ∙ rw (versions_in-version_bytes versions ranges.1) refl

app_again : (values : List ℤ) → length values ≤ 10 → HasPacketRanges (App (record { items = values }))
    → app_in (length values ∷ value_bytes values) ≡ Ok (App (record { items = values }))
app_again values right ranges =
    let len : eqb (length (value_bytes values)) (2 * length values) ≡ true = eq-eqb _ _ (length-value_bytes values) in
    let few : leb (length values) 10 ≡ true = le-leb _ _ right in
    cond-false _ _ _ (not_from_true _ len) ∙ cond-false _ _ _ (not_from_true _ few) ∙ rw (values_in-value_bytes values ranges.1) refl

is_status-right : (handlers handler version missing : ℕ) → IsRightStatus handlers handler version missing → is_status handlers handler version missing ≡ true
is_status-right handlers handler version missing right =
    let a = right.handler_high in
    let b = right.version_low in
    let c = right.missing_low in
    let d = right.missing_high in
    grind (arith, nat_tests)

status_again : (handlers handler version missing : ℕ) → IsRightStatus handlers handler version missing → HasStatusRanges handler version missing
    → status_read handlers ((handler ∷ []) ++ to_be_bytes w32 version ++ to_be_bytes w32 missing) ≡ Ok (Status (record { 0 = handler }) version missing)
status_again handlers handler version missing right ranges =
    let v = from_be_bytes-to_be_bytes_4 version ranges.version_fits in
    let m = from_be_bytes-to_be_bytes_4 missing ranges.missing_fits in
    let known = is_status-right handlers handler version missing right in
    rw (v, m, known) refl

is_fragment-right : (handlers handler version index count : ℕ) (large : Bool) (bytes : List ℕ) → IsRightFragment handlers handler version index count large bytes
    → is_fragment handlers handler version index count large (length bytes) ≡ true
is_fragment-right handlers handler version index count large bytes right =
    let a = right.handler_high in
    let b = right.version_low in
    let c = right.count_high in
    let d = right.index_high in
    let e = right.full in
    grind (arith, nat_tests)

fragment_again : (handlers handler version index count : ℕ) (large : Bool) (bytes : List ℕ) → IsRightFragment handlers handler version index count large bytes
    → HasFragmentRanges handler version index count bytes
    → fragment_read handlers large ((handler ∷ []) ++ to_be_bytes w32 version ++ (index ∷ count ∷ []) ++ bytes) ≡ Ok (Fragment (record { 0 = handler }) version index count large (record { items = bytes }))
fragment_again handlers handler version index count large bytes right ranges =
    let v = from_be_bytes-to_be_bytes_4 version ranges.version_fits in
    let len : is_in_range 1 (full_len large) (length bytes) ≡ true = and_from _ _ (le-leb _ _ right.bytes_low) (le-leb _ _ right.bytes_high) in
    let known = is_fragment-right handlers handler version index count large bytes right in
    cond-false _ _ _ (not_from_true _ len) ∙ rw (v, known) refl

body_again : (handlers : ℕ) (p : Packet) → IsRightPacket handlers p → HasPacketRanges p → body_in handlers (first_byte_of p) (body_of p) ≡ Ok p
body_again handlers (Vector versions) right ranges = vector_again handlers versions.items right ranges
body_again handlers (Status handler version missing) right ranges = status_again handlers handler.0 version missing right ranges
body_again handlers (Fragment handler version index count false bytes) right ranges = fragment_again handlers handler.0 version index count false bytes.items right ranges
body_again handlers (App payload) right ranges = app_again payload.items right ranges
body_again handlers (Fragment handler version index count true bytes) right ranges = fragment_again handlers handler.0 version index count true bytes.items right ranges

pub packet_again : (d : Description) (p : Packet) → IsRightPacket (length d.handlers.items) p → HasPacketRanges p → packet_in d (packet_bytes d.vm_id p) ≡ Ok p
packet_again d p right ranges =
    let bounds : HasBounds d = bounds_of d in
    let vm : from_be_bytes w32 (to_be_bytes w32 d.vm_id) ≡ d.vm_id = from_be_bytes-to_be_bytes_4 d.vm_id (omega (arith, bounds.vm_id)) in
    cond-false _ _ _ (not_from_true _ (eq-eqb _ _ vm)) ∙ body_again (length d.handlers.items) p right ranges

-- ---- what is read was written

-- a test that is passed
passes_not : (b : Bool) (fault : PacketFault) (rest : Result Packet PacketFault) (p : Packet) → cond (not b) (Err fault) rest ≡ Ok p → (b ≡ true) × (rest ≡ Ok p)
passes_not true fault rest p e = (refl, e)
passes_not false fault rest p e = absurd cc

-- a choice, by what was chosen
chosen : (G : Type 0) (b : Bool) (x y z : Result Packet PacketFault) → cond b x y ≡ z → (b ≡ true → x ≡ z → G) → (y ≡ z → G) → G
chosen G true x y z e first second = first refl e
chosen G false x y z e first second = second e

abbrev read : Packet → Result Packet PacketFault
read p = Ok p

same_read : (a b : Packet) → read a ≡ read b → a ≡ b
same_read a b e = cc

-- a kind and a body that are a packet's
record Means (handlers kind : ℕ) (body : List ℕ) (p : Packet) : Type 0 where
  kind_is : kind ≡ first_byte_of p
  body_is : body ≡ body_of p
  right : IsRightPacket handlers p
  ranges : HasPacketRanges p

vector_is : (handlers : ℕ) (body : List ℕ) (p : Packet) → IsBytes body → vector_in handlers body ≡ Ok p → Means handlers 1 body p
vector_is handlers [] p fits e = absurd cc
vector_is handlers (count ∷ bytes) p fits e =
    let len = passes_not _ _ _ p e in
    let same = passes_not _ _ _ p len.1 in
    let are : AreVersions count bytes (versions_in bytes) = versions_are count bytes (eqb-true _ _ len.0) (IsBytes-drop 1 (count ∷ bytes) fits) in
    let number = are.len in
    let handlers_are : count ≡ handlers = eqb-true _ _ same.0 in
    let made : Packet = Vector (record { items = versions_in bytes }) in
    let P : Packet → Type 0 = λ p. Means handlers 1 (count ∷ bytes) p in
    subst P (same_read made p same.1) (record {
      kind_is = refl;
      body_is = cc (number, are.back);
      right = number ∙ handlers_are;
      ranges = (rw number (fits 0), are.fit);
    })

app_is : (handlers : ℕ) (body : List ℕ) (p : Packet) → IsBytes body → app_in body ≡ Ok p → Means handlers 4 body p
app_is handlers [] p fits e = absurd cc
app_is handlers (count ∷ bytes) p fits e =
    let len = passes_not _ _ _ p e in
    let few = passes_not _ _ _ p len.1 in
    let are : AreValues count bytes (values_in bytes) = values_are count bytes (eqb-true _ _ len.0) (IsBytes-drop 1 (count ∷ bytes) fits) in
    let number = are.len in
    let high : count ≤ 10 = leb-true _ _ few.0 in
    let made : Packet = App (record { items = values_in bytes }) in
    let P : Packet → Type 0 = λ p. Means handlers 4 (count ∷ bytes) p in
    subst P (same_read made p few.1) (record {
      kind_is = refl;
      body_is = cc (number, are.back);
      right = rw number high;
      ranges = (rw number (fits 0), are.fit);
    })

status_right : (handlers handler version missing : ℕ) → is_status handlers handler version missing ≡ true → IsRightStatus handlers handler version missing
status_right handlers handler version missing known = record {
  handler_high = grind (arith, nat_tests, and_parts);
  version_low = grind (arith, nat_tests, and_parts);
  missing_low = grind (arith, nat_tests, and_parts);
  missing_high = grind (arith, nat_tests, and_parts);
}

status_is : (handlers : ℕ) (body : List ℕ) (p : Packet) → IsBytes body → status_read handlers body ≡ Ok p → Means handlers 2 body p
status_is handlers (handler ∷ v0 ∷ v1 ∷ v2 ∷ v3 ∷ m0 ∷ m1 ∷ m2 ∷ m3 ∷ []) p fits e =
    let body : List ℕ = handler ∷ v0 ∷ v1 ∷ v2 ∷ v3 ∷ m0 ∷ m1 ∷ m2 ∷ m3 ∷ [] in
    let known = passes_not _ _ _ p e in
    let version : to_be_bytes w32 (u32_of v0 v1 v2 v3) ≡ v0 ∷ v1 ∷ v2 ∷ v3 ∷ [] = be_bytes_4 (v0 ∷ v1 ∷ v2 ∷ v3 ∷ []) (u32_of v0 v1 v2 v3) refl (part_fits 1 4 body fits) refl in
    let missing : to_be_bytes w32 (u32_of m0 m1 m2 m3) ≡ m0 ∷ m1 ∷ m2 ∷ m3 ∷ [] = be_bytes_4 (m0 ∷ m1 ∷ m2 ∷ m3 ∷ []) (u32_of m0 m1 m2 m3) refl (part_fits 5 4 body fits) refl in
    let made : Packet = Status (record { 0 = handler }) (u32_of v0 v1 v2 v3) (u32_of m0 m1 m2 m3) in
    let P : Packet → Type 0 = λ p. Means handlers 2 body p in
    subst P (same_read made p known.1) (record {
      kind_is = refl;
      body_is = cc (version, missing);
      right = status_right handlers handler (u32_of v0 v1 v2 v3) (u32_of m0 m1 m2 m3) known.0;
      ranges = record {
        handler_fits = fits 0;
        version_fits = omega (arith, fits 1, fits 2, fits 3, fits 4);
        missing_fits = omega (arith, fits 5, fits 6, fits 7, fits 8);
      };
    })
status_is handlers _ p fits e = absurd cc

fragment_right : (handlers handler version index count : ℕ) (large : Bool) (bytes : List ℕ) → is_in_range 1 (full_len large) (length bytes) ≡ true
    → is_fragment handlers handler version index count large (length bytes) ≡ true → IsRightFragment handlers handler version index count large bytes
fragment_right handlers handler version index count large bytes sized known =
    let len = and_parts _ _ sized in
    let low : 1 ≤ length bytes = leb-true _ _ len.0 in
    let high : length bytes ≤ full_len large = leb-true _ _ len.1 in
    record {
      handler_high = grind (arith, nat_tests, and_parts);
      version_low = grind (arith, nat_tests, and_parts);
      count_high = grind (arith, nat_tests, and_parts);
      index_high = grind (arith, nat_tests, and_parts);
      bytes_low = low;
      bytes_high = high;
      full = λ more. grind (arith, nat_tests, and_parts);
    }

-- a fragment's kind
fragment_kind : (handler : HandlerId) (version index count : ℕ) (large : Bool) (bytes : ArrayVec ℕ) → cond large 5 3 ≡ first_byte_of (Fragment handler version index count large bytes)
fragment_kind handler version index count true bytes = refl
fragment_kind handler version index count false bytes = refl

fragment_is : (handlers : ℕ) (large : Bool) (body : List ℕ) (p : Packet) → IsBytes body → fragment_read handlers large body ≡ Ok p → Means handlers (cond large 5 3) body p
fragment_is handlers large (handler ∷ v0 ∷ v1 ∷ v2 ∷ v3 ∷ index ∷ count ∷ bytes) p fits e =
    let body : List ℕ = handler ∷ v0 ∷ v1 ∷ v2 ∷ v3 ∷ index ∷ count ∷ bytes in
    let sized = passes_not _ _ _ p e in
    let known = passes_not _ _ _ p sized.1 in
    let version : to_be_bytes w32 (u32_of v0 v1 v2 v3) ≡ v0 ∷ v1 ∷ v2 ∷ v3 ∷ [] = be_bytes_4 (v0 ∷ v1 ∷ v2 ∷ v3 ∷ []) (u32_of v0 v1 v2 v3) refl (part_fits 1 4 body fits) refl in
    let made : Packet = Fragment (record { 0 = handler }) (u32_of v0 v1 v2 v3) index count large (record { items = bytes }) in
    let P : Packet → Type 0 = λ p. Means handlers (cond large 5 3) body p in
    subst P (same_read made p known.1) (record {
      kind_is = fragment_kind (record { 0 = handler }) (u32_of v0 v1 v2 v3) index count large (record { items = bytes });
      body_is = cc version;
      right = fragment_right handlers handler (u32_of v0 v1 v2 v3) index count large bytes sized.0 known.0;
      ranges = record {
        handler_fits = fits 0;
        version_fits = omega (arith, fits 1, fits 2, fits 3, fits 4);
        index_fits = fits 5;
        count_fits = fits 6;
        bytes_fit = IsBytes-drop 7 body fits;
      };
    })
fragment_is handlers large _ p fits e = absurd cc

at_kind : (handlers kind other : ℕ) (body : List ℕ) (p : Packet) → eqb kind other ≡ true → Means handlers other body p → Means handlers kind body p
at_kind handlers kind other body p same h = record { kind_is = eqb-true kind other same ∙ h.kind_is; body_is = h.body_is; right = h.right; ranges = h.ranges }

body_means : (handlers kind : ℕ) (body : List ℕ) (p : Packet) → IsBytes body → body_in handlers kind body ≡ Ok p → Means handlers kind body p
body_means handlers kind body p fits e =
    let G : Type 0 = Means handlers kind body p in
    chosen G _ _ _ _ e (λ one h. at_kind handlers kind 1 body p one (vector_is handlers body p fits h))
    (λ e. chosen G _ _ _ _ e (λ two h. at_kind handlers kind 2 body p two (status_is handlers body p fits h))
    (λ e. chosen G _ _ _ _ e (λ three h. at_kind handlers kind 3 body p three (fragment_is handlers false body p fits h))
    (λ e. chosen G _ _ _ _ e (λ four h. at_kind handlers kind 4 body p four (app_is handlers body p fits h))
    (λ e. chosen G _ _ _ _ e (λ five h. at_kind handlers kind 5 body p five (fragment_is handlers true body p fits h))
    (λ e. absurd (cc e))))))

pub packet_is : (d : Description) (bytes : List ℕ) (p : Packet) → IsBytes bytes → packet_in d bytes ≡ Ok p
    → (bytes ≡ packet_bytes d.vm_id p) × IsRightPacket (length d.handlers.items) p × HasPacketRanges p
packet_is d (kind ∷ m0 ∷ m1 ∷ m2 ∷ m3 ∷ body) p fits e =
    let bytes : List ℕ = kind ∷ m0 ∷ m1 ∷ m2 ∷ m3 ∷ body in
    let vm = passes_not _ _ _ p e in
    let same : u32_of m0 m1 m2 m3 ≡ d.vm_id = eqb-true _ _ vm.0 in
    let h = body_means (length d.handlers.items) kind body p (IsBytes-drop 5 bytes fits) vm.1 in
    let cells : to_be_bytes w32 d.vm_id ≡ m0 ∷ m1 ∷ m2 ∷ m3 ∷ [] = be_bytes_4 (m0 ∷ m1 ∷ m2 ∷ m3 ∷ []) d.vm_id refl (part_fits 1 4 bytes fits) (sym same) in
    (cc (cells, h.kind_is, h.body_is), h.right, h.ranges)
packet_is d _ p fits e = absurd cc

-- ---- of a result

pub packet_found : (d : Description) (bytes : List ℕ) (r : Result Packet PacketFault) → IsBytes bytes → r ≡ packet_in d bytes
    → IfOk r (λ p. (bytes ≡ packet_bytes d.vm_id p) × IsRightPacket (length d.handlers.items) p)
packet_found d bytes (Ok p) fits e = let h = packet_is d bytes p fits (sym e) in (h.0, h.1)
packet_found d bytes (Err fault) fits e = tt

pub only_packet : (d : Description) (bytes : List ℕ) (r : Result Packet PacketFault) (p : Packet) → r ≡ packet_in d bytes
    → IsRightPacket (length d.handlers.items) p → HasPacketRanges p → bytes ≡ packet_bytes d.vm_id p → r ≡ Ok p
only_packet d bytes r p e right ranges same = e ∙ ap (packet_in d) same ∙ packet_again d p right ranges
