-- What a node that heard only fit packets sends is fit.
use Rattle.std.proofs.Common.{◌≡◌, ◌<◌, ◌≤◌, ℕ, zero, suc, ◌-◌, ◌*◌, ◌/◌, ◌%◌, ◌^◌, Bool, true, false, ◌&&◌, cond, List, [], ◌∷◌, map, length, refl, sym, ◌∙◌, ap, subst, arith, inl, inr}
use Rattle.std.specs.Prelude.{Option, Some, None, ◌==◌, if◌then◌else◌, All, IfSome, IsTrue, nat_lt, slice_index, slice_index_or}
use Rattle.std.specs.List.{filter, find, range_with_len}
use Rattle.std.specs.Option.{option_or}
use Rattle.std.proofs.lemmas.Bool.{cases_lt, ltb-true}
use Rattle.std.proofs.lemmas.List.Elements.{All-head, All-tail, All-map, recursion_from_All}
use Rattle.std.proofs.lemmas.List.FromFn.{length-map-range_with_len}
use Rattle.arrayvec.specs.ArrayVec.{ArrayVec}
use Rattle.vm_shape.proofs.DescriptionLemmas.{bounds_of}
use Rattle.capsule_codec.specs.Image.{IsBytes}
use Rattle.capsule_codec.specs.Fragments.{count_of, piece_len}
use Rattle.capsule_codec.proofs.ImageLemmas.{part_fits}
use Rattle.mate_journal.specs.Machine.{HeldProgram}
use Rattle.packet_codec.specs.declared.packet.Packet.{Packet}
use Rattle.packet_codec.specs.declared.packet.Packet.TheVariants.{Vector, Status, Fragment, App}
use Rattle.packet_codec.specs.Packet.{IsRightPacket}
use Rattle.capsule_exchange.specs.Happenings.{Happening, Hears, Sends, Installs, Forgets, held_version, held_image, held_versions, heard_since, version_in, greatest, target_version, TargetFragment, part_in, target_parts, complete_version, ask_for, asks_after, is_marked, is_marked_slot, last_sent, next_place, slots_from, next_slot, fragment_for}
use Rattle.capsule_exchange.specs.Knowledge.{Knowledge, collected_form, state_after, knowledge}
use Rattle.capsule_exchange.specs.Sound.{IsSoundState, AreSound}
use Rattle.capsule_exchange.specs.Steps.{aimed_each, asks_upto}
use Rattle.capsule_exchange.specs.Table.{table}
use Rattle.capsule_exchange.specs.declared.handler_state.Form.{Form}
use Rattle.capsule_exchange.proofs.TableLemmas.{table_at, table_past}
use Rattle.capsule_exchange.proofs.SlotLemmas.{found_in}
use Rattle.capsule_exchange.proofs.SoundLemmas.{fragment_right}
use Rattle.capsule_exchange.proofs.KnowledgeLemmas.{vector_learned}
use Rattle.capsule_exchange.proofs.AnswerLemmas.{vector_asks, asks_right}
use Rattle.world_rules.specs.World.{World, handlers}
use Rattle.world_rules.specs.State.{Moment}
use Rattle.mate_num.specs.Lists.{Each, Among}
use Rattle.mate_num.proofs.ListLemmas.{each-among, among-append}
use Rattle.world_laws.proofs.Points.{among-filter_map}
use Rattle.world_laws.specs.Versions.{InjectsAt, IsOneImage}
use Rattle.world_laws.proofs.Injected.{HoldsInjected, marked-within}
use Rattle.world_laws.proofs.Versions.{IsInjectedNode}
use Rattle.world_air.specs.Air.{IsFitPacket}
use Rattle.world_run_laws.proofs.Open.{open-node}

-- what the packets that tell of a program rest on
pub record IsFitProgram (w : World) (p : HeldProgram) : Type 0 where
  pub low : 1 ≤ p.version
  pub high : p.version < 2 ^ 32
  pub few : count_of p.image.items ≤ 22
  pub bytes : IsBytes p.image.items

abbrev pub AreProgramsFit : World → Type 0
AreProgramsFit w = (i : ℕ) (p : HeldProgram) → InjectsAt w i p → IsFitProgram w p

abbrev IsFitHeard : World → Happening → Type 0
IsFitHeard w (Hears packet) = IsFitPacket w packet
IsFitHeard w _ = Unit {0}

-- each packet that was heard is fit
abbrev pub AreFitHeard : World → List Happening → Type 0
AreFitHeard w = Each (IsFitHeard w)

-- what a node's packets rest on
pub record IsFitNode (w : World) (ms : List Moment) (hs : List Happening) : Type 0 where
  pub one : IsOneImage w
  pub programs : AreProgramsFit w
  pub injected : IsInjectedNode w ms hs
  pub none : (h : ℕ) → complete_version h hs ≡ 0
  pub heard : AreFitHeard w hs
  pub held : (h : ℕ) → held_version h hs < 2 ^ 32

abbrev pub EachFit : World → List Packet → Type 0
EachFit w ps = (p : Packet) → Among p ps → IsFitPacket w p

few-handlers : (w : World) → handlers w ≤ 8
few-handlers w = (bounds_of w.description).handlers_high

since-fit : (w : World) (h : ℕ) (hs : List Happening) → AreFitHeard w hs → EachFit w (heard_since h hs)
since-fit w h [] fit p a = absurd a
since-fit w h (Hears packet ∷ hs) fit p a = elim (among-append p (heard_since h hs) (packet ∷ []) a) [
  | inl old ↦ since-fit w h hs fit.1 p old
  | inr (inl e) ↦ subst (λ (x : Packet). IsFitPacket w x) e fit.0
  | inr (inr none) ↦ absurd none
]
since-fit w h (Sends slot ∷ hs) fit p a = since-fit w h hs fit.1 p a
since-fit w h (Installs g version image ∷ hs) fit p a = by (g == h) (since-fit w h hs fit.1 p) a where
  by : (b : Bool) → (Among p (heard_since h hs) → IsFitPacket w p) → Among p (if b then [] else heard_since h hs) → IsFitPacket w p
  by true since none = absurd none
  by false since old = since old
since-fit w h (Forgets ∷ hs) fit p a = absurd a

-- ---- versions

pub index-fits : (xs : List ℕ) (i : ℕ) → All (λ (v : ℕ). v < 2 ^ 32) xs → slice_index xs i < 2 ^ 32
index-fits [] i all = omega arith
index-fits (x ∷ xs) zero all = All-head (λ (v : ℕ). v < 2 ^ 32) x xs all
index-fits (x ∷ xs) (suc i) all = index-fits xs i (All-tail (λ (v : ℕ). v < 2 ^ 32) x xs all)

version-fits : (w : World) (h : ℕ) (p : Packet) → IsFitPacket w p → version_in h p < 2 ^ 32
version-fits w h (Vector versions) fit = index-fits versions.items h fit.ranges.1
version-fits w h (Status g version missing) fit = omega arith
version-fits w h (Fragment g version index count large bytes) fit = by (g.0 == h) where
  by : (b : Bool) → (if b then version else 0) < 2 ^ 32
  by true = fit.ranges.version_fits
  by false = omega arith
version-fits w h (App payload) fit = omega arith

greatest-fits : (w : World) (h limit : ℕ) (ps : List Packet) → EachFit w ps → greatest (filter (nat_lt limit) (map (version_in h) ps)) < 2 ^ 32
greatest-fits w h limit [] each = omega arith
greatest-fits w h limit (p ∷ ps) each = by (nat_lt limit (version_in h p)) (version-fits w h p (each p (inl refl))) (greatest-fits w h limit ps (λ q a. each q (inr a))) where
  by : (b : Bool) → version_in h p < 2 ^ 32 → greatest (filter (nat_lt limit) (map (version_in h) ps)) < 2 ^ 32
      → greatest (cond b (version_in h p ∷ filter (nat_lt limit) (map (version_in h) ps)) (filter (nat_lt limit) (map (version_in h) ps))) < 2 ^ 32
  by true first rest = omega (arith, rest, first)
  by false first rest = rest

target-fits : (w : World) (h : ℕ) (hs : List Happening) → AreFitHeard w hs → target_version h hs < 2 ^ 32
target-fits w h hs fit = greatest-fits w h (held_version h hs) (heard_since h hs) (since-fit w h hs fit)

pub vector-fit : (w : World) (ms : List Moment) (hs : List Happening) → IsFitNode w ms hs → IsFitPacket w (Vector (record { items = held_versions (handlers w) hs }))
vector-fit w ms hs node =
    let long : length (held_versions (handlers w) hs) ≡ handlers w = length-map-range_with_len (λ (h : ℕ). held_version h hs) 0 (handlers w) in
    let few : handlers w ≤ 8 = few-handlers w in
    let all : All (λ (v : ℕ). v < 2 ^ 32) (held_versions (handlers w) hs) = All-map (λ (v : ℕ). v < 2 ^ 32) (λ (h : ℕ). held_version h hs) (range_with_len 0 (handlers w)) (λ k d below. node.held (slice_index_or (range_with_len 0 (handlers w)) k d)) in
    record { right = long; ranges = (omega (arith, long, few), all) }

-- ---- requests

-- a fragment's count is within an image's
part-few : (w : World) (h target : ℕ) (p : Packet) (part : TargetFragment) → IsFitPacket w p → part_in h target p ≡ Some part → part.count ≤ 22
part-few w h target (Fragment g version index count large bytes) part fit is = by (g.0 == h && version == target) is where
  by : (b : Bool) → (if b then Some (record { index = index; count = count; large = large; bytes = bytes }) else None) ≡ Some part → part.count ≤ 22
  by false given = cc
  by true given =
      let same : record { index = index; count = count; large = large; bytes = bytes } ≡ part = cc in
      subst (λ (x : TargetFragment). x.count ≤ 22) same fit.right.count_high
part-few w h target _ part fit is = cc

form-few : (w : World) (h : ℕ) (hs : List Happening) → AreFitHeard w hs → IfSome (collected_form (target_parts h hs)) (λ (form : Form). form.count ≤ 22)
form-few w h hs fit = by (target_parts h hs) (λ part a. among-filter_map (part_in h (target_version h hs)) part (heard_since h hs) a) where
  by : (ps : List TargetFragment) → ((part : TargetFragment) → Among part ps → (p : Packet) × Among p (heard_since h hs) × (part_in h (target_version h hs) p ≡ Some part)) → IfSome (collected_form ps) (λ (form : Form). form.count ≤ 22)
  by [] from = tt
  by (part ∷ ps) from = let found = from part (inl refl) in part-few w h (target_version h hs) found.0 part (since-fit w h hs fit found.0 found.1) found.2

is-sound : (w : World) (ms : List Moment) (h : ℕ) (hs : List Happening) → AreProgramsFit w → IsInjectedNode w ms hs → AreFitHeard w hs → IsSoundState (state_after hs h)
is-sound w ms h hs programs injected heard = record {
  few = form-few w h hs heard;
  owed = λ i owes. owed i owes;
  numbered = λ some. numbered some (injected.holds h);
} where
  owed : (i : ℕ) → IsTrue (slice_index_or (table (λ (j : ℕ). is_marked h j hs)) i false) → i < count_of (held_image h hs)
  owed i owes = elim (cases_lt i 22) [
    | inl below ↦ ltb-true _ _ (marked-within h i hs (sym (table_at (λ (j : ℕ). is_marked h j hs) i false below) ∙ owes))
    | inr past ↦ (let clash : false ≡ true = sym (table_past (λ (j : ℕ). is_marked h j hs) i false past) ∙ owes in cc)
  ]

  numbered : 1 ≤ length (held_image h hs) → HoldsInjected w ms hs h → 1 ≤ held_version h hs
  numbered some (inl none) = let long : length (held_image h hs) ≡ 0 = ap length none.1 in absurd (omega (arith, some, long))
  numbered some (inr was) = let low : 1 ≤ was.program.version = (programs was.place was.program was.injects).low in omega (arith, low, was.version_is)

each-ask : (p : Packet) (hs : List Happening) (hds : List ℕ) → Among p (map (ask_for hs) hds) → (h : ℕ) × (ask_for hs h ≡ p)
each-ask p hs [] a = absurd a
each-ask p hs (h ∷ hds) (inl e) = (h, e)
each-ask p hs (h ∷ hds) (inr a) = each-ask p hs hds a

pub asks-fit : (w : World) (ms : List Moment) (versions : ArrayVec ℕ) (before : List Happening) → IsFitNode w ms before → IsInjectedNode w ms (Hears (Vector versions) ∷ before) → IsFitPacket w (Vector versions)
    → EachFit w (asks_after (handlers w) (Vector versions) before)
asks-fit w ms versions before node injected got p a = by (each-ask p hs (filter (λ h. nat_lt (held_version h before) (slice_index versions.items h)) (range_with_len 0 (handlers w))) a) where
  hs : List Happening
  hs = Hears (Vector versions) ∷ before

  old : Knowledge
  old = knowledge (handlers w) before

  new : Knowledge
  new = record (knowledge (handlers w) before) { handlers = aimed_each versions.items (knowledge (handlers w) before).handlers }

  sound : AreSound (aimed_each versions.items (knowledge (handlers w) before).handlers)
  sound = subst AreSound (sym (ap (λ (k : Knowledge). k.handlers) (vector_learned old new versions refl (handlers w) before refl)))
      (All-map IsSoundState (state_after (Hears (Vector versions) ∷ before)) (range_with_len 0 (handlers w))
      (λ k d below. is-sound w ms (slice_index_or (range_with_len 0 (handlers w)) k d) (Hears (Vector versions) ∷ before) node.programs injected (got, node.heard)))

  asks : List Packet
  asks = asks_upto versions.items (aimed_each versions.items (knowledge (handlers w) before).handlers) (length (aimed_each versions.items (knowledge (handlers w) before).handlers))

  rights : All (IsRightPacket (handlers w)) (asks_after (handlers w) (Vector versions) before)
  rights = subst (All (IsRightPacket (handlers w))) (vector_asks old new versions asks refl sound refl (handlers w) before refl)
      (asks_right old new versions asks refl sound refl (handlers w) before refl (λ h below. open-node w ms h before node.one (λ i q injects. (node.programs i q injects).low) node.injected (node.none h)))

  right : IsRightPacket (handlers w) p
  right = each-among (IsRightPacket (handlers w)) (asks_after (handlers w) (Vector versions) before) p (recursion_from_All _ _ rights) a

  by : (h : ℕ) × (ask_for (Hears (Vector versions) ∷ before) h ≡ p) → IsFitPacket w p
  by found = subst (λ (x : Packet). IsFitPacket w x) found.1 (fit (subst (λ (x : Packet). IsRightPacket (handlers w) x) (sym found.1) right)) where
    fit : IsRightPacket (handlers w) (ask_for (Hears (Vector versions) ∷ before) found.0) → IsFitPacket w (ask_for (Hears (Vector versions) ∷ before) found.0)
    fit is =
        let few : handlers w ≤ 8 = few-handlers w in
        record {
          right = is;
          ranges = record {
            handler_fits = (let high = is.handler_high in omega (arith, few, high));
            version_fits = target-fits w found.0 (Hears (Vector versions) ∷ before) (got, node.heard);
            missing_fits = (let high = is.missing_high in omega (arith, high));
          };
        }

-- ---- fragments

-- the next slot is one of those of the handlers, and marked
next-found : (n : ℕ) (hs : List Happening) (slot : ℕ) → next_slot n hs ≡ Some slot → (is_marked_slot hs slot ≡ true) × (slot < 22 * n)
next-found n hs slot is = by (find (is_marked_slot hs) (slots_from n (next_place (last_sent hs)))) refl is where
  from : (first : ℕ) → find (is_marked_slot hs) (slots_from n first) ≡ Some slot → (is_marked_slot hs slot ≡ true) × (slot < 22 * n)
  from first e = let found = found_in (is_marked_slot hs) first (22 * n - first) slot e in (found.passes, (let low = found.low in let high = found.high in omega (arith, low, high)))

  by : (o : Option ℕ) → find (is_marked_slot hs) (slots_from n (next_place (last_sent hs))) ≡ o → option_or o (find (is_marked_slot hs) (slots_from n 0)) ≡ Some slot → (is_marked_slot hs slot ≡ true) × (slot < 22 * n)
  by None none given = from 0 given
  by (Some k) some given = from (next_place (last_sent hs)) (some ∙ given)

pub owed-fit : (w : World) (ms : List Moment) (hs : List Happening) (slot : ℕ) → IsFitNode w ms hs → next_slot (handlers w) hs ≡ Some slot → IsFitPacket w (fragment_for hs slot)
owed-fit w ms hs slot node next = by (node.injected.holds (slot / 22)) where
  marked : is_marked_slot hs slot ≡ true
  marked = (next-found (handlers w) hs slot next).0

  high : slot < 22 * handlers w
  high = (next-found (handlers w) hs slot next).1

  within : slot % 22 < count_of (held_image (slot / 22) hs)
  within = ltb-true _ _ (marked-within (slot / 22) (slot % 22) hs marked)

  by : HoldsInjected w ms hs (slot / 22) → IsFitPacket w (fragment_for hs slot)
  by (inl none) = let no_fragment : slot % 22 < count_of [] = subst (λ (xs : List ℕ). slot % 22 < count_of xs) none.1 within in absurd (omega (arith, no_fragment))
  by (inr was) =
      let program = node.programs was.place was.program was.injects in
      let few : handlers w ≤ 8 = few-handlers w in
      let handler : slot / 22 < handlers w = omega (arith, high) in
      let low : 1 ≤ held_version (slot / 22) hs = (let l = program.low in omega (arith, l, was.version_is)) in
      let count : count_of (held_image (slot / 22) hs) ≤ 22 = subst (λ (xs : List ℕ). count_of xs ≤ 22) was.image_is program.few in
      let bytes : IsBytes (held_image (slot / 22) hs) = subst IsBytes was.image_is program.bytes in
      record {
        right = fragment_right (handlers w) (slot / 22) (held_version (slot / 22) hs) (held_image (slot / 22) hs) (slot % 22) handler low count within;
        ranges = record {
          handler_fits = omega (arith, handler, few);
          version_fits = node.held (slot / 22);
          index_fits = omega (arith, within, count);
          count_fits = omega (arith, count);
          bytes_fit = part_fits (slot % 22 * piece_len (length (held_image (slot / 22) hs))) (piece_len (length (held_image (slot / 22) hs))) (held_image (slot / 22) hs) bytes;
        };
      }
