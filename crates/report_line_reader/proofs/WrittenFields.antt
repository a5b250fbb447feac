-- The fields of a line are read as they are written.
use Rattle.std.proofs.Common.{◌≡◌, ℕ, zero, suc, ◌+◌, ◌*◌, ◌%◌, ◌^◌, ◌<◌, ◌≤◌, ◌==◌, nat_lt, nat_le, Bool, true, false, not, ◌&&◌, ◌||◌, cond, List, [], ◌∷◌, ◌++◌, length, map, Option, Some, None, Result, refl, sym, ap, subst, ◌∙◌, arith, inl, inr, append-nil, append_assoc}
use Rattle.std.specs.Option.{option_or, option_and_then, option_map}
use Rattle.std.specs.Prelude.{ℤ, All, FitsSigned}
use Rattle.std.specs.Int.{w16}
use Rattle.std.specs.List.{list_all, slice_get, position}
use Rattle.std.specs.Result.{result_unwrap_or}
use Rattle.std.specs.Fmt.{decimal, signed_decimal}
use Rattle.std.specs.Str.{bytes_eq}
use Rattle.std.proofs.lemmas.Bool.{cases_Bool, cond-true, cond-false, and_parts, and_from, lt-ltb, le-leb, eq-eqb, false≢true}
use Rattle.std.proofs.lemmas.Slice.Eq.{bytes_eq-Decides}
use Rattle.std.proofs.lemmas.List.Elements.{All-nil, All-cons, All-head, All-tail}
use Rattle.arrayvec.specs.ArrayVec.{ArrayVec}
use Rattle.hex.specs.Hex.{encode_lower, lower_digits, IsBytes}
use Rattle.hex.specs.declared.error.FromHexError.{FromHexError}
use Rattle.hex.proofs.HexLemmas.{length-encode_with, decode_of-encode_lower}
use Rattle.mate_num.specs.declared.call.FaultKind.{FaultKind}
use Rattle.mate_num.specs.declared.call.FaultKind.TheVariants as fault
use Rattle.mate_num.specs.declared.id.HandlerId.{HandlerId}
use Rattle.mate_num.specs.declared.id.FunId.{FunId}
use Rattle.mate_num.specs.declared.id.ContextId.{ContextId}
use Rattle.mate_num.specs.Shapes.{is_device}
use Rattle.vm_shape.specs.Limits.{is_handler, is_function, is_kind, function_args}
use Rattle.vm_shape.specs.Names.{is_name, between, stands_in, repeat_after, first_repeat}
use Rattle.vm_shape.specs.Whole.{context_count}
use Rattle.vm_shape.specs.declared.description.Description.{Description}
use Rattle.vm_shape.specs.declared.handler.Handler.{Handler}
use Rattle.vm_shape.specs.declared.function.Function.{Function}
use Rattle.vm_shape.proofs.DescriptionLemmas.{bounds_of, items_of}
use Rattle.mate_journal.specs.declared.entry.DropCause.{DropCause}
use Rattle.mate_journal.specs.declared.entry.DropCause.TheVariants as drop
use Rattle.report_writer.specs.Words.{drop_word, fault_word, handler_name, function_name, name_or_none}
use Rattle.report_line_reader.specs.Words.{reads}
use Rattle.report_line_reader.specs.Numbers.{value_of, values_after}
use Rattle.capsule_codec.specs.HexText.{bytes_of_digits}
use Rattle.report_line_reader.specs.Hex.{is_lower_digit, is_hex_word, hex_of}
use Rattle.report_line_reader.specs.Names as names
use Rattle.report_line_reader.proofs.FieldLemmas.{position-here, position-later}
use Rattle.report_line_reader.specs.Fields.{number_of, node_of, drop_of, fault_of, payload_of}
use Rattle.mate_journal.specs.Entries.{AreValues}
use Rattle.mate_journal.specs.Ranges.{IsByteList}
use Rattle.report_line_reader.proofs.NumberLemmas.{value_of-signed, below_of-decimal}
use Rattle.report_line_reader.proofs.WrittenWords.{is_written, name-written, lower-encode, written-encode, written-signed, IsValue-fits, bytes-list}

-- the next word is read
pub reads-next : {A B : Type 0} (tells : List ℕ → Option A) (go : A → List (List ℕ) → Option B) (w : List ℕ) (ws : List (List ℕ)) (a : A) → tells w ≡ Some a
    → reads tells go (w ∷ ws) ≡ go a ws
reads-next tells go w ws a h = ap (option_and_then (λ (x : _). go x ws)) h

-- ---- numbers

pub number_of-decimal : (n : ℕ) → n < 2 ^ 32 → number_of (decimal n) ≡ Some n
number_of-decimal n h = below_of-decimal (2 ^ 32) n h (omega arith)

pub node_of-decimal : (n : ℕ) → n < 64 → node_of (decimal n) ≡ Some n
node_of-decimal n h = below_of-decimal 64 n h (omega arith)

pub context_of-decimal : (d : Description) (c : ContextId) → c.0 < context_count d → names.context_of d (decimal c.0) ≡ Some c
context_of-decimal d c h =
    let high = (bounds_of d).contexts_high in
    ap (option_map (λ (n : ℕ). let x : ContextId = record { 0 = n } in x)) (below_of-decimal (context_count d) c.0 h (omega (arith, high)))

-- ---- names

-- the item at a place has this name, and the name is a word
pub record Named {A : Type 0} (name : A → List ℕ) (xs : List A) (i : ℕ) : Type 0 where
  pub word : List ℕ
  pub is : option_map name (slice_get xs i) ≡ Some word
  pub written : is_written word ≡ true

named-at : {A : Type 0} (name : A → List ℕ) (test : A → Bool) (imp : (x : A) → test x ≡ true → is_name (name x) ≡ true) (xs : List A) (i : ℕ)
    → list_all test xs ≡ true → i < length xs → Named name xs i
named-at name test imp [] i h p = absurd (omega arith)
named-at name test imp (x ∷ xs) zero h p =
    record { word = name x; is = refl; written = name-written (name x) (imp x (and_parts (test x) (list_all test xs) h).0) }
named-at name test imp (x ∷ xs) (suc i) h p =
    let more = named-at name test imp xs i (and_parts (test x) (list_all test xs) h).1 (omega (arith, p)) in
    record { word = more.word; is = more.is; written = more.written }

stands-last : (seen : List (List ℕ)) (w : List ℕ) → stands_in (seen ++ w ∷ []) w ≡ true
stands-last [] w = ap (λ (b : Bool). b || false) ((bytes_eq-Decides w w).1 refl)
stands-last (s ∷ seen) w = rw (stands-last seen w) (or-true (bytes_eq w s)) where
  or-true : (b : Bool) → (b || true) ≡ true
  or-true true = refl
  or-true false = refl

stands-front : (seen more : List (List ℕ)) (w : List ℕ) → stands_in seen w ≡ true → stands_in (seen ++ more) w ≡ true
stands-front [] more w h = absurd cc
stands-front (s ∷ seen) more w h =
    elim (cases_Bool (bytes_eq w s)) [
      | inl here ↦ ap (λ (b : Bool). b || stands_in (seen ++ more) w) here
      | inr other ↦
          let back : stands_in seen w ≡ true = sym (ap (λ (b : Bool). b || stands_in seen w) other) ∙ h in
          ap (λ (b : Bool). b || stands_in (seen ++ more) w) other ∙ stands-front seen more w back
    ]

-- a name that stood before is none of those that stand once
other_names : (seen ns : List (List ℕ)) (w : List ℕ) → repeat_after seen ns ≡ None → stands_in seen w ≡ true → All (λ (n : List ℕ). w ≡ n → ⊥) ns
other_names seen [] w h s = All-nil (λ (n : List ℕ). w ≡ n → ⊥)
other_names seen (n ∷ ns) w h s =
    elim (cases_Bool (stands_in seen n)) [
      | inl twice ↦ let e : Some n ≡ None = sym (cond-true (stands_in seen n) (Some n) (repeat_after (seen ++ n ∷ []) ns) twice) ∙ h in absurd cc
      | inr once ↦
          let more : repeat_after (seen ++ n ∷ []) ns ≡ None = sym (cond-false (stands_in seen n) (Some n) (repeat_after (seen ++ n ∷ []) ns) once) ∙ h in
          All-cons (λ (m : List ℕ). w ≡ m → ⊥) n ns
          (λ e. false≢true (sym once ∙ sym (ap (stands_in seen) e) ∙ s))
          (other_names (seen ++ n ∷ []) ns w more (stands-front seen (n ∷ []) w s))
    ]

name-among : {A : Type 0} (name : A → List ℕ) (P : List ℕ → Type 0) (xs : List A) (i : ℕ) (word : List ℕ) → All P (map name xs)
    → option_map name (slice_get xs i) ≡ Some word → P word
name-among name P [] i word all h = absurd cc
name-among name P (x ∷ xs) zero word all h = let e : name x ≡ word = cc h in subst P e (All-head P (name x) (map name xs) all)
name-among name P (x ∷ xs) (suc i) word all h = name-among name P xs i word (All-tail P (name x) (map name xs) all) h

-- each name is found at its place
position-named : {A : Type 0} (name : A → List ℕ) (xs : List A) (seen : List (List ℕ)) (i : ℕ) (word : List ℕ) → repeat_after seen (map name xs) ≡ None
    → option_map name (slice_get xs i) ≡ Some word → position (λ x. bytes_eq (name x) word) xs ≡ Some i
position-named name [] seen i word once h = absurd cc
position-named name (x ∷ xs) seen zero word once h =
    let e : name x ≡ word = cc h in
    position-here (λ y. bytes_eq (name y) word) x xs ((bytes_eq-Decides (name x) word).1 e)
position-named name (x ∷ xs) seen (suc i) word once h =
    let n = name x in
    elim (cases_Bool (stands_in seen n)) [
      | inl twice ↦ let e : Some n ≡ None = sym (cond-true (stands_in seen n) (Some n) (repeat_after (seen ++ n ∷ []) (map name xs)) twice) ∙ once in absurd cc
      | inr first_time ↦
          let more : repeat_after (seen ++ n ∷ []) (map name xs) ≡ None =
          sym (cond-false (stands_in seen n) (Some n) (repeat_after (seen ++ n ∷ []) (map name xs)) first_time) ∙ once in
          let others = other_names (seen ++ n ∷ []) (map name xs) n more (stands-last seen n) in
          let other : n ≡ word → ⊥ = name-among name (λ (m : List ℕ). n ≡ m → ⊥) xs i word others h in
          let ih : position (λ x. bytes_eq (name x) word) xs ≡ Some i = position-named name xs (seen ++ n ∷ []) i word more h in
          let at : i + 1 ≡ suc i = omega arith in
          elim (cases_Bool (bytes_eq n word)) [
            | inl same ↦ absurd (other ((bytes_eq-Decides n word).0 same))
            | inr differs ↦ position-later (λ y. bytes_eq (name y) word) x xs differs ∙ ap (option_map (λ (k : ℕ). k + 1)) ih ∙ ap Some at
          ]
    ]

none-first : (a b : Option (List ℕ)) → option_or a b ≡ None → (a ≡ None) × (b ≡ None)
none-first None b h = (refl, h)
none-first (Some n) b h = absurd cc

-- no handler's name stands twice, and no function's
record Once (d : Description) : Type 0 where
  handlers : repeat_after [] (map names.name_of_handler d.handlers.items) ≡ None
  functions : repeat_after [] (map names.name_of_function d.functions.items) ≡ None

once_each : (d : Description) → Once d
once_each d =
    let handlers : Option (List ℕ) = first_repeat (map names.name_of_handler d.handlers.items) in
    let functions : Option (List ℕ) = first_repeat (map names.name_of_function d.functions.items) in
    let devices : Option (List ℕ) = first_repeat d.devices.items in
    let variables : Option (List ℕ) = first_repeat (d.shared.items ++ d.buffers.items) in
    let a = none-first variables (option_or devices (option_or handlers functions)) (items_of d).distinct in
    let b = none-first devices (option_or handlers functions) a.1 in
    let c = none-first handlers functions b.1 in
    record { handlers = c.0; functions = c.1 }

handler-name : (h : Handler) → is_handler h ≡ true → is_name h.name ≡ true
handler-name h e = (and_parts (is_name h.name) (is_kind h.kind) (and_parts (is_name h.name && is_kind h.kind) (between 1 4 h.contexts) e).0).0

function-name : (devices : ℕ) (f : Function) → is_function devices f ≡ true → is_name f.name ≡ true
function-name devices f e =
    let a = and_parts ((is_name f.name && nat_le (function_args f.kind) 4) && is_device devices f.device) (between 1 60000 f.latency) e in
    let b = and_parts (is_name f.name && nat_le (function_args f.kind) 4) (is_device devices f.device) a.0 in
    (and_parts (is_name f.name) (nat_le (function_args f.kind) 4) b.0).0

pub record Reads {A : Type 0} (tells : List ℕ → Option A) (w : List ℕ) (a : A) : Type 0 where
  pub told : tells w ≡ Some a
  pub written : is_written w ≡ true

word-in : (o : Option (List ℕ)) (word : List ℕ) → o ≡ Some word → name_or_none o ≡ word
word-in o word h = ap name_or_none h

pub reads-handler : (d : Description) (h : HandlerId) → h.0 < length d.handlers.items → Reads (names.handler_of d) (handler_name d h) h
reads-handler d h below =
    let items = items_of d in
    let n : Named names.name_of_handler d.handlers.items h.0 =
    named-at names.name_of_handler is_handler (λ x e. handler-name x e) d.handlers.items h.0 items.each_handler below in
    let once = (once_each d).handlers in
    let word : handler_name d h ≡ n.word = word-in _ n.word n.is in
    let found : position (λ x. bytes_eq (names.name_of_handler x) n.word) d.handlers.items ≡ Some h.0 = position-named names.name_of_handler d.handlers.items [] h.0 n.word once n.is in
    record {
      told = ap (names.handler_of d) word ∙ ap (option_map (λ (k : ℕ). let x : HandlerId = record { 0 = k } in x)) found;
      written = ap is_written word ∙ n.written;
    }

pub reads-function : (d : Description) (f : FunId) → f.0 < length d.functions.items → Reads (names.function_of d) (function_name d f) f
reads-function d f below =
    let items = items_of d in
    let n : Named names.name_of_function d.functions.items f.0 =
    named-at names.name_of_function (is_function (length d.devices.items)) (λ x e. function-name (length d.devices.items) x e) d.functions.items f.0 items.each_function below in
    let once = (once_each d).functions in
    let word : function_name d f ≡ n.word = word-in _ n.word n.is in
    let found : position (λ x. bytes_eq (names.name_of_function x) n.word) d.functions.items ≡ Some f.0 = position-named names.name_of_function d.functions.items [] f.0 n.word once n.is in
    record {
      told = ap (names.function_of d) word ∙ ap (option_map (λ (k : ℕ). let x : FunId = record { 0 = k } in x)) found;
      written = ap is_written word ∙ n.written;
    }

-- ---- causes

pub reads-drop : (cause : DropCause) → Reads drop_of (drop_word cause) cause
unfolding drop_of
reads-drop drop.NoCode = record { told = refl; written = refl }
reads-drop drop.AllBusy = record { told = refl; written = refl }

pub reads-fault : (kind : FaultKind) → Reads fault_of (fault_word kind) kind
unfolding fault_of
reads-fault fault.DivZero = record { told = refl; written = refl }
reads-fault _ = record { told = refl; written = refl }

-- ---- bytes

hex-word : (bytes : List ℕ) → 0 < length bytes → IsBytes bytes → is_hex_word (encode_lower bytes) ≡ true
hex-word bytes some h =
    let n = length-encode_with lower_digits bytes in
    let even : length (encode_lower bytes) % 2 ≡ 0 = omega (arith, n) in
    let full : (length (encode_lower bytes) == 0) ≡ false = Rattle.std.proofs.lemmas.Bool.ne_eqb (length (encode_lower bytes)) 0 (λ e. absurd (omega (arith, n, e, some))) in
    and_from (not (length (encode_lower bytes) == 0) && length (encode_lower bytes) % 2 == 0) (list_all is_lower_digit (encode_lower bytes))
    (and_from (not (length (encode_lower bytes) == 0)) (length (encode_lower bytes) % 2 == 0) (ap not full) (eq-eqb (length (encode_lower bytes) % 2) 0 even))
    (lower-encode bytes h)

pub reads-bytes : (most : ℕ) (v : ArrayVec ℕ) → 0 < length v.items → length v.items ≤ most → IsByteList v.items → Reads (hex_of most) (encode_lower v.items) v
reads-bytes most v some fits list =
    let bytes = bytes-list v.items list in
    let w = encode_lower v.items in
    let n : length w ≡ 2 * length v.items = length-encode_with lower_digits v.items in
    let is : is_hex_word w ≡ true = hex-word v.items some bytes in
    let few : nat_le (length w) (2 * most) ≡ true = le-leb (length w) (2 * most) (omega (arith, n, fits)) in
    let back : bytes_of_digits w ≡ v.items = ap (λ (r : Result (List ℕ) FromHexError). result_unwrap_or r []) (decode_of-encode_lower v.items bytes) in
    record {
      told =
          cond-true (is_hex_word w && nat_le (length w) (2 * most)) (Some (let x : ArrayVec ℕ = record { items = bytes_of_digits w } in x)) None (and_from (is_hex_word w) _ is few)
          ∙ ap (λ (bs : List ℕ). Some (let x : ArrayVec ℕ = record { items = bs } in x)) back;
      written = written-encode v.items bytes;
    }

-- ---- values

pub reads-value : (v : ℤ) → FitsSigned w16 v → Reads value_of (signed_decimal v) v
reads-value v h = let is = IsValue-fits v h in record { told = value_of-signed v is; written = written-signed v is }

values_after-written : (before vs : List ℤ) → length before + length vs ≤ 10 → All (λ (v : ℤ). FitsSigned w16 v) vs
    → values_after before (map signed_decimal vs) ≡ Some (before ++ vs)
values_after-written before [] few h = ap Some (sym (append-nil before))
values_after-written before (v ∷ vs) few h =
    let this = reads-value v (All-head (λ (x : ℤ). FitsSigned w16 x) v vs h) in
    let n : length (before ++ v ∷ []) ≡ length before + 1 = Rattle.std.proofs.Common.length-append before (v ∷ []) in
    let room : length before < 10 = omega (arith, few) in
    let left : length (before ++ v ∷ []) + length vs ≤ 10 = omega (arith, n, few) in
    ap (option_and_then (λ (x : ℤ). cond (nat_lt (length before) 10) (values_after (before ++ x ∷ []) (map signed_decimal vs)) None)) this.told
    ∙ cond-true (nat_lt (length before) 10) (values_after (before ++ v ∷ []) (map signed_decimal vs)) None (lt-ltb (length before) 10 room)
    ∙ values_after-written (before ++ v ∷ []) vs left (All-tail (λ (x : ℤ). FitsSigned w16 x) v vs h)
    ∙ ap Some (append_assoc before (v ∷ []) vs)

pub payload_of-written : (p : ArrayVec ℤ) → AreValues p.items → payload_of (map signed_decimal p.items) ≡ Some p
payload_of-written p h = ap (option_map (λ (vs : List ℤ). let x : ArrayVec ℤ = record { items = vs } in x)) (let few = h.0 in values_after-written [] p.items (omega arith) h.1)

pub written-values : (vs : List ℤ) → All (λ (v : ℤ). FitsSigned w16 v) vs → list_all is_written (map signed_decimal vs) ≡ true
written-values [] h = refl
written-values (v ∷ vs) h =
    and_from (is_written (signed_decimal v)) (list_all is_written (map signed_decimal vs)) (reads-value v (All-head (λ (x : ℤ). FitsSigned w16 x) v vs h)).written
    (written-values vs (All-tail (λ (x : ℤ). FitsSigned w16 x) v vs h))
