-- The fields of a line are written as they were read.
use Rattle.std.proofs.Common.{◌≡◌, ℕ, suc, ◌+◌, ◌*◌, ◌^◌, ◌<◌, nat_lt, Bool, true, false, ◌&&◌, nat_le, List, [], ◌∷◌, ◌++◌, length, map, Option, Some, None, refl, sym, ap, subst, ◌∙◌, arith, inl, inr}
use Rattle.std.specs.Prelude.{ℤ}
use Rattle.std.specs.List.{slice_get, position}
use Rattle.std.specs.Option.{option_map}
use Rattle.std.specs.Fmt.{decimal, signed_decimal}
use Rattle.std.specs.Str.{bytes_eq}
use Rattle.std.proofs.lemmas.Bool.Decides.{nat_tests}
use Rattle.std.proofs.lemmas.Grind.{common_steps}
use Rattle.std.proofs.lemmas.Bool.{cases_Bool, and_parts}
use Rattle.std.proofs.lemmas.Slice.Eq.{bytes_eq-Decides}
use Rattle.arrayvec.specs.ArrayVec.{ArrayVec}
use Rattle.hex.specs.Hex.{encode_lower}
use Rattle.hex.proofs.HexLemmas.{length-encode_with}
use Rattle.mate_num.specs.declared.call.FaultKind.{FaultKind}
use Rattle.mate_num.specs.declared.call.FaultKind.TheVariants as fault
use Rattle.mate_num.specs.declared.id.HandlerId.{HandlerId}
use Rattle.mate_num.specs.declared.id.FunId.{FunId}
use Rattle.mate_num.specs.declared.id.ContextId.{ContextId}
use Rattle.vm_shape.specs.declared.description.Description.{Description}
use Rattle.vm_shape.specs.Whole.{context_count}
use Rattle.mate_journal.specs.declared.entry.DropCause.{DropCause}
use Rattle.mate_journal.specs.declared.entry.DropCause.TheVariants as drop
use Rattle.report_writer.specs.Words.{drop_word, fault_word, handler_name, function_name}
use Rattle.report_line_reader.specs.Words.{first, rest}
use Rattle.report_line_reader.specs.Numbers.{below_of, values_after, value_of}
use Rattle.capsule_codec.specs.HexText.{bytes_of_digits}
use Rattle.report_line_reader.specs.Hex.{is_hex_word, hex_of}
use Rattle.report_line_reader.specs.Names as names
use Rattle.report_line_reader.specs.Fields.{number_of, node_of, drop_of, fault_of, payload_of}
use Rattle.report_line_reader.proofs.OptionLemmas.{steps, when_some}
use Rattle.report_line_reader.proofs.NumberLemmas.{Tells, decimal-below_of, signed-value_of}
use Rattle.report_line_reader.proofs.ChoiceLemmas.{named_among-word}
use Rattle.report_line_reader.proofs.HexLemmas.{IsHex, hex_word, encode_lower-bytes_of_digits}

-- a value under a map
pub record Maps {A B : Type 0} (f : A → B) (o : Option A) (b : B) : Type 0 where
  pub value : A
  pub was : o ≡ Some value
  pub gives : f value ≡ b

pub maps : {A B : Type 0} (f : A → B) (o : Option A) (b : B) → option_map f o ≡ Some b → Maps f o b
maps f None b h = absurd cc
maps f (Some a) b h = record { value = a; was = refl; gives = cc h }

-- the next word was there, and told the value
pub record Next {A : Type 0} (tells : List ℕ → Option A) (ws : List (List ℕ)) (a : A) : Type 0 where
  pub word : List ℕ
  pub is : ws ≡ word ∷ rest ws
  pub told : tells word ≡ Some a

pub next : {A : Type 0} (tells : List ℕ → Option A) (ws : List (List ℕ)) (a : A) → first tells ws ≡ Some a → Next tells ws a
next tells [] a h = absurd cc
next tells (w ∷ ws) a h = record { word = w; is = refl; told = h }

-- ---- names

-- the item at a place has the name
pub record Place {A : Type 0} (name_of : A → List ℕ) (xs : List A) (word : List ℕ) (i : ℕ) : Type 0 where
  pub below : i < length xs
  pub is : option_map name_of (slice_get xs i) ≡ Some word

-- a name's place among items, one after another
pub position-here : {A : Type 0} (p : A → Bool) (x : A) (xs : List A) → p x ≡ true → position p (x ∷ xs) ≡ Some 0
position-here p x xs e = rw e (grind (arith, nat_tests))

pub position-later : {A : Type 0} (p : A → Bool) (x : A) (xs : List A) → p x ≡ false → position p (x ∷ xs) ≡ option_map (λ n. n + 1) (position p xs)
position-later p x xs e = rw e (grind (arith, nat_tests, common_steps))

position-name : {A : Type 0} (name_of : A → List ℕ) (xs : List A) (word : List ℕ) (i : ℕ) → position (λ x. bytes_eq (name_of x) word) xs ≡ Some i → Place name_of xs word i
position-name name_of [] word i h = absurd cc
position-name {A} name_of (x ∷ xs) word i h =
    elim (cases_Bool (bytes_eq (name_of x) word)) [
      | inl here ↦
          let e : Some 0 ≡ Some i = sym (position-here (λ y. bytes_eq (name_of y) word) x xs here) ∙ h in
          let at : 0 ≡ i = cc in
          let this : Place name_of (x ∷ xs) word 0 = record { below = omega arith; is = ap Some ((bytes_eq-Decides (name_of x) word).0 here) } in
          let P : ℕ → Type 0 = λ n. Place name_of (x ∷ xs) word n in
          subst P at this
      | inr later ↦
          let e : option_map (λ (n : ℕ). n + 1) (position (λ x. bytes_eq (name_of x) word) xs) ≡ Some i = sym (position-later (λ y. bytes_eq (name_of y) word) x xs later) ∙ h in
          let m = maps (λ (n : ℕ). n + 1) (position (λ x. bytes_eq (name_of x) word) xs) i e in
          let ih : Place name_of xs word m.value = position-name name_of xs word m.value m.was in
          let at : suc m.value ≡ i = omega (arith, m.gives) in
          let this : Place name_of (x ∷ xs) word (suc m.value) = record { below = omega (arith, ih.below); is = ih.is } in
          let P : ℕ → Type 0 = λ n. Place name_of (x ∷ xs) word n in
          subst P at this
    ]

name_in : (o : Option (List ℕ)) (word : List ℕ) → o ≡ Some word → Rattle.report_writer.specs.Words.name_or_none o ≡ word
name_in o word h = ap Rattle.report_writer.specs.Words.name_or_none h

pub record TellsHandler (d : Description) (w : List ℕ) (h : HandlerId) : Type 0 where
  pub word : w ≡ handler_name d h
  pub below : h.0 < length d.handlers.items

pub handler_of-name : (d : Description) (word : List ℕ) (h : HandlerId) → names.handler_of d word ≡ Some h → TellsHandler d word h
unfolding names.handler_of
handler_of-name d word h e =
    let m = maps (λ (n : ℕ). let x : HandlerId = record { 0 = n } in x) (position (λ x. bytes_eq (names.name_of_handler x) word) d.handlers.items) h e in
    let at = position-name names.name_of_handler d.handlers.items word m.value m.was in
    let this : TellsHandler d word (record { 0 = m.value }) = record { word = sym (name_in _ word at.is); below = at.below } in
    let P : HandlerId → Type 0 = λ x. TellsHandler d word x in
    subst P m.gives this

pub record TellsFunction (d : Description) (w : List ℕ) (f : FunId) : Type 0 where
  pub word : w ≡ function_name d f
  pub below : f.0 < length d.functions.items

pub function_of-name : (d : Description) (word : List ℕ) (f : FunId) → names.function_of d word ≡ Some f → TellsFunction d word f
unfolding names.function_of
function_of-name d word f e =
    let m = maps (λ (n : ℕ). let x : FunId = record { 0 = n } in x) (position (λ x. bytes_eq (names.name_of_function x) word) d.functions.items) f e in
    let at = position-name names.name_of_function d.functions.items word m.value m.was in
    let this : TellsFunction d word (record { 0 = m.value }) = record { word = sym (name_in _ word at.is); below = at.below } in
    let P : FunId → Type 0 = λ x. TellsFunction d word x in
    subst P m.gives this

pub record TellsContext (d : Description) (w : List ℕ) (c : ContextId) : Type 0 where
  pub word : w ≡ decimal c.0
  pub below : c.0 < context_count d

pub context_of-number : (d : Description) (word : List ℕ) (c : ContextId) → names.context_of d word ≡ Some c → TellsContext d word c
unfolding names.context_of
context_of-number d word c e =
    let m = maps (λ (n : ℕ). let x : ContextId = record { 0 = n } in x) (below_of (context_count d) word) c e in
    let at : Tells (context_count d) word m.value = decimal-below_of (context_count d) word m.value m.was in
    let this : TellsContext d word (record { 0 = m.value }) = record { word = at.word; below = at.below } in
    let P : ContextId → Type 0 = λ x. TellsContext d word x in
    subst P m.gives this

-- ---- numbers, causes and bytes

pub number_of-word : (word : List ℕ) (n : ℕ) → number_of word ≡ Some n → word ≡ decimal n
unfolding number_of
number_of-word word n h = (decimal-below_of (2 ^ 32) word n h).word

pub node_of-word : (word : List ℕ) (n : ℕ) → node_of word ≡ Some n → Tells 64 word n
unfolding node_of
node_of-word word n h = decimal-below_of 64 word n h

pub drop_of-word : (word : List ℕ) (cause : DropCause) → drop_of word ≡ Some cause → word ≡ drop_word cause
unfolding drop_of
drop_of-word word cause h = named_among-word drop_word (drop.NoCode ∷ drop.AllBusy ∷ []) word cause h

pub fault_of-word : (word : List ℕ) (kind : FaultKind) → fault_of word ≡ Some kind → word ≡ fault_word kind
unfolding fault_of
fault_of-word word kind h = named_among-word fault_word (fault.DivZero ∷ fault.Index ∷ fault.BufferFull ∷ fault.BufferEmpty ∷ fault.Overrun ∷ []) word kind h

pub record TellsBytes (w bytes : List ℕ) : Type 0 where
  pub word : w ≡ encode_lower bytes
  pub some : 0 < length bytes

bytes_some : (word : List ℕ) → is_hex_word word ≡ true → 0 < length (bytes_of_digits word)
bytes_some word h =
    let same = ap (λ (x : List ℕ). length x) (encode_lower-bytes_of_digits word h) in
    let is : IsHex word = hex_word word h in
    omega (arith, same, length-encode_with Rattle.hex.specs.Hex.lower_digits (bytes_of_digits word), is.some)

pub hex_of-word : (most : ℕ) (word : List ℕ) (v : ArrayVec ℕ) → hex_of most word ≡ Some v → TellsBytes word v.items
hex_of-word most word v h =
    let parts = when_some (is_hex_word word && nat_le (length word) (2 * most)) (Some (let x : ArrayVec ℕ = record { items = bytes_of_digits word } in x)) v h in
    let known = (and_parts (is_hex_word word) _ parts.0).0 in
    let this : TellsBytes word (bytes_of_digits word) = record { word = sym (encode_lower-bytes_of_digits word known); some = bytes_some word known } in
    let same : bytes_of_digits word ≡ v.items = ap (λ (o : Option (ArrayVec ℕ)). elim o [ Some x ↦ x.items | None ↦ [] ]) parts.1 in
    let P : List ℕ → Type 0 = λ bytes. TellsBytes word bytes in
    subst P same this

-- ---- values

pub record TellsValues (before : List ℤ) (ws : List (List ℕ)) (all : List ℤ) : Type 0 where
  pub values : List ℤ
  pub words : ws ≡ map signed_decimal values
  pub all_are : all ≡ before ++ values

pub values_after-words : (before : List ℤ) (ws : List (List ℕ)) (all : List ℤ) → values_after before ws ≡ Some all → TellsValues before ws all
unfolding value_of
values_after-words before [] all h = record { values = []; words = refl; all_are = (let e : before ≡ all = cc h in sym e ∙ simp Rattle.std.proofs.Common.append-nil) }
values_after-words before (w ∷ ws) all h =
    let s = steps _ (value_of w) all h in
    let more = when_some (nat_lt (length before) 10) (values_after (before ++ s.step ∷ []) ws) all s.gives in
    let ih : TellsValues (before ++ s.step ∷ []) ws all = values_after-words (before ++ s.step ∷ []) ws all more.1 in
    record {
      values = s.step ∷ ih.values;
      words = (let e = signed-value_of w s.step s.was in let r = ih.words in cc);
      all_are = ih.all_are ∙ simp Rattle.std.proofs.Common.append_assoc;
    }

pub payload_of-words : (ws : List (List ℕ)) (p : ArrayVec ℤ) → payload_of ws ≡ Some p → ws ≡ map signed_decimal p.items
unfolding payload_of
payload_of-words ws p h =
    let m = maps (λ (vs : List ℤ). let x : ArrayVec ℤ = record { items = vs } in x) (values_after [] ws) p h in
    let t : TellsValues [] ws m.value = values_after-words [] ws m.value m.was in
    let same : m.value ≡ p.items = ap (λ (x : ArrayVec ℤ). x.items) m.gives in
    t.words ∙ ap (λ (vs : List ℤ). map signed_decimal vs) (sym t.all_are ∙ same)
