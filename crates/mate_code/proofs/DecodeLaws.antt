-- What decodes is the one encoding of its instructions, and a fault is at the first place that can't be read.
use Rattle.std.proofs.Common.{◌≡◌, ℕ, zero, suc, ◌+◌, ◌<◌, ◌≤◌, Bool, true, false, cond, ltb, List, [], ◌∷◌, ◌++◌, length, get_or, drop, All, Option, None, Some, Result, Ok, Err, refl, ap, sym, ◌∙◌, arith, subst, append_assoc, lit<}
use Rattle.std.specs.Prelude.{IfOk, IfErr, IsSomeAnd}
use Rattle.std.specs.Int.{w16, to_be_bytes, from_be_bytes}
use Rattle.std.proofs.lemmas.Bool.{ltb-true}
use Rattle.std.proofs.lemmas.Nat.{be_bytes_2}
use Rattle.std.proofs.lemmas.List.{length-append, get_or-drop}
use Rattle.std.proofs.lemmas.List.Elements.{recursion_from_All, All-from_recursion, All-nil}
use Rattle.std.proofs.lemmas.List.Concat.{flat_map-cons}
use Rattle.mate_code.specs.declared.kind.OperandForm.{OperandForm}
use Rattle.mate_code.specs.declared.row.Opcode.{Opcode}
use Rattle.mate_code.specs.declared.kind.OperandForm.TheVariants.{Absent, Byte, Word, SignedWord}
use Rattle.mate_code.specs.declared.kind.Kind.{Kind}
use Rattle.mate_code.specs.declared.instr.Instr.{Instr}
use Rattle.mate_code.specs.declared.decoding.DecodeFault.{DecodeFault}
use Rattle.mate_code.specs.declared.decoding.DecodeFault.TheVariants.{BadOpcode, CutShort}
use Rattle.mate_code.specs.Kind.{kind_of, instr_of, form_of}
use Rattle.mate_code.specs.Instr.{operand_of, size_of, FitsForm}
use Rattle.mate_code.specs.Row.{width_of}
use Rattle.mate_code.specs.Table.{Layout, IsInTable, opcode_in, opcode_of, kind_at}
use Rattle.mate_num.specs.Results.{◌>>=◌}
use Rattle.mate_code.specs.Code.{operand_bytes, instr_bytes, code_bytes, instrs_of, operand_at, with_kind, instr_at, decoded_from, decoded, IsWritable, AreBytes, IsDecoded, CannotRead, StopsAt}
use Rattle.mate_code.proofs.KindLemmas.{row-kind, instr_at-kind}
use Rattle.mate_code.proofs.ReadLemmas.{kind_of-instr_of, operand_of-instr_of, IsRead, instr_at_ok, size_of-read}
use Rattle.mate_code.proofs.OpcodeLemmas.{opcode_of-kind_at}
use Rattle.mate_code.proofs.CodeLemmas.{length-instr_bytes}

-- ---- one operand

Fits-operand_at : (form : OperandForm) (bytes : List ℕ) → AreBytes bytes → FitsForm form (operand_at form bytes)
Fits-operand_at Absent bytes fits = refl
Fits-operand_at Byte bytes fits = fits 0
Fits-operand_at Word bytes fits = omega (arith, fits 0, fits 1)
Fits-operand_at SignedWord bytes fits = omega (arith, fits 0, fits 1)

two_fit : (a b : ℕ) → a < 256 → b < 256 → AreBytes (a ∷ b ∷ [])
two_fit a b ha hb zero = ha
two_fit a b ha hb (suc zero) = hb
two_fit a b ha hb (suc (suc i)) = lit< tt

word_back : (bytes : List ℕ) → 2 ≤ length bytes → AreBytes bytes → to_be_bytes w16 (from_be_bytes w16 bytes) ++ drop 2 bytes ≡ bytes
word_back [] long fits = absurd (omega arith)
word_back (a ∷ []) long fits = absurd (omega arith)
word_back (a ∷ b ∷ bytes) long fits =
    ap (λ (front : List ℕ). front ++ bytes) (be_bytes_2 (a ∷ b ∷ []) (from_be_bytes w16 (a ∷ b ∷ bytes)) refl (two_fit a b (fits 0) (fits 1)) refl)

byte_back : (bytes : List ℕ) → 1 ≤ length bytes → get_or bytes 0 0 ∷ drop 1 bytes ≡ bytes
byte_back [] long = absurd (omega arith)
byte_back (b ∷ bytes) long = refl

operand_bytes-operand_at : (form : OperandForm) (bytes : List ℕ) → width_of form ≤ length bytes → AreBytes bytes → operand_bytes form (operand_at form bytes) ++ drop (width_of form) bytes ≡ bytes
operand_bytes-operand_at Absent bytes long fits = refl
operand_bytes-operand_at Byte bytes long fits = byte_back bytes long
operand_bytes-operand_at Word bytes long fits = word_back bytes long fits
operand_bytes-operand_at SignedWord bytes long fits = word_back bytes long fits

AreBytes-drop : (n : ℕ) (bytes : List ℕ) → AreBytes bytes → AreBytes (drop n bytes)
AreBytes-drop n bytes fits i = rw get_or-drop (fits (n + i))

-- ---- one instruction

-- an instruction that was read is spelled by the bytes that were taken
record ReadsBack (t : Layout) (opcode : ℕ) (bytes : List ℕ) (i : Instr) (after : List ℕ) : Type 0 where
  pub encoding : instr_bytes t i ++ after ≡ opcode ∷ bytes
  pub in_table : IsInTable t (kind_of i)
  pub writable : IsWritable i
  pub rest : AreBytes after

reads_back : (t : Layout) (opcode : ℕ) (bytes : List ℕ) (i : Instr) (after : List ℕ) → AreBytes bytes → IsRead t opcode bytes i after → ReadsBack t opcode bytes i after
reads_back t opcode bytes i after fits r =
    let k : Kind = r.kind in
    let n : ℕ = operand_at (form_of k) bytes in
    let rest : List ℕ = drop (width_of (form_of k)) bytes in
    let made : Instr = instr_of k n in
    let n_fits : FitsForm (form_of k) n = Fits-operand_at (form_of k) bytes fits in
    let kind : kind_of made ≡ k = kind_of-instr_of k n in
    let operand : operand_of made ≡ n = operand_of-instr_of k n n_fits in
    let stands = opcode_of-kind_at t opcode k r.known in
    let spelled : Kind → ℕ → List ℕ = λ k m. (opcode_of t k ∷ operand_bytes (form_of k) m) ++ rest in
    let fits_as : Kind → ℕ → Type 0 = λ k m. FitsForm (form_of k) m in
    let back : ReadsBack t opcode bytes made rest = record {
      encoding =
          ap (λ (w : Opcode × OperandForm). (opcode_in t w.0 ∷ operand_bytes w.1 (operand_of made)) ++ rest) (sym (row-kind made))
          ∙ ap (λ (k : Kind). spelled k (operand_of made)) kind
          ∙ ap (λ (m : ℕ). spelled k m) operand
          ∙ ap (λ (o : ℕ). o ∷ (operand_bytes (form_of k) n ++ rest)) stands.opcode
          ∙ ap (λ (xs : List ℕ). opcode ∷ xs) (operand_bytes-operand_at (form_of k) bytes r.long fits);
      in_table = subst (λ (k : Kind). IsInTable t k) (sym kind) stands.in_table;
      writable = record {
        fits = subst (λ (k : Kind). fits_as k (operand_of made)) (sym kind) (subst (λ (m : ℕ). fits_as k m) (sym operand) n_fits);
        whole = ap (λ (k : Kind). instr_of k (operand_of made)) kind ∙ ap (λ (m : ℕ). instr_of k m) operand;
      };
      rest = AreBytes-drop (width_of (form_of k)) bytes fits;
    } in
    subst (λ (x : Instr). ReadsBack t opcode bytes x after) (sym r.is) (subst (λ (xs : List ℕ). ReadsBack t opcode bytes made xs) (sym r.after_is) back)

-- ---- all instructions

-- the value of a step that did not fail
bind_ok : {A B : Type 0} (r : Result A DecodeFault) (f : A → Result B DecodeFault) (y : B) → (r >>= f) ≡ Ok y → (x : A) × (r ≡ Ok x) × (f x ≡ Ok y)
bind_ok (Ok x) f y e = (x, refl, e)
bind_ok (Err fault) f y e = absurd cc

abbrev done : {A : Type 0} → A → Result A DecodeFault
done x = Ok x

ok_is : {A : Type 0} (x y : A) → done x ≡ done y → x ≡ y
ok_is x y e = cc

abbrev HasKind : Layout → Instr → Type 0
HasKind t i = IsInTable t (kind_of i)

All-cons : (P : Instr → Type 0) (i : Instr) (instrs : List Instr) → P i → All P instrs → All P (i ∷ instrs)
All-cons P i instrs here there = All-from_recursion P (i ∷ instrs) (here, recursion_from_All P instrs there)

nothing_decoded : (t : Layout) (place : ℕ) → IsDecoded t place [] []
nothing_decoded t place = record { encoding = refl; places = refl; in_table = All-nil (HasKind t); writable = All-nil IsWritable }

one_more_decoded : (t : Layout) (place opcode : ℕ) (bytes : List ℕ) (i : Instr) (after : List ℕ) (pairs : List (ℕ × Instr)) → ReadsBack t opcode bytes i after → IsDecoded t (place + size_of i) after pairs → IsDecoded t place (opcode ∷ bytes) ((place, i) ∷ pairs)
one_more_decoded t place opcode bytes i after pairs first others = record {
  encoding = flat_map-cons (instr_bytes t) i (instrs_of pairs) ∙ ap (λ (xs : List ℕ). instr_bytes t i ++ xs) others.encoding ∙ first.encoding;
  places = ap (λ (ps : List (ℕ × Instr)). (place, i) ∷ ps) others.places;
  in_table = All-cons (HasKind t) i (instrs_of pairs) first.in_table others.in_table;
  writable = All-cons IsWritable i (instrs_of pairs) first.writable others.writable;
}

pub IsDecoded-decoded_from : (count : ℕ) (t : Layout) (place : ℕ) (bytes : List ℕ) (pairs : List (ℕ × Instr)) → length bytes ≤ count → AreBytes bytes → decoded_from count t place bytes ≡ Ok pairs → IsDecoded t place bytes pairs
unfolding decoded_from
IsDecoded-decoded_from count t place [] pairs short fits e = subst (λ (ps : List (ℕ × Instr)). IsDecoded t place [] ps) (ok_is [] pairs e) (nothing_decoded t place)
IsDecoded-decoded_from zero t place (opcode ∷ bytes) pairs short fits e = absurd (omega arith)
IsDecoded-decoded_from (suc count) t place (opcode ∷ bytes) pairs short fits e =
    let a = bind_ok (instr_at t place opcode bytes) (λ first. decoded_from count t (place + size_of first.0) first.1 >>= λ others. Ok ((place, first.0) ∷ others)) pairs e in
    let b = bind_ok (decoded_from count t (place + size_of a.0.0) a.0.1) (λ others. Ok ((place, a.0.0) ∷ others)) pairs a.2 in
    let read : IsRead t opcode bytes a.0.0 a.0.1 = instr_at_ok t place opcode bytes a.0.0 a.0.1 a.1 in
    let size : size_of a.0.0 + length a.0.1 ≡ suc (length bytes) = size_of-read t opcode bytes a.0.0 a.0.1 read in
    let first = reads_back t opcode bytes a.0.0 a.0.1 (λ i. fits (suc i)) read in
    let others = IsDecoded-decoded_from count t (place + size_of a.0.0) a.0.1 b.0 (omega arith) first.rest b.1 in
    subst (λ (ps : List (ℕ × Instr)). IsDecoded t place (opcode ∷ bytes) ps) (ok_is ((place, a.0.0) ∷ b.0) pairs b.2) (one_more_decoded t place opcode bytes a.0.0 a.0.1 b.0 first others)

pub IsDecoded-decoded : (t : Layout) (bytes : List ℕ) (pairs : List (ℕ × Instr)) → AreBytes bytes → decoded t bytes ≡ Ok pairs → IsDecoded t 0 bytes pairs
IsDecoded-decoded t bytes pairs fits e = IsDecoded-decoded_from (length bytes) t 0 bytes pairs (omega arith) fits e

-- ---- the first fault

guard_err : {A : Type 0} (b : Bool) (fault y : DecodeFault) (x : A) → cond b (Err fault) (Ok x) ≡ Err y → (b ≡ true) × (fault ≡ y)
guard_err true fault y x e = (refl, cc)
guard_err false fault y x e = absurd cc

cannot_read : (t : Layout) (place opcode : ℕ) (o : Option Kind) (bytes : List ℕ) (fault : DecodeFault) → kind_at t opcode ≡ o → with_kind place o bytes ≡ Err fault → CannotRead t place opcode bytes fault
cannot_read t place opcode None bytes fault known e =
    let same : BadOpcode place ≡ fault = cc in
    subst (λ (f : DecodeFault). CannotRead t place opcode bytes f) same (refl, known)
cannot_read t place opcode (Some k) bytes fault known e =
    let g = guard_err (ltb (length bytes) (width_of (form_of k))) (CutShort place) fault (instr_of k (operand_at (form_of k) bytes), drop (width_of (form_of k)) bytes) e in
    let few : length bytes < width_of (form_of k) = ltb-true _ _ g.0 in
    let P : Option Kind → Type 0 = λ o. IsSomeAnd o (λ k. length bytes < width_of (form_of k)) in
    subst (λ (f : DecodeFault). CannotRead t place opcode bytes f) g.1 (refl, subst P (sym known) few)

stops_here : (t : Layout) (place opcode : ℕ) (bytes : List ℕ) (fault : DecodeFault) → instr_at t place opcode bytes ≡ Err fault → StopsAt t place (opcode ∷ bytes) fault
stops_here t place opcode bytes fault e =
    let at : place ≡ place + 0 = omega arith in
    record {
      front = [];
      opcode = opcode;
      rest = bytes;
      parts = refl;
      in_table = All-nil (HasKind t);
      stops = subst (λ (p : ℕ). CannotRead t p opcode bytes fault) at (cannot_read t place opcode (kind_at t opcode) bytes fault refl (sym (instr_at-kind t place opcode bytes) ∙ e));
    }

stops_later : (t : Layout) (place opcode : ℕ) (bytes : List ℕ) (i : Instr) (after : List ℕ) (fault : DecodeFault) → ReadsBack t opcode bytes i after → StopsAt t (place + size_of i) after fault → StopsAt t place (opcode ∷ bytes) fault
stops_later t place opcode bytes i after fault first later =
    let cons : code_bytes t (i ∷ later.front) ≡ instr_bytes t i ++ code_bytes t later.front = flat_map-cons (instr_bytes t) i later.front in
    let len : length (code_bytes t (i ∷ later.front)) ≡ length (instr_bytes t i) + length (code_bytes t later.front) = ap length cons ∙ length-append (instr_bytes t i) (code_bytes t later.front) in
    let size : length (instr_bytes t i) ≡ size_of i = length-instr_bytes t i in
    let at : (place + size_of i) + length (code_bytes t later.front) ≡ place + length (code_bytes t (i ∷ later.front)) = omega (arith, len, size) in
    record {
      front = i ∷ later.front;
      opcode = later.opcode;
      rest = later.rest;
      parts =
          ap (λ (xs : List ℕ). xs ++ later.opcode ∷ later.rest) cons
          ∙ append_assoc (instr_bytes t i) (code_bytes t later.front) (later.opcode ∷ later.rest)
          ∙ ap (λ (xs : List ℕ). instr_bytes t i ++ xs) later.parts ∙ first.encoding;
      in_table = All-cons (HasKind t) i later.front first.in_table later.in_table;
      stops = subst (λ (p : ℕ). CannotRead t p later.opcode later.rest fault) at later.stops;
    }

bind_err : {A B : Type 0} (r : Result A DecodeFault) (f : A → B) (fault : DecodeFault) → (r >>= λ x. Ok (f x)) ≡ Err fault → r ≡ Err fault
bind_err (Ok x) f fault e = absurd cc
bind_err (Err d) f fault e = let same : d ≡ fault = cc in ap (λ (d : DecodeFault). Err d) same

-- what is known of the bytes after the first instruction
abbrev StopsAfter : ℕ → Layout → ℕ → DecodeFault → Type 0
StopsAfter count t place fault = (i : Instr) (after : List ℕ) → length after ≤ count → AreBytes after → decoded_from count t (place + size_of i) after ≡ Err fault → StopsAt t (place + size_of i) after fault

stops_step : (count : ℕ) (t : Layout) (place opcode : ℕ) (bytes : List ℕ) (fault : DecodeFault) (r : Result (Instr × List ℕ) DecodeFault) → length bytes ≤ count → AreBytes bytes → StopsAfter count t place fault → instr_at t place opcode bytes ≡ r
    → (r >>= λ first. decoded_from count t (place + size_of first.0) first.1 >>= λ others. Ok ((place, first.0) ∷ others)) ≡ Err fault → StopsAt t place (opcode ∷ bytes) fault
stops_step count t place opcode bytes fault (Err d) short fits after read e =
    let same : d ≡ fault = cc in
    stops_here t place opcode bytes fault (read ∙ ap (λ (d : DecodeFault). Err d) same)
stops_step count t place opcode bytes fault (Ok x) short fits after read e =
    let taken : IsRead t opcode bytes x.0 x.1 = instr_at_ok t place opcode bytes x.0 x.1 read in
    let size : size_of x.0 + length x.1 ≡ suc (length bytes) = size_of-read t opcode bytes x.0 x.1 taken in
    let first = reads_back t opcode bytes x.0 x.1 fits taken in
    let later = after x.0 x.1 (omega arith) first.rest (bind_err (decoded_from count t (place + size_of x.0) x.1) (λ others. (place, x.0) ∷ others) fault e) in
    stops_later t place opcode bytes x.0 x.1 fault first later

pub StopsAt-decoded_from : (count : ℕ) (t : Layout) (place : ℕ) (bytes : List ℕ) (fault : DecodeFault) → length bytes ≤ count → AreBytes bytes → decoded_from count t place bytes ≡ Err fault → StopsAt t place bytes fault
unfolding decoded_from
StopsAt-decoded_from count t place [] fault short fits e = absurd cc
StopsAt-decoded_from zero t place (opcode ∷ bytes) fault short fits e = absurd (omega arith)
StopsAt-decoded_from (suc count) t place (opcode ∷ bytes) fault short fits e =
    stops_step count t place opcode bytes fault (instr_at t place opcode bytes) (omega arith) (λ i. fits (suc i))
    (λ i after short fits e. StopsAt-decoded_from count t (place + size_of i) after fault short fits e) refl e

pub StopsAt-decoded : (t : Layout) (bytes : List ℕ) (fault : DecodeFault) → AreBytes bytes → decoded t bytes ≡ Err fault → StopsAt t 0 bytes fault
StopsAt-decoded t bytes fault fits e = StopsAt-decoded_from (length bytes) t 0 bytes fault (omega arith) fits e

-- ---- of a result

pub found_is : (t : Layout) (bytes : List ℕ) (r : Result (List (ℕ × Instr)) DecodeFault) → AreBytes bytes → r ≡ decoded t bytes → IfOk r (λ pairs. IsDecoded t 0 bytes pairs)
found_is t bytes (Ok pairs) fits e = IsDecoded-decoded t bytes pairs fits (sym e)
found_is t bytes (Err fault) fits e = tt

pub fault_at : (t : Layout) (bytes : List ℕ) (r : Result (List (ℕ × Instr)) DecodeFault) → AreBytes bytes → r ≡ decoded t bytes → IfErr r (λ fault. StopsAt t 0 bytes fault)
fault_at t bytes (Ok pairs) fits e = tt
fault_at t bytes (Err fault) fits e = StopsAt-decoded t bytes fault fits (sym e)
