-- What is read from a text keeps the rules of a description, and bytes beside the text in them.
use Rattle.std.proofs.Common.{◌≡◌, ℕ, ◌≤◌, List, length, true, ◌%◌, ◌==◌, nat_le, is_none, Option, None, Result, Ok, Err, IsUtf8, refl, sym, ap, ◌∙◌, inl, inr}
use Rattle.std.specs.Result.{IsErrAnd, IfOk}
use Rattle.std.proofs.lemmas.Bool.{and_from, le-leb, cases_Bool}
use Rattle.std.proofs.lemmas.Str.{IsUtf8-from_is_utf8, is_utf8-from_IsUtf8}
use Rattle.std.specs.List.{list_all}
use Rattle.std.specs.Str.{is_utf8}
use Rattle.toml.specs.Parse.{parse_document}
use Rattle.vm_shape.specs.Names.{is_name}
use Rattle.vm_shape.specs.Limits.{Parts, is_valid, is_handler, is_kind, is_function, function_args, is_trickle, is_radio, context_sum, duplicate_of, round_time, longest}
use Rattle.vm_desc.specs.Text.{description_of, of_document, ReadsDescription}
use Rattle.vm_shape.specs.declared.fault.DescFault.TheVariants.{NotToml, NoMemory}
use Rattle.vm_shape.specs.declared.fault.DescFault.{DescFault}
use Rattle.vm_shape.specs.declared.description.Description.{Description}
use Rattle.vm_shape.specs.declared.function.Function.{Function}
use Rattle.vm_shape.specs.declared.handler.Handler.{Handler}
use Rattle.vm_shape.specs.declared.settings.RadioSet.{RadioSet}
use Rattle.vm_shape.specs.declared.settings.TrickleSet.{TrickleSet}
use Rattle.vm_shape.specs.Whole.{parts_of}
use Rattle.vm_desc.specs.Fields.{GivesField}
use Rattle.mate_num.specs.Shapes.{is_device}

-- the rules of a description, each by its name
pub record Keeps (p : Parts) : Type 0 where
  pub vm_id : p.vm_id ≤ 4294967295
  pub some_handlers : 1 ≤ length p.handlers
  pub few_handlers : length p.handlers ≤ 8
  pub each_handler : list_all is_handler p.handlers ≡ true
  pub few_contexts : context_sum p.handlers ≤ 16
  pub few_functions : length p.functions ≤ 32
  pub each_function : list_all (is_function (length p.devices)) p.functions ≡ true
  pub few_shared : length p.shared ≤ 16
  pub each_shared : list_all is_name p.shared ≡ true
  pub few_buffers : length p.buffers ≤ 8
  pub each_buffer : list_all is_name p.buffers ≡ true
  pub few_devices : length p.devices ≤ 8
  pub each_device : list_all is_name p.devices ≡ true
  pub turns : p.turns ≤ 1000000
  pub quantum_low : 1 ≤ p.quantum
  pub quantum_high : p.quantum ≤ 10000
  pub trickle : is_trickle p.trickle ≡ true
  pub radio : is_radio p.radio ≡ true
  pub distinct : duplicate_of p ≡ None
  pub timely : round_time (length p.handlers) p.radio ≤ longest p.trickle

none : {A : Type 0} (o : Option A) → o ≡ None → is_none o ≡ true
none o e = rw e refl

pub is_valid-from : (p : Parts) → Keeps p → is_valid p ≡ true
is_valid-from p k =
    let le = le-leb in
    and_from _ _
    (and_from _ _
    (and_from _ _ (and_from _ _ (and_from _ _ (and_from _ _ (le _ _ k.some_handlers) (le _ _ k.few_handlers)) k.each_handler) (le _ _ k.few_contexts))
    (and_from _ _ (le _ _ k.few_functions) k.each_function))
    (and_from _ _
    (and_from _ _ (and_from _ _ (and_from _ _ (le _ _ k.few_shared) k.each_shared) (and_from _ _ (le _ _ k.few_buffers) k.each_buffer)) (and_from _ _ (le _ _ k.few_devices) k.each_device))
    (and_from _ _ (and_from _ _ (and_from _ _ (le _ _ k.vm_id) (le _ _ k.turns)) (and_from _ _ (le _ _ k.quantum_low) (le _ _ k.quantum_high))) (and_from _ _ k.trickle k.radio))))
    (and_from _ _ (none (duplicate_of p) k.distinct) (le _ _ k.timely))

-- bytes that are no text
pub description_of-bytes : (bytes : List ℕ) → (IsUtf8 bytes → ⊥) → description_of bytes ≡ Err NotToml
description_of-bytes bytes no_text =
    elim (cases_Bool (is_utf8 bytes)) [
      | inl one ↦ absurd (no_text (IsUtf8-from_is_utf8 bytes one))
      | inr not_one ↦ rw not_one refl
    ]

-- bytes that are a text
pub description_of-text : (bytes : List ℕ) → IsUtf8 bytes → description_of bytes ≡ of_document (parse_document bytes)
description_of-text bytes text = rw (is_utf8-from_IsUtf8 bytes text) refl

-- what gives a reading reads it
pub reads-from : (r : Result Description DescFault) (reading : Result Parts DescFault) → GivesField parts_of r reading → ReadsDescription r reading
reads-from (Err NoMemory) reading e = tt
reads-from _ reading e = e

-- the exit of a `?` passes the refusal on
pub refused : {X Y : Type 0} (view : X → Y) (r : Result X DescFault) (e : DescFault) (reading : Result Y DescFault) → IsErrAnd r (λ d. d ≡ e) → reading ≡ Err e → GivesField view r reading
refused view (Ok x) e reading is reads = absurd is
refused view (Err d) e reading is reads = reads ∙ ap Err (sym is)

pub refused_same : {X : Type 0} (r : Result X DescFault) (e : DescFault) (reading : Result X DescFault) → IsErrAnd r (λ d. d ≡ e) → reading ≡ Err e → r ≡ reading
refused_same (Ok x) e reading is reads = absurd is
refused_same (Err d) e reading is reads = ap Err is ∙ sym reads

pub refused_rules : {X : Type 0} (P : X → Type 0) (r : Result X DescFault) (e : DescFault) → IsErrAnd r (λ d. d ≡ e) → IfOk r P
refused_rules P (Ok x) e is = absurd is
refused_rules P (Err d) e is = tt

-- the rules of one part, from those of its values
pub is_handler-from : (h : Handler) → is_name h.name ≡ true → is_kind h.kind ≡ true → 1 ≤ h.contexts → h.contexts ≤ 4 → is_handler h ≡ true
is_handler-from h name kind low high = and_from _ _ (and_from _ _ name kind) (and_from _ _ (le-leb _ _ low) (le-leb _ _ high))

pub is_function-from : (devices : ℕ) (f : Function) → is_name f.name ≡ true → function_args f.kind ≤ 4 → is_device devices f.device ≡ true → 1 ≤ f.latency → f.latency ≤ 60000
    → is_function devices f ≡ true
is_function-from devices f name args device low high =
    and_from _ _ (and_from _ _ (and_from _ _ name (le-leb _ _ args)) device) (and_from _ _ (le-leb _ _ low) (le-leb _ _ high))

pub is_trickle-from : (t : TrickleSet) → 2 ≤ t.imin → t.imin ≤ 60000 → (t.imin % 2 == 0) ≡ true → t.doublings ≤ 16 → nat_le (longest t) 3600000 ≡ true → 1 ≤ t.k → t.k ≤ 255
    → is_trickle t ≡ true
is_trickle-from t imin_low imin_high even doublings long k_low k_high =
    and_from _ _ (and_from _ _ (and_from _ _ (and_from _ _ (le-leb _ _ imin_low) (le-leb _ _ imin_high)) even) (and_from _ _ (le-leb _ _ doublings) long))
    (and_from _ _ (le-leb _ _ k_low) (le-leb _ _ k_high))

pub is_radio-from : (r : RadioSet) → 1 ≤ r.delay → r.delay ≤ 10000 → 1 ≤ r.gap → r.gap ≤ 10000 → is_radio r ≡ true
is_radio-from r delay_low delay_high gap_low gap_high =
    and_from _ _ (and_from _ _ (le-leb _ _ delay_low) (le-leb _ _ delay_high)) (and_from _ _ (le-leb _ _ gap_low) (le-leb _ _ gap_high))
