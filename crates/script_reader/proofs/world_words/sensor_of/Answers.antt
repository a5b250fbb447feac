use Rattle.std.proofs.Common.{◌≡◌, ℕ, suc, ◌+◌, ◌<◌, ◌≤◌, Bool, true, false, if◌then◌else◌, List, ◌∷◌, length, drop, drop-cons, get_or, Result, Ok, Err, Option, refl, ap, sym, ◌∙◌, subst, arith}
use Rattle.std.specs.Prelude.{slice_get, IfOk, IsSomeAnd}
use Rattle.std.specs.Str.{bytes_eq}
use Rattle.std.proofs.lemmas.List.{drop_all}
use Rattle.std.proofs.lemmas.Option.{slice_get_read}
use Rattle.mate_num.specs.declared.id.FunId.{FunId}
use Rattle.vm_shape.specs.declared.function.Function.{Function}
use Rattle.vm_shape.specs.declared.function.FunKind.TheVariants as kind
use Rattle.vm_shape.proofs.DescriptionLemmas.{bounds_of}
use Rattle.script_steps.specs.declared.fault.Cause.{Cause}
use Rattle.script_reader.specs.WorldWords.{if_senses, sensor_from}
use Rattle.script_reader.proofs.world_words.sensor_of.Goals as goal

-- the function at a place has the name, or it is among those behind it
here : (w : List ℕ) (fs : List Function) (i : ℕ) (f : Function) (found : Bool) → i < length fs → f ≡ get_or fs i f → found ≡ bytes_eq f.name w
    → sensor_from w i (drop i fs) ≡ (if found then if_senses i f.kind else sensor_from w (i + 1) (drop (i + 1) fs))
here w fs i f found low is same =
    let next : suc i ≡ i + 1 = omega arith in
    ap (sensor_from w i) (drop-cons fs i f low ∙ ap (λ (g : Function). g ∷ drop (suc i) fs) (sym is) ∙ ap (λ (n : ℕ). f ∷ drop n fs) next)
    ∙ ap (λ (b : Bool). if b then if_senses i f.kind else sensor_from w (i + 1) (drop (i + 1) fs)) (sym same)

-- a function that is found reads a sensor
senses : (fs : List Function) (i : ℕ) (f : Function) (r : Result FunId Cause) → i < length fs → f ≡ get_or fs i f → IfOk r (λ fun. (fun.0 ≡ i) × (f.kind ≡ kind.Sense))
    → IfOk r (λ fun. IsSomeAnd (slice_get fs fun.0) (λ g. g.kind ≡ kind.Sense))
senses fs i f (Err e) low is reads = tt
senses fs i f (Ok fun) low is reads =
    subst (λ (n : ℕ). IsSomeAnd (slice_get fs n) (λ g. g.kind ≡ kind.Sense)) (sym reads.0)
    (subst (λ (o : Option Function). IsSomeAnd o (λ g. g.kind ≡ kind.Sense)) (sym (slice_get_read fs (length fs) i f refl low is)) reads.1)

pub loop-index-init : goal.loop-index-init
loop-index-init c = refl

pub overflow_cast-index : goal.overflow_cast-index
overflow_cast-index c =
    let high = (bounds_of c.args.desc.now).functions_high in
    let low = subst (λ (fs : List Function). c.loop-index.index < length fs) c.as_slice-function-items.ensures.value c.loop-index-test.true in
    omega (arith, high, low)

pub returns-then-eq-clause-value : goal.returns-then-eq-clause-value
returns-then-eq-clause-value c =
    let fs : List Function = c.args.desc.now.functions.items in
    let low = subst (λ (fs : List Function). c.loop-index.index < length fs) c.as_slice-function-items.ensures.value c.loop-index-test.true in
    let is = c.function-item.is ∙ ap (λ (fs : List Function). get_or fs c.loop-index.index c.function-item.result) c.as_slice-function-items.ensures.value in
    let same = c.if-eq.ensures ∙ ap (λ (name : List ℕ). bytes_eq name c.args.word.now) c.as_bytes.ensures.value in
    c.if_senses.ensures.value ∙ sym (here c.args.word.now fs c.loop-index.index c.function-item.result true low is same) ∙ c.loop-index.invariant

pub returns-then-eq-clause-senses : goal.returns-then-eq-clause-senses
returns-then-eq-clause-senses c =
    let fs : List Function = c.args.desc.now.functions.items in
    let low = subst (λ (fs : List Function). c.loop-index.index < length fs) c.as_slice-function-items.ensures.value c.loop-index-test.true in
    let is = c.function-item.is ∙ ap (λ (fs : List Function). get_or fs c.loop-index.index c.function-item.result) c.as_slice-function-items.ensures.value in
    senses fs c.loop-index.index c.function-item.result c.if_senses.result low is c.if_senses.ensures.senses

pub loop-index-preserved : goal.loop-index-preserved
loop-index-preserved c =
    let fs : List Function = c.args.desc.now.functions.items in
    let low = subst (λ (fs : List Function). c.loop-index.index < length fs) c.as_slice-function-items.ensures.value c.loop-index-test.true in
    let is = c.function-item.is ∙ ap (λ (fs : List Function). get_or fs c.loop-index.index c.function-item.result) c.as_slice-function-items.ensures.value in
    let same = c.if-eq.ensures ∙ ap (λ (name : List ℕ). bytes_eq name c.args.word.now) c.as_bytes.ensures.value in
    sym (here c.args.word.now fs c.loop-index.index c.function-item.result false low is same) ∙ c.loop-index.invariant

pub returns-clause-value : goal.returns-clause-value
returns-clause-value c =
    let fs : List Function = c.args.desc.now.functions.items in
    let high = subst (λ (fs : List Function). length fs ≤ c.loop-index.index) c.as_slice-function-items.ensures.value c.loop-index-test.false in
    sym (ap (sensor_from c.args.word.now c.loop-index.index) (drop_all c.loop-index.index fs high)) ∙ c.loop-index.invariant
