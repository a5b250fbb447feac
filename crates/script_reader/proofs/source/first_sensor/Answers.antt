use Rattle.std.proofs.Common.{◌≡◌, ℕ, suc, ◌+◌, ◌<◌, ◌≤◌, Bool, true, false, if◌then◌else◌, List, ◌∷◌, length, drop, drop-cons, get_or, Some, ap, sym, ◌∙◌, subst, arith}
use Rattle.std.proofs.lemmas.List.{drop_all}
use Rattle.vm_shape.specs.declared.function.Function.{Function}
use Rattle.script_reader.specs.Source.{first_sensor, reads_sensor}
use Rattle.script_reader.proofs.source.first_sensor.Goals as goal

-- the function at a place reads a sensor, or the first one that does is behind it
here : (fs : List Function) (i : ℕ) (f : Function) (reads : Bool) → i < length fs → f ≡ get_or fs i f → reads ≡ reads_sensor f.kind
    → first_sensor (drop i fs) ≡ (if reads then Some f.name else first_sensor (drop (i + 1) fs))
here fs i f reads low is same =
    let next : suc i ≡ i + 1 = omega arith in
    ap first_sensor (drop-cons fs i f low ∙ ap (λ (g : Function). g ∷ drop (suc i) fs) (sym is) ∙ ap (λ (n : ℕ). f ∷ drop n fs) next)
    ∙ ap (λ (b : Bool). if b then Some f.name else first_sensor (drop (i + 1) fs)) (sym same)

pub returns-then-reads_sensor : goal.returns-then-reads_sensor
returns-then-reads_sensor c =
    let fs : List Function = c.args.desc.now.functions.items in
    let i = c.loop-function.function-index in
    let low = subst (λ (fs : List Function). i < length fs) c.as_slice-function-items.ensures.value c.loop-function-test.true in
    let is = c.function-item.is ∙ ap (λ (fs : List Function). get_or fs i c.function-item.result) c.as_slice-function-items.ensures.value in
    ap (λ (name : List ℕ). Some name) c.as_str.ensures.value ∙ sym (here fs i c.function-item.result true low is c.if-reads_sensor.ensures) ∙ c.loop-function.invariant

pub loop-function-preserved : goal.loop-function-preserved
loop-function-preserved c =
    let fs : List Function = c.args.desc.now.functions.items in
    let i = c.loop-function.function-index in
    let low = subst (λ (fs : List Function). i < length fs) c.as_slice-function-items.ensures.value c.loop-function-test.true in
    let is = c.function-item.is ∙ ap (λ (fs : List Function). get_or fs i c.function-item.result) c.as_slice-function-items.ensures.value in
    sym (here fs i c.function-item.result false low is c.if-reads_sensor.ensures) ∙ c.loop-function.invariant

pub returns : goal.returns
returns c =
    let fs : List Function = c.args.desc.now.functions.items in
    let i = c.loop-function.function-index in
    let high = subst (λ (fs : List Function). length fs ≤ i) c.as_slice-function-items.ensures.value c.loop-function-test.false in
    sym (ap first_sensor (drop_all i fs high)) ∙ c.loop-function.invariant
