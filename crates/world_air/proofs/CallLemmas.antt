-- Series and their values, and counts of calls.
use Rattle.std.proofs.Common.{◌≡◌, ◌≢◌, ℕ, zero, suc, ◌+◌, ◌-◌, ◌*◌, ◌^◌, ◌<◌, ◌≤◌, min, Bool, true, false, cond, List, [], ◌∷◌, ◌++◌, length, drop, get_or, set, refl, sym, ◌∙◌, ap, subst, arith, inl, inr, eq-eqb}
use Rattle.std.specs.Prelude.{if◌then◌else◌, ◌==◌, ◌&&◌, ℤ, count_by, slice_get, slice_index, slice_set, Option, Some}
use Rattle.std.specs.List.{All}
use Rattle.std.proofs.lemmas.Bool.{cases_eq, ne_eqb, and_parts}
use Rattle.std.proofs.lemmas.Bool.Decides.{nat_tests}
use Rattle.std.proofs.lemmas.Option.{slice_get-get_or}
use Rattle.std.specs.Option.{option_map_or}
use Rattle.std.proofs.lemmas.List.{get_or-set_same, get_or-set_other, length-set}
use Rattle.std.proofs.lemmas.List.Sums.{sum_by_push}
use Rattle.rand_pcg.specs.Lcg.{Lcg, started, increment_of, advance}
use Rattle.rand_pcg.specs.Pcg.{multiplier_64, pcg32}
use Rattle.trickle_timer.proofs.StreamLemmas.{advance_step, advance_none}
use Rattle.mate_num.specs.declared.id.FunId.{FunId}
use Rattle.script_steps.specs.declared.world.Series.{Series}
use Rattle.vm_shape.specs.declared.function.Function.{Function}
use Rattle.vm_shape.specs.declared.function.FunKind.{FunKind}
use Rattle.vm_shape.specs.declared.function.FunKind.TheVariants as kind
use Rattle.vm_shape.specs.Limits.{is_function}
use Rattle.vm_shape.specs.declared.description.Description.{Description}
use Rattle.vm_shape.proofs.DescriptionLemmas.{function_at}
use Rattle.world_rules.specs.World.{World, series_in, stream_word, called_kind, latency_of}
use Rattle.world_rules.specs.State.{is_rand_kind, answer_at}
use Rattle.world_air.specs.declared.calls.Calls.{Calls}
use Rattle.world_air.specs.declared.calls.CallAnswer.{CallAnswer}
use Rattle.world_air.specs.Calls.{times_called, words_taken, AreCallsOf, HasSensors, call_answer, value_by, words_past}

-- the series at a place is the one that is looked for, or it is passed over
pub series-here : (xs : List Series) (i node fun : ℕ) (x : Series) → i < length xs → x ≡ get_or xs i x → (x.node == node) && (x.fun.0 == fun) ≡ true → series_in (drop i xs) node fun ≡ x.values
series-here [] i node fun x below is found = absurd (omega (arith, below))
series-here (y ∷ xs) zero node fun x below is found =
    let e : (y.node == node) && (y.fun.0 == fun) ≡ true = ap (λ (z : Series). (z.node == node) && (z.fun.0 == fun)) (sym is) ∙ found in
    ap (λ (b : Bool). if b then y.values else series_in xs node fun) e ∙ ap (λ (z : Series). z.values) (sym is)
series-here (y ∷ xs) (suc i) node fun x below is found = series-here xs i node fun x (omega (arith, below)) is found

pub series-past : (xs : List Series) (i node fun : ℕ) (x : Series) → i < length xs → x ≡ get_or xs i x → (x.node == node) && (x.fun.0 == fun) ≡ false → series_in (drop i xs) node fun ≡ series_in (drop (i + 1) xs) node fun
series-past [] i node fun x below is other = absurd (omega (arith, below))
series-past (y ∷ xs) zero node fun x below is other =
    let e : (y.node == node) && (y.fun.0 == fun) ≡ false = ap (λ (z : Series). (z.node == node) && (z.fun.0 == fun)) (sym is) ∙ other in
    ap (λ (b : Bool). if b then y.values else series_in xs node fun) e
series-past (y ∷ xs) (suc i) node fun x below is other =
    let next : suc i + 1 ≡ suc (i + 1) = omega arith in
    series-past xs i node fun x (omega (arith, below)) is other ∙ ap (λ (k : ℕ). series_in (drop k (y ∷ xs)) node fun) (sym next)

-- ---- a call more

-- the answer is the value by the kind
pub answer-value : (w : World) (node : ℕ) (called : List FunId) (f : FunId) (time : ℕ) (k : FunKind) → called_kind w f ≡ k
    → answer_at w node called f time ≡ value_by (w.series node f.0) (count_by (λ g. g.0 == f.0) called) node (stream_word w (2 * node + 1) (words_taken w called)) time k
answer-value w node called f time kind.Sense e = rw e refl
answer-value w node called f time _ e = rw e refl

-- a count grows by its own
count-push : {A : Type 0} (p : A → Bool) (xs : List A) (x : A) → count_by p (xs ++ x ∷ []) ≡ count_by p xs + cond (p x) 1 0
count-push p xs x = sum_by_push (λ y. cond (p y) 1 0) xs x

words-past : (k : FunKind) (g : Lcg) (n : ℕ) → words_past k (advance 64 multiplier_64 n g) ≡ advance 64 multiplier_64 (n + cond (is_rand_kind k) 1 0) g
words-past kind.Rand g n = advance_step n g
words-past _ g n = ap (λ (m : ℕ). advance 64 multiplier_64 m g) (omega arith)

times_called-more : (called : List FunId) (f : FunId) (k : ℕ) → k ≡ f.0 → times_called (called ++ f ∷ []) k ≡ min (times_called called k + 1) (2 ^ 64 - 1)
times_called-more called f k same =
    let e : (f.0 == k) ≡ true = eq-eqb f.0 k (sym same) in
    ap (λ (n : ℕ). min n (2 ^ 64 - 1)) (count-push (λ (g : FunId). g.0 == k) called f ∙ ap (λ (b : Bool). count_by (λ (g : FunId). g.0 == k) called + cond b 1 0) e)
    ∙ omega arith

times_called-other : (called : List FunId) (f : FunId) (k : ℕ) → k ≢ f.0 → times_called (called ++ f ∷ []) k ≡ times_called called k
times_called-other called f k other =
    let e : (f.0 == k) ≡ false = ne_eqb f.0 k (λ same. other (sym same)) in
    ap (λ (n : ℕ). min n (2 ^ 64 - 1)) (count-push (λ (g : FunId). g.0 == k) called f ∙ ap (λ (b : Bool). count_by (λ (g : FunId). g.0 == k) called + cond b 1 0) e ∙ omega arith)

-- the counts and the words after a call
pub calls-more : (w : World) (node : ℕ) (called : List FunId) (f : FunId) (old new : Calls) → AreCallsOf w node called old → f.0 < length old.counts.items
    → new ≡ record { counts = record { items = slice_set old.counts.items f.0 (min (slice_index old.counts.items f.0 + 1) (2 ^ 64 - 1)) }; words = words_past (called_kind w f) old.words }
    → AreCallsOf w node (called ++ f ∷ []) new
calls-more w node called f old new are below is = subst (λ (c : Calls). AreCallsOf w node (called ++ f ∷ []) c) (sym is) (record {
  functions = length-set old.counts.items f.0 (min (slice_index old.counts.items f.0 + 1) (2 ^ 64 - 1)) ∙ are.functions;
  counts = λ k within. elim (cases_eq k f.0) [
    | inl same ↦
        ap (λ (i : ℕ). get_or (set old.counts.items f.0 (min (get_or old.counts.items f.0 0 + 1) (2 ^ 64 - 1))) i 0) same
        ∙ get_or-set_same old.counts.items f.0 (min (get_or old.counts.items f.0 0 + 1) (2 ^ 64 - 1)) 0 below
        ∙ ap (λ (n : ℕ). min (n + 1) (2 ^ 64 - 1)) (are.counts f.0 below) ∙ ap (λ (i : ℕ). min (times_called called i + 1) (2 ^ 64 - 1)) (sym same)
        ∙ sym (times_called-more called f k same)
    | inr other ↦
        get_or-set_other old.counts.items f.0 k (min (get_or old.counts.items f.0 0 + 1) (2 ^ 64 - 1)) 0 other
        ∙ are.counts k (let long = length-set old.counts.items f.0 (min (slice_index old.counts.items f.0 + 1) (2 ^ 64 - 1)) in omega (arith, within, long)) ∙ sym (times_called-other called f k other)
  ];
  words =
      ap (words_past (called_kind w f)) are.words ∙ words-past (called_kind w f) (started 64 multiplier_64 w.random (increment_of 64 (2 * node + 1))) (words_taken w called)
      ∙ ap (λ (n : ℕ). advance 64 multiplier_64 n (started 64 multiplier_64 w.random (increment_of 64 (2 * node + 1)))) (sym (count-push (λ (g : FunId). is_rand_kind (called_kind w g)) called f));
})

-- nothing was called
pub calls-none : (w : World) (node : ℕ) (counts : List ℕ) (words : Lcg) → length counts ≡ length w.description.functions.items → All (λ (n : ℕ). n ≡ 0) counts
    → words ≡ started 64 multiplier_64 w.random (increment_of 64 (2 * node + 1)) → AreCallsOf w node [] (record { counts = record { items = counts }; words = words })
calls-none w node counts words long none is = record { functions = long; counts = λ k within. none k 0 within; words = is ∙ sym (advance_none _) }

-- ---- what a description says of a function

latency-high : (devices : ℕ) (f : Function) → is_function devices f ≡ true → f.latency ≤ 60000
latency-high devices f rules = grind (arith, nat_tests, and_parts)

pub latency-at : (d : Description) (i : ℕ) (f : Function) → i < length d.functions.items → f ≡ get_or d.functions.items i f → f.latency ≤ 60000
latency-at d i f within is = latency-high (length d.devices.items) f (ap (is_function (length d.devices.items)) is ∙ function_at d i f within)

function-found : (w : World) (d : Description) (f : FunId) (x : Function) → w.description ≡ d → f.0 < length d.functions.items → x ≡ get_or d.functions.items f.0 x → slice_get w.description.functions.items f.0 ≡ Some x
function-found w d f x same within is = ap (λ (e : Description). slice_get e.functions.items f.0) same ∙ slice_get-get_or d.functions.items f.0 x within ∙ ap (λ (y : Function). Some y) (sym is)

pub kind-at : (w : World) (d : Description) (f : FunId) (x : Function) → w.description ≡ d → f.0 < length d.functions.items → x ≡ get_or d.functions.items f.0 x → called_kind w f ≡ x.kind
kind-at w d f x same within is = ap (λ (o : Option Function). option_map_or (λ (y : Function). y.kind) o kind.Id) (function-found w d f x same within is)

pub latency-is : (w : World) (d : Description) (f : FunId) (x : Function) → w.description ≡ d → f.0 < length d.functions.items → x ≡ get_or d.functions.items f.0 x → latency_of w f ≡ x.latency
latency-is w d f x same within is = ap (λ (o : Option Function). option_map_or (λ (y : Function). y.latency) o 1) (function-found w d f x same within is)

-- ---- an answer

pub answer-is : (w : World) (node : ℕ) (called : List FunId) (d : Description) (series : List Series) (old : Calls) (f : FunId) (x : Function) (now : ℕ) (value : ℤ) → HasSensors w d series → AreCallsOf w node called old
    → f.0 < length d.functions.items → x ≡ get_or d.functions.items f.0 x → f.0 < length old.counts.items
    → ((n : ℕ) → slice_index old.counts.items f.0 ≡ min n (2 ^ 64 - 1) → value ≡ value_by (series_in series node f.0) n node (pcg32 old.words).0 (now + x.latency) x.kind)
    → record { time = now + x.latency; value = value } ≡ call_answer w node called f now
answer-is w node called d series old f x now value has are within is counted_below by =
    let late : latency_of w f ≡ x.latency = latency-is w d f x has.description within is in
    let kind_is : called_kind w f ≡ x.kind = kind-at w d f x has.description within is in
    let word : (pcg32 old.words).0 ≡ stream_word w (2 * node + 1) (words_taken w called) = ap (λ (g : Lcg). (pcg32 g).0) are.words in
    let n : ℕ = count_by (λ (g : FunId). g.0 == f.0) called in
    let value_is : value ≡ answer_at w node called f (now + x.latency) =
    by n (are.counts f.0 counted_below)
    ∙ ap (λ (s : ℕ → ℕ → List ℤ). value_by (s node f.0) n node (pcg32 old.words).0 (now + x.latency) x.kind) (sym has.series)
    ∙ ap (λ (v : ℕ). value_by (w.series node f.0) n node v (now + x.latency) x.kind) word
    ∙ sym (answer-value w node called f (now + x.latency) x.kind kind_is) in
    let A : ℕ → ℤ → CallAnswer = λ l v. record { time = now + l; value = v } in
    ap (A x.latency) value_is ∙ ap (λ (l : ℕ). A l (answer_at w node called f (now + l))) (sym late)
