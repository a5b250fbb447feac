use Rattle.std.proofs.Common.{◌≡◌, ◌<◌, ℕ, ◌+◌, ◌-◌, ◌^◌, List, min, length, get_or, sym, ◌∙◌, ap, subst, arith, rules}
use Rattle.std.specs.Int.{w16}
use Rattle.std.specs.Prelude.{slice_index, slice_set}
use Rattle.std.proofs.lemmas.Int.{to_z-of_z}
use Rattle.rand_pcg.specs.Lcg.{Lcg}
use Rattle.vm_shape.specs.declared.function.Function.{Function}
use Rattle.vm_shape.specs.declared.function.FunKind.{FunKind}
use Rattle.rand_pcg.specs.Pcg.{pcg32}
use Rattle.world_rules.specs.World.{called_kind, series_in}
use Rattle.world_air.specs.declared.calls.Calls.{Calls}
use Rattle.world_air.specs.Calls.{words_past, value_by}
use Rattle.world_air.proofs.CallLemmas.{latency-at, kind-at, calls-more, answer-is}
use Rattle.world_air.proofs.calls.Calls.answer.Goals as goal

pub overflow_add-time : goal.overflow_add-time
overflow_add-time c =
    let F : ℕ → List Function → Type 0 = λ i xs. c.index-as_slice-from.result ≡ get_or xs i c.index-as_slice-from.result in
    let is : c.index-as_slice-from.result ≡ get_or c.args.desc.now.functions.items c.args.fun.0 c.index-as_slice-from.result =
    subst (λ (xs : List Function). F c.args.fun.0 xs) c.as_slice.ensures.value (subst (λ (i : ℕ). F i c.as_slice.result.now) c.from.ensures c.index-as_slice-from.is) in
    let high = latency-at c.args.desc.now c.args.fun.0 c.index-as_slice-from.result c.requires.fun is in
    let hour = c.requires.hour in
    search (rules, high, hour)

pub returns-clause-value : goal.returns-clause-value
returns-clause-value c = λ w called has are.
    let F : ℕ → List Function → Type 0 = λ i xs. c.index-as_slice-from.result ≡ get_or xs i c.index-as_slice-from.result in
    let is : c.index-as_slice-from.result ≡ get_or c.args.desc.now.functions.items c.args.fun.0 c.index-as_slice-from.result =
    subst (λ (xs : List Function). F c.args.fun.0 xs) c.as_slice.ensures.value (subst (λ (i : ℕ). F i c.as_slice.result.now) c.from.ensures c.index-as_slice-from.is) in
    let long : length c.args.self.now.counts.items ≡ length c.args.desc.now.functions.items = c.requires.counts in
    let below : c.args.fun.0 < length c.args.desc.now.functions.items = c.requires.fun in
    let words : c.count-place.new.self.words ≡ c.args.self.now.words = ap (λ (x : Calls). x.words) c.count-place.ensures.after in
    answer-is w c.args.node called c.args.desc.now c.args.series.now c.args.self.now c.args.fun c.index-as_slice-from.result c.args.now _ has are below is (omega (arith, long, below))
    (λ n e. to_z-of_z w16 c.value-value.result (search rules) ∙ c.value-value.ensures.value n (c.count-place.ensures.before ∙ e)
    ∙ ap (λ (g : Lcg). value_by (series_in c.args.series.now c.args.node c.args.fun.0) n c.args.node (pcg32 g).0 (c.args.now + c.index-as_slice-from.result.latency) c.index-as_slice-from.result.kind) words)

pub returns-clause-calls : goal.returns-clause-calls
returns-clause-calls c = λ w called has are.
    let F : ℕ → List Function → Type 0 = λ i xs. c.index-as_slice-from.result ≡ get_or xs i c.index-as_slice-from.result in
    let is : c.index-as_slice-from.result ≡ get_or c.args.desc.now.functions.items c.args.fun.0 c.index-as_slice-from.result =
    subst (λ (xs : List Function). F c.args.fun.0 xs) c.as_slice.ensures.value (subst (λ (i : ℕ). F i c.as_slice.result.now) c.from.ensures c.index-as_slice-from.is) in
    let long : length c.args.self.now.counts.items ≡ length c.args.desc.now.functions.items = c.requires.counts in
    let below : c.args.fun.0 < length c.args.desc.now.functions.items = c.requires.fun in
    let kind_is : called_kind w c.args.fun ≡ c.index-as_slice-from.result.kind = kind-at w c.args.desc.now c.args.fun c.index-as_slice-from.result has.description below is in
    let W : FunKind → Lcg → Lcg = λ k g. words_past k g in
    let C : List ℕ → Lcg → Calls = λ ns g. record { counts = record { items = ns }; words = g } in
    let counts = slice_set c.args.self.now.counts.items c.args.fun.0 (min (slice_index c.args.self.now.counts.items c.args.fun.0 + 1) (2 ^ 64 - 1)) in
    let words : c.count-place.new.self.words ≡ c.args.self.now.words = ap (λ (x : Calls). x.words) c.count-place.ensures.after in
    let all : c.value-value.new.self ≡ C counts (words_past (called_kind w c.args.fun) c.args.self.now.words) =
    c.value-value.ensures.words ∙ ap (λ (x : Calls). C x.counts.items (W c.index-as_slice-from.result.kind x.words)) c.count-place.ensures.after
    ∙ ap (λ (k : FunKind). C counts (W k c.args.self.now.words)) (sym kind_is) in
    calls-more w c.args.node called c.args.fun c.args.self.now _ are (omega (arith, long, below)) all
