use Rattle.std.proofs.Common.{◌≡◌, ◌∙◌, ℕ, List, [], ◌∷◌, ◌++◌, replicate, ap, sym, arith}
use Rattle.std.proofs.lemmas.List.{append-nil}
use Rattle.script_reader.specs.Source.{source_of}
use Rattle.script_reader.proofs.ListLemmas.{replicate_push}
use Rattle.script_reader.proofs.made.add_sources.Goals as goal

pub loop-init : goal.loop-init
loop-init c = sym (append-nil c.args.sources.now)

pub loop-preserved : goal.loop-preserved
loop-preserved c =
    let text : List ℕ = source_of c.args.desc.now c.args.version in
    let before : List (List ℕ) = c.args.sources.now in
    c.in_ok-push.ensures ∙ ap (λ (ss : List (List ℕ)). ss ++ c.in_ok-source_of.field-0 ∷ []) c.loop.invariant
    ∙ ap (λ (t : List ℕ). (before ++ replicate c.loop.counter text) ++ t ∷ []) c.in_ok-source_of.ensures.value ∙ sym (replicate_push before c.loop.counter text)

pub returns : goal.returns
returns c =
    let high = c.loop.auto.counter-end in
    let low = c.loop-test.false in
    let all : c.loop.counter ≡ c.len-end.result = omega (arith, high, low) in
    c.loop.invariant ∙ ap (λ (n : ℕ). c.args.sources.now ++ replicate n (source_of c.args.desc.now c.args.version)) (all ∙ c.len-end.ensures.value)
