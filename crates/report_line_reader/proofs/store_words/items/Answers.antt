use Rattle.std.proofs.Common.{sym, ◌∙◌, ap, arith, rules, Some, List, [], ◌∷◌, ◌++◌, ℕ, FitsSigned}
use Rattle.std.specs.Prelude.{ℤ}
use Rattle.std.specs.Int.{w16}
use Rattle.std.proofs.lemmas.Int.{to_z-of_z}
use Rattle.report_line_reader.proofs.ItemLemmas.{item_full, item_bad_last, item_last, item_bad}
use Rattle.report_line_reader.proofs.store_words.items.Goals as goal

pub returns-in_err-value : goal.returns-in_err-value
returns-in_err-value c =
    rw c.from_residual.ensures
    (item_bad_last c.loop-word.values.items c.loop-word.word.now c.in-Some.inner.now c.loop-word.words (omega arith) (sym c.in-Some.ensures) (sym c.value.ensures ∙ c.in_err-value.was)
    ∙ c.loop-word.invariant)

pub returns-in-Some : goal.returns-in-Some
returns-in-Some c =
    let fits : FitsSigned w16 c.in_ok-value.field-0 = search rules in
    ap (λ (items : List ℤ). Some (let pair : List ℤ × List (List ℕ) = (items, c.loop-word.words) in pair)) (c.push.ensures.items ∙ ap (λ (v : ℤ). c.loop-word.values.items ++ v ∷ []) (to_z-of_z w16 c.in_ok-value.field-0 fits))
    ∙ item_last c.loop-word.values.items c.loop-word.word.now c.in-Some.inner.now c.loop-word.words c.in_ok-value.field-0 (omega arith) (sym c.in-Some.ensures) (sym c.value.ensures ∙ c.in_ok-value.was)
    ∙ c.loop-word.invariant

pub returns-in_err-value-2 : goal.returns-in_err-value-2
returns-in_err-value-2 c =
    rw c.from_residual-in_err-value-2.ensures
    (item_bad c.loop-word.values.items c.loop-word.word.now c.loop-word.words (omega arith) (sym c.in_default.ensures) (sym c.value-in-loop-word.ensures ∙ c.in_err-value-2.was)
    ∙ c.loop-word.invariant)

pub returns : goal.returns
returns c = item_full c.loop-word.values.items c.loop-word.word.now c.loop-word.words (omega arith) ∙ c.loop-word.invariant
