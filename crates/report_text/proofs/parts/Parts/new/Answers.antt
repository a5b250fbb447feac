use Rattle.std.proofs.Common.{◌≡◌, ◌<◌, ℕ, zero, suc, ◌+◌, List, [], ◌∷◌, ◌++◌, length, get_or, None, refl, sym, ◌∙◌, ap, subst, length-append, arith}
use Rattle.std.specs.Prelude.{All}
use Rattle.std.proofs.lemmas.List.Elements.{All-append}
use Rattle.mate_journal.specs.Log.{Log, IsEmpty}
use Rattle.report_text.proofs.PartLemmas.{no_read}
use Rattle.report_text.proofs.parts.Parts.new.Goals as goal

one_empty : (l : Log) → IsEmpty l → (k : ℕ) (d : Log) → k < length (l ∷ []) → IsEmpty (get_or (l ∷ []) k d)
one_empty l empty zero d below = empty
one_empty l empty (suc k) d below = absurd (omega arith)

-- one more log, which is empty
empty_more : (xs ys : List Log) (l : Log) (n : ℕ) → ys ≡ xs ++ l ∷ [] → length xs ≡ n → All IsEmpty xs → IsEmpty l → (length ys ≡ n + 1) × All IsEmpty ys
empty_more xs ys l n is count all empty = (
  ap (λ (zs : List Log). length zs) is ∙ length-append xs (l ∷ []) ∙ ap (λ (k : ℕ). k + 1) count,
  subst (λ (zs : List Log). All IsEmpty zs) (sym is) (All-append IsEmpty xs (l ∷ []) all (one_empty l empty)),
)

pub loop-node-init : goal.loop-node-init
loop-node-init c =
    let none : length c.new-logs.result.items ≡ 0 = ap (λ (xs : List Log). length xs) c.new-logs.ensures.items in
    (none, λ k d below. absurd (omega (arith, none, below)))

pub loop-node-preserved : goal.loop-node-preserved
loop-node-preserved c =
    empty_more c.loop-node.logs.items c.push.new.self.items c.new.result c.loop-node._node c.in_ok-push.ensures.items c.loop-node.invariant.0 c.loop-node.invariant.1
    (record { entries = c.new.ensures.entries; images = c.new.ensures.images; stores = c.new.ensures.stores })

pub returns : goal.returns
returns c = λ d.
    let i = c.loop-node.invariant in
    let n = i.0 in
    let over = c.loop-node-test.false in
    let at = c.loop-node.auto._node-end in
    no_read d (record { logs = c.loop-node.logs; air = c.new-2.result; place = None; count = 0; nodes = 0 }) (omega (arith, n, over, at)) i.1 c.new-2.ensures refl refl refl
