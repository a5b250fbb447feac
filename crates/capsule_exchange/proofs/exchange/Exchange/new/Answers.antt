use Rattle.std.proofs.Common.{◌≡◌, ℕ, List, [], ◌∷◌, ◌++◌, map, sym, ap, ◌∙◌, subst, arith}
use Rattle.std.specs.List.{range_with_len}
use Rattle.std.proofs.lemmas.List.FromFn.{map-range_with_len_more}
use Rattle.arrayvec.specs.ArrayVec.{ArrayVec}
use Rattle.capsule_exchange.specs.Images.{blank_image, AreImagesOf}
use Rattle.capsule_exchange.specs.Knowledge.{Knowledge}
use Rattle.capsule_exchange.proofs.SummaryLemmas.{images_none}
use Rattle.capsule_exchange.proofs.exchange.Exchange.new.Goals as goal

pub loop-preserved : goal.loop-preserved
loop-preserved c =
    let n = c.loop.counter in
    let before = c.loop.invariant in
    let image : c.new.result ≡ blank_image = ap (λ (bytes : List ℕ). record { items = bytes }) c.new.ensures in
    record {
      so_far = c.push.ensures.items
          ∙ ap (λ (xs : List (ArrayVec ℕ)). xs ++ c.new.result ∷ []) before.so_far
          ∙ ap (λ (x : ArrayVec ℕ). map (λ (_ : ℕ). blank_image) (range_with_len 0 n) ++ x ∷ []) image
          ∙ sym (map-range_with_len_more (λ (_ : ℕ). blank_image) 0 n n (omega arith));
      few = (let e = c.push.ensures.len in let h = before.few in omega arith);
    }

pub invariant_of-result : goal.invariant_of-result
invariant_of-result c =
    let last : c.loop.counter ≡ c.args.handlers = omega arith in
    let images : c.loop.images.items ≡ map (λ (_ : ℕ). blank_image) (range_with_len 0 c.args.handlers) =
    c.loop.invariant.so_far ∙ ap (λ (n : ℕ). map (λ (_ : ℕ). blank_image) (range_with_len 0 n)) last in
    subst (λ (k : Knowledge). AreImagesOf k c.loop.images.items) (sym c.new-2.ensures) (images_none c.args.handlers c.loop.images.items images)
