use Rattle.std.proofs.Common.{◌≡◌, ℕ, List, [], ◌∷◌, ◌++◌, map, sym, ap, ◌∙◌, subst, rules, arith}
use Rattle.std.specs.List.{range_with_len}
use Rattle.std.proofs.lemmas.List.FromFn.{map-range_with_len_more}
use Rattle.arrayvec.specs.ArrayVec.{ArrayVec}
use Rattle.capsule_exchange.specs.Images.{blank_image, AreImagesOf}
use Rattle.capsule_exchange.specs.Knowledge.{Knowledge}
use Rattle.capsule_exchange.proofs.SummaryLemmas.{images_none}
use Rattle.capsule_exchange.proofs.stored_exchange.StoredExchange.new.Goals as goal

pub loop-preserved : goal.loop-preserved
loop-preserved c =
    let n = c.loop.counter in
    let before = c.loop.invariant in
    let image : c.none.result ≡ blank_image = ap (λ (bytes : List ℕ). record { items = bytes }) c.none.ensures in
    record {
      so_far = c.in_ok-push.ensures.items
          ∙ ap (λ (xs : List (ArrayVec ℕ)). xs ++ c.none.result ∷ []) before.so_far
          ∙ ap (λ (x : ArrayVec ℕ). map (λ (_ : ℕ). blank_image) (range_with_len 0 n) ++ x ∷ []) image
          ∙ sym (map-range_with_len_more (λ (_ : ℕ). blank_image) 0 n n (omega arith));
      few = (let e = c.in_ok-push.ensures.len in let h = before.few in omega arith);
    }

pub invariant_of-result : goal.invariant_of-result
invariant_of-result c =
    let last : c.loop.counter ≡ c.args.handlers = omega arith in
    let images : c.loop.images.items ≡ map (λ (_ : ℕ). blank_image) (range_with_len 0 c.args.handlers) =
    c.loop.invariant.so_far ∙ ap (λ (n : ℕ). map (λ (_ : ℕ). blank_image) (range_with_len 0 n)) last in
    let made : c.in-Ok.progress.value ≡ c.new.result = search rules in
    subst (λ (k : Knowledge). AreImagesOf k c.loop.images.items) (sym (made ∙ c.new.ensures)) (images_none c.args.handlers c.loop.images.items images)
