use Rattle.std.proofs.Common.{◌≡◌, ℕ, List}
use Rattle.std.specs.Prelude.{flat_map}
use Rattle.std.specs.List.{zip}
use Rattle.report_writer.specs.Words.{shared_word, buffer_word}
use Rattle.report_writer.proofs.ChunkLemmas.{◌⋙◌, IsInFront-by}
use Rattle.report_writer.proofs.store_words.store_in_front.Goals as goal

zip-same : {A B : Type 0} (xs xs' : List A) (ys ys' : List B) (piece : A × B → List ℕ) → xs ≡ xs' → ys ≡ ys' → flat_map piece (zip xs ys) ≡ flat_map piece (zip xs' ys')
zip-same xs xs' ys ys' piece p q = cc

pub returns-clause-adds : goal.returns-clause-adds
returns-clause-adds g c =
    IsInFront-by (zip-same _ _ _ _ shared_word c.as_slice-3.ensures.value c.as_slice-4.ensures.value) c.shared_in_front.ensures.adds
    ⋙ IsInFront-by (zip-same _ _ _ _ buffer_word c.as_slice.ensures.value c.as_slice-2.ensures.value) c.buffers_in_front.ensures.adds
