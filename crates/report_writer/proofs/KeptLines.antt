-- The lines of what is at hand of a log, whose front is forgotten: they are those of the whole log from there on.
use Rattle.std.proofs.Common.{◌≡◌, ◌+◌, ℕ, zero, suc, List, [], ◌∷◌, ◌++◌, refl, sym, ◌∙◌, ap, arith, map, drop, codes}
use Rattle.std.specs.Prelude.{flat_map, slice_get}
use Rattle.std.proofs.lemmas.List.{drop-map, drop-drop}
use Rattle.mate_num.specs.declared.store.Store.{Store}
use Rattle.vm_shape.specs.declared.description.Description.{Description}
use Rattle.mate_journal.specs.Log.{Log}
use Rattle.mate_journal.specs.OpenLog.{OpenView, entry_behind, stamped_behind, IsKept}
use Rattle.mate_journal.specs.declared.air.Aired.{Aired}
use Rattle.mate_journal.specs.declared.entry.Entry.{Entry}
use Rattle.mate_journal.specs.declared.entry.Entry.TheVariants as entry
use Rattle.mate_journal.specs.declared.entry.Stamped.{Stamped}
use Rattle.report_writer.specs.Words.{stamp_words, handler_name, number, word, image_word, image_text, seen_words, entry_words}
use Rattle.report_writer.specs.Text.{air_line, entry_line, event_piece}

slice_get-drop : {A : Type 0} (n : ℕ) (xs : List A) (k : ℕ) → slice_get (drop n xs) k ≡ slice_get xs (n + k)
slice_get-drop zero xs k = let e : k ≡ 0 + k = omega arith in ap (slice_get xs) e
slice_get-drop (suc n) [] k = refl
slice_get-drop (suc n) (x ∷ xs) k = let e : suc (n + k) ≡ suc n + k = omega arith in slice_get-drop n xs k ∙ ap (slice_get (x ∷ xs)) e

module _ (d : Description) (v : OpenView) (kept : Log) (is : IsKept v kept) (node : ℕ) where
  abbrev moved : Stamped → Stamped
  moved = stamped_behind v.gone.images v.gone.stores

  words-same : (e : Entry) → entry_words d v.all (entry_behind v.gone.images v.gone.stores e) ≡ entry_words d kept e
  words-same (entry.Install h version image) =
      let same : slice_get v.all.images (v.gone.images + image) ≡ slice_get kept.images image =
      sym (slice_get-drop v.gone.images v.all.images image) ∙ ap (λ (xs : List _). slice_get xs image) is.images in
      ap (λ (o : _). codes " install" ++ word (handler_name d h) ++ number version ++ word (image_word (image_text o))) same
  words-same (entry.Seen store) =
      let same : slice_get v.all.stores (v.gone.stores + store) ≡ slice_get kept.stores store =
      sym (slice_get-drop v.gone.stores v.all.stores store) ∙ ap (λ (xs : List Store). slice_get xs store) is.stores in
      ap (λ (o : _). codes " seen" ++ seen_words d o) same
  words-same _ = refl

  lines-same : (es : List Stamped) → flat_map (entry_line d v.all node) (map moved es) ≡ flat_map (entry_line d kept node) es
  lines-same [] = refl
  lines-same (s ∷ es) =
      ap (λ (ws : List ℕ). (stamp_words s.stamp node ++ ws ++ codes "\n") ++ flat_map (entry_line d v.all node) (map moved es)) (words-same s.entry)
      ∙ ap (λ (ls : List ℕ). entry_line d kept node s ++ ls) (lines-same es)

  -- the lines from a position on, of those that are at hand
  pub piece-kept : (air : List Aired) (from : ℕ) → event_piece d air kept from node ≡ event_piece d air v.all (v.gone.entries + from) node
  piece-kept air from =
      let left : drop (v.gone.entries + from) v.all.entries ≡ map moved (drop from kept.entries) =
      sym (drop-drop from v.gone.entries v.all.entries) ∙ ap (drop from) is.entries ∙ drop-map moved from kept.entries in
      ap (λ (bs : List ℕ). flat_map air_line air ++ bs) (sym (ap (flat_map (entry_line d v.all node)) left ∙ lines-same (drop from kept.entries)))

  -- all that are at hand
  pub piece-all : (air : List Aired) → event_piece d air kept 0 node ≡ event_piece d air v.all v.gone.entries node
  piece-all air = let e : v.gone.entries + 0 ≡ v.gone.entries = omega arith in piece-kept air 0 ∙ ap (λ (n : ℕ). event_piece d air v.all n node) e
