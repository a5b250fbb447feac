-- What a node has at hand of its log, told behind the log that is in a record.
use Rattle.std.proofs.Common.{◌≡◌, ◌<◌, ◌≤◌, ◌+◌, ℕ, zero, suc, List, [], ◌∷◌, ◌++◌, length, set, map, drop, Option, Some, All, refl, sym, ◌∙◌, ap, subst, arith, length-append}
use Rattle.std.specs.Prelude.{slice_get, unwrap_or}
use Rattle.std.specs.List.{AllZip}
use Rattle.std.proofs.Math.Seq.{drop-append_seam}
use Rattle.std.proofs.lemmas.List.{length-map}
use Rattle.std.proofs.lemmas.List.Elements.{All-nil, All-cons}
use Rattle.arrayvec.specs.ArrayVec.{ArrayVec}
use Rattle.mate_num.specs.declared.store.Store.{Store}
use Rattle.mate_journal.specs.Log.{Log, IsSameLog, GoesOn}
use Rattle.mate_journal.specs.OpenLog.{gone_of, NumberFits, entry_behind, stamped_behind, joined, IsKept}
use Rattle.mate_journal.specs.Tidy.{NumbersInOrder}
use Rattle.mate_journal.specs.declared.air.Aired.{Aired}
use Rattle.mate_journal.specs.declared.entry.Entry.{Entry}
use Rattle.mate_journal.specs.declared.entry.Entry.TheVariants as entry
use Rattle.mate_journal.specs.declared.entry.Stamped.{Stamped}
use Rattle.journal_laws.specs.Growth.{IsNamedBelow, AreNamedBelow}
use Rattle.journal_laws.proofs.TidyLemmas.{NamesInLog-numbered, images-few, stores-few}
use Rattle.world_runs.specs.Records.{HasLog, FitsBehind, MayAdd, HasAdded}
use Rattle.world_runs.specs.declared.record.Record.{Record}
use Rattle.world_runs.proofs.RecordLemmas.{all-then, all-set, same-then, fits-as, joined-as}

-- what is named behind so many images and stores, below others
names-fit : (images stores i s : ℕ) (es : List Stamped) → i ≤ 4000000000 → s ≤ 4000000000 → AreNamedBelow i s (map (stamped_behind images stores) es) → All (λ (x : Stamped). NumberFits images stores x.entry) es
names-fit images stores i s [] few short named = All-nil (λ (x : Stamped). NumberFits images stores x.entry)
names-fit images stores i s (x ∷ es) few short named =
    All-cons (λ (x : Stamped). NumberFits images stores x.entry) x es (one x.entry named.0) (names-fit images stores i s es few short named.1) where
      one : (e : Entry) → IsNamedBelow i s (entry_behind images stores e) → NumberFits images stores e
      one (entry.Install h version image) low = omega (arith, low, few)
      one (entry.Seen store) low = omega (arith, low, short)
      one _ low = tt

named-behind : (i s : ℕ) (xs ys : List Stamped) → AreNamedBelow i s (xs ++ ys) → AreNamedBelow i s ys
named-behind i s [] ys named = named
named-behind i s (x ∷ xs) ys named = named-behind i s xs ys named.1

-- the log goes on from a front, and what is at hand is what stands behind that front
module _ (front all kept : Log) (goes : GoesOn front all) (is : IsKept (record { all = all; gone = gone_of front }) kept) where
  told : map (stamped_behind (length front.images) (length front.stores)) kept.entries ≡ goes.entries
  told = sym is.entries ∙ ap (drop (length front.entries)) goes.entries_are ∙ drop-append_seam front.entries goes.entries

  images_told : kept.images ≡ goes.images
  images_told = sym is.images ∙ ap (drop (length front.images)) goes.images_are ∙ drop-append_seam front.images goes.images

  stores_told : kept.stores ≡ goes.stores
  stores_told = sym is.stores ∙ ap (drop (length front.stores)) goes.stores_are ∙ drop-append_seam front.stores goes.stores

  -- so the front and it are the whole log
  pub joined-whole : IsSameLog (joined front kept) all
  joined-whole = record {
    entries = ap (λ (es : List Stamped). front.entries ++ es) told ∙ sym goes.entries_are;
    images = ap (λ (xs : List (ArrayVec ℕ)). front.images ++ xs) images_told ∙ sym goes.images_are;
    stores = ap (λ (xs : List Store). front.stores ++ xs) stores_told ∙ sym goes.stores_are;
  }

  long_entries : length front.entries + length kept.entries ≡ length all.entries
  long_entries =
      let a = ap (λ (es : List Stamped). length es) goes.entries_are ∙ length-append front.entries goes.entries in
      let b = ap (λ (es : List Stamped). length es) told in
      let c = length-map kept.entries (stamped_behind (length front.images) (length front.stores)) in
      omega (arith, a, b, c)

  long_images : length front.images + length kept.images ≡ length all.images
  long_images =
      let a = ap (λ (xs : List (ArrayVec ℕ)). length xs) goes.images_are ∙ length-append front.images goes.images in
      let b = ap (λ (xs : List (ArrayVec ℕ)). length xs) images_told in
      omega (arith, a, b)

  long_stores : length front.stores + length kept.stores ≡ length all.stores
  long_stores =
      let a = ap (λ (xs : List Store). length xs) goes.stores_are ∙ length-append front.stores goes.stores in
      let b = ap (λ (xs : List Store). length xs) stores_told in
      omega (arith, a, b)

  fits-behind : NumbersInOrder all → length all.entries < 4000000000 → FitsBehind front kept
  fits-behind numbered few =
      let images = images-few all numbered in
      let stores = stores-few all numbered in
      let i = long_images in
      let s = long_stores in
      let named : AreNamedBelow (length all.images) (length all.stores) goes.entries =
      named-behind (length all.images) (length all.stores) front.entries goes.entries
      (subst (λ (es : List Stamped). AreNamedBelow (length all.images) (length all.stores) es) goes.entries_are (NamesInLog-numbered all numbered).named) in record {
        images = omega (arith, images, i, few);
        stores = omega (arith, stores, s, few);
        names = names-fit (length front.images) (length front.stores) (length all.images) (length all.stores) kept.entries (omega (arith, images, few)) (omega (arith, stores, few))
            (subst (λ (es : List Stamped). AreNamedBelow (length all.images) (length all.stores) es) (sym told) named);
      }

  -- it may be told behind what the record has of the node, if that is the front
  pub may-add : (r : Record) (node : ℕ) → NumbersInOrder all → length all.entries < 4000000000 → ((own : Log) → HasLog r node own → IsSameLog own front) → MayAdd r node kept
  may-add r node numbered few fronts =
      let images = images-few all numbered in
      let stores = stores-few all numbered in
      let e = long_entries in
      let i = long_images in
      let s = long_stores in record {
        fits = λ own has. fits-as own front kept (fronts own has) (fits-behind numbered few);
        short = omega (arith, images, stores, e, i, s, few);
      }

  -- where it was told behind the front, the record has the whole log
  pub adds-whole : (old new : Record) (node : ℕ) (aired : List Aired) (own : Log) (logs : List Log) → HasLog old node own → IsSameLog own front → AllZip IsSameLog old.logs.items (set logs node front)
      → slice_get logs node ≡ Some all → HasAdded old new node kept aired → AllZip IsSameLog new.logs.items logs
  adds-whole old new node aired own logs has same fronts found added =
      all-then new.logs.items (set old.logs.items node (joined own kept)) logs (added.logs own has)
      (subst (λ (ls : List Log). AllZip IsSameLog (set old.logs.items node (joined own kept)) ls) (set-again logs node front all found)
      (all-set old.logs.items (set logs node front) node (joined own kept) all fronts (same-then (joined own kept) (joined front kept) all (joined-as own front kept same) joined-whole))) where
        set-again : (ls : List Log) (k : ℕ) (x y : Log) → slice_get ls k ≡ Some y → set (set ls k x) k y ≡ ls
        set-again [] k x y found = refl
        set-again (a ∷ ls) zero x y found = ap (λ (l : Log). l ∷ ls) (ap (λ (o : Option Log). unwrap_or o y) (sym found))
        set-again (a ∷ ls) (suc k) x y found = ap (λ (zs : List Log). a ∷ zs) (set-again ls k x y found)
