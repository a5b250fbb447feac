-- A log that goes on stays in the ranges of its types, if what is added is in them.
use Rattle.std.proofs.Common.{◌≡◌, ◌≤◌, ◌+◌, ◌-◌, ℕ, zero, suc, List, [], ◌∷◌, ◌++◌, length, map, drop, sym, ◌∙◌, ap, subst, arith}
use Rattle.std.specs.Prelude.{All}
use Rattle.std.proofs.Math.Seq.{drop-append_seam, drop-nil}
use Rattle.std.proofs.lemmas.List.{drop-map, length-append, length-drop, length-map}
use Rattle.std.proofs.lemmas.List.Elements.{All-nil, All-cons, All-head, All-tail, All-append}
use Rattle.arrayvec.specs.ArrayVec.{ArrayVec}
use Rattle.mate_num.specs.declared.store.Store.{Store}
use Rattle.mate_journal.specs.Log.{Log, IsEmpty, IsSameLog, GoesOn}
use Rattle.mate_journal.specs.OpenLog.{Gone, nothing_gone, gone_of, entry_behind, stamped_behind, IsKept}
use Rattle.mate_journal.specs.Entries.{HasEntryRanges}
use Rattle.mate_journal.specs.Ranges.{HasStampedRanges, HasImageRanges, HasStoreRanges, HasLogRanges}
use Rattle.mate_journal.specs.declared.entry.Entry.{Entry}
use Rattle.mate_journal.specs.declared.entry.Entry.TheVariants as entry
use Rattle.mate_journal.specs.declared.entry.Stamped.{Stamped}
use Rattle.journal_laws.specs.InRange.{IsSizeOf, IsInRangeFrom, IsInRange}
use Rattle.journal_laws.specs.declared.growth.LogSize.{LogSize}

-- ---- lists

pub drop-drop : {A : Type 0} (m n : ℕ) (xs : List A) → drop n (drop m xs) ≡ drop (m + n) xs
drop-drop zero n xs = let e : n ≡ 0 + n = omega arith in ap (λ (k : ℕ). drop k xs) e
drop-drop (suc m) n [] = drop-nil n ∙ sym (drop-nil (suc m + n))
drop-drop (suc m) n (x ∷ xs) = let e : suc (m + n) ≡ suc m + n = omega arith in drop-drop m n xs ∙ ap (λ (k : ℕ). drop k (x ∷ xs)) e

-- what a list goes on with stands behind what it had
pub more-is : {A : Type 0} (old new more : List A) → new ≡ old ++ more → drop (length old) new ≡ more
more-is old new more is = ap (λ xs. drop (length old) xs) is ∙ drop-append_seam old more

-- so much of what is at hand was at hand before
pub at-hand : {A : Type 0} (gone count : ℕ) (old held : List A) → drop gone old ≡ held → gone ≤ length old → count ≡ length held → gone + count ≡ length old
at-hand gone count old held is within size =
    let long : length held ≡ length old - gone = ap (λ xs. length xs) (sym is) ∙ length-drop gone old in
    omega (arith, within, size, long)

-- a list in which P holds goes on, and P holds of what stands behind so many of those at hand
pub goes-on : {A : Type 0} (P : A → Type 0) (gone count : ℕ) (old new more : List A) → new ≡ old ++ more → gone + count ≡ length old → All P old → All P (drop count (drop gone new)) → All P new
goes-on P gone count old new more is here all rest =
    let behind : drop count (drop gone new) ≡ more = drop-drop gone count new ∙ ap (λ (n : ℕ). drop n new) here ∙ more-is old new more is in
    subst (λ xs. All P xs) (sym is) (All-append P old more all (subst (λ xs. All P xs) behind rest))

-- ---- entries whose images and stores are numbered anew

entry-behind : (images stores : ℕ) (e : Entry) → HasEntryRanges e → HasEntryRanges (entry_behind images stores e)
entry-behind images stores (entry.Post n h c payload) has = has
entry-behind images stores _ has = has

stamped-behind : (images stores : ℕ) (es : List Stamped) → All HasStampedRanges es → All HasStampedRanges (map (stamped_behind images stores) es)
stamped-behind images stores [] all = All-nil HasStampedRanges
stamped-behind images stores (e ∷ es) all =
    let first = All-head HasStampedRanges e es all in
    All-cons HasStampedRanges (stamped_behind images stores e) (map (stamped_behind images stores) es) (record { stamp = first.stamp; entry = entry-behind images stores e.entry first.entry })
    (stamped-behind images stores es (All-tail HasStampedRanges e es all))

-- ---- logs

-- nothing was told
pub none-in-range : (l : Log) → IsEmpty l → IsInRange l nothing_gone
none-in-range l empty = record {
  ranges = record {
    entries = subst (λ xs. All HasStampedRanges xs) (sym empty.entries) (All-nil HasStampedRanges);
    images = subst (λ xs. All HasImageRanges xs) (sym empty.images) (All-nil HasImageRanges);
    stores = subst (λ xs. All HasStoreRanges xs) (sym empty.stores) (All-nil HasStoreRanges);
  };
  entries = omega arith;
  images = omega arith;
  stores = omega arith;
}

pub same-ranges : (a b : Log) → IsSameLog a b → HasLogRanges b → HasLogRanges a
same-ranges a b same has = record {
  entries = subst (λ xs. All HasStampedRanges xs) (sym same.entries) has.entries;
  images = subst (λ xs. All HasImageRanges xs) (sym same.images) has.images;
  stores = subst (λ xs. All HasStoreRanges xs) (sym same.stores) has.stores;
}

-- the same log, of which as much is gone
pub same-in-range : (a b : Log) (gone gone' : Gone) → IsSameLog a b → gone' ≡ gone → IsInRange b gone → IsInRange a gone'
same-in-range a b gone gone' same is has =
    let entries = has.entries in
    let images = has.images in
    let stores = has.stores in
    let long = ap (λ (xs : List Stamped). length xs) same.entries in
    let imaged = ap (λ (xs : List (ArrayVec ℕ)). length xs) same.images in
    let stored = ap (λ (xs : List Store). length xs) same.stores in
    subst (IsInRange a) (sym is) (record { ranges = same-ranges a b same has.ranges; entries = omega (arith, entries, long); images = omega (arith, images, imaged); stores = omega (arith, stores, stored) })

-- all of it is gone
pub forgotten-in-range : (a b : Log) (gone : Gone) → IsSameLog a b → gone ≡ gone_of b → HasLogRanges b → IsInRange a gone
forgotten-in-range a b gone same is has =
    same-in-range a b (gone_of b) gone same is (record { ranges = has; entries = omega arith; images = omega arith; stores = omega arith })

-- the log goes on, and what is told more is in range
pub log-goes-on : (old new kept kept' : Log) (gone gone' : Gone) (size : LogSize) → IsKept (record { all = old; gone = gone }) kept → IsSizeOf size kept → GoesOn old new → gone' ≡ gone
    → IsKept (record { all = new; gone = gone' }) kept' → IsInRangeFrom size kept' → IsInRange old gone → IsInRange new gone'
log-goes-on old new kept kept' gone gone' size held sized more same held' rest has =
    let held_now : IsKept (record { all = new; gone = gone }) kept' = subst (λ (g : Gone). IsKept (record { all = new; gone = g }) kept') same held' in
    let entries = has.entries in
    let images = has.images in
    let stores = has.stores in
    let long = ap (λ (xs : List Stamped). length xs) more.entries_are ∙ length-append old.entries more.entries in
    let imaged = ap (λ (xs : List (ArrayVec ℕ)). length xs) more.images_are ∙ length-append old.images more.images in
    let stored = ap (λ (xs : List Store). length xs) more.stores_are ∙ length-append old.stores more.stores in
    let moved : Stamped → Stamped = stamped_behind gone.images gone.stores in
    let count : size.entries ≡ length (map moved kept.entries) = sized.entries ∙ sym (length-map kept.entries moved) in
    let new_entries : All HasStampedRanges (drop size.entries (drop gone.entries new.entries)) =
    subst (λ xs. All HasStampedRanges (drop size.entries xs)) (sym held_now.entries)
    (subst (λ xs. All HasStampedRanges xs) (sym (drop-map moved size.entries kept'.entries)) (stamped-behind gone.images gone.stores (drop size.entries kept'.entries) rest.entries)) in
    let new_images : All HasImageRanges (drop size.images (drop gone.images new.images)) = subst (λ xs. All HasImageRanges (drop size.images xs)) (sym held_now.images) rest.images in
    let new_stores : All HasStoreRanges (drop size.stores (drop gone.stores new.stores)) = subst (λ xs. All HasStoreRanges (drop size.stores xs)) (sym held_now.stores) rest.stores in
    subst (IsInRange new) (sym same) (record {
      ranges = record {
        entries = goes-on HasStampedRanges gone.entries size.entries old.entries new.entries more.entries more.entries_are
            (at-hand gone.entries size.entries old.entries (map moved kept.entries) held.entries entries count) has.ranges.entries new_entries;
        images = goes-on HasImageRanges gone.images size.images old.images new.images more.images more.images_are
            (at-hand gone.images size.images old.images kept.images held.images images sized.images) has.ranges.images new_images;
        stores = goes-on HasStoreRanges gone.stores size.stores old.stores new.stores more.stores more.stores_are
            (at-hand gone.stores size.stores old.stores kept.stores held.stores stores sized.stores) has.ranges.stores new_stores;
      };
      entries = omega (arith, entries, long);
      images = omega (arith, images, imaged);
      stores = omega (arith, stores, stored);
    })
