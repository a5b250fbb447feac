-- A log whose images and stores are numbered in order is told by its journal: where its journal goes on, it goes on.
use Rattle.std.proofs.Common.{◌≡◌, ◌<◌, ◌≤◌, ℕ, zero, suc, ◌+◌, List, [], ◌∷◌, ◌++◌, Option, None, Some, length, map, take, refl, sym, ◌∙◌, ap, arith, append-nil, append_assoc, length-append, drop}
use Rattle.std.specs.Prelude.{flat_map, option_to_list, is_some, slice_index_or}
use Rattle.std.proofs.lemmas.Grind.{flat_map-append}
use Rattle.std.proofs.lemmas.List.{take_all, map-append}
use Rattle.arrayvec.specs.ArrayVec.{ArrayVec}
use Rattle.mate_num.specs.declared.call.Stamp.{Stamp}
use Rattle.mate_num.specs.declared.store.Store.{Store}
use Rattle.mate_journal.specs.Log.{Log, GoesOn}
use Rattle.mate_journal.specs.Machine.{HeldProgram}
use Rattle.mate_journal.specs.Journal.{JournalEntry, Installed, TimedEntry, journal_entry, journal_of, no_image, no_store, store_seen, no_program}
use Rattle.mate_journal.specs.Tidy.{image_named, store_named, names_in, below, NumbersInOrder}
use Rattle.mate_journal.specs.declared.entry.Entry.{Entry}
use Rattle.mate_journal.specs.declared.entry.Entry.TheVariants as entry
use Rattle.mate_journal.specs.declared.entry.Stamped.{Stamped}
use Rattle.journal_laws.specs.Growth.{event_of}

-- ---- the images and stores that are told

abbrev image_told : JournalEntry → Option (ArrayVec ℕ)
image_told (Installed p) = Some p.image
image_told _ = None

abbrev all_told : {A : Type 0} → (JournalEntry → Option A) → List TimedEntry → List A
all_told told es = flat_map (λ e. option_to_list (told e.told)) es

all_told-append : {A : Type 0} (told : JournalEntry → Option A) (es more : List TimedEntry) → all_told told (es ++ more) ≡ all_told told es ++ all_told told more
all_told-append told es more = flat_map-append (λ e. option_to_list (told e.told)) es more

-- the first n items, read one after another
items-below : {A : Type 0} (xs : List A) (d : A) (n : ℕ) → n ≤ length xs → map (λ k. slice_index_or xs k d) (below n) ≡ take n xs
items-below xs d zero le = refl
items-below xs d (suc n) le =
    map-append (λ k. slice_index_or xs k d) (below n) (n ∷ [])
    ∙ ap (λ ys. ys ++ slice_index_or xs n d ∷ []) (items-below xs d n (omega (arith, le)))
    ∙ take-next xs d n (omega (arith, le)) where
      take-next : {A : Type 0} (xs : List A) (d : A) (n : ℕ) → n < length xs → take n xs ++ slice_index_or xs n d ∷ [] ≡ take (suc n) xs
      take-next [] d n le = absurd (omega (arith, le))
      take-next (x ∷ xs) d zero le = refl
      take-next (x ∷ xs) d (suc n) le = ap (λ ys. x ∷ ys) (take-next xs d n (omega (arith, le)))

-- an entry tells what it names
image-of : (l : Log) (e : Entry) → option_to_list (image_told (journal_entry l e)) ≡ map (λ k. slice_index_or l.images k no_image) (option_to_list (image_named e))
image-of l (entry.Install h version image) = refl
image-of l _ = refl

store-of : (l : Log) (e : Entry) → option_to_list (store_seen (journal_entry l e)) ≡ map (λ k. slice_index_or l.stores k no_store) (option_to_list (store_named e))
store-of l (entry.Install h version image) = refl
store-of l _ = refl

told-named : {A : Type 0} (l : Log) (told : JournalEntry → Option A) (named : Entry → Option ℕ) (xs : List A) (d : A)
    → ((e : Entry) → option_to_list (told (journal_entry l e)) ≡ map (λ k. slice_index_or xs k d) (option_to_list (named e)))
    → (es : List Stamped) → all_told told (map (event_of l) es) ≡ map (λ k. slice_index_or xs k d) (names_in named es)
told-named l told named xs d each [] = refl
told-named l told named xs d each (e ∷ es) =
    ap (λ ys. ys ++ all_told told (map (event_of l) es)) (each e.entry)
    ∙ ap (λ ys. map (λ k. slice_index_or xs k d) (option_to_list (named e.entry)) ++ ys) (told-named l told named xs d each es)
    ∙ sym (map-append (λ k. slice_index_or xs k d) (option_to_list (named e.entry)) (names_in named es))

-- all that is named in order is told
told-all : {A : Type 0} (l : Log) (told : JournalEntry → Option A) (named : Entry → Option ℕ) (xs : List A) (d : A)
    → ((e : Entry) → option_to_list (told (journal_entry l e)) ≡ map (λ k. slice_index_or xs k d) (option_to_list (named e)))
    → names_in named l.entries ≡ below (length xs) → all_told told (journal_of l) ≡ xs
told-all l told named xs d each in_order =
    told-named l told named xs d each l.entries ∙ ap (map (λ k. slice_index_or xs k d)) in_order ∙ items-below xs d (length xs) (omega arith) ∙ take_all (length xs) xs (omega arith)

-- ---- the entries

-- the program that is installed, if one is
abbrev program_told : JournalEntry → HeldProgram
program_told (Installed p) = p
program_told _ = no_program

-- an entry is known by what it tells, and by the image and the store that it names
same-entry : (a b : Log) (e f : Entry) → image_named e ≡ image_named f → store_named e ≡ store_named f → journal_entry a e ≡ journal_entry b f → e ≡ f
same-entry a b (entry.Install h version image) (entry.Install g held place) images stores told =
    let handlers : h ≡ g = ap (λ (t : JournalEntry). (program_told t).handler) told in
    let versions : version ≡ held = ap (λ (t : JournalEntry). (program_told t).version) told in
    cc
same-entry a b _ (entry.Install g held place) images stores told = cc
same-entry a b _ _ images stores told = cc

-- one list of names begins another
pub record Begins (first all : List ℕ) : Type 0 where
  pub rest : List ℕ
  pub is : all ≡ first ++ rest

-- two that name or don't, each the next
same-next : (a b : Option ℕ) (is js : List ℕ) → is_some a ≡ is_some b → Begins (option_to_list a ++ is) (option_to_list b ++ js) → (a ≡ b) × Begins is js
same-next None None is js both begins = (refl, begins)
same-next None (Some j) is js both begins = cc
same-next (Some i) None is js both begins = cc
same-next (Some i) (Some j) is js both begins =
    let head : j ≡ i = ap (λ (xs : List ℕ). slice_index_or xs 0 i) begins.is in
    let tail : js ≡ is ++ begins.rest = ap (λ (xs : List ℕ). drop 1 xs) begins.is in
    (ap Some (sym head), record { rest = begins.rest; is = tail })

names-image : (l : Log) (e : Entry) → is_some (image_named e) ≡ is_some (image_told (journal_entry l e))
names-image l (entry.Install h version image) = refl
names-image l _ = refl

names-store : (l : Log) (e : Entry) → is_some (store_named e) ≡ is_some (store_seen (journal_entry l e))
names-store l (entry.Install h version image) = refl
names-store l _ = refl

-- the entries of the first log begin those of the second
entries-begin : (a b : Log) (es fs : List Stamped) (more : List TimedEntry) → map (event_of b) fs ≡ map (event_of a) es ++ more
    → Begins (names_in image_named es) (names_in image_named fs) → Begins (names_in store_named es) (names_in store_named fs) → (rest : List Stamped) × (fs ≡ es ++ rest)
entries-begin a b [] fs more is images stores = (fs, refl)
entries-begin a b (e ∷ es) [] more is images stores = cc
entries-begin a b (e ∷ es) (f ∷ fs) more is images stores =
    let head : event_of b f ≡ event_of a e = ap (λ (xs : List TimedEntry). slice_index_or xs 0 (event_of a e)) is in
    let tail : map (event_of b) fs ≡ map (event_of a) es ++ more = ap (λ (xs : List TimedEntry). drop 1 xs) is in
    let told : journal_entry b f.entry ≡ journal_entry a e.entry = ap (λ (x : TimedEntry). x.told) head in
    let stamp : f.stamp ≡ e.stamp = ap (λ (x : TimedEntry). x.stamp) head in
    let image = same-next (image_named e.entry) (image_named f.entry) (names_in image_named es) (names_in image_named fs)
    (names-image a e.entry ∙ ap (λ (t : JournalEntry). is_some (image_told t)) (sym told) ∙ sym (names-image b f.entry)) images in
    let store = same-next (store_named e.entry) (store_named f.entry) (names_in store_named es) (names_in store_named fs)
    (names-store a e.entry ∙ ap (λ (t : JournalEntry). is_some (store_seen t)) (sym told) ∙ sym (names-store b f.entry)) stores in
    let same : f.entry ≡ e.entry = same-entry b a f.entry e.entry (sym image.0) (sym store.0) told in
    let stamped : f ≡ e = ap (λ (s : Stamp). let x : Stamped = record { stamp = s; entry = f.entry } in x) stamp ∙ ap (λ (y : Entry). let x : Stamped = record { stamp = e.stamp; entry = y } in x) same in
    let later = entries-begin a b es fs more tail image.1 store.1 in
    (later.0, ap (λ (ys : List Stamped). f ∷ ys) later.1 ∙ ap (λ (x : Stamped). x ∷ (es ++ later.0)) stamped)

below-begins : (n k : ℕ) → Begins (below n) (below (n + k))
below-begins n zero = let same : n + 0 ≡ n = omega arith in record { rest = []; is = ap below same ∙ sym (append-nil (below n)) }
below-begins n (suc k) =
    let h = below-begins n k in
    let same : n + suc k ≡ suc (n + k) = omega arith in record {
      rest = h.rest ++ (n + k) ∷ [];
      is = ap below same ∙ ap (λ (xs : List ℕ). xs ++ (n + k) ∷ []) h.is ∙ append_assoc (below n) h.rest ((n + k) ∷ []);
    }

names-begin : {A : Type 0} (named : Entry → Option ℕ) (es fs : List Stamped) (xs ys more : List A) → names_in named es ≡ below (length xs) → names_in named fs ≡ below (length ys)
    → ys ≡ xs ++ more → Begins (names_in named es) (names_in named fs)
names-begin {A} named es fs xs ys more a b is =
    let long : length ys ≡ length xs + length more = ap (λ (zs : List A). length zs) is ∙ length-append xs more in
    let h = below-begins (length xs) (length more) in
    record { rest = h.rest; is = b ∙ ap below long ∙ h.is ∙ ap (λ (ns : List ℕ). ns ++ h.rest) (sym a) }

-- where the journal goes on, the log does
pub GoesOn-journal : (a b : Log) (more : List TimedEntry) → NumbersInOrder a → NumbersInOrder b → journal_of b ≡ journal_of a ++ more → GoesOn a b
GoesOn-journal a b more na nb is =
    let images : b.images ≡ a.images ++ all_told image_told more =
    sym (told-all b image_told image_named b.images no_image (image-of b) nb.images) ∙ ap (all_told image_told) is ∙ all_told-append image_told (journal_of a) more
    ∙ ap (λ (xs : List (ArrayVec ℕ)). xs ++ all_told image_told more) (told-all a image_told image_named a.images no_image (image-of a) na.images) in
    let stores : b.stores ≡ a.stores ++ all_told store_seen more =
    sym (told-all b store_seen store_named b.stores no_store (store-of b) nb.stores) ∙ ap (all_told store_seen) is ∙ all_told-append store_seen (journal_of a) more
    ∙ ap (λ (xs : List Store). xs ++ all_told store_seen more) (told-all a store_seen store_named a.stores no_store (store-of a) na.stores) in
    let entries = entries-begin a b a.entries b.entries more is
    (names-begin image_named a.entries b.entries a.images b.images (all_told image_told more) na.images nb.images images)
    (names-begin store_named a.entries b.entries a.stores b.stores (all_told store_seen more) na.stores nb.stores stores) in
    record { entries = entries.0; images = all_told image_told more; stores = all_told store_seen more; entries_are = entries.1; images_are = images; stores_are = stores }
