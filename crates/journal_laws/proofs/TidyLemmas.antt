-- How a log stays tidy: what each entry that is appended, with its image or store, asks.
use Rattle.std.proofs.Common.{◌≡◌, ◌<◌, ◌≤◌, ℕ, zero, suc, List, [], ◌∷◌, ◌++◌, Option, None, Some, length, map, refl, sym, ◌∙◌, ap, subst, arith, append-nil, length-append}
use Rattle.std.specs.Prelude.{All, option_to_list}
use Rattle.std.proofs.lemmas.Grind.{flat_map-append}
use Rattle.std.proofs.lemmas.List.Elements.{All-nil, All-cons, All-append, All-head, All-tail}
use Rattle.arrayvec.specs.ArrayVec.{ArrayVec}
use Rattle.mate_num.specs.declared.call.Stamp.{Stamp}
use Rattle.mate_num.specs.declared.id.HandlerId.{HandlerId}
use Rattle.mate_num.specs.declared.store.Store.{Store}
use Rattle.vm_shape.specs.declared.description.Description.{Description}
use Rattle.mate_journal.specs.Log.{Log, IsEmpty}
use Rattle.mate_journal.specs.WellFormed.{IsInTime, StampsRise}
use Rattle.mate_journal.specs.Journal.{journal_of}
use Rattle.mate_journal.specs.Entries.{IsEntryInRange}
use Rattle.mate_journal.specs.Tidy.{image_named, store_named, names_in, below, IsStoreOf, EventsRise, entry_event, NumbersInOrder}
use Rattle.mate_journal.specs.declared.entry.Entry.{Entry}
use Rattle.mate_journal.specs.declared.entry.Entry.TheVariants as entry
use Rattle.mate_journal.specs.declared.entry.Stamped.{Stamped}
use Rattle.journal_laws.specs.Growth.{event_of, IsNamedBelow, AreNamedBelow, NamesInLog}

-- ---- numbering

names_in-append : (named : Entry → Option ℕ) (es more : List Stamped) → names_in named (es ++ more) ≡ names_in named es ++ names_in named more
names_in-append named es more = flat_map-append (λ e. option_to_list (named e.entry)) es more

-- one more entry
names_in-push : (named : Entry → Option ℕ) (es : List Stamped) (s : Stamped) → names_in named (es ++ s ∷ []) ≡ names_in named es ++ option_to_list (named s.entry)
names_in-push named es s =
    names_in-append named es (s ∷ []) ∙ ap (λ (ns : List ℕ). names_in named es ++ ns) (append-nil (option_to_list (named s.entry)))

-- an entry that names nothing
names-same : {A : Type 0} (named : Entry → Option ℕ) (es after : List Stamped) (s : Stamped) (xs ys : List A) → after ≡ es ++ s ∷ [] → named s.entry ≡ None → ys ≡ xs
    → names_in named es ≡ below (length xs) → names_in named after ≡ below (length ys)
names-same {A} named es after s xs ys pushed none same is =
    ap (names_in named) pushed ∙ names_in-push named es s ∙ ap (λ (o : Option ℕ). names_in named es ++ option_to_list o) none
    ∙ append-nil (names_in named es) ∙ is ∙ ap (λ (zs : List A). below (length zs)) (sym same)

-- an entry that names the next, which is added
names-next : {A : Type 0} (named : Entry → Option ℕ) (es after : List Stamped) (s : Stamped) (xs ys : List A) (x : A) → after ≡ es ++ s ∷ [] → named s.entry ≡ Some (length xs)
    → ys ≡ xs ++ x ∷ [] → names_in named es ≡ below (length xs) → names_in named after ≡ below (length ys)
names-next {A} named es after s xs ys x pushed next added is =
    let long : length (xs ++ x ∷ []) ≡ suc (length xs) = length-append xs (x ∷ []) ∙ omega arith in
    ap (names_in named) pushed ∙ names_in-push named es s ∙ ap (λ (o : Option ℕ). names_in named es ++ option_to_list o) next
    ∙ ap (λ (ns : List ℕ). ns ++ length xs ∷ []) is ∙ sym (ap below (ap (λ (zs : List A). length zs) added ∙ long))

pub NumbersInOrder-empty : (l : Log) → IsEmpty l → NumbersInOrder l
NumbersInOrder-empty l none = record {
  images = ap (names_in image_named) none.entries ∙ sym (ap (λ (is : List (ArrayVec ℕ)). below (length is)) none.images);
  stores = ap (names_in store_named) none.entries ∙ sym (ap (λ (ss : List Store). below (length ss)) none.stores);
}

-- an entry that names neither an image nor a store
pub NumbersInOrder-push : (l after : Log) (s : Stamped) → after.entries ≡ l.entries ++ s ∷ [] → after.images ≡ l.images → after.stores ≡ l.stores
    → image_named s.entry ≡ None → store_named s.entry ≡ None → NumbersInOrder l → NumbersInOrder after
NumbersInOrder-push l after s entries images stores no_image no_store n = record {
  images = names-same image_named l.entries after.entries s l.images after.images entries no_image images n.images;
  stores = names-same store_named l.entries after.entries s l.stores after.stores entries no_store stores n.stores;
}

-- a store that is seen
pub NumbersInOrder-seen : (l after : Log) (at : Stamp) (store : Store) → after.entries ≡ l.entries ++ record { stamp = at; entry = entry.Seen (length l.stores) } ∷ [] → after.images ≡ l.images
    → after.stores ≡ l.stores ++ store ∷ [] → NumbersInOrder l → NumbersInOrder after
NumbersInOrder-seen l after at store entries images stores n =
    let s : Stamped = record { stamp = at; entry = entry.Seen (length l.stores) } in record {
      images = names-same image_named l.entries after.entries s l.images after.images entries refl images n.images;
      stores = names-next store_named l.entries after.entries s l.stores after.stores store entries refl stores n.stores;
    }

-- an install with its image
pub NumbersInOrder-install : (l after : Log) (at : Stamp) (h : HandlerId) (version : ℕ) (image : ArrayVec ℕ)
    → after.entries ≡ l.entries ++ record { stamp = at; entry = entry.Install h version (length l.images) } ∷ [] → after.images ≡ l.images ++ image ∷ []
    → after.stores ≡ l.stores → NumbersInOrder l → NumbersInOrder after
NumbersInOrder-install l after at h version image entries images stores n =
    let s : Stamped = record { stamp = at; entry = entry.Install h version (length l.images) } in record {
      images = names-next image_named l.entries after.entries s l.images after.images image entries refl images n.images;
      stores = names-same store_named l.entries after.entries s l.stores after.stores entries refl stores n.stores;
    }

-- ---- what follows: the names are in the log, and there are no more of them than entries

below-All : (m n : ℕ) → n ≤ m → All (λ (k : ℕ). k < m) (below n)
below-All m zero le = All-nil (λ (k : ℕ). k < m)
below-All m (suc n) le =
    All-append (λ (k : ℕ). k < m) (below n) (n ∷ []) (below-All m n (omega (arith, le))) (All-cons (λ (k : ℕ). k < m) n [] (omega (arith, le)) (All-nil (λ (k : ℕ). k < m)))

length-below : (n : ℕ) → length (below n) ≡ n
length-below zero = refl
length-below (suc n) = length-append (below n) (n ∷ []) ∙ (let e = length-below n in omega arith)

entry-named : (images stores : ℕ) (e : Entry) → All (λ (k : ℕ). k < images) (option_to_list (image_named e)) → All (λ (k : ℕ). k < stores) (option_to_list (store_named e)) → IsNamedBelow images stores e
entry-named images stores (entry.Install h version image) is ss = All-head (λ (k : ℕ). k < images) image [] is
entry-named images stores (entry.Seen store) is ss = All-head (λ (k : ℕ). k < stores) store [] ss
entry-named images stores _ is ss = tt

named-parts : (P : ℕ → Type 0) (o : Option ℕ) (ns : List ℕ) → All P (option_to_list o ++ ns) → All P (option_to_list o) × All P ns
named-parts P None ns all = (All-nil P, all)
named-parts P (Some k) ns all = (All-cons P k [] (All-head P k ns all) (All-nil P), All-tail P k ns all)

all-named : (images stores : ℕ) (es : List Stamped) → All (λ (k : ℕ). k < images) (names_in image_named es) → All (λ (k : ℕ). k < stores) (names_in store_named es) → AreNamedBelow images stores es
all-named images stores [] is ss = tt
all-named images stores (e ∷ es) is ss =
    let i = named-parts (λ (k : ℕ). k < images) (image_named e.entry) (names_in image_named es) is in
    let s = named-parts (λ (k : ℕ). k < stores) (store_named e.entry) (names_in store_named es) ss in
    (entry-named images stores e.entry i.0 s.0, all-named images stores es i.1 s.1)

pub NamesInLog-numbered : (l : Log) → NumbersInOrder l → NamesInLog l
NamesInLog-numbered l n = record {
  named = all-named (length l.images) (length l.stores) l.entries
      (subst (All (λ (k : ℕ). k < length l.images)) (sym n.images) (below-All (length l.images) (length l.images) (omega arith)))
      (subst (All (λ (k : ℕ). k < length l.stores)) (sym n.stores) (below-All (length l.stores) (length l.stores) (omega arith)));
}

names-few : (named : Entry → Option ℕ) (es : List Stamped) → length (names_in named es) ≤ length es
names-few named [] = omega arith
names-few named (e ∷ es) =
    let few = names-few named es in
    let one = at_most_one (named e.entry) in
    let sum = length-append (option_to_list (named e.entry)) (names_in named es) in omega (arith, few, one, sum) where
      at_most_one : (o : Option ℕ) → length (option_to_list o) ≤ 1
      at_most_one None = omega arith
      at_most_one (Some k) = omega arith

pub images-few : (l : Log) → NumbersInOrder l → length l.images ≤ length l.entries
images-few l n = let few = names-few image_named l.entries in let e = sym (length-below (length l.images)) ∙ sym (ap (λ (ns : List ℕ). length ns) n.images) in omega (arith, few, e)

pub stores-few : (l : Log) → NumbersInOrder l → length l.stores ≤ length l.entries
stores-few l n = let few = names-few store_named l.entries in let e = sym (length-below (length l.stores)) ∙ sym (ap (λ (ns : List ℕ). length ns) n.stores) in omega (arith, few, e)

-- ---- ranges, lengths and order

pub in_range-push : (d : Description) (es : List Stamped) (s : Stamped) → IsEntryInRange d s.entry → All (λ (e : Stamped). IsEntryInRange d e.entry) es → All (λ (e : Stamped). IsEntryInRange d e.entry) (es ++ s ∷ [])
in_range-push d es s one all =
    let P : Stamped → Type 0 = λ e. IsEntryInRange d e.entry in
    All-append P es (s ∷ []) all (All-cons P s [] one (All-nil P))

pub lengths-add : (d : Description) (stores : List Store) (store : Store) → IsStoreOf d store → All (IsStoreOf d) stores → All (IsStoreOf d) (stores ++ store ∷ [])
lengths-add d stores store one all = All-append (IsStoreOf d) stores (store ∷ []) all (All-cons (IsStoreOf d) store [] one (All-nil (IsStoreOf d)))

ordered-from : (l : Log) (es : List Stamped) (last : Stamp) → IsInTime last (map (event_of l) es) → EventsRise entry_event last.event es
ordered-from l [] last in_time = tt
ordered-from l (e ∷ es) last in_time = (in_time.0.event, ordered-from l es e.stamp in_time.1)

-- a journal in time is in order of its events
pub ordered-in_time : (l : Log) → StampsRise (journal_of l) → EventsRise entry_event 0 l.entries
ordered-in_time l = by l.entries where
  by : (es : List Stamped) → StampsRise (map (event_of l) es) → EventsRise entry_event 0 es
  by [] rise = tt
  by (e ∷ es) rise = (omega arith, ordered-from l es e.stamp rise)
