-- What is recorded of a world's run.
use Rattle.std.proofs.Common.{◌≡◌, ◌<◌, ◌≤◌, ◌+◌, ℕ, zero, suc, List, [], ◌∷◌, ◌++◌, length, set, drop, get_or, Option, Some, None, All, refl, sym, ◌∙◌, ap, subst, arith, length-append, append-nil, inl, inr, ◌⊎◌}
use Rattle.std.specs.Prelude.{slice_get, unwrap_or, option_to_list}
use Rattle.std.specs.List.{AllZip}
use Rattle.std.proofs.lemmas.Grind.{flat_map-append}
use Rattle.std.proofs.Math.Seq.{drop-append_seam}
use Rattle.std.proofs.lemmas.Bool.{cases_eq}
use Rattle.std.proofs.lemmas.Option.{slice_get-get_or}
use Rattle.std.proofs.lemmas.List.{length-map, length-set}
use Rattle.std.proofs.lemmas.List.Elements.{All-cons}
use Rattle.event_queue.proofs.WheelLemmas.{slice_get_set_same}
use Rattle.arrayvec.specs.ArrayVec.{ArrayVec}
use Rattle.journal_laws.proofs.GoesOnLemmas.{GoesOn-journal}
use Rattle.mate_num.specs.declared.call.Stamp.{Stamp}
use Rattle.mate_num.specs.declared.store.Store.{Store}
use Rattle.mate_journal.specs.Log.{Log, IsSameLog, IsEmpty, GoesOn}
use Rattle.mate_journal.specs.Journal.{journal_of, journal_entry, TimedEntry as Entered}
use Rattle.mate_journal.specs.OpenLog.{Gone, nothing_gone, gone_of, joined, IsKept}
use Rattle.mate_journal.specs.Tidy.{NumbersInOrder, image_named, store_named, names_in, below}
use Rattle.mate_journal.specs.declared.air.Aired.{Aired}
use Rattle.mate_journal.specs.declared.entry.Entry.{Entry}
use Rattle.mate_journal.specs.declared.entry.Entry.TheVariants as entry
use Rattle.mate_journal.specs.declared.entry.Stamped.{Stamped}
use Rattle.report_text.proofs.TripLemmas.{zip-sym}
use Rattle.radio_sim.specs.Radio.{Ether}
use Rattle.world_runs.specs.Records.{HasLog, IsEmptyRecord, IsSameRecord, MayAdd, HasAdded, HaveRoom, HasRoomFor, OthersStay}
use Rattle.world_runs.specs.declared.record.Record.{Record}
use Rattle.node_open.proofs.KeptLemmas.{count-kept}
use Rattle.world_runs.proofs.KeptLemmas.{may-add, adds-whole, joined-whole}
use Rattle.world_runs.proofs.RecordLemmas.{same-self, same-then, all-self, all-then, all-long, all-set_one, all-at, one-log, joined-as}
use Rattle.world_rules.specs.World.{World}
use Rattle.world_rules.specs.State.{Moment}
use Rattle.world_rules.specs.Run.{journal}
use Rattle.world_state.specs.declared.mote.Mote.{Mote}
use Rattle.world_laws.specs.EventText.{ShowTheirStores}
use Rattle.world_state.specs.Keeping.{IsWhole, HaveForgotten, LetsGo}
use Rattle.world_state.specs.Reporting.{ShowStores, mote_logs}
use Rattle.world_state.specs.Telling.{AddsEvent}
use Rattle.world_state.specs.declared.simulation.Simulation.{Simulation}
use Rattle.world_state.proofs.MotesLemmas.{long-logs, set-log, first-mote, at-mote}
use Rattle.world_state.proofs.KeepingLemmas.{alike}
use Rattle.world_runs.specs.Recording.{IsRecordOf, IsRecordBefore, HasStoreBehind, HaveStoresBehind, IsRecorded, IsRecordedBefore, AreStoresBefore, AreStoresRecorded, StaysRecorded}

-- ---- lists of logs that are the same but for their room

all-places : (xs ys : List Log) → length xs ≡ length ys → ((k : ℕ) (a b : Log) → slice_get xs k ≡ Some a → slice_get ys k ≡ Some b → IsSameLog a b) → AllZip IsSameLog xs ys
all-places [] [] long each = tt
all-places [] (y ∷ ys) long each = absurd (omega (arith, long))
all-places (x ∷ xs) [] long each = absurd (omega (arith, long))
all-places (x ∷ xs) (y ∷ ys) long each = (each 0 x y refl refl, all-places xs ys (omega (arith, long)) (λ k a b is_a is_b. each (suc k) a b is_a is_b))

all-empty : (xs ys : List Log) → length xs ≡ length ys → All IsEmpty xs → All IsEmpty ys → AllZip IsSameLog xs ys
all-empty [] [] long none none' = tt
all-empty [] (y ∷ ys) long none none' = absurd (omega (arith, long))
all-empty (x ∷ xs) [] long none none' = absurd (omega (arith, long))
all-empty (x ∷ xs) (y ∷ ys) long none none' =
    let a : IsEmpty x = none 0 x (omega arith) in
    let b : IsEmpty y = none' 0 y (omega arith) in (
      record { entries = a.entries ∙ sym b.entries; images = a.images ∙ sym b.images; stores = a.stores ∙ sym b.stores },
      all-empty xs ys (omega (arith, long)) (λ i z low. none (suc i) z (omega (arith, low))) (λ i z low. none' (suc i) z (omega (arith, low))),
    )

-- the log of a mote stands at its place
pub log-found : (motes : List Mote) (k : ℕ) (m : Mote) → slice_get motes k ≡ Some m → slice_get (mote_logs motes) k ≡ Some m.node.log
log-found [] k m found = absurd (none-some found) where
  none-some : None ≡ Some m → ⊥
  none-some e = cc
log-found (x ∷ motes) zero m found = ap (λ (o : Option Mote). Some (unwrap_or o x).node.log) found
log-found (x ∷ motes) (suc k) m found = log-found motes k m found

pub record MoteOf (motes : List Mote) (k : ℕ) (l : Log) : Type 0 where
  pub mote : Mote
  pub found : slice_get motes k ≡ Some mote
  pub is : mote.node.log ≡ l

mote-of : (motes : List Mote) (k : ℕ) (l : Log) → slice_get (mote_logs motes) k ≡ Some l → MoteOf motes k l
mote-of [] k l found = absurd (none-some found) where
  none-some : None ≡ Some l → ⊥
  none-some e = cc
mote-of (x ∷ motes) zero l found = record { mote = x; found = refl; is = one-log x.node.log l found }
mote-of (x ∷ motes) (suc k) l found = let m = mote-of motes k l found in record { mote = m.mote; found = m.found; is = m.is }

pub mote-low : (motes : List Mote) (k : ℕ) (m : Mote) → slice_get motes k ≡ Some m → k < length motes
mote-low [] k m found = absurd (none-some found) where
  none-some : None ≡ Some m → ⊥
  none-some e = cc
mote-low (x ∷ motes) zero m found = omega arith
mote-low (x ∷ motes) (suc k) m found = let rest = mote-low motes k m found in omega (arith, rest)

pub one-mote : (a b : Mote) → Some a ≡ Some b → a ≡ b
one-mote a b is = ap (λ (o : Option Mote). unwrap_or o a) is

set-back : (ls : List Log) (k : ℕ) (x y : Log) → slice_get ls k ≡ Some y → set (set ls k x) k y ≡ ls
set-back [] k x y found = refl
set-back (a ∷ ls) zero x y found = ap (λ (l : Log). l ∷ ls) (ap (λ (o : Option Log). unwrap_or o y) (sym found))
set-back (a ∷ ls) (suc k) x y found = ap (λ (zs : List Log). a ∷ zs) (set-back ls k x y found)

-- ---- what was let go stands in the same logs

pub go-logs : (old mid : Simulation) (node : ℕ) (go : LetsGo old mid node) → AllZip IsSameLog (mote_logs mid.motes.items) (mote_logs old.motes.items)
go-logs old mid node go =
    subst (λ (ls : List Log). AllZip IsSameLog ls (mote_logs old.motes.items)) (sym (ap mote_logs go.motes ∙ set-log old.motes.items node go.after))
    (all-set_one (mote_logs old.motes.items) node go.after.node.log go.before.node.log (log-found old.motes.items node go.before go.found) go.forgets.log)

pub forgotten-logs : (olds news : List Mote) → HaveForgotten (length olds) olds news → AllZip IsSameLog (mote_logs news) (mote_logs olds)
forgotten-logs olds news f = all-places (mote_logs news) (mote_logs olds) (long-logs news ∙ f.count ∙ sym (long-logs olds)) each where
  each : (k : ℕ) (a b : Log) → slice_get (mote_logs news) k ≡ Some a → slice_get (mote_logs olds) k ≡ Some b → IsSameLog a b
  each k a b is_a is_b =
      let m = mote-of news k a is_a in
      let n = mote-of olds k b is_b in
      let same = (f.each k n.mote m.mote (mote-low olds k n.mote n.found) n.found m.found).log in
      subst (λ (l : Log). IsSameLog l b) m.is (subst (λ (l : Log). IsSameLog m.mote.node.log l) n.is same)

-- ---- what is recorded, where the logs stay the same

record-as : (r : Record) (logs logs' : List Log) (air air' : List Aired) → AllZip IsSameLog logs' logs → air' ≡ air → IsRecordOf r logs air → IsRecordOf r logs' air'
record-as r logs logs' air air' same is of = record {
  logs = all-then r.logs.items logs logs' of.logs (zip-sym logs' logs same);
  air = of.air ∙ sym is;
  places = of.places ∙ sym (all-long logs' logs same);
}

pub recorded-as : (kept : Option Record) (old new : Simulation) → AllZip IsSameLog (mote_logs new.motes.items) (mote_logs old.motes.items) → new.radio.air ≡ old.radio.air → IsRecorded kept old → IsRecorded kept new
recorded-as None old new same air of = tt
recorded-as (Some r) old new same air of = record-as r (mote_logs old.motes.items) (mote_logs new.motes.items) old.radio.air new.radio.air same air of

pub left-recorded : (kept : Option Record) (old mid : Simulation) (node : ℕ) → (mid ≡ old) ⊎ LetsGo old mid node → IsRecorded kept old → IsRecorded kept mid
left-recorded kept old mid node (inl same) of = subst (IsRecorded kept) (sym same) of
left-recorded kept old mid node (inr go) of = recorded-as kept old mid (go-logs old mid node go) (ap (λ (e : Ether). e.air) go.radio) of

pub recorded-still : (old new : Option Record) (s : Simulation) → StaysRecorded old new → IsRecorded old s → IsRecorded new s
recorded-still None None s stays of = tt
recorded-still None (Some r) s stays of = absurd stays
recorded-still (Some r) None s stays of = absurd stays
recorded-still (Some a) (Some b) s stays of = record {
  logs = all-then b.logs.items a.logs.items (mote_logs s.motes.items) stays.logs of.logs;
  air = stays.air ∙ of.air;
  places = stays.places ∙ of.places;
}

pub same-record : (r : Record) → IsSameRecord r r
same-record r = record { logs = all-self r.logs.items; air = refl; places = refl }

-- ---- an event

-- the node's log of which all before the event is in the record
module _ (r : Record) (s : Simulation) (node : ℕ) (b : IsRecordBefore r s node) (low : node < length s.motes.items) (x : Mote) (found : slice_get s.motes.items node ≡ Some x) (kept : Log)
    (is : IsKept (record { all = x.node.log; gone = x.node.gone }) kept) where
  same-mote : b.mote ≡ x
  same-mote = one-mote b.mote x (sym b.found ∙ found)

  goes : GoesOn b.front x.node.log
  goes = subst (λ (m : Mote). GoesOn b.front m.node.log) same-mote b.goes_on

  hand : IsKept (record { all = x.node.log; gone = gone_of b.front }) kept
  hand = subst (λ (g : Gone). IsKept (record { all = x.node.log; gone = g }) kept) (ap (λ (m : Mote). m.node.gone) (sym same-mote) ∙ b.gone) is

  low-log : node < length (mote_logs s.motes.items)
  low-log = let long = long-logs s.motes.items in omega (arith, low, long)

  own-same : (own : Log) → HasLog r node own → IsSameLog own b.front
  own-same own has = all-at r.logs.items (set (mote_logs s.motes.items) node b.front) node own b.front b.logs has (slice_get_set_same (mote_logs s.motes.items) node b.front low-log)

  pub event-may : NumbersInOrder x.node.log → length x.node.log.entries < 4000000000 → MayAdd r node kept
  event-may numbered few = may-add b.front x.node.log kept goes hand r node numbered few own-same

  long-record : node < length r.logs.items
  long-record = let a = all-long r.logs.items (set (mote_logs s.motes.items) node b.front) b.logs in let c = length-set (mote_logs s.motes.items) node b.front in let l = low-log in omega (arith, a, c, l)

  pub record-low : node < length r.logs.items
  record-low = long-record

  pub event-recorded : (new : Record) (aired : List Aired) → aired ≡ drop s.radio.gone s.radio.air → HasAdded r new node kept aired → IsRecordOf new (mote_logs s.motes.items) s.radio.air
  event-recorded new aired air_is added =
      let own : Log = get_or r.logs.items node b.front in
      let has : HasLog r node own = slice_get-get_or r.logs.items node b.front long-record in record {
        logs = adds-whole b.front x.node.log kept goes hand r new node aired own (mote_logs s.motes.items) has (own-same own has) b.logs (log-found s.motes.items node x found) added;
        air = added.air ∙ ap (λ (xs : List Aired). r.air ++ xs) air_is ∙ sym b.air;
        places = added.places ∙ b.places ∙ sym (long-logs s.motes.items);
      }

-- behind an event before which all was recorded
module _ (r : Record) (old mid new : Simulation) (node number : ℕ) (go : LetsGo old mid node) (adds : AddsEvent number mid new node) (of : IsRecordOf r (mote_logs old.motes.items) old.radio.air) where
  mine : go.after ≡ adds.before
  mine = one-mote go.after adds.before (sym (slice_get_set_same old.motes.items node go.after was) ∙ ap (λ (xs : List Mote). slice_get xs node) (sym go.motes) ∙ adds.found) where
    was : node < length old.motes.items
    was = let long = ap length go.motes ∙ length-set old.motes.items node go.after in let low = adds.low in omega (arith, low, long)

  front-gone : adds.after.node.gone ≡ gone_of adds.before.node.log
  front-gone =
      adds.log_gone ∙ ap (λ (m : Mote). m.node.gone) (sym mine) ∙ go.forgets.gone
      ∙ sym (ap gone_of (alike go.after.node.log go.before.node.log go.forgets.log))
      ∙ ap (λ (m : Mote). gone_of m.node.log) mine

  before-one : IsRecordBefore r new node
  before-one =
      let low = adds.low in
      let long = ap length adds.motes ∙ length-set mid.motes.items node adds.after in
      let back : set (mote_logs new.motes.items) node adds.before.node.log ≡ mote_logs mid.motes.items =
      ap (λ (ls : List Log). set ls node adds.before.node.log) (ap mote_logs adds.motes ∙ set-log mid.motes.items node adds.after)
      ∙ set-back (mote_logs mid.motes.items) node adds.after.node.log adds.before.node.log (log-found mid.motes.items node adds.before adds.found) in
      record {
        mote = adds.after;
        front = adds.before.node.log;
        found = ap (λ (xs : List Mote). slice_get xs node) adds.motes ∙ slice_get_set_same mid.motes.items node adds.after low;
        gone = front-gone;
        goes_on = adds.goes_on;
        logs = subst (λ (ls : List Log). AllZip IsSameLog r.logs.items ls) (sym back)
            (all-then r.logs.items (mote_logs old.motes.items) (mote_logs mid.motes.items) of.logs (zip-sym (mote_logs mid.motes.items) (mote_logs old.motes.items) (go-logs old mid node go)));
        air = air-on;
        places = of.places ∙ long-logs old.motes.items ∙ sym (length-set old.motes.items node go.after) ∙ sym (ap length go.motes) ∙ sym long;
      } where
        mid_air : mid.radio.air ≡ r.air
        mid_air = ap (λ (e : Ether). e.air) go.radio ∙ sym of.air

        gone_is : new.radio.gone ≡ length mid.radio.air
        gone_is = adds.air_gone ∙ ap (λ (e : Ether). e.gone) go.radio ∙ ap (λ (e : Ether). length e.air) (sym go.radio)

        air-on : new.radio.air ≡ r.air ++ drop new.radio.gone new.radio.air
        air-on = adds.air_goes_on ∙ ap (λ (xs : List Aired). xs ++ drop (length mid.radio.air) new.radio.air) mid_air ∙ ap (λ (n : ℕ). r.air ++ drop n new.radio.air) (sym gone_is)

pub recorded-before : (kept : Option Record) (old mid new : Simulation) (node number : ℕ) → LetsGo old mid node → AddsEvent number mid new node → IsRecorded kept old → IsRecordedBefore kept new node
recorded-before None old mid new node number go adds of = tt
recorded-before (Some r) old mid new node number go adds of = before-one r old mid new node number go adds of

-- ---- the start

empty-gone : (l : Log) → IsEmpty l → nothing_gone ≡ gone_of l
empty-gone l none = λ i. record { entries = length ((sym none.entries) i); images = length ((sym none.images) i); stores = length ((sym none.stores) i) }

empty-set : (ls : List Log) (x : Log) → IsEmpty x → All IsEmpty ls → All IsEmpty (set ls 0 x)
empty-set [] x none all = all
empty-set (l ∷ ls) x none all = All-cons IsEmpty x ls none (λ i z low. all (suc i) z (omega (arith, low)))

empty-logs : (motes : List Mote) → All (λ (m : Mote). IsEmpty m.node.log) motes → All IsEmpty (mote_logs motes)
empty-logs [] all = λ i z low. absurd (omega (arith, low))
empty-logs (m ∷ motes) all = All-cons IsEmpty m.node.log (mote_logs motes) (all 0 m (omega arith)) (empty-logs motes (λ i z low. all (suc i) z (omega (arith, low))))

goes-from-nothing : (front all : Log) → IsEmpty front → GoesOn front all
goes-from-nothing front all none = record {
  entries = all.entries;
  images = all.images;
  stores = all.stores;
  entries_are = ap (λ (xs : List Stamped). xs ++ all.entries) (sym none.entries);
  images_are = ap (λ (xs : List (ArrayVec ℕ)). xs ++ all.images) (sym none.images);
  stores_are = ap (λ (xs : List Store). xs ++ all.stores) (sym none.stores);
}

pub start-before : (r : Record) (s : Simulation) (nodes : ℕ) → IsEmptyRecord nodes r → length s.motes.items ≡ nodes → 0 < nodes → IsWhole s → All (λ (m : Mote). IsEmpty m.node.log) s.motes.items → IsRecordBefore r s 0
start-before r s nodes e count some whole empty =
    let low : 0 < length s.motes.items = omega (arith, count, some) in
    let x = first-mote s.motes.items 0 low in
    let long = e.count in
    let high : 0 < length r.logs.items = omega (arith, long, some) in
    let front : Log = get_or r.logs.items 0 x.node.log in
    let none : IsEmpty front = e.empty 0 x.node.log high in
    let gone : x.node.gone ≡ nothing_gone = subst (λ (m : Mote). m.node.gone ≡ nothing_gone) (one-mote (get_or s.motes.items 0 x) x (sym (slice_get-get_or s.motes.items 0 x low) ∙ at-mote s.motes.items 0 low)) (whole.nodes 0 x low) in
    record {
      mote = x;
      front = front;
      found = at-mote s.motes.items 0 low;
      gone = gone ∙ empty-gone front none;
      goes_on = goes-from-nothing front x.node.log none;
      logs = all-empty r.logs.items (set (mote_logs s.motes.items) 0 front) (e.count ∙ sym count ∙ sym (long-logs s.motes.items) ∙ sym (length-set (mote_logs s.motes.items) 0 front)) e.empty
          (empty-set (mote_logs s.motes.items) front none (empty-logs s.motes.items empty));
      air = ap (λ (n : ℕ). drop n s.radio.air) (sym whole.air) ∙ ap (λ (xs : List Aired). xs ++ drop s.radio.gone s.radio.air) (sym e.air);
      places = e.places ∙ sym count;
    }

-- ---- the stores that are seen at the end

one-named : (e : Entry) → length (option_to_list (image_named e)) + length (option_to_list (store_named e)) ≤ 1
one-named (entry.Post n h c payload) = omega arith
one-named _ = omega arith

names-few : (es : List Stamped) → length (names_in image_named es) + length (names_in store_named es) ≤ length es
names-few [] = omega arith
names-few (e ∷ es) =
    let one = one-named e.entry in
    let rest = names-few es in
    let images = length-append (option_to_list (image_named e.entry)) (names_in image_named es) in
    let stores = length-append (option_to_list (store_named e.entry)) (names_in store_named es) in
    omega (arith, one, rest, images, stores)

length-below : (n : ℕ) → length (below n) ≡ n
length-below zero = refl
length-below (suc n) = length-append (below n) (n ∷ []) ∙ (let e = length-below n in omega arith)

-- a log that goes on by one entry goes on by one image or store at most
few-more : (a b : Log) (on : GoesOn a b) → NumbersInOrder a → NumbersInOrder b → length b.entries ≡ length a.entries + 1 → length on.entries + length on.images + length on.stores ≤ 2
few-more a b on na nb one =
    let es = ap (λ (xs : List Stamped). length xs) on.entries_are ∙ length-append a.entries on.entries in
    let is = ap (λ (xs : List (ArrayVec ℕ)). length xs) on.images_are ∙ length-append a.images on.images in
    let ss = ap (λ (xs : List Store). length xs) on.stores_are ∙ length-append a.stores on.stores in
    let ni : length b.images ≡ length a.images + length (names_in image_named on.entries) = grows image_named (length a.images) (length b.images) na.images nb.images in
    let ns : length b.stores ≡ length a.stores + length (names_in store_named on.entries) = grows store_named (length a.stores) (length b.stores) na.stores nb.stores in
    let few = names-few on.entries in
    omega (arith, one, es, is, ss, ni, ns, few) where
      grows : (named : Entry → Option ℕ) (n m : ℕ) → names_in named a.entries ≡ below n → names_in named b.entries ≡ below m → m ≡ n + length (names_in named on.entries)
      grows named n m in_a in_b =
          let both : names_in named b.entries ≡ names_in named a.entries ++ names_in named on.entries = ap (names_in named) on.entries_are ∙ flat_map-append (λ (e : Stamped). option_to_list (named e.entry)) a.entries on.entries in
          let sum = ap (λ (xs : List ℕ). length xs) (sym in_b ∙ both) ∙ length-append (names_in named a.entries) (names_in named on.entries) in
          let long = ap (λ (xs : List ℕ). length xs) in_a in
          let p = length-below n in
          let q = length-below m in
          omega (arith, sum, long, p, q)

pub long-journal : (l : Log) → length (journal_of l) ≡ length l.entries
long-journal l = length-map l.entries (λ (e : Stamped). let v : Entered = record { stamp = e.stamp; told = journal_entry l e.entry } in v)

-- each node has its store at hand, behind the log that it had
module _ (w : World) (ms : List Moment) (at : Stamp) (olds mids news : List Mote) (f : HaveForgotten (length olds) olds mids) (shows : ShowStores at (length mids) mids news)
    (told : ShowTheirStores w ms (mote_logs mids) (mote_logs news)) where
  pub store-behind : (k : ℕ) (m : Mote) → slice_get news k ≡ Some m → (low : k < length mids) → HasStoreBehind (first-mote mids k low).node.log m
  store-behind k m found low =
      let count = f.count in
      let more = shows.count in
      let first : k < length olds = omega (arith, low, count) in
      let high : k < length news = omega (arith, low, more) in
      let a = first-mote olds k first in
      let b = first-mote mids k low in
      let is_a = at-mote olds k first in
      let is_b = at-mote mids k low in
      let forgot = f.each k a b first is_a is_b in
      let seen = shows.each k b m low is_b found in
      let long = long-logs mids in
      let long' = long-logs news in
      let at_b : get_or (mote_logs mids) k b.node.log ≡ b.node.log = one-log (get_or (mote_logs mids) k b.node.log) b.node.log (sym (slice_get-get_or (mote_logs mids) k b.node.log (omega (arith, low, long))) ∙ log-found mids k b is_b) in
      let at_m : get_or (mote_logs news) k m.node.log ≡ m.node.log = one-log (get_or (mote_logs news) k m.node.log) m.node.log (sym (slice_get-get_or (mote_logs news) k m.node.log (omega (arith, high, long'))) ∙ log-found news k m found) in
      let last = told.shown k m.node.log (omega (arith, low, long)) in
      let before : journal_of b.node.log ≡ journal w k ms = ap journal_of (sym at_b) ∙ told.old k b.node.log (omega (arith, low, long)) in
      let after : journal_of m.node.log ≡ journal_of b.node.log ++ last.0 ∷ [] = ap journal_of (sym at_m) ∙ last.1 ∙ ap (λ (es : List Entered). es ++ last.0 ∷ []) (sym before) in
      let nb : NumbersInOrder b.node.log = subst NumbersInOrder at_b (told.old_numbered k b.node.log (omega (arith, low, long))) in
      let nm : NumbersInOrder m.node.log = subst NumbersInOrder at_m (told.new_numbered k m.node.log (omega (arith, high, long'))) in
      let on = GoesOn-journal b.node.log m.node.log (last.0 ∷ []) nb nm after in
      let was = long-journal b.node.log in
      let is = long-journal m.node.log in
      let sum = ap (λ (es : List Entered). length es) after ∙ length-append (journal_of b.node.log) (last.0 ∷ []) in
      let one : length (last.0 ∷ []) ≡ 1 = refl in
      let grown : length m.node.log.entries ≡ length b.node.log.entries + 1 = omega (arith, was, is, sum, one) in
      let few = forgot.few in
      let same = ap (λ (es : List Stamped). length es) forgot.log.entries in
      record {
        front = b.node.log;
        same = same-self b.node.log;
        gone = seen.tells.gone ∙ forgot.gone ∙ sym (ap gone_of (alike b.node.log a.node.log forgot.log));
        goes_on = on;
        numbered = nm;
        few = omega (arith, few, same, grown);
        small = few-more b.node.log m.node.log on nb nm grown;
      }

  -- behind what is recorded of it
  module _ (r : Record) (logs : AllZip IsSameLog r.logs.items (mote_logs mids)) (places : length r.places ≡ length (mote_logs mids)) where
    one-store : (k : ℕ) (own : Log) (m : Mote) → HasLog r k own → slice_get news k ≡ Some m → k < length mids → HasStoreBehind own m
    one-store k own m has found low =
        let b = first-mote mids k low in
        let s = store-behind k m found low in
        record {
          front = s.front;
          same = same-then own b.node.log s.front (all-at r.logs.items (mote_logs mids) k own b.node.log logs has (log-found mids k b (at-mote mids k low))) s.same;
          gone = s.gone;
          goes_on = s.goes_on;
          numbered = s.numbered;
          few = s.few;
          small = s.small;
        }

    stores-behind : HaveStoresBehind r news
    stores-behind =
        let long = all-long r.logs.items (mote_logs mids) logs in
        let mine = long-logs mids in
        let more = shows.count in record {
          count = long ∙ mine ∙ sym more;
          places = places ∙ mine ∙ sym more;
          each = λ k own m has found. one-store k own m has found (let low = mote-low news k m found in omega (arith, low, more));
        }

pub stores-before : (kept : Option Record) (w : World) (ms : List Moment) (at : Stamp) (olds : List Mote) (mid new : Simulation) → HaveForgotten (length olds) olds mid.motes.items → ShowStores at (length mid.motes.items) mid.motes.items new.motes.items
    → ShowTheirStores w ms (mote_logs mid.motes.items) (mote_logs new.motes.items) → IsRecorded kept mid → AreStoresBefore kept new.motes.items
stores-before None w ms at olds mid new f shows told of = tt
stores-before (Some r) w ms at olds mid new f shows told of = stores-behind w ms at olds mid.motes.items new.motes.items f shows told r of.logs of.places

-- where they were recorded, all is
pub stored-recorded : (old kept : Option Record) (s new : Simulation) → new.radio.air ≡ s.radio.air → IsRecorded old s → AreStoresRecorded old kept new.motes.items → IsRecorded kept new
stored-recorded None None s new air of stored = tt
stored-recorded None (Some k) s new air of stored = absurd stored
stored-recorded (Some r) None s new air of stored = absurd stored
stored-recorded (Some r) (Some k) s new air of stored = subst (λ (xs : List Aired). IsRecordOf k (mote_logs new.motes.items) xs) (of.air ∙ sym air) stored

-- ---- they are appended, one node after the other

-- those of the first nodes are
pub record StoresAdded (n : ℕ) (old new : Record) (motes : List Mote) : Type 0 where
  pub count : length new.logs.items ≡ length old.logs.items
  pub places : length new.places ≡ length old.places
  pub air : new.air ≡ old.air
  pub done : (k : ℕ) (l : Log) (m : Mote) → k < n → slice_get new.logs.items k ≡ Some l → slice_get motes k ≡ Some m → IsSameLog l m.node.log
  pub left : (k : ℕ) → n ≤ k → slice_get new.logs.items k ≡ slice_get old.logs.items k

pub none-added : (r : Record) (motes : List Mote) → StoresAdded 0 r r motes
none-added r motes = record { count = refl; places = refl; air = refl; done = λ k l m below is_l is_m. absurd (omega (arith, below)); left = λ k above. refl }

-- more room changes nothing
pub behind-as : (old new : Record) (motes : List Mote) → IsSameRecord old new → HaveStoresBehind old motes → HaveStoresBehind new motes
behind-as old new motes same b = record {
  count = all-long new.logs.items old.logs.items same.logs ∙ b.count;
  places = same.places ∙ b.places;
  each = λ k own m has found.
      let low = mote-low motes k m found in
      let count = b.count in
      let first : Log = get_or old.logs.items k own in
      let is : slice_get old.logs.items k ≡ Some first = slice_get-get_or old.logs.items k own (omega (arith, low, count)) in
      let one = b.each k first m is found in record {
        front = one.front;
        same = same-then own first one.front (all-at new.logs.items old.logs.items k own first same.logs has is) one.same;
        gone = one.gone;
        goes_on = one.goes_on;
        numbered = one.numbered;
        few = one.few;
        small = one.small;
      };
}

-- the next node's
module _ (old now : Record) (motes : List Mote) (k : ℕ) (a : StoresAdded k old now motes) (b : HaveStoresBehind old motes) (m : Mote) (found : slice_get motes k ≡ Some m) (kept : Log)
    (is : IsKept (record { all = m.node.log; gone = m.node.gone }) kept) where
  low-old : k < length old.logs.items
  low-old = let low = mote-low motes k m found in let count = b.count in omega (arith, low, count)

  one-behind : (own : Log) → HasLog now k own → HasStoreBehind own m
  one-behind own has = b.each k own m (sym (a.left k (omega arith)) ∙ has) found

  hand-of : (own : Log) (s : HasStoreBehind own m) → IsKept (record { all = m.node.log; gone = gone_of s.front }) kept
  hand-of own s = subst (λ (g : Gone). IsKept (record { all = m.node.log; gone = g }) kept) s.gone is

  pub store-low : k < length now.logs.items
  store-low = let low = low-old in let count = a.count in omega (arith, low, count)

  mine-now : (l : Log) → HasLog now k (get_or now.logs.items k l)
  mine-now l = slice_get-get_or now.logs.items k l store-low

  pub store-may : MayAdd now k kept
  store-may =
      let own : Log = get_or now.logs.items k kept in
      let s = one-behind own (mine-now kept) in
      may-add s.front m.node.log kept s.goes_on (hand-of own s) now k s.numbered s.few
      (λ l has. subst (λ (x : Log). IsSameLog x s.front) (one-log own l (sym (mine-now kept) ∙ has)) s.same)

  pub store-room : HaveRoom 2 old → HasRoomFor now k kept
  store-room room own has =
      let s = one-behind own has in
      let hand = hand-of own s in
      let spare : 2 ≤ (get_or old.logs.items k own).spare = room k own low-old in
      let same : get_or old.logs.items k own ≡ own = one-log (get_or old.logs.items k own) own (sym (slice_get-get_or old.logs.items k own low-old) ∙ sym (a.left k (omega arith)) ∙ has) in
      let mine = ap (λ (l : Log). l.spare) same in
      let small = s.small in
      let count = count-kept (record { all = m.node.log; gone = gone_of s.front }) kept hand in
      let sum = ap (λ (es : List Stamped). length es) s.goes_on.entries_are ∙ length-append s.front.entries s.goes_on.entries in
      let images = ap (λ (xs : List (ArrayVec ℕ)). length xs) (sym hand.images ∙ ap (drop (length s.front.images)) s.goes_on.images_are ∙ drop-append_seam s.front.images s.goes_on.images) in
      let stores = ap (λ (xs : List Store). length xs) (sym hand.stores ∙ ap (drop (length s.front.stores)) s.goes_on.stores_are ∙ drop-append_seam s.front.stores s.goes_on.stores) in
      omega (arith, spare, mine, small, count, sum, images, stores)

  pub store-added : (new : Record) → HasAdded now new k kept [] → OthersStay now new k → StoresAdded (k + 1) old new motes
  store-added new added others =
      let own : Log = get_or now.logs.items k kept in
      let s = one-behind own (mine-now kept) in
      let zip = added.logs own (mine-now kept) in
      let low = store-low in record {
        count = all-long new.logs.items (set now.logs.items k (joined own kept)) zip ∙ length-set now.logs.items k (joined own kept) ∙ a.count;
        places = added.places ∙ a.places;
        air = added.air ∙ append-nil now.air ∙ a.air;
        done = λ j l n below is_l is_n. elim (cases_eq j k) [
          | inl same ↦
              let n_is : n ≡ m = one-mote n m (sym is_n ∙ ap (slice_get motes) same ∙ found) in
              let here : IsSameLog l (joined own kept) = all-at new.logs.items (set now.logs.items k (joined own kept)) k l (joined own kept) zip (ap (slice_get new.logs.items) (sym same) ∙ is_l)
              (slice_get_set_same now.logs.items k (joined own kept) low) in
              subst (λ (x : Mote). IsSameLog l x.node.log) (sym n_is)
              (same-then l (joined own kept) m.node.log here
              (same-then (joined own kept) (joined s.front kept) m.node.log (joined-as own s.front kept s.same) (joined-whole s.front m.node.log kept s.goes_on (hand-of own s))))
          | inr other ↦ a.done j l n (omega (arith, below, other)) (sym (others j other) ∙ is_l) is_n
        ];
        left = λ j above. others j (λ e. omega (arith, e, above)) ∙ a.left j (omega (arith, above));
      }

-- all of them
pub stores-recorded : (old now : Record) (motes : List Mote) (n : ℕ) → StoresAdded n old now motes → length motes ≤ n → HaveStoresBehind old motes → IsRecordOf now (mote_logs motes) old.air
stores-recorded old now motes n a all b = record {
  logs = all-places now.logs.items (mote_logs motes) (a.count ∙ b.count ∙ sym (long-logs motes)) (λ k x y is_x is_y.
      let m = mote-of motes k y is_y in
      let low = mote-low motes k m.mote m.found in
      subst (λ (l : Log). IsSameLog x l) m.is (a.done k x m.mote (omega (arith, low, all)) is_x m.found));
  air = a.air;
  places = a.places ∙ b.places ∙ sym (long-logs motes);
}
