-- Lemmas on `specs/Tally.antt`.
use Rattle.std.proofs.Common.{◌≡◌, ℕ, zero, suc, ◌+◌, ◌<◌, ◌≤◌, ◌==◌, max, Bool, true, false, cond, List, ◌++◌, ◌∷◌, [], length, map, take, get_or, refl, ap, sym, subst, ◌∙◌, arith, append_assoc}
use Rattle.std.specs.Prelude.{fold, count_by, if◌then◌else◌, Option, None, Some, All}
use Rattle.std.proofs.lemmas.List.{take_more, take-append-drop, length-append, length-map}
use Rattle.std.proofs.lemmas.Option.{same_Some}
use Rattle.std.proofs.lemmas.List.Elements.{filter_map-append, All-head, All-tail}
use Rattle.std.proofs.lemmas.List.Sums.{fold-append, sum_by-append, sum_by-cons, count_by-le-length}
use Rattle.mate_journal.specs.Log.{Log}
use Rattle.mate_journal.specs.declared.air.Aired.{Aired}
use Rattle.mate_journal.specs.declared.entry.Entry.{Entry}
use Rattle.mate_journal.specs.declared.entry.Entry.TheVariants as entry
use Rattle.mate_journal.specs.declared.entry.Stamped.{Stamped}
use Rattle.mate_journal.specs.OpenLog.{OpenView, IsKept, entry_behind, stamped_behind}
use Rattle.report_writer.specs.Brief.{is_entry, is_air, installed, one_if}
use Rattle.report_writer.specs.declared.kinds.AirKind.{AirKind}
use Rattle.report_writer.specs.declared.kinds.EntryKind.{EntryKind}
use Rattle.report_writer.specs.declared.kinds.EntryKind.TheVariants as entry_kind
use Rattle.report_writer.specs.declared.tally.EntryCounts.{EntryCounts}
use Rattle.report_writer.specs.declared.tally.Versions.{Versions}
use Rattle.report_writer.specs.declared.tally.Installed.{Installed}
use Rattle.report_writer.specs.declared.tally.LogTally.{LogTally}
use Rattle.report_writer.specs.declared.tally.AirTally.{AirTally}
use Rattle.report_writer.specs.Tally.{entries_counted, versions_counted, versions_of, versions_none, versions_at, install_told, with_version, with_version_if, IsUpTo, IsAirTallyUpTo, IsLogTally, IsAirTally, AddsEntry, AddsAir}

-- ---- one entry

pub no-entries : (k : EntryKind) → entries_counted k (record { posts = 0; drops = 0; halts = 0; faults = 0; installs = 0 }) ≡ 0
no-entries entry_kind.Post = refl
no-entries _ = refl

pub one-entry : (k : EntryKind) (old new : EntryCounts) (e : Entry)
    → new.posts ≡ old.posts + one_if (is_entry entry_kind.Post e) → new.drops ≡ old.drops + one_if (is_entry entry_kind.Drop e)
    → new.halts ≡ old.halts + one_if (is_entry entry_kind.Halt e) → new.faults ≡ old.faults + one_if (is_entry entry_kind.Fault e)
    → new.installs ≡ old.installs + one_if (is_entry entry_kind.Install e) → entries_counted k new ≡ entries_counted k old + one_if (is_entry k e)
one-entry entry_kind.Post old new e posts drops halts faults installs = posts
one-entry entry_kind.Drop old new e posts drops halts faults installs = drops
one-entry entry_kind.Halt old new e posts drops halts faults installs = halts
one-entry entry_kind.Fault old new e posts drops halts faults installs = faults
one-entry entry_kind.Install old new e posts drops halts faults installs = installs

pub one_if-most : (b : Bool) → one_if b ≤ 1
one_if-most true = omega arith
one_if-most false = omega arith

count-one : (k : EntryKind) (e : Stamped) (b : Bool) → is_entry k e.entry ≡ b → count_by (λ (x : Stamped). is_entry k x.entry) (e ∷ []) ≡ one_if (is_entry k e.entry)
count-one k e true is = rw is refl
count-one k e false is = rw is refl

count-push : (k : EntryKind) (es : List Stamped) (e : Stamped)
    → count_by (λ (x : Stamped). is_entry k x.entry) (es ++ e ∷ []) ≡ count_by (λ (x : Stamped). is_entry k x.entry) es + one_if (is_entry k e.entry)
count-push k es e =
    let both = sum_by-append (λ (x : Stamped). cond (is_entry k x.entry) 1 0) es (e ∷ []) in
    let one = count-one k e (is_entry k e.entry) refl in
    omega (arith, both, one)

-- ---- one item more

-- ---- one version

versions-one : (h : ℕ) (vs : List ℕ) (e : Stamped) (o : Option ℕ) → installed h e.entry ≡ o → (v : Versions) → v ≡ record { newest = fold max 0 vs; last = fold (λ (before version : ℕ). version) 0 vs }
    → record { newest = fold max (fold max 0 vs) (versions_counted h (e ∷ [])); last = fold (λ (before version : ℕ). version) (fold (λ (before version : ℕ). version) 0 vs) (versions_counted h (e ∷ [])) } ≡ with_version_if o v
versions-one h vs e None is v same = rw is (sym same)
versions-one h vs e (Some version) is v same = rw is (ap (λ (x : Versions). with_version x version) (sym same))

versions-push : (h : ℕ) (es : List Stamped) (e : Stamped) → versions_of h (es ++ e ∷ []) ≡ with_version_if (installed h e.entry) (versions_of h es)
versions-push h es e =
    let V : ℕ → ℕ → Versions = λ newest last. record { newest = newest; last = last } in
    let split : versions_counted h (es ++ e ∷ []) ≡ versions_counted h es ++ versions_counted h (e ∷ []) = filter_map-append (λ (x : Stamped). installed h x.entry) es (e ∷ []) in
    ap (λ (vs : List ℕ). V (fold max 0 vs) (fold (λ (before version : ℕ). version) 0 vs)) split
    ∙ ap (λ (n : ℕ). V n (fold (λ (before version : ℕ). version) 0 (versions_counted h es ++ versions_counted h (e ∷ [])))) (fold-append max 0 (versions_counted h es) (versions_counted h (e ∷ [])))
    ∙ ap (λ (n : ℕ). V (fold max (fold max 0 (versions_counted h es)) (versions_counted h (e ∷ []))) n) (fold-append (λ (before version : ℕ). version) 0 (versions_counted h es) (versions_counted h (e ∷ [])))
    ∙ versions-one h (versions_counted h es) e (installed h e.entry) refl (versions_of h es) refl

-- an entry more
pub tally-push : (n : ℕ) (old new : LogTally) (es : List Stamped) (e : Stamped) → AddsEntry old new e.entry → IsLogTally n old es → IsLogTally n new (es ++ e ∷ [])
tally-push n old new es e adds is = record {
  size = adds.notes.size ∙ is.size;
  entries = let a = adds.entries in let b = is.entries in let l = length-append es (e ∷ []) in omega (arith, a, b, l);
  counts = λ k. let a = adds.counts k in let b = is.counts k in let c = count-push k es e in omega (arith, a, b, c);
  versions = λ h low.
      adds.notes.versions h (subst (λ (m : ℕ). h < m) (sym is.size) low) ∙ ap (with_version_if (installed h e.entry)) (is.versions h low) ∙ sym (versions-push h es e);
}

pub tally-same : (n : ℕ) (t : LogTally) (es fs : List Stamped) → es ≡ fs → IsLogTally n t es → IsLogTally n t fs
tally-same n t es fs same is = subst (IsLogTally n t) same is

-- the entries before a place, and one more
pub tally-next : (n : ℕ) (old new : LogTally) (front es : List Stamped) (i : ℕ) (e : Stamped) → i < length es → e ≡ get_or es i e → AddsEntry old new e.entry
    → IsLogTally n old (front ++ take i es) → IsLogTally n new (front ++ take (i + 1) es)
tally-next n old new front es i e low is adds so =
    tally-same n new ((front ++ take i es) ++ e ∷ []) (front ++ take (i + 1) es)
    (append_assoc front (take i es) (e ∷ []) ∙ ap (λ (xs : List Stamped). front ++ xs) (ap (λ (x : Stamped). take i es ++ x ∷ []) is ∙ sym (take_more es i e low)))
    (tally-push n old new (front ++ take i es) e adds so)

-- a tally counts no more than there is
pub tally-few : (n most : ℕ) (t : LogTally) (es : List Stamped) → IsLogTally n t es → length es ≤ most → IsUpTo most t
tally-few n most t es is few = record {
  entries = let e = is.entries in omega (arith, e, few);
  counts = λ k. let c = is.counts k in let l = count_by-le-length (λ (e : Stamped). is_entry k e.entry) es in omega (arith, c, l, few);
}

-- ---- what an entry installs

installed-other : (h : ℕ) (e : Entry) → install_told e ≡ None → installed h e ≡ None
installed-other h (entry.Install g version image) is = cc
installed-other h _ is = refl

pub install-none : (h : ℕ) (e : Entry) (v : Versions) (o : Option Installed) → o ≡ install_told e → o ≡ None → v ≡ with_version_if (installed h e) v
install-none h e v o of none = ap (λ (x : Option ℕ). with_version_if x v) (sym (installed-other h e (sym of ∙ none)))

chosen : (b : Bool) (version : ℕ) (v : Versions) → with_version_if (if b then Some version else None) v ≡ (if b then with_version v version else v)
chosen true version v = refl
chosen false version v = refl

install-by : (h : ℕ) (e : Entry) (i : Installed) (v : Versions) → install_told e ≡ Some i → with_version_if (installed h e) v ≡ (if i.handler.0 == h then with_version v i.version else v)
install-by h (entry.Install g version image) i v is = let same : record { handler = g; version = version } ≡ i = same_Some (record { handler = g; version = version }) i is in subst (λ (x : Installed). with_version_if (installed h (entry.Install g version image)) v ≡ (if x.handler.0 == h then with_version v x.version else v)) same (chosen (g.0 == h) version v)
install-by h _ i v is = cc

pub install-some : (h : ℕ) (e : Entry) (i : Installed) (old new : Versions) (o : Option Installed) → o ≡ install_told e → o ≡ Some i
    → new ≡ (if i.handler.0 == h then with_version old i.version else old) → new ≡ with_version_if (installed h e) old
install-some h e i old new o of some step = step ∙ sym (install-by h e i old (sym of ∙ some))

-- ---- nothing was counted

pub none-at : (vs : List Versions) (h : ℕ) → All (λ (v : Versions). v ≡ versions_none) vs → versions_at h vs ≡ versions_none
none-at [] h none = refl
none-at (v ∷ vs) zero none = All-head (λ (x : Versions). x ≡ versions_none) v vs none
none-at (v ∷ vs) (suc h) none = none-at vs h (All-tail (λ (x : Versions). x ≡ versions_none) v vs none)

pub tally-none : (n : ℕ) (t : LogTally) → t.entries ≡ 0 → t.counts ≡ record { posts = 0; drops = 0; halts = 0; faults = 0; installs = 0 } → length t.versions.items ≡ n
    → All (λ (v : Versions). v ≡ versions_none) t.versions.items → IsLogTally n t []
tally-none n t entries counts size none = record {
  size = size;
  entries = entries;
  counts = λ k. ap (entries_counted k) counts ∙ no-entries k;
  versions = λ h low. none-at t.versions.items h none;
}

-- ---- entries whose images and stores are numbered anew

is_entry-behind : (k : EntryKind) (images stores : ℕ) (e : Entry) → is_entry k (entry_behind images stores e) ≡ is_entry k e
is_entry-behind entry_kind.Post images stores (entry.Install g version image) = refl
is_entry-behind entry_kind.Drop images stores (entry.Install g version image) = refl
is_entry-behind entry_kind.Halt images stores (entry.Install g version image) = refl
is_entry-behind entry_kind.Fault images stores (entry.Install g version image) = refl
is_entry-behind entry_kind.Install images stores (entry.Install g version image) = refl
is_entry-behind entry_kind.Post images stores (entry.Seen store) = refl
is_entry-behind entry_kind.Drop images stores (entry.Seen store) = refl
is_entry-behind entry_kind.Halt images stores (entry.Seen store) = refl
is_entry-behind entry_kind.Fault images stores (entry.Seen store) = refl
is_entry-behind entry_kind.Install images stores (entry.Seen store) = refl
is_entry-behind k images stores _ = refl

installed-behind : (h images stores : ℕ) (e : Entry) → installed h (entry_behind images stores e) ≡ installed h e
installed-behind h images stores (entry.Install g version image) = refl
installed-behind h images stores _ = refl

count-behind : (k : EntryKind) (images stores : ℕ) (es : List Stamped)
    → count_by (λ (x : Stamped). is_entry k x.entry) (map (stamped_behind images stores) es) ≡ count_by (λ (x : Stamped). is_entry k x.entry) es
count-behind k images stores [] = refl
count-behind k images stores (e ∷ es) =
    let C : Stamped → ℕ = λ x. cond (is_entry k x.entry) 1 0 in
    let here : C (stamped_behind images stores e) ≡ C e = ap (λ (b : Bool). cond {A = ℕ} b 1 0) (is_entry-behind k images stores e.entry) in
    let rest = count-behind k images stores es in
    let a = sum_by-cons C (stamped_behind images stores e) (map (stamped_behind images stores) es) in
    let b = sum_by-cons C e es in
    omega (arith, here, rest, a, b)

version-behind : (h images stores : ℕ) (e : Stamped) (o : Option ℕ) → installed h e.entry ≡ o → versions_counted h (stamped_behind images stores e ∷ []) ≡ versions_counted h (e ∷ [])
version-behind h images stores e None is = rw (installed-behind h images stores e.entry ∙ is) (rw is refl)
version-behind h images stores e (Some version) is = rw (installed-behind h images stores e.entry ∙ is) (rw is refl)

versions-behind : (h images stores : ℕ) (es : List Stamped) → versions_counted h (map (stamped_behind images stores) es) ≡ versions_counted h es
versions-behind h images stores [] = refl
versions-behind h images stores (e ∷ es) =
    filter_map-append (λ (x : Stamped). installed h x.entry) (stamped_behind images stores e ∷ []) (map (stamped_behind images stores) es)
    ∙ ap (λ (vs : List ℕ). vs ++ versions_counted h (map (stamped_behind images stores) es)) (version-behind h images stores e (installed h e.entry) refl)
    ∙ ap (λ (vs : List ℕ). versions_counted h (e ∷ []) ++ vs) (versions-behind h images stores es)
    ∙ sym (filter_map-append (λ (x : Stamped). installed h x.entry) (e ∷ []) es)

-- the same tally is that of the entries as they are numbered in the whole log
pub tally-behind : (n images stores : ℕ) (t : LogTally) (front es : List Stamped) → IsLogTally n t (front ++ es) → IsLogTally n t (front ++ map (stamped_behind images stores) es)
tally-behind n images stores t front es is =
    let all = front ++ es in
    let again = map (stamped_behind images stores) es in
    record {
      size = is.size;
      entries =
          let a = is.entries in let b = length-append front es in let c = length-append front again in let d = length-map es (stamped_behind images stores) in
          omega (arith, a, b, c, d);
      counts = λ k.
          let C : Stamped → ℕ = λ x. cond (is_entry k x.entry) 1 0 in
          let a = is.counts k in let b = sum_by-append C front es in let c = sum_by-append C front again in let d = count-behind k images stores es in
          omega (arith, a, b, c, d);
      versions = λ h low.
          is.versions h low
          ∙ ap (λ (vs : List ℕ). let v : Versions = record { newest = fold max 0 vs; last = fold (λ (before version : ℕ). version) 0 vs } in v)
          (filter_map-append (λ (x : Stamped). installed h x.entry) front es ∙ ap (λ (vs : List ℕ). versions_counted h front ++ vs) (sym (versions-behind h images stores es))
          ∙ sym (filter_map-append (λ (x : Stamped). installed h x.entry) front again));
    }

-- ---- what is at hand of a log

-- all is counted, where what is at hand was counted behind what is gone
pub counted-kept : (n : ℕ) (v : OpenView) (kept : Log) (t : LogTally) (es : List Stamped) → es ≡ kept.entries → IsKept v kept → IsLogTally n t (take v.gone.entries v.all.entries ++ es) → IsLogTally n t v.all.entries
counted-kept n v kept t es same is counted =
    let front = take v.gone.entries v.all.entries in
    let by_kept : IsLogTally n t (front ++ kept.entries) = subst (λ (xs : List Stamped). IsLogTally n t (front ++ xs)) same counted in
    tally-same n t (front ++ map (stamped_behind v.gone.images v.gone.stores) kept.entries) v.all.entries
    (ap (λ (xs : List Stamped). front ++ xs) (sym is.entries) ∙ take-append-drop v.gone.entries v.all.entries)
    (tally-behind n v.gone.images v.gone.stores t front kept.entries by_kept)

pub up-to : (m n : ℕ) (t : LogTally) → m ≤ n → IsUpTo m t → IsUpTo n t
up-to m n t le up = record {
  entries = let e = up.entries in omega (arith, e, le);
  counts = λ k. let c = up.counts k in omega (arith, c, le);
}

-- ---- the air

count-one-air : (k : AirKind) (a : Aired) (b : Bool) → is_air k a.air ≡ b → count_by (λ (x : Aired). is_air k x.air) (a ∷ []) ≡ one_if (is_air k a.air)
count-one-air k a true is = rw is refl
count-one-air k a false is = rw is refl

-- a record more
air-push : (old new : AirTally) (xs : List Aired) (a : Aired) → AddsAir old new a.air → IsAirTally old xs → IsAirTally new (xs ++ a ∷ [])
air-push old new xs a adds is = record {
  records = let x = adds.records in let y = is.records in let l = length-append xs (a ∷ []) in omega (arith, x, y, l);
  counts = λ k.
      let x = adds.counts k in let y = is.counts k in
      let both = sum_by-append (λ (z : Aired). cond (is_air k z.air) 1 0) xs (a ∷ []) in
      let one = count-one-air k a (is_air k a.air) refl in
      omega (arith, x, y, both, one);
}

pub air-same : (t : AirTally) (xs ys : List Aired) → xs ≡ ys → IsAirTally t xs → IsAirTally t ys
air-same t xs ys same is = subst (IsAirTally t) same is

-- the records before a place, and one more
pub air-next : (old new : AirTally) (front xs : List Aired) (i : ℕ) (a : Aired) → i < length xs → a ≡ get_or xs i a → AddsAir old new a.air → IsAirTally old (front ++ take i xs) → IsAirTally new (front ++ take (i + 1) xs)
air-next old new front xs i a low is adds so =
    air-same new ((front ++ take i xs) ++ a ∷ []) (front ++ take (i + 1) xs)
    (append_assoc front (take i xs) (a ∷ []) ∙ ap (λ (ys : List Aired). front ++ ys) (ap (λ (x : Aired). take i xs ++ x ∷ []) is ∙ sym (take_more xs i a low)))
    (air-push old new (front ++ take i xs) a adds so)

-- a tally counts no more than there is
pub air-few : (most : ℕ) (t : AirTally) (xs : List Aired) → IsAirTally t xs → length xs ≤ most → IsAirTallyUpTo most t
air-few most t xs is few = record {
  records = let e = is.records in omega (arith, e, few);
  counts = λ k. let c = is.counts k in let l = count_by-le-length (λ (a : Aired). is_air k a.air) xs in omega (arith, c, l, few);
}

pub air-up-to : (m n : ℕ) (t : AirTally) → m ≤ n → IsAirTallyUpTo m t → IsAirTallyUpTo n t
air-up-to m n t le up = record {
  records = let e = up.records in omega (arith, e, le);
  counts = λ k. let c = up.counts k in omega (arith, c, le);
}
