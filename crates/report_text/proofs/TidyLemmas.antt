-- The report of lines that fit is tidy.
use Rattle.std.proofs.Common.{◌≡◌, ℕ, zero, suc, ◌+◌, ◌<◌, ◌≤◌, ◌==◌, Bool, true, false, cond, List, [], ◌∷◌, ◌++◌, length, map, get_or, Option, None, Result, Ok, Err, refl, sym, ap, subst, ◌∙◌, arith, inl, inr, append_assoc, append-nil, length-append}
use Rattle.std.specs.Prelude.{All, AllPairs, fold, flat_map, IsTrue, is_some, IfOk}
use Rattle.std.specs.List.{AllZip}
use Rattle.std.proofs.lemmas.Bool.{cases_Bool, cond-true, cond-false, eqb-true}
use Rattle.std.proofs.lemmas.Grind.{flat_map-append}
use Rattle.std.proofs.lemmas.List.Elements.{All-nil, All-cons, All-head, All-tail, All-push, All-append, All-same, All-map}
use Rattle.arrayvec.specs.ArrayVec.{ArrayVec}
use Rattle.vm_shape.proofs.ListLemmas.{AllPairs-head, AllPairs-tail}
use Rattle.vm_shape.specs.declared.description.Description.{Description}
use Rattle.mate_num.specs.declared.call.Stamp.{Stamp}
use Rattle.mate_num.specs.declared.store.Store.{Store}
use Rattle.mate_journal.specs.Log.{Log, IsSameLog}
use Rattle.mate_journal.specs.Entries.{IsEntryInRange}
use Rattle.mate_journal.specs.Tidy.{image_named, store_named, names_in, below, IsStoreOf, EventsRise, entry_event, IsTidyLog, HasFullImages}
use Rattle.mate_journal.specs.declared.air.Aired.{Aired}
use Rattle.mate_journal.specs.declared.entry.Entry.{Entry}
use Rattle.mate_journal.specs.declared.entry.Entry.TheVariants as entry
use Rattle.mate_journal.specs.declared.entry.Stamped.{Stamped}
use Rattle.mate_journal.specs.declared.report.Report.{Report}
use Rattle.report_writer.specs.Progress.{air_event}
use Rattle.report_writer.specs.Tidy.{IsTidy, IsAirInRange, AirNodesRise, Mark, marks, log_marks, IsNoEarlier, AreOfOneNode, IsLastSeen}
use Rattle.report_writer.proofs.EventLemmas.{All-of_map}
use Rattle.report_line_reader.specs.declared.line.Line.{Line}
use Rattle.report_line_reader.specs.declared.line.Told.{Told}
use Rattle.report_line_reader.specs.declared.line.Told.TheVariants as told
use Rattle.report_line_reader.specs.Told.{IsRightTold, IsRightEntry}
use Rattle.report_text.specs.Fits.{is_on_air, is_shown, line_mark, line_marks, StandsBehind, IsSound, AreFitting, IsToldBelow, IsLineBelow, FitsLast}
use Rattle.report_text.specs.Parts.{stamped, log_with_line, log_after, no_log, log_of, aired_by, aired_of, air_told, logs_of, report_of, IsSameReport}
use Rattle.report_text.specs.Reads.{AreOfReport, ReadsReport}
use Rattle.report_text.specs.declared.fault.TextFault.{TextFault}
use Rattle.report_text.specs.declared.last_line.LastLine.{LastLine}

-- ---- one log

-- what holds of a log while lines are added
record IsGrowing (d : Description) (event : ℕ) (l : Log) : Type 0 where
  tidy : IsTidyLog d l
  full : HasFullImages l
  upto : All (λ (e : Stamped). e.stamp.event ≤ event) l.entries

rise-push : {A : Type 0} (ev : A → ℕ) (low : ℕ) (xs : List A) (y : A) → EventsRise ev low xs → low ≤ ev y → All (λ (x : A). ev x ≤ ev y) xs → EventsRise ev low (xs ++ y ∷ [])
rise-push ev low [] y r h all = (h, tt)
rise-push ev low (x ∷ xs) y r h all =
    (r.0, rise-push ev (ev x) xs y r.1 (All-head (λ (z : _). ev z ≤ ev y) x xs all) (All-tail (λ (z : _). ev z ≤ ev y) x xs all))

names-push : (named : Entry → Option ℕ) (es : List Stamped) (e : Stamped) → names_in named (es ++ e ∷ []) ≡ names_in named es ++ names_in named (e ∷ [])
names-push named es e = flat_map-append (λ (x : Stamped). Rattle.std.specs.Prelude.option_to_list (named x.entry)) es (e ∷ [])

-- an entry that names nothing new
names-none : (named : Entry → Option ℕ) (es : List Stamped) (e : Stamped) → named e.entry ≡ None → names_in named (es ++ e ∷ []) ≡ names_in named es
names-none named es e h =
    names-push named es e ∙ ap (λ (o : Option ℕ). names_in named es ++ (Rattle.std.specs.Prelude.option_to_list o ++ [])) h ∙ append-nil (names_in named es)

below-push : {A : Type 0} (xs : List A) (y : A) → below (length xs) ++ length xs ∷ [] ≡ below (length (xs ++ y ∷ []))
below-push xs y = let n : length (xs ++ y ∷ []) ≡ suc (length xs) = (let m = length-append xs (y ∷ []) in omega (arith, m)) in ap below (sym n)

right-range : (d : Description) (e : Entry) → IsRightEntry d e → IsEntryInRange d e
right-range d (entry.Post n h c payload) r = r
right-range d (entry.Dropped h cause) r = r
right-range d (entry.Ask n f args) r = r
right-range d (entry.Install h version image) r = absurd r
right-range d (entry.Seen store) r = absurd r
right-range d _ r = tt

pub right-names : (d : Description) (e : Entry) → IsRightEntry d e → (image_named e ≡ None) × (store_named e ≡ None)
right-names d (entry.Install h version image) r = absurd r
right-names d (entry.Seen store) r = absurd r
right-names d _ r = (refl, refl)

later-upto : (a b : ℕ) (es : List Stamped) → a ≤ b → All (λ (e : Stamped). e.stamp.event ≤ a) es → All (λ (e : Stamped). e.stamp.event ≤ b) es
later-upto a b es h all = λ k d q. (let x = all k d q in omega (arith, x, h))

InRange : Description → List Stamped → Type 0
InRange d es = All (λ (e : Stamped). IsEntryInRange d e.entry) es

grows-with : (d : Description) (event : ℕ) (l : Log) (at : Stamp) (t : Told) → IsGrowing d event l → event ≤ at.event → IsRightTold d t → IsGrowing d at.event (log_with_line l at t)
grows-with d event l at (told.OnAir a) g h r = record { tidy = g.tidy; full = g.full; upto = later-upto event at.event l.entries h g.upto }
grows-with d event l at (told.Made e) g h r =
    let upto = later-upto event at.event l.entries h g.upto in
    let names = right-names d e r in record {
      tidy = record {
        in_range = All-push (λ (x : Stamped). IsEntryInRange d x.entry) l.entries (stamped at e) g.tidy.in_range (right-range d e r);
        numbered = record {
          images = names-none image_named l.entries (stamped at e) names.0 ∙ g.tidy.numbered.images;
          stores = names-none store_named l.entries (stamped at e) names.1 ∙ g.tidy.numbered.stores;
        };
        lengths = g.tidy.lengths;
        ordered = rise-push entry_event 0 l.entries (stamped at e) g.tidy.ordered (omega arith) upto;
      };
      full = record { full = g.full.full };
      upto = All-push (λ (x : Stamped). x.stamp.event ≤ at.event) l.entries (stamped at e) upto (omega arith);
    }
grows-with d event l at (told.Installed g version image) i h r =
    let upto = later-upto event at.event l.entries h i.upto in
    let e : Entry = entry.Install g version (length l.images) in record {
      tidy = record {
        in_range = All-push (λ (x : Stamped). IsEntryInRange d x.entry) l.entries (stamped at e) i.tidy.in_range r.0;
        numbered = record {
          images = names-push image_named l.entries (stamped at e) ∙ ap (λ (ns : List ℕ). ns ++ length l.images ∷ []) i.tidy.numbered.images ∙ below-push l.images image;
          stores = names-none store_named l.entries (stamped at e) refl ∙ i.tidy.numbered.stores;
        };
        lengths = i.tidy.lengths;
        ordered = rise-push entry_event 0 l.entries (stamped at e) i.tidy.ordered (omega arith) upto;
      };
      full = record { full = All-push (λ (x : ArrayVec ℕ). 0 < length x.items) l.images image i.full.full r.1 };
      upto = All-push (λ (x : Stamped). x.stamp.event ≤ at.event) l.entries (stamped at e) upto (omega arith);
    }
grows-with d event l at (told.Shown s) i h r =
    let upto = later-upto event at.event l.entries h i.upto in
    let e : Entry = entry.Seen (length l.stores) in record {
      tidy = record {
        in_range = All-push (λ (x : Stamped). IsEntryInRange d x.entry) l.entries (stamped at e) i.tidy.in_range tt;
        numbered = record {
          images = names-none image_named l.entries (stamped at e) refl ∙ i.tidy.numbered.images;
          stores = names-push store_named l.entries (stamped at e) ∙ ap (λ (ns : List ℕ). ns ++ length l.stores ∷ []) i.tidy.numbered.stores ∙ below-push l.stores s;
        };
        lengths = All-push (IsStoreOf d) l.stores s i.tidy.lengths (record { shared = r.shared; buffers = r.buffers });
        ordered = rise-push entry_event 0 l.entries (stamped at e) i.tidy.ordered (omega arith) upto;
      };
      full = record { full = i.full.full };
      upto = All-push (λ (x : Stamped). x.stamp.event ≤ at.event) l.entries (stamped at e) upto (omega arith);
    }

grows : (d : Description) (node event : ℕ) (l : Log) (x : Line) → IsGrowing d event l → event ≤ x.stamp.event → IsRightTold d x.told → IsGrowing d x.stamp.event (log_after node l x)
grows d node event l x g h r =
    elim (cases_Bool (x.node == node)) [
      | inl here ↦ subst (IsGrowing d x.stamp.event) (sym (cond-true (x.node == node) (log_with_line l x.stamp x.told) l here)) (grows-with d event l x.stamp x.told g h r)
      | inr other ↦
          subst (IsGrowing d x.stamp.event) (sym (cond-false (x.node == node) (log_with_line l x.stamp x.told) l other))
          (record { tidy = g.tidy; full = g.full; upto = later-upto event x.stamp.event l.entries h g.upto })
    ]

log-grows : (d : Description) (node event : ℕ) (l : Log) (ls : List Line) → IsGrowing d event l → All (λ (x : Line). event ≤ x.stamp.event) ls → AllPairs StandsBehind ls → All (IsSound d) ls
    → IsTidyLog d (fold (log_after node) l ls) × HasFullImages (fold (log_after node) l ls)
log-grows d node event l [] g above o s = (g.tidy, g.full)
log-grows d node event l (x ∷ ls) g above o s =
    let next = grows d node event l x g (All-head (λ (y : Line). event ≤ y.stamp.event) x ls above) (All-head (IsSound d) x ls s).right.told in
    let behind = AllPairs-head StandsBehind x ls o in
    log-grows d node x.stamp.event (log_after node l x) ls next (λ k e q. (behind k e q).event) (AllPairs-tail StandsBehind x ls o) (All-tail (IsSound d) x ls s)

none-grows : (d : Description) → IsGrowing d 0 no_log
none-grows d = record {
  tidy = record {
    in_range = All-nil (λ (x : Stamped). IsEntryInRange d x.entry);
    numbered = record { images = refl; stores = refl };
    lengths = All-nil (IsStoreOf d);
    ordered = tt;
  };
  full = record { full = All-nil (λ (x : ArrayVec ℕ). 0 < length x.items) };
  upto = All-nil (λ (x : Stamped). x.stamp.event ≤ 0);
}

log-tidy : (d : Description) (node : ℕ) (ls : List Line) → AreFitting d ls → IsTidyLog d (log_of node ls) × HasFullImages (log_of node ls)
log-tidy d node ls f = log-grows d node 0 no_log ls (none-grows d) (λ k e q. omega arith) f.order.ordered f.sound

pub all-map : {A B : Type 0} (P : B → Type 0) (f : A → B) (xs : List A) → ((x : A) → P (f x)) → All P (map f xs)
all-map P f [] h = All-nil P
all-map P f (x ∷ xs) h = All-cons P (f x) (map f xs) (h x) (all-map P f xs h)

-- ---- the air

air-told : (n node : ℕ) (at : Stamp) (t : Told) → node < n → IsToldBelow n t → All (λ (a : Aired). (a.node < n) × IsAirInRange n a.air) (aired_by at node t)
air-told n node at (told.OnAir a) h r =
    let P : Aired → Type 0 = λ (x : Aired). (x.node < n) × IsAirInRange n x.air in
    All-cons P (record { stamp = at; node = node; air = a }) [] (h, r) (All-nil P)
air-told n node at _ h r = All-nil (λ (a : Aired). (a.node < n) × IsAirInRange n a.air)

air-range : (n : ℕ) (ls : List Line) → All (IsLineBelow n) ls → All (λ (a : Aired). (a.node < n) × IsAirInRange n a.air) (air_told ls)
air-range n [] h = All-nil (λ (a : Aired). (a.node < n) × IsAirInRange n a.air)
air-range n (l ∷ ls) h =
    let b = All-head (IsLineBelow n) l ls h in
    All-append (λ (a : Aired). (a.node < n) × IsAirInRange n a.air) (aired_of l) (air_told ls) (air-told n l.node l.stamp l.told b.node b.told) (air-range n ls (All-tail (IsLineBelow n) l ls h))

-- what stands behind a record of the air there
record IsAirBehind (at : Stamp) (node : ℕ) (a : Aired) : Type 0 where
  event : at.event ≤ a.stamp.event
  node_is : at.event ≡ a.stamp.event → node ≤ a.node

record IsRising (low : ℕ) (airs : List Aired) : Type 0 where
  events : EventsRise air_event low airs
  nodes : AirNodesRise airs

nodes-cons : (a : Aired) (airs : List Aired) → All (IsAirBehind a.stamp a.node) airs → AirNodesRise airs → AirNodesRise (a ∷ airs)
nodes-cons a [] h r = tt
nodes-cons a (b ∷ airs) h r = ((All-head (IsAirBehind a.stamp a.node) b airs h).node_is, r)

lower : {A : Type 0} (ev : A → ℕ) (low new : ℕ) (xs : List A) → EventsRise ev low xs → All (λ (x : A). new ≤ ev x) xs → EventsRise ev new xs
lower ev low new [] r h = tt
lower ev low new (x ∷ xs) r h = (All-head (λ (y : _). new ≤ ev y) x xs h, r.1)

behind-told : (at : Stamp) (node : ℕ) (l : Line) (t : Told) → is_on_air t ≡ true → t ≡ l.told → at.event ≤ l.stamp.event → (at.event ≡ l.stamp.event → node ≤ l.node)
    → All (IsAirBehind at node) (aired_by l.stamp l.node t)
behind-told at node l (told.OnAir a) on is h n = All-cons (IsAirBehind at node) (record { stamp = l.stamp; node = l.node; air = a }) [] (record { event = h; node_is = n }) (All-nil (IsAirBehind at node))
behind-told at node l _ on is h n = All-nil (IsAirBehind at node)

no_air : (at : Stamp) (node : ℕ) (l : Line) (t : Told) → is_on_air t ≡ false → All (IsAirBehind at node) (aired_by l.stamp l.node t)
no_air at node l (told.OnAir a) h = absurd cc
no_air at node l _ h = All-nil (IsAirBehind at node)

air-behind : (p : Line) (ls : List Line) → is_on_air p.told ≡ true → All (StandsBehind p) ls → All (IsAirBehind p.stamp p.node) (air_told ls)
air-behind p [] on h = All-nil (IsAirBehind p.stamp p.node)
air-behind p (l ∷ ls) on h =
    let b = All-head (StandsBehind p) l ls h in
    let here : All (IsAirBehind p.stamp p.node) (aired_of l) = elim (cases_Bool (is_on_air l.told)) [
      | inl air ↦ behind-told p.stamp p.node l l.told air refl b.event (λ e. b.nodes e (on ∙ sym air))
      | inr entry ↦ no_air p.stamp p.node l l.told entry
    ] in
    All-append (IsAirBehind p.stamp p.node) (aired_of l) (air_told ls) here (air-behind p ls on (All-tail (StandsBehind p) l ls h))

air-rises-told : (l : Line) (t : Told) (airs : List Aired) → t ≡ l.told → (is_on_air l.told ≡ true → All (IsAirBehind l.stamp l.node) airs) → IsRising 0 airs → IsRising 0 (aired_by l.stamp l.node t ++ airs)
air-rises-told l (told.OnAir a) airs is behind r =
    let all = behind (ap is_on_air (sym is)) in record {
      events = (omega arith, lower air_event 0 l.stamp.event airs r.events (λ k d q. (all k d q).event));
      nodes = nodes-cons (record { stamp = l.stamp; node = l.node; air = a }) airs all r.nodes;
    }
air-rises-told l _ airs is behind r = r

air-rises : (ls : List Line) → AllPairs StandsBehind ls → IsRising 0 (air_told ls)
air-rises [] o = record { events = tt; nodes = tt }
air-rises (l ∷ ls) o =
    air-rises-told l l.told (air_told ls) refl (λ on. air-behind l ls on (AllPairs-head StandsBehind l ls o)) (air-rises ls (AllPairs-tail StandsBehind l ls o))

-- ---- marks

entry_mark : ℕ → Stamped → Mark
entry_mark node e = record { stamp = e.stamp; node = node; is_seen = is_some (store_named e.entry) }

air_mark : Aired → Mark
air_mark a = record { stamp = a.stamp; node = a.node; is_seen = false }

-- what holds of each line's mark holds of each record's
air-marks-told : (P : Mark → Type 0) (l : Line) (t : Told) → t ≡ l.told → P (line_mark l) → All (λ (a : Aired). P (record { stamp = a.stamp; node = a.node; is_seen = false })) (aired_by l.stamp l.node t)
air-marks-told P l (told.OnAir a) is p =
    let Q : Aired → Type 0 = λ (x : Aired). P (record { stamp = x.stamp; node = x.node; is_seen = false }) in
    let m : P (record { stamp = l.stamp; node = l.node; is_seen = false }) = subst (λ (t : Told). P (record { stamp = l.stamp; node = l.node; is_seen = is_shown t })) (sym is) p in
    All-cons Q (record { stamp = l.stamp; node = l.node; air = a }) [] m (All-nil Q)
air-marks-told P l (told.Made e) is p = All-nil (λ (a : Aired). P (record { stamp = a.stamp; node = a.node; is_seen = false }))
air-marks-told P l (told.Installed g version image) is p = All-nil (λ (a : Aired). P (record { stamp = a.stamp; node = a.node; is_seen = false }))
air-marks-told P l (told.Shown s) is p = All-nil (λ (a : Aired). P (record { stamp = a.stamp; node = a.node; is_seen = false }))

pub air-marks : (P : Mark → Type 0) (ls : List Line) → All (λ (l : Line). P (line_mark l)) ls → All (λ (a : Aired). P (record { stamp = a.stamp; node = a.node; is_seen = false })) (air_told ls)
air-marks P [] h = All-nil (λ (a : Aired). P (record { stamp = a.stamp; node = a.node; is_seen = false }))
air-marks P (l ∷ ls) h =
    All-append (λ (a : Aired). P (record { stamp = a.stamp; node = a.node; is_seen = false })) (aired_of l) (air_told ls)
    (air-marks-told P l l.told refl (All-head (λ (x : Line). P (line_mark x)) l ls h)) (air-marks P ls (All-tail (λ (x : Line). P (line_mark x)) l ls h))

right-unseen : (d : Description) (e : Entry) → IsRightEntry d e → is_some (store_named e) ≡ false
right-unseen d e r = ap (λ (o : Option ℕ). is_some o) (right-names d e r).1

abbrev pub OnEntries : (Mark → Type 0) → ℕ → Log → Type 0
OnEntries P node l = All (λ (e : Stamped). P (record { stamp = e.stamp; node = node; is_seen = is_some (store_named e.entry) })) l.entries

-- what holds of the mark of each line of an entry
abbrev pub OnEntryLines : (Mark → Type 0) → List Line → Type 0
OnEntryLines P ls = All (λ (x : Line). is_on_air x.told ≡ false → P (line_mark x)) ls

entry-marks-with : (d : Description) (P : Mark → Type 0) (node : ℕ) (l : Log) (at : Stamp) (t : Told) → IsRightTold d t
    → (is_on_air t ≡ false → P (record { stamp = at; node = node; is_seen = is_shown t })) → OnEntries P node l → OnEntries P node (log_with_line l at t)
entry-marks-with d P node l at (told.OnAir a) r p h = h
entry-marks-with d P node l at (told.Made e) r p h =
    All-push (λ (x : Stamped). P (record { stamp = x.stamp; node = node; is_seen = is_some (store_named x.entry) })) l.entries (stamped at e) h
    (subst (λ (b : Bool). P (record { stamp = at; node = node; is_seen = b })) (sym (right-unseen d e r)) (p refl))
entry-marks-with d P node l at (told.Installed g version image) r p h =
    All-push (λ (x : Stamped). P (record { stamp = x.stamp; node = node; is_seen = is_some (store_named x.entry) })) l.entries (stamped at (entry.Install g version (length l.images))) h (p refl)
entry-marks-with d P node l at (told.Shown s) r p h =
    All-push (λ (x : Stamped). P (record { stamp = x.stamp; node = node; is_seen = is_some (store_named x.entry) })) l.entries (stamped at (entry.Seen (length l.stores))) h (p refl)

entry-marks-after : (d : Description) (P : Mark → Type 0) (node : ℕ) (l : Log) (x : Line) → IsRightTold d x.told → (is_on_air x.told ≡ false → P (line_mark x)) → OnEntries P node l
    → OnEntries P node (log_after node l x)
entry-marks-after d P node l x r p h =
    elim (cases_Bool (x.node == node)) [
      | inl here ↦
          let e : x.node ≡ node = eqb-true x.node node here in
          let q : is_on_air x.told ≡ false → P (record { stamp = x.stamp; node = node; is_seen = is_shown x.told }) =
          λ off. subst (λ (n : ℕ). P (record { stamp = x.stamp; node = n; is_seen = is_shown x.told })) e (p off) in
          subst (OnEntries P node) (sym (cond-true (x.node == node) (log_with_line l x.stamp x.told) l here)) (entry-marks-with d P node l x.stamp x.told r q h)
      | inr other ↦ subst (OnEntries P node) (sym (cond-false (x.node == node) (log_with_line l x.stamp x.told) l other)) h
    ]

pub entry-marks : (d : Description) (P : Mark → Type 0) (node : ℕ) (l : Log) (ls : List Line) → All (IsSound d) ls → OnEntryLines P ls → OnEntries P node l
    → OnEntries P node (fold (log_after node) l ls)
entry-marks d P node l [] s p h = h
entry-marks d P node l (x ∷ ls) s p h =
    entry-marks d P node (log_after node l x) ls (All-tail (IsSound d) x ls s) (All-tail (λ (y : Line). is_on_air y.told ≡ false → P (line_mark y)) x ls p)
    (entry-marks-after d P node l x (All-head (IsSound d) x ls s).right.told (All-head (λ (y : Line). is_on_air y.told ≡ false → P (line_mark y)) x ls p) h)

-- the marks of logs, node by node
marks-push : (node : ℕ) (logs : List Log) (l : Log) → log_marks node (logs ++ l ∷ [])
    ≡ log_marks node logs ++ map (λ (e : Stamped). record { stamp = e.stamp; node = node + length logs; is_seen = is_some (store_named e.entry) }) l.entries
marks-push node [] l =
    let n : node ≡ node + 0 = omega arith in
    append-nil (map (λ (e : Stamped). let m : Mark = record { stamp = e.stamp; node = node; is_seen = is_some (store_named e.entry) } in m) l.entries)
    ∙ ap (λ (k : ℕ). map (λ (e : Stamped). let m : Mark = record { stamp = e.stamp; node = k; is_seen = is_some (store_named e.entry) } in m) l.entries) n
marks-push node (x ∷ logs) l =
    let n : suc node + length logs ≡ node + suc (length logs) = omega arith in
    let front : List Mark = map (λ (e : Stamped). record { stamp = e.stamp; node = node; is_seen = is_some (store_named e.entry) }) x.entries in
    ap (λ (ms : List Mark). front ++ ms)
    (marks-push (suc node) logs l ∙ ap (λ (k : ℕ). log_marks (suc node) logs ++ map (λ (e : Stamped). let m : Mark = record { stamp = e.stamp; node = k; is_seen = is_some (store_named e.entry) } in m) l.entries) n)
    ∙ sym (append_assoc front (log_marks (suc node) logs) (map (λ (e : Stamped). let m : Mark = record { stamp = e.stamp; node = node + suc (length logs); is_seen = is_some (store_named e.entry) } in m) l.entries))

pub map-below : {B : Type 0} (f : ℕ → B) (n : ℕ) → length (map f (below n)) ≡ n
map-below f zero = refl
map-below f (suc n) =
    let e = Rattle.report_text.proofs.PartLemmas.map-push f (below n) n in
    let ih = map-below f n in
    let k = ap (λ (xs : List _). length xs) e ∙ length-append (map f (below n)) (f n ∷ []) in
    omega (arith, k, ih)

logs-marks : (d : Description) (P : Mark → Type 0) (n : ℕ) (ls : List Line) → All (IsSound d) ls → All (λ (x : Line). P (line_mark x)) ls → All P (log_marks 0 (logs_of n ls))
logs-marks d P zero ls s p = All-nil P
logs-marks d P (suc n) ls s p =
    let logs = logs_of n ls in
    let l = log_of n ls in
    let e : logs_of (suc n) ls ≡ logs ++ l ∷ [] = Rattle.report_text.proofs.PartLemmas.map-push (λ node. log_of node ls) (below n) n in
    let at : 0 + length logs ≡ n = (let k = map-below (λ node. log_of node ls) n in omega (arith, k)) in
    let own : List Mark = map (λ (x : Stamped). record { stamp = x.stamp; node = n; is_seen = is_some (store_named x.entry) }) l.entries in
    let is : log_marks 0 (logs_of (suc n) ls) ≡ log_marks 0 logs ++ own =
    ap (log_marks 0) e ∙ marks-push 0 logs l
    ∙ ap (λ (k : ℕ). log_marks 0 logs ++ map (λ (x : Stamped). let m : Mark = record { stamp = x.stamp; node = k; is_seen = is_some (store_named x.entry) } in m) l.entries) at in
    All-same P (log_marks 0 (logs_of (suc n) ls)) (log_marks 0 logs ++ own) is
    (All-append P (log_marks 0 logs) own (logs-marks d P n ls s p)
    (All-map P (λ (x : Stamped). let m : Mark = record { stamp = x.stamp; node = n; is_seen = is_some (store_named x.entry) } in m) l.entries
    (entry-marks d P n no_log ls s (λ k x q off. p k x q) (All-nil (λ (x : Stamped). P (record { stamp = x.stamp; node = n; is_seen = is_some (store_named x.entry) }))))))

all-marks : (d : Description) (P : Mark → Type 0) (ls : List Line) (e : LastLine) → All (IsSound d) ls → All (λ (x : Line). P (line_mark x)) ls → All P (marks (report_of ls e))
all-marks d P ls e s p =
    All-append P (map (λ (a : Aired). let m : Mark = record { stamp = a.stamp; node = a.node; is_seen = false } in m) (air_told ls)) (log_marks 0 (logs_of e.nodes ls))
    (All-map P (λ (a : Aired). let m : Mark = record { stamp = a.stamp; node = a.node; is_seen = false } in m) (air_told ls) (air-marks P ls p)) (logs-marks d P e.nodes ls s p)

last-of_marks : (d : Description) (ls : List Line) (e : LastLine) (event : ℕ) → All (IsSound d) ls → IsLastSeen (line_marks ls) event → IsLastSeen (marks (report_of ls e)) event
last-of_marks d ls e event s h =
    all-marks d (λ (m : Mark). (m.stamp.event ≤ event) × (m.stamp.event ≡ event → IsTrue m.is_seen)) ls e s
    (All-of_map (λ (m : Mark). (m.stamp.event ≤ event) × (m.stamp.event ≡ event → IsTrue m.is_seen)) line_mark ls h)

one-of_marks : (d : Description) (ls : List Line) (e : LastLine) (a b : Mark) → All (IsSound d) ls → AreOfOneNode (line_marks ls) a b → AreOfOneNode (marks (report_of ls e)) a b
one-of_marks d ls e a b s h = λ same. elim (h same) [
  | inl node ↦ inl node
  | inr rest ↦ elim rest [ inl zero_event ↦ inr (inl zero_event) | inr last ↦ inr (inr (last-of_marks d ls e a.stamp.event s last)) ]
]

-- ---- the report

pub tidy_of_lines : (d : Description) (ls : List Line) (e : LastLine) → AreFitting d ls → FitsLast ls e → IsTidy d (report_of ls e)
tidy_of_lines d ls e f last =
    let r = report_of ls e in
    let n : length r.nodes ≡ e.nodes = map-below (λ node. log_of node ls) e.nodes in
    let low = last.low in
    let high = last.high in
    let rising = air-rises ls f.order.ordered in record {
      nodes_low = omega (arith, n, low);
      nodes_high = omega (arith, n, high);
      logs = all-map (IsTidyLog d) (λ node. log_of node ls) (below e.nodes) (λ node. (log-tidy d node ls f).0);
      images = all-map HasFullImages (λ node. log_of node ls) (below e.nodes) (λ node. (log-tidy d node ls f).1);
      air_in_range = subst (λ (k : ℕ). All (λ (a : Aired). (a.node < k) × IsAirInRange k a.air) (air_told ls)) (sym n) (air-range e.nodes ls last.above);
      air_ordered = rising.events;
      air_nodes = rising.nodes;
      in_time = all-marks d (λ (a : Mark). All (IsNoEarlier a) (marks r)) ls e f.sound
          (λ k x q. all-marks d (IsNoEarlier (line_mark (get_or ls k x))) ls e f.sound (f.order.in_time k x q));
      one_node = all-marks d (λ (a : Mark). All (AreOfOneNode (marks r) a) (marks r)) ls e f.sound
          (λ k x q. all-marks d (AreOfOneNode (marks r) (line_mark (get_or ls k x))) ls e f.sound
          (λ j y p. one-of_marks d ls e (line_mark (get_or ls k x)) (line_mark (get_or ls j y)) f.sound (f.order.one_node k x q j y p)));
    }

-- ---- the same report

all-zip : {A : Type 0} (R : A → A → Type 0) (P : A → Type 0) → ((x y : A) → R x y → P y → P x) → (xs ys : List A) → AllZip R xs ys → All P ys → All P xs
all-zip R P imp [] [] z h = h
all-zip R P imp [] (y ∷ ys) z h = absurd z
all-zip R P imp (x ∷ xs) [] z h = absurd z
all-zip R P imp (x ∷ xs) (y ∷ ys) z h = All-cons P x xs (imp x y z.0 (All-head P y ys h)) (all-zip R P imp xs ys z.1 (All-tail P y ys h))

zip-length : {A : Type 0} (R : A → A → Type 0) (xs ys : List A) → AllZip R xs ys → length xs ≡ length ys
zip-length R [] [] z = refl
zip-length R [] (y ∷ ys) z = absurd z
zip-length R (x ∷ xs) [] z = absurd z
zip-length R (x ∷ xs) (y ∷ ys) z = ap suc (zip-length R xs ys z.1)

marks-zip : (node : ℕ) (xs ys : List Log) → AllZip IsSameLog xs ys → log_marks node xs ≡ log_marks node ys
marks-zip node [] [] z = refl
marks-zip node [] (y ∷ ys) z = absurd z
marks-zip node (x ∷ xs) [] z = absurd z
marks-zip node (x ∷ xs) (y ∷ ys) z =
    let here : Stamped → Mark = λ (e : Stamped). record { stamp = e.stamp; node = node; is_seen = is_some (store_named e.entry) } in
    let tail = marks-zip (suc node) xs ys z.1 in
    ap (λ (es : List Stamped). map here es ++ log_marks (suc node) xs) z.0.entries ∙ ap (λ (ms : List Mark). map here y.entries ++ ms) tail

same-log-tidy : (d : Description) (x y : Log) → IsSameLog x y → IsTidyLog d y → IsTidyLog d x
same-log-tidy d x y s t = record {
  in_range = All-same (λ (e : Stamped). IsEntryInRange d e.entry) x.entries y.entries s.entries t.in_range;
  numbered = record {
    images = ap (names_in image_named) s.entries ∙ t.numbered.images ∙ ap (λ (is : List (ArrayVec ℕ)). below (length is)) (sym s.images);
    stores = ap (names_in store_named) s.entries ∙ t.numbered.stores ∙ ap (λ (ss : List Store). below (length ss)) (sym s.stores);
  };
  lengths = All-same (IsStoreOf d) x.stores y.stores s.stores t.lengths;
  ordered = subst (EventsRise entry_event 0) (sym s.entries) t.ordered;
}

same-log-full : (x y : Log) → IsSameLog x y → HasFullImages y → HasFullImages x
same-log-full x y s f = record { full = All-same (λ (i : ArrayVec ℕ). 0 < length i.items) x.images y.images s.images f.full }

pub tidy_same : (d : Description) (a b : Report) → IsSameReport a b → IsTidy d b → IsTidy d a
tidy_same d a b s t =
    let n : length a.nodes ≡ length b.nodes = zip-length IsSameLog a.nodes b.nodes s.nodes in
    let low = t.nodes_low in
    let high = t.nodes_high in
    let ms : marks a ≡ marks b =
    ap (λ (airs : List Aired). map (λ (x : Aired). let m : Mark = record { stamp = x.stamp; node = x.node; is_seen = false } in m) airs ++ log_marks 0 a.nodes) s.air
    ∙ ap (λ (rest : List Mark). map (λ (x : Aired). let m : Mark = record { stamp = x.stamp; node = x.node; is_seen = false } in m) b.air ++ rest) (marks-zip 0 a.nodes b.nodes s.nodes) in record {
      nodes_low = omega (arith, n, low);
      nodes_high = omega (arith, n, high);
      logs = all-zip IsSameLog (IsTidyLog d) (λ x y e. same-log-tidy d x y e) a.nodes b.nodes s.nodes t.logs;
      images = all-zip IsSameLog HasFullImages (λ x y e. same-log-full x y e) a.nodes b.nodes s.nodes t.images;
      air_in_range = subst (λ (k : ℕ). All (λ (x : Aired). (x.node < k) × IsAirInRange k x.air) a.air) (sym n)
          (All-same (λ (x : Aired). (x.node < length b.nodes) × IsAirInRange (length b.nodes) x.air) a.air b.air s.air t.air_in_range);
      air_ordered = subst (EventsRise air_event 0) (sym s.air) t.air_ordered;
      air_nodes = subst AirNodesRise (sym s.air) t.air_nodes;
      in_time = subst (λ (xs : List Mark). All (λ (x : Mark). All (IsNoEarlier x) xs) xs) (sym ms) t.in_time;
      one_node = subst (λ (xs : List Mark). All (λ (x : Mark). All (AreOfOneNode xs x) xs) xs) (sym ms) t.one_node;
    }

pub read_tidy : (d : Description) (bytes : List ℕ) (r : Report) → AreOfReport d bytes r → IsTidy d r
read_tidy d bytes r a = tidy_same d r (report_of a.ls a.e) a.is (tidy_of_lines d a.ls a.e a.lines.fitting a.lines.last)

pub result_tidy : (d : Description) (bytes : List ℕ) (r : Result Report TextFault) → ReadsReport d bytes r → IfOk r (λ x. IsTidy d x)
result_tidy d bytes (Ok r) h = read_tidy d bytes r h
result_tidy d bytes (Err f) h = tt
