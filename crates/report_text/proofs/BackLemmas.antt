-- The text of the report of lines is the text of the lines.
use Rattle.std.proofs.Common.{◌≡◌, ℕ, zero, suc, ◌+◌, ◌<◌, ◌≤◌, ◌==◌, max, Bool, true, false, List, [], ◌∷◌, ◌++◌, length, map, drop, get_or, set, Option, Some, Result, Ok, Err, refl, sym, ap, subst, ◌∙◌, arith, inl, inr, ◌⊎◌, append_assoc, append-nil, length-append}
use Rattle.std.specs.Prelude.{All, AllPairs, fold, flat_map, filter, sum_by, IfOk, is_some, codes, slice_get}
use Rattle.std.specs.List.{AllZip}
use Rattle.std.proofs.lemmas.Bool.{cases_Bool, cond-true, cond-false, eq-eqb, cases_lt, false≢true}
use Rattle.std.proofs.lemmas.List.{set-append_left}
use Rattle.std.proofs.lemmas.List.Sums.{sum_by-cons}
use Rattle.std.proofs.lemmas.List.Elements.{length_all_zip, All-nil, All-cons, All-head, All-tail, All-push, All-same}
use Rattle.std.proofs.Math.Seq.{drop-append_seam}
use Rattle.arrayvec.specs.ArrayVec.{ArrayVec}
use Rattle.vm_shape.specs.declared.description.Description.{Description}
use Rattle.mate_num.specs.declared.call.Stamp.{Stamp}
use Rattle.mate_num.specs.declared.store.Store.{Store}
use Rattle.mate_journal.specs.Log.{Log, IsSameLog, GoesOn}
use Rattle.mate_journal.specs.Tidy.{below, store_named}
use Rattle.mate_journal.specs.declared.air.Aired.{Aired}
use Rattle.mate_journal.specs.declared.entry.Entry.{Entry}
use Rattle.mate_journal.specs.declared.entry.Entry.TheVariants as entry
use Rattle.mate_journal.specs.declared.entry.Stamped.{Stamped}
use Rattle.mate_journal.specs.declared.report.Report.{Report}
use Rattle.report_writer.specs.Words.{entry_words, stamp_words, seen_words, image_text, image_word, word, number, handler_name}
use Rattle.report_writer.specs.Text.{air_line, entry_line, entry_lines, event_lines, events_end, records, end_line, lines, text}
use Rattle.report_writer.specs.Tidy.{Mark}
use Rattle.report_writer.specs.Pieces.{IsNamed, IsBefore, AddsPiece}
use Rattle.report_writer.proofs.PieceLemmas.{lines-piece}
use Rattle.report_writer.proofs.EventLemmas.{All-front}
use Rattle.report_line_reader.specs.declared.line.Line.{Line}
use Rattle.report_line_reader.specs.declared.line.Told.{Told}
use Rattle.report_line_reader.specs.declared.line.Told.TheVariants as told
use Rattle.report_line_reader.specs.Told.{line_text, told_words, IsRightTold, IsRightEntry, log_with}
use Rattle.report_text.specs.LastLines.{last_text}
use Rattle.report_text.specs.Fits.{is_on_air, StandsBehind, IsSound, IsLineBelow, FitsLast, AreFitting}
use Rattle.report_text.specs.Parts.{stamped, log_with_line, log_after, no_log, log_of, aired_by, aired_of, air_told, logs_of, report_of, IsSameReport}
use Rattle.report_text.specs.Reads.{text_of_lines, AreOfReport, ReadsReport}
use Rattle.report_text.specs.declared.last_line.LastLine.{LastLine}
use Rattle.report_text.specs.declared.fault.TextFault.{TextFault}
use Rattle.report_text.proofs.OrderLemmas.{get-last, get-before, pairs-last, pairs-front}
use Rattle.report_text.proofs.PartLemmas.{log_of-push, air_told-push, map-push}
use Rattle.report_text.proofs.TextLemmas.{text-push}
use Rattle.report_text.proofs.TidyLemmas.{all-map, air-marks, map-below, entry-marks, OnEntryLines}

-- ---- the text of the same report

words-same : (d : Description) (x y : Log) (e : Entry) → IsSameLog x y → entry_words d x e ≡ entry_words d y e
words-same d x y (entry.Install h version image) s =
    ap (λ (is : List (ArrayVec ℕ)). codes " install" ++ word (handler_name d h) ++ number version ++ word (image_word (image_text (slice_get is image)))) s.images
words-same d x y (entry.Seen store) s = ap (λ (ss : List Store). codes " seen" ++ seen_words d (slice_get ss store)) s.stores
words-same d x y _ s = refl

lines-same : (d : Description) (node : ℕ) (x y : Log) (es : List Stamped) → IsSameLog x y → flat_map (entry_line d x node) es ≡ flat_map (entry_line d y node) es
lines-same d node x y [] s = refl
lines-same d node x y (e ∷ es) s =
    ap (λ (w : List ℕ). (stamp_words e.stamp node ++ w ++ codes "\n") ++ flat_map (entry_line d x node) es) (words-same d x y e.entry s)
    ∙ ap (λ (w : List ℕ). entry_line d y node e ++ w) (lines-same d node x y es s)

pub node_lines-same : (d : Description) (event node : ℕ) (xs ys : List Log) → AllZip IsSameLog xs ys → entry_lines d event node xs ≡ entry_lines d event node ys
node_lines-same d event node [] [] z = refl
node_lines-same d event node [] (y ∷ ys) z = absurd z
node_lines-same d event node (x ∷ xs) [] z = absurd z
node_lines-same d event node (x ∷ xs) (y ∷ ys) z =
    let own : List Stamped → List Stamped = λ es. filter (λ e. e.stamp.event == event) es in
    ap (λ (es : List Stamped). flat_map (entry_line d x node) (own es) ++ entry_lines d event (suc node) xs) z.0.entries
    ∙ ap (λ (w : List ℕ). w ++ entry_lines d event (suc node) xs) (lines-same d node x y (own y.entries) z.0)
    ∙ ap (λ (w : List ℕ). flat_map (entry_line d y node) (own y.entries) ++ w) (node_lines-same d event (suc node) xs ys z.1)

events-same : (xs ys : List Log) → AllZip IsSameLog xs ys → flat_map (λ (l : Log). map (λ (e : Stamped). e.stamp.event) l.entries) xs ≡ flat_map (λ (l : Log). map (λ (e : Stamped). e.stamp.event) l.entries) ys
events-same [] [] z = refl
events-same [] (y ∷ ys) z = absurd z
events-same (x ∷ xs) [] z = absurd z
events-same (x ∷ xs) (y ∷ ys) z =
    ap (λ (es : List Stamped). map (λ (e : Stamped). e.stamp.event) es ++ flat_map (λ (l : Log). map (λ (e : Stamped). e.stamp.event) l.entries) xs) z.0.entries
    ∙ ap (λ (w : List ℕ). map (λ (e : Stamped). e.stamp.event) y.entries ++ w) (events-same xs ys z.1)

pub counts-same : (n : ℕ) (xs ys : List Log) → AllZip IsSameLog xs ys → fold (λ a l. a + length l.entries) n xs ≡ fold (λ a l. a + length l.entries) n ys
counts-same n [] [] z = refl
counts-same n [] (y ∷ ys) z = absurd z
counts-same n (x ∷ xs) [] z = absurd z
counts-same n (x ∷ xs) (y ∷ ys) z =
    ap (λ (es : List Stamped). fold (λ a l. a + length l.entries) (n + length es) xs) z.0.entries ∙ counts-same (n + length y.entries) xs ys z.1

pub agree : (f g : ℕ → List ℕ) (xs : List ℕ) → ((k : ℕ) → f k ≡ g k) → flat_map f xs ≡ flat_map g xs
agree f g [] h = refl
agree f g (x ∷ xs) h = ap (λ (w : List ℕ). w ++ flat_map f xs) (h x) ∙ ap (λ (w : List ℕ). g x ++ w) (agree f g xs h)

module _ (d : Description) (a b : Report) (s : IsSameReport a b) where
  ends_same : events_end a ≡ events_end b
  ends_same =
      let air_events : List Aired → ℕ = λ airs. fold max 0 (map (λ x. x.stamp.event) airs) in
      let log_events : List Log → ℕ = λ logs. fold max 0 (flat_map (λ l. map (λ e. e.stamp.event) l.entries) logs) in
      ap (λ (airs : List Aired). suc (max (air_events airs) (log_events a.nodes))) s.air
      ∙ ap (λ (es : List ℕ). suc (max (air_events b.air) (fold max 0 es))) (events-same a.nodes b.nodes s.nodes)

  event_same : (k : ℕ) → event_lines d a k ≡ event_lines d b k
  event_same k =
      ap (λ (airs : List Aired). flat_map air_line (filter (λ x. x.stamp.event == k) airs) ++ entry_lines d k 0 a.nodes) s.air
      ∙ ap (λ (w : List ℕ). flat_map air_line (filter (λ x. x.stamp.event == k) b.air) ++ w) (node_lines-same d k 0 a.nodes b.nodes s.nodes)

  pub all_lines_same : lines d a ≡ lines d b
  all_lines_same = ap (λ (n : ℕ). flat_map (event_lines d a) (below n)) ends_same ∙ agree (event_lines d a) (event_lines d b) (below (events_end b)) event_same

  pub text_same : text d a ≡ text d b
  text_same =
      let count : records a ≡ records b =
      ap (λ (airs : List Aired). length airs + sum_by (λ l. length l.entries) a.nodes) s.air ∙ ap (λ (n : ℕ). length b.air + n) (counts-same 0 a.nodes b.nodes s.nodes) in
      let last : end_line (records a) a.events (length a.nodes) a.whole ≡ end_line (records b) b.events (length b.nodes) b.whole = cc (count, s.events, length_all_zip IsSameLog a.nodes b.nodes s.nodes, s.whole) in
      ap (λ (w : List ℕ). w ++ end_line (records a) a.events (length a.nodes) a.whole) all_lines_same ∙ ap (λ (w : List ℕ). lines d b ++ w) last

-- ---- one node's log changes

get-below : {B : Type 0} (f : ℕ → B) (n k : ℕ) (d : B) → k < n → get_or (map f (below n)) k d ≡ f k
get-below f zero k d h = absurd (omega (arith, h))
get-below f (suc n) k d h =
    let push = map-push f (below n) n in
    let len = map-below f n in
    ap (λ (xs : List _). get_or xs k d) push
    ∙ elim (cases_lt k n) [
      | inl lt ↦ get-before (map f (below n)) (f n ∷ []) k d (omega (arith, len, lt)) ∙ get-below f n k d lt
      | inr ge ↦
          let at : k ≡ n = omega (arith, ge, h) in
          ap (λ (j : ℕ). get_or (map f (below n) ++ f n ∷ []) j d) (at ∙ sym len) ∙ get-last (map f (below n)) (f n) d ∙ ap f (sym at)
    ]

map-agree : {B : Type 0} (f g : ℕ → B) (n : ℕ) → ((j : ℕ) → j < n → g j ≡ f j) → map g (below n) ≡ map f (below n)
map-agree f g zero h = refl
map-agree f g (suc n) h =
    map-push g (below n) n ∙ ap (λ (xs : List _). xs ++ g n ∷ []) (map-agree f g n (λ j q. h j (omega (arith, q))))
    ∙ ap (λ (y : _). map f (below n) ++ y ∷ []) (h n (omega arith)) ∙ sym (map-push f (below n) n)

set-last : {B : Type 0} (xs : List B) (y x : B) → set (xs ++ y ∷ []) (length xs) x ≡ xs ++ x ∷ []
set-last [] y x = refl
set-last (z ∷ xs) y x = ap (λ (ys : List _). z ∷ ys) (set-last xs y x)

map-set_at : {B : Type 0} (f g : ℕ → B) (n k : ℕ) (x : B) → k < n → g k ≡ x → ((j : ℕ) → (j ≡ k → ⊥) → g j ≡ f j) → map g (below n) ≡ set (map f (below n)) k x
map-set_at f g zero k x h e others = absurd (omega (arith, h))
map-set_at f g (suc n) k x h e others =
    let len = map-below f n in
    elim (cases_lt k n) [
      | inl lt ↦
          map-push g (below n) n ∙ ap (λ (xs : List _). xs ++ g n ∷ []) (map-set_at f g n k x lt e others)
          ∙ ap (λ (y : _). set (map f (below n)) k x ++ y ∷ []) (others n (λ q. absurd (omega (arith, lt, q))))
          ∙ sym (set-append_left (map f (below n)) (f n ∷ []) k x (omega (arith, len, lt)))
          ∙ ap (λ (xs : List _). set xs k x) (sym (map-push f (below n) n))
      | inr ge ↦
          let at : k ≡ n = omega (arith, ge, h) in
          map-push g (below n) n ∙ ap (λ (y : _). map g (below n) ++ y ∷ []) (ap g (sym at) ∙ e)
          ∙ ap (λ (xs : List _). xs ++ x ∷ []) (map-agree f g n (λ j q. others j (λ r. absurd (omega (arith, q, r, at)))))
          ∙ sym (set-last (map f (below n)) (f n) x)
          ∙ ap (λ (j : ℕ). set (map f (below n) ++ f n ∷ []) j x) (len ∙ sym at)
          ∙ ap (λ (xs : List _). set xs k x) (sym (map-push f (below n) n))
    ]

-- ---- one more line is one more piece

goes_on : (a : Log) (at : Stamp) (t : Told) → GoesOn a (log_with_line a at t)
goes_on a at (told.OnAir x) = record { entries = []; images = []; stores = []; entries_are = sym (append-nil a.entries); images_are = sym (append-nil a.images); stores_are = sym (append-nil a.stores) }
goes_on a at (told.Made e) = record { entries = stamped at e ∷ []; images = []; stores = []; entries_are = refl; images_are = sym (append-nil a.images); stores_are = sym (append-nil a.stores) }
goes_on a at (told.Installed h version image) =
    record { entries = stamped at (entry.Install h version (length a.images)) ∷ []; images = image ∷ []; stores = []; entries_are = refl; images_are = refl; stores_are = sym (append-nil a.stores) }
goes_on a at (told.Shown s) = record { entries = stamped at (entry.Seen (length a.stores)) ∷ []; images = []; stores = s ∷ []; entries_are = refl; images_are = sym (append-nil a.images); stores_are = refl }

-- what is new in the log
new-entries : Log → Stamp → Told → List Stamped
new-entries a at t = (goes_on a at t).entries

drop-new : (a : Log) (at : Stamp) (t : Told) → drop (length a.entries) (log_with_line a at t).entries ≡ (goes_on a at t).entries
drop-new a at t = let g = goes_on a at t in ap (drop (length a.entries)) g.entries_are ∙ drop-append_seam a.entries g.entries

new-event : (a : Log) (at : Stamp) (t : Told) → All (λ (e : Stamped). e.stamp.event ≡ at.event) (goes_on a at t).entries
unfolding goes_on
new-event a at (told.OnAir x) = All-nil (λ (e : Stamped). e.stamp.event ≡ at.event)
new-event a at (told.Made e) = All-cons (λ (x : Stamped). x.stamp.event ≡ at.event) (stamped at e) [] refl (All-nil (λ (x : Stamped). x.stamp.event ≡ at.event))
new-event a at (told.Installed h version image) =
    All-cons (λ (x : Stamped). x.stamp.event ≡ at.event) (stamped at (entry.Install h version (length a.images))) [] refl (All-nil (λ (x : Stamped). x.stamp.event ≡ at.event))
new-event a at (told.Shown s) =
    All-cons (λ (x : Stamped). x.stamp.event ≡ at.event) (stamped at (entry.Seen (length a.stores))) [] refl (All-nil (λ (x : Stamped). x.stamp.event ≡ at.event))

aired-event : (at : Stamp) (node : ℕ) (t : Told) → All (λ (a : Aired). a.stamp.event ≡ at.event) (aired_by at node t)
aired-event at node (told.OnAir x) =
    All-cons (λ (a : Aired). a.stamp.event ≡ at.event) (record { stamp = at; node = node; air = x }) [] refl (All-nil (λ (a : Aired). a.stamp.event ≡ at.event))
aired-event at node _ = All-nil (λ (a : Aired). a.stamp.event ≡ at.event)

named-more : (a b : Log) (e : Entry) → length a.images ≤ length b.images → length a.stores ≤ length b.stores → IsNamed a e → IsNamed b e
named-more a b (entry.Install h version image) i s n = omega (arith, i, n)
named-more a b (entry.Seen store) i s n = omega (arith, s, n)
named-more a b _ i s x = tt

right-named : (d : Description) (l : Log) (e : Entry) → IsRightEntry d e → IsNamed l e
right-named d l (entry.Install h version image) r = absurd r
right-named d l (entry.Seen store) r = absurd r
right-named d l _ r = tt

AllNamed : Log → Type 0
AllNamed l = All (λ (e : Stamped). IsNamed l e.entry) l.entries

all-more : (a b : Log) (es : List Stamped) → length a.images ≤ length b.images → length a.stores ≤ length b.stores → All (λ (e : Stamped). IsNamed a e.entry) es → All (λ (e : Stamped). IsNamed b e.entry) es
all-more a b es i s all = λ k x q. named-more a b (get_or es k x).entry i s (all k x q)

named-with : (d : Description) (l : Log) (at : Stamp) (t : Told) → IsRightTold d t → All (λ (e : Stamped). IsNamed l e.entry) l.entries
    → All (λ (e : Stamped). IsNamed (log_with_line l at t) e.entry) (log_with_line l at t).entries
named-with d l at (told.OnAir a) r h = h
named-with d l at (told.Made e) r h =
    let m = log_with_line l at (told.Made e) in
    All-push (λ (x : Stamped). IsNamed m x.entry) l.entries (stamped at e) (all-more l m l.entries (omega arith) (omega arith) h) (right-named d m e r)
named-with d l at (told.Installed g version image) r h =
    let m = log_with_line l at (told.Installed g version image) in
    let n = length-append l.images (image ∷ []) in
    All-push (λ (x : Stamped). IsNamed m x.entry) l.entries (stamped at (entry.Install g version (length l.images))) (all-more l m l.entries (omega (arith, n)) (omega arith) h) (omega (arith, n))
named-with d l at (told.Shown s) r h =
    let m = log_with_line l at (told.Shown s) in
    let n = length-append l.stores (s ∷ []) in
    All-push (λ (x : Stamped). IsNamed m x.entry) l.entries (stamped at (entry.Seen (length l.stores))) (all-more l m l.entries (omega arith) (omega (arith, n)) h) (omega (arith, n))

named-all : (d : Description) (node : ℕ) (l : Log) (ls : List Line) → All (IsSound d) ls → All (λ (e : Stamped). IsNamed l e.entry) l.entries
    → All (λ (e : Stamped). IsNamed (fold (log_after node) l ls) e.entry) (fold (log_after node) l ls).entries
named-all d node l [] s h = h
named-all d node l (x ∷ ls) s h =
    let right = (All-head (IsSound d) x ls s).right.told in
    let Named : Log → Type 0 = λ (m : Log). All (λ (e : Stamped). IsNamed m e.entry) m.entries in
    let next : Named (log_after node l x) = elim (cases_Bool (x.node == node)) [
      | inl here ↦ subst Named (sym (cond-true (x.node == node) (log_with_line l x.stamp x.told) l here)) (named-with d l x.stamp x.told right h)
      | inr other ↦ subst Named (sym (cond-false (x.node == node) (log_with_line l x.stamp x.told) l other)) h
    ] in
    named-all d node (log_after node l x) ls (All-tail (IsSound d) x ls s) next

-- ---- the piece of a line

get-new : {A : Type 0} (xs : List A) (y : A) → slice_get (xs ++ y ∷ []) (length xs) ≡ Some y
get-new [] y = refl
get-new (x ∷ xs) y = get-new xs y

made-words : (d : Description) (l : Log) (e : Entry) → IsRightEntry d e → entry_words d l e ≡ entry_words d (log_with [] []) e
made-words d l (entry.Install h version image) r = absurd r
made-words d l (entry.Seen store) r = absurd r
made-words d l _ r = refl

piece-words : (d : Description) (a : Log) (at : Stamp) (node : ℕ) (t : Told) → IsRightTold d t
    → flat_map air_line (aired_by at node t) ++ flat_map (entry_line d (log_with_line a at t) node) (goes_on a at t).entries ≡ (stamp_words at node ++ told_words d t) ++ codes "\n"
unfolding goes_on
piece-words d a at node (told.OnAir x) r = append-nil (air_line (record { stamp = at; node = node; air = x }) ++ []) ∙ append-nil (air_line (record { stamp = at; node = node; air = x }))
piece-words d a at node (told.Made e) r =
    append-nil (entry_line d (log_with_line a at (told.Made e)) node (stamped at e))
    ∙ ap (λ (w : List ℕ). stamp_words at node ++ w ++ codes "\n") (made-words d (log_with_line a at (told.Made e)) e r)
piece-words d a at node (told.Installed h version image) r =
    let e = stamped at (entry.Install h version (length a.images)) in
    append-nil (entry_line d (log_with_line a at (told.Installed h version image)) node e)
    ∙ ap (λ (o : Option (ArrayVec ℕ)). stamp_words at node ++ (codes " install" ++ word (handler_name d h) ++ number version ++ word (image_word (image_text o))) ++ codes "\n") (get-new a.images image)
piece-words d a at node (told.Shown s) r =
    let e = stamped at (entry.Seen (length a.stores)) in
    append-nil (entry_line d (log_with_line a at (told.Shown s)) node e)
    ∙ ap (λ (o : Option Store). stamp_words at node ++ (codes " seen" ++ seen_words d o) ++ codes "\n") (get-new a.stores s)

-- ---- a report and one more line

-- the entries of nodes stand before a line of an entry on an earlier node, and before a line of the air
entries-before : (d : Description) (ls : List Line) (l : Line) (k : ℕ) → All (IsSound d) ls → All (λ (m : Line). StandsBehind m l) ls → (is_on_air l.told ≡ false → l.node < k) → IsBefore l.stamp.event (log_of k ls)
entries-before d ls l k s behind above =
    let P : Mark → Type 0 = λ (m : Mark). m.node ≡ k → m.stamp.event < l.stamp.event in
    let each : OnEntryLines P ls = λ i x q off at.
    (let b = behind i x q in
    let le = b.event in
    elim (cases_lt (get_or ls i x).stamp.event l.stamp.event) [
      | inl lt ↦ lt
      | inr ge ↦
          let same : (get_or ls i x).stamp.event ≡ l.stamp.event = omega (arith, le, ge) in
          elim (cases_Bool (is_on_air l.told)) [
            | inl air ↦ absurd (false≢true (sym off ∙ b.air_first same air))
            | inr entry ↦
                let low = b.nodes same (off ∙ sym entry) in
                let high = above entry in
                absurd (omega (arith, low, high, at))
          ]
    ]) in
    let marks = entry-marks d P k no_log ls s each (All-nil (λ (e : Stamped). P (record { stamp = e.stamp; node = k; is_seen = is_some (store_named e.entry) }))) in
    λ i x q. marks i x q refl

entries-upto : (d : Description) (ls : List Line) (l : Line) (k : ℕ) → All (IsSound d) ls → All (λ (m : Line). StandsBehind m l) ls → All (λ (e : Stamped). e.stamp.event ≤ l.stamp.event) (log_of k ls).entries
entries-upto d ls l k s behind =
    let P : Mark → Type 0 = λ (m : Mark). m.stamp.event ≤ l.stamp.event in
    entry-marks d P k no_log ls s (λ i x q off. (behind i x q).event) (All-nil (λ (e : Stamped). P (record { stamp = e.stamp; node = k; is_seen = is_some (store_named e.entry) })))

air_first-told : (t : Told) (at : Stamp) (node : ℕ) (logs : List Log) → (is_on_air t ≡ true → All (IsBefore at.event) logs) → (aired_by at node t ≡ []) ⊎ All (IsBefore at.event) logs
air_first-told (told.OnAir a) at node logs h = inr (h refl)
air_first-told _ at node logs h = inl refl

adds-line : (d : Description) (ls : List Line) (l : Line) (e : LastLine) → All (IsSound d) ls → All (λ (m : Line). StandsBehind m l) ls → l.node < e.nodes
    → AddsPiece (report_of ls e) (report_of (ls ++ l ∷ []) e) (aired_of l) (log_with_line (log_of l.node ls) l.stamp l.told) (length (log_of l.node ls).entries) l.node
adds-line d ls l e s behind below_nodes =
    let f : ℕ → Log = λ node. log_of node ls in
    let g : ℕ → Log = λ node. log_of node (ls ++ l ∷ []) in
    let before = log_of l.node ls in
    let len = map-below f e.nodes in record {
      event = l.stamp.event;
      before = before;
      within = omega (arith, len, below_nodes);
      is = get-below f e.nodes l.node before below_nodes;
      goes_on = goes_on before l.stamp l.told;
      position = refl;
      named = named-all d l.node no_log ls s (All-nil (λ (x : Stamped). IsNamed no_log x.entry));
      nodes = map-set_at f g e.nodes l.node (log_with_line before l.stamp l.told) below_nodes
          (log_of-push l.node ls l ∙ cond-true (l.node == l.node) (log_with_line before l.stamp l.told) before (eq-eqb l.node l.node refl))
          (λ j ne. log_of-push j ls l ∙ cond-false (l.node == j) (log_with_line (log_of j ls) l.stamp l.told) (log_of j ls) (Rattle.std.proofs.lemmas.Bool.ne_eqb l.node j (λ q. ne (sym q))));
      air = air_told-push ls l;
      of_event = All-same (λ (x : Stamped). x.stamp.event ≡ l.stamp.event) (drop (length before.entries) (log_with_line before l.stamp l.told).entries) (goes_on before l.stamp l.told).entries
          (drop-new before l.stamp l.told) (new-event before l.stamp l.told);
      air_of_event = aired-event l.stamp l.node l.told;
      up_to = all-map (λ (x : Log). All (λ (y : Stamped). y.stamp.event ≤ l.stamp.event) x.entries) f (below e.nodes) (λ k. entries-upto d ls l k s behind);
      air_up_to = air-marks (λ (m : Mark). m.stamp.event ≤ l.stamp.event) ls (λ i x q. (behind i x q).event);
      later_nodes = λ k x lt q.
          let in_nodes : k < e.nodes = omega (arith, len, q) in
          subst (IsBefore l.stamp.event) (sym (get-below f e.nodes k x in_nodes)) (entries-before d ls l k s behind (λ off. lt));
      air_first = air_first-told l.told l.stamp l.node (logs_of e.nodes ls)
          (λ on. all-map (IsBefore l.stamp.event) f (below e.nodes) (λ k. entries-before d ls l k s behind (λ off. absurd (false≢true (sym off ∙ on)))));
    }

line-added : (d : Description) (ls : List Line) (l : Line) (e : LastLine) → All (IsSound d) ls → All (λ (m : Line). StandsBehind m l) ls → IsSound d l → l.node < e.nodes
    → lines d (report_of (ls ++ l ∷ []) e) ≡ lines d (report_of ls e) ++ line_text d l
line-added d ls l e s behind sound below_nodes =
    let before = log_of l.node ls in
    let log = log_with_line before l.stamp l.told in
    lines-piece d (report_of ls e) (report_of (ls ++ l ∷ []) e) (aired_of l) log (length before.entries) l.node (adds-line d ls l e s behind below_nodes)
    ∙ ap (λ (es : List Stamped). lines d (report_of ls e) ++ (flat_map air_line (aired_of l) ++ flat_map (entry_line d log l.node) es)) (drop-new before l.stamp l.told)
    ∙ ap (λ (w : List ℕ). lines d (report_of ls e) ++ w) (piece-words d before l.stamp l.node l.told sound.right.told)

-- ---- how many records

count-told : (a : Log) (at : Stamp) (node : ℕ) (t : Told) → length (aired_by at node t) + length (log_with_line a at t).entries ≡ suc (length a.entries)
count-told a at node (told.OnAir x) = omega arith
count-told a at node (told.Made e) = let n = length-append a.entries (stamped at e ∷ []) in omega (arith, n)
count-told a at node (told.Installed h version image) = let n = length-append a.entries (stamped at (entry.Install h version (length a.images)) ∷ []) in omega (arith, n)
count-told a at node (told.Shown s) = let n = length-append a.entries (stamped at (entry.Seen (length a.stores)) ∷ []) in omega (arith, n)

sum-set : (f : Log → ℕ) (xs : List Log) (k : ℕ) (x y : Log) → k < length xs → get_or xs k y ≡ y → sum_by f (set xs k x) + f y ≡ sum_by f xs + f x
sum-set f [] k x y h is = absurd (omega (arith, h))
sum-set f (z ∷ xs) zero x y h is =
    let a = sum_by-cons f x xs in
    let b = sum_by-cons f z xs in
    let c = ap f is in
    omega (arith, a, b, c)
sum-set f (z ∷ xs) (suc k) x y h is =
    let a = sum_by-cons f z (set xs k x) in
    let b = sum_by-cons f z xs in
    let ih = sum-set f xs k x y (omega (arith, h)) is in
    omega (arith, a, b, ih)

count-added : (d : Description) (ls : List Line) (l : Line) (e : LastLine) (p : AddsPiece (report_of ls e) (report_of (ls ++ l ∷ []) e) (aired_of l) (log_with_line (log_of l.node ls) l.stamp l.told) (length (log_of l.node ls).entries) l.node)
    → l.node < e.nodes → records (report_of (ls ++ l ∷ []) e) ≡ suc (records (report_of ls e))
count-added d ls l e p below_nodes =
    let f : Log → ℕ = λ (x : Log). length x.entries in
    let before = log_of l.node ls in
    let log = log_with_line before l.stamp l.told in
    let logs = logs_of e.nodes ls in
    let len = map-below (λ node. log_of node ls) e.nodes in
    let air = ap (λ (xs : List Aired). length xs) p.air ∙ length-append (air_told ls) (aired_of l) in
    let sum = ap (sum_by f) p.nodes in
    let more = sum-set f logs l.node log before (omega (arith, len, below_nodes)) (get-below (λ node. log_of node ls) e.nodes l.node before below_nodes) in
    let one = count-told before l.stamp l.node l.told in
    omega (arith, air, sum, more, one)

no_entries : (n : ℕ) → sum_by (λ (x : Log). length x.entries) (logs_of n []) ≡ 0
no_entries zero = refl
no_entries (suc n) =
    ap (sum_by (λ (x : Log). length x.entries)) (map-push (λ node. log_of node []) (below n) n)
    ∙ Rattle.std.proofs.lemmas.List.Sums.sum_by_push (λ (x : Log). length x.entries) (logs_of n []) no_log
    ∙ (let ih = no_entries n in omega (arith, ih))

-- ---- all lines

pub record Written (d : Description) (ls : List Line) (e : LastLine) : Type 0 where
  pub lines_are : lines d (report_of ls e) ≡ text_of_lines d ls
  pub count : records (report_of ls e) ≡ length ls

logs-none : (d : Description) (n k node : ℕ) → entry_lines d k node (logs_of n []) ≡ []
logs-none d zero k node = refl
logs-none d (suc n) k node =
    ap (entry_lines d k node) (map-push (λ j. log_of j []) (below n) n) ∙ none-push d k node (logs_of n []) (logs-none d n k node) where
      none-push : (d : Description) (k node : ℕ) (xs : List Log) → entry_lines d k node xs ≡ [] → entry_lines d k node (xs ++ no_log ∷ []) ≡ []
      none-push d k node [] h = refl
      none-push d k node (x ∷ xs) h =
          let own : List ℕ = flat_map (entry_line d x node) (filter (λ (e : Stamped). e.stamp.event == k) x.entries) in
          let both : (own ≡ []) × (entry_lines d k (suc node) xs ≡ []) = split-none own (entry_lines d k (suc node) xs) h in
          ap (λ (w : List ℕ). w ++ entry_lines d k (suc node) (xs ++ no_log ∷ [])) both.0 ∙ none-push d k (suc node) xs both.1 where
            split-none : (a b : List ℕ) → a ++ b ≡ [] → (a ≡ []) × (b ≡ [])
            split-none [] b h = (refl, h)
            split-none (c ∷ a) b h = absurd cc

pub none-written : (d : Description) (e : LastLine) → Written d [] e
none-written d e = record {
  lines_are = agree (event_lines d (report_of [] e)) (λ k. []) (below (events_end (report_of [] e))) (λ k. logs-none d e.nodes k 0) ∙ empty (below (events_end (report_of [] e)));
  count = ap (λ (n : ℕ). 0 + n) (no_entries e.nodes);
} where
  empty : (xs : List ℕ) → flat_map (λ (k : ℕ). let none : List ℕ = [] in none) xs ≡ []
  empty [] = refl
  empty (x ∷ xs) = empty xs

pub written-from : (d : Description) (e : LastLine) (before rest : List Line) → Written d before e → AllPairs StandsBehind (before ++ rest) → All (IsSound d) (before ++ rest) → All (IsLineBelow e.nodes) (before ++ rest)
    → Written d (before ++ rest) e
written-from d e before [] w o s b = subst (λ (ls : List Line). Written d ls e) (sym (append-nil before)) w
written-from d e before (l ∷ rest) w o s b =
    let is : before ++ l ∷ rest ≡ (before ++ l ∷ []) ++ rest = sym (append_assoc before (l ∷ []) rest) in
    let o2 = subst (λ (ls : List Line). AllPairs StandsBehind ls) is o in
    let s2 = subst (λ (ls : List Line). All (IsSound d) ls) is s in
    let b2 = subst (λ (ls : List Line). All (IsLineBelow e.nodes) ls) is b in
    let so = All-front (IsSound d) (before ++ l ∷ []) rest s2 in
    let behind = pairs-last StandsBehind before l (pairs-front StandsBehind (before ++ l ∷ []) rest o2) in
    let n = length-append before (l ∷ []) in
    let here : length before < length (before ++ l ∷ []) = omega (arith, n) in
    let sound : IsSound d l = subst (IsSound d) (get-last before l l) (so (length before) l here) in
    let low : IsLineBelow e.nodes l = subst (IsLineBelow e.nodes) (get-last before l l) (All-front (IsLineBelow e.nodes) (before ++ l ∷ []) rest b2 (length before) l here) in
    let sb = All-front (IsSound d) before (l ∷ []) so in
    let c = w.count in
    let next : Written d (before ++ l ∷ []) e = record {
      lines_are = line-added d before l e sb behind sound low.node ∙ ap (λ (x : List ℕ). x ++ line_text d l) w.lines_are ∙ sym (text-push d before l);
      count = (let m = count-added d before l e (adds-line d before l e sb behind low.node) low.node in omega (arith, m, c, n));
    } in
    subst (λ (ls : List Line). Written d ls e) (sym is) (written-from d e (before ++ l ∷ []) rest next o2 s2 b2)

pub text_of_report : (d : Description) (ls : List Line) (e : LastLine) → AreFitting d ls → FitsLast ls e → text d (report_of ls e) ≡ text_of_lines d ls ++ last_text e
text_of_report d ls e f last =
    let w = written-from d e [] ls (none-written d e) f.order.ordered f.sound last.above in
    let nodes : length (logs_of e.nodes ls) ≡ e.nodes = map-below (λ node. log_of node ls) e.nodes in
    let count : records (report_of ls e) ≡ e.records = w.count ∙ sym last.records in
    let end_is : end_line (records (report_of ls e)) e.events (length (logs_of e.nodes ls)) e.whole ≡ last_text e = cc (count, nodes) in
    ap (λ (x : List ℕ). x ++ end_line (records (report_of ls e)) e.events (length (logs_of e.nodes ls)) e.whole) w.lines_are ∙ ap (λ (x : List ℕ). text_of_lines d ls ++ x) end_is

pub read_text : (d : Description) (bytes : List ℕ) (r : Report) → AreOfReport d bytes r → text d r ≡ bytes
read_text d bytes r a = text_same d r (report_of a.ls a.e) a.is ∙ text_of_report d a.ls a.e a.lines.fitting a.lines.last ∙ sym a.lines.text

pub result_text : (d : Description) (bytes : List ℕ) (r : Result Report TextFault) → ReadsReport d bytes r → IfOk r (λ x. text d x ≡ bytes)
result_text d bytes (Ok r) h = read_text d bytes r h
result_text d bytes (Err f) h = tt
